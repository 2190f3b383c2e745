-- What is wrong with modules of units whichever these are: all faults but that of too many words, which comes last.
use Rattle.std.specs.Prelude.{◌≡◌, Bool, true, false, List, Some}
use Rattle.spl_built.specs.hp_program.declared.program.Program.{Program}
use Rattle.spl_built.specs.spl_meaning.Tables.{Source}
use Rattle.spl_built.specs.spl_branch.declared.modules.Module.{Module}
use Rattle.spl_built.specs.spl_module_code.Modules.{AreModules}
use Rattle.spl_built.specs.mpe_segmenter.declared.faults.PrepFault.{PrepFault}
use Rattle.spl_built.specs.mpe_segmenter.declared.faults.PrepFault.TheVariants as f
use Rattle.spl_built.specs.mpe_segmenter.Faults.{Fault, SegmentFull, first_fault}
use Rattle.spl_built.specs.Built.{IsBuilt, IsUnlinked}

-- a fault for which words are counted
abbrev pub counts_words : Fault → Bool
counts_words (SegmentFull name words) = true
counts_words other = false

-- any other that is the first of some modules of units is the first of all others
abbrev pub FirstFaultsAgree : Type 0
FirstFaultsAgree = (us : List Source) (ms ns : List Module) (x : Fault) → AreModules us ms → AreModules us ns
    → first_fault ms ≡ Some x → counts_words x ≡ false → first_fault ns ≡ Some x

-- the same of a fault as it is told
abbrev pub tells_words : PrepFault → Bool
tells_words (f.SegmentFull name words) = true
tells_words other = false

-- if such a fault may be told of units, then no other may
abbrev pub OneFaultIsTold : Type 0
OneFaultIsTold = (us : List Source) (f g : PrepFault) → tells_words f ≡ false → IsUnlinked us f → IsUnlinked us g → g ≡ f

-- and no program is built of them
abbrev pub NoneIsBuilt : Type 0
NoneIsBuilt = (us : List Source) (f : PrepFault) (p : Program) → tells_words f ≡ false → IsUnlinked us f → IsBuilt us p → ⊥
