-- Units of which a program can be made whichever form each branch takes: their modules have no fault beside that of too many words, and what stands in
-- each segment weighs so little that they do not have that one either.
use Rattle.std.specs.Prelude.{◌≡◌, ◌≤◌, ℕ, ◌+◌, nat_le, Bool, true, List, length, slice_get, None, Some}
use Rattle.std.specs.List.{list_all}
use Rattle.spl_module_names.specs.hp_program.declared.program.Program.{Program}
use Rattle.spl_module_names.specs.hp_program.Programs.{segments_of, words_of}
use Rattle.spl_module_names.specs.spl_meaning.Tables.{Source}
use Rattle.spl_module_names.specs.spl_meaning.Places.{sum}
use Rattle.spl_module_names.specs.spl_meaning.Limits.{first_full}
use Rattle.spl_module_names.specs.spl_meaning.Sound.{IsSound}
use Rattle.spl_module_names.specs.spl_meaning.Bound.{unit_weight}
use Rattle.spl_module_names.specs.spl_sound.Spelled.{AreSpelled}
use Rattle.spl_module_names.specs.spl_branch.declared.modules.Module.{Module}
use Rattle.spl_module_words.specs.spl_module_code.Modules.{AreModules}
use Rattle.spl_module_names.specs.mpe_segmenter.declared.faults.PrepFault.{PrepFault}
use Rattle.spl_module_names.specs.mpe_segmenter.Names.{Part, parts}
use Rattle.spl_module_names.specs.mpe_segmenter.Counts.{table_size}
use Rattle.spl_module_names.specs.mpe_segmenter.Faults.{Fault, first_fault}
use Rattle.spl_module_names.specs.Faults.{counts_words}
use Rattle.spl_module_names.specs.spl_built.Built.{IsBuilt, IsUnlinked}

-- how many words a segment may have: what stands there of the units weighs so much, and the rest is its table
abbrev pub part_bound : List Source → Part → ℕ
part_bound us p = sum (unit_weight p.name) us + table_size p

-- a segment has at most 16,383 words, however each branch is made
abbrev pub is_low : List Source → Part → Bool
is_low us p = nat_le (part_bound us p) 16383

-- Of these modules of the units each segment is low, and no fault is the first but that of too many words. It is so of all modules of the
-- units if of some.
pub record IsLinkable (us : List Source) : Type 0 where
  pub modules : List Module
  pub are_modules : AreModules us modules
  pub named : (x : Fault) → first_fault modules ≡ Some x → counts_words x ≡ true
  pub low : list_all (is_low us) (parts modules) ≡ true

-- units that break no rule and pass no limit
pub record KeepRules (us : List Source) : Type 0 where
  pub sound : IsSound us
  pub spelled : AreSpelled us
  pub limits : first_full us ≡ None

-- modules of linkable units have no fault
abbrev pub NoModulesFail : Type 0
NoModulesFail = (us : List Source) (ms : List Module) → KeepRules us → IsLinkable us → AreModules us ms → first_fault ms ≡ None

-- so none may be told
abbrev pub NoFaultIsTold : Type 0
NoFaultIsTold = (us : List Source) (f : PrepFault) → KeepRules us → IsLinkable us → IsUnlinked us f → ⊥

-- each segment of a program that is built has at most as many words as it may have
abbrev pub SegmentsKeepBounds : Type 0
SegmentsKeepBounds = (us : List Source) (p : Program) (b : IsBuilt us p) (s : ℕ) (q : Part) → KeepRules us → slice_get (parts b.modules) s ≡ Some q
    → length (words_of (segments_of p) s) ≤ part_bound us q
