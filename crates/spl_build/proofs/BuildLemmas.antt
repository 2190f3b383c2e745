-- What is linked of the modules of units, with the data words of their layout, is built of them.
use Rattle.std.proofs.Common.{◌≤◌, ◌<◌, ◌^◌, ℕ, List, Result, Ok, Err, map, length, sym, subst}
use Rattle.std.specs.Prelude.{IfOk}
use Rattle.std.proofs.lemmas.List.{length-map}
use Rattle.hp_program.specs.declared.program.Program.{Program}
use Rattle.spl_tree.specs.declared.units.SplUnit.{SplUnit}
use Rattle.spl_sound.specs.spl_meaning.Tables.{Source}
use Rattle.spl_sound.specs.Spelled.{AreSpelled, most_units, source_of}
use Rattle.spl_gen_proc.specs.spl_layout.declared.layouts.Layout.{Layout}
use Rattle.spl_branch.specs.declared.modules.Module.{Module}
use Rattle.spl_built.specs.spl_module_code.Modules.{AreModules}
use Rattle.mpe_segmenter.specs.Entered.{total}
use Rattle.spl_built.proofs.spl_formed_modules_proofs.Few.{all_few}
use Rattle.spl_built.specs.Built.{IsLinked, IsBuilt}
use Rattle.spl_build.specs.Steps.{IsLaid}

pub built_so : {E : Type 0} (us : List Source) (l : Layout) (ms : List Module) (r : Result Program E) → IsLaid us l → AreModules us ms
    → IfOk r (λ p. IsLinked ms l.globals.items p) → IfOk r (λ p. IsBuilt us p)
built_so us l ms (Ok p) v m h = record { layout = l; is_layout = v.layout; modules = ms; are_modules = m; linked = h }
built_so us l ms (Err e) v m h = tt

-- the modules of units that tokens spell are few
pub few_modules : (units : List SplUnit) (ms : List Module) → length units ≤ most_units → AreSpelled (map source_of units) → AreModules (map source_of units) ms → total ms < 2 ^ 32
few_modules units ms few spelled are =
    all_few (map source_of units) ms spelled (subst (λ (n : ℕ). n ≤ most_units) (sym (length-map units source_of)) few) are
