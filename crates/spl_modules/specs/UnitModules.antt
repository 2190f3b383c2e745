-- What the modules of a unit are: the entries of each segment with their marks, and the indexes of procedures and of the subroutines of each
-- body.
use Rattle.std.specs.Prelude.{◌≡◌, ℕ, Some}
use Rattle.std.specs.List.{slice_get}
use Rattle.spl_sound.specs.spl_meaning.Tables.{Source, Routine, routines_of}
use Rattle.spl_scopes.specs.Entries.{main, routine, module_entries, procedure_index, subroutine_index}
use Rattle.spl_modules.specs.Made.{made_from}
use Rattle.spl_modules.specs.Entered.{Walk}

pub record IsUnitModules (u : Source) (w : Walk) : Type 0 where
  -- the entries of a segment are those of the module, with marks from 0 on
  pub made : (g : ℕ) → w.entered.made g ≡ made_from 0 (module_entries u g)
  pub procedures : (g : ℕ) → w.entered.procedures g ≡ procedure_index (module_entries u g)
  pub main_body : w.main_body ≡ subroutine_index main (module_entries u u.tree.segment)
  pub routines :
      (i : ℕ) (r : Routine) → slice_get (routines_of u) i ≡ Some r
      → slice_get w.routines i ≡ Some (subroutine_index (routine i) (module_entries u r.heading.segment))
