-- A program that is made of modules of units, and where a module of it stands.
use Rattle.std.specs.Prelude.{◌≡◌, ℕ, true, false, List, Some}
use Rattle.std.specs.List.{list_all}
use Rattle.spl_carries.specs.hp_program.declared.program.Program.{Program}
use Rattle.spl_carries.specs.hp_program.Programs.{segments_of}
use Rattle.spl_carries.specs.spl_meaning.Tables.{Source}
use Rattle.spl_ways.specs.spl_branch.declared.modules.Module.{Module}
use Rattle.spl_ways.specs.spl_branch.Modules.{Finished}
use Rattle.spl_label_marks.specs.spl_code.Parts.{Wanted, wants_of}
use Rattle.spl_label_marks.specs.spl_scopes.Scopes.{Placed, first_reached, placed_units}
use Rattle.spl_label_marks.specs.spl_module_code.Modules.{module_written, IsModuleOf, AreModules}
use Rattle.spl_ways.specs.mpe_segmenter.Names.{parts}
use Rattle.spl_ways.specs.mpe_segmenter.Counts.{sizes}
use Rattle.spl_ways.specs.mpe_segmenter.Programs.{program_words, main_from}
use Rattle.spl_ways.specs.mpe_segmenter.Sites.{IsModule, module_entries, Links}
use Rattle.spl_ways.specs.mpe_segmenter.Whole.{IsWhole}
use Rattle.spl_endings.specs.spl_follow.Standing.{Sites}
use Rattle.spl_ways.specs.spl_sites.Beginnings.{begins_well, is_of_kind}
use Rattle.spl_ways.specs.Ways.{module_sites}
use Rattle.spl_routines.specs.Among.{IsIn}

-- what is known of a program that is made of modules of units, and of the pieces of their code
pub record MadeOf (us : List Source) (p : Program) (ms : List Module) : Type 0 where
  pub are : AreModules us ms
  pub whole : IsWhole (parts ms)
  pub segments : segments_of p ≡ program_words (parts ms)
  pub links : Links (parts ms) (segments_of p)
  pub main : main_from 0 (parts ms) ≡ Some (p.main, p.entry)
  pub kinds : (q : Placed) (g : ℕ) → list_all is_of_kind (module_written q g).pieces ≡ true
  pub well : (q : Placed) (g : ℕ) → IsIn q (placed_units (first_reached us) us) → begins_well false (module_written q g).pieces ≡ true

-- A module that has the code of a unit in its segment g, and where it stands in a program: in which segment there, and behind which modules.
pub record Located (ms : List Module) (q : Placed) (g : ℕ) : Type 0 where
  pub name : List ℕ
  pub seg : ℕ
  pub front : List Module
  pub here : Module
  pub back : List Module
  pub is : IsModule (parts ms) seg front here back
  pub of : IsModuleOf q name g here
  pub finished : Finished of.code here

-- the places of its marks, and where its calls lead
abbrev pub sites_at : {ms : List Module} {q : Placed} {g : ℕ} → Located ms q g → Sites
sites_at {ms} at = module_sites (program_words (parts ms)) at.seg (sizes at.front) at.finished.marks (module_entries at.front at.here at.back)

-- the names that it wants
abbrev pub wants_at : {ms : List Module} {q : Placed} {g : ℕ} → Located ms q g → List Wanted
wants_at at = wants_of at.of.code.wants.items
