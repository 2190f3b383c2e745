-- The law of this crate.
use Rattle.std.specs.Prelude.{◌≡◌, ℕ, List, Some}
use Rattle.spl_routes.specs.hp_program.declared.program.Program.{Program}
use Rattle.spl_routes.specs.hp_steady.Laws.{WordsAreNear}
use Rattle.spl_routes.specs.spl_meaning.Names as n
use Rattle.spl_routes.specs.spl_meaning.Names.{Profile}
use Rattle.spl_routes.specs.spl_meaning.Tables.{Source}
use Rattle.spl_links.specs.spl_branch.declared.modules.Module.{Module}
use Rattle.spl_links.specs.spl_code.Calls.{Scope}
use Rattle.spl_routes.specs.spl_scopes.Entries.{module_entries, procedure_index}
use Rattle.spl_routes.specs.spl_scopes.Scopes.{Placed, first_reached, placed_units}
use Rattle.spl_routes.specs.spl_follow.Calling.{Link}
use Rattle.spl_links.specs.Links.{name_link}
use Rattle.spl_routes.specs.spl_routines.Among.{IsIn}
use Rattle.spl_routes.specs.spl_routines.Located.{MadeOf, Located, sites_at, wants_at}
use Rattle.spl_routes.specs.Found.{Finds}

-- In a module of a program of modules, what links a name that stands for a procedure leads to the code of the procedure of that name: an entry of
-- the module, or a name that it wants.
abbrev pub LinksFind : Type 0
LinksFind = (us : List Source) (p : Program) (near : WordsAreNear p) (ms : List Module) → MadeOf us p ms
    → (q : Placed) → IsIn q (placed_units (first_reached us) us) → (g : ℕ) (at : Located ms q g) (c : Scope)
    → c.procedures ≡ procedure_index (module_entries q.unit g) → (x : List ℕ) (pr : Profile) (lk : Link)
    → name_link c (wants_at at) x (Some (n.procedure pr)) ≡ Some lk → Finds us p near ms ((sites_at at).ways lk.wanted lk.index) x
