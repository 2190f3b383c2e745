-- The laws of this crate.
use Rattle.std.specs.Prelude.{◌≡◌, ℕ, List, Some}
use Rattle.spl_routes.specs.hp_program.declared.program.Program.{Program}
use Rattle.spl_routes.specs.hp_steady.Laws.{WordsAreNear}
use Rattle.spl_routes.specs.spl_meaning.Bodies.{Body}
use Rattle.spl_routes.specs.spl_meaning.Tables.{Source, Subroutine, subroutine_named}
use Rattle.spl_routes.specs.spl_branch.declared.modules.Module.{Module}
use Rattle.spl_routes.specs.spl_scopes.Entries.{Owner, module_entries, subroutine_index}
use Rattle.spl_routes.specs.spl_scopes.Scopes.{Placed, first_reached, placed_units, outer_body, body_segment}
use Rattle.spl_routes.specs.spl_sound_jumps.Laws.{LandsInInner, LandsInInners}
use Rattle.spl_routes.specs.spl_routines.Among.{IsIn}
use Rattle.spl_routes.specs.spl_routines.Located.{MadeOf, Located}
use Rattle.spl_inners.specs.Inners.{FindsInner}

-- In the module of a main body or of a procedure, in a program of modules, the entry of a name among its subroutines leads to the one that it means by that
-- name.
abbrev pub InnersFind : Type 0
InnersFind = (us : List Source) (p : Program) (near : WordsAreNear p) (ms : List Module) → MadeOf us p ms
    → (q : Placed) → IsIn q (placed_units (first_reached us) us) → (o : Owner) (b : Body) → outer_body q o ≡ Some b
    → (at : Located ms q (body_segment q.unit o)) (x : List ℕ) (index : ℕ)
    → subroutine_index o (module_entries q.unit (body_segment q.unit o)) x ≡ Some index → FindsInner p near at o b x index

-- Where the jumps of a unit's subroutines lead somewhere, those of the one that a body means by a name do.
abbrev pub InnersLand : Type 0
InnersLand = (q : Placed) → LandsInInners q.unit → (o : Owner) (b : Body) → outer_body q o ≡ Some b
    → (x : List ℕ) (s : Subroutine) → subroutine_named b.subroutines x ≡ Some s → LandsInInner s
