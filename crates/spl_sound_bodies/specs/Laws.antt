-- The laws of this crate.
use Rattle.std.specs.Prelude.{◌≡◌, ℕ, Bool, true, List, []}
use Rattle.spl_readings.specs.spl_tree.StatementTrees.{Statement, Statements}
use Rattle.spl_ruled_bodies.specs.spl_meaning.Names.{Table}
use Rattle.spl_ruled_bodies.specs.spl_meaning.Places.{Place}
use Rattle.spl_ruled_bodies.specs.spl_meaning.Tables.{Routine}
use Rattle.spl_ruled_bodies.specs.spl_meaning.Bodies.{procedure_body}
use Rattle.spl_ruled_bodies.specs.spl_meaning.ExpressionRules.{Scope}
use Rattle.spl_ruled_bodies.specs.spl_meaning.StatementRules.{statement_faults, statements_faults}
use Rattle.spl_cells.specs.Settable.{are_settable}
use Rattle.spl_near_places.specs.spl_fits.Fits.{RoutineFits}
use Rattle.spl_ruled_bodies.specs.Ruled.{IsRuled}
use Rattle.spl_readings.specs.Readings.{is_plain_statement, are_plain}

-- A statement that breaks no rule assigns to no cell of a procedure or a subroutine, which has none,
abbrev pub SoundStatementsArePlain : Type 0
SoundStatementsArePlain = (sc : Scope) (labels : List (List ℕ)) (after : Bool) (s : Statement) → statement_faults sc labels after s ≡ []
    → is_plain_statement sc.names s ≡ true

-- nor do statements of a list.
abbrev pub SoundListsArePlain : Type 0
SoundListsArePlain = (sc : Scope) (labels : List (List ℕ)) (after : Bool) (ss : Statements) → statements_faults sc labels after ss ≡ []
    → are_plain sc.names ss ≡ true

-- A procedure that breaks no rule and is within its limits has cells and initial values that its entry sets.
abbrev pub SoundProceduresAreSettable : Type 0
SoundProceduresAreSettable = (globals : Table Place) (own own_arrays : ℕ) (r : Routine) → IsRuled r → RoutineFits r
    → are_settable (procedure_body globals own own_arrays r) ≡ true
