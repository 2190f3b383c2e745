-- How many words the code of a body takes at most: its weight, where its statements take at most theirs. The weights of the subroutines in a
-- list are left for their own code.
use Rattle.std.specs.Prelude.{ℕ, ◌+◌, ◌≤◌, false, List}
use Rattle.spl_code.specs.spl_tree.StatementTrees.{statements}
use Rattle.spl_code.specs.spl_meaning.Names.{Table}
use Rattle.spl_code.specs.spl_meaning.Tables.{Source, Routine, Subroutine, routine_table, routine_subroutines, unit_subroutines}
use Rattle.spl_code.specs.spl_meaning.Places.{Place, list_words, list_array_words}
use Rattle.spl_code.specs.spl_meaning.Limits.{most_locals, most_data}
use Rattle.spl_code.specs.spl_meaning.Bodies.{Body, procedure_body, subroutine_body, main_body}
use Rattle.spl_code.specs.spl_meaning.Bound.{statement_weight, statements_weight, subroutine_weight, subroutines_weight, routine_weight, main_weight}
use Rattle.spl_code.specs.spl_branch.Pieces.{count_of}
use Rattle.spl_code.specs.Parts.{Part, Wanted}
use Rattle.spl_body_code.specs.Bodies.{procedure_code, subroutine_code, main_code}

-- a part takes at most so many words, whatever stands before it
abbrev pub TakesAtMost : ℕ → Part → Type 0
TakesAtMost n p = (l : ℕ) (ws : List Wanted) → count_of (p l ws).pieces ≤ n

-- A procedure within the limits of local words: where these are more than 255, an array is among its items, and pays for the zeros.
abbrev pub ProcedureHasFewWords : Type 0
ProcedureHasFewWords = (globals : Table Place) (own own_arrays : ℕ) (r : Routine) (entry : ℕ) (ss : ℕ → Part) (l : ℕ) (ws : List Wanted)
    → list_words false (routine_table r) ≤ most_locals → list_words false (routine_table r) + list_array_words false (routine_table r) ≤ most_data
    → ((leave : ℕ) → TakesAtMost (statements_weight (statements r.statements)) (ss leave))
    → count_of (procedure_code (procedure_body globals own own_arrays r) entry ss l ws).pieces + subroutines_weight (routine_subroutines r)
    ≤ routine_weight r

-- a subroutine
abbrev pub SubroutineHasFewWords : Type 0
SubroutineHasFewWords = (b : Body) (s : Subroutine) (entry : ℕ) (ss : ℕ → Part) (l : ℕ) (ws : List Wanted)
    → ((leave : ℕ) → TakesAtMost (statement_weight s.statement) (ss leave))
    → count_of (subroutine_code (subroutine_body b s) entry ss l ws).pieces ≤ subroutine_weight s.heading s.statement

-- a main body
abbrev pub MainBodyHasFewWords : Type 0
MainBodyHasFewWords = (globals : Table Place) (u : Source) (entry : ℕ) (ss : Part) (l : ℕ) (ws : List Wanted)
    → TakesAtMost (statements_weight (statements u.tree.statements)) ss
    → count_of (main_code (main_body globals u) entry ss l ws).pieces + subroutines_weight (unit_subroutines u) ≤ main_weight u
