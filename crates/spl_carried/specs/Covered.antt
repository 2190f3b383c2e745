-- Which programs are proved: those whose main body is, and whose procedures and subroutines that may be called are. A further construct makes more bodies so.
use Rattle.std.specs.Prelude.{ℕ, ◌+◌, ◌==◌, ◌&&◌, ◌||◌, Bool, false, if◌then◌else◌, List, [], ◌∷◌}
use Rattle.std.specs.List.{list_all}
use Rattle.spl_bounds.specs.spl_meaning.Bodies.{Named, main_body, program_of}
use Rattle.spl_bounds.specs.spl_meaning.Tables.{Source}
use Rattle.spl_bounds.specs.spl_scopes.Entries.{main, module_entries}
use Rattle.spl_bounds.specs.spl_scopes.Scopes.{Placed, first_reached, placed_units, global_places}
pub use Rattle.spl_callable.specs.Callable.{is_among, is_covered_frame, are_callable}

-- how many units have a main body
abbrev pub main_count : List Source → ℕ
main_count [] = 0
main_count (u ∷ us) = (if u.subprogram then 0 else 1) + main_count us

-- a unit, where procedures of the names xs and subroutines of the names ys may be called: it is a subprogram, or its main body is covered with its subroutines
abbrev pub is_covered_unit : List (List ℕ) → List (List ℕ) → List Named → Placed → Bool
is_covered_unit xs ys procedures p =
    p.unit.subprogram || is_covered_frame xs ys procedures (module_entries p.unit p.unit.tree.segment) main false (main_body (global_places p) p.unit)

-- A program, of which procedures of the names xs and subroutines of the names ys may be called: one of its units has a main body, and that is covered, and
-- so are these procedures, and of each of these bodies the subroutines of these names. Of all else that its units declare nothing is asked.
abbrev pub is_covered_program : List (List ℕ) → List (List ℕ) → List Source → Bool
is_covered_program xs ys us =
    ((main_count us == 1) && are_callable xs ys us)
    && list_all (λ p. is_covered_unit xs ys (program_of us).procedures p) (placed_units (first_reached us) us)
