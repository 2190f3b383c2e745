-- What the bodies of a unit call in a segment, as tests of names: a test is passed by calls where it is passed by each name that they want by
-- what it stands for. An intrinsic is wanted of the system, and a procedure of any module; nothing else is wanted.
use Rattle.std.specs.Prelude.{◌≡◌, ℕ, nat_eq, ◌&&◌, not, Bool, true, false, if◌then◌else◌, List, codes, Option, Some}
use Rattle.std.specs.List.{list_all}
use Rattle.spl_module_code.specs.spl_tree.StatementTrees.{statements}
use Rattle.spl_module_code.specs.spl_meaning.Names as n
use Rattle.spl_module_code.specs.spl_meaning.Names.{Names, Sort, find}
use Rattle.spl_module_code.specs.spl_meaning.Tables.{Source, Routine, Subroutine, unit_table, routines_of, routine_names, routine_subroutines, unit_subroutines, subroutine_names}
use Rattle.spl_module_code.specs.spl_meaning.Bound.{statement_names, statements_names}
use Rattle.spl_module_code.specs.spl_code.Parts.{Part, Wanted}

-- a test of names that are wanted
abbrev pub Testing : Type 0
Testing = Wanted → Bool

-- a call of a name that stands for this passes
abbrev pub call_passes : Testing → Option Sort → List ℕ → Bool
call_passes test (Some (n.intrinsic i)) x = test (record { name = x; gate = true })
call_passes test (Some (n.procedure p)) x = test (record { name = x; gate = false })
call_passes test _ x = true

-- calls of these names do
abbrev pub calls_pass : Testing → Names → List (List ℕ) → Bool
calls_pass test names xs = list_all (λ (x : List ℕ). call_passes test (names x) x) xs

-- a subroutine's, with these names around it
abbrev pub inner_passes : Testing → Names → Subroutine → Bool
inner_passes test around s = calls_pass test (subroutine_names around s) (statement_names s.statement)

abbrev pub inners_pass : Testing → Names → List Subroutine → Bool
inners_pass test around ss = list_all (inner_passes test around) ss

-- a procedure's, with its subroutines
abbrev pub routine_passes : Testing → Routine → Bool
routine_passes test r = inners_pass test (routine_names r) (routine_subroutines r) && calls_pass test (routine_names r) (statements_names (statements r.statements))

-- those of the procedures in a segment
abbrev pub routines_pass : Testing → ℕ → List Routine → Bool
routines_pass test g rs = list_all (λ (r : Routine). if nat_eq r.heading.segment g then routine_passes test r else true) rs

-- a main body's, with its subroutines; behind its statements it ends the program
abbrev pub main_passes : Testing → Source → Bool
main_passes test u =
    inners_pass test (find (unit_table u)) (unit_subroutines u)
    && (calls_pass test (find (unit_table u)) (statements_names (statements u.tree.statements)) && test (record { name = codes "TERMINATE"; gate = true }))

-- a unit has its main body in a segment
abbrev pub main_there : Source → ℕ → Bool
main_there u g = not u.subprogram && nat_eq u.tree.segment g

-- all bodies of a unit in a segment
abbrev pub unit_passes : Testing → Source → ℕ → Bool
unit_passes test u g = routines_pass test g (routines_of u) && (if main_there u g then main_passes test u else true)

-- a part of code wants nothing more than what passes
pub record IsPassing (test : Testing) (part : Part) : Type 0 where
  pub passes : (l : ℕ) (ws : List Wanted) → list_all test ws ≡ true → list_all test (part l ws).wants ≡ true
