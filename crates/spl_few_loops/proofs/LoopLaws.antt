-- Loops are FORs, of which at most 64 stand around a statement: so at most 192 words wait for them.
use Rattle.std.proofs.Common.{ℕ, suc, ◌≡◌, ◌≤◌, ◌+◌, max, List, [], ◌∷◌, ◌++◌, Some, refl, ap, ◌∙◌, arith}
use Rattle.std.proofs.Math.Nat.{le-max_left, le-max_right}
use Rattle.std.specs.List.{slice_get}
use Rattle.spl_statement_code.specs.spl_tree.DeclarationTrees as decl
use Rattle.spl_statement_code.specs.spl_tree.DeclarationTrees.{Declaration, Declarations, declarations}
use Rattle.spl_statement_code.specs.spl_tree.StatementTrees as stat
use Rattle.spl_statement_code.specs.spl_tree.StatementTrees.{Statement, Statements, statements}
use Rattle.spl_statement_code.specs.spl_meaning.Names.{Sort, Table, nothing_declared}
use Rattle.spl_statement_code.specs.spl_meaning.Tables.{Source, with_declaration, routine_in, routines_among, routines_of, subroutine_in, subroutines_among}
use Rattle.spl_statement_code.specs.spl_meaning.Bodies.{all_routines}
use Rattle.spl_statement_code.specs.spl_meaning.Stops.{declaration_stops}
use Rattle.spl_nesting.specs.spl_sound.Spelled.{AreSpelled}
use Rattle.spl_nesting.specs.Nesting.{fors, fors_among, most_in, most_in_all, most_in_unit}
use Rattle.spl_nesting.proofs.NestingLaws.{units_nest}
use Rattle.spl_statement_code.specs.FewWords.{nested_loops, nested_among}
use Rattle.spl_places.specs.Programs.{Each}
use Rattle.spl_few_loops.specs.Loops.{FewLoops, FewLoopsInSubroutine, FewLoopsInRoutine, FewLoopsInUnit, FewLoopsInAll}

-- ---- loops are FORs

mutual
  pub same_loops : (s : Statement) → nested_loops s ≡ fors s
  same_loops stat.Statement.empty = refl
  same_loops (stat.Statement.labelled x at s) = same_loops s
  same_loops (stat.Statement.block ss) = same_among ss
  same_loops (stat.Statement.if_test q s ss at) =
      ap (λ (n : ℕ). max n (nested_among ss)) (same_loops s) ∙ ap (λ (n : ℕ). max (fors s) n) (same_among ss)
  same_loops (stat.Statement.while_true q s at) = same_loops s
  same_loops (stat.Statement.until_true s q at) = same_loops s
  same_loops (stat.Statement.for_values x first step last s at) = let same = same_loops s in omega arith
  same_loops (stat.Statement.case_of e ss at) = same_among ss
  same_loops (stat.Statement.go_to x at) = refl
  same_loops (stat.Statement.return at) = refl
  same_loops (stat.Statement.assign to e at) = refl
  same_loops (stat.Statement.assign_effect to e at) = refl
  same_loops (stat.Statement.do_effect e at) = refl
  same_loops (stat.Statement.call x es at) = refl

  pub same_among : (ss : Statements) → nested_among ss ≡ fors_among ss
  same_among stat.Statements.none = refl
  same_among (stat.Statements.and s ss) =
      ap (λ (n : ℕ). max n (nested_among ss)) (same_loops s) ∙ ap (λ (n : ℕ). max (fors s) n) (same_among ss)

-- so few FORs are few loops
few_loops : (ss : Statements) → fors_among ss ≤ 64 → FewLoops ss
few_loops ss few = let same = same_among ss in omega arith

-- ---- declarations

each_both : {A : Type 0} (P : A → Type 0) (xs ys : List A) → Each P xs → Each P ys → Each P (xs ++ ys)
each_both P [] ys first second = second
each_both P (x ∷ xs) ys first second = (first.0, each_both P xs ys first.1 second)

left_few : (a b : ℕ) → max a b ≤ 64 → a ≤ 64
left_few a b le = let most = le-max_left a b in omega arith

right_few : (a b : ℕ) → max a b ≤ 64 → b ≤ 64
right_few a b le = let most = le-max_right a b in omega arith

few_in_subroutine : (m : ℕ) (d : Declaration) → most_in fors_among d ≤ 64 → Each FewLoopsInSubroutine (subroutine_in m d)
few_in_subroutine m (decl.Declaration.data_items own k items) few = tt
few_in_subroutine m (decl.Declaration.equate es) few = tt
few_in_subroutine m (decl.Declaration.intrinsic xs) few = tt
few_in_subroutine m (decl.Declaration.label xs) few = tt
few_in_subroutine m (decl.Declaration.forward h) few = tt
few_in_subroutine m (decl.Declaration.external h) few = tt
few_in_subroutine m (decl.Declaration.procedure h items ss) few = tt
few_in_subroutine m (decl.Declaration.subroutine h s) few = (few_loops (stat.Statements.and s stat.Statements.none) few, tt)

few_in_subroutines : (m : ℕ) (ds : Declarations) → most_in_all fors_among ds ≤ 64 → Each FewLoopsInSubroutine (subroutines_among m ds)
few_in_subroutines m decl.none few = tt
few_in_subroutines m (decl.and d ds) few =
    each_both FewLoopsInSubroutine (subroutine_in m d) (subroutines_among (m + declaration_stops d) ds)
    (few_in_subroutine m d (left_few (most_in fors_among d) (most_in_all fors_among ds) few))
    (few_in_subroutines (m + declaration_stops d) ds (right_few (most_in fors_among d) (most_in_all fors_among ds) few))

few_in_routine : (t : Table Sort) (m : ℕ) (d : Declaration) → most_in fors_among d ≤ 64 → Each FewLoopsInRoutine (routine_in t m d)
few_in_routine t m (decl.Declaration.data_items own k items) few = tt
few_in_routine t m (decl.Declaration.equate es) few = tt
few_in_routine t m (decl.Declaration.intrinsic xs) few = tt
few_in_routine t m (decl.Declaration.label xs) few = tt
few_in_routine t m (decl.Declaration.forward h) few = tt
few_in_routine t m (decl.Declaration.external h) few = tt
few_in_routine t m (decl.Declaration.procedure h items ss) few =
    let inner = few_in_subroutines m items (left_few (most_in_all fors_among items) (fors_among (statements ss)) few) in
    ((few_loops (statements ss) (right_few (most_in_all fors_among items) (fors_among (statements ss)) few), inner), tt)
few_in_routine t m (decl.Declaration.subroutine h s) few = tt

few_in_routines : (t : Table Sort) (m : ℕ) (ds : Declarations) → most_in_all fors_among ds ≤ 64 → Each FewLoopsInRoutine (routines_among t m ds)
few_in_routines t m decl.none few = tt
few_in_routines t m (decl.and d ds) few =
    let behind = with_declaration nothing_declared t d in
    each_both FewLoopsInRoutine (routine_in t m d) (routines_among behind (m + declaration_stops d) ds)
    (few_in_routine t m d (left_few (most_in fors_among d) (most_in_all fors_among ds) few))
    (few_in_routines behind (m + declaration_stops d) ds (right_few (most_in fors_among d) (most_in_all fors_among ds) few))

-- ---- units

few_in_unit : (u : Source) → most_in_unit fors_among u.tree ≤ 64 → FewLoopsInUnit u × Each FewLoopsInRoutine (routines_of u)
few_in_unit u few =
    let ds = declarations u.tree.items in
    let lists = left_few (most_in_all fors_among ds) (fors_among (statements u.tree.statements)) few in
    let body = right_few (most_in_all fors_among ds) (fors_among (statements u.tree.statements)) few in
    ((few_loops (statements u.tree.statements) body, few_in_subroutines 0 ds lists), few_in_routines [] 0 ds lists)

few_in_units : (us : List Source) → ((i : ℕ) (u : Source) → slice_get us i ≡ Some u → most_in_unit fors_among u.tree ≤ 64) → FewLoopsInAll us
few_in_units [] few = (tt, tt)
few_in_units (u ∷ us) few =
    let first = few_in_unit u (few 0 u refl) in
    let rest = few_in_units us (λ i v is. few (suc i) v is) in
    ((first.0, rest.0), each_both FewLoopsInRoutine (routines_of u) (all_routines us) first.1 rest.1)

pub few_in_all : (us : List Source) → AreSpelled us → FewLoopsInAll us
few_in_all us spelled = few_in_units us (λ i u is. (units_nest us i u spelled is).1)
