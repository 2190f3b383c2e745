-- No chain over a unit's tokens has more than 64 constructs open, so no statement has more around it.
use Rattle.std.proofs.Common.{◌≤◌, ◌+◌, [], ◌∷◌, arith}
use Rattle.std.proofs.Math.Logic.{∥∥₁_elim}
use Rattle.std.proofs.Math.Bridge.{le_prop}
use Rattle.spl_sound.specs.spl_tree.StatementTrees as stat
use Rattle.spl_sound.specs.spl_tree.StatementTrees.{Statement, Statements, statements}
use Rattle.spl_sound.specs.spl_tree.DeclarationTrees as decl
use Rattle.spl_sound.specs.spl_tree.DeclarationTrees.{Declaration, Declarations, declarations}
use Rattle.spl_sound.specs.spl_tree.OpenExpressions.{limit}
use Rattle.spl_sound.specs.spl_grammar.Verdicts.{spelled}
use Rattle.spl_nesting.specs.Nesting.{nested, nested_among, fors, fors_among, most_in, most_in_all, most_in_unit}
use Rattle.spl_nesting.specs.NestingLaws.{StatementsNest, FewForsNest, SpelledUnitsNest}
use Rattle.spl_sound.specs.Spelled.{Spelled}
use Rattle.spl_nesting.proofs.Chains.{unit_deep}

-- of constructs
pub nest : StatementsNest
nest ts u (spelled w calm) =
    let r = unit_deep w in
    let e = r.enough in
    let few = calm r.part r.constructs 0 r.rest r.chain (omega arith) in
    omega arith

-- ---- a FOR is a construct

mutual
  fewer : (s : Statement) → fors s ≤ nested s
  fewer stat.Statement.empty = omega arith
  fewer (stat.Statement.labelled x at s) = let a = fewer s in omega arith
  fewer (stat.Statement.block ss) = let a = fewer_among ss in omega arith
  fewer (stat.Statement.if_test q then_part else_part at) = let a = fewer then_part in let b = fewer_among else_part in omega arith
  fewer (stat.Statement.while_true q s at) = let a = fewer s in omega arith
  fewer (stat.Statement.until_true s q at) = let a = fewer s in omega arith
  fewer (stat.Statement.for_values x first step last s at) = let a = fewer s in omega arith
  fewer (stat.Statement.case_of e ss at) = let a = fewer_among ss in omega arith
  fewer (stat.Statement.go_to x at) = omega arith
  fewer (stat.Statement.return at) = omega arith
  fewer (stat.Statement.assign to e at) = omega arith
  fewer (stat.Statement.assign_effect to e at) = omega arith
  fewer (stat.Statement.do_effect e at) = omega arith
  fewer (stat.Statement.call x es at) = omega arith

  fewer_among : (ss : Statements) → fors_among ss ≤ nested_among ss
  fewer_among stat.Statements.none = omega arith
  fewer_among (stat.Statements.and s ss) = let a = fewer s in let b = fewer_among ss in omega arith

mutual
  fewer_in : (d : Declaration) → most_in fors_among d ≤ most_in nested_among d
  fewer_in (decl.Declaration.procedure h ds xs) = let a = fewer_in_all ds in let b = fewer_among (statements xs) in omega arith
  fewer_in (decl.Declaration.subroutine h x) = fewer_among (statements (x ∷ []))
  fewer_in (decl.Declaration.data_items own k is) = omega arith
  fewer_in (decl.Declaration.equate es) = omega arith
  fewer_in (decl.Declaration.intrinsic xs) = omega arith
  fewer_in (decl.Declaration.label xs) = omega arith
  fewer_in (decl.Declaration.forward h) = omega arith
  fewer_in (decl.Declaration.external h) = omega arith

  fewer_in_all : (ds : Declarations) → most_in_all fors_among ds ≤ most_in_all nested_among ds
  fewer_in_all decl.none = omega arith
  fewer_in_all (decl.and d ds) = let a = fewer_in d in let b = fewer_in_all ds in omega arith

-- of FORs
pub few_fors : FewForsNest
few_fors ts u v =
    let a = nest ts u v in
    let b = fewer_in_all (declarations u.items) in
    let c = fewer_among (statements u.statements) in
    omega arith

-- in each unit of a program: a bound is one fact, whichever tokens spell the unit
pub units_nest : SpelledUnitsNest
units_nest us i u are e = ∥∥₁_elim (are i u e) both (λ (s : Spelled (i + 1) u). (nest _ u.tree s.spelled, few_fors _ u.tree s.spelled))
  where
    both : IsProp ((most_in_unit nested_among u.tree ≤ limit) × (most_in_unit fors_among u.tree ≤ limit))
    both = hlevel le_prop
