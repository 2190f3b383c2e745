-- Each part that may wait has at most 63 words.
use Rattle.std.proofs.Common.{◌≡◌, ◌≤◌, ℕ, ◌+◌, ◌*◌, Bool, true, false, List, [], ◌∷◌, refl, arith}
use Rattle.std.specs.Prelude.{if◌then◌else◌}
use Rattle.spl_sound.specs.spl_tree.declared.expressions.Kind.TheVariants as kind
use Rattle.spl_sound.specs.spl_tree.Trees as tree
use Rattle.spl_sound.specs.spl_tree.Trees.{Tree, Trees}
use Rattle.spl_sound.specs.spl_tree.StatementTrees as stat
use Rattle.spl_sound.specs.spl_tree.StatementTrees.{Statement, Statements, Target, Source, Effect, Test}
use Rattle.spl_sound.specs.spl_meaning.Names.{Names, Formal}
use Rattle.spl_sound.specs.spl_meaning.Kinds.{Operand, of, const, unknown, operand_width, callable, kind_of, is_connective, compares_text}
use Rattle.spl_sound.specs.spl_meaning.Pending.{most, most_of, formals_words, first_formal, other_formals, argument_words, profile_formals, profile_result_words, left_words, behind_index, waiting, index_most, target_most, behind_first, behind_second, source_most, effect_most, test_most, trees_most, statement_most, statements_most}
use Rattle.spl_nesting.specs.Heights.{height, height_among, height_index, height_target, height_source, height_effect, height_test, statement_height, statements_height}
use Rattle.spl_nesting.specs.HeightLaws.{HaveFewWords, PartsHaveFewWords, DepthsFit}

-- a value has one word or two
few_of_value : (x : Operand) → operand_width x ≤ 2
few_of_value (of kind.Double) = omega arith
few_of_value (of kind.Integer) = omega arith
few_of_value (of kind.Logical) = omega arith
few_of_value (of kind.Byte) = omega arith
few_of_value const = omega arith
few_of_value unknown = omega arith

-- and so has a left operand, or none
few_of_left : (names : Names) (op : ℕ) (a b : Tree) → left_words names op a b ≤ 2
few_of_left names op a b = by (is_connective op) (compares_text names op a b) (operand_width (kind_of names a)) (few_of_value (kind_of names a))
  where
    by : (c t : Bool) (w : ℕ) → w ≤ 2 → (if c then 0 else if t then 0 else w) ≤ 2
    by true t w l = omega arith
    by false true w l = omega arith
    by false false w l = l

-- the first of parameters and the others have the words of all
all_words : (fs : List Formal) → argument_words (first_formal fs) + formals_words (other_formals fs) ≡ formals_words fs
all_words [] = omega arith
all_words (f ∷ fs) = refl

-- ---- expressions

mutual
  expression_bound : (names : Names) → HaveFewWords names → (e : Tree) → most names e ≤ 63 * (height e + 1)
  expression_bound names few (tree.Tree.number v) = omega arith
  expression_bound names few (tree.Tree.wide v) = omega arith
  expression_bound names few (tree.Tree.text bytes) = omega arith
  expression_bound names few (tree.Tree.truth b) = omega arith
  expression_bound names few (tree.Tree.named x es at) =
      let a = among_bound names few (profile_formals (callable (names x))) (profile_result_words (callable (names x))) es in
      let b = few x in
      omega arith
  expression_bound names few (tree.Tree.address x es at) = let a = among_bound names few [] 0 es in omega arith
  expression_bound names few (tree.Tree.unary op e at) = expression_bound names few e
  expression_bound names few (tree.Tree.binary op a b at) =
      let l = few_of_left names op a b in
      let x = expression_bound names few a in
      let y = expression_bound names few b in
      omega arith
  expression_bound names few (tree.Tree.shift op e by at) = expression_bound names few e
  expression_bound names few (tree.Tree.field e start size at) = expression_bound names few e
  expression_bound names few (tree.Tree.transfer k e at) = expression_bound names few e
  expression_bound names few (tree.Tree.bytes op a b size at) =
      let x = expression_bound names few a in
      let y = expression_bound names few b in
      let z = expression_bound names few size in
      omega arith

  among_bound : (names : Names) → HaveFewWords names → (fs : List Formal) (k : ℕ) (es : Trees)
      → most_of names fs k es ≤ k + formals_words fs + 63 * height_among es
  among_bound names few fs k tree.Trees.none = omega arith
  among_bound names few fs k (tree.Trees.and e es) =
      let w = all_words fs in
      let x = expression_bound names few e in
      let y = among_bound names few (other_formals fs) (k + argument_words (first_formal fs)) es in
      omega arith

-- ---- parts of statements

index_bound : (names : Names) → HaveFewWords names → (r : Tree) → index_most names r ≤ 63 * (height_index r + 1)
index_bound names few (tree.Tree.number v) = omega arith
index_bound names few (tree.Tree.wide v) = omega arith
index_bound names few (tree.Tree.text bytes) = omega arith
index_bound names few (tree.Tree.truth b) = omega arith
index_bound names few (tree.Tree.named x es at) = let a = among_bound names few [] 0 es in omega arith
index_bound names few (tree.Tree.address x es at) = omega arith
index_bound names few (tree.Tree.unary op e at) = omega arith
index_bound names few (tree.Tree.binary op a b at) = omega arith
index_bound names few (tree.Tree.shift op e by at) = omega arith
index_bound names few (tree.Tree.field e start size at) = omega arith
index_bound names few (tree.Tree.transfer k e at) = omega arith
index_bound names few (tree.Tree.bytes op a b size at) = omega arith

target_bound : (names : Names) → HaveFewWords names → (to : Target) → target_most names to ≤ 63 * (height_target to + 1)
target_bound names few (stat.Target.plain r) = index_bound names few r
target_bound names few (stat.Target.field r start size) = index_bound names few r
target_bound names few (stat.Target.address x at) = omega arith

-- an index is one word
index_waits : (r : Tree) (k : ℕ) → behind_index r k ≤ k + 1
index_waits (tree.Tree.named x tree.Trees.none at) k = omega arith
index_waits (tree.Tree.named x (tree.Trees.and e es) at) k = omega arith
index_waits (tree.Tree.number v) k = omega arith
index_waits (tree.Tree.wide v) k = omega arith
index_waits (tree.Tree.text bytes) k = omega arith
index_waits (tree.Tree.truth b) k = omega arith
index_waits (tree.Tree.address x es at) k = omega arith
index_waits (tree.Tree.unary op e at) k = omega arith
index_waits (tree.Tree.binary op a b at) k = omega arith
index_waits (tree.Tree.shift op e by at) k = omega arith
index_waits (tree.Tree.field e start size at) k = omega arith
index_waits (tree.Tree.transfer to e at) k = omega arith
index_waits (tree.Tree.bytes op a b size at) k = omega arith

target_waits : (to : Target) (k : ℕ) → waiting to k ≤ k + 1
target_waits (stat.Target.plain r) k = index_waits r k
target_waits (stat.Target.field r start size) k = index_waits r k
target_waits (stat.Target.address x at) k = omega arith

-- addresses are two words, and three where the answer is used
first_waits : (used : Bool) (k : ℕ) → behind_first used k ≤ k + 2
first_waits true k = omega arith
first_waits false k = omega arith

second_waits : (used : Bool) (k : ℕ) → behind_second used k ≤ k + 3
second_waits true k = omega arith
second_waits false k = omega arith

source_bound : (names : Names) → HaveFewWords names → (used : Bool) (from : Source) → source_most names used from ≤ 63 * (height_source from + 1)
source_bound names few used (stat.Source.counted r size) =
    let x = expression_bound names few r in
    let y = expression_bound names few size in
    let a = first_waits used (most names r) in
    let b = second_waits used (most names size) in
    omega arith
source_bound names few used (stat.Source.text bytes) = omega arith
source_bound names few used (stat.Source.class_of r c) =
    let x = expression_bound names few r in let a = first_waits used (most names r) in omega arith

effect_bound : (names : Names) → HaveFewWords names → (used : Bool) (e : Effect) → effect_most names used e ≤ 63 * (height_effect e + 1)
effect_bound names few used (stat.Effect.move r from) = let x = expression_bound names few r in let y = source_bound names few used from in omega arith
effect_bound names few used (stat.Effect.scan r until e) =
    let x = expression_bound names few r in
    let y = expression_bound names few e in
    let a = first_waits used (most names e) in
    omega arith

test_bound : (names : Names) → HaveFewWords names → (q : Test) → test_most names q ≤ 63 * (height_test q + 1)
test_bound names few (stat.Test.condition e) = expression_bound names few e
test_bound names few (stat.Test.code op) = omega arith

step_bound : (names : Names) → HaveFewWords names → (es : Trees) → 1 + trees_most names es ≤ 63 * (height_among es + 1)
step_bound names few tree.Trees.none = omega arith
step_bound names few (tree.Trees.and e es) = let x = expression_bound names few e in omega arith

-- ---- statements

mutual
  statement_bound : (names : Names) → HaveFewWords names → (s : Statement) → statement_most names s ≤ 63 * (statement_height s + 1)
  statement_bound names few stat.Statement.empty = omega arith
  statement_bound names few (stat.Statement.labelled x at s) = statement_bound names few s
  statement_bound names few (stat.Statement.block ss) = statements_bound names few ss
  statement_bound names few (stat.Statement.if_test q then_part else_part at) =
      let x = test_bound names few q in
      let y = statement_bound names few then_part in
      let z = statements_bound names few else_part in
      omega arith
  statement_bound names few (stat.Statement.while_true q s at) =
      let x = expression_bound names few q in let y = statement_bound names few s in omega arith
  statement_bound names few (stat.Statement.until_true s q at) =
      let x = expression_bound names few q in let y = statement_bound names few s in omega arith
  statement_bound names few (stat.Statement.for_values x first step last s at) =
      let a = expression_bound names few first in
      let b = step_bound names few step in
      let c = expression_bound names few last in
      let d = statement_bound names few s in
      omega arith
  statement_bound names few (stat.Statement.case_of e ss at) =
      let x = expression_bound names few e in let y = statements_bound names few ss in omega arith
  statement_bound names few (stat.Statement.go_to x at) = omega arith
  statement_bound names few (stat.Statement.return at) = omega arith
  statement_bound names few (stat.Statement.assign to e at) =
      let x = target_bound names few to in
      let y = expression_bound names few e in
      let a = target_waits to (most names e) in
      omega arith
  statement_bound names few (stat.Statement.assign_effect to e at) =
      let x = target_bound names few to in
      let y = effect_bound names few true e in
      let a = target_waits to (effect_most names true e) in
      omega arith
  statement_bound names few (stat.Statement.do_effect e at) = effect_bound names few false e
  statement_bound names few (stat.Statement.call x es at) = expression_bound names few (tree.Tree.named x es at)

  pub statements_bound : (names : Names) → HaveFewWords names → (ss : Statements) → statements_most names ss ≤ 63 * (statements_height ss + 1)
  statements_bound names few stat.Statements.none = omega arith
  statements_bound names few (stat.Statements.and s ss) =
      let x = statement_bound names few s in let y = statements_bound names few ss in omega arith

pub few_words : PartsHaveFewWords
few_words names ss few = statements_bound names few ss

-- 63 words of each of 970 parts, and 8 more
pub depths_fit : DepthsFit
depths_fit names ss few low = let x = statements_bound names few ss in omega arith
