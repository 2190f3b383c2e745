-- Depths cover the uses of names.
use Rattle.std.proofs.Common.{ℕ, ◌≡◌, ◌≤◌, ◌+◌, Bool, true, false, List, [], ◌∷◌, ◌++◌, refl, subst, arith}
use Rattle.std.specs.Prelude.{max}
use Rattle.std.proofs.Math.Nat.{le-max_left, le-max_right}
use Rattle.spl_meaning.specs.spl_tree.Trees as tree
use Rattle.spl_meaning.specs.spl_tree.Trees.{Tree, Trees}
use Rattle.spl_meaning.specs.spl_tree.StatementTrees as stat
use Rattle.spl_meaning.specs.spl_tree.StatementTrees.{Statement, Statements, Target, Source, Effect, Test}
use Rattle.spl_meaning.specs.Names.{Names, Formal}
use Rattle.spl_meaning.specs.Kinds.{callable}
use Rattle.spl_meaning.specs.Pending.{first_formal, other_formals, argument_words, profile_formals, profile_result_words, link_words, formals_words, left_words, most, most_of, behind_index, waiting, index_most, target_most, behind_first, behind_second, effect_most, test_most, trees_most, statement_most, statements_most}
use Rattle.spl_meaning.specs.Limits.{Use, uses, uses_among, index_uses, target_uses, effect_uses, test_uses, step_uses, statement_uses, statements_uses}
use Rattle.spl_frames.specs.Waiting.{WaitWithin, DepthsCoverUses}

-- ---- lists of uses

within_append : (m : ℕ) (us vs : List Use) → WaitWithin m us → WaitWithin m vs → WaitWithin m (us ++ vs)
within_append m [] vs p q = q
within_append m (u ∷ us) vs p q = (p.0, within_append m us vs p.1 q)

within_more : (m n : ℕ) (us : List Use) → m ≤ n → WaitWithin m us → WaitWithin n us
within_more m n [] l p = tt
within_more m n (u ∷ us) l p = (omega (arith, l, p.0), within_more m n us l p.1)

-- ---- expressions, where so many words wait at most

-- the same at an equal number
among_moved : (names : Names) (fs : List Formal) (es : Trees) (k m n : ℕ) → k ≡ m → WaitWithin n (uses_among names fs es k)
    → WaitWithin n (uses_among names fs es m)
among_moved names fs es k m n e p = subst (λ (i : ℕ). WaitWithin n (uses_among names fs es i)) e p

mutual
  uses_wait : (names : Names) (e : Tree) (k n : ℕ) → k + most names e ≤ n → WaitWithin n (uses names e k)
  uses_wait names (tree.Tree.number v) k n l = tt
  uses_wait names (tree.Tree.wide v) k n l = tt
  uses_wait names (tree.Tree.text bytes) k n l = tt
  uses_wait names (tree.Tree.truth b) k n l = tt
  uses_wait names (tree.Tree.named x es at) k n l =
      let p = callable (names x) in
      let m = le-max_left (most_of names (profile_formals p) (profile_result_words p) es)
      (profile_result_words p + formals_words (profile_formals p) + link_words (names x)) in
      (omega (arith, l), among_wait names (profile_formals p) es k (profile_result_words p) n (omega (arith, l, m)))
  uses_wait names (tree.Tree.address x es at) k n l =
      (omega (arith, l), among_moved names [] es (k + 0) k n (omega arith) (among_wait names [] es k 0 n l))
  uses_wait names (tree.Tree.unary op e at) k n l = uses_wait names e k n l
  uses_wait names (tree.Tree.binary op a b at) k n l =
      let f = le-max_left (most names a) (left_words names op a b + most names b) in
      let g = le-max_right (most names a) (left_words names op a b + most names b) in
      within_append n (uses names a k) (uses names b (k + left_words names op a b)) (uses_wait names a k n (omega (arith, l, f)))
      (uses_wait names b (k + left_words names op a b) n (omega (arith, l, g)))
  uses_wait names (tree.Tree.shift op e by at) k n l = uses_wait names e k n l
  uses_wait names (tree.Tree.field e start size at) k n l = uses_wait names e k n l
  uses_wait names (tree.Tree.transfer to e at) k n l = uses_wait names e k n l
  uses_wait names (tree.Tree.bytes op a b count at) k n l =
      let f = le-max_left (most names a) (max (1 + most names b) (2 + most names count)) in
      let g = le-max_right (most names a) (max (1 + most names b) (2 + most names count)) in
      let i = le-max_left (1 + most names b) (2 + most names count) in
      let j = le-max_right (1 + most names b) (2 + most names count) in
      within_append n (uses names a k ++ uses names b (k + 1)) (uses names count (k + 2))
      (within_append n (uses names a k) (uses names b (k + 1)) (uses_wait names a k n (omega (arith, l, f)))
      (uses_wait names b (k + 1) n (omega (arith, l, g, i))))
      (uses_wait names count (k + 2) n (omega (arith, l, g, j)))

  -- arguments, with k words before the call and j of it
  among_wait : (names : Names) (fs : List Formal) (es : Trees) (k j n : ℕ) → k + most_of names fs j es ≤ n
      → WaitWithin n (uses_among names fs es (k + j))
  among_wait names fs tree.Trees.none k j n l = tt
  among_wait names fs (tree.Trees.and e es) k j n l =
      let w = argument_words (first_formal fs) in
      let f = le-max_left (j + most names e) (most_of names (other_formals fs) (j + w) es) in
      let g = le-max_right (j + most names e) (most_of names (other_formals fs) (j + w) es) in
      within_append n (uses names e (k + j)) (uses_among names (other_formals fs) es (k + j + w)) (uses_wait names e (k + j) n (omega (arith, l, f)))
      (among_moved names (other_formals fs) es (k + (j + w)) (k + j + w) n (omega arith)
      (among_wait names (other_formals fs) es k (j + w) n (omega (arith, l, g))))

-- where the call has none
among_zero : (names : Names) (fs : List Formal) (es : Trees) (k n : ℕ) → k + most_of names fs 0 es ≤ n → WaitWithin n (uses_among names fs es k)
among_zero names fs es k n l = among_moved names fs es (k + 0) k n (omega arith) (among_wait names fs es k 0 n l)

-- ---- parts of statements

index_wait : (names : Names) (r : Tree) (k n : ℕ) → k + index_most names r ≤ n → WaitWithin n (index_uses names r k)
index_wait names (tree.Tree.named x es at) k n l = (omega (arith, l), among_zero names [] es k n l)
index_wait names (tree.Tree.number v) k n l = tt
index_wait names (tree.Tree.wide v) k n l = tt
index_wait names (tree.Tree.text bytes) k n l = tt
index_wait names (tree.Tree.truth b) k n l = tt
index_wait names (tree.Tree.address x es at) k n l = tt
index_wait names (tree.Tree.unary op e at) k n l = tt
index_wait names (tree.Tree.binary op a b at) k n l = tt
index_wait names (tree.Tree.shift op e c at) k n l = tt
index_wait names (tree.Tree.field e start size at) k n l = tt
index_wait names (tree.Tree.transfer to e at) k n l = tt
index_wait names (tree.Tree.bytes op a b count at) k n l = tt

target_wait : (names : Names) (to : Target) (k n : ℕ) → k + target_most names to ≤ n → WaitWithin n (target_uses names to k)
target_wait names (stat.Target.plain r) k n l = index_wait names r k n l
target_wait names (stat.Target.field r start size) k n l = index_wait names r k n l
target_wait names (stat.Target.address x at) k n l = (omega (arith, l), tt)

-- what waits behind an index, or behind addresses, waits before it too
pub waiting_is : (to : Target) → (j : ℕ) × ((k : ℕ) → waiting to k ≡ k + j)
waiting_is to = by to
  where
    index : (r : Tree) → (j : ℕ) × ((k : ℕ) → behind_index r k ≡ k + j)
    index (tree.Tree.named x (tree.Trees.and e es) at) = (1, λ k. refl)
    index (tree.Tree.named x tree.Trees.none at) = (0, λ k. omega arith)
    index (tree.Tree.number v) = (0, λ k. omega arith)
    index (tree.Tree.wide v) = (0, λ k. omega arith)
    index (tree.Tree.text bytes) = (0, λ k. omega arith)
    index (tree.Tree.truth b) = (0, λ k. omega arith)
    index (tree.Tree.address x es at) = (0, λ k. omega arith)
    index (tree.Tree.unary op e at) = (0, λ k. omega arith)
    index (tree.Tree.binary op a b at) = (0, λ k. omega arith)
    index (tree.Tree.shift op e c at) = (0, λ k. omega arith)
    index (tree.Tree.field e start size at) = (0, λ k. omega arith)
    index (tree.Tree.transfer to e at) = (0, λ k. omega arith)
    index (tree.Tree.bytes op a b count at) = (0, λ k. omega arith)

    by : (to : Target) → (j : ℕ) × ((k : ℕ) → waiting to k ≡ k + j)
    by (stat.Target.plain r) = index r
    by (stat.Target.field r start size) = index r
    by (stat.Target.address x at) = (0, λ k. omega arith)

pub first_is : (used : Bool) → (j : ℕ) × ((k : ℕ) → behind_first used k ≡ k + j)
first_is true = (2, λ k. refl)
first_is false = (1, λ k. refl)

pub second_is : (used : Bool) → (j : ℕ) × ((k : ℕ) → behind_second used k ≡ k + j)
second_is true = (3, λ k. refl)
second_is false = (2, λ k. refl)

effect_wait : (names : Names) (used : Bool) (e : Effect) (k n : ℕ) → k + effect_most names used e ≤ n → WaitWithin n (effect_uses names used e k)
effect_wait names used (stat.Effect.move to (stat.Source.counted from size)) k n l =
    let a = first_is used in
    let b = second_is used in
    let first = behind_first used (most names from) in
    let second = behind_second used (most names size) in
    let f = le-max_left (most names to) (max first second) in
    let g = le-max_right (most names to) (max first second) in
    let i = le-max_left first second in
    let j = le-max_right first second in
    let a0 = a.1 k in let a1 = a.1 (most names from) in let b0 = b.1 k in let b1 = b.1 (most names size) in
    within_append n (uses names to k ++ uses names from (behind_first used k)) (uses names size (behind_second used k))
    (within_append n (uses names to k) (uses names from (behind_first used k)) (uses_wait names to k n (omega (arith, l, f)))
    (uses_wait names from (behind_first used k) n (omega (arith, l, g, i, a0, a1))))
    (uses_wait names size (behind_second used k) n (omega (arith, l, g, j, b0, b1)))
effect_wait names used (stat.Effect.move to (stat.Source.text bytes)) k n l =
    let f = le-max_left (most names to) 0 in uses_wait names to k n (omega (arith, l, f))
effect_wait names used (stat.Effect.move to (stat.Source.class_of from c)) k n l =
    let a = first_is used in
    let first = behind_first used (most names from) in
    let f = le-max_left (most names to) first in
    let g = le-max_right (most names to) first in
    let a0 = a.1 k in let a1 = a.1 (most names from) in
    within_append n (uses names to k) (uses names from (behind_first used k)) (uses_wait names to k n (omega (arith, l, f)))
    (uses_wait names from (behind_first used k) n (omega (arith, l, g, a0, a1)))
effect_wait names used (stat.Effect.scan from until e) k n l =
    let a = first_is used in
    let first = behind_first used (most names e) in
    let f = le-max_left (most names from) first in
    let g = le-max_right (most names from) first in
    let a0 = a.1 k in let a1 = a.1 (most names e) in
    within_append n (uses names from k) (uses names e (behind_first used k)) (uses_wait names from k n (omega (arith, l, f)))
    (uses_wait names e (behind_first used k) n (omega (arith, l, g, a0, a1)))

test_wait : (names : Names) (q : Test) (k n : ℕ) → k + test_most names q ≤ n → WaitWithin n (test_uses names q k)
test_wait names (stat.Test.condition e) k n l = uses_wait names e k n l
test_wait names (stat.Test.code op) k n l = tt

step_wait : (names : Names) (es : Trees) (k n : ℕ) → k + trees_most names es ≤ n → WaitWithin n (step_uses names es k)
step_wait names tree.Trees.none k n l = tt
step_wait names (tree.Trees.and e es) k n l = uses_wait names e k n l

-- ---- statements

mutual
  statement_wait : (names : Names) (st : Statement) (k n : ℕ) → k + statement_most names st ≤ n → WaitWithin n (statement_uses names st k)
  statement_wait names stat.Statement.empty k n l = tt
  statement_wait names (stat.Statement.labelled x at s) k n l = statement_wait names s k n l
  statement_wait names (stat.Statement.block ss) k n l = list_wait names ss k n l
  statement_wait names (stat.Statement.if_test q then_part else_part at) k n l =
      let r = max (statement_most names then_part) (statements_most names else_part) in
      let f = le-max_left (test_most names q) r in
      let g = le-max_right (test_most names q) r in
      let i = le-max_left (statement_most names then_part) (statements_most names else_part) in
      let j = le-max_right (statement_most names then_part) (statements_most names else_part) in
      within_append n (test_uses names q k ++ statement_uses names then_part k) (statements_uses names else_part k)
      (within_append n (test_uses names q k) (statement_uses names then_part k) (test_wait names q k n (omega (arith, l, f)))
      (statement_wait names then_part k n (omega (arith, l, g, i))))
      (list_wait names else_part k n (omega (arith, l, g, j)))
  statement_wait names (stat.Statement.while_true e s at) k n l =
      let f = le-max_left (most names e) (statement_most names s) in
      let g = le-max_right (most names e) (statement_most names s) in
      within_append n (uses names e k) (statement_uses names s k) (uses_wait names e k n (omega (arith, l, f)))
      (statement_wait names s k n (omega (arith, l, g)))
  statement_wait names (stat.Statement.until_true s e at) k n l =
      let f = le-max_left (statement_most names s) (most names e) in
      let g = le-max_right (statement_most names s) (most names e) in
      within_append n (statement_uses names s k) (uses names e k) (statement_wait names s k n (omega (arith, l, f)))
      (uses_wait names e k n (omega (arith, l, g)))
  statement_wait names (stat.Statement.for_values x first step last s at) k n l =
      let c = 3 + statement_most names s in
      let b = max (2 + most names last) c in
      let a = max (1 + trees_most names step) b in
      let f = le-max_left (most names first) a in
      let g = le-max_right (most names first) a in
      let i = le-max_left (1 + trees_most names step) b in
      let j = le-max_right (1 + trees_most names step) b in
      let p = le-max_left (2 + most names last) c in
      let q = le-max_right (2 + most names last) c in (
        omega (arith, l),
        within_append n (uses names first k ++ step_uses names step (k + 1) ++ uses names last (k + 2)) (statement_uses names s (k + 3))
            (within_append n (uses names first k ++ step_uses names step (k + 1)) (uses names last (k + 2))
            (within_append n (uses names first k) (step_uses names step (k + 1)) (uses_wait names first k n (omega (arith, l, f)))
            (step_wait names step (k + 1) n (omega (arith, l, g, i))))
            (uses_wait names last (k + 2) n (omega (arith, l, g, j, p))))
            (statement_wait names s (k + 3) n (omega (arith, l, g, j, q))),
      )
  statement_wait names (stat.Statement.case_of e ss at) k n l =
      let f = le-max_left (most names e) (statements_most names ss) in
      let g = le-max_right (most names e) (statements_most names ss) in
      within_append n (uses names e k) (statements_uses names ss k) (uses_wait names e k n (omega (arith, l, f)))
      (list_wait names ss k n (omega (arith, l, g)))
  statement_wait names (stat.Statement.go_to x at) k n l = tt
  statement_wait names (stat.Statement.return at) k n l = tt
  statement_wait names (stat.Statement.assign to e at) k n l =
      let w = waiting_is to in
      let f = le-max_left (target_most names to) (waiting to (most names e)) in
      let g = le-max_right (target_most names to) (waiting to (most names e)) in
      let a = w.1 k in let b = w.1 (most names e) in
      within_append n (target_uses names to k) (uses names e (waiting to k)) (target_wait names to k n (omega (arith, l, f)))
      (uses_wait names e (waiting to k) n (omega (arith, l, g, a, b)))
  statement_wait names (stat.Statement.assign_effect to e at) k n l =
      let w = waiting_is to in
      let f = le-max_left (target_most names to) (waiting to (effect_most names true e)) in
      let g = le-max_right (target_most names to) (waiting to (effect_most names true e)) in
      let a = w.1 k in let b = w.1 (effect_most names true e) in
      within_append n (target_uses names to k) (effect_uses names true e (waiting to k)) (target_wait names to k n (omega (arith, l, f)))
      (effect_wait names true e (waiting to k) n (omega (arith, l, g, a, b)))
  statement_wait names (stat.Statement.do_effect e at) k n l = effect_wait names false e k n l
  statement_wait names (stat.Statement.call x es at) k n l = uses_wait names (tree.Tree.named x es at) k n l

  list_wait : (names : Names) (ss : Statements) (k n : ℕ) → k + statements_most names ss ≤ n → WaitWithin n (statements_uses names ss k)
  list_wait names stat.Statements.none k n l = tt
  list_wait names (stat.Statements.and s ss) k n l =
      let f = le-max_left (statement_most names s) (statements_most names ss) in
      let g = le-max_right (statement_most names s) (statements_most names ss) in
      within_append n (statement_uses names s k) (statements_uses names ss k) (statement_wait names s k n (omega (arith, l, f)))
      (list_wait names ss k n (omega (arith, l, g)))

pub cover_uses : DepthsCoverUses
cover_uses = record {
  values = λ names e k. uses_wait names e k (k + most names e) (omega arith);
  statements = λ names st k. statement_wait names st k (k + statement_most names st) (omega arith);
  lists = λ names ss k. list_wait names ss k (k + statements_most names ss) (omega arith);
}
