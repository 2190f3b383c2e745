-- What is found along a statement is the first of the limits that its uses pass.
-- 1. the first of two lists is that of the second behind the first (among_then)
-- 2. along the tree, for uses in the order of the definition (reached_is, statement_is)
-- 3. a name stands where the definition has it (below_is), so the limits are the definition's (first_use)
-- 4. a subroutine's heading comes before its statement (first_in_body)
use Rattle.std.proofs.Common.{◌≡◌, ℕ, ◌+◌, Bool, true, false, List, [], ◌∷◌, ◌++◌, Option, Some, None, refl, sym, ap, ◌∙◌, append_assoc, arith}
use Rattle.std.specs.Prelude.{if◌then◌else◌, option_map}
use Rattle.spl_tree.specs.Trees as tree
use Rattle.spl_tree.specs.Trees.{Tree, Trees}
use Rattle.spl_tree.specs.StatementTrees as stat
use Rattle.spl_tree.specs.StatementTrees.{Statement, Statements, Target, Source, Effect, Test}
use Rattle.spl_tree.specs.DeclarationTrees.{Heading}
use Rattle.spl_sorts.specs.spl_meaning.Names.{Names, Formal, find, or_else, same_name, profile_of, formals_of}
use Rattle.spl_sorts.specs.spl_meaning.Kinds.{callable}
use Rattle.spl_sorts.specs.spl_meaning.Places.{Place, below_return}
use Rattle.spl_sorts.specs.spl_meaning.Pending.{formal_words, formals_words, result_words, first_formal, other_formals, argument_words, profile_formals, profile_result_words, left_words, waiting, behind_first, behind_second}
use Rattle.spl_sorts.specs.spl_meaning.Bodies.{parameter_places}
use Rattle.spl_sorts.specs.spl_meaning.Limits.{Full, Use, use_of, first_among, sooner_full, joined, reach_by, use_limits, heading_limits, place_used, words_below, uses, uses_among, index_uses, target_uses, effect_uses, test_uses, step_uses, statement_uses, statements_uses}
use Rattle.spl_depths.specs.Reach.{Reach, parameters_below, result_below, reach_of, reached_by}
use Rattle.spl_depths.specs.Reached.{reached, reached_among, reached_index, reached_target, reached_effect, reached_test, reached_step, reached_statement, reached_statements}
use Rattle.spl_depths.specs.ReachLaws.{FirstUseIsFound, body_limits}

-- ---- lists one behind the other

pub among_then : (f : Option Full) (xs ys : List Full) → first_among f (xs ++ ys) ≡ first_among (first_among f xs) ys
among_then f [] ys = refl
among_then f (x ∷ xs) ys = among_then (sooner_full f x) xs ys

joined_then : {A B : Type 0} (g : A → List B) (xs ys : List A) → joined g (xs ++ ys) ≡ joined g xs ++ joined g ys
joined_then g [] ys = refl
joined_then g (x ∷ xs) ys = ap (λ l. g x ++ l) (joined_then g xs ys) ∙ sym (append_assoc (g x) (joined g xs) (joined g ys))

-- the limit that a use passes
abbrev limits_by : Reach → Use → List Full
limits_by r u = reach_by u (r u.name u.is_target)

-- a use before others
front : (r : Reach) (u : Use) (us : List Use) (f h : Option Full) → h ≡ first_among (reached_by r u f) (joined (limits_by r) us)
    → h ≡ first_among f (joined (limits_by r) (u ∷ us))
front r u us f h e = e ∙ sym (among_then f (limits_by r u) (joined (limits_by r) us))

-- uses behind others
both : (r : Reach) (us vs : List Use) (f g h : Option Full) → g ≡ first_among f (joined (limits_by r) us) → h ≡ first_among g (joined (limits_by r) vs)
    → h ≡ first_among f (joined (limits_by r) (us ++ vs))
both r us vs f g h d e =
    e ∙ ap (λ (o : Option Full). first_among o (joined (limits_by r) vs)) d
    ∙ sym (among_then f (joined (limits_by r) us) (joined (limits_by r) vs))
    ∙ ap (first_among f) (sym (joined_then (limits_by r) us vs))

-- ---- expressions

mutual
  unfolding reached

  reached_is : (names : Names) (r : Reach) (e : Tree) (k : ℕ) (f : Option Full) → reached names r e k f ≡ first_among f (joined (limits_by r) (uses names e k))
  reached_is names r (tree.Tree.number v) k f = refl
  reached_is names r (tree.Tree.wide v) k f = refl
  reached_is names r (tree.Tree.text bytes) k f = refl
  reached_is names r (tree.Tree.truth b) k f = refl
  reached_is names r (tree.Tree.named x es at) k f =
      front r (use_of x at k false) (uses_among names (profile_formals (callable (names x))) es (k + profile_result_words (callable (names x)))) f _
      (among_is names r (profile_formals (callable (names x))) es (k + profile_result_words (callable (names x))) (reached_by r (use_of x at k false) f))
  reached_is names r (tree.Tree.address x es at) k f =
      front r (use_of x at k false) (uses_among names [] es k) f _ (among_is names r [] es k (reached_by r (use_of x at k false) f))
  reached_is names r (tree.Tree.unary op e at) k f = reached_is names r e k f
  reached_is names r (tree.Tree.binary op a b at) k f =
      both r (uses names a k) (uses names b (k + left_words names op a b)) f (reached names r a k f) _ (reached_is names r a k f)
      (reached_is names r b (k + left_words names op a b) (reached names r a k f))
  reached_is names r (tree.Tree.shift op e by at) k f = reached_is names r e k f
  reached_is names r (tree.Tree.field e start size at) k f = reached_is names r e k f
  reached_is names r (tree.Tree.transfer to e at) k f = reached_is names r e k f
  reached_is names r (tree.Tree.bytes op a b size at) k f =
      let g = reached names r a k f in
      let h = reached names r b (k + 1) g in
      both r (uses names a k ++ uses names b (k + 1)) (uses names size (k + 2)) f h _
      (both r (uses names a k) (uses names b (k + 1)) f g h (reached_is names r a k f) (reached_is names r b (k + 1) g))
      (reached_is names r size (k + 2) h)

  among_is : (names : Names) (r : Reach) (fs : List Formal) (es : Trees) (k : ℕ) (f : Option Full)
      → reached_among names r fs es k f ≡ first_among f (joined (limits_by r) (uses_among names fs es k))
  among_is names r fs tree.Trees.none k f = refl
  among_is names r fs (tree.Trees.and e es) k f =
      both r (uses names e k) (uses_among names (other_formals fs) es (k + argument_words (first_formal fs))) f (reached names r e k f) _
      (reached_is names r e k f) (among_is names r (other_formals fs) es (k + argument_words (first_formal fs)) (reached names r e k f))

-- ---- parts of statements

index_is : (names : Names) (r : Reach) (e : Tree) (k : ℕ) (f : Option Full) → reached_index names r e k f ≡ first_among f (joined (limits_by r) (index_uses names e k))
index_is names r (tree.Tree.number v) k f = refl
index_is names r (tree.Tree.wide v) k f = refl
index_is names r (tree.Tree.text bytes) k f = refl
index_is names r (tree.Tree.truth b) k f = refl
index_is names r (tree.Tree.named x es at) k f =
    front r (use_of x at k true) (uses_among names [] es k) f _ (among_is names r [] es k (reached_by r (use_of x at k true) f))
index_is names r (tree.Tree.address x es at) k f = refl
index_is names r (tree.Tree.unary op e at) k f = refl
index_is names r (tree.Tree.binary op a b at) k f = refl
index_is names r (tree.Tree.shift op e by at) k f = refl
index_is names r (tree.Tree.field e start size at) k f = refl
index_is names r (tree.Tree.transfer to e at) k f = refl
index_is names r (tree.Tree.bytes op a b size at) k f = refl

target_is : (names : Names) (r : Reach) (to : Target) (k : ℕ) (f : Option Full)
    → reached_target names r to k f ≡ first_among f (joined (limits_by r) (target_uses names to k))
target_is names r (stat.Target.plain e) k f = index_is names r e k f
target_is names r (stat.Target.field e start size) k f = index_is names r e k f
target_is names r (stat.Target.address x at) k f = front r (use_of x at k true) [] f _ refl

effect_is : (names : Names) (r : Reach) (used : Bool) (e : Effect) (k : ℕ) (f : Option Full)
    → reached_effect names r used e k f ≡ first_among f (joined (limits_by r) (effect_uses names used e k))
effect_is names r used (stat.Effect.move to (stat.Source.counted from size)) k f =
    let g = reached names r to k f in
    let h = reached names r from (behind_first used k) g in
    both r (uses names to k ++ uses names from (behind_first used k)) (uses names size (behind_second used k)) f h _
    (both r (uses names to k) (uses names from (behind_first used k)) f g h (reached_is names r to k f) (reached_is names r from (behind_first used k) g))
    (reached_is names r size (behind_second used k) h)
effect_is names r used (stat.Effect.move to (stat.Source.text bytes)) k f = reached_is names r to k f
effect_is names r used (stat.Effect.move to (stat.Source.class_of from c)) k f =
    both r (uses names to k) (uses names from (behind_first used k)) f (reached names r to k f) _ (reached_is names r to k f)
    (reached_is names r from (behind_first used k) (reached names r to k f))
effect_is names r used (stat.Effect.scan from until e) k f =
    both r (uses names from k) (uses names e (behind_first used k)) f (reached names r from k f) _ (reached_is names r from k f)
    (reached_is names r e (behind_first used k) (reached names r from k f))

test_is : (names : Names) (r : Reach) (q : Test) (k : ℕ) (f : Option Full)
    → reached_test names r q k f ≡ first_among f (joined (limits_by r) (test_uses names q k))
test_is names r (stat.Test.condition e) k f = reached_is names r e k f
test_is names r (stat.Test.code op) k f = refl

step_is : (names : Names) (r : Reach) (es : Trees) (k : ℕ) (f : Option Full)
    → reached_step names r es k f ≡ first_among f (joined (limits_by r) (step_uses names es k))
step_is names r tree.Trees.none k f = refl
step_is names r (tree.Trees.and e es) k f = reached_is names r e k f

-- ---- statements

mutual
  unfolding reached_statement

  statement_is : (names : Names) (r : Reach) (s : Statement) (k : ℕ) (f : Option Full)
      → reached_statement names r s k f ≡ first_among f (joined (limits_by r) (statement_uses names s k))
  statement_is names r stat.Statement.empty k f = refl
  statement_is names r (stat.Statement.labelled x at s) k f = statement_is names r s k f
  statement_is names r (stat.Statement.block ss) k f = statements_is names r ss k f
  statement_is names r (stat.Statement.if_test q then_part else_part at) k f =
      let g = reached_test names r q k f in
      let h = reached_statement names r then_part k g in
      both r (test_uses names q k ++ statement_uses names then_part k) (statements_uses names else_part k) f h _
      (both r (test_uses names q k) (statement_uses names then_part k) f g h (test_is names r q k f) (statement_is names r then_part k g))
      (statements_is names r else_part k h)
  statement_is names r (stat.Statement.while_true e s at) k f =
      both r (uses names e k) (statement_uses names s k) f (reached names r e k f) _ (reached_is names r e k f)
      (statement_is names r s k (reached names r e k f))
  statement_is names r (stat.Statement.until_true s e at) k f =
      both r (statement_uses names s k) (uses names e k) f (reached_statement names r s k f) _ (statement_is names r s k f)
      (reached_is names r e k (reached_statement names r s k f))
  statement_is names r (stat.Statement.for_values x first step last s at) k f =
      let counted = reached_by r (use_of x at k true) f in
      let begun = reached names r first k counted in
      let stepped = reached_step names r step (k + 1) begun in
      let ended = reached names r last (k + 2) stepped in
      front r (use_of x at k true) (uses names first k ++ step_uses names step (k + 1) ++ uses names last (k + 2) ++ statement_uses names s (k + 3)) f _
      (both r (uses names first k ++ step_uses names step (k + 1) ++ uses names last (k + 2)) (statement_uses names s (k + 3)) counted ended _
      (both r (uses names first k ++ step_uses names step (k + 1)) (uses names last (k + 2)) counted stepped ended
      (both r (uses names first k) (step_uses names step (k + 1)) counted begun stepped (reached_is names r first k counted)
      (step_is names r step (k + 1) begun)) (reached_is names r last (k + 2) stepped)) (statement_is names r s (k + 3) ended))
  statement_is names r (stat.Statement.case_of e ss at) k f =
      both r (uses names e k) (statements_uses names ss k) f (reached names r e k f) _ (reached_is names r e k f)
      (statements_is names r ss k (reached names r e k f))
  statement_is names r (stat.Statement.go_to x at) k f = refl
  statement_is names r (stat.Statement.return at) k f = refl
  statement_is names r (stat.Statement.assign to e at) k f =
      both r (target_uses names to k) (uses names e (waiting to k)) f (reached_target names r to k f) _ (target_is names r to k f)
      (reached_is names r e (waiting to k) (reached_target names r to k f))
  statement_is names r (stat.Statement.assign_effect to e at) k f =
      both r (target_uses names to k) (effect_uses names true e (waiting to k)) f (reached_target names r to k f) _ (target_is names r to k f)
      (effect_is names r true e (waiting to k) (reached_target names r to k f))
  statement_is names r (stat.Statement.do_effect e at) k f = effect_is names r false e k f
  statement_is names r (stat.Statement.call x es at) k f =
      front r (use_of x at k false) (uses_among names (profile_formals (callable (names x))) es (k + profile_result_words (callable (names x)))) f _
      (among_is names r (profile_formals (callable (names x))) es (k + profile_result_words (callable (names x))) (reached_by r (use_of x at k false) f))

  statements_is : (names : Names) (r : Reach) (ss : Statements) (k : ℕ) (f : Option Full)
      → reached_statements names r ss k f ≡ first_among f (joined (limits_by r) (statements_uses names ss k))
  statements_is names r stat.Statements.none k f = refl
  statements_is names r (stat.Statements.and s ss) k f =
      both r (statement_uses names s k) (statements_uses names ss k) f (reached_statement names r s k f) _ (statement_is names r s k f)
      (statements_is names r ss k (reached_statement names r s k f))

-- ---- where names stand

-- with no word between the last parameter and the return word
none_before : (a b : ℕ) → a + b ≡ 0 + a + b
none_before a b = omega arith

-- a parameter
parameter_is : (fs : List Formal) (x : List ℕ) → find (parameter_places below_return 0 fs) x ≡ option_map below_return (find (parameters_below fs) x)
parameter_is [] x = refl
parameter_is (f ∷ fs) x = by (same_name x f.name) (parameter_is fs x)
  where
    by : (b : Bool) → find (parameter_places below_return 0 fs) x ≡ option_map below_return (find (parameters_below fs) x)
        → (if b then Some (below_return (0 + formal_words f + formals_words fs)) else find (parameter_places below_return 0 fs) x)
        ≡ option_map below_return (if b then Some (formal_words f + formals_words fs) else find (parameters_below fs) x)
    by true h = ap (λ (n : ℕ). Some (below_return n)) (sym (none_before (formal_words f) (formals_words fs)))
    by false h = h

-- a parameter or the result
below_is : (h : Heading) (u : Use)
    → reach_of h.name (profile_of h) u.name u.is_target ≡ words_below (place_used h u (find (parameter_places below_return 0 (formals_of h)) u.name))
below_is h u =
    by (find (parameters_below (formals_of h)) u.name)
    ∙ ap (λ (p : Option Place). words_below (place_used h u p)) (sym (parameter_is (formals_of h) u.name))
  where
    result : ℕ
    result = formals_words (formals_of h) + result_words (profile_of h)

    named : (t b : Bool) → (if t then (if b then Some result else None) else None)
        ≡ words_below (if t then (if b then Some (below_return (0 + formals_words (formals_of h) + result_words (profile_of h))) else None) else None)
    named true true = ap Some (none_before (formals_words (formals_of h)) (result_words (profile_of h)))
    named true false = refl
    named false b = refl

    target : (t : Bool) → result_below h.name result u.name t ≡ (if t then (if same_name u.name h.name then Some result else None) else None)
    target true = refl
    target false = refl

    by : (o : Option ℕ) → or_else o (result_below h.name result u.name u.is_target) ≡ words_below (place_used h u (option_map below_return o))
    by (Some n) = refl
    by None = target u.is_target ∙ named u.is_target (same_name u.name h.name)

-- the limit that a use passes
use_is : (h : Heading) → limits_by (reach_of h.name (profile_of h)) ≡ use_limits h
use_is h i u = reach_by u (below_is h u i)

-- along a statement
pub first_use : FirstUseIsFound
first_use h names s k f =
    statement_is names (reach_of h.name (profile_of h)) s k f
    ∙ ap (λ (g : Use → List Full). first_among f (joined g (statement_uses names s k))) (use_is h)

-- and behind its subroutine's heading
pub first_in_body : (h : Heading) (names : Names) (s : Statement) (r : Reach) (e f g : Option Full) → r ≡ reach_of h.name (profile_of h)
    → f ≡ first_among e (heading_limits h) → g ≡ reached_statement names r s 0 f → g ≡ first_among e (body_limits h names s)
first_in_body h names s r e f g reach headed walked =
    walked ∙ ap (λ (t : Reach). reached_statement names t s 0 f) reach ∙ first_use h names s 0 f
    ∙ ap (λ (o : Option Full). first_among o (joined (use_limits h) (statement_uses names s 0))) headed
    ∙ sym (among_then e (heading_limits h) (joined (use_limits h) (statement_uses names s 0)))
