-- Values are steady, where calls are.
use Rattle.std.proofs.Common.{ℕ, ◌+◌, ◌%◌, ◌==◌, List, [], ◌∷◌, ◌++◌, Option, Some, None, arith}
use Rattle.std.specs.Prelude.{ℤ}
use Rattle.spl_meaning.specs.hp_word.Words.{word_of}
use Rattle.spl_meaning.proofs.hp_word_proofs.WordLaws.{word_of-below}
use Rattle.spl_meaning.specs.spl_tree.Trees as tree
use Rattle.spl_meaning.specs.spl_tree.Trees.{Tree, Trees}
use Rattle.spl_meaning.specs.Names.{Formal, Profile, text_value, truth_word, intrinsic_profile}
use Rattle.spl_meaning.specs.Kinds.{kind_of, operand_width, is_connective, compares_text, relation_number, or_operator}
use Rattle.spl_meaning.specs.Pending.{by_value, result_words, formal_words}
use Rattle.spl_meaning.specs.States.{State, Outcome, done, then_go}
use Rattle.spl_meaning.specs.References.{Here, Located, read, locate}
use Rattle.spl_meaning.specs.Operations.{is_odd}
use Rattle.spl_meaning.specs.Elements.{with_one}
use Rattle.spl_meaning.specs.Values.{Who, Callee, Sense, a_constant, an_intrinsic, a_call, a_variable, sense_of, small_constant, text_done, constant_done, as_index, named_value, address_done, connected, text_bytes, argument, value, located, index, arguments}
use Rattle.spl_frames.specs.Words.{AllOf}
use Rattle.spl_frames.proofs.Steady.{Knowledge, Any, Steady, steady_give, steady_done, steady_word_of, steady_lost, steady_go, steady_step, steady_if, steady_dropped, all_append}
use Rattle.spl_frames.proofs.FrameReferences.{steady_read, steady_locate}
use Rattle.spl_frames.proofs.FrameOperations.{steady_truth, steady_double, steady_joined, steady_signed, steady_shift, steady_field, steady_transferred, steady_passed_value}
use Rattle.spl_frames.proofs.FrameElements.{steady_one, steady_compared_by, steady_compared_text, steady_relation_told, steady_served}

-- calls are steady
abbrev pub SteadyCalls : Knowledge → Callee → Type 0
SteadyCalls v c = (who : Who) (ws : List ℕ) (k : ℕ) → AllOf v.W ws → Steady v (AllOf v.W) (c who ws k)

steady_text : (v : Knowledge) (o : Option ℕ) → Steady v (AllOf v.W) (text_done o)
steady_text v (Some w) = steady_word_of v (w % 65536) (omega arith)
steady_text v None = steady_lost v

steady_as_index : (v : Knowledge) (vs : List ℕ) → AllOf v.W vs → Steady v Any (as_index vs)
steady_as_index v vs p = steady_one v vs p (λ i _. steady_done v (Some i))

steady_address : (v : Knowledge) (p : Located) → Steady v (AllOf v.W) (address_done p)
steady_address v p = steady_word_of v (p.address % 65536) (omega arith)

-- the variable that a name is
steady_variable : (v : Knowledge) (h : Here) (x : List ℕ) {i : State → Outcome (Option ℕ)} → Steady v Any i
    → Steady v (AllOf v.W) (λ s. then_go (i s) (λ a s1. then_go (locate h x a s1) (λ p s2. read p s2)))
steady_variable v h x t = steady_go t (λ a _. steady_go (steady_locate v h x a) (λ p _. steady_read v p))

steady_constant : (v : Knowledge) (o : Option ℤ) → Steady v (AllOf v.W) (constant_done o)
steady_constant v (Some z) = steady_word_of v (word_of z) (word_of-below z)
steady_constant v None = steady_lost v

steady_named : (v : Knowledge) (h : Here) (x : List ℕ) (o : Sense) {i : State → Outcome (Option ℕ)}
    {f : Profile → State → Outcome (List ℕ)} (c : Callee) (k : ℕ) → Steady v Any i → ((p : Profile) → Steady v (AllOf v.W) (f p))
    → SteadyCalls v c → Steady v (AllOf v.W) (named_value h x o i f c k)
steady_named v h x (a_constant z) c k t u w = steady_constant v z
steady_named v h x (an_intrinsic i) c k t u w =
    steady_dropped (steady_go (u (intrinsic_profile i)) (λ ws p. steady_served v i ws p))
steady_named v h x (a_call who p) c k t u w = steady_step (steady_go (u p) (λ ws q. w who ws k q))
steady_named v h x a_variable c k t u w = steady_variable v h x t

steady_right : (v : Knowledge) {f : State → Outcome (List ℕ)} → Steady v (AllOf v.W) f
    → Steady v (AllOf v.W) (λ s. then_go (f s) (λ us s2. with_one us s2 (λ u s3. done (truth_word (is_odd u) ∷ []) s3)))
steady_right v t = steady_go t (λ us p. steady_one v us p (λ u _. steady_truth v (is_odd u)))

steady_connected : (v : Knowledge) (op : ℕ) (vs : List ℕ) → AllOf v.W vs → {f : State → Outcome (List ℕ)} → Steady v (AllOf v.W) f
    → Steady v (AllOf v.W) (λ s. connected op vs s f)
steady_connected v op vs p t = steady_one v vs p (λ w _. steady_if (op == or_operator)
    (steady_if (is_odd w) (steady_word_of v 65535 (omega arith)) (steady_right v t))
    (steady_if (is_odd w) (steady_right v t) (steady_word_of v 0 (omega arith))))

steady_argument : (v : Knowledge) (f : Formal) {e : State → Outcome (List ℕ)} {p : State → Outcome Located} → Steady v (AllOf v.W) e → Steady v Any p
    → Steady v (AllOf v.W) (argument f e p)
steady_argument v f t u =
    steady_if (by_value f) (steady_go t (λ vs q. steady_passed_value v f.kind vs q)) (steady_go u (λ p _. steady_address v p))

mutual
  pub steady_value : (v : Knowledge) (h : Here) (c : Callee) → SteadyCalls v c → (x : Tree) (k : ℕ) → Steady v (AllOf v.W) (value h c x k)
  steady_value v h c t (tree.Tree.number n) k = steady_word_of v (n % 65536) (omega arith)
  steady_value v h c t (tree.Tree.wide n) k = steady_double v (n % 4294967296) (omega arith)
  steady_value v h c t (tree.Tree.text bytes) k = steady_text v (text_value bytes)
  steady_value v h c t (tree.Tree.truth b) k = steady_truth v b
  steady_value v h c t (tree.Tree.named x es at) k =
      steady_named v h x (sense_of x (h.names x)) c k (steady_index v h c t es k) (λ p. steady_arguments v h c t p.formals es (k + result_words p)) t
  steady_value v h c t (tree.Tree.address x es at) k =
      steady_go (steady_index v h c t es k) (λ i _. steady_go (steady_locate v h x i) (λ p _. steady_address v p))
  steady_value v h c t (tree.Tree.unary op x at) k =
      steady_go (steady_value v h c t x k) (λ vs p. steady_signed v op (kind_of h.names x) vs p)
  steady_value v h c t (tree.Tree.binary op a b at) k =
      steady_if (is_connective op) (steady_go (steady_value v h c t a k) (λ vs p. steady_connected v op vs p (steady_value v h c t b k)))
      (steady_if (compares_text h.names op a b)
      (steady_go (steady_located v h c t a k) (λ p _. steady_relation_told v (relation_number op) (steady_compared_text v p (text_bytes b))))
      (steady_go (steady_value v h c t a k) (λ vs p. steady_go (steady_value v h c t b (k + operand_width (kind_of h.names a)))
      (λ us q. steady_joined v op (kind_of h.names a) (kind_of h.names b) vs us p))))
  steady_value v h c t (tree.Tree.shift op x by at) k =
      steady_go (steady_value v h c t x k) (λ vs _. steady_shift v op (small_constant h.names by) vs)
  steady_value v h c t (tree.Tree.field x start size at) k =
      steady_go (steady_value v h c t x k) (λ vs _. steady_field v (small_constant h.names start) (small_constant h.names size) vs)
  steady_value v h c t (tree.Tree.transfer to x at) k =
      steady_go (steady_value v h c t x k) (λ vs p. steady_transferred v to (kind_of h.names x) vs p)
  steady_value v h c t (tree.Tree.bytes op a b count at) k =
      steady_go (steady_located v h c t a k) (λ p _. steady_go (steady_located v h c t b (k + 1)) (λ q _.
      steady_go (steady_value v h c t count (k + 2)) (λ vs r. steady_one v vs r (λ size _.
      steady_relation_told v op (steady_compared_by v size p q)))))

  pub steady_located : (v : Knowledge) (h : Here) (c : Callee) → SteadyCalls v c → (x : Tree) (k : ℕ) → Steady v Any (located h c x k)
  steady_located v h c t (tree.Tree.named x es at) k = steady_go (steady_index v h c t es k) (λ i _. steady_locate v h x i)
  steady_located v h c t (tree.Tree.number n) k = steady_lost v
  steady_located v h c t (tree.Tree.wide n) k = steady_lost v
  steady_located v h c t (tree.Tree.text bytes) k = steady_lost v
  steady_located v h c t (tree.Tree.truth b) k = steady_lost v
  steady_located v h c t (tree.Tree.address x es at) k = steady_lost v
  steady_located v h c t (tree.Tree.unary op x at) k = steady_lost v
  steady_located v h c t (tree.Tree.binary op a b at) k = steady_lost v
  steady_located v h c t (tree.Tree.shift op x by at) k = steady_lost v
  steady_located v h c t (tree.Tree.field x start size at) k = steady_lost v
  steady_located v h c t (tree.Tree.transfer to x at) k = steady_lost v
  steady_located v h c t (tree.Tree.bytes op a b count at) k = steady_lost v

  pub steady_index : (v : Knowledge) (h : Here) (c : Callee) → SteadyCalls v c → (es : Trees) (k : ℕ) → Steady v Any (index h c es k)
  steady_index v h c t tree.Trees.none k = steady_done v None
  steady_index v h c t (tree.Trees.and x es) k = steady_go (steady_value v h c t x k) (λ vs p. steady_as_index v vs p)

  pub steady_arguments : (v : Knowledge) (h : Here) (c : Callee) → SteadyCalls v c → (fs : List Formal) (es : Trees) (k : ℕ)
      → Steady v (AllOf v.W) (arguments h c fs es k)
  steady_arguments v h c t [] tree.Trees.none k = steady_give v [] tt
  steady_arguments v h c t (f ∷ fs) (tree.Trees.and x es) k =
      steady_go (steady_argument v f (steady_value v h c t x k) (steady_located v h c t x k)) (λ ws p.
      steady_go (steady_arguments v h c t fs es (k + formal_words f)) (λ vs q. steady_give v (ws ++ vs) (all_append v.W ws vs p q)))
  steady_arguments v h c t [] (tree.Trees.and x es) k = steady_lost v
  steady_arguments v h c t (f ∷ fs) tree.Trees.none k = steady_lost v
