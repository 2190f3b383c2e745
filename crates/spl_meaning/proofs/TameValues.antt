-- Values are tame, where calls are tame of one step fewer.
use Rattle.std.proofs.Common.{ℕ, suc, ◌+◌, ◌-◌, ◌%◌, ◌==◌, List, [], ◌∷◌, ◌++◌, Option, Some, None}
use Rattle.std.specs.Prelude.{ℤ}
use Rattle.hp_word.specs.Words.{word_of}
use Rattle.spl_tree.specs.Trees as tree
use Rattle.spl_tree.specs.Trees.{Tree, Trees}
use Rattle.spl_meaning.specs.Names.{Formal, Profile, text_value, truth_word, intrinsic_profile}
use Rattle.spl_meaning.specs.Kinds.{kind_of, operand_width, is_connective, compares_text}
use Rattle.spl_meaning.specs.Pending.{by_value, result_words, formal_words}
use Rattle.spl_meaning.specs.States.{State, Outcome, done, then_go}
use Rattle.spl_meaning.specs.References.{Here, Located, read, locate}
use Rattle.spl_meaning.specs.Operations.{double_words, is_odd}
use Rattle.spl_meaning.specs.Elements.{with_one}
use Rattle.spl_meaning.specs.Values.{Who, Callee, Sense, a_constant, an_intrinsic, a_call, a_variable, sense_of, small_constant, text_done, constant_done, as_index, named_value, address_done, connected, text_bytes, argument, value, located, index, arguments}
use Rattle.spl_meaning.proofs.Tame.{Tame, tame_done, tame_lost, tame_go, tame_step, tame_less, tame_if, tame_dropped}
use Rattle.spl_meaning.proofs.TameReferences.{tame_read, tame_locate, tame_joined, tame_signed, tame_shift, tame_field, tame_transferred, tame_passed_value}
use Rattle.spl_meaning.proofs.TameElements.{tame_one, tame_compared_by, tame_compared_text, tame_relation_told, tame_served}

-- calls are tame
abbrev pub TameCalls : ℕ → Callee → Callee → Type 0
TameCalls d c e = (who : Who) (ws : List ℕ) (k : ℕ) → Tame d (c who ws k) (e who ws k)

tame_text : (b : ℕ) (o : Option ℕ) → Tame b (text_done o) (text_done o)
tame_text b (Some w) = tame_done b (w % 65536 ∷ [])
tame_text b None = tame_lost b

tame_as_index : (b : ℕ) (vs : List ℕ) → Tame b (as_index vs) (as_index vs)
tame_as_index b vs = tame_one b vs (λ i. tame_done b (Some i))

tame_address : (b : ℕ) (p : Located) → Tame b (address_done p) (address_done p)
tame_address b p = tame_done b (p.address % 65536 ∷ [])

-- the variable that a name is
tame_variable : (b : ℕ) (h : Here) (x : List ℕ) {i j : State → Outcome (Option ℕ)} → Tame b i j
    → Tame b (λ s. then_go (i s) (λ a s1. then_go (locate h x a s1) (λ p s2. read p s2)))
    (λ s. then_go (j s) (λ a s1. then_go (locate h x a s1) (λ p s2. read p s2)))
tame_variable b h x t = tame_go t (λ a. tame_go (tame_locate b h x a) (λ p. tame_read b p))

tame_constant : (b : ℕ) (o : Option ℤ) → Tame b (constant_done o) (constant_done o)
tame_constant b (Some v) = tame_done b (word_of v ∷ [])
tame_constant b None = tame_lost b

tame_named : (d : ℕ) (h : Here) (x : List ℕ) (o : Sense) {i j : State → Outcome (Option ℕ)}
    {f g : Profile → State → Outcome (List ℕ)} (c e : Callee) (k : ℕ) → Tame (suc d) i j → ((p : Profile) → Tame (suc d) (f p) (g p))
    → TameCalls d c e → Tame (suc d) (named_value h x o i f c k) (named_value h x o j g e k)
tame_named d h x (a_constant v) c e k t u w = tame_constant (suc d) v
tame_named d h x (an_intrinsic i) c e k t u w =
    tame_dropped (tame_go (u (intrinsic_profile i)) (λ ws. tame_served (suc d) i ws))
tame_named d h x (a_call who p) c e k t u w = tame_step (tame_go (tame_less (u p)) (λ ws. w who ws k))
tame_named d h x a_variable c e k t u w = tame_variable (suc d) h x t

tame_right : (b : ℕ) {f g : State → Outcome (List ℕ)} → Tame b f g
    → Tame b (λ s. then_go (f s) (λ us s2. with_one us s2 (λ u s3. done (truth_word (is_odd u) ∷ []) s3)))
    (λ s. then_go (g s) (λ us s2. with_one us s2 (λ u s3. done (truth_word (is_odd u) ∷ []) s3)))
tame_right b t = tame_go t (λ us. tame_one b us (λ u. tame_done b (truth_word (is_odd u) ∷ [])))

tame_connected : (b op : ℕ) (vs : List ℕ) {f g : State → Outcome (List ℕ)} → Tame b f g
    → Tame b (λ s. connected op vs s f) (λ s. connected op vs s g)
tame_connected b op vs t = tame_one b vs (λ w. tame_if (op == 0)
    (tame_if (is_odd w) (tame_done b (65535 ∷ [])) (tame_right b t)) (tame_if (is_odd w) (tame_right b t) (tame_done b (0 ∷ []))))

tame_argument : (b : ℕ) (f : Formal) {v w : State → Outcome (List ℕ)} {p q : State → Outcome Located} → Tame b v w → Tame b p q
    → Tame b (argument f v p) (argument f w q)
tame_argument b f t u = tame_if (by_value f) (tame_go t (λ vs. tame_passed_value b f.kind vs)) (tame_go u (λ p. tame_address b p))

mutual
  pub tame_value : (d : ℕ) (h : Here) (c e : Callee) → TameCalls d c e → (x : Tree) (k : ℕ) → Tame (suc d) (value h c x k) (value h e x k)
  tame_value d h c e t (tree.Tree.number v) k = tame_done (suc d) (v % 65536 ∷ [])
  tame_value d h c e t (tree.Tree.wide v) k = tame_done (suc d) (double_words (v % 4294967296))
  tame_value d h c e t (tree.Tree.text bytes) k = tame_text (suc d) (text_value bytes)
  tame_value d h c e t (tree.Tree.truth b) k = tame_done (suc d) (truth_word b ∷ [])
  tame_value d h c e t (tree.Tree.named x es at) k =
      tame_named d h x (sense_of x (h.names x)) c e k (tame_index d h c e t es k) (λ p. tame_arguments d h c e t p.formals es (k + result_words p)) t
  tame_value d h c e t (tree.Tree.address x es at) k =
      tame_go (tame_index d h c e t es k) (λ i. tame_go (tame_locate (suc d) h x i) (λ p. tame_address (suc d) p))
  tame_value d h c e t (tree.Tree.unary op x at) k = tame_go (tame_value d h c e t x k) (λ vs. tame_signed (suc d) op (kind_of h.names x) vs)
  tame_value d h c e t (tree.Tree.binary op a b at) k =
      tame_if (is_connective op) (tame_go (tame_value d h c e t a k) (λ vs. tame_connected (suc d) op vs (tame_value d h c e t b k)))
      (tame_if (compares_text h.names op a b)
      (tame_go (tame_located d h c e t a k) (λ p. tame_relation_told (suc d) (op - 5) (tame_compared_text (suc d) p (text_bytes b))))
      (tame_go (tame_value d h c e t a k) (λ vs. tame_go (tame_value d h c e t b (k + operand_width (kind_of h.names a)))
      (λ us. tame_joined (suc d) op (kind_of h.names a) (kind_of h.names b) vs us))))
  tame_value d h c e t (tree.Tree.shift op x by at) k =
      tame_go (tame_value d h c e t x k) (λ vs. tame_shift (suc d) op (small_constant h.names by) vs)
  tame_value d h c e t (tree.Tree.field x start size at) k =
      tame_go (tame_value d h c e t x k) (λ vs. tame_field (suc d) (small_constant h.names start) (small_constant h.names size) vs)
  tame_value d h c e t (tree.Tree.transfer to x at) k =
      tame_go (tame_value d h c e t x k) (λ vs. tame_transferred (suc d) to (kind_of h.names x) vs)
  tame_value d h c e t (tree.Tree.bytes op a b count at) k =
      tame_go (tame_located d h c e t a k) (λ p. tame_go (tame_located d h c e t b (k + 1)) (λ q.
      tame_go (tame_value d h c e t count (k + 2)) (λ vs. tame_one (suc d) vs (λ size.
      tame_relation_told (suc d) op (tame_compared_by (suc d) size p q)))))

  pub tame_located : (d : ℕ) (h : Here) (c e : Callee) → TameCalls d c e → (x : Tree) (k : ℕ) → Tame (suc d) (located h c x k) (located h e x k)
  tame_located d h c e t (tree.Tree.named x es at) k = tame_go (tame_index d h c e t es k) (λ i. tame_locate (suc d) h x i)
  tame_located d h c e t (tree.Tree.number v) k = tame_lost (suc d)
  tame_located d h c e t (tree.Tree.wide v) k = tame_lost (suc d)
  tame_located d h c e t (tree.Tree.text bytes) k = tame_lost (suc d)
  tame_located d h c e t (tree.Tree.truth b) k = tame_lost (suc d)
  tame_located d h c e t (tree.Tree.address x es at) k = tame_lost (suc d)
  tame_located d h c e t (tree.Tree.unary op x at) k = tame_lost (suc d)
  tame_located d h c e t (tree.Tree.binary op a b at) k = tame_lost (suc d)
  tame_located d h c e t (tree.Tree.shift op x by at) k = tame_lost (suc d)
  tame_located d h c e t (tree.Tree.field x start size at) k = tame_lost (suc d)
  tame_located d h c e t (tree.Tree.transfer to x at) k = tame_lost (suc d)
  tame_located d h c e t (tree.Tree.bytes op a b count at) k = tame_lost (suc d)

  pub tame_index : (d : ℕ) (h : Here) (c e : Callee) → TameCalls d c e → (es : Trees) (k : ℕ) → Tame (suc d) (index h c es k) (index h e es k)
  tame_index d h c e t tree.Trees.none k = tame_done (suc d) None
  tame_index d h c e t (tree.Trees.and x es) k = tame_go (tame_value d h c e t x k) (λ vs. tame_as_index (suc d) vs)

  pub tame_arguments : (d : ℕ) (h : Here) (c e : Callee) → TameCalls d c e → (fs : List Formal) (es : Trees) (k : ℕ)
      → Tame (suc d) (arguments h c fs es k) (arguments h e fs es k)
  tame_arguments d h c e t [] tree.Trees.none k = tame_done (suc d) []
  tame_arguments d h c e t (f ∷ fs) (tree.Trees.and x es) k =
      tame_go (tame_argument (suc d) f (tame_value d h c e t x k) (tame_located d h c e t x k)) (λ ws.
      tame_go (tame_arguments d h c e t fs es (k + formal_words f)) (λ vs. tame_done (suc d) (ws ++ vs)))
  tame_arguments d h c e t [] (tree.Trees.and x es) k = tame_lost (suc d)
  tame_arguments d h c e t (f ∷ fs) tree.Trees.none k = tame_lost (suc d)
