-- Free nodes are made one by one, and a node is entered.
use Rattle.std.proofs.Common.{◌≡◌, ◌≢◌, ℕ, zero, suc, ◌+◌, ◌<◌, ◌≤◌, Bool, true, false, cond, List, [], ◌∷◌, ◌++◌, length, refl, sym, ap, subst, ◌∙◌, arith, add-one, length-append}
use Rattle.std.specs.Prelude.{◌==◌, nat_lt, slice_set}
use Rattle.std.proofs.lemmas.Bool.Decides.{nat_tests}
use Rattle.std.proofs.lemmas.List.{get_or_append_left, get_or_at, get_or_past}
use Rattle.mpe_links.specs.declared.node.Node.{Node}
use Rattle.mpe_links.specs.Lists.{times}
use Rattle.mpe_links.specs.Ways.{Goes}
use Rattle.mpe_links.specs.Nodes.{blank, node_at, right_of}
use Rattle.mpe_links.proofs.RingLemmas.{no_head}
use Rattle.mpe_links.proofs.NodeLemmas.{same}
use Rattle.mpe_links.proofs.TableLemmas.{goes_under}
use Rattle.mpe_regions.specs.Fresh.{below, IsFresh}

-- the numbers below n are there once
pub times_below : (k n : ℕ) → times k (below n) ≡ cond (nat_lt k n) 1 0
times_below k zero = grind (arith, nat_tests)
times_below k (suc n) = let rest = times_below k n in by (n == k) refl (nat_lt k n) refl (nat_lt k (suc n)) refl rest where
  by : (t : Bool) → (n == k) ≡ t → (u : Bool) → nat_lt k n ≡ u → (v : Bool) → nat_lt k (suc n) ≡ v → times k (below n) ≡ cond u 1 0
      → cond t (1 + times k (below n)) (times k (below n)) ≡ cond v 1 0
  by true e u f v g h = grind (arith, nat_tests)
  by false e u f v g h = grind (arith, nat_tests)

pub length_below : (n : ℕ) → length (below n) ≡ n
length_below zero = refl
length_below (suc n) = ap suc (length_below n)

node_front : (nodes : List Node) (n : Node) (k : ℕ) → k < length nodes → node_at (nodes ++ n ∷ []) k ≡ node_at nodes k
unfolding node_at
node_front nodes n k l = get_or_append_left nodes (n ∷ []) blank k l

node_new : (nodes : List Node) (n : Node) (i : ℕ) → length nodes ≡ i → node_at (nodes ++ n ∷ []) i ≡ n
unfolding node_at
node_new nodes n i e = get_or_at nodes n [] blank i e

node_past : (nodes : List Node) (k : ℕ) → length nodes ≤ k → node_at nodes k ≡ blank
unfolding node_at
node_past nodes k l = get_or_past nodes k blank l

-- no node yet
pub fresh_none : IsFresh [] 65535 0
fresh_none = record { long = refl; chain = refl; dead = λ k. ap (λ (n : Node). n.live) (node_past [] k (omega arith)) }

-- one node more
pub fresh_more : (nodes new : List Node) (n : Node) (free i : ℕ) → new ≡ nodes ++ n ∷ [] → n.right ≡ free → n.live ≡ false → i < 65535 → IsFresh nodes free i
    → IsFresh new i (i + 1)
fresh_more nodes new n free i e r d l f = subst (λ (ns : List Node). IsFresh ns i (i + 1)) (sym e) (rw add-one more)
  where
    inside : (k : ℕ) → times k (below i) ≢ 0 → k < i
    inside k h = by (nat_lt k i) refl (times_below k i) where
      by : (t : Bool) → nat_lt k i ≡ t → times k (below i) ≡ cond t 1 0 → k < i
      by true e p = grind (arith, nat_tests)
      by false e p = absurd (h p)

    way : Goes (right_of (nodes ++ n ∷ []) i) i (below i) 65535
    way = goes_under (right_of nodes free) (right_of (nodes ++ n ∷ []) i) 65535 i 65535 (below i)
        (no_head i i (node_at (nodes ++ n ∷ []) i).right (λ s. absurd (omega (arith, s, l))) ∙ ap (λ (m : Node). m.right) (node_new nodes n i f.long) ∙ r)
        (λ k h.
        let b = inside k h in
        let g = f.long in
        no_head k i (node_at (nodes ++ n ∷ []) k).right (λ s. absurd (omega (arith, s, l, b))) ∙ ap (λ (m : Node). m.right) (node_front nodes n k (omega arith))
        ∙ sym (no_head k free (node_at nodes k).right (λ s. absurd (omega (arith, s, l, b))))) f.chain

    alive : (k : ℕ) (t : Bool) → nat_lt k i ≡ t → (u : Bool) → (k == i) ≡ u → (node_at (nodes ++ n ∷ []) k).live ≡ false
    alive k true e u q = let g = f.long in let b : k < i = grind (arith, nat_tests) in ap (λ (m : Node). m.live) (node_front nodes n k (omega arith)) ∙ f.dead k
    alive k false e true q =
        let s : k ≡ i = grind (arith, nat_tests) in
        ap (λ j. (node_at (nodes ++ n ∷ []) j).live) s ∙ ap (λ (m : Node). m.live) (node_new nodes n i f.long) ∙ d
    alive k false e false q =
        let g = f.long in
        let s : i < k = grind (arith, nat_tests) in
        ap (λ (m : Node). m.live) (node_past (nodes ++ n ∷ []) k (let h = length-append nodes (n ∷ []) in omega arith))

    more : IsFresh (nodes ++ n ∷ []) i (suc i)
    more = record {
      long = let h = length-append nodes (n ∷ []) in let g = f.long in omega arith;
      chain = (refl, way);
      dead = λ k. alive k (nat_lt k i) refl (k == i) refl;
    }

-- a node is filled: what f tells of it stays, so it does of all
pub filled_same : {A : Type 0} (f : Node → A) (nodes new : List Node) (x : ℕ) (n : Node) → new ≡ slice_set nodes x n → x < length nodes → f n ≡ f (node_at nodes x)
    → (k : ℕ) → f (node_at new k) ≡ f (node_at nodes k)
unfolding node_at
filled_same f nodes new x n e l s k = subst (λ (ns : List Node). f (node_at ns k) ≡ f (node_at nodes k)) (sym e) (same f nodes x n l s k)
