-- A ring does not see what is written of nodes besides its own links; a free node is put in front of the others or taken from there.
use Rattle.std.proofs.Common.{◌≡◌, ◌≢◌, ℕ, ◌+◌, ◌<◌, ◌≤◌, Bool, true, false, cond, List, [], ◌∷◌, ◌++◌, length, refl, sym, ap, subst, ◌∙◌, arith, append-nil}
use Rattle.std.specs.Prelude.{◌==◌, slice_set}
use Rattle.std.proofs.lemmas.Bool.Decides.{nat_tests}
use Rattle.mpe_links.specs.declared.node.Node.{Node}
use Rattle.mpe_links.specs.Lists.{times, Apart, last_or, first_or}
use Rattle.mpe_links.specs.Ways.{Goes, Returns}
use Rattle.mpe_links.specs.Nodes.{node_at, right_of, left_of, newer_of, older_of}
use Rattle.mpe_links.specs.Rings.{InUse, InPlace, AreFree}
use Rattle.mpe_links.proofs.WayLaws.{not_first, absent_there, times_append, goes_ext, returns_ext, goes_at, returns_at, returns_from}
use Rattle.mpe_links.proofs.NodeLemmas.{node_there, node_other}
use Rattle.mpe_links.proofs.RingLemmas.{no_head, ends}

pub placed_still : (n0 n1 : List Node) (first : ℕ) (xs : List ℕ) → ((k : ℕ) → (node_at n1 k).right ≡ (node_at n0 k).right)
    → ((k : ℕ) → (node_at n1 k).left ≡ (node_at n0 k).left) → InPlace n0 first xs → InPlace n1 first xs
placed_still n0 n1 first xs s t r = record {
  last = r.last;
  forward = goes_ext (right_of n0 first) (right_of n1 first) 65535 65535 xs (λ k there. ap (ends k first) (s k)) r.forward;
  backward = returns_ext (left_of n0 r.last) (left_of n1 r.last) 65535 65535 xs (λ k there. ap (ends k r.last) (t k)) r.backward;
  apart = r.apart;
}

pub used_still : (n0 n1 : List Node) (oldest newest : ℕ) (us : List ℕ) → ((k : ℕ) → (node_at n1 k).newer ≡ (node_at n0 k).newer)
    → ((k : ℕ) → (node_at n1 k).older ≡ (node_at n0 k).older) → InUse n0 oldest newest us → InUse n1 oldest newest us
used_still n0 n1 oldest newest us s t r = record {
  forward = goes_ext (newer_of n0 oldest) (newer_of n1 oldest) 65535 65535 us (λ k there. ap (ends k oldest) (s k)) r.forward;
  backward = returns_ext (older_of n0 newest) (older_of n1 newest) 65535 65535 us (λ k there. ap (ends k newest) (t k)) r.backward;
  apart = r.apart;
}

pub free_still : (n0 n1 : List Node) (free : ℕ) (fs : List ℕ) → ((k : ℕ) → (node_at n1 k).right ≡ (node_at n0 k).right) → AreFree n0 free fs → AreFree n1 free fs
free_still n0 n1 free fs s h = goes_ext (right_of n0 free) (right_of n1 free) 65535 65535 fs (λ k there. ap (ends k free) (s k)) h

-- a way from another node, where the links are the same from there on
pub goes_under : (f g : ℕ → ℕ) (p q e : ℕ) (xs : List ℕ) → g q ≡ f p → ((k : ℕ) → times k xs ≢ 0 → g k ≡ f k) → Goes f p xs e → Goes g q xs e
goes_under f g p q e [] b s h = b ∙ h
goes_under f g p q e (x ∷ xs) b s h =
    (b ∙ h.0, goes_under f g x x e xs (s x (grind (arith, nat_tests))) (λ k n. s k (grind (arith, nat_tests))) h.1)

-- the first free node is taken
pub popped : (nodes : List Node) (free x : ℕ) (fs : List ℕ) → x ≢ 65535 → times 65535 fs ≡ 0 → AreFree nodes free (x ∷ fs) → AreFree nodes (node_at nodes x).right fs
popped nodes free x fs d m h =
    goes_under (right_of nodes free) (right_of nodes (node_at nodes x).right) x 65535 65535 fs (sym (no_head x free (node_at nodes x).right d))
    (λ k n. let dk : k ≢ 65535 = (λ e. n (subst (λ (i : ℕ). times i fs ≡ 0) (sym e) m)) in
    no_head k (node_at nodes x).right (node_at nodes k).right dk ∙ sym (no_head k free (node_at nodes k).right dk)) h.1

-- a node is put in front of the free ones
pub pushed : (nodes : List Node) (free x : ℕ) (n : Node) (fs : List ℕ) → x ≢ 65535 → x < length nodes → times x fs ≡ 0 → times 65535 fs ≡ 0 → n.right ≡ free
    → AreFree nodes free fs → AreFree (slice_set nodes x n) x (x ∷ fs)
pushed nodes free x n fs d l t m e h = (
  refl,
  goes_under (right_of nodes free) (right_of (slice_set nodes x n) x) 65535 x 65535 fs
      (no_head x x (node_at (slice_set nodes x n) x).right d ∙ ap (λ (o : Node). o.right) (node_there nodes x n l) ∙ e)
      (λ k there.
      let dk : k ≢ 65535 = (λ q. there (subst (λ (i : ℕ). times i fs ≡ 0) (sym q) m)) in
      let dx : k ≢ x = (λ q. there (subst (λ (i : ℕ). times i fs ≡ 0) (sym q) t)) in
      no_head k x (node_at (slice_set nodes x n) k).right dk ∙ ap (λ (o : Node). o.right) (node_other nodes x k n dx)
      ∙ sym (no_head k free (node_at nodes k).right dk)) h,
)

-- a ring without x does not see x being written
pub placed_apart : (nodes : List Node) (first x : ℕ) (n : Node) (xs : List ℕ) → times x xs ≡ 0 → x ≢ 65535 → InPlace nodes first xs → InPlace (slice_set nodes x n) first xs
placed_apart nodes first x n xs t d r = record {
  last = r.last;
  forward = goes_ext (right_of nodes first) (right_of (slice_set nodes x n) first) 65535 65535 xs
      (λ k there. ap (λ (o : Node). ends k first o.right) (node_other nodes x k n (not_x k there))) r.forward;
  backward = returns_ext (left_of nodes r.last) (left_of (slice_set nodes x n) r.last) 65535 65535 xs
      (λ k there. ap (λ (o : Node). ends k r.last o.left) (node_other nodes x k n (not_x k there))) r.backward;
  apart = r.apart;
}
  where
    not_x : (k : ℕ) → times k (65535 ∷ xs) ≢ 0 → k ≢ x
    not_x k there e = there (subst (λ (i : ℕ). times i (65535 ∷ xs) ≡ 0) (sym e) (absent_there x 65535 xs (λ q. d (sym q)) t))

pub used_apart : (nodes : List Node) (oldest newest x : ℕ) (n : Node) (us : List ℕ) → times x us ≡ 0 → x ≢ 65535 → InUse nodes oldest newest us
    → InUse (slice_set nodes x n) oldest newest us
used_apart nodes oldest newest x n us t d r = record {
  forward = goes_ext (newer_of nodes oldest) (newer_of (slice_set nodes x n) oldest) 65535 65535 us
      (λ k there. ap (λ (o : Node). ends k oldest o.newer) (node_other nodes x k n (not_x k there))) r.forward;
  backward = returns_ext (older_of nodes newest) (older_of (slice_set nodes x n) newest) 65535 65535 us
      (λ k there. ap (λ (o : Node). ends k newest o.older) (node_other nodes x k n (not_x k there))) r.backward;
  apart = r.apart;
}
  where
    not_x : (k : ℕ) → times k (65535 ∷ us) ≢ 0 → k ≢ x
    not_x k there e = there (subst (λ (i : ℕ). times i (65535 ∷ us) ≡ 0) (sym e) (absent_there x 65535 us (λ q. d (sym q)) t))

-- a number that stands in a list parts it
pub data Parted (x : ℕ) (xs : List ℕ) : Type 0 where
  parted : (front rest : List ℕ) → xs ≡ front ++ x ∷ rest → Parted x xs

parted_more : (x y : ℕ) (xs : List ℕ) → Parted x xs → Parted x (y ∷ xs)
parted_more x y xs (parted front rest e) = parted (y ∷ front) rest (ap (λ t. y ∷ t) e)

part_by : (x y : ℕ) (xs : List ℕ) (t : Bool) → (y == x) ≡ t → (0 < times x xs → Parted x xs) → 0 < cond t (1 + times x xs) (times x xs) → Parted x (y ∷ xs)
part_by x y xs true e more h = let s : y ≡ x = grind (arith, nat_tests) in parted [] xs (ap (λ t. t ∷ xs) s)
part_by x y xs false e more h = parted_more x y xs (more h)

pub part : (x : ℕ) (xs : List ℕ) → 0 < times x xs → Parted x xs
part x [] h = absurd (omega (arith, h))
part x (y ∷ xs) h = part_by x y xs (y == x) refl (λ g. part x xs g) h

-- the ends of a part are links
pub last_within : (n : ℕ) (xs ys : List ℕ) → ((k : ℕ) → 0 < times k (xs ++ ys) → k < n) → last_or 65535 xs ≢ 65535 → last_or 65535 xs < n
last_within n [] ys h d = absurd (d refl)
last_within n (x ∷ xs) ys h d = h (last_or x xs) (last_counts x xs ys) where
  last_counts : (p : ℕ) (xs ys : List ℕ) → 0 < times (last_or p xs) (p ∷ xs ++ ys)
  last_counts p [] ys = grind (arith, nat_tests)
  last_counts p (x ∷ xs) ys = let rest = last_counts x xs ys in grind (arith, nat_tests)

pub first_within : (n : ℕ) (xs ys : List ℕ) → ((k : ℕ) → 0 < times k (xs ++ ys) → k < n) → first_or ys 65535 ≢ 65535 → first_or ys 65535 < n
first_within n xs [] h d = absurd (d refl)
first_within n xs (y ∷ ys) h d = h y (let e = times_append y xs (y ∷ ys) in let m = here y ys in omega arith) where
  here : (y : ℕ) (ys : List ℕ) → 0 < times y (y ∷ ys)
  here y ys = grind (arith, nat_tests)

pub apart_absent : (x : ℕ) (xs ys : List ℕ) → Apart (xs ++ x ∷ ys) → times x (xs ++ ys) ≡ 0
apart_absent x [] ys a = a.0
apart_absent x (z ∷ xs) ys a =
    let e = times_append z xs (x ∷ ys) in
    let n : times z (x ∷ ys) ≡ 0 = let h = a.0 in omega arith in
    absent_there x z (xs ++ ys) (λ s. (not_first z x ys n).0 (sym s)) (apart_absent x xs ys a.1)

-- what stands in a list without x stands in the whole
pub less_counts : (k x : ℕ) (us vs : List ℕ) → 0 < times k (us ++ vs) → 0 < times k (us ++ x ∷ vs)
less_counts k x us vs t = let e = times_append k us (x ∷ vs) in let f = times_append k us vs in let m = up k x vs in omega arith
  where
    up : (k x : ℕ) (vs : List ℕ) → times k vs ≤ times k (x ∷ vs)
    up k x vs = grind (arith, nat_tests)

-- the links of a node in a ring
pub older_within : (n : ℕ) (nodes : List Node) (oldest newest x : ℕ) (us vs : List ℕ) → x ≢ 65535 → InUse nodes oldest newest (us ++ x ∷ vs)
    → ((k : ℕ) → 0 < times k (us ++ x ∷ vs) → k < n) → (node_at nodes x).older ≢ 65535 → (node_at nodes x).older < n
older_within n nodes oldest newest x us vs d r h =
    let e = sym (no_head x newest (node_at nodes x).older d) ∙ returns_at (older_of nodes newest) 65535 x 65535 us vs r.backward in
    subst (λ (i : ℕ). i ≢ 65535 → i < n) (sym e) (last_within n us (x ∷ vs) h)

pub newer_within : (n : ℕ) (nodes : List Node) (oldest newest x : ℕ) (us vs : List ℕ) → x ≢ 65535 → InUse nodes oldest newest (us ++ x ∷ vs)
    → ((k : ℕ) → 0 < times k (us ++ x ∷ vs) → k < n) → (node_at nodes x).newer ≢ 65535 → (node_at nodes x).newer < n
newer_within n nodes oldest newest x us vs d r h =
    let e = sym (no_head x oldest (node_at nodes x).newer d) ∙ goes_at (newer_of nodes oldest) 65535 x 65535 us vs r.forward in
    subst (λ (i : ℕ). i ≢ 65535 → i < n) (sym e) (first_within n us vs (λ k t. h k (less_counts k x us vs t)))

pub left_within : (n : ℕ) (nodes : List Node) (first x : ℕ) (xs ys : List ℕ) → x ≢ 65535 → InPlace nodes first (xs ++ x ∷ ys)
    → ((k : ℕ) → 0 < times k (xs ++ x ∷ ys) → k < n) → (node_at nodes x).left ≢ 65535 → (node_at nodes x).left < n
left_within n nodes first x xs ys d r h =
    let e = sym (no_head x r.last (node_at nodes x).left d) ∙ returns_at (left_of nodes r.last) 65535 x 65535 xs ys r.backward in
    subst (λ (i : ℕ). i ≢ 65535 → i < n) (sym e) (last_within n xs (x ∷ ys) h)

pub left_is : (nodes : List Node) (first x : ℕ) (xs ys : List ℕ) → x ≢ 65535 → InPlace nodes first (xs ++ x ∷ ys) → (node_at nodes x).left ≡ last_or 65535 xs
left_is nodes first x xs ys d r = sym (no_head x r.last (node_at nodes x).left d) ∙ returns_at (left_of nodes r.last) 65535 x 65535 xs ys r.backward

pub right_within : (n : ℕ) (nodes : List Node) (first x : ℕ) (xs ys : List ℕ) → x ≢ 65535 → InPlace nodes first (xs ++ x ∷ ys)
    → ((k : ℕ) → 0 < times k (xs ++ x ∷ ys) → k < n) → (node_at nodes x).right ≢ 65535 → (node_at nodes x).right < n
right_within n nodes first x xs ys d r h =
    let e = sym (no_head x first (node_at nodes x).right d) ∙ goes_at (right_of nodes first) 65535 x 65535 xs ys r.forward in
    subst (λ (i : ℕ). i ≢ 65535 → i < n) (sym e) (first_within n xs ys (λ k t. h k (less_counts k x xs ys t)))

-- and the newest
pub newest_within : (n : ℕ) (nodes : List Node) (oldest newest : ℕ) (us : List ℕ) → InUse nodes oldest newest us
    → ((k : ℕ) → 0 < times k us → k < n) → newest ≢ 65535 → newest < n
newest_within n nodes oldest newest us r h =
    let same : us ++ [] ≡ us = append-nil us in
    let back : Returns (older_of nodes newest) 65535 (us ++ []) 65535 = subst (λ (l : List ℕ). Returns (older_of nodes newest) 65535 l 65535) (sym same) r.backward in
    let e : newest ≡ last_or 65535 us = returns_from (older_of nodes newest) 65535 65535 us [] back in
    subst (λ (i : ℕ). i ≢ 65535 → i < n) (sym e) (last_within n us [] (λ k t. h k (subst (λ (l : List ℕ). 0 < times k l) same t)))
