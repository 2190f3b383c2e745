-- What is written, one link behind the other, takes a node out of a ring or puts it in.
use Rattle.std.proofs.Common.{◌≡◌, ◌≢◌, ℕ, Bool, true, false, cond, List, [], ◌∷◌, ◌++◌, get_or, refl, sym, ap, subst, ◌∙◌, arith, append-nil}
use Rattle.std.specs.Prelude.{◌==◌}
use Rattle.std.proofs.lemmas.Bool.Decides.{nat_tests}
use Rattle.mpe_links.specs.declared.node.Node.{Node}
use Rattle.mpe_links.specs.Lists.{times, Apart, last_or}
use Rattle.mpe_links.specs.Ways.{Goes, Returns, Writes}
use Rattle.mpe_links.specs.Nodes.{blank, node_at, right_of, left_of, newer_of, older_of, less_right, less_left, less_newer, less_older}
use Rattle.mpe_links.specs.Writes.{Same, less_use, less_place}
use Rattle.mpe_links.specs.Rings.{InUse, InPlace, AreFree}
use Rattle.mpe_links.proofs.WayLaws.{goes_ext, writes_from, writes_to, writes_at, goes_from, returns_from, Ring, unlinked, linked}

pub no_head : (x h v : ℕ) → x ≢ 65535 → cond (x == 65535) h v ≡ v
no_head x h v d = let no : (x == 65535) ≡ false = grind (arith, nat_tests) in ap (λ t. cond t h v) no

abbrev pub ends : ℕ → ℕ → ℕ → ℕ
ends k h v = cond (k == 65535) h v

pub read_at : (nodes : List Node) (k : ℕ) → get_or nodes k blank ≡ node_at nodes k
unfolding node_at
read_at nodes k = refl

-- ---- order of use

pub use_unlinked : (n0 n1 n2 : List Node) (o0 o1 w0 w2 x older newer : ℕ) → x ≢ 65535 → older ≡ (node_at n0 x).older → newer ≡ (node_at n0 x).newer
    → Writes (newer_of n0 o0) (newer_of n1 o1) older newer → Same less_newer n0 n1
    → Writes (older_of n1 w0) (older_of n2 w2) newer older → Same less_older n1 n2
    → (us vs : List ℕ) → InUse n0 o0 w0 (us ++ x ∷ vs) → InUse n2 o1 w2 (us ++ vs)
use_unlinked n0 n1 n2 o0 o1 w0 w2 x older newer d eo en v s w t us vs r =
    let at : older ≡ older_of n0 w0 x = eo ∙ sym (no_head x w0 (node_at n0 x).older d) in
    let to : newer ≡ newer_of n0 o0 x = en ∙ sym (no_head x o0 (node_at n0 x).newer d) in
    let forth = writes_to (newer_of n0 o0) (newer_of n1 o1) (newer_of n2 o1) older newer (λ k. ap (λ (n : Node). ends k o1 n.newer) (t k)) v in
    let back = writes_from (older_of n0 w0) (older_of n1 w0) (older_of n2 w2) newer older (λ k. ap (λ (n : Node). ends k w0 n.older) (s k)) w in
    let ring : Ring (newer_of n0 o0) (older_of n0 w0) (us ++ x ∷ vs) = record { forward = r.forward; backward = r.backward; apart = r.apart } in
    let left = unlinked (newer_of n0 o0) (newer_of n2 o1) (older_of n0 w0) (older_of n2 w2) x us vs
    (writes_at (newer_of n0 o0) (newer_of n2 o1) older (older_of n0 w0 x) newer (newer_of n0 o0 x) at to forth)
    (writes_at (older_of n0 w0) (older_of n2 w2) newer (newer_of n0 o0 x) older (older_of n0 w0 x) to at back) ring in
    record { forward = left.forward; backward = left.backward; apart = left.apart }

pub use_same : (n0 n1 n2 : List Node) → Same less_newer n0 n1 → Same less_older n1 n2 → Same less_use n0 n2
use_same n0 n1 n2 s t k = ap less_newer (t k) ∙ ap less_older (s k)

-- ---- order of place

pub place_unlinked : (n0 n1 n2 : List Node) (f0 f1 x left right : ℕ) → x ≢ 65535 → left ≡ (node_at n0 x).left → right ≡ (node_at n0 x).right
    → Writes (right_of n0 f0) (right_of n1 f1) left right → Same less_right n0 n1
    → ((last : ℕ) → Writes (left_of n1 last) (left_of n2 (cond (right == 65535) left last)) right left) → Same less_left n1 n2
    → (xs ys : List ℕ) → InPlace n0 f0 (xs ++ x ∷ ys) → InPlace n2 f1 (xs ++ ys)
place_unlinked n0 n1 n2 f0 f1 x left right d el er v s w t xs ys r =
    let l0 = r.last in
    let l2 = cond (right == 65535) left l0 in
    let at : left ≡ left_of n0 l0 x = el ∙ sym (no_head x l0 (node_at n0 x).left d) in
    let to : right ≡ right_of n0 f0 x = er ∙ sym (no_head x f0 (node_at n0 x).right d) in
    let forth = writes_to (right_of n0 f0) (right_of n1 f1) (right_of n2 f1) left right (λ k. ap (λ (n : Node). ends k f1 n.right) (t k)) v in
    let back = writes_from (left_of n0 l0) (left_of n1 l0) (left_of n2 l2) right left (λ k. ap (λ (n : Node). ends k l0 n.left) (s k)) (w l0) in
    let ring : Ring (right_of n0 f0) (left_of n0 l0) (xs ++ x ∷ ys) = record { forward = r.forward; backward = r.backward; apart = r.apart } in
    let left_over = unlinked (right_of n0 f0) (right_of n2 f1) (left_of n0 l0) (left_of n2 l2) x xs ys
    (writes_at (right_of n0 f0) (right_of n2 f1) left (left_of n0 l0 x) right (right_of n0 f0 x) at to forth)
    (writes_at (left_of n0 l0) (left_of n2 l2) right (right_of n0 f0 x) left (left_of n0 l0 x) to at back) ring in
    record { last = l2; forward = left_over.forward; backward = left_over.backward; apart = left_over.apart }

pub place_same : (n0 n1 n2 : List Node) → Same less_right n0 n1 → Same less_left n1 n2 → Same less_place n0 n2
place_same n0 n1 n2 s t k = ap less_right (t k) ∙ ap less_left (s k)

-- a list of free nodes does not see a link written elsewhere
free_one : (n0 n1 : List Node) (f0 f1 at to free : ℕ) (fs : List ℕ) → Writes (right_of n0 f0) (right_of n1 f1) at to → times 65535 fs ≡ 0 → times at fs ≡ 0
    → AreFree n0 free fs → AreFree n1 free fs
free_one n0 n1 f0 f1 at to free fs w m n h =
    goes_ext (right_of n0 free) (right_of n1 free) 65535 65535 fs (λ k there. by k there) h
  where
    under : (k : ℕ) → (k ≢ 65535) → right_of n1 f1 k ≡ right_of n0 f0 k → right_of n1 free k ≡ right_of n0 free k
    under k d e =
        no_head k free (node_at n1 k).right d ∙ sym (no_head k f1 (node_at n1 k).right d) ∙ e ∙ no_head k f0 (node_at n0 k).right d
        ∙ sym (no_head k free (node_at n0 k).right d)

    inside : (k : ℕ) → k ≢ 65535 → times k (65535 ∷ fs) ≢ 0 → k ≢ at
    inside k d there e = there (grind (arith, nat_tests))

    by_test : (k : ℕ) (t : Bool) → (k == 65535) ≡ t → times k (65535 ∷ fs) ≢ 0 → right_of n1 free k ≡ right_of n0 free k
    by_test k true e there = ap (λ b. cond b free (node_at n1 k).right) e ∙ sym (ap (λ b. cond b free (node_at n0 k).right) e)
    by_test k false e there = let d : k ≢ 65535 = (λ q. grind (arith, nat_tests)) in under k d (w.others k (inside k d there))

    by : (k : ℕ) → times k (65535 ∷ fs) ≢ 0 → right_of n1 free k ≡ right_of n0 free k
    by k there = by_test k (k == 65535) refl there

-- nor a link to the left
free_left : (n0 n1 : List Node) (free : ℕ) (fs : List ℕ) → Same less_left n0 n1 → AreFree n0 free fs → AreFree n1 free fs
free_left n0 n1 free fs s h = goes_ext (right_of n0 free) (right_of n1 free) 65535 65535 fs (λ k there. ap (λ (n : Node). ends k free n.right) (s k)) h

pub free_unlinked : (n0 n1 n2 : List Node) (f0 f1 left right free : ℕ) (fs : List ℕ) → Writes (right_of n0 f0) (right_of n1 f1) left right
    → Same less_left n1 n2 → times 65535 fs ≡ 0 → times left fs ≡ 0 → AreFree n0 free fs → AreFree n2 free fs
free_unlinked n0 n1 n2 f0 f1 left right free fs w t m n h = free_left n1 n2 free fs t (free_one n0 n1 f0 f1 left right free fs w m n h)

-- ---- put in

pub use_linked : (n0 n1 n2 n3 n4 : List Node) (o0 o1 o2 w0 w1 w2 x : ℕ) → x ≢ 65535
    → Writes (newer_of n0 o0) (newer_of n1 o1) x 65535 → Writes (newer_of n1 o1) (newer_of n2 o2) w0 x
    → Writes (older_of n2 w0) (older_of n3 w1) x w0 → Writes (older_of n3 w1) (older_of n4 w2) 65535 x
    → Same less_newer n0 n1 → Same less_newer n1 n2 → Same less_older n2 n3 → Same less_older n3 n4
    → (us : List ℕ) → times x us ≡ 0 → InUse n0 o0 w0 us → InUse n4 o2 w2 (us ++ x ∷ [])
use_linked n0 n1 n2 n3 n4 o0 o1 o2 w0 w1 w2 x d v1 v2 w1' w2' s1 s2 s3 s4 us t r =
    let same : us ++ [] ≡ us = append-nil us in
    let forth : Goes (newer_of n0 o0) 65535 (us ++ []) 65535 = subst (λ (l : List ℕ). Goes (newer_of n0 o0) 65535 l 65535) (sym same) r.forward in
    let back : Returns (older_of n0 w0) 65535 (us ++ []) 65535 = subst (λ (l : List ℕ). Returns (older_of n0 w0) 65535 l 65535) (sym same) r.backward in
    let ring : Ring (newer_of n0 o0) (older_of n0 w0) (us ++ []) =
    record { forward = forth; backward = back; apart = subst (λ (l : List ℕ). Apart (65535 ∷ l)) (sym same) r.apart } in
    let at : last_or 65535 us ≡ w0 = sym (returns_from (older_of n0 w0) 65535 65535 us [] back) in
    let end : newer_of n0 o0 w0 ≡ 65535 = ap (newer_of n0 o0) (sym at) ∙ goes_from (newer_of n0 o0) 65535 65535 us [] forth in
    let last = writes_to (newer_of n1 o1) (newer_of n2 o2) (newer_of n4 o2) w0 x (λ k. ap (λ (n : Node). ends k o2 n.newer) (s4 k) ∙ ap (λ (n : Node). ends k o2 n.newer) (s3 k)) v2 in
    let first = writes_from (older_of n0 w0) (older_of n2 w0) (older_of n3 w1) x w0 (λ k. ap (λ (n : Node). ends k w0 n.older) (s2 k) ∙ ap (λ (n : Node). ends k w0 n.older) (s1 k)) w1' in
    let put = linked (newer_of n0 o0) (newer_of n1 o1) (newer_of n4 o2) (older_of n0 w0) (older_of n3 w1) (older_of n4 w2) x w0 65535 us [] at end d
    (subst (λ (l : List ℕ). times x l ≡ 0) (sym same) t) v1 last first w2' ring in
    record { forward = put.forward; backward = put.backward; apart = put.apart }

pub use_same_4 : (n0 n1 n2 n3 n4 : List Node) → Same less_newer n0 n1 → Same less_newer n1 n2 → Same less_older n2 n3 → Same less_older n3 n4 → Same less_use n0 n4
use_same_4 n0 n1 n2 n3 n4 s1 s2 s3 s4 k = ap less_newer (s4 k) ∙ ap less_newer (s3 k) ∙ ap less_older (s2 k) ∙ ap less_older (s1 k)

pub place_linked : (n0 n1 n2 n3 n4 : List Node) (f0 f1 f2 x before behind : ℕ) → x ≢ 65535 → behind ≡ right_of n0 f0 before
    → Writes (right_of n0 f0) (right_of n1 f1) x behind → Writes (right_of n1 f1) (right_of n2 f2) before x
    → ((last : ℕ) → Writes (left_of n2 last) (left_of n3 (cond (x == 65535) before last)) x before)
    → ((last : ℕ) → Writes (left_of n3 last) (left_of n4 (cond (behind == 65535) x last)) behind x)
    → Same less_right n0 n1 → Same less_right n1 n2 → Same less_left n2 n3 → Same less_left n3 n4
    → (xs ys : List ℕ) → last_or 65535 xs ≡ before → times x (xs ++ ys) ≡ 0 → InPlace n0 f0 (xs ++ ys) → InPlace n4 f2 (xs ++ x ∷ ys)
place_linked n0 n1 n2 n3 n4 f0 f1 f2 x before behind d e v1 v2 w1 w2 s1 s2 s3 s4 xs ys at t r =
    let l0 = r.last in
    let l1 = cond (x == 65535) before l0 in
    let l2 = cond (behind == 65535) x l1 in
    let ring : Ring (right_of n0 f0) (left_of n0 l0) (xs ++ ys) = record { forward = r.forward; backward = r.backward; apart = r.apart } in
    let last = writes_to (right_of n1 f1) (right_of n2 f2) (right_of n4 f2) before x (λ k. ap (λ (n : Node). ends k f2 n.right) (s4 k) ∙ ap (λ (n : Node). ends k f2 n.right) (s3 k)) v2 in
    let first = writes_from (left_of n0 l0) (left_of n2 l0) (left_of n3 l1) x before (λ k. ap (λ (n : Node). ends k l0 n.left) (s2 k) ∙ ap (λ (n : Node). ends k l0 n.left) (s1 k)) (w1 l0) in
    let put = linked (right_of n0 f0) (right_of n1 f1) (right_of n4 f2) (left_of n0 l0) (left_of n3 l1) (left_of n4 l2) x before behind xs ys at (sym e) d t
    v1 last first (w2 l1) ring in
    record { last = l2; forward = put.forward; backward = put.backward; apart = put.apart }

pub place_same_4 : (n0 n1 n2 n3 n4 : List Node) → Same less_right n0 n1 → Same less_right n1 n2 → Same less_left n2 n3 → Same less_left n3 n4 → Same less_place n0 n4
place_same_4 n0 n1 n2 n3 n4 s1 s2 s3 s4 k = ap less_right (s4 k) ∙ ap less_right (s3 k) ∙ ap less_left (s2 k) ∙ ap less_left (s1 k)

pub free_linked : (n0 n1 n2 n3 n4 : List Node) (f0 f1 f2 x before behind free : ℕ) (fs : List ℕ)
    → Writes (right_of n0 f0) (right_of n1 f1) x behind → Writes (right_of n1 f1) (right_of n2 f2) before x → Same less_left n2 n3 → Same less_left n3 n4
    → times 65535 fs ≡ 0 → times before fs ≡ 0 → times x fs ≡ 0 → AreFree n0 free fs → AreFree n4 free fs
free_linked n0 n1 n2 n3 n4 f0 f1 f2 x before behind free fs v1 v2 s3 s4 m nb nx h =
    free_left n3 n4 free fs s4 (free_left n2 n3 free fs s3 (free_one n1 n2 f1 f2 before x free fs v2 m nb (free_one n0 n1 f0 f1 x behind free fs v1 m nx h)))
