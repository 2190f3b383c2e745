-- A search along links, step by step.
use Rattle.std.proofs.Common.{◌≡◌, ◌≢◌, ℕ, zero, suc, ◌+◌, ◌-◌, ◌<◌, ◌≤◌, cond, List, length, None, Some, Option, refl, ap, ◌∙◌, arith}
use Rattle.std.specs.Prelude.{◌==◌, nat_le}
use Rattle.std.proofs.lemmas.Bool.{lt-ltb, le-ltb, eq-eqb, ne_eqb, le-leb, lt-leb}
use Rattle.mpe_links.specs.declared.node.Node.{Node}
use Rattle.mpe_links.specs.Nodes.{node_at}
use Rattle.mpe_regions.specs.declared.searches.Hole.{Hole}
use Rattle.mpe_regions.specs.Searches.{sought, last_hole, hole_sought}

pub sought_past : (nodes : List Node) (key m at : ℕ) → length nodes ≤ at → sought nodes key m at ≡ None
sought_past nodes key zero at h = refl
sought_past nodes key (suc m) at h =
    ap (λ b. cond b (cond ((node_at nodes at).key == key) (Some at) (sought nodes key m (node_at nodes at).right)) None) (le-ltb at (length nodes) h)

pub sought_here : (nodes : List Node) (key n i at : ℕ) → i < n → at < length nodes → (node_at nodes at).key ≡ key → sought nodes key (n - i) at ≡ Some at
sought_here nodes key n i at l h e =
    let s : n - i ≡ suc (n - (i + 1)) = omega arith in
    ap (λ m. sought nodes key m at) s
    ∙ ap (λ b. cond b (cond ((node_at nodes at).key == key) (Some at) (sought nodes key (n - (i + 1)) (node_at nodes at).right)) None) (lt-ltb at (length nodes) h)
    ∙ ap (λ b. cond b (Some at) (sought nodes key (n - (i + 1)) (node_at nodes at).right)) (eq-eqb (node_at nodes at).key key e)

pub sought_next : (nodes : List Node) (key n i at : ℕ) → i < n → at < length nodes → (node_at nodes at).key ≢ key
    → sought nodes key (n - i) at ≡ sought nodes key (n - (i + 1)) (node_at nodes at).right
sought_next nodes key n i at l h e =
    let s : n - i ≡ suc (n - (i + 1)) = omega arith in
    ap (λ m. sought nodes key m at) s
    ∙ ap (λ b. cond b (cond ((node_at nodes at).key == key) (Some at) (sought nodes key (n - (i + 1)) (node_at nodes at).right)) None) (lt-ltb at (length nodes) h)
    ∙ ap (λ b. cond b (Some at) (sought nodes key (n - (i + 1)) (node_at nodes at).right)) (ne_eqb (node_at nodes at).key key e)

pub sought_end : (nodes : List Node) (key n i at : ℕ) → n ≤ i → sought nodes key (n - i) at ≡ None
sought_end nodes key n i at h = let s : n - i ≡ 0 = omega arith in ap (λ m. sought nodes key m at) s

pub hole_past : (nodes : List Node) (end want m from before at : ℕ) → length nodes ≤ at → hole_sought nodes end want m from before at ≡ last_hole end want from before
hole_past nodes end want zero from before at h = refl
hole_past nodes end want (suc m) from before at h =
    ap (λ b. cond b (cond (nat_le (from + want) (node_at nodes at).place) (Some (record { place = from; before = before }))
    (hole_sought nodes end want m ((node_at nodes at).place + (node_at nodes at).size) at (node_at nodes at).right)) (last_hole end want from before))
    (le-ltb at (length nodes) h)

pub hole_here : (nodes : List Node) (end want n i from before at : ℕ) → i < n → at < length nodes → from + want ≤ (node_at nodes at).place
    → hole_sought nodes end want (n - i) from before at ≡ Some (record { place = from; before = before })
hole_here nodes end want n i from before at l h e =
    let s : n - i ≡ suc (n - (i + 1)) = omega arith in
    let rest : Option Hole = hole_sought nodes end want (n - (i + 1)) ((node_at nodes at).place + (node_at nodes at).size) at (node_at nodes at).right in
    ap (λ m. hole_sought nodes end want m from before at) s
    ∙ ap (λ b. cond b (cond (nat_le (from + want) (node_at nodes at).place) (Some (record { place = from; before = before })) rest) (last_hole end want from before))
    (lt-ltb at (length nodes) h)
    ∙ ap (λ b. cond b (Some (record { place = from; before = before })) rest) (le-leb (from + want) (node_at nodes at).place e)

pub hole_next : (nodes : List Node) (end want n i from before at : ℕ) → i < n → at < length nodes → (node_at nodes at).place < from + want
    → hole_sought nodes end want (n - i) from before at
    ≡ hole_sought nodes end want (n - (i + 1)) ((node_at nodes at).place + (node_at nodes at).size) at (node_at nodes at).right
hole_next nodes end want n i from before at l h e =
    let s : n - i ≡ suc (n - (i + 1)) = omega arith in
    let rest : Option Hole = hole_sought nodes end want (n - (i + 1)) ((node_at nodes at).place + (node_at nodes at).size) at (node_at nodes at).right in
    ap (λ m. hole_sought nodes end want m from before at) s
    ∙ ap (λ b. cond b (cond (nat_le (from + want) (node_at nodes at).place) (Some (record { place = from; before = before })) rest) (last_hole end want from before))
    (lt-ltb at (length nodes) h)
    ∙ ap (λ b. cond b (Some (record { place = from; before = before })) rest) (lt-leb (from + want) (node_at nodes at).place e)

pub hole_end : (nodes : List Node) (end want n i from before at : ℕ) → n ≤ i → hole_sought nodes end want (n - i) from before at ≡ last_hole end want from before
hole_end nodes end want n i from before at h = let s : n - i ≡ 0 = omega arith in ap (λ m. hole_sought nodes end want m from before at) s
