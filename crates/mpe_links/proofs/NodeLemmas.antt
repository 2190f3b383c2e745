-- One node of a table is written.
use Rattle.std.proofs.Common.{◌≡◌, ◌≢◌, ℕ, ◌<◌, Bool, true, false, cond, List, length, get_or, refl, ap, ◌∙◌, arith, get_or-set_other, get_or-set_same}
use Rattle.std.specs.Prelude.{◌==◌, slice_set}
use Rattle.std.proofs.lemmas.Bool.Decides.{nat_tests}
use Rattle.mpe_links.specs.declared.node.Node.{Node}
use Rattle.mpe_links.specs.Ways.{Writes}
use Rattle.mpe_links.specs.Nodes.{blank, node_at}

pub node_there : (nodes : List Node) (at : ℕ) (n : Node) → at < length nodes → node_at (slice_set nodes at n) at ≡ n
unfolding node_at
node_there nodes at n l = get_or-set_same nodes at n blank l

pub node_other : (nodes : List Node) (at k : ℕ) (n : Node) → k ≢ at → node_at (slice_set nodes at n) k ≡ node_at nodes k
unfolding node_at
node_other nodes at k n d = get_or-set_other nodes at k n blank d

-- what f tells of nodes, and of the head where 65535 would stand
abbrev link_of : (Node → ℕ) → List Node → ℕ → ℕ → ℕ
link_of f nodes head k = cond (k == 65535) head (f (node_at nodes k))

pub wrote : (f : Node → ℕ) (nodes : List Node) (head at to : ℕ) (n : Node) → at ≢ 65535 → at < length nodes → f n ≡ to
    → Writes (link_of f nodes head) (link_of f (slice_set nodes at n) head) at to
wrote f nodes head at to n d l e =
    let no : (at == 65535) ≡ false = grind (arith, nat_tests) in
    record {
      there = ap (λ t. cond t head (f (node_at (slice_set nodes at n) at))) no ∙ ap f (node_there nodes at n l) ∙ e;
      others = λ k o. ap (λ m. cond (k == 65535) head (f m)) (node_other nodes at k n o);
    }

-- the same where the head is told for 65535
pub wrote_left : (f : Node → ℕ) (nodes : List Node) (head at to : ℕ) (n : Node) → at ≢ 65535 → at < length nodes → f n ≡ to
    → Writes (link_of f nodes head) (link_of f (slice_set nodes at n) (cond (at == 65535) to head)) at to
wrote_left f nodes head at to n d l e =
    let no : (at == 65535) ≡ false = grind (arith, nat_tests) in
    rw no (wrote f nodes head at to n d l e)

read : {A : Type 0} (f : Node → A) (nodes : List Node) (i : ℕ) → f (get_or nodes i blank) ≡ f (node_at nodes i)
unfolding node_at
read f nodes i = refl

pub same : {A : Type 0} (f : Node → A) (nodes : List Node) (at : ℕ) (n : Node) → at < length nodes → f n ≡ f (get_or nodes at blank)
    → (k : ℕ) → f (node_at (slice_set nodes at n) k) ≡ f (node_at nodes k)
same f nodes at n l e k = by (k == at) refl where
  by : (t : Bool) → (k == at) ≡ t → f (node_at (slice_set nodes at n) k) ≡ f (node_at nodes k)
  by true q = let s : k ≡ at = grind (arith, nat_tests) in rw s (ap f (node_there nodes at n l) ∙ e ∙ read f nodes at)
  by false q = let d : k ≢ at = (λ s. grind (arith, nat_tests)) in ap f (node_other nodes at k n d)
