-- References that are moved: their code makes their address, and they lead where a move finds them.
use Rattle.std.proofs.Common.{◌≡◌, ℕ, ◌+◌, ◌≤◌, Bool, true, false, List, Option, Some, None, refl, sym, ap, subst, arith}
use Rattle.std.specs.Prelude.{◌&&◌}
use Rattle.std.proofs.lemmas.Bool.{false≢true, not-true}
use Rattle.spl_choices.specs.spl_tree.declared.expressions.Kind.{Kind}
use Rattle.spl_choices.specs.spl_tree.declared.expressions.Kind.TheVariants as kind
use Rattle.spl_choices.specs.spl_tree.declared.names_and_places.At.{At}
use Rattle.spl_choices.specs.spl_tree.Trees as tree
use Rattle.spl_choices.specs.spl_tree.Trees.{Tree, Trees}
use Rattle.spl_choices.specs.spl_meaning.Kinds.{variable_kind}
use Rattle.spl_choices.specs.spl_meaning.Names.{Sort}
use Rattle.spl_choices.specs.spl_meaning.Pending.{most}
use Rattle.spl_choices.specs.spl_meaning.Places.{Place}
use Rattle.spl_choices.specs.spl_meaning.References.{Setting, access_of, locate}
use Rattle.spl_choices.specs.spl_meaning.States.{then_go}
use Rattle.spl_choices.specs.spl_meaning.Values.{Who, Callee, value, located, index, address_done}
use Rattle.spl_choices.specs.spl_code.Calls.{Scope}
use Rattle.spl_choices.specs.spl_code.Code.{as_value, reference}
use Rattle.spl_choices.specs.spl_follow.Simulating.{Surroundings, Simulates}
use Rattle.spl_covered.specs.spl_values.Reached.{IsWhole}
use Rattle.spl_covered.proofs.spl_values_proofs.VariableLemmas.{both}
use Rattle.spl_covered.proofs.spl_values_proofs.WholeLemmas.{same_simulates}
use Rattle.spl_covered.specs.spl_links.Links.{MayCall}
use Rattle.spl_covered.specs.spl_names.Names.{read_with}
use Rattle.spl_covered.specs.Covered.{is_covered_address}
use Rattle.spl_covered.proofs.spl_whom_proofs.CallLemmas.{bare_whole, bare_simulates}
use Rattle.spl_covered.proofs.ArgumentLemmas.{behind_both}
use Rattle.spl_covered.proofs.CoverLemmas.{covered_whole, covered_gives}
use Rattle.spl_covered.specs.spl_moves.Laws.{AreUnits}
use Rattle.spl_covered.specs.spl_moves.Moving.{LeadsTo, IsReference}
use Rattle.spl_covered.specs.spl_byte_tests.Elements.{is_moved_place}
use Rattle.spl_covered.proofs.LeadLemmas.{reference_leads}
use Rattle.spl_moved.specs.Moved.{is_moved_kind, is_moved}

-- ---- kinds

-- an index, or none
abbrev waits_one : Trees → Bool
waits_one tree.Trees.none = true
waits_one (tree.Trees.and i tree.Trees.none) = true
waits_one es = false

-- the kind of elements that are moved, by what their name stands for
pub record MovedKind (bytes : Bool) (o : Option Sort) : Type 0 where
  pub type : Kind
  pub is : variable_kind o ≡ Some type
  pub units : AreUnits bytes type

kind_case : (bytes : Bool) (o : Option Sort) (k : Option Kind) → variable_kind o ≡ k → is_moved_kind bytes k ≡ true → MovedKind bytes o
kind_case bytes o (Some kind.Byte) is e = record { type = kind.Byte; is = is; units = (sym e, refl) }
kind_case bytes o (Some kind.Integer) is e = record { type = kind.Integer; is = is; units = (sym (not-true bytes e), refl) }
kind_case bytes o (Some kind.Logical) is e = record { type = kind.Logical; is = is; units = (sym (not-true bytes e), refl) }
kind_case bytes o (Some kind.Double) is e = absurd (false≢true e)
kind_case bytes o None is e = absurd (false≢true e)

-- ---- references

-- what waits in the address of a reference waits in the reference
index_waits : (c : Scope) (x : List ℕ) (es : Trees) (at : At) → waits_one es ≡ true
    → most c.names (tree.Tree.address x es at) ≤ most c.names (tree.Tree.named x es at)
index_waits c x tree.Trees.none at e = omega arith
index_waits c x (tree.Trees.and i tree.Trees.none) at e = omega arith
index_waits c x (tree.Trees.and i (tree.Trees.and j js)) at e = absurd (false≢true e)

one_waits : (may : Who → Bool) (c : Scope) (st : Setting) (x : List ℕ) (es : Trees) (k : ℕ) → is_covered_address may c st x es k ≡ true → waits_one es ≡ true
one_waits may c st x tree.Trees.none k e = refl
one_waits may c st x (tree.Trees.and i tree.Trees.none) k e = refl
one_waits may c st x (tree.Trees.and i (tree.Trees.and j js)) k e = absurd (false≢true e)

-- a reference that is moved, by its parts
pub record MovedReference (may : Who → Bool) (c : Scope) (st : Setting) (bytes : Bool) (e : Tree) (k : ℕ) : Type 0 where
  pub name : List ℕ
  pub indexes : Trees
  pub at : At
  pub is : e ≡ tree.Tree.named name indexes at
  pub kinds : MovedKind bytes (c.names name)
  pub place : is_moved_place st (access_of (c.names name)) ≡ true
  pub address : is_covered_address may c st name indexes k ≡ true

pub moved_case : (may : Who → Bool) (c : Scope) (st : Setting) (bytes : Bool) (e : Tree) (k : ℕ) → is_moved may c st bytes e k ≡ true
    → MovedReference may c st bytes e k
moved_case may c st bytes (tree.Tree.named x es at) k h =
    let two = both (is_moved_kind bytes (variable_kind (c.names x)) && is_moved_place st (access_of (c.names x))) (is_covered_address may c st x es k) h in
    let one = both (is_moved_kind bytes (variable_kind (c.names x))) (is_moved_place st (access_of (c.names x))) two.0 in
    record {
      name = x;
      indexes = es;
      at = at;
      is = refl;
      kinds = kind_case bytes (c.names x) (variable_kind (c.names x)) refl one.0;
      place = one.1;
      address = two.1;
    }
moved_case may c st bytes (tree.Tree.number v) k h = absurd (false≢true h)
moved_case may c st bytes (tree.Tree.wide v) k h = absurd (false≢true h)
moved_case may c st bytes (tree.Tree.text text) k h = absurd (false≢true h)
moved_case may c st bytes (tree.Tree.truth b) k h = absurd (false≢true h)
moved_case may c st bytes (tree.Tree.address x es at) k h = absurd (false≢true h)
moved_case may c st bytes (tree.Tree.unary o a at) k h = absurd (false≢true h)
moved_case may c st bytes (tree.Tree.binary o a b at) k h = absurd (false≢true h)
moved_case may c st bytes (tree.Tree.shift o a by' at) k h = absurd (false≢true h)
moved_case may c st bytes (tree.Tree.field a start size at) k h = absurd (false≢true h)
moved_case may c st bytes (tree.Tree.transfer to a at) k h = absurd (false≢true h)
moved_case may c st bytes (tree.Tree.bytes o a b count at) k h = absurd (false≢true h)

pub reference_whole : (may : Who → Bool) (c : Scope) (st : Setting) (bytes : Bool) (e : Tree) (k : ℕ) → is_moved may c st bytes e k ≡ true
    → IsWhole (reference c e k)
reference_whole may c st bytes e k h =
    let r = moved_case may c st bytes e k h in
    subst (λ (a : Tree). IsWhole (reference c a k)) (sym r.is)
    (bare_whole (reference c (tree.Tree.named r.name r.indexes r.at) k) (covered_whole may c st (tree.Tree.address r.name r.indexes r.at) k r.address))

-- its code makes its address, and it leads where a move finds it
pub reference_is : (may : Who → Bool) (c : Scope) (results : List ℕ → Option (Kind × Place)) (z : Surroundings) (call : Callee) (d : ℕ) (bytes : Bool)
    (e : Tree) (k need : ℕ) → MayCall may c z d call → (h : is_moved may c z.setting bytes e k ≡ true) → most c.names e + 8 ≤ need
    → IsReference z d k need (moved_case may c z.setting bytes e k h).kinds.type (reference c e k) (λ s. located (read_with c results z.setting) call e k s)
reference_is may c results z call d bytes e k need around h enough =
    let r = moved_case may c z.setting bytes e k h in
    let v = read_with c results z.setting in
    let ref = tree.Tree.named r.name r.indexes r.at in
    let few = index_waits c r.name r.indexes r.at (one_waits may c z.setting r.name r.indexes k r.address) in
    let same = ap (λ (a : Tree). most c.names a) r.is in
    record {
      whole = reference_whole may c z.setting bytes e k h;
      leads = λ s lies. subst (λ (a : Tree). LeadsTo r.kinds.type z.setting.split (located v call a k s)) (sym r.is)
          (reference_leads may c results z.setting call r.name r.indexes r.at r.kinds.type k s r.kinds.is r.place r.address lies);
      simulates = subst (λ (a : Tree). Simulates z d as_value 1 k need (reference c a k) (λ s. then_go (located v call a k s) (λ p u. address_done p u))) (sym r.is)
          (same_simulates z d as_value 1 k need (reference c ref k) (reference c ref k) (λ s. then_go (located v call ref k s) address_done)
          (λ s. value v call (tree.Tree.address r.name r.indexes r.at) k s) refl
          (λ s. behind_both (index v call r.indexes k s) (λ i u. locate v r.name i u) address_done)
          (bare_simulates z d 1 k need (reference c ref k) (λ s. value v call (tree.Tree.address r.name r.indexes r.at) k s)
          (covered_gives may c results z call d (tree.Tree.address r.name r.indexes r.at) k need around r.address (omega (arith, enough, few, same)))));
    }
