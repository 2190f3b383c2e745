-- Where references lead whose address is covered, to elements that are moved or compared.
use Rattle.std.proofs.Common.{◌≡◌, ℕ, Bool, true, List, Option, Some, refl}
use Rattle.std.proofs.lemmas.Bool.{false≢true}
use Rattle.spl_byte_tests.specs.spl_tree.declared.expressions.Kind.{Kind}
use Rattle.spl_byte_tests.specs.spl_tree.declared.expressions.Kind.TheVariants as kind
use Rattle.spl_byte_tests.specs.spl_tree.declared.names_and_places.At.{At}
use Rattle.spl_byte_tests.specs.spl_tree.Trees as tree
use Rattle.spl_byte_tests.specs.spl_tree.Trees.{Tree, Trees}
use Rattle.spl_byte_tests.specs.spl_meaning.Kinds.{variable_kind}
use Rattle.spl_byte_tests.specs.spl_meaning.Places.{Place}
use Rattle.spl_byte_tests.specs.spl_meaning.References.{Setting, access_of, locate}
use Rattle.spl_byte_tests.specs.spl_meaning.States.{State}
use Rattle.spl_byte_tests.specs.spl_meaning.Values.{Who, Callee, located, index}
use Rattle.spl_byte_tests.specs.spl_code.Calls.{Scope}
use Rattle.spl_byte_tests.specs.spl_follow.Matching.{footing, Lies}
use Rattle.spl_byte_tests.proofs.spl_values_proofs.VariableLemmas.{both}
use Rattle.spl_byte_tests.specs.spl_names.Names.{read_with, is_addressed_element}
use Rattle.spl_byte_tests.specs.spl_moves.Moving.{LeadsTo}
use Rattle.spl_byte_tests.specs.Elements.{is_moved_place, is_byte_element}
use Rattle.spl_byte_tests.proofs.LeadLemmas.{access_leads, element_leads, index_leads, sort_kind, byte_case}
use Rattle.spl_covered.specs.Covered.{is_covered, is_covered_address, is_covered_reference}

-- by how its name leads to a word, and by its index
pub reference_leads : (may : Who → Bool) (c : Scope) (results : List ℕ → Option (Kind × Place)) (st : Setting) (call : Callee) (x : List ℕ) (es : Trees) (at : At)
    (t : Kind) (k : ℕ) (s : State) → variable_kind (c.names x) ≡ Some t → is_moved_place st (access_of (c.names x)) ≡ true
    → is_covered_address may c st x es k ≡ true → Lies st (footing s.now)
    → LeadsTo t st.split (located (read_with c results st) call (tree.Tree.named x es at) k s)
reference_leads may c results st call x tree.Trees.none at t k s is place e lies =
    access_leads st (access_of (c.names x)) t k (read_with c results st) x s refl place e (sort_kind (c.names x) t is) lies
reference_leads may c results st call x (tree.Trees.and i tree.Trees.none) at t k s is place e lies =
    let two = both (is_addressed_element st k (access_of (c.names x)) (c.places x)) (is_covered may c st i k) e in
    index_leads t st.split (index (read_with c results st) call (tree.Trees.and i tree.Trees.none) k s) (λ j u. locate (read_with c results st) x j u)
    (λ j u. element_leads st (access_of (c.names x)) t k (read_with c results st) x j u refl place two.0 (sort_kind (c.names x) t is))
reference_leads may c results st call x (tree.Trees.and i (tree.Trees.and j js)) at t k s is place e lies = absurd (false≢true e)

-- one to bytes that are compared
pub bytes_lead : (may : Who → Bool) (c : Scope) (results : List ℕ → Option (Kind × Place)) (st : Setting) (call : Callee) (e : Tree) (k : ℕ) (s : State)
    → is_byte_element c st e ≡ true → is_covered_reference may c st e k ≡ true → Lies st (footing s.now)
    → LeadsTo kind.Byte st.split (located (read_with c results st) call e k s)
bytes_lead may c results st call (tree.Tree.named x es at) k s bytes h lies =
    let two = byte_case c st x es at bytes in reference_leads may c results st call x es at kind.Byte k s two.0 two.1 h lies
bytes_lead may c results st call (tree.Tree.number v) k s bytes h lies = absurd (false≢true h)
bytes_lead may c results st call (tree.Tree.wide v) k s bytes h lies = absurd (false≢true h)
bytes_lead may c results st call (tree.Tree.text text) k s bytes h lies = absurd (false≢true h)
bytes_lead may c results st call (tree.Tree.truth b) k s bytes h lies = absurd (false≢true h)
bytes_lead may c results st call (tree.Tree.address x es at) k s bytes h lies = absurd (false≢true h)
bytes_lead may c results st call (tree.Tree.unary o a at) k s bytes h lies = absurd (false≢true h)
bytes_lead may c results st call (tree.Tree.binary o a b at) k s bytes h lies = absurd (false≢true h)
bytes_lead may c results st call (tree.Tree.shift o a by' at) k s bytes h lies = absurd (false≢true h)
bytes_lead may c results st call (tree.Tree.field a start size at) k s bytes h lies = absurd (false≢true h)
bytes_lead may c results st call (tree.Tree.transfer to a at) k s bytes h lies = absurd (false≢true h)
bytes_lead may c results st call (tree.Tree.bytes o a b count at) k s bytes h lies = absurd (false≢true h)
