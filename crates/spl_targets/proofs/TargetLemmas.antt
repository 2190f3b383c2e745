-- All targets that are proved, in a tree.
use Rattle.std.proofs.Common.{◌≡◌, ℕ, ◌+◌, ◌≤◌, Bool, true, false, List, refl, sym, ap, subst, arith}
use Rattle.std.specs.Prelude.{Option, ◌&&◌, ◌||◌, max, if◌then◌else◌}
use Rattle.std.proofs.lemmas.Bool.{false≢true}
use Rattle.std.proofs.Math.Logic.{⊎_elim}
use Rattle.spl_covered.specs.spl_tree.declared.expressions.Kind.{Kind}
use Rattle.spl_covered.specs.spl_tree.Trees as tree
use Rattle.spl_covered.specs.spl_tree.Trees.{Tree, Constant}
use Rattle.spl_covered.specs.spl_tree.StatementTrees as stat
use Rattle.spl_covered.specs.spl_tree.StatementTrees.{Target}
use Rattle.spl_covered.specs.spl_branch.declared.pieces.Piece.TheVariants.{Begin}
use Rattle.spl_covered.specs.spl_tree.declared.names_and_places.At.{At}
use Rattle.spl_covered.specs.spl_meaning.Names.{Names}
use Rattle.spl_covered.specs.spl_meaning.Pending.{most, waiting, behind_index, index_most, target_most}
use Rattle.spl_covered.specs.spl_meaning.Places.{Place}
use Rattle.spl_covered.specs.spl_meaning.References.{Here, Setting, access_of}
use Rattle.spl_covered.specs.spl_meaning.States.{State, Outcome, stopping}
use Rattle.spl_covered.specs.spl_meaning.Statements.{assigned, assign, alone_value, run}
use Rattle.spl_covered.specs.spl_meaning.Values.{Who, Callee, small_constant, value}
use Rattle.spl_covered.specs.spl_code.Calls.{Scope}
use Rattle.spl_covered.specs.spl_code.Code.{as_value, code}
use Rattle.spl_covered.specs.spl_code.Parts.{Part, piece, ◌⨟◌}
use Rattle.spl_covered.specs.spl_statement_code.Landings.{Context}
use Rattle.spl_covered.specs.spl_values.Reached.{IsWhole}
use Rattle.spl_covered.proofs.spl_word_operators_proofs.OperatorLemmas.{either}
use Rattle.spl_covered.specs.spl_statement_code.Assignments as put
use Rattle.spl_covered.specs.spl_statement_code.Statements.{statement}
use Rattle.spl_top_fields.specs.spl_follow.Simulating.{Surroundings, Simulates, Performs}
use Rattle.spl_covered.proofs.spl_intrinsics_proofs.RoomLemmas.{more_room}
use Rattle.spl_covered.proofs.spl_values_proofs.VariableLemmas.{both}
use Rattle.spl_top_fields.specs.spl_field_stores.Laws.{is_within}
use Rattle.spl_covered.specs.spl_names.Names.{is_led_element, read_with}
use Rattle.spl_covered.specs.spl_links.Links.{MayCall}
use Rattle.spl_covered.specs.Covered.{is_covered}
use Rattle.spl_covered.proofs.CoverLemmas.{covered_width, covered_whole, covered_gives}
use Rattle.spl_targets.specs.Laws.{WordStoresAreWhole, WordStoresPerform, WordsAssignedAreWhole, WordsAssigned}
use Rattle.spl_targets.specs.Results.{ResultsAgree}
use Rattle.spl_targets.proofs.OwnLemmas.{own_case, own_whole, own_performs}
use Rattle.spl_targets.specs.Targets.{keeps_answer, has_fields, has_field_elements, has_result_fields, is_led_target, is_own_target, is_field_target}
use Rattle.spl_targets.proofs.ElementLemmas.{led_whole, led_performs, element_whole, element_performs}
use Rattle.spl_targets.proofs.SameLemmas.{stopping_same, same_performs}
use Rattle.spl_targets.proofs.FieldLemmas as fields
use Rattle.spl_targets.proofs.ResultFieldLemmas as results_of

-- what is covered gives one word
pub word_given : (may : Who → Bool) (c : Scope) (results : List ℕ → Option (Kind × Place)) (z : Surroundings) (call : Callee) (d : ℕ) (e : Tree) (k need : ℕ)
    → MayCall may c z d call → is_covered may c z.setting e k ≡ true → most c.names e + 8 ≤ need
    → Simulates z d as_value 1 k need (code c e as_value k) (λ s. value (read_with c results z.setting) call e k s)
word_given may c results z call d e k need links covered enough =
    subst (λ (j : ℕ). Simulates z d as_value j k need (code c e as_value k) (λ s. value (read_with c results z.setting) call e k s)) (covered_width may c z.setting e k covered)
    (covered_gives may c results z call d e k need links covered enough)

-- what is asked of a field of an element
element_parts : (may : Who → Bool) (c : Scope) (st : Setting) (x : List ℕ) (i : Tree) (start size : Constant) (k : ℕ)
    → (is_within (small_constant c.names start) (small_constant c.names size) && (has_field_elements st k (c.names x) (c.places x) && is_covered may c st i k)) ≡ true
    → (is_within (small_constant c.names start) (small_constant c.names size) ≡ true) × (has_field_elements st k (c.names x) (c.places x) ≡ true)
    × (is_covered may c st i k ≡ true)
element_parts may c st x i start size k e =
    let two = both (is_within (small_constant c.names start) (small_constant c.names size)) (has_field_elements st k (c.names x) (c.places x) && is_covered may c st i k) e in
    let rest = both (has_field_elements st k (c.names x) (c.places x)) (is_covered may c st i k) two.1 in
    (two.0, rest.0, rest.1)

-- the room of an index
pub index_room : (names : Names) (x : List ℕ) (i : Tree) (there : At) (need : ℕ)
    → target_most names (stat.Target.plain (tree.Tree.named x (tree.Trees.and i tree.Trees.none) there)) + 8 ≤ need → most names i + 8 ≤ need
index_room names x i there need room = omega (arith, room)

-- by the target, and whether there is an index
led_stores_whole : (may : Who → Bool) (c : Context) (st : Setting) (to : Target) (right : ℕ → Part) (at : At) (k : ℕ)
    → is_led_target may c.scope st to k ≡ true → IsWhole (right (waiting to k)) → IsWhole (piece (Begin at) ⨟ put.assigned c.scope to right k)
led_stores_whole may c st (stat.Target.plain (tree.Tree.named x tree.Trees.none there)) right at k led whole = led_whole c st x there right at k led whole
led_stores_whole may c st (stat.Target.plain (tree.Tree.named x (tree.Trees.and i tree.Trees.none) there)) right at k led whole =
    let two = both (is_led_element st k (access_of (c.scope.names x)) (c.scope.places x)) (is_covered may c.scope st i k) led in
    element_whole c st x i there right at k two.0 (covered_whole may c.scope st i k two.1) whole
led_stores_whole may c st (stat.Target.plain (tree.Tree.named x (tree.Trees.and i (tree.Trees.and j js)) there)) right at k led whole = absurd (false≢true led)
led_stores_whole may c st (stat.Target.plain (tree.Tree.number w)) right at k led whole = absurd (false≢true led)
led_stores_whole may c st (stat.Target.plain (tree.Tree.wide w)) right at k led whole = absurd (false≢true led)
led_stores_whole may c st (stat.Target.plain (tree.Tree.text bytes)) right at k led whole = absurd (false≢true led)
led_stores_whole may c st (stat.Target.plain (tree.Tree.truth b)) right at k led whole = absurd (false≢true led)
led_stores_whole may c st (stat.Target.plain (tree.Tree.address x es there)) right at k led whole = absurd (false≢true led)
led_stores_whole may c st (stat.Target.plain (tree.Tree.unary o a there)) right at k led whole = absurd (false≢true led)
led_stores_whole may c st (stat.Target.plain (tree.Tree.binary o a b there)) right at k led whole = absurd (false≢true led)
led_stores_whole may c st (stat.Target.plain (tree.Tree.shift o a by there)) right at k led whole = absurd (false≢true led)
led_stores_whole may c st (stat.Target.plain (tree.Tree.field a first long there)) right at k led whole = absurd (false≢true led)
led_stores_whole may c st (stat.Target.plain (tree.Tree.transfer t a there)) right at k led whole = absurd (false≢true led)
led_stores_whole may c st (stat.Target.plain (tree.Tree.bytes o a b count there)) right at k led whole = absurd (false≢true led)
led_stores_whole may c st (stat.Target.field (tree.Tree.named x tree.Trees.none there) start size) right at k led whole =
    let two = both (is_within (small_constant c.scope.names start) (small_constant c.scope.names size)) (has_fields st k (c.scope.names x) (c.scope.places x)) led in
    fields.field_whole c st x there start size right at k two.0 two.1 whole
led_stores_whole may c st (stat.Target.field (tree.Tree.named x (tree.Trees.and i tree.Trees.none) there) start size) right at k led whole =
    let r = element_parts may c.scope st x i start size k led in
    fields.element_whole c st x i there start size right at k r.1 r.0
    (covered_whole may c.scope st i k r.2) whole
led_stores_whole may c st (stat.Target.field (tree.Tree.named x (tree.Trees.and i (tree.Trees.and j js)) there) start size) right at k led whole = absurd (false≢true led)
led_stores_whole may c st (stat.Target.field (tree.Tree.number w) start size) right at k led whole = absurd (false≢true led)
led_stores_whole may c st (stat.Target.field (tree.Tree.wide w) start size) right at k led whole = absurd (false≢true led)
led_stores_whole may c st (stat.Target.field (tree.Tree.text bytes) start size) right at k led whole = absurd (false≢true led)
led_stores_whole may c st (stat.Target.field (tree.Tree.truth b) start size) right at k led whole = absurd (false≢true led)
led_stores_whole may c st (stat.Target.field (tree.Tree.address x es there) start size) right at k led whole = absurd (false≢true led)
led_stores_whole may c st (stat.Target.field (tree.Tree.unary o a there) start size) right at k led whole = absurd (false≢true led)
led_stores_whole may c st (stat.Target.field (tree.Tree.binary o a b there) start size) right at k led whole = absurd (false≢true led)
led_stores_whole may c st (stat.Target.field (tree.Tree.shift o a by there) start size) right at k led whole = absurd (false≢true led)
led_stores_whole may c st (stat.Target.field (tree.Tree.field a first long there) start size) right at k led whole = absurd (false≢true led)
led_stores_whole may c st (stat.Target.field (tree.Tree.transfer t a there) start size) right at k led whole = absurd (false≢true led)
led_stores_whole may c st (stat.Target.field (tree.Tree.bytes o a b count there) start size) right at k led whole = absurd (false≢true led)
led_stores_whole may c st (stat.Target.address x there) right at k led whole = fields.pointer_whole c st x there right at k led whole

led_stores : (may : Who → Bool) (c : Context) (results : List ℕ → Option (Kind × Place)) (z : Surroundings) (call : Callee) (d number : ℕ)
    (to : Target) (right : ℕ → Part) (means : ℕ → State → Outcome (List ℕ)) (at : At) (k need more : ℕ) → MayCall may c.scope z d call
    → is_led_target may c.scope z.setting to k ≡ true → target_most c.scope.names to + 8 ≤ need → waiting to k + more ≤ k + need
    → IsWhole (right (waiting to k)) → Simulates z d as_value 1 (waiting to k) more (right (waiting to k)) (λ s. means (waiting to k) s)
    → Performs z d k need (piece (Begin at) ⨟ put.assigned c.scope to right k)
    (λ s. stopping number at s (λ u. assigned (read_with c.scope results z.setting) call to means k u))
led_stores may c results z call d number (stat.Target.plain (tree.Tree.named x tree.Trees.none there)) right means at k need more links led enough fits whole sim =
    led_performs c results z call d number x there right means at k need led (omega (arith, enough)) whole
    (more_room z d 1 k more need (right k) (λ s. means k s) (omega (arith, fits)) sim)
led_stores may c results z call d number (stat.Target.plain (tree.Tree.named x (tree.Trees.and i tree.Trees.none) there)) right means at k need more links led enough fits whole sim =
    let two = both (is_led_element z.setting k (access_of (c.scope.names x)) (c.scope.places x)) (is_covered may c.scope z.setting i k) led in
    element_performs c results z call d number x i there right means at k need more two.0 (omega (arith, enough)) (omega (arith, fits))
    (covered_whole may c.scope z.setting i k two.1) whole (word_given may c.scope results z call d i k need links two.1 (index_room c.scope.names x i there need enough)) sim
led_stores may c results z call d number (stat.Target.plain (tree.Tree.named x (tree.Trees.and i (tree.Trees.and j js)) there)) right means at k need more links led enough fits whole sim = absurd (false≢true led)
led_stores may c results z call d number (stat.Target.plain (tree.Tree.number w)) right means at k need more links led enough fits whole sim = absurd (false≢true led)
led_stores may c results z call d number (stat.Target.plain (tree.Tree.wide w)) right means at k need more links led enough fits whole sim = absurd (false≢true led)
led_stores may c results z call d number (stat.Target.plain (tree.Tree.text bytes)) right means at k need more links led enough fits whole sim = absurd (false≢true led)
led_stores may c results z call d number (stat.Target.plain (tree.Tree.truth b)) right means at k need more links led enough fits whole sim = absurd (false≢true led)
led_stores may c results z call d number (stat.Target.plain (tree.Tree.address x es there)) right means at k need more links led enough fits whole sim = absurd (false≢true led)
led_stores may c results z call d number (stat.Target.plain (tree.Tree.unary o a there)) right means at k need more links led enough fits whole sim = absurd (false≢true led)
led_stores may c results z call d number (stat.Target.plain (tree.Tree.binary o a b there)) right means at k need more links led enough fits whole sim = absurd (false≢true led)
led_stores may c results z call d number (stat.Target.plain (tree.Tree.shift o a by there)) right means at k need more links led enough fits whole sim = absurd (false≢true led)
led_stores may c results z call d number (stat.Target.plain (tree.Tree.field a first long there)) right means at k need more links led enough fits whole sim = absurd (false≢true led)
led_stores may c results z call d number (stat.Target.plain (tree.Tree.transfer t a there)) right means at k need more links led enough fits whole sim = absurd (false≢true led)
led_stores may c results z call d number (stat.Target.plain (tree.Tree.bytes o a b count there)) right means at k need more links led enough fits whole sim = absurd (false≢true led)
led_stores may c results z call d number (stat.Target.field (tree.Tree.named x tree.Trees.none there) start size) right means at k need more links led enough fits whole sim =
    let two = both (is_within (small_constant c.scope.names start) (small_constant c.scope.names size)) (has_fields z.setting k (c.scope.names x) (c.scope.places x)) led in
    fields.field_performs c results z call d number x there start size right means at k need two.0 two.1 (omega (arith, enough)) whole
    (more_room z d 1 k more need (right k) (λ s. means k s) (omega (arith, fits)) sim)
led_stores may c results z call d number (stat.Target.field (tree.Tree.named x (tree.Trees.and i tree.Trees.none) there) start size) right means at k need more links led enough fits whole sim =
    let r = element_parts may c.scope z.setting x i start size k led in
    fields.element_performs c results z call d number x i there start size right means at k need more r.0 r.1 (omega (arith, enough)) (omega (arith, fits))
    (covered_whole may c.scope z.setting i k r.2) whole (word_given may c.scope results z call d i k need links r.2 (index_room c.scope.names x i there need enough)) sim
led_stores may c results z call d number (stat.Target.field (tree.Tree.named x (tree.Trees.and i (tree.Trees.and j js)) there) start size) right means at k need more links led enough fits whole sim = absurd (false≢true led)
led_stores may c results z call d number (stat.Target.field (tree.Tree.number w) start size) right means at k need more links led enough fits whole sim = absurd (false≢true led)
led_stores may c results z call d number (stat.Target.field (tree.Tree.wide w) start size) right means at k need more links led enough fits whole sim = absurd (false≢true led)
led_stores may c results z call d number (stat.Target.field (tree.Tree.text bytes) start size) right means at k need more links led enough fits whole sim = absurd (false≢true led)
led_stores may c results z call d number (stat.Target.field (tree.Tree.truth b) start size) right means at k need more links led enough fits whole sim = absurd (false≢true led)
led_stores may c results z call d number (stat.Target.field (tree.Tree.address x es there) start size) right means at k need more links led enough fits whole sim = absurd (false≢true led)
led_stores may c results z call d number (stat.Target.field (tree.Tree.unary o a there) start size) right means at k need more links led enough fits whole sim = absurd (false≢true led)
led_stores may c results z call d number (stat.Target.field (tree.Tree.binary o a b there) start size) right means at k need more links led enough fits whole sim = absurd (false≢true led)
led_stores may c results z call d number (stat.Target.field (tree.Tree.shift o a by there) start size) right means at k need more links led enough fits whole sim = absurd (false≢true led)
led_stores may c results z call d number (stat.Target.field (tree.Tree.field a first long there) start size) right means at k need more links led enough fits whole sim = absurd (false≢true led)
led_stores may c results z call d number (stat.Target.field (tree.Tree.transfer t a there) start size) right means at k need more links led enough fits whole sim = absurd (false≢true led)
led_stores may c results z call d number (stat.Target.field (tree.Tree.bytes o a b count there) start size) right means at k need more links led enough fits whole sim = absurd (false≢true led)
led_stores may c results z call d number (stat.Target.address x there) right means at k need more links led enough fits whole sim =
    fields.pointer_performs c results z call d number x there right means at k need led (omega (arith, enough)) whole
    (more_room z d 1 k more need (right k) (λ s. means k s) (omega (arith, fits)) sim)

-- a bit field of a result
record IsField (c : Scope) (results : List ℕ → Option (Kind × Place)) (st : Setting) (to : Target) (k : ℕ) : Type 0 where
  name : List ℕ
  there : At
  start : Constant
  size : Constant
  is : to ≡ results_of.result_field name there start size
  within : is_within (small_constant c.names start) (small_constant c.names size) ≡ true
  has : has_result_fields st k (c.names name) (results name) (c.places name) ≡ true

field_case : (c : Scope) (results : List ℕ → Option (Kind × Place)) (st : Setting) (to : Target) (k : ℕ) → is_field_target c results st to k ≡ true
    → IsField c results st to k
field_case c results st (stat.Target.field (tree.Tree.named x tree.Trees.none there) start size) k e =
    let two = both (is_within (small_constant c.names start) (small_constant c.names size)) (has_result_fields st k (c.names x) (results x) (c.places x)) e in
    record { name = x; there = there; start = start; size = size; is = refl; within = two.0; has = two.1 }
field_case c results st to k e = absurd (false≢true e)

field_stores_whole : (c : Context) (results : List ℕ → Option (Kind × Place)) (st : Setting) (to : Target) (right : ℕ → Part) (at : At) (k : ℕ)
    → IsField c.scope results st to k → IsWhole (right (waiting to k)) → IsWhole (piece (Begin at) ⨟ put.assigned c.scope to right k)
field_stores_whole c results st to right at k r whole =
    subst (λ (t : Target). IsWhole (piece (Begin at) ⨟ put.assigned c.scope t right k)) (sym r.is)
    (results_of.field_whole c results st r.name r.there r.start r.size right at k r.within r.has (subst (λ (t : Target). IsWhole (right (waiting t k))) r.is whole))

field_stores : (c : Context) (results : List ℕ → Option (Kind × Place)) (z : Surroundings) (call : Callee) (d number : ℕ) (to : Target)
    (right : ℕ → Part) (means : ℕ → State → Outcome (List ℕ)) (at : At) (k need more : ℕ) → IsField c.scope results z.setting to k
    → ResultsAgree c.scope results → 2 ≤ need → waiting to k + more ≤ k + need → IsWhole (right (waiting to k))
    → Simulates z d as_value 1 (waiting to k) more (right (waiting to k)) (λ s. means (waiting to k) s)
    → Performs z d k need (piece (Begin at) ⨟ put.assigned c.scope to right k)
    (λ s. stopping number at s (λ u. assigned (read_with c.scope results z.setting) call to means k u))
field_stores c results z call d number to right means at k need more r agrees enough fits whole sim =
    let less = subst (λ (t : Target). waiting t k + more ≤ k + need) r.is fits in
    subst (λ (t : Target). Performs z d k need (piece (Begin at) ⨟ put.assigned c.scope t right k)
    (λ s. stopping number at s (λ u. assigned (read_with c.scope results z.setting) call t means k u))) (sym r.is)
    (results_of.field_performs c results z call d number r.name r.there r.start r.size right means at k need agrees r.within r.has enough
    (subst (λ (t : Target). IsWhole (right (waiting t k))) r.is whole)
    (more_room z d 1 k more need (right k) (λ s. means k s) (omega (arith, less))
    (subst (λ (t : Target). Simulates z d as_value 1 (waiting t k) more (right (waiting t k)) (λ s. means (waiting t k) s)) r.is sim)))

-- by its own word, what that leads to, or a bit field of it
pub word_stores_whole : WordStoresAreWhole
word_stores_whole may c results st to right at k is whole =
    ⊎_elim (λ own. own_whole c results st to right at k (own_case c.scope results st to k own) whole)
    (λ others.
    ⊎_elim (λ led. led_stores_whole may c st to right at k led whole)
    (λ field. field_stores_whole c results st to right at k (field_case c.scope results st to k field) whole)
    (either (is_led_target may c.scope st to k) (is_field_target c.scope results st to k) others))
    (either (is_own_target c.scope results st to k) (is_led_target may c.scope st to k || is_field_target c.scope results st to k) is)

pub word_stores : WordStoresPerform
word_stores may c results z call d number to right means at k need more links agrees is enough fits whole sim =
    ⊎_elim
    (λ own. own_performs c results z call d number to right means at k need more (own_case c.scope results z.setting to k own) agrees (omega (arith, enough)) fits whole sim)
    (λ others.
    ⊎_elim (λ led. led_stores may c results z call d number to right means at k need more links led enough fits whole sim)
    (λ field. field_stores c results z call d number to right means at k need more (field_case c.scope results z.setting to k field) agrees (omega (arith, enough)) fits whole sim)
    (either (is_led_target may c.scope z.setting to k) (is_field_target c.scope results z.setting to k) others))
    (either (is_own_target c.scope results z.setting to k) (is_led_target may c.scope z.setting to k || is_field_target c.scope results z.setting to k) is)

-- ---- of what is covered

-- where no condition code is kept, the value is what is assigned
pub value_assigned : (h : Here) (call : Callee) (to : Target) (e : Tree) (k : ℕ) → keeps_answer h.names to e ≡ false → (u : State)
    → assign h call to e k u ≡ assigned h call to (λ j s. value h call e j s) k u
value_assigned h call to e k none u =
    ap (λ (b : Bool). if b then assigned h call to (λ j s. alone_value h call e j s) k u else assigned h call to (λ j s. value h call e j s) k u) none

-- what waits behind an index, where there is one
behind : (r : Tree) (k words need : ℕ) → behind_index r words + 8 ≤ need → behind_index r k + (words + 8) ≤ k + need
behind (tree.Tree.named x tree.Trees.none there) k words need room = omega (arith, room)
behind (tree.Tree.named x (tree.Trees.and i is) there) k words need room = omega (arith, room)
behind (tree.Tree.number w) k words need room = omega (arith, room)
behind (tree.Tree.wide w) k words need room = omega (arith, room)
behind (tree.Tree.text bytes) k words need room = omega (arith, room)
behind (tree.Tree.truth b) k words need room = omega (arith, room)
behind (tree.Tree.address x es there) k words need room = omega (arith, room)
behind (tree.Tree.unary o a there) k words need room = omega (arith, room)
behind (tree.Tree.binary o a b there) k words need room = omega (arith, room)
behind (tree.Tree.shift o a by there) k words need room = omega (arith, room)
behind (tree.Tree.field a start size there) k words need room = omega (arith, room)
behind (tree.Tree.transfer t a there) k words need room = omega (arith, room)
behind (tree.Tree.bytes o a b count there) k words need room = omega (arith, room)

-- the greater of two fits, so both do
most_left : (a b need : ℕ) → max a b + 8 ≤ need → a + 8 ≤ need
most_left a b need room = omega (arith, room)

most_right : (a b need : ℕ) → max a b + 8 ≤ need → b + 8 ≤ need
most_right a b need room = omega (arith, room)

-- The room of an assignment: of the index, and of the right side behind it.
pub assign_room : (names : Names) (to : Target) (words k need : ℕ) → max (target_most names to) (waiting to words) + 8 ≤ need
    → (target_most names to + 8 ≤ need) × (waiting to k + (words + 8) ≤ k + need)
assign_room names (stat.Target.plain r) words k need enough =
    (most_left (index_most names r) (behind_index r words) need enough, behind r k words need (most_right (index_most names r) (behind_index r words) need enough))
assign_room names (stat.Target.field r start size) words k need enough =
    (most_left (index_most names r) (behind_index r words) need enough, behind r k words need (most_right (index_most names r) (behind_index r words) need enough))
assign_room names (stat.Target.address x there) words k need enough = (omega (arith, enough), omega (arith, enough))

pub words_whole : WordsAssignedAreWhole
words_whole may c results st to e at k is covered =
    word_stores_whole may c results st to (λ j. code c.scope e as_value j) at k is (covered_whole may c.scope st e (waiting to k) covered)

pub words_assigned : WordsAssigned
words_assigned may c results z call d number to e at k need links agrees is covered none enough =
    let h = read_with c.scope results z.setting in
    let room = assign_room c.scope.names to (most c.scope.names e) k need enough in
    same_performs z d k need (statement c (stat.Statement.assign to e at) k) (piece (Begin at) ⨟ put.assigned c.scope to (λ j. code c.scope e as_value j) k)
    (λ s. run h call d number (stat.Statement.assign to e at) k s) (λ s. stopping number at s (λ u. assigned h call to (λ j v. value h call e j v) k u)) refl
    (λ s. stopping_same number at s (λ u. assign h call to e k u) (λ u. assigned h call to (λ j v. value h call e j v) k u) (value_assigned h call to e k none))
    (word_stores may c results z call d number to (λ j. code c.scope e as_value j) (λ j s. value h call e j s) at k need (most c.scope.names e + 8) links agrees is
    room.0 room.1 (covered_whole may c.scope z.setting e (waiting to k) covered)
    (word_given may c.scope results z call d e (waiting to k) (most c.scope.names e + 8) links covered (omega arith)))
