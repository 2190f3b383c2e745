-- Where references to elements lead that are moved or compared: in split mode to the extra segment, and else to the stack.
use Rattle.std.proofs.Common.{◌≡◌, ℕ, ◌*◌, ◌<◌, Bool, true, false, List, Option, Some, None, [], ◌∷◌, refl, sym, ap, subst, ◌∙◌, arith}
use Rattle.std.specs.Prelude.{◌&&◌, ◌||◌, not, nat_lt}
use Rattle.std.specs.List.{list_all}
use Rattle.std.proofs.lemmas.Bool.{false≢true, ltb-true, not-true, and_parts}
use Rattle.spl_names.specs.spl_tree.declared.expressions.Kind.{Kind}
use Rattle.spl_names.specs.spl_tree.declared.expressions.Kind.TheVariants as kind
use Rattle.spl_names.specs.spl_tree.declared.names_and_places.At.{At}
use Rattle.spl_names.specs.spl_tree.Trees as tree
use Rattle.spl_names.specs.spl_tree.Trees.{Trees}
use Rattle.spl_names.specs.spl_meaning.Kinds.{variable_kind, is_byte}
use Rattle.spl_names.specs.spl_meaning.Names as n
use Rattle.spl_names.specs.spl_meaning.Names.{Sort}
use Rattle.spl_names.specs.spl_meaning.Places.{Place, data_word, above_base, below_base, below_return}
use Rattle.spl_names.specs.spl_meaning.References.{Here, Setting, Access, its_own, by_address, by_cell, its_result, nowhere, access_of, address_of, Located, variable_address, own_located, led_located, element_address, element_located, locate_by, word_at, index_or_zero}
use Rattle.spl_names.specs.spl_meaning.States.{Data, State, Outcome, done, leaves, spent, ends, strays, then_go}
use Rattle.spl_scans.specs.spl_follow.Matching.{footing, Lies}
use Rattle.spl_scans.specs.spl_values.Reached.{is_seen}
use Rattle.spl_scans.proofs.spl_values_proofs.VariableLemmas.{both}
use Rattle.spl_scans.proofs.spl_values_proofs.SeenLemmas.{below_is}
use Rattle.spl_names.specs.Names.{has_seen, is_addressed, is_addressed_element}
use Rattle.spl_scans.specs.spl_moves.Moving.{LeadsTo}
use Rattle.spl_names.specs.spl_code.Calls.{Scope}
use Rattle.spl_scans.specs.Laws.{AreBytes}
use Rattle.spl_byte_tests.specs.Elements.{is_moved_place, is_byte_element}

-- the kind that a way to a word has
abbrev pub moved_kind : Access → Option Kind
moved_kind (its_own t) = Some t
moved_kind (by_address t) = Some t
moved_kind (by_cell is_pointer t) = Some t
moved_kind a = None

-- ---- where a reference leads

-- the cell at a place that is seen is a word's
place_low : (st : Setting) (d : Data) (k : ℕ) (place : Place) → Lies st (footing d) → is_seen st k place ≡ true → 2 * address_of place d < 65536
place_low st d k (data_word a) lies e = let low = ltb-true a 256 (both (not st.split) (nat_lt a 256) e).1 in omega (arith, low)
place_low st d k (above_base j) lies e =
    let low = ltb-true j 128 e in
    let live = lies.live in
    let within = lies.within in
    let least = lies.least in
    omega (arith, low, live, within, least)
place_low st d k (below_base j) lies e =
    let live = lies.live in
    let within = lies.within in
    let least = lies.least in
    omega (arith, live, within, least)
place_low st d k (below_return j) lies e =
    let link = lies.link (below_is st k j e).inside in
    let within = lies.within in
    let least = lies.least in
    omega (arith, link, within, least)

-- a variable's own address is a word
own_low : (t : Kind) (a : ℕ) → 2 * a < 65536 → variable_address t a < 65536
own_low kind.Byte a low = low
own_low kind.Integer a low = omega (arith, low)
own_low kind.Logical a low = omega (arith, low)
own_low kind.Double a low = omega (arith, low)

own_leads : (st : Setting) (t : Kind) (k : ℕ) (s : State) (o : Option Place) → has_seen st k o ≡ true → st.split ≡ false → Lies st (footing s.now)
    → LeadsTo t st.split (own_located t o None s)
own_leads st t k s None e whole lies = absurd (false≢true e)
own_leads st t k s (Some place) e whole lies = (refl, sym whole, own_low t (address_of place s.now) (place_low st s.now k place lies e))

-- an element's address is one too
element_low : (t : Kind) (cell i : ℕ) → element_address t cell i < 65536
element_low kind.Byte cell i = omega arith
element_low kind.Integer cell i = omega arith
element_low kind.Logical cell i = omega arith
element_low kind.Double cell i = omega arith

cell_leads : (t : Kind) (far split : Bool) (i : ℕ) (o : Outcome ℕ) → far ≡ split → LeadsTo t split (then_go o (λ cell u. done (element_located far t cell i) u))
cell_leads t far split i (done cell s) same = (refl, same, element_low t cell i)
cell_leads t far split i (leaves x s) same = tt
cell_leads t far split i (spent s) same = tt
cell_leads t far split i (ends x s) same = tt
cell_leads t far split i (strays s) same = tt

led_leads : (t : Kind) (far split : Bool) (o : Option Place) (i : ℕ) (s : State) → far ≡ split → LeadsTo t split (led_located far t o i s)
led_leads t far split None i s same = tt
led_leads t far split (Some place) i s same = cell_leads t far split i (word_at false (address_of place s.now) s) same

-- in split mode a pointer alone leads to the extra segment
far_same : (is_pointer split : Bool) → (is_pointer || not split) ≡ true → (is_pointer && split) ≡ split
far_same true split e = refl
far_same false true e = absurd (false≢true e)
far_same false false e = refl

-- by how a name leads to a word, without an index
pub access_leads : (st : Setting) (a : Access) (t : Kind) (k : ℕ) (h : Here) (x : List ℕ) (s : State) → h.setting ≡ st → is_moved_place st a ≡ true
    → is_addressed st k a (h.places x) ≡ true → moved_kind a ≡ Some t → Lies st (footing s.now) → LeadsTo t st.split (locate_by h x a None s)
access_leads st (its_own u) t k h x s same place e is lies =
    let kinds : u ≡ t = cc in
    subst (λ (v : Kind). LeadsTo v st.split (own_located u (h.places x) None s)) kinds (own_leads st u k s (h.places x) e (not-true st.split place) lies)
access_leads st (by_address u) t k h x s same place e is lies =
    let kinds : u ≡ t = cc in
    subst (λ (v : Kind). LeadsTo v st.split (led_located false u (h.places x) 0 s)) kinds (led_leads u false st.split (h.places x) 0 s (sym (not-true st.split place)))
access_leads st (by_cell is_pointer u) t k h x s same place e is lies =
    let kinds : u ≡ t = cc in
    subst (λ (v : Kind). LeadsTo v st.split (led_located (is_pointer && h.setting.split) u (h.places x) 0 s)) kinds
    (led_leads u (is_pointer && h.setting.split) st.split (h.places x) 0 s
    (ap (λ (z : Setting). is_pointer && z.split) same ∙ far_same is_pointer st.split place))
access_leads st its_result t k h x s same place e is lies = absurd (false≢true e)
access_leads st nowhere t k h x s same place e is lies = absurd (false≢true e)

-- with one, of an array or a pointer
pub element_leads : (st : Setting) (a : Access) (t : Kind) (k : ℕ) (h : Here) (x : List ℕ) (i : Option ℕ) (s : State) → h.setting ≡ st → is_moved_place st a ≡ true
    → is_addressed_element st k a (h.places x) ≡ true → moved_kind a ≡ Some t → LeadsTo t st.split (locate_by h x a i s)
element_leads st (by_cell is_pointer u) t k h x i s same place e is =
    let kinds : u ≡ t = cc in
    subst (λ (v : Kind). LeadsTo v st.split (led_located (is_pointer && h.setting.split) u (h.places x) (index_or_zero i) s)) kinds
    (led_leads u (is_pointer && h.setting.split) st.split (h.places x) (index_or_zero i) s
    (ap (λ (z : Setting). is_pointer && z.split) same ∙ far_same is_pointer st.split place))
element_leads st (its_own u) t k h x i s same place e is = absurd (false≢true e)
element_leads st (by_address u) t k h x i s same place e is = absurd (false≢true e)
element_leads st its_result t k h x i s same place e is = absurd (false≢true e)
element_leads st nowhere t k h x i s same place e is = absurd (false≢true e)

-- behind an index
pub index_leads : (t : Kind) (split : Bool) (o : Outcome (Option ℕ)) (f : Option ℕ → State → Outcome Located)
    → ((i : Option ℕ) (s : State) → LeadsTo t split (f i s)) → LeadsTo t split (then_go o f)
index_leads t split (done i s) f leads = leads i s
index_leads t split (leaves x s) f leads = tt
index_leads t split (spent s) f leads = tt
index_leads t split (ends x s) f leads = tt
index_leads t split (strays s) f leads = tt

-- ---- the kind by the access

-- how a name leads to a word tells its kind
pub sort_kind : (o : Option Sort) (t : Kind) → variable_kind o ≡ Some t → moved_kind (access_of o) ≡ Some t
sort_kind (Some (n.simple u own)) t e = e
sort_kind (Some (n.array u own low high)) t e = e
sort_kind (Some (n.view u own base)) t e = e
sort_kind (Some (n.pointer u own)) t e = e
sort_kind (Some (n.value u)) t e = e
sort_kind (Some (n.by_reference u)) t e = e
sort_kind (Some (n.array_parameter u)) t e = e
sort_kind None t e = cc
sort_kind (Some (n.equate v)) t e = cc
sort_kind (Some n.label) t e = cc
sort_kind (Some (n.intrinsic j)) t e = cc
sort_kind (Some (n.procedure p)) t e = cc
sort_kind (Some (n.subroutine p)) t e = cc
sort_kind (Some n.unknown) t e = cc

byte_kind : (o : Option Kind) → is_byte o ≡ true → o ≡ Some kind.Byte
byte_kind (Some kind.Byte) e = refl
byte_kind (Some kind.Integer) e = absurd (false≢true e)
byte_kind (Some kind.Logical) e = absurd (false≢true e)
byte_kind (Some kind.Double) e = absurd (false≢true e)
byte_kind None e = absurd (false≢true e)

-- what is asked of the name of bytes
pub byte_case : (c : Scope) (st : Setting) (x : List ℕ) (es : Trees) (at : At) → is_byte_element c st (tree.Tree.named x es at) ≡ true
    → (variable_kind (c.names x) ≡ Some kind.Byte) × (is_moved_place st (access_of (c.names x)) ≡ true)
byte_case c st x es at e =
    let two = both (is_byte (variable_kind (c.names x))) (is_moved_place st (access_of (c.names x))) e in (byte_kind (variable_kind (c.names x)) two.0, two.1)

-- ---- strings

pub bytes_are : (text : List ℕ) → list_all (λ b. nat_lt b 256) text ≡ true → AreBytes text
bytes_are [] e = tt
bytes_are (b ∷ bs) e =
    let two = and_parts (nat_lt b 256) (list_all (λ x. nat_lt x 256) bs) e in (ltb-true b 256 two.0, bytes_are bs two.1)
