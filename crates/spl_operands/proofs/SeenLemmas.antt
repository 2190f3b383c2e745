-- Places that are seen: at their addresses by their modes, and what is found through the words that stand there.
use Rattle.std.proofs.Common.{◌≡◌, ℕ, ◌+◌, ◌-◌, ◌%◌, ◌<◌, ◌≤◌, Bool, true, refl, sym, ap, subst, ◌∙◌, arith}
use Rattle.std.specs.Prelude.{Some}
use Rattle.spl_values.specs.hp_session.State.{Machine}
use Rattle.spl_values.specs.hp_session.Places.{base, index}
use Rattle.spl_values.specs.spl_tree.declared.expressions.Kind.{Kind}
use Rattle.spl_values.specs.spl_meaning.Places.{Place, data_word, above_base, below_base, below_return}
use Rattle.spl_values.specs.spl_meaning.References.{Setting, address_of, element_address, led_located}
use Rattle.spl_values.specs.spl_meaning.States.{Data, State}
use Rattle.spl_values.specs.spl_code.Operands.{mode_of}
use Rattle.spl_values.specs.spl_follow.Matching.{Outer, Matched}
use Rattle.spl_values.specs.Reached.{is_seen}
pub use Rattle.spl_values.proofs.SeenLemmas.{reached_seen, seen_reached, IsBelow, below_is}
use Rattle.spl_operands.specs.Operands.{Based, counted_by, Refers}
use Rattle.spl_operands.proofs.OperandLemmas.{place_based, led_refers}

-- The return word is the last of the frame. So where i words wait above the k of which the mode knows, S and the mode's distance name a word that
-- is so many above the place.
pub below_based : (st : Setting) (d : Data) (k i n : ℕ) (m : Machine) → IsBelow st k n → Matched st d m (k + i) → d.top + (k + i) ≤ d.stack
    → Based (mode_of k (below_return n)) (d.inner - n + i) m
unfolding base
below_based st d k i n m b x room =
    let few = b.few in
    let near = b.near in
    let held = x.lies.held in
    let link = x.lies.link b.inside in
    let words = x.words in
    let least = x.lies.least in
    record { at = omega (arith, few, near, held, link, words, least, room); side = refl }

-- twice its address is a word
pub below_low : (st : Setting) (d : Data) (k j n : ℕ) (m : Machine) → IsBelow st k n → Matched st d m j → d.inner - n < 32000
below_low st d k j n m b x =
    let link = x.lies.link b.inside in
    let within = x.lies.within in
    let least = x.lies.least in
    omega (arith, link, within, least)

-- the mode of a place that is seen names the word at its address
pub seen_based : (st : Setting) (d : Data) (k : ℕ) (place : Place) (m : Machine) → is_seen st k place ≡ true → Matched st d m k → d.top + k ≤ d.stack
    → Based (mode_of k place) (address_of place d) m
seen_based st d k (data_word a) m e x room = place_based st d k k (data_word a) m e x
seen_based st d k (above_base n) m e x room = place_based st d k k (above_base n) m e x
seen_based st d k (below_base n) m e x room = place_based st d k k (below_base n) m e x
seen_based st d k (below_return n) m e x room =
    let none : k ≡ k + 0 = omega arith in
    let same : d.inner - n + 0 ≡ d.inner - n = omega arith in
    subst (λ (a : ℕ). Based (mode_of k (below_return n)) a m) same
    (below_based st d k 0 n m (below_is st k n e) (subst (λ (i : ℕ). Matched st d m i) none x) (omega (arith, room)))

-- a reference through the word at such a place, in the mode of the body
pub seen_refers : (st : Setting) (t : Kind) (far x : Bool) (i k : ℕ) (place : Place) (s : State) (m : Machine) → is_seen st k place ≡ true
    → far ≡ st.split → Matched st s.now m k → s.now.top + k ≤ s.now.stack
    → ((cell : ℕ) → (cell + index (counted_by t) x m) % 65536 ≡ element_address t cell i)
    → Refers t (mode_of k place) true x s m (led_located far t (Some place) i s)
seen_refers st t far x i k place s m seen side matches room same =
    let split : m.split ≡ st.split = ap (λ (u : Outer). u.split) matches.outer in
    subst (λ (b : Bool). Refers t (mode_of k place) true x s m (led_located b t (Some place) i s)) (split ∙ sym side)
    (led_refers st t (mode_of k place) x i k place s m matches room (seen_based st s.now k place m seen matches room) same)
