-- Variables of one word: where their places are among the words of the stack, and what is loaded there.
use Rattle.std.proofs.Common.{◌≡◌, ℕ, ◌+◌, ◌-◌, ◌%◌, ◌<◌, ◌≤◌, Bool, true, false, List, [], ◌∷◌, length, refl, ap, ◌∙◌, arith}
use Rattle.std.specs.Prelude.{Option, Some, None, Ok, not, nat_lt, nat_le, if◌then◌else◌, slice_index}
use Rattle.std.proofs.lemmas.Bool.{ltb-true, ltb-false, leb-true, false≢true, not-true}
use Rattle.hp_yields.specs.hp_word.declared.endings.Trap.TheVariants.{Bounds}
use Rattle.hp_yields.specs.hp_instr.declared.instruction.Instr.TheVariants as i
use Rattle.hp_yields.specs.hp_session.State.{Machine}
use Rattle.hp_yields.specs.hp_session.declared.places.Place.{Place as Operand}
use Rattle.hp_yields.specs.hp_session.declared.places.Place.TheVariants.{Db, Stack}
use Rattle.hp_yields.specs.hp_session.Places.{base, moved, operand, address}
use Rattle.hp_yields.specs.hp_memory_rows.MemoryRows.{memory_row}
use Rattle.hp_yields.specs.hp_flat.Step.{at_left}
use Rattle.hp_yields.specs.Rows.{Sided}
use Rattle.hp_yields.proofs.MemoryYields as rows
use Rattle.hp_yields.specs.spl_tree.declared.expressions.Kind.TheVariants as kind
use Rattle.hp_yields.specs.spl_meaning.Places.{Place, data_word, above_base, below_base, below_return}
use Rattle.hp_yields.specs.spl_meaning.References.{Setting, address_of, data_word_read, word_read}
use Rattle.hp_yields.specs.spl_meaning.States.{Data, State, Begun, done, ends, trapped, then_go}
use Rattle.hp_yields.specs.spl_code.Code.{as_value}
use Rattle.hp_yields.specs.spl_code.Instructions.{LOAD}
use Rattle.hp_yields.specs.spl_code.Operands.{mode_of}
use Rattle.hp_yields.specs.spl_code.Parts.{pieces}
use Rattle.hp_yields.specs.spl_follow.Spots.{Spot, pos, Point, Ground}
use Rattle.hp_yields.specs.spl_follow.Leading.{Leads}
use Rattle.hp_yields.specs.spl_follow.Matching.{Outer, Matched, IsValue}
use Rattle.hp_yields.specs.spl_follow.Following.{Rate, tally_with, NoExit}
use Rattle.hp_yields.specs.spl_follow.Doing.{doing}
use Rattle.hp_yields.specs.spl_follow.Parts.{Ready, Gives}
use Rattle.hp_yields.specs.spl_follow.Simulating.{Surroundings, Simulates}
use Rattle.hp_yields.proofs.spl_follow_proofs.FollowLemmas.{widen}
use Rattle.hp_yields.proofs.spl_follow_proofs.RowLemmas.{stray_here}
use Rattle.hp_yields.proofs.spl_follow_proofs.PartLemmas.{rows_trap}
use Rattle.spl_values.specs.Reached.{is_reached, is_seen}
use Rattle.spl_values.specs.Laws.{VariablesSimulate}
use Rattle.spl_values.proofs.GiveLemmas.{last_leads, ready_room, row_gives}
use Rattle.spl_values.proofs.SeenLemmas.{below_is}
pub use Rattle.spl_values.proofs.SeenLemmas.{both}

-- ---- places

-- a place that is reached is one among the words of the stack, at its address
pub place_found : (st : Setting) (d : Data) (k j : ℕ) (place : Place) (m : Machine) → is_reached st k place ≡ true → Matched st d m j
    → (x : Operand) × (operand 1 (mode_of k place) false false m ≡ Ok x) × Sided x false m × (address x ≡ address_of place d)
unfolding operand base moved
place_found st d k j (data_word a) m e x =
    let two = both (not st.split) (nat_lt a 256) e in
    let low = ltb-true a 256 two.1 in
    let split : m.split ≡ st.split = ap (λ (u : Outer). u.split) x.outer in
    let same : (a % 256 + 0) % 65536 ≡ a = omega (arith, low) in
    (Db ((a % 256 + 0) % 65536), refl, split ∙ not-true st.split two.0, same)
place_found st d k j (above_base n) m e x =
    let low = ltb-true n 128 e in
    let q : m.regs.q ≡ d.base = ap (λ (u : Outer). u.q) x.outer in
    let live = x.lies.live in
    let within = x.lies.within in
    let least = x.lies.least in
    let same : ((m.regs.q + n % 128) % 65536 + 0) % 65536 ≡ d.base + n = omega (arith, low, q, live, within, least) in
    (Stack (((m.regs.q + n % 128) % 65536 + 0) % 65536), refl, refl, same)
place_found st d k j (below_base n) m e x =
    let two = both (nat_lt n 64) (nat_le n st.below) e in
    let low = ltb-true n 64 two.0 in
    let few = leb-true n st.below two.1 in
    let deep = x.lies.deep in
    let q : m.regs.q ≡ d.base = ap (λ (u : Outer). u.q) x.outer in
    let live = x.lies.live in
    let within = x.lies.within in
    let least = x.lies.least in
    let same : ((m.regs.q + 65536 - n % 64) % 65536 + 0) % 65536 ≡ d.base - n = omega (arith, low, few, deep, q, live, within, least) in
    (Stack (((m.regs.q + 65536 - n % 64) % 65536 + 0) % 65536), refl, refl, same)
place_found st d k j (below_return n) m e x = absurd (false≢true e)

-- So is one that is seen, while exactly those words wait: the return word is the last of the frame, and S names what is so many below it.
pub seen_found : (st : Setting) (d : Data) (k : ℕ) (place : Place) (m : Machine) → is_seen st k place ≡ true → Matched st d m k → d.top + k ≤ d.stack
    → (x : Operand) × (operand 1 (mode_of k place) false false m ≡ Ok x) × Sided x false m × (address x ≡ address_of place d)
unfolding operand base moved
seen_found st d k (data_word a) m e x room = place_found st d k k (data_word a) m e x
seen_found st d k (above_base n) m e x room = place_found st d k k (above_base n) m e x
seen_found st d k (below_base n) m e x room = place_found st d k k (below_base n) m e x
seen_found st d k (below_return n) m e x room =
    let b = below_is st k n e in
    let few = b.few in
    let near = b.near in
    let held = x.lies.held in
    let link = x.lies.link b.inside in
    let words = x.words in
    let least = x.lies.least in
    let same : ((length m.stack + 65535 - (k + n) % 64) % 65536 + 0) % 65536 ≡ d.inner - n = omega (arith, few, near, held, link, words, least, room) in
    (Stack (((length m.stack + 65535 - (k + n) % 64) % 65536 + 0) % 65536), refl, refl, same)

-- ---- loads

-- The word at a variable's address: a data word is loaded; past STACK the load traps; and with what is no data word the run goes no further.
word_gives : (g : Ground) (w : Rate) (st : Setting) (marks : ℕ → Spot) (d : ℕ) (p : Point) (q : Spot) (k need : ℕ) (place : Place) (s : State)
    (l : List Begun) (m : Machine) → is_seen st k place ≡ true → 1 ≤ need
    → Leads g p q (doing g.segments (i.Memory 4 true false false (mode_of k place)) q) → Ready st d p k need s l m
    → Gives g w st marks as_value 1 p q k s l m (word_read false (address_of place s.now) s)
word_gives g w st marks d p q k need place s l m seen enough leads ready =
    by (nat_lt (address_of place s.now) s.now.stack) refl (s.now.mem (address_of place s.now)) refl where
      by : (b : Bool) → nat_lt (address_of place s.now) s.now.stack ≡ b → (o : Option ℕ) → s.now.mem (address_of place s.now) ≡ o
          → Gives g w st marks as_value 1 p q k s l m (then_go (if b then data_word_read o s else ends (trapped Bounds) s) (λ v t. done (v ∷ []) t))
      by true e (Some v) f =
          let room = ready.room in
          let found = seen_found st s.now k place (at_left m) seen ready.matches (omega (arith, room)) in
          let words = ready.matches.words in
          let below = ready.matches.low (address_of place s.now) v f in
          let same = found.3 in
          let there : address found.0 < length m.stack = omega (arith, words, below, same) in
          row_gives g w st marks d p q (doing g.segments (i.Memory 4 true false false (mode_of k place)) q) k need s l m v
          (memory_row 4 true (mode_of k place) false false (at_left m)) leads refl ready
          (rows.word_loaded (mode_of k place) false false found.0 v (at_left m) found.1
          (rows.read_there found.0 false (at_left m) found.2 there ∙ ap (λ (x : ℕ). Ok x) (ap (λ (a : ℕ). slice_index m.stack a) same ∙ ready.matches.holds (address_of place s.now) v f))
          (ready_room st d p k need s l m ready enough)).words
          (ready.matches.of_words.stack (address_of place s.now) v f)
      by true e None f =
          stray_here g w (pos q - pos p.at) 1 w.reach st p k s l m (IsValue st q 1 k s.now m) NoExit leads.start ready.at ready.owes ready.matches
      by false e o f =
          let room = ready.room in
          let found = seen_found st s.now k place (at_left m) seen ready.matches (omega (arith, room)) in
          let words = ready.matches.words in
          let high = ltb-false (address_of place s.now) s.now.stack e in
          let same = found.3 in
          let past : length m.stack ≤ address found.0 = omega (arith, words, room, high, same) in
          widen g w (pos q - pos p.at) 0 w.reach (pos q - pos p.at) 1 w.reach (tally_with l s) m (IsValue st q 1 k s.now m) NoExit
          (ends (trapped Bounds) s)
          (rows_trap g w p q q (doing g.segments (i.Memory 4 true false false (mode_of k place)) q) st l s m s.now m k k 1
          (memory_row 4 true (mode_of k place) false false (at_left m)) Bounds leads refl ready.at ready.owes ready.matches
          (rows.word_not_there (mode_of k place) false false found.0 Bounds (at_left m) found.1 (rows.read_past found.0 false (at_left m) found.2 past)))
          (omega arith) (omega arith) (omega arith)

-- a word by LOAD
words_give : (z : Surroundings) (d k need : ℕ) (place : Place) → is_seen z.setting k place ≡ true → 1 ≤ need
    → Simulates z d as_value 1 k need (pieces (LOAD false false (mode_of k place) ∷ [])) (λ s. word_read false (address_of place s.now) s)
words_give z d k need place seen enough = record {
  does = λ h ws p q s l m stands front ready.
      word_gives z.ground z.rate z.setting z.sites.marks d p q k need place s l m seen enough
      (last_leads z.ground z.sites p (i.Memory 4 true false false (mode_of k place)) q stands) ready;
}

-- both kinds are loaded so
pub variables_give : VariablesSimulate
variables_give z d k need kind.Integer place one seen enough = words_give z d k need place seen enough
variables_give z d k need kind.Logical place one seen enough = words_give z d k need place seen enough
variables_give z d k need kind.Byte place one seen enough = absurd (false≢true one)
variables_give z d k need kind.Double place one seen enough = absurd (false≢true one)
