-- A value that waits on top, and STOR, with X or without, which puts it at a variable's address.
use Rattle.std.proofs.Common.{◌≡◌, ℕ, ◌+◌, ◌-◌, ◌<◌, ◌≤◌, Bool, true, false, List, [], ◌∷◌, length, refl, sym, subst, arith}
use Rattle.std.specs.Prelude.{Option, Some, None, nat_lt, if◌then◌else◌}
use Rattle.std.proofs.lemmas.Bool.{ltb-false}
use Rattle.spl_choices.specs.hp_word.declared.arithmetic.Code.{Code}
use Rattle.spl_choices.specs.hp_word.declared.endings.Trap.TheVariants.{Bounds}
use Rattle.spl_choices.specs.hp_instr.declared.instruction.Instr.TheVariants as i
use Rattle.spl_choices.specs.hp_instr.declared.instruction.Mode.{Mode}
use Rattle.spl_choices.specs.hp_session.State.{Machine, Outcome as Row, word}
use Rattle.spl_choices.specs.hp_session.Places.{address}
use Rattle.spl_choices.specs.hp_memory_rows.MemoryRows.{memory_row}
use Rattle.spl_choices.specs.hp_flat.Step.{at_left}
use Rattle.hp_call_yields.proofs.hp_yields_proofs.MemoryYields as rows
use Rattle.spl_choices.specs.spl_tree.declared.expressions.Kind.TheVariants as kind
use Rattle.spl_choices.specs.spl_meaning.Places.{Place}
use Rattle.spl_choices.specs.spl_meaning.References.{Setting, address_of, data_word_read, placed_word, word_stored}
use Rattle.spl_choices.specs.spl_meaning.States.{Data, State, done, ends, trapped, then_go}
use Rattle.spl_choices.specs.spl_code.Operands.{mode_of}
use Rattle.spl_choices.specs.spl_follow.Spots.{Spot, pos, on, Ground}
use Rattle.spl_choices.specs.spl_follow.Leading.{Leads}
use Rattle.spl_choices.specs.spl_follow.Matching.{Matched, IsValue, Coded}
use Rattle.spl_choices.specs.spl_follow.Following.{Rate, tally, Follows, NoExit}
use Rattle.spl_choices.specs.spl_follow.Doing.{doing}
use Rattle.spl_choices.specs.spl_follow.Yielding.{Puts}
use Rattle.spl_choices.proofs.spl_follow_proofs.KeepLemmas.{value_word}
use Rattle.spl_choices.proofs.spl_follow_proofs.RowLemmas.{stray_here, row_trap, row_stores}
use Rattle.spl_choices.specs.spl_control.Laws.{Settles}
use Rattle.spl_tops.specs.spl_values.Reached.{is_reached}
use Rattle.spl_tops.proofs.spl_values_proofs.VariableLemmas.{place_found}
use Rattle.spl_tops.specs.spl_operands.Operands.{Finds}

-- ---- the store

-- what is put does not tell in which half of its word the machine was
pub from_left : (n a v : ℕ) (m : Machine) (o : Row) → Puts n a v (at_left m) o → Puts n a v m o
from_left n a v m o y = record { stores = y.stores; same_code = y.same_code }

-- where the operand of a place that is reached is
pub reached_finds : (st : Setting) (k j : ℕ) (place : Place) (d : Data) (m : Machine) → is_reached st k place ≡ true → Matched st d m j
    → Finds kind.Integer (mode_of k place) false false false (address_of place d) m
reached_finds st k j place d m reached x =
    let found = place_found st d k j place m reached x in
    record { place = found.0; is = found.1; at = found.3; side = found.2 }

-- A word on top is stored where its operand is, at an address: where that is a data word; past STACK the store traps; and with what is no data word
-- the run goes no further.
pub word_put : (g : Ground) (w : Rate) (st : Setting) (r q : Spot) (k : ℕ) (mode : Mode) (by_x : Bool) (a v : ℕ) (s : State) (m : Machine) (d0 : Data) (m0 : Machine)
    → Finds kind.Integer mode false by_x false a (at_left m) → s.now.top + (k + 1) ≤ s.now.stack
    → Leads g (on r) q (doing g.segments (i.Memory 5 true by_x false mode) q) → IsValue st r 1 k d0 m0 (v ∷ []) s m
    → Follows g w (pos q - pos r) 0 w.reach (tally s) m (Settles st q k d0 m0) NoExit (word_stored false a (v ∷ []) s)
word_put g w st r q k mode by_x a v s m d0 m0 f room leads x = by (nat_lt a s.now.stack) refl (s.now.mem a) refl where
  row : Row
  row = memory_row 5 true mode false by_x (at_left m)

  by : (b : Bool) → nat_lt a s.now.stack ≡ b → (o : Option ℕ) → s.now.mem a ≡ o
      → Follows g w (pos q - pos r) 0 w.reach (tally s) m (Settles st q k d0 m0) NoExit
      (then_go (if b then data_word_read o s else ends (trapped Bounds) s) (λ old t. done tt (placed_word false a v t)))
  by true e (Some old) known =
      let words = x.matches.words in
      let below = x.matches.low a old known in
      let same = f.at in
      let one : 1 ≤ length m.stack = omega (arith, words) in
      let there : address f.place < length m.stack = omega (arith, words, below, same) in
      let puts : Puts 1 a v m row =
      subst (λ (u : ℕ). Puts 1 a u m row) (value_word st r 1 k 0 0 d0 m0 (v ∷ []) s m x refl)
      (subst (λ (b : ℕ). Puts 1 b (word 0 m) m row) same
      (from_left 1 (address f.place) (word 0 m) m row (rows.word_puts mode false by_x f.place (at_left m) one f.is f.side there))) in
      let y = row_stores g w (on r) q (doing g.segments (i.Memory 5 true by_x false mode) q) st s.begun s m d0 m0 k 1 a v old row leads refl x.at refl puts known
      x.small.0 x.matches x.kept (subst (λ (c : Option Code). Coded c m.regs.code) (sym x.silent) tt) in (y.0, y.1, (y.2, x.silent))
  by true e None known =
      stray_here g w (pos q - pos r) 0 w.reach st (on r) (k + 1) s s.begun m (Settles st q k d0 m0) NoExit leads.start x.at refl x.matches
  by false e o known =
      let words = x.matches.words in
      let one : 1 ≤ length m.stack = omega (arith, words) in
      let high = ltb-false a s.now.stack e in
      let same = f.at in
      let past : length m.stack ≤ address f.place = omega (arith, words, room, high, same) in
      row_trap g w w.reach (on r) q (doing g.segments (i.Memory 5 true by_x false mode) q) st s.begun s m (k + 1) row Bounds (Settles st q k d0 m0) NoExit leads refl
      x.at refl x.matches
      (rows.word_not_stored mode false by_x f.place Bounds (at_left m) one f.is (rows.written_past f.place false (word 0 (at_left m)) (at_left m) f.side past))

-- the same of a value by its words, of which there is one
pub value_put : (g : Ground) (w : Rate) (st : Setting) (r q : Spot) (k : ℕ) (mode : Mode) (by_x : Bool) (a : ℕ) (vs : List ℕ) (s : State) (m : Machine) (d0 : Data)
    (m0 : Machine) → Finds kind.Integer mode false by_x false a (at_left m) → s.now.top + (k + 1) ≤ s.now.stack
    → Leads g (on r) q (doing g.segments (i.Memory 5 true by_x false mode) q) → IsValue st r 1 k d0 m0 vs s m
    → Follows g w (pos q - pos r) 0 w.reach (tally s) m (Settles st q k d0 m0) NoExit (word_stored false a vs s)
value_put g w st r q k mode by_x a (v ∷ []) s m d0 m0 f room leads x = word_put g w st r q k mode by_x a v s m d0 m0 f room leads x
value_put g w st r q k mode by_x a [] s m d0 m0 f room leads x = let wide = x.wide in absurd (omega (arith, wide))
value_put g w st r q k mode by_x a (v ∷ u ∷ vs) s m d0 m0 f room leads x = let wide = x.wide in absurd (omega (arith, wide))
