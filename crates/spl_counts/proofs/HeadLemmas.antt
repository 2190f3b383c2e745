-- Heads of FORs: the first value is stored, and the variable's address stays.
use Rattle.std.proofs.Common.{◌≡◌, ℕ, ◌+◌, ◌-◌, ◌%◌, ◌<◌, ◌≤◌, Bool, true, false, List, [], ◌∷◌, length, refl, sym, ap, subst, ◌∙◌, arith}
use Rattle.std.specs.Prelude.{Option, slice_index}
use Rattle.spl_choices.specs.hp_word.declared.arithmetic.Code.{Code}
use Rattle.spl_choices.specs.hp_word.declared.endings.Trap.TheVariants.{Bounds}
use Rattle.spl_choices.specs.hp_instr.declared.instruction.Instr.TheVariants as i
use Rattle.spl_choices.specs.hp_instr.declared.instruction.Mode.{Mode}
use Rattle.spl_choices.specs.hp_instr.declared.instruction.Mode.TheVariants.{SMinus}
use Rattle.spl_choices.specs.hp_instr.Instructions.{op}
use Rattle.spl_choices.specs.hp_session.State.{Machine, word}
use Rattle.spl_choices.specs.hp_session.Places.{address}
use Rattle.spl_choices.specs.hp_memory_rows.MemoryRows.{memory_row}
use Rattle.spl_choices.specs.hp_word_rows.WordRows.{minus}
use Rattle.spl_choices.specs.hp_flat.Step.{at_left}
use Rattle.hp_call_yields.proofs.hp_yields_proofs.MemoryYields as rows
use Rattle.spl_choices.specs.spl_tree.declared.expressions.Kind.TheVariants as kind
use Rattle.spl_choices.specs.spl_meaning.Places.{Place, data_word, above_base, below_base, below_return}
use Rattle.spl_choices.specs.spl_meaning.References.{Setting, its_own, by_address, address_of, element_address, element_located, word_at, placed_word, store}
use Rattle.spl_choices.specs.spl_meaning.States.{Data, State, Outcome, done, leaves, spent, ends, strays, trapped, then_go}
use Rattle.spl_choices.specs.spl_code.Operands.{mode_of}
use Rattle.spl_choices.specs.spl_follow.Spots.{Spot, pos, on, Ground}
use Rattle.spl_choices.specs.spl_follow.Leading.{Leads}
use Rattle.spl_choices.specs.spl_follow.Matching.{Footing, footing, Outer, Matched, Coded, IsValue}
use Rattle.spl_choices.specs.spl_follow.Following.{Rate, tally, Follows, NoExit}
use Rattle.spl_choices.specs.spl_follow.Doing.{doing}
use Rattle.spl_choices.specs.spl_follow.Yielding.{Yields, Puts}
use Rattle.spl_choices.proofs.spl_follow_proofs.FollowLemmas.{then_follows, bind_follows, widen}
use Rattle.spl_choices.proofs.spl_follow_proofs.KeepLemmas.{kept_same, kept_lower, kept_on, kept_top, kept_stack, above_none, values_join, value_word}
use Rattle.spl_choices.proofs.spl_follow_proofs.RowLemmas.{stray_here, row_trap, row_value, row_stores}
use Rattle.spl_choices.proofs.spl_follow_proofs.StackLemmas.{stand_at}
use Rattle.spl_choices.specs.spl_follow.Simulating.{Surroundings}
use Rattle.spl_choices.specs.spl_statement_code.Statements.{counter_at}
use Rattle.spl_choices.specs.spl_control.Laws.{Settles}
use Rattle.spl_tops.specs.spl_values.Reached.{is_reached, is_seen}
use Rattle.spl_tops.proofs.spl_values_proofs.GiveLemmas.{last_leads}
use Rattle.spl_tops.proofs.spl_values_proofs.VariableLemmas.{seen_found}
use Rattle.spl_tops.specs.spl_operands.Operands.{Finds, Seen}
use Rattle.spl_tops.proofs.spl_operands_proofs.OperandLemmas.{top_based, through}
use Rattle.spl_tops.proofs.spl_operands_proofs.LoadLemmas.{seen_read, past_read}
use Rattle.spl_tops.proofs.spl_operands_proofs.SeeLemmas.{see}
use Rattle.spl_tops.proofs.spl_operators_proofs.RowLemmas.{exchanged}
use Rattle.spl_tops.proofs.SeenLemmas.{reached_seen, IsBelow, below_is, below_based, below_low, seen_low}
use Rattle.spl_tops.proofs.StoreLemmas.{x_down, down_finds}
use Rattle.spl_choices.proofs.spl_conditions_proofs.BranchLemmas.{arrived_room, word_behind}
use Rattle.spl_counts.specs.Laws.{Addressed, Heads, own_head, passed_head, OwnCounters, PassedCounters}
use Rattle.spl_counts.proofs.StoreLemmas.{value_put, reached_finds, from_left}
use Rattle.spl_counts.proofs.TestLemmas.{counter}

-- ---- the address

-- a place is at one address in one frame
address_same : (place : Place) (d e : Data) → footing e ≡ footing d → address_of place e ≡ address_of place d
address_same (data_word a) d e same = refl
address_same (above_base n) d e same = ap (λ (f : Footing). f.base + n) same
address_same (below_base n) d e same = ap (λ (f : Footing). f.base - n) same
address_same (below_return n) d e same = ap (λ (f : Footing). f.inner - n) same

-- LRA behind the store pushes it
address_follows : (g : Ground) (w : Rate) (st : Setting) (p q : Spot) (k need a : ℕ) (place : Place) (s : State) (m : Machine) (d0 : Data) (m0 : Machine)
    → is_seen st k place ≡ true → 1 ≤ need → d0.top + k + need ≤ d0.stack → address_of place s.now ≡ a
    → Leads g (on p) q (doing g.segments (i.Memory 15 true false false (mode_of k place)) q) → Settles st p k d0 m0 tt s m
    → Follows g w (pos q - pos p) 0 w.reach (tally s) m (IsValue st q 1 k d0 m0) NoExit (done (a ∷ []) s)
address_follows g w st p q k need a place s m d0 m0 seen enough room is leads x =
    let top = kept_top (d0.top + k) d0 m0.stack s.now m.stack x.0.kept in
    let deep = kept_stack (d0.top + k) d0 m0.stack s.now m.stack x.0.kept in
    let found = seen_found st s.now k place (at_left m) seen x.0.matches (omega (arith, room, top, deep)) in
    let same = found.3 ∙ is in
    let low = seen_low st s.now k place m seen x.0.matches in
    word_behind g w st p q (doing g.segments (i.Memory 15 true false false (mode_of k place)) q) k a s m d0 m0
    (memory_row 15 true (mode_of k place) false false (at_left m)) leads refl x.0 x.1
    (subst (λ (b : ℕ). Yields 0 (b ∷ []) m (memory_row 15 true (mode_of k place) false false (at_left m))) same
    (rows.address_pushed (mode_of k place) false false found.0 (at_left m) found.1 (arrived_room st p k need d0 m0 s m room enough x.0)).words)
    (subst (λ (b : ℕ). b < 65536) is (omega (arith, low)))

-- ---- a variable of its own words

-- STOR, and LRA of the place
own_follows : (g : Ground) (w : Rate) (st : Setting) (p r q : Spot) (k : ℕ) (place : Place) (by_x : Bool) (vs : List ℕ) (s : State) (m : Machine) (d0 : Data) (m0 : Machine)
    → is_seen st k place ≡ true → d0.top + k + 3 ≤ d0.stack → Finds kind.Integer (mode_of k place) false by_x false (address_of place s.now) (at_left m)
    → Leads g (on p) r (doing g.segments (i.Memory 5 true by_x false (mode_of k place)) r)
    → Leads g (on r) q (doing g.segments (i.Memory 15 true false false (mode_of k place)) q) → IsValue st p 1 k d0 m0 vs s m
    → Follows g w (pos q - pos p) 0 w.reach (tally s) m (Addressed st q k d0 m0) NoExit (own_head place vs s)
own_follows g w st p r q k place by_x vs s m d0 m0 seen room finds puts last x =
    let one = puts.rise in
    let two = last.rise in
    let many = w.enough in
    let top = kept_top (d0.top + k) d0 m0.stack s.now m.stack x.kept in
    let deep = kept_stack (d0.top + k) d0 m0.stack s.now m.stack x.kept in
    bind_follows g w (pos r - pos p) 0 w.reach (pos q - pos r) 0 w.reach (pos q - pos p) 0 w.reach (tally s) m
    (Settles st r k d0 m0) (Addressed st q k d0 m0) NoExit (store (counter (address_of place s.now)) vs s)
    (λ u t. done (address_of place s.now) t)
    (value_put g w st p r k (mode_of k place) by_x (address_of place s.now) vs s m d0 m0 finds (omega (arith, top, deep, room)) puts x)
    (λ u t n y less. address_follows g w st r q k 3 (address_of place s.now) place t n d0 m0 seen (omega arith) room
    (address_same place s.now t.now (y.0.kept.footing ∙ sym x.kept.footing)) last y)
    (omega (arith, one, two)) (omega arith) (omega (arith, many)) (omega (arith, many))

own_fixed : (z : Surroundings) (k : ℕ) (place : Place) → is_reached z.setting k place ≡ true
    → Heads z k (counter_at (its_own kind.Integer) false (mode_of k place)) (own_head place)
own_fixed z k place reached = record {
  closed = refl;
  rise = λ p q stands. let one = stands.1.rise in
      let two = (last_leads z.ground z.sites (on stands.0) (i.Memory 15 true false false (mode_of k place)) q stands.2).rise in omega (arith, one, two);
  does = λ p q vs s m d0 m0 stands x room.
      own_follows z.ground z.rate z.setting p stands.0 q k place false vs s m d0 m0 (reached_seen z.setting k place reached) room
      (reached_finds z.setting k (k + 1) place s.now (at_left m) reached x.matches) stands.1
      (last_leads z.ground z.sites (on stands.0) (i.Memory 15 true false false (mode_of k place)) q stands.2) x;
}

-- where X is minus one, the operand of a place counted from the top is where it was before the value
below_finds : (st : Setting) (k n : ℕ) (d : Data) (m : Machine) → IsBelow st k n → Matched st d m (k + 1) → d.top + (k + 1) ≤ d.stack → m.regs.x ≡ minus 1
    → Finds kind.Integer (mode_of k (below_return n)) false true false (d.inner - n) m
below_finds st k n d m below matches room is =
    down_finds kind.Integer (mode_of k (below_return n)) (d.inner - n) m (below_based st d k 1 n m below matches room) (below_low st d k (k + 1) n m below matches) is

-- LDXN, STOR with X, and LRA
own_below : (z : Surroundings) (k n : ℕ) → is_seen z.setting k (below_return n) ≡ true
    → Heads z k (counter_at (its_own kind.Integer) true (mode_of k (below_return n))) (own_head (below_return n))
own_below z k n seen = record {
  closed = refl;
  rise = λ p q stands. let one = stands.1.rise in
      let two = stands.2.1.rise in
      let three = (last_leads z.ground z.sites (on stands.2.0) (i.Memory 15 true false false (mode_of k (below_return n))) q stands.2.2).rise in
      omega (arith, one, two, three);
  does = λ p q vs s m d0 m0 stands x room.
      let r1 = stands.0 in
      let r2 = stands.2.0 in
      let last = last_leads z.ground z.sites (on r2) (i.Memory 15 true false false (mode_of k (below_return n))) q stands.2.2 in
      let f = x_down z.ground z.rate p r1 z.setting 1 k 1 vs s m d0 m0 stands.1 x in
      let top = kept_top (d0.top + k) d0 m0.stack s.now m.stack x.kept in
      let deep = kept_stack (d0.top + k) d0 m0.stack s.now m.stack x.kept in
      let one = stands.1.rise in
      let two = stands.2.1.rise in
      let three = last.rise in
      let many = z.rate.enough in
      then_follows z.ground z.rate (pos r1 - pos p) 0 z.rate.reach (pos q - pos r1) 0 z.rate.reach (pos q - pos p) 0 z.rate.reach (tally s) m (tally s) f.0
      (Addressed z.setting q k d0 m0) NoExit (own_head (below_return n) vs s) f.1
      (own_follows z.ground z.rate z.setting r1 r2 q k (below_return n) true vs s f.0 d0 m0 seen room
      (below_finds z.setting k n s.now (at_left f.0) (below_is z.setting k n seen) f.2.0.matches (omega (arith, top, deep, room)) f.2.1) stands.2.1 last f.2.0)
      (omega (arith, one, two, three)) (omega (arith, many)) (omega (arith, many));
}

-- by the place
pub own_heads : OwnCounters
own_heads z k (data_word a) seen = own_fixed z k (data_word a) seen
own_heads z k (above_base n) seen = own_fixed z k (above_base n) seen
own_heads z k (below_base n) seen = own_fixed z k (below_base n) seen
own_heads z k (below_return n) seen = own_below z k n seen

-- ---- a parameter by reference

-- what stands behind a store
abbrev put_done : ℕ → ℕ → State → Outcome (Unit {0})
put_done a v t = done tt (placed_word false a v t)

abbrev address_done : ℕ → State → Outcome ℕ
address_done a t = done a t

behind_put : (o : Outcome ℕ) (a v : ℕ) → then_go (then_go o (λ old t. put_done a v t)) (λ u t. address_done a t)
    ≡ then_go o (λ old t. address_done a (placed_word false a v t))
behind_put (done old s) a v = refl
behind_put (leaves x s) a v = refl
behind_put (spent s) a v = refl
behind_put (ends e s) a v = refl
behind_put (strays s) a v = refl

-- STOR through the word below the value puts the value where that leads; the word itself stays on top.
passed_put : (g : Ground) (w : Rate) (st : Setting) (r q : Spot) (k v cell : ℕ) (s : State) (m : Machine) (d0 : Data) (m0 : Machine) → st.split ≡ false
    → s.now.top + (k + 2) ≤ s.now.stack → Leads g (on r) q (doing g.segments (i.Memory 5 true false true (SMinus 1)) q)
    → IsValue st r 2 k d0 m0 (cell ∷ v ∷ []) s m
    → Follows g w (pos q - pos r) 0 w.reach (tally s) m (Addressed st q k d0 m0) NoExit (then_go (store (counter cell) (v ∷ []) s) (λ u t. done cell t))
passed_put g w st r q k v cell s m d0 m0 whole room leads x =
    subst (λ (o : Outcome ℕ). Follows g w (pos q - pos r) 0 w.reach (tally s) m (Addressed st q k d0 m0) NoExit o) (sym (behind_put (word_at false cell s) cell v))
    (see (λ (o : Outcome ℕ). Follows g w (pos q - pos r) 0 w.reach (tally s) m (Addressed st q k d0 m0) NoExit o) false cell (k + 2) st s (at_left m)
    (λ old t. done cell (placed_word false cell v t)) x.matches room
    (λ old seen. put_there old seen)
    (stray_here g w (pos q - pos r) 0 w.reach st (on r) (k + 2) s s.begun m (Addressed st q k d0 m0) NoExit leads.start x.at refl x.matches)
    (λ past. row_trap g w w.reach (on r) q (doing g.segments (i.Memory 5 true false true (SMinus 1)) q) st s.begun s m (k + 2)
    (memory_row 5 true (SMinus 1) true false (at_left m)) Bounds (Addressed st q k d0 m0) NoExit leads refl x.at refl x.matches
    (rows.word_not_stored (SMinus 1) true false f.place Bounds (at_left m) one f.is
    (rows.written_past f.place false (word 0 (at_left m)) (at_left m) f.side (subst (λ (b : ℕ). length m.stack ≤ b) (sym f.at) past))))) where
      words : length m.stack ≡ s.now.top + (k + 2)
      words = x.matches.words

      top : s.now.top ≡ d0.top
      top = kept_top (d0.top + k) d0 m0.stack s.now m.stack x.kept

      one : 1 ≤ length m.stack
      one = omega (arith, words)

      small : cell < 65536
      small = x.small.0

      three : k + 2 ≡ k + 1 + 1
      three = omega arith

      cell_there : slice_index m.stack (s.now.top + k) ≡ cell
      cell_there =
          let place : s.now.top + k ≡ d0.top + k + 0 = omega (arith, top) in
          ap (λ (a : ℕ). slice_index m.stack a) place ∙ stand_at m.stack (cell ∷ v ∷ []) (d0.top + k) 0 (omega arith) x.stand

      f : Finds kind.Integer (SMinus 1) true false false cell (at_left m)
      f =
          let same : (cell + 0) % 65536 ≡ cell = omega (arith, small) in
          subst (λ (b : Bool). Finds kind.Integer (SMinus 1) true false b cell (at_left m)) (ap (λ (u : Outer). u.split) x.matches.outer ∙ whole)
          (through kind.Integer (SMinus 1) false (s.now.top + k) cell cell (at_left m)
          (top_based st s.now k 1 (at_left m) (subst (λ (j : ℕ). Matched st s.now (at_left m) j) three x.matches) (omega (arith, room)))
          (omega (arith, words)) cell_there same)

      put_there : (old : ℕ) → Seen false cell old s (at_left m)
          → Follows g w (pos q - pos r) 0 w.reach (tally s) m (Addressed st q k d0 m0) NoExit (done cell (placed_word false cell v s))
      put_there old seen =
          let row = memory_row 5 true (SMinus 1) true false (at_left m) in
          let below : address f.place < length m.stack = subst (λ (b : ℕ). b < length m.stack) (sym f.at) seen.there in
          let puts : Puts 1 cell v m row =
          subst (λ (u : ℕ). Puts 1 cell u m row) (value_word st r 2 k 0 1 d0 m0 (cell ∷ v ∷ []) s m x refl)
          (subst (λ (a : ℕ). Puts 1 a (word 0 m) m row) f.at
          (from_left 1 (address f.place) (word 0 m) m row (rows.word_puts (SMinus 1) true false f.place (at_left m) one f.is f.side below))) in
          let y = row_stores g w (on r) q (doing g.segments (i.Memory 5 true false true (SMinus 1)) q) st s.begun s m s.now m (k + 1) 1 cell v old row leads refl
          x.at refl puts (seen.known refl) x.small.1.0 (subst (λ (j : ℕ). Matched st s.now m j) three x.matches) (kept_same (s.now.top + (k + 1)) s.now m.stack)
          (subst (λ (c : Option Code). Coded c m.regs.code) (sym x.silent) tt) in
          let t : State = placed_word false cell v s in
          let still : slice_index y.0.stack (d0.top + k) ≡ cell =
          y.2.kept.word (d0.top + k) (omega (arith, top)) (above_none st s.now m (k + 2) (d0.top + k) x.matches (omega (arith, top)))
          ∙ (let place : d0.top + k ≡ s.now.top + k = omega (arith, top) in ap (λ (a : ℕ). slice_index m.stack a) place ∙ cell_there) in (
            y.0,
            y.1,
            record {
              at = y.2.at;
              wide = refl;
              matches = y.2.matches;
              stand = (still, tt);
              small = (small, tt);
              kept = kept_on (d0.top + k) d0 m0.stack s.now m.stack t.now y.0.stack x.kept
                  (kept_lower (d0.top + k) (s.now.top + (k + 1)) s.now m.stack t.now y.0.stack y.2.kept (omega (arith, top)));
              silent = x.silent;
            },
          )

-- LOAD, XCH and that store
passed_follows : (g : Ground) (w : Rate) (st : Setting) (p r1 r2 q : Spot) (k v : ℕ) (mode : Mode) (by_x : Bool) (b : ℕ) (s : State) (m : Machine) (d0 : Data) (m0 : Machine)
    → Finds kind.Integer mode false by_x false b (at_left m) → st.split ≡ false → d0.top + k + 3 ≤ d0.stack
    → Leads g (on p) r1 (doing g.segments (i.Memory 4 true by_x false mode) r1)
    → Leads g (on r1) r2 (doing g.segments (i.Pair (op 0o32) (op 0)) r2)
    → Leads g (on r2) q (doing g.segments (i.Memory 5 true false true (SMinus 1)) q) → IsValue st p 1 k d0 m0 (v ∷ []) s m
    → Follows g w (pos q - pos p) 0 w.reach (tally s) m (Addressed st q k d0 m0) NoExit
    (then_go (word_at false b s) (λ cell t.
    then_go (store (element_located false kind.Integer cell 0) (v ∷ []) t) (λ u z. done (element_address kind.Integer cell 0) z)))
passed_follows g w st p r1 r2 q k v mode by_x b s m d0 m0 found whole room load swap puts x =
    see (λ (o : Outcome ℕ). Follows g w (pos q - pos p) 0 w.reach (tally s) m (Addressed st q k d0 m0) NoExit o) false b (k + 1) st s
    (at_left m) (λ cell t. then_go (store (element_located false kind.Integer cell 0) (v ∷ []) t) (λ u z. done (element_address kind.Integer cell 0) z))
    x.matches (omega (arith, room, top, deep)) (λ cell seen. loaded_then cell seen)
    (stray_here g w (pos q - pos p) 0 w.reach st (on p) (k + 1) s s.begun m (Addressed st q k d0 m0) NoExit load.start x.at refl x.matches)
    (λ past. widen g w (pos r1 - pos p) 0 w.reach (pos q - pos p) 0 w.reach (tally s) m (Addressed st q k d0 m0) NoExit (ends (trapped Bounds) s)
    (row_trap g w w.reach (on p) r1 (doing g.segments (i.Memory 4 true by_x false mode) r1) st s.begun s m (k + 1)
    (memory_row 4 true mode false by_x (at_left m)) Bounds (Addressed st q k d0 m0) NoExit load refl x.at refl x.matches
    (rows.word_not_there mode false by_x found.place Bounds (at_left m) found.is
    (past_read found.place false b (at_left m) found.side found.at past)))
    (omega (arith, one, two, three)) (omega arith) (omega arith)) where
      top : s.now.top ≡ d0.top
      top = kept_top (d0.top + k) d0 m0.stack s.now m.stack x.kept

      deep : s.now.stack ≡ d0.stack
      deep = kept_stack (d0.top + k) d0 m0.stack s.now m.stack x.kept

      one : pos p ≤ pos r1
      one = let rise = load.rise in omega (arith, rise)

      two : pos r1 ≤ pos r2
      two = let rise = swap.rise in omega (arith, rise)

      three : pos r2 ≤ pos q
      three = let rise = puts.rise in omega (arith, rise)

      many : 8 ≤ w.reach
      many = w.enough

      loaded_then : (cell : ℕ) → Seen false b cell s (at_left m)
          → Follows g w (pos q - pos p) 0 w.reach (tally s) m (Addressed st q k d0 m0) NoExit
          (then_go (store (element_located false kind.Integer cell 0) (v ∷ []) s) (λ u z. done (element_address kind.Integer cell 0) z))
      loaded_then cell seen =
          let words = x.matches.words in
          let limit : m.stack_limit ≡ s.now.stack = ap (λ (u : Outer). u.limit) x.matches.outer in
          let free : length m.stack < m.stack_limit = omega (arith, words, limit, room, top, deep) in
          let none : k + 1 ≡ k + 1 + 0 = omega arith in
          let small = seen.small in
          let same : cell ≡ (cell + 0) % 65536 = omega (arith, small) in
          let y = row_value g w (on p) r1 (doing g.segments (i.Memory 4 true by_x false mode) r1) st s.begun s m s.now m (k + 1) 0 1 (cell ∷ [])
          (memory_row 4 true mode false by_x (at_left m)) load refl x.at refl
          (rows.word_loaded mode false by_x found.place cell (at_left m) found.is
          (seen_read found.place false b cell s (at_left m) found.side found.at seen) free).words
          (subst (λ (j : ℕ). Matched st s.now m j) none x.matches) (kept_same (s.now.top + (k + 1)) s.now m.stack) x.silent (small, tt) refl in
          let z = exchanged g w r1 r2 st s y.0 d0 m0 k v cell swap (values_join st p r1 1 1 k d0 m0 (v ∷ []) (cell ∷ []) s m s y.0 x y.2) in
          let put = passed_put g w st r2 q k v cell s z.0 d0 m0 whole (omega (arith, room, top, deep)) puts z.2 in
          then_follows g w (pos r1 - pos p) 0 w.reach (pos q - pos r1) 0 w.reach (pos q - pos p) 0 w.reach (tally s) m (tally s) y.0 (Addressed st q k d0 m0) NoExit
          (then_go (store (element_located false kind.Integer cell 0) (v ∷ []) s) (λ u z. done (element_address kind.Integer cell 0) z)) y.1
          (then_follows g w (pos r2 - pos r1) 0 w.reach (pos q - pos r2) 0 w.reach (pos q - pos r1) 0 w.reach (tally s) y.0 (tally s) z.0 (Addressed st q k d0 m0)
          NoExit (then_go (store (element_located false kind.Integer cell 0) (v ∷ []) s) (λ u z. done (element_address kind.Integer cell 0) z)) z.1
          (subst (λ (a : ℕ). Follows g w (pos q - pos r2) 0 w.reach (tally s) z.0 (Addressed st q k d0 m0) NoExit
          (then_go (store (counter a) (v ∷ []) s) (λ u z. done a z))) same put)
          (omega (arith, two, three)) (omega arith) (omega (arith, many)))
          (omega (arith, one, two, three)) (omega arith) (omega (arith, many))

-- by the words of the value, of which there is one
passed_by : (g : Ground) (w : Rate) (st : Setting) (p r1 r2 q : Spot) (k : ℕ) (mode : Mode) (by_x : Bool) (b : ℕ) (vs : List ℕ) (s : State) (m : Machine) (d0 : Data)
    (m0 : Machine) → Finds kind.Integer mode false by_x false b (at_left m) → st.split ≡ false → d0.top + k + 3 ≤ d0.stack
    → Leads g (on p) r1 (doing g.segments (i.Memory 4 true by_x false mode) r1)
    → Leads g (on r1) r2 (doing g.segments (i.Pair (op 0o32) (op 0)) r2)
    → Leads g (on r2) q (doing g.segments (i.Memory 5 true false true (SMinus 1)) q) → IsValue st p 1 k d0 m0 vs s m
    → Follows g w (pos q - pos p) 0 w.reach (tally s) m (Addressed st q k d0 m0) NoExit
    (then_go (word_at false b s) (λ cell t.
    then_go (store (element_located false kind.Integer cell 0) vs t) (λ u z. done (element_address kind.Integer cell 0) z)))
passed_by g w st p r1 r2 q k mode by_x b (v ∷ []) s m d0 m0 found whole room load swap puts x =
    passed_follows g w st p r1 r2 q k v mode by_x b s m d0 m0 found whole room load swap puts x
passed_by g w st p r1 r2 q k mode by_x b [] s m d0 m0 found whole room load swap puts x = let wide = x.wide in absurd (omega (arith, wide))
passed_by g w st p r1 r2 q k mode by_x b (v ∷ u ∷ vs) s m d0 m0 found whole room load swap puts x = let wide = x.wide in absurd (omega (arith, wide))

passed_fixed : (z : Surroundings) (k : ℕ) (place : Place) → is_reached z.setting k place ≡ true → z.setting.split ≡ false
    → Heads z k (counter_at (by_address kind.Integer) false (mode_of k place)) (passed_head place)
passed_fixed z k place reached whole = record {
  closed = refl;
  rise = λ p q stands. let one = stands.1.rise in
      let two = stands.2.1.rise in
      let three = (last_leads z.ground z.sites (on stands.2.0) (i.Memory 5 true false true (SMinus 1)) q stands.2.2).rise in omega (arith, one, two, three);
  does = λ p q vs s m d0 m0 stands x room.
      passed_by z.ground z.rate z.setting p stands.0 stands.2.0 q k (mode_of k place) false (address_of place s.now) vs s m d0 m0
      (reached_finds z.setting k (k + 1) place s.now (at_left m) reached x.matches) whole room stands.1 stands.2.1
      (last_leads z.ground z.sites (on stands.2.0) (i.Memory 5 true false true (SMinus 1)) q stands.2.2) x;
}

-- LDXN, and the same with X
passed_below : (z : Surroundings) (k n : ℕ) → is_seen z.setting k (below_return n) ≡ true → z.setting.split ≡ false
    → Heads z k (counter_at (by_address kind.Integer) true (mode_of k (below_return n))) (passed_head (below_return n))
passed_below z k n seen whole = record {
  closed = refl;
  rise = λ p q stands. let one = stands.1.rise in
      let two = stands.2.1.rise in
      let three = stands.2.2.1.rise in
      let four = (last_leads z.ground z.sites (on stands.2.2.0) (i.Memory 5 true false true (SMinus 1)) q stands.2.2.2).rise in
      omega (arith, one, two, three, four);
  does = λ p q vs s m d0 m0 stands x room.
      let r1 = stands.0 in
      let last = last_leads z.ground z.sites (on stands.2.2.0) (i.Memory 5 true false true (SMinus 1)) q stands.2.2.2 in
      let f = x_down z.ground z.rate p r1 z.setting 1 k 1 vs s m d0 m0 stands.1 x in
      let top = kept_top (d0.top + k) d0 m0.stack s.now m.stack x.kept in
      let deep = kept_stack (d0.top + k) d0 m0.stack s.now m.stack x.kept in
      let one = stands.1.rise in
      let two = stands.2.1.rise in
      let three = stands.2.2.1.rise in
      let four = last.rise in
      let many = z.rate.enough in
      then_follows z.ground z.rate (pos r1 - pos p) 0 z.rate.reach (pos q - pos r1) 0 z.rate.reach (pos q - pos p) 0 z.rate.reach (tally s) m (tally s) f.0
      (Addressed z.setting q k d0 m0) NoExit (passed_head (below_return n) vs s) f.1
      (passed_by z.ground z.rate z.setting r1 stands.2.0 stands.2.2.0 q k (mode_of k (below_return n)) true (s.now.inner - n) vs s f.0 d0 m0
      (below_finds z.setting k n s.now (at_left f.0) (below_is z.setting k n seen) f.2.0.matches (omega (arith, top, deep, room)) f.2.1) whole room
      stands.2.1 stands.2.2.1 last f.2.0)
      (omega (arith, one, two, three, four)) (omega (arith, many)) (omega (arith, many));
}

-- by the place
pub passed_heads : PassedCounters
passed_heads z k (data_word a) seen whole = passed_fixed z k (data_word a) seen whole
passed_heads z k (above_base n) seen whole = passed_fixed z k (above_base n) seen whole
passed_heads z k (below_base n) seen whole = passed_fixed z k (below_base n) seen whole
passed_heads z k (below_return n) seen whole = passed_below z k n seen whole
