-- Words that are no branch and no call, as what leads from their place on: pairs in both halves, and whole words.
use Rattle.std.proofs.Common.{◌≡◌, ℕ, ◌+◌, ◌*◌, ◌<◌, Bool, true, false, refl, sym, ap, ◌∙◌, arith}
use Rattle.std.specs.Prelude.{◌==◌, ◌&&◌, nat_le, if◌then◌else◌, Ok, Err}
use Rattle.std.proofs.lemmas.Bool.{cond-true, cond-false, eq-eqb, ne_eqb}
use Rattle.std.proofs.Math.Logic.{⊎_elim}
use Rattle.std.proofs.lemmas.Bool.Decides.{nat_tests}
use Rattle.spl_follow.specs.hp_instr.declared.instruction.Instr.{Instr}
use Rattle.spl_follow.specs.hp_instr.declared.instruction.Instr.TheVariants as i
use Rattle.spl_follow.specs.hp_instr.declared.instruction.Mode.{Mode}
use Rattle.spl_follow.specs.hp_instr.declared.instruction.Op.{Op}
use Rattle.spl_follow.specs.hp_session.State.{Machine, Outcome, then_with, wrapped, passing, passed}
use Rattle.spl_follow.specs.hp_stack_rows.StackRows.{operated}
use Rattle.spl_follow.specs.hp_word_rows.WordRows.{count_row}
use Rattle.spl_follow.specs.hp_memory_rows.MoveRows.{move_row}
use Rattle.spl_follow.specs.hp_flat.Step.{at_left, pair_row, control_row, word_row, row, ended, step}
use Rattle.hp_steady.specs.Rest.{seat, Stays, StaysOrPasses}
use Rattle.hp_steady.proofs.StackStays.{operated-stays}
use Rattle.hp_steady.proofs.WordStays.{shifting-stays, immediate_row-stays, count_row-stays}
use Rattle.hp_steady.proofs.MemoryStays.{memory_row-stays, code_loaded-stays}
use Rattle.hp_steady.proofs.MoveStays.{move_row-stays}
use Rattle.spl_follow.specs.Spots.{Spot, spot, landed, next_word, pos, Point, Ground}
use Rattle.spl_follow.specs.Leading.{Leads}
use Rattle.spl_follow.specs.Doing.{effect, counts, is_move, moving, doing}
use Rattle.hp_leads.specs.Words.{right_half, HasInstr, is_whole, moves}
use Rattle.hp_leads.proofs.StepLemmas.{at_seg, at_offset, at_half, word_step, one_step, seated, passing_lands, half_lands}

-- a word that is there is followed by an offset of sixteen bits
pub near : (g : Ground) (p : Point) (by : Instr) → HasInstr g p by → p.at.offset < 65535
near g p by has = let short = g.short p.at.seg p.at.offset has.word has.there in omega (arith, short)

-- the next word is behind each half
pub next_rises : (p : Spot) → pos p < pos (next_word p)
next_rises p = by p.right where
  by : (c : Bool) → 2 * p.offset + (if c then 1 else 0) < 2 * (p.offset + 1) + 0
  by true = omega arith
  by false = omega arith

half_rises : (p : Spot) → p.right ≡ false → pos p < pos (right_half p)
half_rises p left = by p.right left where
  by : (c : Bool) → c ≡ false → 2 * p.offset + (if c then 1 else 0) < 2 * p.offset + 1
  by true is = cc
  by false is = omega arith

-- ---- pairs

-- the right operation of a pair
pub right_leads : (g : Ground) (p : Point) (a b c : Op) → p.at.right ≡ true → HasInstr g p (i.Pair a b)
    → Leads g p (next_word p.at) (doing g.segments (i.Pair b c) (next_word p.at))
unfolding row pair_row
right_leads g p a b c half has = one_step g p (next_word p.at) _ has.start (next_rises p.at) refl (λ m at runs. stepped m at) where
  stepped : (m : Machine) → spot m ≡ p.at → step g.segments m ≡ doing g.segments (i.Pair b c) (next_word p.at) m
  stepped m at =
      word_step g p (i.Pair a b) has m at
      ∙ ap (ended m) (cond-true m.regs.right _ _ (at_half p.at m at ∙ half) ∙ (passing_lands p.at m (operated b.code m) (at_seg p.at m at) (at_offset p.at m at) (near g p _ has) (seated m _ (operated-stays m b.code))))

-- the left operation of a pair, on whose right there is one
pub left_leads : (g : Ground) (p : Point) (a b c : Op) → p.at.right ≡ false → (b.code == 0) ≡ false → HasInstr g p (i.Pair a b)
    → Leads g p (right_half p.at) (doing g.segments (i.Pair a c) (right_half p.at))
unfolding row pair_row
left_leads g p a b c half other has = one_step g p (right_half p.at) _ has.start (half_rises p.at half) refl (λ m at runs. stepped m at) where
  stepped : (m : Machine) → spot m ≡ p.at → step g.segments m ≡ doing g.segments (i.Pair a c) (right_half p.at) m
  stepped m at =
      word_step g p (i.Pair a b) has m at
      ∙ ap (ended m) (cond-false m.regs.right _ _ (at_half p.at m at ∙ half) ∙ cond-false (b.code == 0) _ _ other ∙ (half_lands p.at m (operated a.code m) (at_seg p.at m at) (at_offset p.at m at) (seated m _ (operated-stays m a.code))))

-- a pair with NOP on its right
pub single_leads : (g : Ground) (p : Point) (a b c : Op) → p.at.right ≡ false → (b.code == 0) ≡ true → HasInstr g p (i.Pair a b)
    → Leads g p (next_word p.at) (doing g.segments (i.Pair a c) (next_word p.at))
unfolding row pair_row
single_leads g p a b c half none has = one_step g p (next_word p.at) _ has.start (next_rises p.at) refl (λ m at runs. stepped m at) where
  stepped : (m : Machine) → spot m ≡ p.at → step g.segments m ≡ doing g.segments (i.Pair a c) (next_word p.at) m
  stepped m at =
      word_step g p (i.Pair a b) has m at
      ∙ ap (ended m) (cond-false m.regs.right _ _ (at_half p.at m at ∙ half) ∙ cond-true (b.code == 0) _ _ none ∙ (passing_lands p.at m (operated a.code m) (at_seg p.at m at) (at_offset p.at m at) (near g p _ has) (seated m _ (operated-stays m a.code))))

-- ---- whole words

-- an instruction that goes on behind its word
passing_leads : (g : Ground) (p : Point) (by : Instr) (F : Machine → Machine) (effects : Machine → Outcome) → HasInstr g p by
    → ((m : Machine) → row g.segments by m ≡ passing (effects (at_left m)))
    → ((m : Machine) → F m ≡ ended m (then_with (effects (at_left m)) (λ n. Ok (landed (next_word p.at) n))))
    → ((m : Machine) → Stays m (effects m)) → Leads g p (next_word p.at) F
passing_leads g p by F effects has is does stays = one_step g p (next_word p.at) F has.start (next_rises p.at) refl (λ m at runs.
    word_step g p by has m at ∙ ap (ended m) (is m
    ∙ passing_lands p.at (at_left m) (effects (at_left m)) (at_seg p.at m at) (at_offset p.at m at) (near g p by has) (seated (at_left m) _ (stays (at_left m))))
    ∙ sym (does m))

-- an instruction that goes where its row says
by_row_leads : (g : Ground) (p : Point) (by : Instr) (F : Machine → Machine) → HasInstr g p by
    → ((m : Machine) → F m ≡ ended m (row g.segments by m)) → Leads g p (next_word p.at) F
by_row_leads g p by F has does = one_step g p (next_word p.at) F has.start (next_rises p.at) refl (λ m at runs. word_step g p by has m at ∙ sym (does m))

first_of_two : (a b : Bool) → a && b ≡ true → a ≡ true
first_of_two true b h = refl
first_of_two false b h = h

second_of_two : (a b : Bool) → a && b ≡ true → b ≡ true
second_of_two true b h = h
second_of_two false b h = cc

-- a count of words or of X
count_leads : (g : Ground) (p : Point) (which n : ℕ) → counts which ≡ true → HasInstr g p (i.Control which n)
    → Leads g p (next_word p.at) (doing g.segments (i.Control which n) (next_word p.at))
unfolding row word_row control_row
count_leads g p which n count has = passing_leads g p (i.Control which n) _ (count_row which n) has passes does (λ m. count_row-stays m which n) where
  does : (m : Machine)
      → doing g.segments (i.Control which n) (next_word p.at) m ≡ ended m (then_with (count_row which n (at_left m)) (λ k. Ok (landed (next_word p.at) k)))
  does m = rw count refl

  passes : (m : Machine) → row g.segments (i.Control which n) m ≡ passing (count_row which n (at_left m))
  passes m =
      let low = first_of_two (nat_le 4 which) (nat_le which 8) count in
      let zero : (which == 0) ≡ false = grind (arith, nat_tests, low) in
      let one : (which == 1) ≡ false = grind (arith, nat_tests, low) in
      let two : (which == 2) ≡ false = grind (arith, nat_tests, low) in
      let three : (which == 3) ≡ false = grind (arith, nat_tests, low) in
      let most : nat_le which 8 ≡ true = second_of_two (nat_le 4 which) (nat_le which 8) count in
      rw (zero, one, two, three, most) refl

-- a return
row_leads : (g : Ground) (p : Point) (which n : ℕ) → counts which ≡ false → is_move which ≡ false → HasInstr g p (i.Control which n)
    → Leads g p (next_word p.at) (doing g.segments (i.Control which n) (next_word p.at))
unfolding row word_row
row_leads g p which n other none has = by_row_leads g p (i.Control which n) _ has does where
  does : (m : Machine) → doing g.segments (i.Control which n) (next_word p.at) m ≡ ended m (row g.segments (i.Control which n) m)
  does m = rw (other, none) refl

-- places by their parts
same_spot : (a b : Spot) → a.seg ≡ b.seg → a.offset ≡ b.offset → a.right ≡ b.right → a ≡ b
same_spot a b segs offsets halves j = record { seg = segs j; offset = offsets j; right = halves j }

-- what a row leaves that stays or passes its word is, at a left half, where a move lets it be
stays_or_passes : (p : Spot) (m : Machine) (o : Outcome) → spot m ≡ p → p.right ≡ false → p.offset < 65535 → StaysOrPasses (at_left m) o
    → o ≡ then_with o (λ n. Ok (landed (if n.regs.p == m.regs.p then spot m else next_word p) n))
stays_or_passes p m (Err t) at half low stays = refl
stays_or_passes p m (Ok n) at half low stays = ⊎_elim (λ same. stayed (ap (λ r. r.seat) same)) (λ past. passed_by (ap (λ r. r.seat) past)) stays where
  lands : Spot → Outcome
  lands q = Ok (landed q n)

  offset : m.regs.p ≡ p.offset
  offset = at_offset p m at

  stayed : seat n ≡ seat (at_left m) → lands (spot n) ≡ lands (if n.regs.p == m.regs.p then spot m else next_word p)
  stayed same =
      let here : n.regs.p ≡ m.regs.p = ap (λ s. s.p) same in
      let right : n.regs.right ≡ m.regs.right = ap (λ s. s.right) same ∙ sym (at_half p m at ∙ half) in
      let place : spot n ≡ spot m = same_spot (spot n) (spot m) (ap (λ s. s.seg) same) here right in
      ap lands (place ∙ sym (cond-true (n.regs.p == m.regs.p) (spot m) (next_word p) (eq-eqb n.regs.p m.regs.p here)))

  passed_by : seat n ≡ seat (passed (at_left m)) → lands (spot n) ≡ lands (if n.regs.p == m.regs.p then spot m else next_word p)
  passed_by same =
      let next : wrapped (m.regs.p + 1) ≡ p.offset + 1 = omega (arith, offset, low) in
      let there : n.regs.p ≡ p.offset + 1 = ap (λ s. s.p) same ∙ next in
      let place : spot n ≡ next_word p = same_spot (spot n) (next_word p) (ap (λ s. s.seg) same ∙ at_seg p m at) there (ap (λ s. s.right) same) in
      ap lands (place ∙ sym (cond-false (n.regs.p == m.regs.p) (spot m) (next_word p) (ne_eqb n.regs.p m.regs.p (λ e. absurd (omega (arith, e, there, offset))))))

-- a step of a move, which stands in no right half
move_leads : (g : Ground) (p : Point) (which n : ℕ) → counts which ≡ false → is_move which ≡ true → p.at.right ≡ false
    → HasInstr g p (i.Control which n) → Leads g p (next_word p.at) (doing g.segments (i.Control which n) (next_word p.at))
unfolding row word_row control_row
move_leads g p which n other move half has = one_step g p (next_word p.at) _ has.start (next_rises p.at) refl (λ m at runs.
    word_step g p (i.Control which n) has m at ∙ ap (ended m) (by_move m
    ∙ stays_or_passes p.at m (move_row g.segments which n (at_left m)) at half (near g p _ has) (move_row-stays (at_left m) g.segments which n))
    ∙ sym (does m)) where
      by_move : (m : Machine) → row g.segments (i.Control which n) m ≡ move_row g.segments which n (at_left m)
      by_move m =
          let zero : (which == 0) ≡ false = grind (arith, nat_tests, move) in
          let one : (which == 1) ≡ false = grind (arith, nat_tests, move) in
          let two : (which == 2) ≡ false = grind (arith, nat_tests, move) in
          let three : (which == 3) ≡ false = grind (arith, nat_tests, move) in
          let most : nat_le which 8 ≡ false = grind (arith, nat_tests, move) in
          rw (zero, one, two, three, most) refl

      does : (m : Machine) → doing g.segments (i.Control which n) (next_word p.at) m ≡ moving (next_word p.at) (move_row g.segments which n (at_left m)) m
      does m = rw (other, move) refl

control_leads : (g : Ground) (p : Point) (which n : ℕ) → (is_move which ≡ true → p.at.right ≡ false) → HasInstr g p (i.Control which n)
    → Leads g p (next_word p.at) (doing g.segments (i.Control which n) (next_word p.at))
control_leads g p which n left has = by (counts which) (is_move which) refl refl where
  by : (c v : Bool) → counts which ≡ c → is_move which ≡ v → Leads g p (next_word p.at) (doing g.segments (i.Control which n) (next_word p.at))
  by true v is e = count_leads g p which n is has
  by false true is e = move_leads g p which n is e (left e) has
  by false false is e = row_leads g p which n is e has

shift_leads : (g : Ground) (p : Point) (kind count : ℕ) → HasInstr g p (i.Shifted kind count)
    → Leads g p (next_word p.at) (doing g.segments (i.Shifted kind count) (next_word p.at))
unfolding row word_row
shift_leads g p kind count has =
    passing_leads g p (i.Shifted kind count) _ (effect g.segments (i.Shifted kind count)) has (λ m. refl) (λ m. refl) (λ m. shifting-stays m kind count)

immediate_leads : (g : Ground) (p : Point) (which n : ℕ) → HasInstr g p (i.Immediate which n)
    → Leads g p (next_word p.at) (doing g.segments (i.Immediate which n) (next_word p.at))
unfolding row word_row
immediate_leads g p which n has =
    passing_leads g p (i.Immediate which n) _ (effect g.segments (i.Immediate which n)) has (λ m. refl) (λ m. refl) (λ m. immediate_row-stays m which n)

memory_leads : (g : Ground) (p : Point) (major : ℕ) (second x indirect : Bool) (mode : Mode)
    → HasInstr g p (i.Memory major second x indirect mode)
    → Leads g p (next_word p.at) (doing g.segments (i.Memory major second x indirect mode) (next_word p.at))
unfolding row word_row
memory_leads g p major second x indirect mode has =
    passing_leads g p (i.Memory major second x indirect mode) _ (effect g.segments (i.Memory major second x indirect mode)) has (λ m. refl) (λ m. refl)
    (λ m. memory_row-stays m major second mode indirect x)

code_leads : (g : Ground) (p : Point) (back : Bool) (d : ℕ) → HasInstr g p (i.LoadCode back d)
    → Leads g p (next_word p.at) (doing g.segments (i.LoadCode back d) (next_word p.at))
unfolding row word_row
code_leads g p back d has =
    passing_leads g p (i.LoadCode back d) _ (effect g.segments (i.LoadCode back d)) has (λ m. refl) (λ m. refl) (λ m. code_loaded-stays m g.segments back d)

-- each of them
pub whole_leads : (g : Ground) (p : Point) (by : Instr) → is_whole by ≡ true → (moves by ≡ true → p.at.right ≡ false) → HasInstr g p by
    → Leads g p (next_word p.at) (doing g.segments by (next_word p.at))
whole_leads g p (i.Pair a b) whole left has = cc
whole_leads g p (i.Shifted kind count) whole left has = shift_leads g p kind count has
whole_leads g p (i.Short test back d) whole left has = cc
whole_leads g p (i.Immediate which n) whole left has = immediate_leads g p which n has
whole_leads g p (i.Control which n) whole left has = control_leads g p which n left has
whole_leads g p (i.Memory major second x indirect mode) whole left has = memory_leads g p major second x indirect mode has
whole_leads g p (i.LoadCode back d) whole left has = code_leads g p back d has
whole_leads g p (i.Branch indirect back d) whole left has = cc
whole_leads g p (i.OnCode mask back d) whole left has = cc
whole_leads g p (i.Loop modify back d) whole left has = cc
whole_leads g p (i.Illegal w) whole left has = cc
