-- Calls and returns: the marker that a call pushes, and what a return reads of it.
-- 1. a call pushes its marker                                   (procedure_entered)
-- 2. a status word has the registers that it was made of        (status_back)
-- 3. a marker that stands on the stack is read                  (marker_there)
-- 4. a return goes on where it says                             (procedure_left, subroutine_returns)
use Rattle.std.proofs.Common.{◌≡◌, ℕ, ◌+◌, ◌-◌, ◌*◌, ◌<◌, ◌≤◌, Bool, true, false, List, ◌++◌, length, take, Ok, Err, refl, sym, ap, subst, ◌∙◌, arith}
use Rattle.std.specs.Prelude.{◌==◌, ◌||◌, nat_lt, nat_le, slice_index}
use Rattle.std.proofs.lemmas.Bool.{lt-ltb, le-leb, cond-true, cond-false}
use Rattle.std.proofs.lemmas.Bool.Decides.{nat_tests}
use Rattle.hp_yields.specs.hp_word.declared.arithmetic.Code.{Code}
use Rattle.hp_yields.specs.hp_word.declared.arithmetic.Code.TheVariants.{Greater, Less, Equal}
use Rattle.hp_yields.specs.hp_word.declared.endings.Trap.TheVariants.{StackOverflow, Mode}
use Rattle.hp_yields.specs.hp_instr.Bits.{bits, bit}
use Rattle.hp_yields.specs.hp_session.declared.registers.Regs.{Regs}
use Rattle.hp_yields.specs.hp_session.declared.places.Place.TheVariants.{Stack}
use Rattle.hp_yields.specs.hp_session.State.{Machine, Outcome, word, without, wrapped, at_place}
use Rattle.hp_yields.specs.hp_session.Places.{area, read_at}
use Rattle.hp_yields.specs.hp_call_rows.declared.call_rows.Frame.{Frame}
use Rattle.hp_yields.specs.hp_call_rows.CallRows.{flag, code_bits, code_of_bits, status, with_status, marker, entered, marker_at, old_q, returned, exited, subroutine_left}
use Rattle.hp_yields.specs.hp_memory_rows.MoveRows.{move_row}
use Rattle.hp_yields.specs.hp_flat.Step.{control_row}
use Rattle.hp_call_yields.specs.Steps.{with_status_of}
use Rattle.hp_yields.proofs.YieldForms.{taken, found}

-- ---- calls

pub procedure_entered : (seg offset : ℕ) (m : Machine) → length m.stack + 4 ≤ m.stack_limit
    → entered seg offset m ≡ Ok (record m { stack = m.stack ++ marker m; regs = record m.regs { q = length m.stack + 3; p = offset; seg = seg; right = false } })
unfolding entered marker
procedure_entered seg offset m room = rw (le-leb (length m.stack + 4) m.stack_limit room) refl

pub procedure_not_entered : (seg offset : ℕ) (m : Machine) → m.stack_limit < length m.stack + 4 → entered seg offset m ≡ Err StackOverflow
unfolding entered marker
procedure_not_entered seg offset m full =
    let none : nat_le (length m.stack + 4) m.stack_limit ≡ false = grind (arith, nat_tests, full) in rw none refl

-- ---- the status word

-- a flag is so many times its bit
flag_bit : (on : Bool) (place : ℕ) → flag on place ≡ place * flag on 1
flag_bit true place = omega arith
flag_bit false place = omega arith

flag_few : (on : Bool) → flag on 1 ≤ 1
flag_few true = omega arith
flag_few false = omega arith

flag_is : (on : Bool) → (flag on 1 == 1) ≡ on
flag_is true = refl
flag_is false = refl

code_few : (c : Code) → code_bits c ≤ 2
unfolding code_bits
code_few Greater = omega arith
code_few Less = omega arith
code_few Equal = omega arith

code_is : (c : Code) → code_of_bits (code_bits c) ≡ c
unfolding code_bits code_of_bits
code_is Greater = refl
code_is Less = refl
code_is Equal = refl

-- the fields of a word that is made of five numbers and a byte
module _ (t r o c k seg w : ℕ) (is : w ≡ 8192 * t + 4096 * r + 2048 * o + 1024 * c + 256 * k + seg) (ft : t ≤ 1) (fr : r ≤ 1) (fo : o ≤ 1) (fc : c ≤ 1) (fk : k ≤ 2) (fs : seg < 256) where
  traps_bit : bits 2 2 w ≡ t
  traps_bit = omega (arith, is, ft, fr, fo, fc, fk, fs)

  right_bit : bits 3 3 w ≡ r
  right_bit = omega (arith, is, ft, fr, fo, fc, fk, fs)

  overflow_bit : bits 4 4 w ≡ o
  overflow_bit = omega (arith, is, ft, fr, fo, fc, fk, fs)

  carry_bit : bits 5 5 w ≡ c
  carry_bit = omega (arith, is, ft, fr, fo, fc, fk, fs)

  code_field : bits 6 7 w ≡ k
  code_field = omega (arith, is, ft, fr, fo, fc, fk, fs)

  seg_field : bits 8 15 w ≡ seg
  seg_field = omega (arith, is, ft, fr, fo, fc, fk, fs)

-- a status word is made so
status_parts : (r : Regs)
    → status r ≡ 8192 * flag r.traps 1 + 4096 * flag r.right 1 + 2048 * flag r.overflow 1 + 1024 * flag r.carry 1 + 256 * code_bits r.code + r.seg
unfolding status
status_parts r =
    let t = flag_bit r.traps 8192 in
    let h = flag_bit r.right 4096 in
    let o = flag_bit r.overflow 2048 in
    let c = flag_bit r.carry 1024 in
    omega (arith, t, h, o, c)

-- so the registers have it back
pub status_back : (r s : Regs) → r.seg < 256 → with_status (status r) s ≡ with_status_of r s
unfolding with_status
status_back r s small =
    let t = traps_bit (flag r.traps 1) (flag r.right 1) (flag r.overflow 1) (flag r.carry 1) (code_bits r.code) r.seg (status r) (status_parts r) (flag_few r.traps) (flag_few r.right) (flag_few r.overflow) (flag_few r.carry) (code_few r.code) small in
    let h = right_bit (flag r.traps 1) (flag r.right 1) (flag r.overflow 1) (flag r.carry 1) (code_bits r.code) r.seg (status r) (status_parts r) (flag_few r.traps) (flag_few r.right) (flag_few r.overflow) (flag_few r.carry) (code_few r.code) small in
    let o = overflow_bit (flag r.traps 1) (flag r.right 1) (flag r.overflow 1) (flag r.carry 1) (code_bits r.code) r.seg (status r) (status_parts r) (flag_few r.traps) (flag_few r.right) (flag_few r.overflow) (flag_few r.carry) (code_few r.code) small in
    let c = carry_bit (flag r.traps 1) (flag r.right 1) (flag r.overflow 1) (flag r.carry 1) (code_bits r.code) r.seg (status r) (status_parts r) (flag_few r.traps) (flag_few r.right) (flag_few r.overflow) (flag_few r.carry) (code_few r.code) small in
    let k = code_field (flag r.traps 1) (flag r.right 1) (flag r.overflow 1) (flag r.carry 1) (code_bits r.code) r.seg (status r) (status_parts r) (flag_few r.traps) (flag_few r.right) (flag_few r.overflow) (flag_few r.carry) (code_few r.code) small in
    let g = seg_field (flag r.traps 1) (flag r.right 1) (flag r.overflow 1) (flag r.carry 1) (code_bits r.code) r.seg (status r) (status_parts r) (flag_few r.traps) (flag_few r.right) (flag_few r.overflow) (flag_few r.carry) (code_few r.code) small in
    fields (bit 2 (status r)) r.traps (bit 3 (status r)) r.right (bit 4 (status r)) r.overflow (bit 5 (status r)) r.carry (code_of_bits (bits 6 7 (status r))) r.code (bits 8 15 (status r)) r.seg
    (ap (λ (n : ℕ). n == 1) t ∙ flag_is r.traps) (ap (λ (n : ℕ). n == 1) h ∙ flag_is r.right) (ap (λ (n : ℕ). n == 1) o ∙ flag_is r.overflow)
    (ap (λ (n : ℕ). n == 1) c ∙ flag_is r.carry) (ap code_of_bits k ∙ code_is r.code) g
  where
    fields : (t t' h h' o o' c c' : Bool) (k k' : Code) (g g' : ℕ) → t ≡ t' → h ≡ h' → o ≡ o' → c ≡ c' → k ≡ k' → g ≡ g'
        → record s { traps = t; right = h; overflow = o; carry = c; code = k; seg = g } ≡ record s { traps = t'; right = h'; overflow = o'; carry = c'; code = k'; seg = g' }
    fields t t' h h' o o' c c' k k' g g' et eh eo ec ek eg = rw (et, eh, eo, ec, ek, eg) refl

-- ---- the marker

-- the word of the stack at an address
word_there : (a w : ℕ) (m : Machine) → a < length m.stack → slice_index m.stack a ≡ w → read_at (Stack a) m ≡ Ok w
unfolding read_at area
word_there a w m less is = rw (lt-ltb a (length m.stack) less, is) refl

-- the marker whose last word is at an address
pub marker_there : (q x offset state delta : ℕ) (m : Machine) → 3 ≤ q → q < 65536 → q < length m.stack → slice_index m.stack (q - 3) ≡ x
    → slice_index m.stack (q - 2) ≡ offset → slice_index m.stack (q - 1) ≡ state → slice_index m.stack q ≡ delta
    → marker_at q m ≡ Ok (record { x = x; offset = offset; status = state; delta = delta })
unfolding marker_at
marker_there q x offset state delta m low small less first second third last =
    let a : wrapped (q + 65533) ≡ q - 3 = omega (arith, low, small) in
    let b : wrapped (q + 65534) ≡ q - 2 = omega (arith, low, small) in
    let c : wrapped (q + 65535) ≡ q - 1 = omega (arith, low, small) in
    rw (
      a,
      b,
      c,
      word_there (q - 3) x m (omega (arith, low, less)) first,
      word_there (q - 2) offset m (omega (arith, low, less)) second,
      word_there (q - 1) state m (omega (arith, low, less)) third,
      word_there q delta m less last,
    ) refl

-- ---- returns

-- EXIT over a marker that was read, whose segment is there, and below which stand the words that it deletes and the old Q's
pub procedure_left : (segments : List (List ℕ)) (n : ℕ) (k : Frame) (m : Machine) → m.split ≡ false → marker_at m.regs.q m ≡ Ok k
    → bits 8 15 k.status < length segments → n + 3 ≤ m.regs.q → old_q m.regs.q k.delta < m.regs.q - (n + 3)
    → exited segments n m ≡ Ok (record m {
      stack = take (m.regs.q - (n + 3)) m.stack;
      regs = record (with_status k.status m.regs) { x = k.x; q = old_q m.regs.q k.delta; p = k.offset };
    })
unfolding exited returned
procedure_left segments n k m whole is there enough below =
    let here : nat_le (length segments) (bits 8 15 k.status) ≡ false = grind (arith, nat_tests, there) in
    let some : nat_lt m.regs.q (n + 3) ≡ false = grind (arith, nat_tests, enough) in
    let under : nat_le (m.regs.q - (n + 3)) (old_q m.regs.q k.delta) ≡ false = grind (arith, nat_tests, below) in
    cond-false m.split _ _ whole ∙ found (marker_at m.regs.q m) k (λ k. returned segments n k m) is
    ∙ cond-false (nat_le (length segments) (bits 8 15 k.status)) _ _ here
    ∙ cond-false (nat_lt m.regs.q (n + 3) || nat_le (m.regs.q - (n + 3)) (old_q m.regs.q k.delta)) _ _ (neither _ _ some under)
  where
    neither : (a b : Bool) → a ≡ false → b ≡ false → a || b ≡ false
    neither a b p q = rw (p, q) refl

-- in split mode it traps
pub procedure_not_left : (segments : List (List ℕ)) (n : ℕ) (m : Machine) → m.split ≡ true → exited segments n m ≡ Err Mode
unfolding exited
procedure_not_left segments n m split = cond-true m.split _ _ split

-- SXIT
pub subroutine_returns : (n : ℕ) (m : Machine) → n + 1 ≤ length m.stack → subroutine_left n m ≡ Ok (at_place (word 0 m) (without (n + 1) m))
unfolding subroutine_left
subroutine_returns n m enough = taken (n + 1) m _ enough

-- Q as it was before a call
pub q_back : (above q : ℕ) → above + 3 < 65536 → q < 65536 → old_q (above + 3) (wrapped (above + 3 + 65536 - q)) ≡ q
q_back above q small low = omega (arith, small, low)

-- a machine with words deleted and other registers
abbrev gone_on : Machine → ℕ → Regs → ℕ → ℕ → ℕ → Outcome
gone_on m kept r x q p = Ok (record m { stack = take kept m.stack; regs = record r { x = x; q = q; p = p } })

-- EXIT over the marker that a call from machine c pushed, which still stands, and below which c's Q is: it deletes n words of those that stood
-- there, and goes on behind the call with c's registers
pub procedure_returns : (segments : List (List ℕ)) (n : ℕ) (c m : Machine) → m.split ≡ false → m.regs.q ≡ length c.stack + 3
    → length c.stack + 3 < length m.stack → length c.stack + 3 < 65536 → slice_index m.stack (length c.stack) ≡ c.regs.x
    → slice_index m.stack (length c.stack + 1) ≡ wrapped (c.regs.p + 1) → slice_index m.stack (length c.stack + 2) ≡ status c.regs
    → slice_index m.stack (length c.stack + 3) ≡ wrapped (length c.stack + 3 + 65536 - c.regs.q)
    → c.regs.seg < 256 → c.regs.seg < length segments → c.regs.q + n < length c.stack
    → exited segments n m ≡ Ok (record m {
      stack = take (length c.stack - n) m.stack;
      regs = record (with_status_of c.regs m.regs) { x = c.regs.x; q = c.regs.q; p = wrapped (c.regs.p + 1) };
    })
unfolding with_status
procedure_returns segments n c m whole q less small first second third last byte there below =
    let k : Frame = record { x = c.regs.x; offset = wrapped (c.regs.p + 1); status = status c.regs; delta = wrapped (length c.stack + 3 + 65536 - c.regs.q) } in
    let one : length c.stack + 3 - 3 ≡ length c.stack = omega arith in
    let two : length c.stack + 3 - 2 ≡ length c.stack + 1 = omega arith in
    let three : length c.stack + 3 - 1 ≡ length c.stack + 2 = omega arith in
    let read : marker_at (length c.stack + 3) m ≡ Ok k =
    marker_there (length c.stack + 3) c.regs.x (wrapped (c.regs.p + 1)) (status c.regs) (wrapped (length c.stack + 3 + 65536 - c.regs.q)) m
    (omega arith) small less (ap (λ (a : ℕ). slice_index m.stack a) one ∙ first) (ap (λ (a : ℕ). slice_index m.stack a) two ∙ second)
    (ap (λ (a : ℕ). slice_index m.stack a) three ∙ third) last in
    let back : with_status (status c.regs) m.regs ≡ with_status_of c.regs m.regs = status_back c.regs m.regs byte in
    let here : bits 8 15 (status c.regs) ≡ c.regs.seg = ap (λ (r : Regs). r.seg) back in
    let old : old_q (length c.stack + 3) (wrapped (length c.stack + 3 + 65536 - c.regs.q)) ≡ c.regs.q = q_back (length c.stack) c.regs.q small (omega (arith, below, small)) in
    let q_is : old_q m.regs.q (wrapped (length c.stack + 3 + 65536 - c.regs.q)) ≡ c.regs.q =
    ap (λ (a : ℕ). old_q a (wrapped (length c.stack + 3 + 65536 - c.regs.q))) q ∙ old in
    let kept : m.regs.q - (n + 3) ≡ length c.stack - n = omega (arith, q) in
    procedure_left segments n k m whole (ap (λ (a : ℕ). marker_at a m) q ∙ read) (subst (λ (a : ℕ). a < length segments) (sym here) there) (omega (arith, q, below))
    (subst (λ (a : ℕ). a < m.regs.q - (n + 3)) (sym q_is) (omega (arith, q, below)))
    ∙ ap (λ (a : ℕ). gone_on m a (with_status (status c.regs) m.regs) c.regs.x (old_q m.regs.q (wrapped (length c.stack + 3 + 65536 - c.regs.q))) (wrapped (c.regs.p + 1))) kept
    ∙ ap (λ (r : Regs). gone_on m (length c.stack - n) r c.regs.x (old_q m.regs.q (wrapped (length c.stack + 3 + 65536 - c.regs.q))) (wrapped (c.regs.p + 1))) back
    ∙ ap (λ (a : ℕ). gone_on m (length c.stack - n) (with_status_of c.regs m.regs) c.regs.x a (wrapped (c.regs.p + 1))) q_is

-- ---- rows of returns and moves

pub exit_row : (segments : List (List ℕ)) (n : ℕ) (m : Machine) → control_row segments 1 n m ≡ exited segments n m
unfolding control_row
exit_row segments n m = refl

pub subroutine_exit_row : (segments : List (List ℕ)) (n : ℕ) (m : Machine) → control_row segments 2 n m ≡ subroutine_left n m
unfolding control_row
subroutine_exit_row segments n m = refl

pub move_step_row : (segments : List (List ℕ)) (which n : ℕ) (m : Machine) → 9 ≤ which
    → control_row segments which n m ≡ move_row segments which n m
unfolding control_row
move_step_row segments which n m high =
    let zero : (which == 0) ≡ false = grind (arith, nat_tests, high) in
    let one : (which == 1) ≡ false = grind (arith, nat_tests, high) in
    let two : (which == 2) ≡ false = grind (arith, nat_tests, high) in
    let three : (which == 3) ≡ false = grind (arith, nat_tests, high) in
    let past : nat_le which 8 ≡ false = grind (arith, nat_tests, high) in
    rw (zero, one, two, three, past) refl
