-- Each row stays in its segment, or begins and ends in whole mode.
-- 1. the forms in which rows are told
-- 2. calls and returns: those of procedures, in whole mode alone       (called_near, exited_near); those of subroutines
-- 3. branches, and the row of each instruction                         (row_near)
use Rattle.std.proofs.Common.{◌≡◌, ℕ, Bool, true, false, List, [], ◌∷◌, ◌++◌, inl, inr, refl, ap}
use Rattle.std.specs.Prelude.{◌+◌, ◌==◌, nat_le, nat_lt, length, Result, Ok, Err, if◌then◌else◌}
use Rattle.spl_follow.specs.hp_word.declared.arithmetic.Arith.{Arith}
use Rattle.spl_follow.specs.hp_word.declared.endings.Trap.{Trap}
use Rattle.spl_follow.specs.hp_word.declared.endings.Trap.TheVariants.{StackOverflow, Mode}
use Rattle.spl_follow.specs.hp_instr.declared.instruction.Instr.{Instr}
use Rattle.spl_follow.specs.hp_instr.declared.instruction.Instr.TheVariants.{Pair, Shifted, Short, Immediate, Control, Memory, LoadCode, Branch, OnCode, Loop, Illegal}
use Rattle.spl_follow.specs.hp_instr.declared.instruction.Op.{Op}
use Rattle.spl_follow.specs.hp_instr.declared.labels.Label.{Label}
use Rattle.spl_follow.specs.hp_instr.declared.labels.Label.TheVariants.{Local, External, Bad}
use Rattle.spl_follow.specs.hp_instr.Bits.{bits}
use Rattle.spl_follow.specs.hp_program.Valid.{label_of}
use Rattle.spl_follow.specs.hp_program.Programs.{words_of}
use Rattle.spl_follow.specs.hp_session.declared.places.Place.{Place}
use Rattle.spl_follow.specs.hp_session.declared.places.Place.TheVariants.{Stack}
use Rattle.spl_follow.specs.hp_session.State.{Machine, Outcome, then_with, word, taking, wrapped, displaced, passing, passed}
use Rattle.spl_follow.specs.hp_session.Places.{read_at}
use Rattle.spl_follow.specs.hp_stack_rows.StackRows.{operated}
use Rattle.spl_follow.specs.hp_word_rows.WordRows.{branch_on_top, branch_on_x, branch_on_range, branch_on_parity, short_branch, count_row}
use Rattle.spl_follow.specs.hp_memory_rows.MemoryRows.{settled_at, code_read, branched, looped, loop_tested, loop_stepped}
use Rattle.spl_follow.specs.hp_memory_rows.MoveRows.{move_row}
use Rattle.spl_follow.specs.hp_call_rows.declared.call_rows.Frame.{Frame}
use Rattle.spl_follow.specs.hp_call_rows.GateRows.{served}
use Rattle.spl_follow.specs.hp_call_rows.CallRows.{label_at, marker, entered, called_through, called, subroutine_at, subroutine_called, marker_at, returned, exited, subroutine_left}
use Rattle.spl_follow.specs.hp_flat.Step.{at_left, pair_row, control_row, word_row, row}
use Rattle.hp_steady.specs.Rest.{Stays, StaysSeated, StaysOrPasses}
use Rattle.hp_steady.proofs.StayForms.{either as one_stays, after_row as row_stays, written-stays}
use Rattle.hp_steady.proofs.GateStays.{served-stays}
use Rattle.hp_steady.proofs.MemoryStays.{memory_row-stays, code_loaded-stays}
use Rattle.hp_steady.proofs.MoveStays.{move_row-stays}
use Rattle.hp_steady.proofs.StackStays.{operated-stays}
use Rattle.hp_steady.proofs.WordStays.{shifting-stays, immediate_row-stays, count_row-stays}
use Rattle.hp_near_calls.specs.Near.{IsNear, StaysNear}

-- ---- 1. forms

-- where either of two is answered
either : (m : Machine) (c : Bool) (a b : Outcome) → StaysNear m a → StaysNear m b → StaysNear m (if c then a else b)
either m true a b p q = p
either m false a b p q = q

-- a row that takes words
taking_near : (m : Machine) (n : ℕ) (o : Outcome) → StaysNear m o → StaysNear m (taking n m o)
taking_near m n o p = either m (nat_le n (length m.stack)) o (Err _) p tt

-- what follows from an answer that is no session
after_answer : {A : Type 0} (m : Machine) (r : Result A Trap) (go : A → Outcome) → ((a : A) → StaysNear m (go a)) → StaysNear m (then_with r go)
after_answer m (Ok a) go p = p a
after_answer m (Err t) go p = tt

-- a row that stays, and what goes on from it in the same segment
after_row : (m : Machine) (o : Outcome) (go : Machine → Outcome) → Stays m o → ((n : Machine) → n.regs.seg ≡ m.regs.seg → StaysNear m (go n))
    → StaysNear m (then_with o go)
after_row m (Ok n) go p q = q n (ap (λ r. r.seat.seg) p)
after_row m (Err t) go p q = tt

-- so a row that stays, and passes its word
passing_near : (m : Machine) (o : Outcome) → Stays m o → StaysNear m (passing o)
passing_near m o p = after_row m o (λ n. Ok (passed n)) p (λ n same. inl same)

seated_near : (m : Machine) (o : Outcome) → StaysSeated m o → StaysNear m (passing o)
seated_near m (Ok n) p = inl (ap (λ s. s.seg) p)
seated_near m (Err t) p = tt

-- a step of a move
moved_near : (m : Machine) (o : Outcome) → StaysOrPasses m o → StaysNear m o
moved_near m (Ok n) (inl p) = inl (ap (λ r. r.seat.seg) p)
moved_near m (Ok n) (inr p) = inl (ap (λ r. r.seat.seg) p)
moved_near m (Err t) p = tt

-- ---- 2. calls and returns

-- a marker is pushed in whole mode
entered_near : (m : Machine) (seg offset : ℕ) → m.split ≡ false → StaysNear m (entered seg offset m)
unfolding entered
entered_near m seg offset whole = by (nat_le (length m.stack + length (marker m)) m.stack_limit) where
  by : (c : Bool)
      → StaysNear m (then_with (if c then Ok (record m { stack = m.stack ++ marker m }) else Err StackOverflow) (λ n.
      Ok (record n { regs = record n.regs { q = length m.stack + 3; p = offset; seg = seg; right = false } })))
  by true = inr (whole, whole)
  by false = tt

through_near : (segments : List (List ℕ)) (m : Machine) (l : Label) → m.split ≡ false → StaysNear m (called_through segments l m)
unfolding called_through
through_near segments m (Local offset) whole = entered_near m m.regs.seg offset whole
through_near segments m (External seg entry) whole =
    either m (seg == 255) (passing (served entry m)) (entered seg (label_of (words_of segments seg) entry) m)
    (seated_near m (served entry m) (served-stays m entry)) (entered_near m seg (label_of (words_of segments seg) entry) whole)
through_near segments m (Bad w) whole = tt

called_near : (segments : List (List ℕ)) (m : Machine) (n : ℕ) → StaysNear m (called segments n m)
unfolding called
called_near segments m n = by m.split refl where
  by : (c : Bool) → m.split ≡ c → StaysNear m (if c then Err Mode else then_with (label_at segments n m) (λ l. called_through segments l m))
  by true e = tt
  by false e = after_answer m (label_at segments n m) (λ l. called_through segments l m) (λ l. through_near segments m l e)

-- so it is with a return over a marker
returned_near : (segments : List (List ℕ)) (m : Machine) (n : ℕ) (k : Frame) → m.split ≡ false → StaysNear m (returned segments n k m)
unfolding returned
returned_near segments m n k whole =
    either m (nat_le (length segments) (bits 8 15 k.status)) (Err _) _ tt (either m _ (Err _) (Ok _) tt (inr (whole, whole)))

exited_near : (segments : List (List ℕ)) (m : Machine) (n : ℕ) → StaysNear m (exited segments n m)
unfolding exited
exited_near segments m n = by m.split refl where
  by : (c : Bool) → m.split ≡ c → StaysNear m (if c then Err Mode else then_with (marker_at m.regs.q m) (λ k. returned segments n k m))
  by true e = tt
  by false e = after_answer m (marker_at m.regs.q m) (λ k. returned segments n k m) (λ k. returned_near segments m n k e)

-- a subroutine is in the same segment
subroutine_near : (m : Machine) (l : Label) → StaysNear m (subroutine_at l m)
subroutine_near m (Local offset) = by (nat_lt (length m.stack) m.stack_limit) where
  by : (c : Bool)
      → StaysNear m (then_with (if c then Ok (record m { stack = m.stack ++ wrapped (m.regs.p + 1) ∷ [] }) else Err StackOverflow) (λ n.
      Ok (record n { regs = record n.regs { p = offset; right = false } })))
  by true = inl refl
  by false = tt
subroutine_near m (External seg entry) = tt
subroutine_near m (Bad w) = tt

subroutine_called_near : (segments : List (List ℕ)) (m : Machine) (n : ℕ) → StaysNear m (subroutine_called segments n m)
unfolding subroutine_called
subroutine_called_near segments m n = after_answer m (label_at segments n m) (λ l. subroutine_at l m) (λ l. subroutine_near m l)

subroutine_left_near : (m : Machine) (n : ℕ) → StaysNear m (subroutine_left n m)
unfolding subroutine_left
subroutine_left_near m n = taking_near m (n + 1) _ (inl refl)

-- ---- 3. branches, and all rows

short_near : (m : Machine) (test : ℕ) (back : Bool) (d : ℕ) → StaysNear m (short_branch test back d m)
unfolding short_branch branch_on_top branch_on_x branch_on_range branch_on_parity
short_near m test back d =
    either m (test == 0o10) _ _ (taking_near m 1 _ (inl refl))
    (either m (test == 0o11) _ _ (taking_near m 1 _ (inl refl))
    (either m (test == 0o12) _ _ (inl refl)
    (either m (test == 0o13) _ _ (inl refl)
    (either m (test == 0o14) _ _ (taking_near m 2 _ (inl refl))
    (either m (test == 0o15) _ _ (taking_near m 1 _ (inl refl))
    (either m (test == 0o16) _ _ (taking_near m 1 _ (inl refl))
    (either m (test == 0o17) _ _ (inl refl)
    (either m (test == 0o20) _ _ (inl refl)
    (either m (test == 0o21) _ _ (inl refl)
    (either m (test == 0o22) _ _ (inl refl) tt))))))))))

branched_near : (segments : List (List ℕ)) (m : Machine) (i back : Bool) (d : ℕ) → StaysNear m (branched segments i back d m)
unfolding branched
branched_near segments m i back d =
    either m i _ _ (after_answer m (code_read segments (displaced back d m.regs.p) m) _ (λ w. inl refl)) (inl refl)

looped_near : (m n : Machine) (on back : Bool) (d : ℕ) → n.regs.seg ≡ m.regs.seg → IsNear m (looped on back d n)
unfolding looped
looped_near m n true back d h = inl h
looped_near m n false back d h = inl h

tested_near : (m : Machine) (back : Bool) (d : ℕ) → StaysNear m (loop_tested back d m)
unfolding loop_tested
tested_near m back d = taking_near m 3 _ (after_answer m (read_at (Stack (word 2 m)) m) _ (λ w. looped_near m m _ back d refl))

settled_stays : (m : Machine) (place : Place) (r : Arith) → Stays m (settled_at place r m)
unfolding settled_at
settled_stays m place r = one_stays m r.overflow _ _ tt (row_stays m _ _ (written-stays m place _) (λ n h. h))

stepped_near : (m : Machine) (back : Bool) (d : ℕ) → StaysNear m (loop_stepped back d m)
unfolding loop_stepped
stepped_near m back d =
    taking_near m 3 _ (after_answer m (read_at (Stack (word 2 m)) m) _ (λ w.
    after_row m _ _ (settled_stays m (Stack (word 2 m)) _) (λ n h. looped_near m n _ back d h)))

pair_near : (m : Machine) (left right : Op) → StaysNear m (pair_row left right m)
unfolding pair_row
pair_near m left right =
    either m m.regs.right _ _ (passing_near m (operated right.code m) (operated-stays m right.code))
    (either m (right.code == 0) _ _ (passing_near m (operated left.code m) (operated-stays m left.code))
    (after_row m (operated left.code m) _ (operated-stays m left.code) (λ n h. inl h)))

control_near : (segments : List (List ℕ)) (m : Machine) (which n : ℕ) → StaysNear m (control_row segments which n m)
unfolding control_row
control_near segments m which n =
    either m (which == 0) _ _ (called_near segments m n)
    (either m (which == 1) _ _ (exited_near segments m n)
    (either m (which == 2) _ _ (subroutine_left_near m n)
    (either m (which == 3) _ _ (subroutine_called_near segments m n)
    (either m (nat_le which 8) _ _ (passing_near m (count_row which n m) (count_row-stays m which n))
    (moved_near m (move_row segments which n m) (move_row-stays m segments which n))))))

word_near : (segments : List (List ℕ)) (m : Machine) (i : Instr) → StaysNear m (word_row segments i m)
unfolding word_row
word_near segments m (Pair left right) = tt
word_near segments m (Shifted kind places) = passing_near m _ (shifting-stays m kind places)
word_near segments m (Short test back d) = short_near m test back d
word_near segments m (Immediate which n) = passing_near m _ (immediate_row-stays m which n)
word_near segments m (Control which n) = control_near segments m which n
word_near segments m (Memory major second x i mode) = passing_near m _ (memory_row-stays m major second mode i x)
word_near segments m (LoadCode back d) = passing_near m _ (code_loaded-stays m segments back d)
word_near segments m (Branch i back d) = branched_near segments m i back d
word_near segments m (OnCode mask back d) = inl refl
word_near segments m (Loop modify back d) = either m modify _ _ (stepped_near m back d) (tested_near m back d)
word_near segments m (Illegal w) = tt

-- with R at 0 it is in the same segment and mode
left_near : (m : Machine) (o : Outcome) → StaysNear (at_left m) o → StaysNear m o
left_near m (Ok n) p = p
left_near m (Err t) p = tt

pub row_near : (segments : List (List ℕ)) (m : Machine) (i : Instr) → StaysNear m (row segments i m)
unfolding row
row_near segments m (Pair left right) = pair_near m left right
row_near segments m (Shifted kind places) = left_near m _ (word_near segments (at_left m) (Shifted kind places))
row_near segments m (Short test back d) = left_near m _ (word_near segments (at_left m) (Short test back d))
row_near segments m (Immediate which n) = left_near m _ (word_near segments (at_left m) (Immediate which n))
row_near segments m (Control which n) = left_near m _ (word_near segments (at_left m) (Control which n))
row_near segments m (Memory major second x i mode) = left_near m _ (word_near segments (at_left m) (Memory major second x i mode))
row_near segments m (LoadCode back d) = left_near m _ (word_near segments (at_left m) (LoadCode back d))
row_near segments m (Branch i back d) = left_near m _ (word_near segments (at_left m) (Branch i back d))
row_near segments m (OnCode mask back d) = left_near m _ (word_near segments (at_left m) (OnCode mask back d))
row_near segments m (Loop modify back d) = left_near m _ (word_near segments (at_left m) (Loop modify back d))
row_near segments m (Illegal w) = left_near m _ (word_near segments (at_left m) (Illegal w))
