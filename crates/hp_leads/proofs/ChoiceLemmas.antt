-- Rows of branches, and branches as pieces of code, by their choice.
-- 1. a direct branch's row goes on by its choice                          (branch_row)
-- 2. so does what it does as a piece                                      (turned_by_choice)
-- 3. a choice leaves the session where it stands                          (choice_stays)
use Rattle.std.proofs.Common.{◌≡◌, ℕ, ◌+◌, Bool, true, false, List, length, Ok, Err, refl, ap}
use Rattle.std.specs.Prelude.{◌%◌, ◌==◌, not, nat_le, if◌then◌else◌, Result, MatchResult, ⊤}
use Rattle.spl_follow.specs.hp_word.Words.{added}
use Rattle.spl_follow.specs.hp_word.declared.endings.Trap.{Trap}
use Rattle.spl_follow.specs.hp_word.declared.endings.Trap.TheVariants.{StackUnderflow, Illegal, IntegerOverflow}
use Rattle.spl_follow.specs.hp_word.declared.arithmetic.Arith.{Arith}
use Rattle.spl_follow.specs.hp_instr.declared.instruction.Instr.{Instr}
use Rattle.spl_follow.specs.hp_instr.declared.instruction.Instr.TheVariants as i
use Rattle.spl_follow.specs.hp_session.declared.places.Place.{Place}
use Rattle.spl_follow.specs.hp_session.declared.places.Place.TheVariants.{Stack}
use Rattle.spl_follow.specs.hp_session.State.{Machine, Outcome, then_with, word, taking, without, instead, with_x, wrapped, branching}
use Rattle.spl_follow.specs.hp_session.Places.{read_at, written}
use Rattle.spl_follow.specs.hp_word_rows.WordRows.{branch_on_top, branch_on_x, branch_on_range, branch_on_parity, short_branch}
use Rattle.spl_follow.specs.hp_memory_rows.MemoryRows.{settled_at, goes_on, branched, looped, loop_tested, loop_stepped}
use Rattle.spl_follow.specs.hp_flat.Step.{at_left, word_row, row}
use Rattle.hp_steady.specs.Rest.{rest, Stays}
use Rattle.hp_steady.proofs.StayForms.{written-stays}
use Rattle.spl_follow.specs.spl_branch.Pieces.{is_direct}
use Rattle.spl_follow.specs.Spots.{Spot, landed}
use Rattle.spl_follow.specs.Doing.{short_turning, loop_turning, tested_turning, stepped_turning, turned}
use Rattle.hp_leads.specs.Choices.{Choice, chosen, having, range_choice, short_choice, loop_choice, tested_choice, stepped_choice, choice, goes_back, distance}

-- how a choice goes on
abbrev going_on : (Bool → Machine → Machine) → Choice → Outcome
going_on go c = Ok (go c.taken c.machine)

-- either of two
pick : (c : Bool) (f : Choice → Outcome) (a b : Outcome) (x y : Result Choice Trap) → a ≡ then_with x f → b ≡ then_with y f
    → (if c then a else b) ≡ then_with (if c then x else y) f
pick true f a b x y p q = p
pick false f a b x y p q = q

-- what takes words
took : (n : ℕ) (m : Machine) (f : Choice → Outcome) (a : Outcome) (c : Choice) → a ≡ f c → taking n m a ≡ then_with (having n m c) f
took n m f a c p = pick (nat_le n (length m.stack)) f a (Err StackUnderflow) (Ok c) (Err StackUnderflow) p refl

-- what follows from an answer
read_first : {A : Type 0} (r : Result A Trap) (f : Choice → Outcome) (go : A → Outcome) (c : A → Result Choice Trap)
    → ((a : A) → go a ≡ then_with (c a) f)
    → then_with r go ≡ then_with (then_with r c) f
read_first (Ok a) f go c p = p a
read_first (Err t) f go c p = refl

-- ---- rows

module _ (back : Bool) (d : ℕ) where
  abbrev way : Choice → Outcome
  way c = Ok (branching c.taken back d c.machine)

  short_row : (test : ℕ) (m : Machine) → short_branch test back d m ≡ then_with (short_choice test m) way
  unfolding short_branch branch_on_top branch_on_x branch_on_range branch_on_parity
  short_row test m =
      pick (test == 0o10) way _ _ _ _ (took 1 m way _ (chosen (wrapped (word 0 m + 1) == 0) (instead 1 (wrapped (word 0 m + 1)) m)) refl) (
      pick (test == 0o11) way _ _ _ _ (took 1 m way _ (chosen (wrapped (word 0 m + 65535) == 0) (instead 1 (wrapped (word 0 m + 65535)) m)) refl) (
      pick (test == 0o12) way _ _ (Ok (chosen (wrapped (m.regs.x + 1) == 0) (with_x (wrapped (m.regs.x + 1)) m))) _ refl (
      pick (test == 0o13) way _ _ (Ok (chosen (wrapped (m.regs.x + 65535) == 0) (with_x (wrapped (m.regs.x + 65535)) m))) _ refl (
      pick (test == 0o14) way _ _ _ _ (took 2 m way _ (range_choice m) refl) (
      pick (test == 0o15) way _ _ _ _ (took 1 m way _ (chosen (word 0 m % 2 == 1) (without 1 m)) refl) (
      pick (test == 0o16) way _ _ _ _ (took 1 m way _ (chosen (word 0 m % 2 == 0) (without 1 m)) refl) (
      pick (test == 0o17) way _ _ (Ok (chosen m.regs.carry m)) _ refl (
      pick (test == 0o20) way _ _ (Ok (chosen (not m.regs.carry) m)) _ refl (
      pick (test == 0o21) way _ _ (Ok (chosen m.regs.overflow m)) _ refl (
      pick (test == 0o22) way _ _ (Ok (chosen (not m.regs.overflow) m)) (Err Illegal) refl refl))))))))))

  looped_row : (on : Bool) (m : Machine) → looped on back d m ≡ branching on back d (if on then m else without 3 m)
  unfolding looped
  looped_row true m = refl
  looped_row false m = refl

  ok_looped : (on : Bool) (m : Machine) → (let left : Outcome = Ok (looped on back d m) in left) ≡ way (loop_choice on m)
  ok_looped on m = ap (λ (n : Machine). let left : Outcome = Ok n in left) (looped_row on m)

  tested_row : (m : Machine) → loop_tested back d m ≡ then_with (tested_choice m) way
  unfolding loop_tested
  tested_row m =
      pick (nat_le 3 (length m.stack)) way _ _ _ (Err StackUnderflow)
      (read_first (read_at (Stack (word 2 m)) m) way _ _ (λ w. ok_looped (goes_on w (word 1 m) (word 0 m)) m)) refl

  stepped_row : (m : Machine) → loop_stepped back d m ≡ then_with (stepped_choice m) way
  unfolding loop_stepped
  stepped_row m =
      pick (nat_le 3 (length m.stack)) way _ _ _ (Err StackUnderflow)
      (read_first (read_at (Stack (word 2 m)) m) way _ _ (λ w.
      read_first (settled_at (Stack (word 2 m)) (added w (word 1 m)) m) way _ _ (λ n.
      ok_looped (goes_on (added w (word 1 m)).value (word 1 m) (word 0 m)) n))) refl

-- the row of a direct branch
pub branch_row : (segments : List (List ℕ)) (by : Instr) (m : Machine) → is_direct by ≡ true
    → row segments by m ≡ then_with (choice by (at_left m)) (λ c. Ok (branching c.taken (goes_back by) (distance by) c.machine))
unfolding row word_row branched
branch_row segments (i.Pair a b) m direct = cc
branch_row segments (i.Shifted kind count) m direct = cc
branch_row segments (i.Short test back d) m direct = short_row back d test (at_left m)
branch_row segments (i.Immediate which n) m direct = cc
branch_row segments (i.Control which n) m direct = cc
branch_row segments (i.Memory major second x indirect mode) m direct = cc
branch_row segments (i.LoadCode back d) m direct = cc
branch_row segments (i.Branch true back d) m direct = cc
branch_row segments (i.Branch false back d) m direct = refl
branch_row segments (i.OnCode mask back d) m direct = refl
branch_row segments (i.Loop true back d) m direct = stepped_row back d (at_left m)
branch_row segments (i.Loop false back d) m direct = tested_row back d (at_left m)
branch_row segments (i.Illegal w) m direct = cc

-- ---- pieces

module _ (to r : Spot) where
  abbrev turn : Choice → Outcome
  turn c = Ok (landed (if c.taken then to else r) c.machine)

  short_turns : (test : ℕ) (m : Machine) → short_turning test to r m ≡ then_with (short_choice test m) turn
  short_turns test m =
      pick (test == 0o10) turn _ _ _ _ (took 1 m turn _ (chosen (wrapped (word 0 m + 1) == 0) (instead 1 (wrapped (word 0 m + 1)) m)) refl) (
      pick (test == 0o11) turn _ _ _ _ (took 1 m turn _ (chosen (wrapped (word 0 m + 65535) == 0) (instead 1 (wrapped (word 0 m + 65535)) m)) refl) (
      pick (test == 0o12) turn _ _ (Ok (chosen (wrapped (m.regs.x + 1) == 0) (with_x (wrapped (m.regs.x + 1)) m))) _ refl (
      pick (test == 0o13) turn _ _ (Ok (chosen (wrapped (m.regs.x + 65535) == 0) (with_x (wrapped (m.regs.x + 65535)) m))) _ refl (
      pick (test == 0o14) turn _ _ _ _ (took 2 m turn _ (range_choice m) refl) (
      pick (test == 0o15) turn _ _ _ _ (took 1 m turn _ (chosen (word 0 m % 2 == 1) (without 1 m)) refl) (
      pick (test == 0o16) turn _ _ _ _ (took 1 m turn _ (chosen (word 0 m % 2 == 0) (without 1 m)) refl) (
      pick (test == 0o17) turn _ _ (Ok (chosen m.regs.carry m)) _ refl (
      pick (test == 0o20) turn _ _ (Ok (chosen (not m.regs.carry) m)) _ refl (
      pick (test == 0o21) turn _ _ (Ok (chosen m.regs.overflow m)) _ refl (
      pick (test == 0o22) turn _ _ (Ok (chosen (not m.regs.overflow) m)) (Err Illegal) refl refl))))))))))

  loop_turns : (on : Bool) (m : Machine) → (let left : Outcome = Ok (loop_turning on to r m) in left) ≡ turn (loop_choice on m)
  loop_turns true m = refl
  loop_turns false m = refl

  tested_turns : (m : Machine) → tested_turning to r m ≡ then_with (tested_choice m) turn
  tested_turns m =
      pick (nat_le 3 (length m.stack)) turn _ _ _ (Err StackUnderflow)
      (read_first (read_at (Stack (word 2 m)) m) turn _ _ (λ w. loop_turns (goes_on w (word 1 m) (word 0 m)) m)) refl

  stepped_turns : (m : Machine) → stepped_turning to r m ≡ then_with (stepped_choice m) turn
  stepped_turns m =
      pick (nat_le 3 (length m.stack)) turn _ _ _ (Err StackUnderflow)
      (read_first (read_at (Stack (word 2 m)) m) turn _ _ (λ w.
      read_first (settled_at (Stack (word 2 m)) (added w (word 1 m)) m) turn _ _ (λ n.
      loop_turns (goes_on (added w (word 1 m)).value (word 1 m) (word 0 m)) n))) refl

  -- what a direct branch does as a piece
  pub turned_by_choice : (by : Instr) (m : Machine) → is_direct by ≡ true
      → turned by to r m ≡ then_with (choice by m) (λ c. Ok (landed (if c.taken then to else r) c.machine))
  turned_by_choice (i.Pair a b) m direct = cc
  turned_by_choice (i.Shifted kind count) m direct = cc
  turned_by_choice (i.Short test back d) m direct = short_turns test m
  turned_by_choice (i.Immediate which n) m direct = cc
  turned_by_choice (i.Control which n) m direct = cc
  turned_by_choice (i.Memory major second x indirect mode) m direct = cc
  turned_by_choice (i.LoadCode back d) m direct = cc
  turned_by_choice (i.Branch indirect back d) m direct = refl
  turned_by_choice (i.OnCode mask back d) m direct = refl
  turned_by_choice (i.Loop true back d) m direct = stepped_turns m
  turned_by_choice (i.Loop false back d) m direct = tested_turns m
  turned_by_choice (i.Illegal w) m direct = cc

-- ---- what stays

-- the machine of a choice has the same rest
abbrev pub ChoiceStays : Machine → Result Choice Trap → Type 0
ChoiceStays m r = MatchResult r (λ c. rest c.machine ≡ rest m) (λ _. ⊤)

either_stays : (m : Machine) (c : Bool) (a b : Result Choice Trap) → ChoiceStays m a → ChoiceStays m b → ChoiceStays m (if c then a else b)
either_stays m true a b p q = p
either_stays m false a b p q = q

having_stays : (m : Machine) (n : ℕ) (c : Choice) → rest c.machine ≡ rest m → ChoiceStays m (having n m c)
having_stays m n c p = either_stays m (nat_le n (length m.stack)) (Ok c) (Err StackUnderflow) p tt

read_stays : {A : Type 0} (m : Machine) (r : Result A Trap) (c : A → Result Choice Trap) → ((a : A) → ChoiceStays m (c a))
    → ChoiceStays m (then_with r c)
read_stays m (Ok a) c p = p a
read_stays m (Err t) c p = tt

store_stays : (m : Machine) (o : Outcome) (c : Machine → Result Choice Trap) → Stays m o
    → ((n : Machine) → rest n ≡ rest m → ChoiceStays m (c n)) → ChoiceStays m (then_with o c)
store_stays m (Ok n) c p q = q n p
store_stays m (Err t) c p q = tt

-- the overflow bit is cleared
cleared_stays : (m : Machine) (o : Outcome) → Stays m o
    → Stays m (then_with o (λ n. Ok (record n { regs = record n.regs { overflow = false } })))
cleared_stays m (Ok n) p = p
cleared_stays m (Err t) p = tt

settled_at_stays : (m : Machine) (place : Place) (r : Arith) → Stays m (settled_at place r m)
unfolding settled_at
settled_at_stays m place r = by r.overflow (cleared_stays m (written place r.value m) (written-stays m place r.value)) where
  by : (c : Bool) → Stays m (then_with (written place r.value m) (λ n. Ok (record n { regs = record n.regs { overflow = false } })))
      → Stays m (if c then Err IntegerOverflow else then_with (written place r.value m) (λ n. Ok (record n { regs = record n.regs { overflow = false } })))
  by true p = tt
  by false p = p

looped_stays : (m n : Machine) (on : Bool) → rest n ≡ rest m → rest (if on then n else without 3 n) ≡ rest m
looped_stays m n true h = h
looped_stays m n false h = h

short_stays : (test : ℕ) (m : Machine) → ChoiceStays m (short_choice test m)
short_stays test m =
    either_stays m (test == 0o10) _ _ (having_stays m 1 _ refl) (
    either_stays m (test == 0o11) _ _ (having_stays m 1 _ refl) (
    either_stays m (test == 0o12) _ _ refl (
    either_stays m (test == 0o13) _ _ refl (
    either_stays m (test == 0o14) _ _ (having_stays m 2 _ refl) (
    either_stays m (test == 0o15) _ _ (having_stays m 1 _ refl) (
    either_stays m (test == 0o16) _ _ (having_stays m 1 _ refl) (
    either_stays m (test == 0o17) _ _ refl (
    either_stays m (test == 0o20) _ _ refl (
    either_stays m (test == 0o21) _ _ refl (
    either_stays m (test == 0o22) _ (Err Illegal) refl tt))))))))))

tested_stays : (m : Machine) → ChoiceStays m (tested_choice m)
tested_stays m =
    either_stays m (nat_le 3 (length m.stack)) _ (Err StackUnderflow)
    (read_stays m (read_at (Stack (word 2 m)) m) _ (λ w. looped_stays m m (goes_on w (word 1 m) (word 0 m)) refl)) tt

stepped_stays : (m : Machine) → ChoiceStays m (stepped_choice m)
stepped_stays m =
    either_stays m (nat_le 3 (length m.stack)) _ (Err StackUnderflow)
    (read_stays m (read_at (Stack (word 2 m)) m) _ (λ w.
    store_stays m (settled_at (Stack (word 2 m)) (added w (word 1 m)) m) _ (settled_at_stays m (Stack (word 2 m)) (added w (word 1 m))) (λ n h.
    looped_stays m n (goes_on (added w (word 1 m)).value (word 1 m) (word 0 m)) h))) tt

pub choice_stays : (by : Instr) (m : Machine) → ChoiceStays m (choice by m)
choice_stays (i.Pair a b) m = tt
choice_stays (i.Shifted kind count) m = tt
choice_stays (i.Short test back d) m = short_stays test m
choice_stays (i.Immediate which n) m = tt
choice_stays (i.Control which n) m = tt
choice_stays (i.Memory major second x indirect mode) m = tt
choice_stays (i.LoadCode back d) m = tt
choice_stays (i.Branch indirect back d) m = refl
choice_stays (i.OnCode mask back d) m = refl
choice_stays (i.Loop true back d) m = stepped_stays m
choice_stays (i.Loop false back d) m = tested_stays m
choice_stays (i.Illegal w) m = tt
