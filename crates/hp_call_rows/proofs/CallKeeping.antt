-- Each call and return keeps what rows keep; of a program whose labels lead somewhere, for a call goes where its label says.
use Rattle.std.proofs.Common.{◌≡◌, ℕ, ◌+◌, ◌-◌, ◌<◌, ◌≤◌, Bool, true, false, List, length, take, refl, arith}
use Rattle.std.proofs.Math.Seq.{take-length}
use Rattle.std.specs.Prelude.{◌==◌, ◌||◌, nat_lt, nat_le, if◌then◌else◌, slice_get, Option, None, Some, Ok, Err}
use Rattle.std.proofs.lemmas.Bool.Decides.{nat_tests}
use Rattle.std.proofs.lemmas.Option.{slice_get_within}
use Rattle.hp_word.specs.declared.endings.Trap.TheVariants.{BadEntry, StackUnderflow}
use Rattle.hp_instr.specs.declared.labels.Label.{Label}
use Rattle.hp_instr.specs.declared.labels.Label.TheVariants.{Local, External, Bad}
use Rattle.hp_instr.specs.Bits.{bits}
use Rattle.hp_instr.specs.Labels.{label}
use Rattle.hp_program.specs.Valid.{entries_of, label_of, leads, is_external, is_local_entry}
use Rattle.hp_program.specs.Programs.{words_of}
use Rattle.hp_session.specs.State.{Machine, then_with, passing, wrapped}
use Rattle.hp_session.proofs.KeepingForms.{Keeps}
use Rattle.hp_session.proofs.KeepingLaws.{same, either, taking-kept, after_answer, after_row, pushing-kept, pushing_all-kept, passing-kept}
use Rattle.hp_call_rows.specs.declared.call_rows.Frame.{Frame}
use Rattle.hp_call_rows.specs.GateRows.{served}
use Rattle.hp_call_rows.specs.CallRows.{current, label_at, marker, entered, called_through, called, subroutine_at, subroutine_called, marker_at, old_q, with_status, returned, exited, subroutine_left}
use Rattle.hp_call_rows.proofs.GateKeeping.{served-kept}

-- every label of every table leads somewhere
abbrev pub LabelsLead : List (List ℕ) → Type 0
LabelsLead segments = (s n : ℕ) → s < length segments → 1 ≤ n → n ≤ entries_of (words_of segments s)
    → leads segments (words_of segments s) (label (label_of (words_of segments s) n)) ≡ true

-- a call goes into a segment that is there, if the caller stands in one
entered-kept : (count : ℕ) (m : Machine) (seg offset : ℕ) → (m.regs.seg < count → seg < count) → Keeps count m (entered seg offset m)
unfolding entered
entered-kept count m seg offset there = after_row count m _ _ (pushing_all-kept count m (marker m)) (λ n h. record {
  within = there;
  same_limit = h.same_limit;
  same_room = h.same_room;
  same_lines = h.same_lines;
  later = h.later;
  same_size = h.same_size;
  front = h.front;
  untrapped = h.untrapped;
})

-- a label that leads to a local entry leads into a segment that is there
entry_there : (segments : List (List ℕ)) (seg entry : ℕ) → is_local_entry (slice_get segments seg) entry ≡ true → seg < length segments
unfolding is_local_entry
entry_there segments seg entry h = by (slice_get segments seg) refl h where
  by : (o : Option (List ℕ)) → slice_get segments seg ≡ o → is_local_entry o entry ≡ true → seg < length segments
  by None is k = cc
  by (Some words) is k = slice_get_within segments seg words is

external_there : (segments : List (List ℕ)) (seg entry : ℕ) → is_external segments seg entry ≡ true → (seg == 255) ≡ false → seg < length segments
unfolding is_external
external_there segments seg entry h other = entry_there segments seg entry (rw other at h)

through-kept : (segments : List (List ℕ)) (m : Machine) (l : Label) → (m.regs.seg < length segments → leads segments (current segments m) l ≡ true)
    → Keeps (length segments) m (called_through segments l m)
unfolding called_through leads
through-kept segments m (Local offset) led = entered-kept (length segments) m m.regs.seg offset (λ h. h)
through-kept segments m (External seg entry) led = by (seg == 255) refl where
  by : (gate : Bool) → (seg == 255) ≡ gate → Keeps (length segments) m (if gate then passing (served entry m) else entered seg (label_of (words_of segments seg) entry) m)
  by true is = passing-kept (length segments) m _ (served-kept (length segments) m entry)
  by false is = entered-kept (length segments) m seg _ (λ h. external_there segments seg entry (led h) is)
through-kept segments m (Bad w) led = tt

pub called-kept : (segments : List (List ℕ)) → LabelsLead segments → (m : Machine) (n : ℕ) → Keeps (length segments) m (called segments n m)
unfolding called label_at
called-kept segments lead m n = either (length segments) m m.split _ _ tt (by ((n == 0) || nat_lt (entries_of (current segments m)) n) refl) where
  l : Label
  l = label (label_of (current segments m) n)

  by : (c : Bool) → ((n == 0) || nat_lt (entries_of (current segments m)) n) ≡ c → Keeps (length segments) m (then_with (if c then Err BadEntry else Ok l) (λ l. called_through segments l m))
  by true is = tt
  by false is = through-kept segments m l (λ here. lead m.regs.seg n here (grind (arith, nat_tests)) (grind (arith, nat_tests)))

pub subroutine_called-kept : (count : ℕ) (m : Machine) (segments : List (List ℕ)) (n : ℕ) → Keeps count m (subroutine_called segments n m)
unfolding subroutine_called
subroutine_called-kept count m segments n = after_answer count m (label_at segments n m) _ (λ l. by l) where
  by : (l : Label) → Keeps count m (subroutine_at l m)
  by (Local offset) = after_row count m _ _ (pushing-kept count m (wrapped (m.regs.p + 1))) (λ n h. h)
  by (External seg entry) = tt
  by (Bad w) = tt

returned-kept : (segments : List (List ℕ)) (m : Machine) (n : ℕ) (k : Frame) → Keeps (length segments) m (returned segments n k m)
unfolding returned with_status
returned-kept segments m n k = by (nat_le (length segments) (bits 8 15 k.status)) _ refl where
  by : (c d : Bool) → nat_le (length segments) (bits 8 15 k.status) ≡ c → Keeps (length segments) m (if c then Err BadEntry else if d then Err StackUnderflow else Ok (record m {
    stack = take (m.regs.q - (n + 3)) m.stack;
    regs = record (with_status k.status m.regs) { x = k.x; q = old_q m.regs.q k.delta; p = k.offset };
  }))
  by true d is = tt
  by false true is = tt
  by false false is = record {
    within = λ h. grind (arith, nat_tests);
    same_limit = refl;
    same_room = refl;
    same_lines = refl;
    later = omega arith;
    same_size = refl;
    front = take-length m.printed;
    untrapped = λ h. h;
  }

pub exited-kept : (segments : List (List ℕ)) (m : Machine) (n : ℕ) → Keeps (length segments) m (exited segments n m)
unfolding exited
exited-kept segments m n = either (length segments) m m.split _ _ tt (after_answer (length segments) m (marker_at m.regs.q m) _ (λ k. returned-kept segments m n k))

pub subroutine_left-kept : (count : ℕ) (m : Machine) (n : ℕ) → Keeps count m (subroutine_left n m)
unfolding subroutine_left
subroutine_left-kept count m n = taking-kept count m (n + 1) _ (same count m)
