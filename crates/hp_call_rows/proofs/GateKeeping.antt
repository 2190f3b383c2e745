-- Each intrinsic keeps what rows keep.
use Rattle.std.proofs.Common.{◌≡◌, ℕ, ◌+◌, ◌-◌, ◌≤◌, ℤ, Bool, true, false, List, length, map, refl, arith}
use Rattle.std.specs.Prelude.{◌==◌, not, slice_index, pos, negsuc, if◌then◌else◌, Option, None, Some, Ok, Err}
use Rattle.std.proofs.Math.Seq.{take-append_seam}
use Rattle.hp_word.specs.declared.endings.Ending.{Ending}
use Rattle.hp_word.specs.declared.endings.Ending.TheVariants.{Running, Terminated, Quit as EndedWith, Trapped}
use Rattle.hp_word.specs.declared.endings.Trap.TheVariants.{Bounds, OutputLimit}
use Rattle.hp_word.specs.declared.intrinsics.Intrinsic.{Intrinsic}
use Rattle.hp_word.specs.declared.intrinsics.Intrinsic.TheVariants.{Print, Read, Ascii, Dascii, Binary, Dbinary, Terminate, Quit}
use Rattle.hp_word.specs.declared.numbers.Number.{Number}
use Rattle.hp_word.specs.declared.numbers.Number.TheVariants.{Value, TooLarge, BadForm}
use Rattle.hp_word.specs.Words.{signed, signed_double}
use Rattle.hp_word.specs.Bytes.{double}
use Rattle.hp_word.specs.Texts.{number, decimal_text_of, octal_text_of}
use Rattle.hp_word.specs.Intrinsics.{Effect, called, outcome, taken_words, is_in_bounds, has_room, print_call, read_call, ascii_call, dascii_call, binary_call, dbinary_call, terminate_call, quit_call, text_stored, unknown_base, number_answered, number_read, addresses}
use Rattle.hp_session.specs.State.{Machine, then_with}
use Rattle.hp_session.specs.Keeping.{is_trapped}
use Rattle.hp_session.proofs.KeepingForms.{IsKept, Keeps}
use Rattle.hp_session.proofs.KeepingLaws.{taking-kept}
use Rattle.hp_call_rows.specs.GateRows.{intrinsic, effect, ending_or, after_call, performed, performed_if, served}

-- No intrinsic ends in a trap of its own

number_ends : (wide : Bool) (read : List ℕ) (n : Number) → is_trapped (number_answered wide read n).ending ≡ false
number_ends wide read (Value k) = refl
number_ends wide read TooLarge = refl
number_ends wide read BadForm = refl

read_ends : (byte : ℕ → ℕ) (wide : Bool) (array : ℕ) (size : ℤ) → is_trapped (number_read byte wide array size).ending ≡ false
read_ends byte wide array (pos size) = number_ends wide (addresses array size) (number (map byte (addresses array size)) wide)
read_ends byte wide array (negsuc n) = refl

-- one of three effects
chosen_ends : (c d : Bool) (a b e : Effect) → is_trapped a.ending ≡ false → is_trapped b.ending ≡ false → is_trapped e.ending ≡ false
    → is_trapped (if c then a else if d then b else e).ending ≡ false
chosen_ends true d a b e p q r = p
chosen_ends false true a b e p q r = q
chosen_ends false false a b e p q r = r

call_ends : (byte : ℕ → ℕ) (line : Option (List ℕ)) (i : Intrinsic) (words : List ℕ) → is_trapped (called byte line i words).ending ≡ false
unfolding called print_call read_call ascii_call dascii_call binary_call dbinary_call terminate_call quit_call
call_ends byte line Print words = refl
call_ends byte None Read words = refl
call_ends byte (Some l) Read words = refl
call_ends byte line Ascii words =
    chosen_ends (slice_index words 1 == 10) (slice_index words 1 == 8) (text_stored _ (decimal_text_of (signed (slice_index words 0)))) (text_stored _ (octal_text_of 6 (slice_index words 0))) unknown_base refl refl refl
call_ends byte line Dascii words =
    let d = double (slice_index words 0) (slice_index words 1) in
    chosen_ends (slice_index words 2 == 10) (slice_index words 2 == 8) (text_stored _ (decimal_text_of (signed_double d))) (text_stored _ (octal_text_of 11 d)) unknown_base refl refl refl
call_ends byte line Binary words = read_ends byte false _ _
call_ends byte line Dbinary words = read_ends byte true _ _
call_ends byte line Terminate words = refl
call_ends byte line Quit words = refl

-- What a call leaves

still_untrapped : (a b : Ending) → is_trapped a ≡ false → is_trapped b ≡ false → is_trapped (ending_or a b) ≡ false
still_untrapped Running b p q = q
still_untrapped Terminated b p q = refl
still_untrapped (EndedWith n) b p q = refl
still_untrapped (Trapped t) b p q = p

lines_later : (c : Bool) (n : ℕ) → n ≤ (if c then n + 1 else n)
lines_later true n = omega arith
lines_later false n = omega arith

after_call-kept : (count : ℕ) (m : Machine) (n : ℕ) (e : Effect) → is_trapped e.ending ≡ false → IsKept count m (after_call n e m)
unfolding after_call
after_call-kept count m n e quiet = record {
  within = λ h. h;
  same_limit = refl;
  same_room = refl;
  same_lines = refl;
  later = lines_later e.takes_line m.next_line;
  same_size = refl;
  front = take-append_seam m.printed e.prints;
  untrapped = λ h. still_untrapped e.ending m.ending quiet h;
}

performed-kept : (count : ℕ) (m : Machine) (i : Intrinsic) → Keeps count m (performed i m)
unfolding performed outcome
performed-kept count m i = taking-kept count m (taken_words i) _ (by (not (is_in_bounds (length m.stack) e)) (not (has_room (m.room - length m.printed) e))) where
  e : Effect
  e = effect i m

  by : (f g : Bool) → Keeps count m (then_with (if f then Err Bounds else if g then Err OutputLimit else Ok e) (λ e. Ok (after_call (taken_words i) e m)))
  by true g = tt
  by false true = tt
  by false false = after_call-kept count m (taken_words i) e (call_ends _ _ i _)

pub served-kept : (count : ℕ) (m : Machine) (entry : ℕ) → Keeps count m (served entry m)
unfolding served
served-kept count m entry = by (intrinsic entry) where
  by : (i : Option Intrinsic) → Keeps count m (performed_if i m)
  by None = tt
  by (Some i) = performed-kept count m i
