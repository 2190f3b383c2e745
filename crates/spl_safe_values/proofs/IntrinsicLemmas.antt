-- What intrinsics do: they are safe, their answers have their words, and where one is done the condition code is known.
use Rattle.std.proofs.Common.{◌≡◌, ℕ, zero, suc, ◌-◌, ◌==◌, Bool, true, false, List, [], length, map, ℤ, pos, negsuc, Option, Some, None, refl, ◌∙◌}
use Rattle.std.specs.Prelude.{is_some, if◌then◌else◌, not, nat_le, slice_get, slice_index}
use Rattle.spl_covered.specs.hp_word.Words.{signed, signed_double}
use Rattle.spl_covered.specs.hp_word.Bytes.{double}
use Rattle.spl_covered.specs.hp_word.Texts.{decimal_text_of, octal_text_of, number}
use Rattle.spl_covered.specs.hp_word.Intrinsics as gate
use Rattle.spl_covered.specs.hp_word.Intrinsics.{Effect, answer_words}
use Rattle.spl_covered.specs.hp_word.declared.endings.Ending.{Ending}
use Rattle.spl_covered.specs.hp_word.declared.endings.Ending.TheVariants as ending
use Rattle.spl_covered.specs.hp_word.declared.endings.Trap.TheVariants.{Bounds, OutputLimit}
use Rattle.spl_covered.specs.hp_word.declared.intrinsics.Intrinsic.{Intrinsic}
use Rattle.spl_covered.specs.hp_word.declared.intrinsics.Intrinsic.TheVariants as which
use Rattle.spl_covered.specs.hp_word.declared.numbers.Number.{Number}
use Rattle.spl_covered.specs.hp_word.declared.numbers.Number.TheVariants.{Value, TooLarge, BadForm}
use Rattle.spl_covered.specs.spl_meaning.Serving.{byte_of, touched, all_below, all_data, carried_out, answered, effected, served}
use Rattle.spl_covered.specs.spl_meaning.States.{State, trapped, ends, strays, step_of, stepping, printed_size}
use Rattle.spl_safe_values.specs.Safe.{Coded}
use Rattle.spl_safe_values.proofs.Came.{Came, Comes, came_step}

-- ---- what each does

-- the words of its answer; and the condition code is known, where the session goes on
record IsServed (i : Intrinsic) (e : Effect) : Type 0 where
  wide : length e.answer ≡ answer_words i
  known : e.ending ≡ ending.Running → is_some e.code ≡ true

number_wide : (wide : Bool) (m : ℕ) → length (gate.number_words wide m) ≡ (if wide then 2 else 1)
number_wide true m = refl
number_wide false m = refl

answered_served : (i : Intrinsic) (wide : Bool) (read : List ℕ) (x : Number) → (if wide then 2 else 1) ≡ answer_words i
    → IsServed i (gate.number_answered wide read x)
answered_served i wide read (Value m) e = record { wide = number_wide wide m ∙ e; known = λ _. refl }
answered_served i wide read TooLarge e = record { wide = number_wide wide 0 ∙ e; known = λ _. refl }
answered_served i wide read BadForm e = record { wide = number_wide wide 0 ∙ e; known = λ _. refl }

number_served : (byte : ℕ → ℕ) (i : Intrinsic) (wide : Bool) (array : ℕ) (z : ℤ) → (if wide then 2 else 1) ≡ answer_words i
    → IsServed i (gate.number_read byte wide array z)
number_served byte i wide array (pos size) e = answered_served i wide (gate.addresses array size) (number (map byte (gate.addresses array size)) wide) e
number_served byte i wide array (negsuc m) e = answered_served i wide [] BadForm e

served_if : (t : Bool) (i : Intrinsic) (e f : Effect) → IsServed i e → IsServed i f → IsServed i (if t then e else f)
served_if true i e f x y = x
served_if false i e f x y = y

read_served : (line : Option (List ℕ)) (array size : ℕ) → IsServed which.Read (gate.read_call line array size)
unfolding gate.read_call
read_served None array size = record { wide = refl; known = λ _. refl }
read_served (Some l) array size = record { wide = refl; known = λ _. refl }

text_served : (i : Intrinsic) (array : ℕ) (text : List ℕ) → 1 ≡ answer_words i → IsServed i (gate.text_stored array text)
text_served i array text e = record { wide = e; known = λ _. refl }

unknown_served : (i : Intrinsic) → 1 ≡ answer_words i → IsServed i gate.unknown_base
unknown_served i e = record { wide = e; known = λ _. refl }

called_served : (byte : ℕ → ℕ) (line : Option (List ℕ)) (i : Intrinsic) (ws : List ℕ) → IsServed i (gate.called byte line i ws)
unfolding gate.called gate.print_call gate.ascii_call gate.dascii_call gate.binary_call gate.dbinary_call gate.terminate_call gate.quit_call
called_served byte line which.Print ws = record { wide = refl; known = λ _. refl }
called_served byte line which.Read ws = read_served line (slice_index ws 0) (slice_index ws 1)
called_served byte line which.Ascii ws =
    let base = slice_index ws 1 in
    let array = slice_index ws 2 in
    let w = slice_index ws 0 in
    served_if (base == 10) which.Ascii (gate.text_stored array (decimal_text_of (signed w)))
    (if base == 8 then gate.text_stored array (octal_text_of 6 w) else gate.unknown_base) (text_served which.Ascii array (decimal_text_of (signed w)) refl)
    (served_if (base == 8) which.Ascii (gate.text_stored array (octal_text_of 6 w)) gate.unknown_base (text_served which.Ascii array (octal_text_of 6 w) refl)
    (unknown_served which.Ascii refl))
called_served byte line which.Dascii ws =
    let base = slice_index ws 2 in
    let array = slice_index ws 3 in
    let d = double (slice_index ws 0) (slice_index ws 1) in
    served_if (base == 10) which.Dascii (gate.text_stored array (decimal_text_of (signed_double d)))
    (if base == 8 then gate.text_stored array (octal_text_of 11 d) else gate.unknown_base)
    (text_served which.Dascii array (decimal_text_of (signed_double d)) refl)
    (served_if (base == 8) which.Dascii (gate.text_stored array (octal_text_of 11 d)) gate.unknown_base
    (text_served which.Dascii array (octal_text_of 11 d) refl) (unknown_served which.Dascii refl))
called_served byte line which.Binary ws = number_served byte which.Binary false (slice_index ws 0) (signed (slice_index ws 1)) refl
called_served byte line which.Dbinary ws = number_served byte which.Dbinary true (slice_index ws 0) (signed (slice_index ws 1)) refl
called_served byte line which.Terminate ws = record { wide = refl; known = λ h. cc }
called_served byte line which.Quit ws = record { wide = refl; known = λ h. cc }

-- ---- what comes of it

answered_comes : (i : Intrinsic) (x : Ending) (answer : List ℕ) → length answer ≡ answer_words i → Comes (λ vs. length vs ≡ answer_words i) (answered x answer)
answered_comes i ending.Running answer wide = record { is = λ s e. (e, wide) }
answered_comes i ending.Terminated answer wide = record { is = λ s e. e }
answered_comes i (ending.Quit n) answer wide = record { is = λ s e. e }
answered_comes i (ending.Trapped t) answer wide = record { is = λ s e. e }

effected_came : (i : Intrinsic) (x : Effect) (s : State) → IsServed i x → s.lost ≡ false → Came (λ vs. length vs ≡ answer_words i) (effected x s)
effected_came i x s h e =
    by (not (all_below s.now.stack (touched x))) (not (all_data s.now.mem (touched x)))
    (not (nat_le (length x.prints) (s.now.room - printed_size s.now.printed)))
  where
    by : (t u v : Bool)
        → Came (λ vs. length vs ≡ answer_words i)
        (if t then ends (trapped Bounds) s else if u then strays s else if v then ends (trapped OutputLimit) s
        else stepping (carried_out x s) (λ s1. answered x.ending x.answer s1))
    by true u v = e
    by false true v = e
    by false false true = e
    by false false false = came_step _ s.left (carried_out x s) (answered x.ending x.answer) e (answered_comes i x.ending x.answer h.wide)

pub served_comes : (i : Intrinsic) (ws : List ℕ) → Comes (λ vs. length vs ≡ answer_words i) (served i ws)
served_comes i ws = record {
  is = λ s e.
      let byte = byte_of s.now.mem in
      let line = slice_get s.now.lines s.now.taken in
      effected_came i (gate.called byte line i ws) s (called_served byte line i ws) e;
}

-- ---- condition codes

answered_coded : (x : Ending) (answer : List ℕ) (s : State) → (x ≡ ending.Running → is_some s.code ≡ true) → Coded (answered x answer s)
answered_coded ending.Running answer s h = h refl
answered_coded ending.Terminated answer s h = tt
answered_coded (ending.Quit n) answer s h = tt
answered_coded (ending.Trapped t) answer s h = tt

carried_coded : (i : Intrinsic) (x : Effect) (s : State) (n : ℕ) → IsServed i x → Coded (step_of n (carried_out x s) (λ s1. answered x.ending x.answer s1))
carried_coded i x s zero h = tt
carried_coded i x s (suc n) h = answered_coded x.ending x.answer (record (carried_out x s) { left = n }) h.known

effected_coded : (i : Intrinsic) (x : Effect) (s : State) → IsServed i x → Coded (effected x s)
effected_coded i x s h =
    by (not (all_below s.now.stack (touched x))) (not (all_data s.now.mem (touched x)))
    (not (nat_le (length x.prints) (s.now.room - printed_size s.now.printed)))
  where
    by : (t u v : Bool)
        → Coded
        (if t then ends (trapped Bounds) s else if u then strays s else if v then ends (trapped OutputLimit) s
        else stepping (carried_out x s) (λ s1. answered x.ending x.answer s1))
    by true u v = tt
    by false true v = tt
    by false false true = tt
    by false false false = carried_coded i x s s.left h

pub served_coded : (i : Intrinsic) (ws : List ℕ) (s : State) → Coded (served i ws s)
served_coded i ws s =
    let byte = byte_of s.now.mem in
    let line = slice_get s.now.lines s.now.taken in
    effected_coded i (gate.called byte line i ws) s (called_served byte line i ws)
