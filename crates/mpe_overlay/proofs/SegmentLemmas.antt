-- The segment that a key names: which program and number it has, and how many words.
use Rattle.std.proofs.Common.{◌≡◌, ℕ, zero, suc, ◌+◌, ◌*◌, ◌/◌, ◌%◌, ◌<◌, ◌≤◌, Bool, true, false, List, [], ◌∷◌, length, get_or, Option, None, Some, refl, sym, ap, subst, ◌∙◌, arith}
use Rattle.std.specs.Prelude.{slice_get, option_map, option_and_then, unwrap_or, not, IsSome, if◌then◌else◌}
use Rattle.std.proofs.lemmas.Bool.Decides.{nat_tests}
use Rattle.std.proofs.lemmas.List.{length-map}
use Rattle.std.proofs.lemmas.Option.{slice_get-map, slice_get_read, slice_get_within, slice_get_past, option_and_then_some}
use Rattle.hp_program.specs.declared.program.Program.{Program}
use Rattle.hp_program.specs.declared.program.Defect.{Defect}
use Rattle.hp_program.specs.declared.program.Defect.TheVariants.{Head, Segment}
use Rattle.hp_program.specs.Programs.{segments_of, words_of}
use Rattle.hp_program.specs.Valid.{is_well_sized, is_head, bad_segment, first_defect, or_else}
use Rattle.mpe_overlay.specs.Codes.{codes_of, key_of, segment_at}

-- Keys.

key_program : (program seg : ℕ) → seg < 256 → key_of program seg / 256 ≡ program
key_program program seg lt = omega arith

key_segment : (program seg : ℕ) → seg < 256 → key_of program seg % 256 ≡ seg
key_segment program seg lt = omega arith

-- the key of a segment names it
pub segment_at-key : (codes : List (List (List ℕ))) (program seg : ℕ) → seg < 256
    → segment_at codes (key_of program seg) ≡ option_and_then (λ segments. slice_get segments seg) (slice_get codes program)
unfolding segment_at
segment_at-key codes program seg lt = rw (key_program program seg lt, key_segment program seg lt) refl

-- in a program that is there
pub segment_at-program : (codes : List (List (List ℕ))) (program seg : ℕ) (segments : List (List ℕ)) → seg < 256
    → slice_get codes program ≡ Some segments
    → segment_at codes (key_of program seg) ≡ slice_get segments seg
segment_at-program codes program seg segments lt is =
    segment_at-key codes program seg lt ∙ ap (option_and_then (λ ss. slice_get ss seg)) is

-- a key that names a segment is below 256 for each program
pub key_below : (codes : List (List (List ℕ))) (key : ℕ) (words : List ℕ) → segment_at codes key ≡ Some words
    → key < length codes * 256
unfolding segment_at
key_below codes key words is =
    option_and_then_some (λ segments. slice_get segments (key % 256)) (slice_get codes (key / 256)) words is
    (λ segments at found. let lt = slice_get_within codes (key / 256) segments at in omega arith)

-- A program of a list.

pub program_at : (programs : List Program) (p : ℕ) (program : Program) → p < length programs
    → program ≡ get_or programs p program
    → slice_get (codes_of programs) p ≡ Some (segments_of program)
program_at programs p program lt is = slice_get-map segments_of programs p
    ∙ ap (option_map segments_of) (slice_get_read programs (length programs) p program refl lt is)

-- where a segment is there its program is
pub program_there : (programs : List Program) (p seg : ℕ) → seg < 256
    → IsSome (segment_at (codes_of programs) (key_of p seg)) → p < length programs
program_there programs p seg lt some = by (segment_at (codes_of programs) (key_of p seg)) refl some where
  by : (o : Option (List ℕ)) → segment_at (codes_of programs) (key_of p seg) ≡ o → IsSome o → p < length programs
  by None is h = cc
  by (Some words) is h =
      option_and_then_some (λ segments. slice_get segments seg) (slice_get (codes_of programs) p) words (sym (segment_at-key (codes_of programs) p seg lt) ∙ is)
      (λ segments at found. let less = slice_get_within (codes_of programs) p segments at in omega (arith, length-map {A = Program} {B = List (List ℕ)} programs segments_of))

-- and its words are those of the program
pub segment_read : (programs : List Program) (p seg : ℕ) (program : Program) → seg < 256 → p < length programs
    → program ≡ get_or programs p program
    → IsSome (segment_at (codes_of programs) (key_of p seg))
    → segment_at (codes_of programs) (key_of p seg) ≡ Some (words_of (segments_of program) seg)
segment_read programs p seg program lt within is some =
    let at = segment_at-program (codes_of programs) p seg (segments_of program) lt (program_at programs p program within is) in
    at ∙ by (slice_get (segments_of program) seg) refl (subst (λ (o : Option (List ℕ)). IsSome o) at some) where
      by : (o : Option (List ℕ)) → slice_get (segments_of program) seg ≡ o → IsSome o
          → slice_get (segments_of program) seg ≡ Some (unwrap_or (slice_get (segments_of program) seg) [])
      by None is h = cc
      by (Some words) is h = rw is refl

-- How many words a segment has.

passed : (c : Bool) (d : Defect) (o : Option Defect) → (if c then o else Some d) ≡ None → (c ≡ true) × (o ≡ None)
passed true d o k = (refl, k)
passed false d o k = cc

sized_at : (n : ℕ) (segments : List (List ℕ)) (k : ℕ) (words : List ℕ) → bad_segment n segments ≡ None
    → slice_get segments k ≡ Some words → is_well_sized words ≡ true
unfolding bad_segment
sized_at n [] k words h is = cc
sized_at n (first ∷ rest) zero words h is = let same : first ≡ words = cc in rw (sym same) (passed _ (Segment n) _ h).0
sized_at n (first ∷ rest) (suc k) words h is = sized_at (n + 1) rest k words (passed (is_well_sized first) (Segment n) _ h).1 is

no_bad_segment : (segments : List (List ℕ)) (main entry : ℕ) (globals : List ℕ)
    → first_defect segments main entry globals ≡ None → bad_segment 0 segments ≡ None
unfolding first_defect
no_bad_segment segments main entry globals h = by (is_head segments main globals) _ h where
  first_none : (a b : Option Defect) → or_else a b ≡ None → a ≡ None
  first_none None b k = refl
  first_none (Some d) b k = k

  by : (c : Bool) (o : Option Defect) → (if not c then Some Head else or_else (bad_segment 0 segments) o) ≡ None
      → bad_segment 0 segments ≡ None
  by true o k = first_none _ o k
  by false o k = cc

-- a segment of a program has 2 to 16,383 words
pub segment_sized : (program : Program) (seg : ℕ) (words : List ℕ) → slice_get (segments_of program) seg ≡ Some words
    → (2 ≤ length words) × (length words ≤ 16383)
unfolding is_well_sized
segment_sized program seg words is =
    let sized = sized_at 0 (segments_of program) seg words (no_bad_segment (segments_of program) program.main program.entry program.globals.items program.valid) is in
    (grind (arith, nat_tests), grind (arith, nat_tests))

-- What is found.

-- a program that is not there has no segment
pub segment_none : (programs : List Program) (p seg : ℕ) → seg < 256 → length programs ≤ p
    → segment_at (codes_of programs) (key_of p seg) ≡ None
segment_none programs p seg lt past =
    segment_at-key (codes_of programs) p seg lt
    ∙ ap (option_and_then (λ ss. slice_get ss seg)) (slice_get_past (codes_of programs) p (omega (arith, length-map {A = Program} {B = List (List ℕ)} programs segments_of)))

-- and one that is there has its own
pub segment_some : (programs : List Program) (p seg : ℕ) (program : Program) → seg < 256 → p < length programs
    → program ≡ get_or programs p program
    → segment_at (codes_of programs) (key_of p seg) ≡ slice_get (segments_of program) seg
segment_some programs p seg program lt within is = segment_at-program (codes_of programs) p seg (segments_of program) lt (program_at programs p program within is)
