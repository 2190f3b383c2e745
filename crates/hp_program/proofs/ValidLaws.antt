-- What a valid program keeps.
use Rattle.std.proofs.Common.{◌≡◌, ℕ, zero, suc, ◌+◌, ◌-◌, ◌<◌, ◌≤◌, Bool, true, false, List, [], ◌∷◌, length, Option, None, Some, refl, sym, arith}
use Rattle.std.specs.Prelude.{not, slice_get, if◌then◌else◌}
use Rattle.std.proofs.lemmas.Bool.Decides.{nat_tests}
use Rattle.hp_program.specs.declared.program.Program.{Program}
use Rattle.hp_program.specs.declared.program.Defect.{Defect}
use Rattle.hp_program.specs.declared.program.Defect.TheVariants.{Head, Segment, Label as BadLabel, Main}
use Rattle.hp_instr.specs.Labels.{label}
use Rattle.hp_program.specs.Programs.{words_of, segments_of}
use Rattle.hp_program.specs.Valid.{entries_of, label_of, is_well_sized, leads, is_head, bad_segment, bad_label, bad_table, or_else, first_defect}

-- a test that fails is the first defect
head_first : (b : Bool) (other : Option Defect) → (if not b then Some Head else other) ≡ None → b ≡ true
head_first true other h = refl
head_first false other h = cc

-- the head of a valid program is right
pub right_head : (segments : List (List ℕ)) (main entry : ℕ) (globals : List ℕ) → first_defect segments main entry globals ≡ None → is_head segments main globals ≡ true
unfolding first_defect
right_head segments main entry globals h = head_first (is_head segments main globals) _ h

-- it has at most 32,000 data words
pub few_globals : (segments : List (List ℕ)) (main entry : ℕ) (globals : List ℕ) → first_defect segments main entry globals ≡ None → length globals ≤ 32000
unfolding is_head
few_globals segments main entry globals h = let head = right_head segments main entry globals h in grind (arith, nat_tests)

-- its main segment is there
pub main_there : (segments : List (List ℕ)) (main entry : ℕ) (globals : List ℕ) → first_defect segments main entry globals ≡ None → main < length segments
unfolding is_head
main_there segments main entry globals h = let head = right_head segments main entry globals h in grind (arith, nat_tests)

-- Where no defect is, every label leads somewhere.

-- the second of two faults is none where there is none
second_none : (a b : Option Defect) → or_else a b ≡ None → b ≡ None
second_none None b h = h
second_none (Some d) b h = cc

first_none : (a b : Option Defect) → or_else a b ≡ None → a ≡ None
first_none None b h = refl
first_none (Some d) b h = h

-- the last test of a valid program
no_bad_table : (segments : List (List ℕ)) (main entry : ℕ) (globals : List ℕ) → first_defect segments main entry globals ≡ None → bad_table segments 0 segments ≡ None
unfolding first_defect
no_bad_table segments main entry globals h = by (is_head segments main globals) _ _ h where
  last : (c : Bool) (d : Defect) (o : Option Defect) → (if not c then Some d else o) ≡ None → o ≡ None
  last true d o k = k
  last false d o k = cc

  by : (c e : Bool) (sizes : Option Defect) → (if not c then Some Head else or_else sizes (if not e then Some Main else bad_table segments 0 segments)) ≡ None → bad_table segments 0 segments ≡ None
  by c e sizes k = last e Main _ (second_none sizes _ (last c Head _ k))

-- where a test is passed, and what follows it finds nothing
passed : (c : Bool) (d : Defect) (o : Option Defect) → (if c then o else Some d) ≡ None → (c ≡ true) × (o ≡ None)
passed true d o k = (refl, k)
passed false d o k = cc

-- each segment is well sized, from number n on
sized_at : (n : ℕ) (segments : List (List ℕ)) (k : ℕ) (words : List ℕ) → bad_segment n segments ≡ None → slice_get segments k ≡ Some words → is_well_sized words ≡ true
unfolding bad_segment
sized_at n [] k words h is = cc
sized_at n (first ∷ rest) zero words h is = let same : first ≡ words = cc in rw (sym same) (passed _ (Segment n) _ h).0
sized_at n (first ∷ rest) (suc k) words h is = sized_at (n + 1) rest k words (passed (is_well_sized first) (Segment n) _ h).1 is

no_bad_segment : (segments : List (List ℕ)) (main entry : ℕ) (globals : List ℕ) → first_defect segments main entry globals ≡ None → bad_segment 0 segments ≡ None
unfolding first_defect
no_bad_segment segments main entry globals h = by (is_head segments main globals) _ h where
  by : (c : Bool) (o : Option Defect) → (if not c then Some Head else or_else (bad_segment 0 segments) o) ≡ None → bad_segment 0 segments ≡ None
  by true o k = first_none _ o k
  by false o k = cc

-- a segment of a program has at most 16,383 words
pub segment_fits : (p : Program) (s : ℕ) (words : List ℕ) → slice_get (segments_of p) s ≡ Some words → length words ≤ 16383
unfolding is_well_sized
segment_fits p s words is =
    let sized = sized_at 0 (segments_of p) s words (no_bad_segment (segments_of p) p.main p.entry p.globals.items p.valid) is in
    grind (arith, nat_tests)

-- each label from entry n on
labels_from : (segments : List (List ℕ)) (s : ℕ) (words : List ℕ) (n left j : ℕ) → bad_label segments s words n left ≡ None → j < left
    → leads segments words (label (label_of words (n + j))) ≡ true
unfolding bad_label
labels_from segments s words n zero j h less = absurd (omega arith)
labels_from segments s words n (suc left) zero h less =
    let e : n + 0 ≡ n = omega arith in rw e (passed _ (BadLabel s n) _ h).0
labels_from segments s words n (suc left) (suc j) h less =
    let e : n + suc j ≡ n + 1 + j = omega arith in
    rw e (labels_from segments s words (n + 1) left j (passed _ (BadLabel s n) _ h).1 (omega arith))

-- each table from segment i on
tables_from : (segments : List (List ℕ)) (i : ℕ) (rest : List (List ℕ)) (k : ℕ) → bad_table segments i rest ≡ None → k < length rest
    → bad_label segments (i + k) (words_of rest k) 1 (entries_of (words_of rest k)) ≡ None
unfolding bad_table
tables_from segments i [] k h less = absurd (omega arith)
tables_from segments i (words ∷ rest) zero h less =
    let e : i + 0 ≡ i = omega arith in rw e (first_none _ (bad_table segments (i + 1) rest) h)
tables_from segments i (words ∷ rest) (suc k) h less =
    let e : i + suc k ≡ i + 1 + k = omega arith in
    rw e (tables_from segments (i + 1) rest k (second_none (bad_label segments i words 1 (entries_of words)) _ h) (omega arith))

pub labels_lead : (segments : List (List ℕ)) (main entry : ℕ) (globals : List ℕ) → first_defect segments main entry globals ≡ None
    → (s n : ℕ) → s < length segments → 1 ≤ n → n ≤ entries_of (words_of segments s)
    → leads segments (words_of segments s) (label (label_of (words_of segments s) n)) ≡ true
labels_lead segments main entry globals h s n less low high =
    let e : n ≡ 1 + (n - 1) = omega arith in
    rw e (labels_from segments (0 + s) (words_of segments s) 1 (entries_of (words_of segments s)) (n - 1)
    (tables_from segments 0 segments s (no_bad_table segments main entry globals h) less) (omega arith))

-- so in every program, which is valid by its type
pub program_labels_lead : (p : Program) (s n : ℕ) → s < length (segments_of p) → 1 ≤ n → n ≤ entries_of (words_of (segments_of p) s)
    → leads (segments_of p) (words_of (segments_of p) s) (label (label_of (words_of (segments_of p) s) n)) ≡ true
program_labels_lead p s n less low high = labels_lead (segments_of p) p.main p.entry p.globals.items p.valid s n less low high
