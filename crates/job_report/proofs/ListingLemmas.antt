-- Words, entries and segments are told one behind the other.
use Rattle.std.proofs.Common.{ℕ, zero, suc, ◌≡◌, ◌+◌, ◌-◌, ◌<◌, ◌≤◌, List, [], ◌∷◌, ◌++◌, length, Bool, true, false, Option, Some, None, Vec, Global, refl, sym, ap, ◌∙◌, arith, append_assoc, append-nil}
use Rattle.std.specs.Prelude.{get_or, map, drop, take, not, if◌then◌else◌}
use Rattle.hp_instr.specs.Labels.{label}
use Rattle.hp_program.specs.declared.program.Defect.{Defect}
use Rattle.hp_program.specs.declared.program.Defect.TheVariants as defect
use Rattle.hp_program.specs.Valid.{entries_of, label_of, bad_segment, is_well_sized, is_head, first_defect, or_else}
use Rattle.hp_program.proofs.ValidLemmas.{sized_first, sized_next, few_entries}
use Rattle.hp_program.proofs.ValidLaws.{few_globals}
use Rattle.std.proofs.lemmas.Bool.Decides.{nat_tests}
use Rattle.job_report.specs.Listings.{data_line, data_lines, code_line, code_lines, entry_line, entry_lines, code_of, segment_text, segments_text}
use Rattle.job_report.proofs.LineLemmas.{fronted, dropped}

-- one data word more
pub data_on : (before : List ℕ) (ws : List ℕ) (i w : ℕ) → i < length ws → w ≡ get_or ws i w
    → before ++ data_lines i (drop i ws) ≡ (before ++ data_line i w) ++ data_lines (i + 1) (drop (i + 1) ws)
data_on before ws i w l e =
    ap (λ x. before ++ data_lines i x) (fronted ws i w l e) ∙ sym (append_assoc before (data_line i w) (data_lines (i + 1) (drop (i + 1) ws)))

pub data_end : (before : List ℕ) (ws : List ℕ) (i : ℕ) → length ws ≤ i → before ++ data_lines i (drop i ws) ≡ before
data_end before ws i l = ap (λ x. before ++ data_lines i x) (dropped ws i l) ∙ append-nil before

pub ruleset data_turns = (data_on, data_end)

-- one code word more
pub code_on : (before : List ℕ) (ws : List ℕ) (i w : ℕ) → i < length ws → w ≡ get_or ws i w
    → before ++ code_lines i (drop i ws) ≡ (before ++ code_line i w) ++ code_lines (i + 1) (drop (i + 1) ws)
code_on before ws i w l e =
    ap (λ x. before ++ code_lines i x) (fronted ws i w l e) ∙ sym (append_assoc before (code_line i w) (code_lines (i + 1) (drop (i + 1) ws)))

pub code_end : (before : List ℕ) (ws : List ℕ) (i : ℕ) → length ws ≤ i → before ++ code_lines i (drop i ws) ≡ before
code_end before ws i l = ap (λ x. before ++ code_lines i x) (dropped ws i l) ∙ append-nil before

pub ruleset code_turns = (code_on, code_end)

-- one entry more: k were told, of n
pub entry_on : (before words : List ℕ) (k n : ℕ) → k < n
    → before ++ entry_lines words (k + 1) (n - k) ≡ (before ++ entry_line (k + 1) (label (label_of words (k + 1)))) ++ entry_lines words (k + 1 + 1) (n - (k + 1))
entry_on before words k n l =
    let e : n - k ≡ suc (n - (k + 1)) = omega arith in
    ap (λ x. before ++ entry_lines words (k + 1) x) e
    ∙ sym (append_assoc before (entry_line (k + 1) (label (label_of words (k + 1)))) (entry_lines words (k + 1 + 1) (n - (k + 1))))

pub entry_end : (before words : List ℕ) (k n : ℕ) → n ≤ k → before ++ entry_lines words (k + 1) (n - k) ≡ before
entry_end before words k n l =
    let e : n - k ≡ 0 = omega arith in
    ap (λ x. before ++ entry_lines words (k + 1) x) e ∙ append-nil before

pub ruleset entry_turns = (entry_on, entry_end)

abbrev items_of : List (Vec ℕ Global) → List (List ℕ)
items_of segments = map (λ s. s.items) segments

-- one segment more
pub segment_on : (before : List ℕ) (ss : List (Vec ℕ Global)) (i : ℕ) (s : Vec ℕ Global) → i < length ss → s ≡ get_or ss i s
    → before ++ segments_text i (items_of (drop i ss)) ≡ (before ++ segment_text i s.items) ++ segments_text (i + 1) (items_of (drop (i + 1) ss))
segment_on before ss i s l e =
    ap (λ x. before ++ segments_text i (items_of x)) (fronted ss i s l e)
    ∙ sym (append_assoc before (segment_text i s.items) (segments_text (i + 1) (items_of (drop (i + 1) ss))))

pub segment_end : (before : List ℕ) (ss : List (Vec ℕ Global)) (i : ℕ) → length ss ≤ i → before ++ segments_text i (items_of (drop i ss)) ≡ before
segment_end before ss i l = ap (λ x. before ++ segments_text i (items_of x)) (dropped ss i l) ∙ append-nil before

-- this segment is well sized, where those from here on are
pub sized_here : (ss : List (Vec ℕ Global)) (i : ℕ) (s : Vec ℕ Global) → i < length ss → s ≡ get_or ss i s
    → bad_segment i (items_of (drop i ss)) ≡ None → is_well_sized s.items ≡ true
sized_here ss i s l e h = (sized_first i s.items (items_of (drop (i + 1) ss)) (rw (fronted ss i s l e) at h)).0

pub ruleset segment_turns = (segment_on, segment_end, sized_here, sized_next)

-- a segment that is well sized has at most 16,383 words, also before its table
short : (words : List ℕ) → is_well_sized words ≡ true → length words ≤ 16383
unfolding is_well_sized
short words h = grind (arith, nat_tests)

length_take : (n : ℕ) (xs : List ℕ) → length (take n xs) ≤ length xs
length_take zero xs = omega arith
length_take (suc n) [] = omega arith
length_take (suc n) (x ∷ xs) = let r = length_take n xs in omega arith

pub short_code : (words code : List ℕ) → is_well_sized words ≡ true → code ≡ code_of words → length code ≤ 16383
short_code words code h e =
    let s = short words h in
    let t = length_take (length words - 1 - entries_of words) words in
    omega (arith, ap length e)

pub ruleset sizes = (short_code, few_entries, append_assoc)

-- ---- a valid program

pub valid_sized : (segments : List (List ℕ)) (main entry : ℕ) (globals : List ℕ) → first_defect segments main entry globals ≡ None
    → bad_segment 0 segments ≡ None
unfolding first_defect
valid_sized segments main entry globals e = by (is_head segments main globals) (bad_segment 0 segments) _ e
  where
    by : (h : Bool) (d rest : Option Defect) → (if not h then Some defect.Head else or_else d rest) ≡ None → d ≡ None
    by true None rest e = refl
    by true (Some d) rest e = cc
    by false d rest e = cc

pub ruleset valid = (valid_sized, few_globals, append_assoc)
