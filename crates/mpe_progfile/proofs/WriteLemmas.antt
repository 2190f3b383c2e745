-- Words and segments are written one behind the other.
use Rattle.std.proofs.Common.{ℕ, zero, suc, ◌≡◌, ◌+◌, ◌<◌, ◌≤◌, List, [], ◌∷◌, ◌++◌, length, Bool, true, false, Option, Some, None, Vec, Global, refl, sym, ap, ◌∙◌, arith}
use Rattle.std.specs.Prelude.{get_or, map, drop, not, if◌then◌else◌}
use Rattle.hp_program.specs.declared.program.Defect.{Defect}
use Rattle.hp_program.specs.declared.program.Defect.TheVariants as defect
use Rattle.hp_program.specs.Valid.{bad_segment, is_head, first_defect, or_else}
use Rattle.mpe_progfile.proofs.CountLemmas.{one_short}
use Rattle.mpe_progfile.proofs.LabelLemmas.{head_count, head_globals}
use Rattle.std.proofs.lemmas.List.{append_assoc, append-nil}
use Rattle.mpe_progfile.specs.Files.{word_bytes, words_bytes, segment_bytes, segments_bytes}

front : {A : Type 0} (xs : List A) (i : ℕ) (x : A) → i < length xs → x ≡ get_or xs i x → drop i xs ≡ x ∷ drop (suc i) xs
front [] i x l e = absurd (omega (arith, l))
front (y ∷ ys) zero x l e = ap (λ z. z ∷ ys) (sym e)
front (y ∷ ys) (suc i) x l e = front ys i x (omega (arith, l)) e

fronted : {A : Type 0} (xs : List A) (i : ℕ) (x : A) → i < length xs → x ≡ get_or xs i x → drop i xs ≡ x ∷ drop (i + 1) xs
fronted xs i x l e = let n : suc i ≡ i + 1 = omega arith in front xs i x l e ∙ ap (λ k. x ∷ drop k xs) n

dropped : {A : Type 0} (xs : List A) (i : ℕ) → length xs ≤ i → drop i xs ≡ []
dropped [] zero l = refl
dropped [] (suc i) l = refl
dropped (x ∷ xs) zero l = absurd (omega (arith, l))
dropped (x ∷ xs) (suc i) l = dropped xs i (omega (arith, l))

-- one word more
pub word_on : (before : List ℕ) (ws : List ℕ) (i w : ℕ) → i < length ws → w ≡ get_or ws i w
    → before ++ words_bytes (drop i ws) ≡ (before ++ word_bytes w) ++ words_bytes (drop (i + 1) ws)
word_on before ws i w l e =
    ap (λ x. before ++ words_bytes x) (fronted ws i w l e) ∙ sym (append_assoc before (word_bytes w) (words_bytes (drop (i + 1) ws)))

pub word_end : (before : List ℕ) (ws : List ℕ) (i : ℕ) → length ws ≤ i → before ++ words_bytes (drop i ws) ≡ before
word_end before ws i l = ap (λ x. before ++ words_bytes x) (dropped ws i l) ∙ append-nil before

pub ruleset word_turns = (word_on, word_end)

abbrev items_of : List (Vec ℕ Global) → List (List ℕ)
items_of segments = map (λ s. s.items) segments

-- one segment more: its size, and then its words
pub segment_on : (before : List ℕ) (ss : List (Vec ℕ Global)) (i : ℕ) (s : Vec ℕ Global) → i < length ss → s ≡ get_or ss i s
    → before ++ segments_bytes (items_of (drop i ss))
    ≡ ((before ++ word_bytes (length s.items)) ++ words_bytes s.items) ++ segments_bytes (items_of (drop (i + 1) ss))
segment_on before ss i s l e =
    ap (λ x. before ++ segments_bytes (items_of x)) (fronted ss i s l e)
    ∙ sym (append_assoc before (segment_bytes s.items) (segments_bytes (items_of (drop (i + 1) ss))))
    ∙ ap (λ x. x ++ segments_bytes (items_of (drop (i + 1) ss))) (sym (append_assoc before (word_bytes (length s.items)) (words_bytes s.items)))

pub segment_end : (before : List ℕ) (ss : List (Vec ℕ Global)) (i : ℕ) → length ss ≤ i → before ++ segments_bytes (items_of (drop i ss)) ≡ before
segment_end before ss i l = ap (λ x. before ++ segments_bytes (items_of x)) (dropped ss i l) ∙ append-nil before

pub ruleset segment_turns = (one_short, segment_on, segment_end)

-- ---- a valid program

pub valid_sized : (segments : List (List ℕ)) (main entry : ℕ) (globals : List ℕ) → first_defect segments main entry globals ≡ None
    → bad_segment 0 segments ≡ None
unfolding first_defect
valid_sized segments main entry globals e = by (is_head segments main globals) (bad_segment 0 segments) _ e
  where
    by : (h : Bool) (d rest : Option Defect) → (if not h then Some defect.Head else or_else d rest) ≡ None → d ≡ None
    by true None rest e = refl
    by true (Some d) rest e = cc
    by false d rest e = cc

pub valid_head : (segments : List (List ℕ)) (main entry : ℕ) (globals : List ℕ) → first_defect segments main entry globals ≡ None
    → is_head segments main globals ≡ true
unfolding first_defect
valid_head segments main entry globals e = by (is_head segments main globals) (bad_segment 0 segments) _ e
  where
    by : (h : Bool) (d rest : Option Defect) → (if not h then Some defect.Head else or_else d rest) ≡ None → h ≡ true
    by true d rest e = refl
    by false d rest e = cc

pub program_count : (ss : List (Vec ℕ Global)) (main entry : ℕ) (globals : List ℕ) → first_defect (items_of ss) main entry globals ≡ None
    → length ss ≤ 62
program_count ss main entry globals e = head_count ss main globals (valid_head (items_of ss) main entry globals e)

pub program_globals : (ss : List (Vec ℕ Global)) (main entry : ℕ) (globals : List ℕ) → first_defect (items_of ss) main entry globals ≡ None
    → length globals ≤ 32000
program_globals ss main entry globals e = head_globals ss main globals (valid_head (items_of ss) main entry globals e)

pub ruleset valid = (valid_sized, program_count, program_globals)
