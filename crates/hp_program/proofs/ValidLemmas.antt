-- The walks over segments and labels: what one more element of each makes of the first defect.
use Rattle.std.proofs.Common.{◌≡◌, ℕ, suc, ◌+◌, ◌-◌, ◌<◌, ◌≤◌, Bool, true, false, List, [], ◌∷◌, length, get_or, drop, map, None, Some, refl, sym, ap, ◌∙◌, arith, add-one}
use Rattle.std.proofs.lemmas.Bool.Decides.{nat_tests}
use Rattle.std.specs.Global.{Vec}
use Rattle.std.specs.Prelude.{if◌then◌else◌}
use Rattle.std.proofs.Math.Seq.{drop-cons}
use Rattle.std.proofs.lemmas.List.{drop_all}
use Rattle.hp_program.specs.declared.program.Defect.{Defect}
use Rattle.hp_program.specs.declared.program.Defect.TheVariants.{Segment, Label}
use Rattle.hp_instr.specs.Labels.{label}
use Rattle.hp_program.specs.Valid.{entries_of, label_of, is_well_sized, leads, bad_segment, bad_label, bad_table, or_else}

abbrev items_of : List (Vec ℕ) → List (List ℕ)
items_of xs = map (λ s. s.items) xs

-- the elements from i on begin with that at i
front : {X : Type 0} (xs : List X) (i : ℕ) (x : X) → i < length xs → x ≡ get_or xs i x → drop i xs ≡ x ∷ drop (i + 1) xs
front xs i x lt is = drop-cons xs i x lt ∙ ap (λ y. y ∷ drop (suc i) xs) (sym is) ∙ rw add-one refl

-- one segment more
pub segment_turn : (n : ℕ) (words : List ℕ) (rest : List (List ℕ)) → bad_segment n (words ∷ rest) ≡ (if is_well_sized words then bad_segment (n + 1) rest else Some (Segment n))
unfolding bad_segment
segment_turn n words rest = refl

-- at a segment that is well sized the search goes on, and at one that is not it ends
pub segment_good : (xs : List (Vec ℕ)) (i : ℕ) (x : Vec ℕ) → i < length xs → x ≡ get_or xs i x → is_well_sized x.items ≡ true
    → bad_segment i (map (λ s. s.items) (drop i xs)) ≡ bad_segment (i + 1) (map (λ s. s.items) (drop (i + 1) xs))
segment_good xs i x lt is h = rw (front xs i x lt is) (segment_turn i x.items (items_of (drop (i + 1) xs)) ∙ rw h refl)

pub segment_ends : (xs : List (Vec ℕ)) (i : ℕ) (x : Vec ℕ) → i < length xs → x ≡ get_or xs i x → is_well_sized x.items ≡ false
    → bad_segment i (map (λ s. s.items) (drop i xs)) ≡ Some (Segment i)
segment_ends xs i x lt is h = rw (front xs i x lt is) (segment_turn i x.items (items_of (drop (i + 1) xs)) ∙ rw h refl)

-- no segment is left
segment_none : (n : ℕ) → bad_segment n [] ≡ None
unfolding bad_segment
segment_none n = refl

pub segment_end : (xs : List (Vec ℕ)) (i : ℕ) → length xs ≤ i → bad_segment i (map (λ s. s.items) (drop i xs)) ≡ None
segment_end xs i h = rw (drop_all i xs h) (segment_none i)

pub ruleset segment_steps = segment_end

-- one label more
pub label_more : (segments : List (List ℕ)) (s : ℕ) (words : List ℕ) (e k : ℕ) → k < e
    → bad_label segments s words (k + 1) (e - k) ≡ (if leads segments words (label (label_of words (k + 1))) then bad_label segments s words (k + 1 + 1) (e - (k + 1)) else Some (Label s (k + 1)))
unfolding bad_label
label_more segments s words e k h = let left : e - k ≡ suc (e - (k + 1)) = omega arith in rw left refl

-- no label is left
pub label_none : (segments : List (List ℕ)) (s : ℕ) (words : List ℕ) (n e k : ℕ) → e ≤ k → bad_label segments s words n (e - k) ≡ None
unfolding bad_label
label_none segments s words n e k h = let left : e - k ≡ 0 = omega arith in rw left refl

pub ruleset label_steps = (label_more, label_none)

-- one table more
pub table_turn : (segments : List (List ℕ)) (n : ℕ) (words : List ℕ) (rest : List (List ℕ)) → bad_table segments n (words ∷ rest) ≡ or_else (bad_label segments n words 1 (entries_of words)) (bad_table segments (n + 1) rest)
unfolding bad_table
table_turn segments n words rest = refl

pub table_good : (segments : List (List ℕ)) (xs : List (Vec ℕ)) (i : ℕ) (x : Vec ℕ) → i < length xs → x ≡ get_or xs i x → bad_label segments i x.items 1 (entries_of x.items) ≡ None
    → bad_table segments i (map (λ s. s.items) (drop i xs)) ≡ bad_table segments (i + 1) (map (λ s. s.items) (drop (i + 1) xs))
table_good segments xs i x lt is h = rw (front xs i x lt is) (table_turn segments i x.items (items_of (drop (i + 1) xs)) ∙ rw h refl)

pub table_ends : (segments : List (List ℕ)) (xs : List (Vec ℕ)) (i : ℕ) (x : Vec ℕ) (d : Defect) → i < length xs → x ≡ get_or xs i x → bad_label segments i x.items 1 (entries_of x.items) ≡ Some d
    → bad_table segments i (map (λ s. s.items) (drop i xs)) ≡ Some d
table_ends segments xs i x d lt is h = rw (front xs i x lt is) (table_turn segments i x.items (items_of (drop (i + 1) xs)) ∙ rw h refl)

table_none : (segments : List (List ℕ)) (n : ℕ) → bad_table segments n [] ≡ None
unfolding bad_table
table_none segments n = refl

pub table_end : (segments : List (List ℕ)) (xs : List (Vec ℕ)) (i : ℕ) → length xs ≤ i → bad_table segments i (map (λ s. s.items) (drop i xs)) ≡ None
table_end segments xs i h = rw (drop_all i xs h) (table_none segments i)

-- where no segment is bad each has at most 127 entries
pub few_entries : (words : List ℕ) → is_well_sized words ≡ true → entries_of words ≤ 127
unfolding is_well_sized
few_entries words h = grind (arith, nat_tests)

-- where the tests of all segments from i on pass, that at i does
pub sized_first : (n : ℕ) (words : List ℕ) (rest : List (List ℕ)) → bad_segment n (words ∷ rest) ≡ None → (is_well_sized words ≡ true) × (bad_segment (n + 1) rest ≡ None)
sized_first n words rest h = by (is_well_sized words) refl (sym (segment_turn n words rest) ∙ h) where
  by : (b : Bool) → is_well_sized words ≡ b → (if b then bad_segment (n + 1) rest else Some (Segment n)) ≡ None → (is_well_sized words ≡ true) × (bad_segment (n + 1) rest ≡ None)
  by true e k = (e, k)
  by false e k = cc

pub sized_now : (xs : List (Vec ℕ)) (i : ℕ) (x : Vec ℕ) → i < length xs → x ≡ get_or xs i x → bad_segment i (map (λ s. s.items) (drop i xs)) ≡ None → entries_of x.items ≤ 127
sized_now xs i x lt is h = few_entries x.items (sized_first i x.items (items_of (drop (i + 1) xs)) (rw (front xs i x lt is) at h)).0

pub sized_next : (xs : List (Vec ℕ)) (i : ℕ) (x : Vec ℕ) → i < length xs → x ≡ get_or xs i x → bad_segment i (map (λ s. s.items) (drop i xs)) ≡ None → bad_segment (i + 1) (map (λ s. s.items) (drop (i + 1) xs)) ≡ None
sized_next xs i x lt is h = (sized_first i x.items (items_of (drop (i + 1) xs)) (rw (front xs i x lt is) at h)).1

pub ruleset table_steps = (table_end, sized_now, sized_next)
