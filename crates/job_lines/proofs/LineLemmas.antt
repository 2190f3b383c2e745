-- The first line of a text.
use Rattle.std.proofs.Common.{◌≡◌, ℕ, suc, ◌+◌, ◌-◌, ◌<◌, ◌≤◌, Bool, true, false, cond, List, [], ◌∷◌, length, take, drop, None, Some, refl, ap, ◌∙◌, arith}
use Rattle.std.specs.Prelude.{◌==◌, nat_lt, not}
use Rattle.std.specs.List.{slice_split, onto_first, position, position_or_len, before_first, after_first}
use Rattle.std.proofs.lemmas.Grind.{common_steps}
use Rattle.std.proofs.lemmas.List.Splits.{slice_split_first}
use Rattle.job_lines.specs.Lines.{without_return, lines_of_parts, lines}

abbrev is_feed : ℕ → Bool
is_feed b = b == 10

-- an empty text has no line
pub lines_empty : (text : List ℕ) → length text ≡ 0 → lines text ≡ []
unfolding lines
lines_empty [] h = refl
lines_empty (b ∷ bs) h = absurd (omega (arith, h))

-- the place of the first line feed
found_at : (text : List ℕ) (i : ℕ) → position is_feed text ≡ Some i → (position_or_len is_feed text ≡ i) × (i < length text)
found_at text i e = by (nat_lt (position_or_len is_feed text) (length text)) refl e where
  by : (b : Bool) → nat_lt (position_or_len is_feed text) (length text) ≡ b → cond b (Some (position_or_len is_feed text)) None ≡ Some i
      → (position_or_len is_feed text ≡ i) × (i < length text)
  by true t e = let at : position_or_len is_feed text ≡ i = cc in (at, grind (arith, common_steps))
  by false t e = cc

-- parts are at least one
parts_are : (text : List ℕ) → (part : List ℕ) × (parts : List (List ℕ)) × (slice_split is_feed text ≡ part ∷ parts)
parts_are [] = ([], [], refl)
parts_are (b ∷ bs) = by (is_feed b) (slice_split is_feed bs) where
  first : (ps : List (List ℕ)) → (part : List ℕ) × (parts : List (List ℕ)) × (onto_first b ps ≡ part ∷ parts)
  first [] = (b ∷ [], [], refl)
  first (p ∷ ps) = (b ∷ p, ps, refl)

  by : (t : Bool) (ps : List (List ℕ)) → (part : List ℕ) × (parts : List (List ℕ)) × (cond t ([] ∷ ps) (onto_first b ps) ≡ part ∷ parts)
  by true ps = ([], ps, refl)
  by false ps = first ps

-- a part with others behind it is a line
more_parts : (part : List ℕ) (text : List ℕ) → lines_of_parts (part ∷ slice_split is_feed text) ≡ without_return part ∷ lines_of_parts (slice_split is_feed text)
more_parts part text = let p = parts_are text in rw p.2 refl

-- a line up to its line feed
pub lines_more : (text : List ℕ) (i : ℕ) → position is_feed text ≡ Some i → lines text ≡ without_return (take i text) ∷ lines (drop (i + 1) text)
unfolding lines
lines_more text i e =
    let f = found_at text i e in
    let at : position_or_len is_feed text ≡ i = f.0 in
    ap lines_of_parts (slice_split_first is_feed text 0 (rw at f.1)) ∙ more_parts (before_first is_feed text) (after_first is_feed text)
    ∙ rw at refl

-- where no byte is a line feed the text is one part
one_part : (text : List ℕ) → length text ≤ position_or_len is_feed text → slice_split is_feed text ≡ text ∷ []
one_part [] h = refl
one_part (b ∷ bs) h = by (is_feed b) (λ l. one_part bs l) h where
  by : (t : Bool) → (length bs ≤ position_or_len is_feed bs → slice_split is_feed bs ≡ bs ∷ []) → suc (length bs) ≤ cond (not t) (1 + position_or_len is_feed bs) 0
      → cond t ([] ∷ slice_split is_feed bs) (onto_first b (slice_split is_feed bs)) ≡ (b ∷ bs) ∷ []
  by true rest l = absurd (omega (arith, l))
  by false rest l = ap (onto_first b) (rest (omega (arith, l)))

none_found : (text : List ℕ) → position is_feed text ≡ None → length text ≤ position_or_len is_feed text
none_found text e = by (nat_lt (position_or_len is_feed text) (length text)) refl e where
  by : (b : Bool) → nat_lt (position_or_len is_feed text) (length text) ≡ b → cond b (Some (position_or_len is_feed text)) None ≡ None
      → length text ≤ position_or_len is_feed text
  by true t e = cc
  by false t e = grind (arith, common_steps)

last_part : (text : List ℕ) → 0 < length text → lines_of_parts (text ∷ []) ≡ text ∷ []
last_part [] l = absurd (omega (arith, l))
last_part (b ∷ bs) l = refl

-- a text with no line feed is one line
pub lines_last : (text : List ℕ) → position is_feed text ≡ None → 0 < length text → lines text ≡ text ∷ []
unfolding lines
lines_last text e l = ap lines_of_parts (one_part text (none_found text e)) ∙ last_part text l

-- what is left behind an index, taken whole
pub all_taken : (text : List ℕ) (n : ℕ) → take (length text - n) (drop n text) ≡ drop n text
all_taken text n = grind (arith, common_steps)

pub lines_none : lines [] ≡ []
unfolding lines
lines_none = refl

pub ruleset line_steps = (lines_empty, lines_more, lines_last, lines_none)
