-- The segments of procedures that may be called from anywhere.
use Rattle.std.specs.Prelude.{ℕ, ◌≡◌, ◌+◌, if◌then◌else◌, List, [], ◌∷◌, Option, None, Some}
use Rattle.mpe_segmenter.specs.Names.{Part, is_among}
use Rattle.mpe_segmenter.specs.Places.{place_of, with_place}
use Rattle.mpe_segmenter.specs.Faults.{callables}

-- the first segment, counted from s, with a procedure that may be called by this name
abbrev pub home_at : ℕ → List Part → List ℕ → Option ℕ
home_at s [] name = None
home_at s (p ∷ ps) name = if is_among name (callables p.modules) then Some s else home_at (s + 1) ps name

-- names have the numbers of these segments
pub record IsHomes (homes : List (List ℕ × ℕ)) (ps : List Part) : Type 0 where
  pub finds : (name : List ℕ) → place_of name homes ≡ home_at 0 ps name

-- names with more, each with this number
abbrev pub with_names : List (List ℕ × ℕ) → ℕ → List (List ℕ) → List (List ℕ × ℕ)
with_names es s [] = es
with_names es s (n ∷ ns) = with_names (with_place es n s) s ns

-- names with those of segments, counted from s
abbrev pub with_parts : List (List ℕ × ℕ) → ℕ → List Part → List (List ℕ × ℕ)
with_parts es s [] = es
with_parts es s (p ∷ ps) = with_parts (with_names es s (callables p.modules)) (s + 1) ps
