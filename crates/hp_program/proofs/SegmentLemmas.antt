-- Segments copied one by one.
use Rattle.std.proofs.Common.{◌≡◌, ℕ, ◌+◌, ◌<◌, List, [], ◌∷◌, ◌++◌, length, get_or, take, map, sym, ap, ◌∙◌}
use Rattle.std.specs.Global.{Vec}
use Rattle.std.proofs.lemmas.List.{map_more, map-append}

-- the segments up to the next one
pub segments_more : (xs : List (Vec ℕ)) (i : ℕ) (x : Vec ℕ) → i < length xs → x ≡ get_or xs i x
    → map (λ s. s.items) (take (i + 1) xs) ≡ map (λ s. s.items) (take i xs) ++ x.items ∷ []
segments_more xs i x lt is = map_more (λ s. s.items) xs i x lt ∙ ap (λ s. map (λ s. s.items) (take i xs) ++ s.items ∷ []) (sym is)

-- one segment more
pub segments_push : (xs : List (Vec ℕ)) (x : Vec ℕ) → map (λ s. s.items) (xs ++ x ∷ []) ≡ map (λ s. s.items) xs ++ x.items ∷ []
segments_push xs x = map-append (λ s. s.items) xs (x ∷ [])

pub ruleset segment_steps = (segments_more, segments_push)
