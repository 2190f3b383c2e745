-- The words of a line, one by one.
use Rattle.std.proofs.Common.{◌≡◌, ℕ, ◌+◌, ◌<◌, Bool, true, false, cond, List, [], ◌∷◌, ◌++◌, length, get_or, take, map, sym, ap, ◌∙◌, append-nil}
use Rattle.std.specs.Prelude.{filter, nat_lt}
use Rattle.std.specs.Borrow.{Bor}
use Rattle.std.proofs.lemmas.List.{map_more}
use Rattle.std.proofs.lemmas.List.Elements.{filter-append}

-- one part more
word_more : (xs : List (Bor (List ℕ))) (i : ℕ) (x : Bor (List ℕ)) → i < length xs → x ≡ get_or xs i x
    → filter (λ w. nat_lt 0 (length w)) (map (λ w. w.now) (take (i + 1) xs)) ≡ filter (λ w. nat_lt 0 (length w)) (map (λ w. w.now) (take i xs)) ++ cond (nat_lt 0 (length x.now)) (x.now ∷ []) []
word_more xs i x lt is =
    let now : Bor (List ℕ) → List ℕ = λ (w : Bor (List ℕ)). w.now in
    let p : List ℕ → Bool = λ (w : List ℕ). nat_lt 0 (length w) in
    ap (filter p) (map_more now xs i x lt ∙ ap (λ (y : Bor (List ℕ)). map now (take i xs) ++ y.now ∷ []) (sym is)) ∙ filter-append p (map now (take i xs)) (x.now ∷ [])

-- a part that is not empty is a word, and one that is empty is none
pub word_kept : (xs : List (Bor (List ℕ))) (i : ℕ) (x : Bor (List ℕ)) → i < length xs → x ≡ get_or xs i x → nat_lt 0 (length x.now) ≡ true
    → filter (λ w. nat_lt 0 (length w)) (map (λ w. w.now) (take (i + 1) xs)) ≡ filter (λ w. nat_lt 0 (length w)) (map (λ w. w.now) (take i xs)) ++ x.now ∷ []
word_kept xs i x lt is h = word_more xs i x lt is ∙ ap (λ b. filter (λ w. nat_lt 0 (length w)) (map (λ w. w.now) (take i xs)) ++ cond b (x.now ∷ []) []) h

pub word_dropped : (xs : List (Bor (List ℕ))) (i : ℕ) (x : Bor (List ℕ)) → i < length xs → x ≡ get_or xs i x → nat_lt 0 (length x.now) ≡ false
    → filter (λ w. nat_lt 0 (length w)) (map (λ w. w.now) (take (i + 1) xs)) ≡ filter (λ w. nat_lt 0 (length w)) (map (λ w. w.now) (take i xs))
word_dropped xs i x lt is h = word_more xs i x lt is ∙ ap (λ b. filter (λ w. nat_lt 0 (length w)) (map (λ w. w.now) (take i xs)) ++ cond b (x.now ∷ []) []) h ∙ append-nil _

pub ruleset word_steps = (word_kept, word_dropped)
