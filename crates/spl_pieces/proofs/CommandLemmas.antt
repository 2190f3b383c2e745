-- The words of a text and the options of a command, one by one.
use Rattle.std.proofs.Common.{◌≡◌, ℕ, ◌+◌, ◌<◌, ◌≤◌, Bool, true, false, cond, List, [], ◌∷◌, ◌++◌, length, get_or, take, drop, map, Option, Some, None, refl, sym, ap, ◌∙◌, append-nil, append_assoc}
use Rattle.std.specs.Prelude.{filter, nat_lt, option_map, option_and_then}
use Rattle.std.specs.Borrow.{Bor}
use Rattle.std.proofs.lemmas.List.{map_more, drop_more, drop_all}
use Rattle.std.proofs.lemmas.List.Elements.{filter-append}
use Rattle.spl_cuts.specs.Commands.{Setting, only, words, option, options}

-- one part more
word_more : (xs : List (Bor (List ℕ))) (i : ℕ) (x : Bor (List ℕ)) → i < length xs → x ≡ get_or xs i x
    → filter (λ w. nat_lt 0 (length w)) (map (λ w. w.now) (take (i + 1) xs))
    ≡ filter (λ w. nat_lt 0 (length w)) (map (λ w. w.now) (take i xs)) ++ cond (nat_lt 0 (length x.now)) (x.now ∷ []) []
word_more xs i x lt is =
    let now : Bor (List ℕ) → List ℕ = λ (w : Bor (List ℕ)). w.now in
    let p : List ℕ → Bool = λ (w : List ℕ). nat_lt 0 (length w) in
    ap (filter p) (map_more now xs i x lt ∙ ap (λ (y : Bor (List ℕ)). map now (take i xs) ++ y.now ∷ []) (sym is)) ∙ filter-append p (map now (take i xs)) (x.now ∷ [])

-- a part that is not empty is a word, and one that is empty is none
pub word_kept : (xs : List (Bor (List ℕ))) (i : ℕ) (x : Bor (List ℕ)) → i < length xs → x ≡ get_or xs i x → nat_lt 0 (length x.now) ≡ true
    → filter (λ w. nat_lt 0 (length w)) (map (λ w. w.now) (take (i + 1) xs)) ≡ filter (λ w. nat_lt 0 (length w)) (map (λ w. w.now) (take i xs)) ++ x.now ∷ []
word_kept xs i x lt is h =
    word_more xs i x lt is ∙ ap (λ b. filter (λ w. nat_lt 0 (length w)) (map (λ w. w.now) (take i xs)) ++ cond b (x.now ∷ []) []) h

pub word_dropped : (xs : List (Bor (List ℕ))) (i : ℕ) (x : Bor (List ℕ)) → i < length xs → x ≡ get_or xs i x → nat_lt 0 (length x.now) ≡ false
    → filter (λ w. nat_lt 0 (length w)) (map (λ w. w.now) (take (i + 1) xs)) ≡ filter (λ w. nat_lt 0 (length w)) (map (λ w. w.now) (take i xs))
word_dropped xs i x lt is h =
    word_more xs i x lt is ∙ ap (λ b. filter (λ w. nat_lt 0 (length w)) (map (λ w. w.now) (take i xs)) ++ cond b (x.now ∷ []) []) h ∙ append-nil _

pub ruleset word_steps = (word_kept, word_dropped)

-- the options of some texts from this one on
abbrev pub options_from : ℕ → List (Bor (List ℕ)) → Option (List Setting)
options_from i xs = options (map (λ w. w.now) (drop i xs))

-- options with these before them
abbrev pub behind : List Setting → Option (List Setting) → Option (List Setting)
behind front o = option_map (λ os. front ++ os) o

from_more : (xs : List (Bor (List ℕ))) (i : ℕ) (d : Bor (List ℕ)) → i < length xs
    → options_from i xs ≡ option_and_then (λ s. option_map (λ ss. s ∷ ss) (options_from (i + 1) xs)) (option (get_or xs i d).now)
unfolding options
from_more xs i d lt = ap (λ (ys : List (Bor (List ℕ))). options (map (λ w. w.now) ys)) (drop_more xs i d lt)

-- a text that is no option
pub from_none : (front : List Setting) (xs : List (Bor (List ℕ))) (i : ℕ) (d : Bor (List ℕ)) → i < length xs → option (get_or xs i d).now ≡ None
    → behind front (options_from i xs) ≡ None
from_none front xs i d lt h = rw (from_more xs i d lt, h) refl

-- a text that is one
pub from_some : (front : List Setting) (xs : List (Bor (List ℕ))) (i : ℕ) (d : Bor (List ℕ)) (s : Setting) → i < length xs
    → option (get_or xs i d).now ≡ Some s → behind (front ++ s ∷ []) (options_from (i + 1) xs) ≡ behind front (options_from i xs)
from_some front xs i d s lt h = by (options_from (i + 1) xs) ∙ sym (rw (from_more xs i d lt, h) refl)
  where
    by : (o : Option (List Setting)) → behind (front ++ s ∷ []) o ≡ behind front (option_map (λ ss. s ∷ ss) o)
    by None = refl
    by (Some ss) = ap Some (append_assoc front (s ∷ []) ss)

-- behind the last text
pub from_end : (front : List Setting) (xs : List (Bor (List ℕ))) (i : ℕ) → length xs ≤ i → behind front (options_from i xs) ≡ Some front
unfolding options
from_end front xs i l = ap (λ (ys : List (Bor (List ℕ))). behind front (options (map (λ w. w.now) ys))) (drop_all i xs l) ∙ ap Some (append-nil front)

-- before the first
pub from_start : (xs : List (Bor (List ℕ))) → behind [] (options_from 0 xs) ≡ options (map (λ w. w.now) xs)
from_start xs = by (options (map (λ w. w.now) xs))
  where
    by : (o : Option (List Setting)) → behind [] o ≡ o
    by None = refl
    by (Some os) = refl

pub ruleset option_steps = (from_end, from_start)

-- the sides of an option, by what they hold
pub sides_seen : (xs : List (Bor (List ℕ))) → map (λ side. only (words side.now)) xs ≡ map (λ side. only (words side)) (map (λ w. w.now) xs)
sides_seen [] = refl
sides_seen (x ∷ xs) = ap (λ (ys : List (Option (List ℕ))). only (words x.now) ∷ ys) (sides_seen xs)
