-- A running sum finds where the words of things first pass a limit.
use Rattle.std.proofs.Common.{ℕ, ◌≡◌, ◌+◌, Bool, true, false, List, [], ◌∷◌, ◌++◌, Option, nat_lt, refl, ap, ◌∙◌}
use Rattle.std.specs.Prelude.{if◌then◌else◌}
use Rattle.spl_sorts.specs.spl_meaning.Limits.{Full, Sized, passing, sooner_full, first_among}
use Rattle.spl_places.specs.declared.counters.Counter.{Counter}
use Rattle.spl_places.specs.Counters.{behind_words, found_words, behind, found}

-- a sum that has come so far, or has passed its limit
abbrev pub counter : ℕ → ℕ → ℕ → Bool → Counter
counter limit most count passed = record { limit = limit; most = most; count = count; passed = passed }

-- behind the limit nothing is found
found_stopped : (l m n : ℕ) (xs : List Sized) (f : Option Full) → found (counter l m n true) xs f ≡ f
unfolding behind_words found_words
found_stopped l m n [] f = refl
found_stopped l m n (x ∷ xs) f = found_stopped l m n xs f

-- before it the first is where the words pass it
pub found_running : (l m n : ℕ) (xs : List Sized) (f : Option Full) → found (counter l m n false) xs f ≡ first_among f (passing l m n xs)
unfolding behind_words found_words
found_running l m n [] f = refl
found_running l m n (x ∷ xs) f = by (nat_lt 0 x.words) (nat_lt m (n + x.words)) (found_running l m n xs f) (found_running l m (n + x.words) xs f)
  where
    by : (a b : Bool) → found (counter l m n false) xs f ≡ first_among f (passing l m n xs)
        → found (counter l m (n + x.words) false) xs f ≡ first_among f (passing l m (n + x.words) xs)
        → found (if a then counter l m (n + x.words) b else counter l m n false) xs
        (if a then (if b then sooner_full f (record { limit = l; at = x.at; count = n + x.words }) else f) else f)
        ≡ first_among f (if a then (if b then record { limit = l; at = x.at; count = n + x.words } ∷ [] else passing l m (n + x.words) xs) else passing l m n xs)
    by false b same more = same
    by true true same more = found_stopped l m (n + x.words) xs (sooner_full f (record { limit = l; at = x.at; count = n + x.words }))
    by true false same more = more

-- things one behind the other
pub found_both : (c : Counter) (xs ys : List Sized) (f : Option Full) → found (behind c xs) ys (found c xs f) ≡ found c (xs ++ ys) f
found_both c [] ys f = refl
found_both c (x ∷ xs) ys f = found_both (behind_words c x.words) xs ys (found_words c x.at x.words f)

pub among_both : (f : Option Full) (xs ys : List Full) → first_among f (xs ++ ys) ≡ first_among (first_among f xs) ys
among_both f [] ys = refl
among_both f (x ∷ xs) ys = among_both (sooner_full f x) xs ys

-- the same of a sum that runs along things, and along two lists of them
pub one_found : (l m n : ℕ) (c : Counter) (xs : List Sized) (f g : Option Full) → c ≡ counter l m n false → g ≡ found c xs f
    → g ≡ first_among f (passing l m n xs)
one_found l m n c xs f g is first = first ∙ ap (λ (d : Counter). found d xs f) is ∙ found_running l m n xs f

pub two_found : (l m n : ℕ) (c d : Counter) (xs ys : List Sized) (f g h : Option Full) → c ≡ counter l m n false → d ≡ behind c xs → g ≡ found c xs f → h ≡ found d ys g
    → h ≡ first_among f (passing l m n (xs ++ ys))
two_found l m n c d xs ys f g h is sum first next =
    next ∙ ap (λ (e : Counter). found e ys g) sum ∙ ap (λ (k : Option Full). found (behind c xs) ys k) first ∙ found_both c xs ys f
    ∙ one_found l m n c (xs ++ ys) f (found c (xs ++ ys) f) is refl
