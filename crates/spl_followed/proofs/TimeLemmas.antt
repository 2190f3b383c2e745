-- Moments of the machine: what it has met and printed before a later one, and what lies between two of them.
use Rattle.std.proofs.Common.{◌≡◌, ◌⊎◌, inl, inr, ℕ, ◌+◌, ◌-◌, ◌≤◌, Bool, true, false, List, [], ◌∷◌, ◌++◌, length, refl, sym, ap, ◌∙◌, arith}
use Rattle.std.proofs.lemmas.Bool.{false≢true}
use Rattle.std.proofs.lemmas.List.{length-append}
use Rattle.spl_carries.specs.hp_word.declared.endings.Ending.{Ending}
use Rattle.spl_carries.specs.hp_word.declared.endings.Ending.TheVariants as ending
use Rattle.spl_carries.specs.hp_session.State.{Machine}
use Rattle.spl_carries.specs.hp_flat.Step.{after, is_running}
use Rattle.spl_carries.proofs.hp_flat_proofs.RunLaws.{after_ended, after-add}
use Rattle.spl_follow.specs.Spots.{Ground, visits, prints}
use Rattle.spl_follow.proofs.WayLemmas.{visits_add, prints_add}

-- ---- an earlier moment and a later one

-- the later machine is that which the earlier one becomes
pub later : (g : Ground) (a n : ℕ) (m : Machine) → a ≤ n → after g.segments n m ≡ after g.segments (n - a) (after g.segments a m)
later g a n m l =
    let e : n ≡ a + (n - a) = omega (arith, l) in
    ap (λ (k : ℕ). after g.segments k m) e ∙ after-add g.segments a (n - a) m

-- an ended machine stays
pub ended_stays : (g : Ground) (a n : ℕ) (m : Machine) → a ≤ n → is_running (after g.segments a m).ending ≡ false
    → after g.segments n m ≡ after g.segments a m
ended_stays g a n m l ended = later g a n m l ∙ after_ended g.segments (n - a) (after g.segments a m) ended

-- one that runs later ran before
pub ran_before : (g : Ground) (a n : ℕ) (m : Machine) → a ≤ n → is_running (after g.segments n m).ending ≡ true
    → is_running (after g.segments a m).ending ≡ true
ran_before g a n m l runs = by (is_running (after g.segments a m).ending) refl where
  by : (b : Bool) → is_running (after g.segments a m).ending ≡ b → b ≡ true
  by true is = refl
  by false is = absurd (false≢true (sym is ∙ ap (λ (k : Machine). is_running k.ending) (sym (ended_stays g a n m l is)) ∙ runs))

-- what was met earlier is met first
pub visits_front : (g : Ground) (a n : ℕ) (m : Machine) → a ≤ n
    → visits g n m ≡ visits g a m ++ visits g (n - a) (after g.segments a m)
visits_front g a n m l =
    let e : n ≡ a + (n - a) = omega (arith, l) in
    ap (λ (k : ℕ). visits g k m) e ∙ visits_add g a (n - a) m

-- and so with what was printed
pub prints_front : (g : Ground) (a n : ℕ) (m : Machine) → a ≤ n
    → prints g n m ≡ prints g a m ++ prints g (n - a) (after g.segments a m)
prints_front g a n m l =
    let e : n ≡ a + (n - a) = omega (arith, l) in
    ap (λ (k : ℕ). prints g k m) e ∙ prints_add g a (n - a) m

-- what runs is not ended
pub running_is : (e : Ending) → is_running e ≡ true → e ≡ ending.Running
running_is ending.Running h = refl
running_is ending.Terminated h = absurd (false≢true h)
running_is (ending.Quit n) h = absurd (false≢true h)
running_is (ending.Trapped t) h = absurd (false≢true h)

-- ---- between

-- where one more than some may come, what lies between has none of it or all
pub one_of : {A : Type 0} (xs ys us ps : List A) → (xs ++ ys) ++ us ≡ xs ++ ps → length ps ≤ 1 → (ys ≡ []) ⊎ (us ≡ [])
one_of xs [] us ps e l = inl refl
one_of xs (y ∷ ys) [] ps e l = inr refl
one_of xs (y ∷ ys) (u ∷ us) ps e l =
    let whole = sym (length-append (xs ++ y ∷ ys) (u ∷ us)) ∙ ap length e ∙ length-append xs ps in
    let first = length-append xs (y ∷ ys) in
    let more = length-append xs ps in
    absurd (omega (arith, whole, first, l))

-- where none may come, it has none
pub none_of : {A : Type 0} (xs ys us ps : List A) → (xs ++ ys) ++ us ≡ xs ++ ps → length ps ≤ 0 → ys ≡ []
none_of xs [] us ps e l = refl
none_of xs (y ∷ ys) us ps e l =
    let whole = sym (length-append (xs ++ y ∷ ys) us) ∙ ap length e ∙ length-append xs ps in
    let first = length-append xs (y ∷ ys) in
    absurd (omega (arith, whole, first, l))
