-- What a token makes of a state in which the phase is told apart.
use Rattle.std.proofs.Common.{◌≡◌, ℕ, Bool, true, false, List, [], ◌∷◌, ◌++◌, Option, Some, None, refl, ap, ◌∙◌}
use Rattle.std.specs.Prelude.{if◌then◌else◌}
use Rattle.spl_cuts.specs.Signs.{Sign, word, number, wide, chars, mark, stop, Found}
use Rattle.spl_cuts.specs.Defines.{State, Phase, inside, is_reserved, defined, use_of, is_mark, is_define, hash}
use Rattle.spl_cuts.specs.Reading.{fed, fed_at, name_found, named, kept_as}

-- a state in another phase
abbrev pub in_phase : Phase → State → State
in_phase p s = record s { phase = p }

named_in : (p q : Phase) (s : State) (n : List ℕ) (r : Bool) (o : Option (List Sign))
    → named (in_phase p s) n r o ≡ named (in_phase q s) n r o
unfolding named
named_in p q s n false None = refl
named_in p q s n false (Some xs) = refl
named_in p q s n true o = refl

-- the phase before a name does not matter
pub name_in : (p q : Phase) (s : State) (x : Sign) → name_found (in_phase p s) x ≡ name_found (in_phase q s) x
unfolding name_found
name_in p q s (word n) = named_in p q s n (is_reserved n) (defined n s.defines)
name_in p q s (number n) = refl
name_in p q s (wide n) = refl
name_in p q s (chars cs) = refl
name_in p q s (mark m) = refl
name_in p q s stop = refl

kept_in : (p q : Phase) (s : State) (x : Sign) (n : List ℕ) (ks : List Sign) (o : Option (List Sign))
    → kept_as (in_phase p s) x n ks o ≡ kept_as (in_phase q s) x n ks o
unfolding kept_as
kept_in p q s x n ks None = refl
kept_in p q s x n ks (Some xs) = refl

-- nor does the place of a token inside
pub inside_in : (p q : Phase) (s : State) (n : List ℕ) (ks : List Sign) (t u : Found) → t.what ≡ u.what
    → fed_at (inside n ks) (in_phase p s) t ≡ fed_at (inside n ks) (in_phase q s) u
unfolding fed_at
inside_in p q s n ks t u e = rw e (by (is_mark hash u.what) (is_define u.what))
  where
    by : (a b : Bool)
        → (if a then Some (record s { defines = s.defines ++ record { name = n; signs = ks } ∷ []; phase = Phase.behind_hash }) else
        if b then None else Some (kept_as (in_phase p s) u.what n ks (use_of s.defines u.what)))
        ≡ (if a then Some (record s { defines = s.defines ++ record { name = n; signs = ks } ∷ []; phase = Phase.behind_hash }) else
        if b then None else Some (kept_as (in_phase q s) u.what n ks (use_of s.defines u.what)))
    by true b = refl
    by false true = refl
    by false false = ap (λ (z : State). Some z) (kept_in p q s u.what n ks (use_of s.defines u.what))

-- what a token is taken for before the name of a DEFINE, and inside one
pub before_name_fed : (s : State) (q : Phase) (t : Found) → s.phase ≡ Phase.before_name
    → fed s t ≡ name_found (in_phase q s) t.what
unfolding fed fed_at
before_name_fed s q t e = ap (λ (p : Phase). fed_at p s t) e ∙ name_in s.phase q s t.what

pub inside_fed : (s : State) (q : Phase) (n : List ℕ) (ks : List Sign) (t u : Found) → s.phase ≡ inside n ks
    → t.what ≡ u.what
    → fed s t ≡ fed_at (inside n ks) (in_phase q s) u
unfolding fed
inside_fed s q n ks t u e f = ap (λ (p : Phase). fed_at p s t) e ∙ inside_in s.phase q s n ks t u f
