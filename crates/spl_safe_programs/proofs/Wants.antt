-- A name that is among those that a module wants stands there at a place; and all of them are among them.
use Rattle.std.proofs.Common.{◌≡◌, ◌⊎◌, inl, inr, ℕ, zero, suc, ◌||◌, Bool, true, false, List, [], ◌∷◌, slice_get, Some, refl, sym, ap, subst, ◌∙◌}
use Rattle.std.specs.Bool.{beq}
use Rattle.std.specs.Str.{bytes_eq}
use Rattle.std.specs.List.{list_all}
use lib.Pointwise.{bytes_decides}
use Rattle.std.proofs.lemmas.Bool.{and_parts, and_from, or_left, or_right}
use Rattle.std.proofs.lemmas.List.Folds.{list_all-append}
use Rattle.spl_sound_programs.specs.spl_linked_names.spl_meaning.Laws.{IsFront}
use Rattle.spl_sound_programs.specs.spl_linked_names.spl_routes.spl_code.Parts.{Wanted, is_wanted}

pub never : {A : Type 0} → false ≡ true → A
never e = cc

pub either : (a b : Bool) → (a || b) ≡ true → (a ≡ true) ⊎ (b ≡ true)
either true b e = inl refl
either false b e = inr e

pub some_same : {A : Type 0} (a b : A) → Some a ≡ Some b → a ≡ b
some_same a b e = cc

-- one that is among some
abbrev pub wanted_in : List Wanted → Wanted → Bool
wanted_in [] w = false
wanted_in (v ∷ vs) w = is_wanted w.name w.gate v || wanted_in vs w

-- a want with this name, and of the gate or not, is this want
want_is : (w v : Wanted) → is_wanted w.name w.gate v ≡ true → v ≡ w
want_is w v e = let two = and_parts (bytes_eq v.name w.name) (beq v.gate w.gate) e in rw ((bytes_decides v.name w.name).0 two.0, gates v.gate w.gate two.1) refl
  where
    gates : (a b : Bool) → beq a b ≡ true → a ≡ b
    gates true true h = refl
    gates true false h = cc
    gates false true h = cc
    gates false false h = refl

want_self : (w : Wanted) → is_wanted w.name w.gate w ≡ true
want_self w = and_from (bytes_eq w.name w.name) (beq w.gate w.gate) ((bytes_decides w.name w.name).1 refl) (gates w.gate)
  where
    gates : (a : Bool) → beq a a ≡ true
    gates true = refl
    gates false = refl

-- it stands at a place
pub place_in : (vs : List Wanted) (w : Wanted) → wanted_in vs w ≡ true → (i : ℕ) × (slice_get vs i ≡ Some w)
place_in [] w e = never e
place_in (v ∷ vs) w e = by (either (is_wanted w.name w.gate v) (wanted_in vs w) e) (place_in vs w)
  where
    by : (is_wanted w.name w.gate v ≡ true) ⊎ (wanted_in vs w ≡ true) → (wanted_in vs w ≡ true → (i : ℕ) × (slice_get vs i ≡ Some w))
        → (i : ℕ) × (slice_get (v ∷ vs) i ≡ Some w)
    by (inl here) rest = (0, ap (λ (u : Wanted). Some u) (want_is w v here))
    by (inr there) rest = let r = rest there in (suc r.0, r.1)

-- each is among them
in_at : (vs : List Wanted) (i : ℕ) (w : Wanted) → slice_get vs i ≡ Some w → wanted_in vs w ≡ true
in_at [] i w e = cc
in_at (v ∷ vs) zero w e =
    or_left (is_wanted w.name w.gate v) (wanted_in vs w)
    (subst (λ (u : Wanted). is_wanted w.name w.gate u ≡ true) (sym (some_same v w e)) (want_self w))
in_at (v ∷ vs) (suc i) w e = or_right (is_wanted w.name w.gate v) (wanted_in vs w) (in_at vs i w e)

each_passes : (f : Wanted → Bool) (vs : List Wanted) → ((i : ℕ) (w : Wanted) → slice_get vs i ≡ Some w → f w ≡ true) → list_all f vs ≡ true
each_passes f [] each = refl
each_passes f (v ∷ vs) each = and_from (f v) (list_all f vs) (each 0 v refl) (each_passes f vs (λ i w is. each (suc i) w is))

pub all_in : (vs : List Wanted) → list_all (wanted_in vs) vs ≡ true
all_in vs = each_passes (wanted_in vs) vs (in_at vs)

-- what all pass the first of them do
pub front_passes : (f : Wanted → Bool) (some all : List Wanted) → IsFront some all → list_all f all ≡ true → list_all f some ≡ true
front_passes f some all front h =
    (and_parts (list_all f some) (list_all f front.rest) (sym (list_all-append f some front.rest) ∙ sym (ap (λ (vs : List Wanted). list_all f vs) front.is) ∙ h)).0
