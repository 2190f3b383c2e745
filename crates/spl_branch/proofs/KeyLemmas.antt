-- The wants and their names stand in one order, so that a name's place among the one is its place among the other.
use Rattle.std.proofs.Common.{◌≡◌, ◌∙◌, ℕ, Bool, true, false, cond, nat_eq, nat_lt, List, [], ◌∷◌, map, length, Some, None, refl, sym, ap, arith}
use Rattle.std.specs.Prelude.{◌&&◌, not, position}
use Rattle.std.specs.Bool.{beq}
use Rattle.std.specs.Str.{bytes_eq}
use Rattle.std.specs.List.{prefix_len}
use Rattle.std.proofs.lemmas.List.{length-map}
use Rattle.spl_branch.specs.declared.modules.Want.{Want}
use Rattle.spl_branch.specs.declared.wants.Key.{Key}
use Rattle.spl_branch.specs.Codes.{same_want}
use Rattle.spl_branch.specs.Keys.{asked, seen}

-- keys are equal by their letters and their kind
abbrev pub same : Key → Key → Bool
same j k = bytes_eq j.name.items k.name.items && beq j.gate k.gate

-- the same letters and kind
abbrev is_that : List ℕ → Bool → List ℕ × Bool → Bool
is_that x gate p = bytes_eq p.0 x && beq p.1 gate

number_flips : (a b : ℕ) → nat_eq a b ≡ nat_eq b a
number_flips a b = grind arith

bool_flips : (a b : Bool) → beq a b ≡ beq b a
bool_flips true true = refl
bool_flips true false = refl
bool_flips false true = refl
bool_flips false false = refl

letters_flip : (x y : List ℕ) → bytes_eq x y ≡ bytes_eq y x
letters_flip [] [] = refl
letters_flip [] (b ∷ y) = refl
letters_flip (a ∷ x) [] = refl
letters_flip (a ∷ x) (b ∷ y) = rw (number_flips a b, letters_flip x y) refl

same_flips : (j k : Key) → same j k ≡ is_that j.name.items j.gate (seen k)
same_flips j k = rw (letters_flip j.name.items k.name.items, bool_flips j.gate k.gate) refl

-- the first of a list that passes stands where the first of its images does
position_map : {A B : Type 0} (f : A → B) (p : A → Bool) (q : B → Bool) → ((a : A) → p a ≡ q (f a)) → (xs : List A) → position p xs ≡ position q (map f xs)
position_map {A} f p q h xs =
    ap (λ n. cond (nat_lt n (length xs)) (Some n) None) (prefix xs)
    ∙ ap (λ l. cond (nat_lt (prefix_len (λ b. not (q b)) (map f xs)) l) (Some (prefix_len (λ b. not (q b)) (map f xs))) None) (sym (length-map xs f))
  where
    prefix : (xs : List A) → prefix_len (λ a. not (p a)) xs ≡ prefix_len (λ b. not (q b)) (map f xs)
    prefix [] = refl
    prefix (a ∷ xs) = rw (h a, prefix xs) refl

-- a key is found where its want is
pub found_key : (ks : List Key) (ws : List Want) (k : Key) (x : List ℕ) (gate : Bool) → map seen ks ≡ map asked ws → seen k ≡ (x, gate)
    → position (same k) ks ≡ position (same_want x gate) ws
found_key ks ws k x gate keyed key =
    position_map seen (same k) (is_that k.name.items k.gate) (same_flips k) ks
    ∙ ap (λ (p : List ℕ × Bool). position (is_that p.0 p.1) (map seen ks)) key
    ∙ ap (λ ps. position (is_that x gate) ps) keyed
    ∙ sym (position_map asked (same_want x gate) (is_that x gate) (λ w. refl) ws)
