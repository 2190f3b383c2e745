-- Names, and the last of a list.
use Rattle.std.proofs.Common.{◌≡◌, ℕ, zero, suc, ◌+◌, ◌-◌, ◌<◌, ◌≤◌, true, cond, List, [], ◌∷◌, ◌++◌, length, get_or, map, Vec, Global, Some, refl, sym, ap, ◌∙◌, arith}
use Rattle.std.specs.Prelude.{Result, Ok, Err, OnOk}
use lib.ListN.{set}
use Rattle.spl_tree.specs.declared.names_and_places.Chars.{Chars}
use Rattle.std.specs.List.{position, position_from}
use Rattle.std.proofs.lemmas.Iterator.Adapters.{position_from-zero}
use Rattle.std.proofs.lemmas.Bool.Decides.{nat_tests}
use Rattle.job_text.specs.declared.job.Text.{Text}
use Rattle.job_lines.specs.Lines.{same}
use Rattle.job_text.specs.States.{program_number, at_last, with_unit}
use Rattle.job_lines.specs.Names.{is_program_name}
use Rattle.job_text.specs.Rules.{last_units}
use Rattle.job_text.specs.Views.{text_value}

-- a program's name has at most 8 characters
pub short_name : (w : List ℕ) → is_program_name w ≡ true → length w ≤ 8
unfolding is_program_name
short_name [] h = cc
short_name (b ∷ bs) h = grind (arith, nat_tests)

pub ruleset names = short_name

-- the number of a program, by its text
number_map : (name : List ℕ) (n : ℕ) (ps : List Text)
    → position_from (λ p. same p.name name) n (map text_value ps) ≡ position_from (λ p. same p.name.text.items name) n ps
number_map name n [] = refl
number_map name n (p ∷ ps) = ap (cond (same p.name.text.items name) (Some n)) (number_map name (n + 1) ps)

pub number_is : (name : List ℕ) (ps : List Text) → program_number name (map text_value ps) ≡ position (λ p. same p.name.text.items name) ps
number_is name ps = number_map name 0 ps ∙ sym (position_from-zero (λ (p : Text). same p.name.text.items name) ps)

pub ruleset numbers = number_is

-- Something done to the last of a list, at its place

last_at : {X Y : Type 0} (f : X → Y) (g : Y → Y) (xs : List X) (i : ℕ) (x y : X) → suc i ≡ length xs → x ≡ get_or xs i x → f y ≡ g (f x)
    → map f (set xs i y) ≡ at_last g (map f xs)
last_at f g [] i x y n e h = absurd (omega (arith, n))
last_at f g (a ∷ []) zero x y n e h = ap (λ z. z ∷ []) (h ∙ ap (λ w. g (f w)) e)
last_at f g (a ∷ []) (suc i) x y n e h = absurd (omega (arith, n))
last_at f g (a ∷ b ∷ xs) zero x y n e h = absurd (omega (arith, n))
last_at f g (a ∷ b ∷ xs) (suc i) x y n e h = ap (λ z. f a ∷ z) (last_at f g (b ∷ xs) i x y (omega (arith, n)) e h)

pub last_changed : {X Y : Type 0} (f : X → Y) (g : Y → Y) (xs : List X) (x y : X) → 0 < length xs → x ≡ get_or xs (length xs - 1) x → f y ≡ g (f x)
    → map f (set xs (length xs - 1) y) ≡ at_last g (map f xs)
last_changed f g xs x y l e h = last_at f g xs (length xs - 1) x y (omega (arith, l)) e h

-- the same where it may fail
pub last_changed_if : {X Y A E : Type 0} (f : X → Y) (g : Y → Y) (xs : List X) (x y : X) (r : Result A E) → 0 < length xs → x ≡ get_or xs (length xs - 1) x
    → OnOk r (f y ≡ g (f x)) → OnOk r (map f (set xs (length xs - 1) y) ≡ at_last g (map f xs))
last_changed_if f g xs x y (Ok u) l e h = last_changed f g xs x y l e h
last_changed_if f g xs x y (Err u) l e h = tt

-- The units of the last program

units_at : (ps : List Text) (i : ℕ) (p : Text) → suc i ≡ length ps → p ≡ get_or ps i p → last_units (map text_value ps) ≡ (text_value p).units
units_at [] i p n e = absurd (omega (arith, n))
units_at (q ∷ []) zero p n e = ap (λ (t : Text). (text_value t).units) (sym e)
units_at (q ∷ []) (suc i) p n e = absurd (omega (arith, n))
units_at (q ∷ r ∷ ps) zero p n e = absurd (omega (arith, n))
units_at (q ∷ r ∷ ps) (suc i) p n e = units_at (r ∷ ps) i p (omega (arith, n)) e

length_units : (units : List Chars) → length (map (λ u. u.bytes.items) units) ≡ length units
length_units [] = refl
length_units (u ∷ us) = ap suc (length_units us)

pub last_units_are : (ps : List Text) (p : Text) → 0 < length ps → p ≡ get_or ps (length ps - 1) p → length (last_units (map text_value ps)) ≡ length p.units.items
last_units_are ps p l e = ap length (units_at ps (length ps - 1) p (omega (arith, l)) e) ∙ length_units p.units.items

-- A unit more, with no text

units_more : (us : List Chars) (u : Chars) → u.bytes.items ≡ [] → map (λ x. x.bytes.items) (us ++ u ∷ []) ≡ map (λ x. x.bytes.items) us ++ [] ∷ []
units_more [] u e = ap (λ z. z ∷ []) e
units_more (x ∷ us) u e = ap (λ z. x.bytes.items ∷ z) (units_more us u e)

pub one_unit_more : (p : Text) (units : Vec Chars Global) (u : Chars) → units.items ≡ p.units.items ++ u ∷ [] → u.bytes.items ≡ []
    → text_value (record { name = p.name; units = units }) ≡ with_unit (text_value p)
one_unit_more p units u e f =
    ap (λ (us : List (List ℕ)). record { name = p.name.text.items; units = us }) (ap (map (λ (x : Chars). x.bytes.items)) e ∙ units_more p.units.items u f)
