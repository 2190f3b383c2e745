-- The first of two lists of faults, one behind the other, in either order.
use Rattle.std.proofs.Common.{ℕ, ◌≡◌, ◌==◌, Bool, true, false, List, [], ◌∷◌, ◌++◌, Option, Some, None, inl, inr, refl, sym, ap, ◌∙◌, arith}
use Rattle.std.specs.Prelude.{◌⊎◌, ◌&&◌, ◌||◌, nat_lt}
use Rattle.std.proofs.lemmas.Bool.{ltb-false, eq-eqb}
use Rattle.spl_meaning.specs.Faults.{Fault, is_lower, is_before, sooner, first_fault, IsAmong}
use Rattle.spl_meaning.proofs.FirstFaults.{first_is, none_is}

-- the first behind both is the first behind the second, with that behind the first known
pub first_then : (f : Option Fault) (fs gs : List Fault) → first_fault f (fs ++ gs) ≡ first_fault (first_fault f fs) gs
first_then f [] gs = refl
first_then f (g ∷ fs) gs = first_then (sooner f g) fs gs

-- ---- faults neither of which is before the other

-- numbers neither of which is lower are equal, and so is what follows
neither_lower : (a b : ℕ) (p q : Bool) → is_lower a b p ≡ false → is_lower b a q ≡ false → (a ≡ b) × ((p ≡ false) × (q ≡ false))
neither_lower a b p q e f = by (nat_lt a b) (nat_lt b a) p q refl refl e f
  where
    same : (a b : ℕ) → nat_lt a b ≡ false → nat_lt b a ≡ false → a ≡ b
    same a b l m = let x = ltb-false a b l in let y = ltb-false b a m in omega (arith, x, y)

    by : (l m p q : Bool) → nat_lt a b ≡ l → nat_lt b a ≡ m → (l || ((a == b) && p)) ≡ false → (m || ((b == a) && q)) ≡ false
        → (a ≡ b) × ((p ≡ false) × (q ≡ false))
    by true m p q l k e f = cc
    by false true p q l k e f = cc
    by false false false false l k e f = (same a b l k, (refl, refl))
    by false false true q l k e f = let t : (a == b) ≡ true = eq-eqb a b (same a b l k) in cc (sym (ap (λ (x : Bool). x && true) t) ∙ e)
    by false false false true l k e f = let t : (b == a) ≡ true = eq-eqb b a (same b a k l) in cc (sym (ap (λ (x : Bool). x && true) t) ∙ f)

-- they are one
neither_before : (f g : Fault) → is_before f g ≡ false → is_before g f ≡ false → f ≡ g
neither_before f g p q =
    let unit = neither_lower f.at.unit g.at.unit _ _ p q in
    let line = neither_lower f.at.line g.at.line _ _ unit.1.0 unit.1.1 in
    let column = neither_lower f.at.column g.at.column _ _ line.1.0 line.1.1 in
    let x = ltb-false f.rule g.rule column.1.0 in
    let y = ltb-false g.rule f.rule column.1.1 in
    let rule : f.rule ≡ g.rule = omega (arith, x, y) in
    λ i. record { rule = rule i; at = record { unit = unit.0 i; line = line.0 i; column = column.0 i } }

-- ---- lists with the same faults have one first

one_first : (fs gs : List Fault) → ((h : Fault) → IsAmong h fs → IsAmong h gs) → ((h : Fault) → IsAmong h gs → IsAmong h fs)
    → first_fault None fs ≡ first_fault None gs
one_first fs gs there back = by (first_fault None fs) (first_fault None gs) refl refl
  where
    by : (p q : Option Fault) → first_fault None fs ≡ p → first_fault None gs ≡ q → p ≡ q
    by None None d e = refl
    by None (Some g) d e = absurd (none_is fs d g (back g (first_is gs g e).0))
    by (Some f) None d e = absurd (none_is gs e f (there f (first_is fs f d).0))
    by (Some f) (Some g) d e =
        let i = first_is fs f d in
        let j = first_is gs g e in
        ap Some (neither_before f g (j.1 f (there f i.0)) (i.1 g (back g j.0)))

-- a fault of two lists is in one of them
among_either : (h : Fault) (fs gs : List Fault) → IsAmong h (fs ++ gs) → IsAmong h fs ⊎ IsAmong h gs
among_either h [] gs m = inr m
among_either h (f ∷ fs) gs (inl s) = inl (inl s)
among_either h (f ∷ fs) gs (inr m) = by (among_either h fs gs m)
  where
    by : IsAmong h fs ⊎ IsAmong h gs → IsAmong h (f ∷ fs) ⊎ IsAmong h gs
    by (inl k) = inl (inr k)
    by (inr k) = inr k

among_left : (h : Fault) (fs gs : List Fault) → IsAmong h fs → IsAmong h (fs ++ gs)
among_left h [] gs m = absurd m
among_left h (f ∷ fs) gs (inl s) = inl s
among_left h (f ∷ fs) gs (inr m) = inr (among_left h fs gs m)

among_right : (h : Fault) (fs gs : List Fault) → IsAmong h gs → IsAmong h (fs ++ gs)
among_right h [] gs m = m
among_right h (f ∷ fs) gs m = inr (among_right h fs gs m)

turned : (h : Fault) (fs gs : List Fault) → IsAmong h (fs ++ gs) → IsAmong h (gs ++ fs)
turned h fs gs m = by (among_either h fs gs m)
  where
    by : IsAmong h fs ⊎ IsAmong h gs → IsAmong h (gs ++ fs)
    by (inl k) = among_right h gs fs k
    by (inr k) = among_left h gs fs k

-- a fault that is known stands before both
known_turned : (e h : Fault) (fs gs : List Fault) → IsAmong h (e ∷ fs ++ gs) → IsAmong h (e ∷ gs ++ fs)
known_turned e h fs gs (inl s) = inl s
known_turned e h fs gs (inr m) = inr (turned h fs gs m)

-- the first of two lists is the same in either order
either_order : (f : Option Fault) (fs gs : List Fault) → first_fault f (fs ++ gs) ≡ first_fault f (gs ++ fs)
either_order None fs gs = one_first (fs ++ gs) (gs ++ fs) (λ h. turned h fs gs) (λ h. turned h gs fs)
either_order (Some e) fs gs = one_first (e ∷ fs ++ gs) (e ∷ gs ++ fs) (λ h. known_turned e h fs gs) (λ h. known_turned e h gs fs)

-- so what is looked at first may be looked at last
pub turn : (f : Option Fault) (fs gs : List Fault) → first_fault (first_fault f fs) gs ≡ first_fault (first_fault f gs) fs
turn f fs gs = sym (first_then f fs gs) ∙ either_order f fs gs ∙ first_then f gs fs
