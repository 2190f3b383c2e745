-- The first of some faults: each other one comes behind it, or is of the same place and rule.
use Rattle.std.proofs.Common.{ℕ, ◌≡◌, ◌<◌, ◌==◌, Bool, true, false, List, [], ◌∷◌, Option, Some, None, inl, inr, refl, sym, ap, subst, ◌∙◌, arith}
use Rattle.std.specs.Prelude.{◌⊎◌, ◌↔◌, ◌&&◌, ◌||◌, nat_lt, if◌then◌else◌}
use Rattle.std.proofs.lemmas.Bool.{ltb-true, ltb-false, lt-ltb, le-ltb, eqb-true, eq-eqb}
use Rattle.spl_tree.specs.declared.names_and_places.At.{At}
use Rattle.spl_meaning.specs.Tables.{Source}
use Rattle.spl_meaning.specs.Faults.{Fault, fault, is_lower, is_before, first_fault, IsAmong}
use Rattle.spl_meaning.specs.Sound.{all_faults, Breaks, IsSound, first_broken}

-- ---- the order of numbers one behind the other

-- a number is lower, or the same and what follows is lower
lower_cases : (a b : ℕ) (p : Bool) → is_lower a b p ≡ true → (a < b) ⊎ ((a ≡ b) × (p ≡ true))
lower_cases a b p e = by (nat_lt a b) (a == b) p refl refl e
  where
    by : (l s : Bool) (p : Bool) → nat_lt a b ≡ l → (a == b) ≡ s → (l || (s && p)) ≡ true → (a < b) ⊎ ((a ≡ b) × (p ≡ true))
    by true s p l q e = inl (ltb-true a b l)
    by false true true l q e = inr (eqb-true a b q, refl)
    by false true false l q e = cc
    by false false p l q e = cc

-- it is neither
not_lower : (a b : ℕ) (p : Bool) → is_lower a b p ≡ false → (b < a) ⊎ ((a ≡ b) × (p ≡ false))
not_lower a b p e = by (nat_lt a b) (nat_lt b a) p refl refl e
  where
    same : (a b : ℕ) → nat_lt a b ≡ false → nat_lt b a ≡ false → a ≡ b
    same a b l m = let x = ltb-false a b l in let y = ltb-false b a m in omega (arith, x, y)

    by : (l m p : Bool) → nat_lt a b ≡ l → nat_lt b a ≡ m → (l || ((a == b) && p)) ≡ false → (b < a) ⊎ ((a ≡ b) × (p ≡ false))
    by true m p l q e = cc
    by false true p l q e = inl (ltb-true b a q)
    by false false false l q e = inr (same a b l q, refl)
    by false false true l q e =
        let t : (a == b) ≡ true = eq-eqb a b (same a b l q) in
        inr (same a b l q, sym (ap (λ (x : Bool). x && true) t) ∙ e)

lower_less : (a b : ℕ) (p : Bool) → a < b → is_lower a b p ≡ true
lower_less a b p l = ap (λ (x : Bool). x || ((a == b) && p)) (lt-ltb a b l)

lower_same : (a b : ℕ) (p : Bool) → a ≡ b → p ≡ true → is_lower a b p ≡ true
lower_same a b p e t = by (nat_lt a b) (eq-eqb a b e) t
  where
    by : (l : Bool) → (a == b) ≡ true → p ≡ true → (l || ((a == b) && p)) ≡ true
    by true s t = refl
    by false s t = ap (λ (x : Bool). x && p) s ∙ t

-- what is lower than a lower one is lower
lower_on : (a b c : ℕ) (p q r : Bool) → (p ≡ true → q ≡ true → r ≡ true) → is_lower a b p ≡ true → is_lower b c q ≡ true
    → is_lower a c r ≡ true
lower_on a b c p q r h e f = by (lower_cases a b p e) (lower_cases b c q f)
  where
    by : (a < b) ⊎ ((a ≡ b) × (p ≡ true)) → (b < c) ⊎ ((b ≡ c) × (q ≡ true)) → is_lower a c r ≡ true
    by (inl l) (inl m) = lower_less a c r (omega (arith, l, m))
    by (inl l) (inr m) = lower_less a c r (omega (arith, l, m.0))
    by (inr l) (inl m) = lower_less a c r (omega (arith, l.0, m))
    by (inr l) (inr m) = lower_same a c r (l.0 ∙ m.0) (h l.1 m.1)

lower_false : (a b : ℕ) (p : Bool) → (is_lower a b p ≡ true → ⊥) → is_lower a b p ≡ false
lower_false a b p h = by (is_lower a b p) h
  where
    by : (x : Bool) → (x ≡ true → ⊥) → x ≡ false
    by true h = absurd (h refl)
    by false h = refl

-- what is not lower than one that is not lower is not
not_lower_on : (a b c : ℕ) (p q r : Bool) → (p ≡ false → q ≡ false → r ≡ false) → is_lower a b p ≡ false → is_lower b c q ≡ false
    → is_lower a c r ≡ false
not_lower_on a b c p q r h e f = lower_false a c r (λ t. by (lower_cases a c r t) (not_lower a b p e) (not_lower b c q f))
  where
    by : (a < c) ⊎ ((a ≡ c) × (r ≡ true)) → (b < a) ⊎ ((a ≡ b) × (p ≡ false)) → (c < b) ⊎ ((b ≡ c) × (q ≡ false)) → ⊥
    by (inl l) (inl m) (inl k) = omega (arith, l, m, k)
    by (inl l) (inl m) (inr k) = omega (arith, l, m, k.0)
    by (inl l) (inr m) (inl k) = omega (arith, l, m.0, k)
    by (inl l) (inr m) (inr k) = omega (arith, l, m.0, k.0)
    by (inr l) (inl m) (inl k) = omega (arith, l.0, m, k)
    by (inr l) (inl m) (inr k) = omega (arith, l.0, m, k.0)
    by (inr l) (inr m) (inl k) = omega (arith, l.0, m.0, k)
    by (inr l) (inr m) (inr k) = let no : r ≡ false = h m.1 k.1 in let yes : r ≡ true = l.1 in cc

-- ---- the order of faults

before_on : (f g h : Fault) → is_before f g ≡ true → is_before g h ≡ true → is_before f h ≡ true
before_on f g h =
    lower_on f.at.unit g.at.unit h.at.unit _ _ _ (lower_on f.at.line g.at.line h.at.line _ _ _ (lower_on f.at.column g.at.column h.at.column _ _ _
    (λ l m. let x = ltb-true f.rule g.rule l in let y = ltb-true g.rule h.rule m in lt-ltb f.rule h.rule (omega (arith, x, y)))))

not_before_on : (f g h : Fault) → is_before f g ≡ false → is_before g h ≡ false → is_before f h ≡ false
not_before_on f g h =
    not_lower_on f.at.unit g.at.unit h.at.unit _ _ _ (not_lower_on f.at.line g.at.line h.at.line _ _ _ (not_lower_on f.at.column g.at.column h.at.column _ _ _
    (λ l m. let x = ltb-false f.rule g.rule l in let y = ltb-false g.rule h.rule m in le-ltb f.rule h.rule (omega (arith, x, y)))))

not_lower_itself : (a : ℕ) (p : Bool) → p ≡ false → is_lower a a p ≡ false
not_lower_itself a p h = lower_false a a p (λ t. by (lower_cases a a p t))
  where
    by : (a < a) ⊎ ((a ≡ a) × (p ≡ true)) → ⊥
    by (inl l) = omega (arith, l)
    by (inr l) = let no : p ≡ false = h in let yes : p ≡ true = l.1 in cc

not_before_itself : (f : Fault) → is_before f f ≡ false
not_before_itself f =
    not_lower_itself f.at.unit _ (not_lower_itself f.at.line _ (not_lower_itself f.at.column _ (le-ltb f.rule f.rule (omega arith))))

-- what is before another is not behind it
before_not_behind : (f g : Fault) → is_before f g ≡ true → is_before g f ≡ false
before_not_behind f g e = by (is_before g f) refl
  where
    by : (x : Bool) → is_before g f ≡ x → is_before g f ≡ false
    by true t = let both : is_before f f ≡ true = before_on f g f e t in let none : is_before f f ≡ false = not_before_itself f in cc
    by false t = t

-- ---- the first of a list

-- f is one of some faults and of those known before, and none of these comes before it
record First (e f : Fault) (fs : List Fault) : Type 0 where
  pub among : IsAmong f (e ∷ fs)
  pub not_known : is_before e f ≡ false
  pub not_one : (g : Fault) → IsAmong g fs → is_before g f ≡ false

same_some : {A : Type 0} (a b : A) → Some a ≡ Some b → a ≡ b
same_some {A = A} a b e = ap (λ (o : Option A). by o) e
  where
    by : Option A → A
    by None = a
    by (Some c) = c

first_of : (e f : Fault) (fs : List Fault) → first_fault (Some e) fs ≡ Some f → First e f fs
first_of e f [] p = record {
  among = inl (sym (same_some e f p));
  not_known = subst (λ (g : Fault). is_before e g ≡ false) (same_some e f p) (not_before_itself e);
  not_one = λ g m. none g m;
}
  where
    none : (g : Fault) → IsAmong g [] → is_before g f ≡ false
    none g m = absurd m
first_of e f (h ∷ fs) p = by (is_before h e) refl p (first_of h f fs) (first_of e f fs)
  where
    widened : IsAmong f (e ∷ fs) → IsAmong f (e ∷ h ∷ fs)
    widened (inl s) = inl s
    widened (inr m) = inr (inr m)

    each : (g : Fault) → is_before h f ≡ false → ((g : Fault) → IsAmong g fs → is_before g f ≡ false) → IsAmong g (h ∷ fs) → is_before g f ≡ false
    each g a b (inl s) = subst (λ (k : Fault). is_before k f ≡ false) (sym s) a
    each g a b (inr m) = b g m

    by : (x : Bool) → is_before h e ≡ x → first_fault (if x then Some h else Some e) fs ≡ Some f
        → (first_fault (Some h) fs ≡ Some f → First h f fs) → (first_fault (Some e) fs ≡ Some f → First e f fs) → First e f (h ∷ fs)
    by true t p new old =
        let i = new p in record {
          among = inr i.among;
          not_known = not_before_on e h f (before_not_behind h e t) i.not_known;
          not_one = λ g m. each g i.not_known i.not_one m;
        }
    by false t p new old =
        let i = old p in record {
          among = widened i.among;
          not_known = i.not_known;
          not_one = λ g m. each g (not_before_on h e f t i.not_known) i.not_one m;
        }

-- the first of some faults
pub first_is : (fs : List Fault) (f : Fault) → first_fault None fs ≡ Some f → IsAmong f fs × ((g : Fault) → IsAmong g fs → is_before g f ≡ false)
first_is [] f p = cc
first_is (e ∷ fs) f p = let i = first_of e f fs p in (i.among, λ g m. each i.not_known i.not_one g m)
  where
    each : is_before e f ≡ false → ((g : Fault) → IsAmong g fs → is_before g f ≡ false) → (g : Fault) → IsAmong g (e ∷ fs) → is_before g f ≡ false
    each a b g (inl s) = subst (λ (k : Fault). is_before k f ≡ false) (sym s) a
    each a b g (inr m) = b g m

-- some fault is the first where there is one
known_stays : (e : Fault) (fs : List Fault) → first_fault (Some e) fs ≡ None → ⊥
known_stays e [] p = cc
known_stays e (h ∷ fs) p = by (is_before h e) p (known_stays h fs) (known_stays e fs)
  where
    by : (x : Bool) → first_fault (if x then Some h else Some e) fs ≡ None → (first_fault (Some h) fs ≡ None → ⊥)
        → (first_fault (Some e) fs ≡ None → ⊥) → ⊥
    by true p new old = new p
    by false p new old = old p

pub none_is : (fs : List Fault) → first_fault None fs ≡ None → (g : Fault) → IsAmong g fs → ⊥
none_is [] p g m = m
none_is (e ∷ fs) p g m = known_stays e fs p

pub none_where_none : (fs : List Fault) → ((g : Fault) → IsAmong g fs → ⊥) → first_fault None fs ≡ None
none_where_none [] h = refl
none_where_none (e ∷ fs) h = absurd (h e (inl refl))

pub first_rule_is : (us : List Source) (f : Fault) → first_broken us ≡ Some f
    → Breaks f.rule us f.at × ((rule : ℕ) (at : At) → Breaks rule us at → is_before (fault rule at) f ≡ false)
first_rule_is us f p = let i = first_is (all_faults us) f p in (i.0, λ rule at m. i.1 (fault rule at) m)

pub sound_is : (us : List Source) → (first_broken us ≡ None) ↔ IsSound us
sound_is us = ((λ p rule at m. none_is (all_faults us) p (fault rule at) m), (λ h. none_where_none (all_faults us) (λ g m. h g.rule g.at m)))
