-- A name is misused exactly where it breaks 1 or 3 in an expression.
use Rattle.std.proofs.Common.{ℕ, ◌≡◌, ◌==◌, Bool, true, false, List, Option, Some, None, inl, inr, refl, sym, ap, ◌∙◌}
use Rattle.std.specs.Prelude.{◌⊎◌, ◌↔◌, ◌++◌, ◌||◌, not, nat_le}
use Rattle.spl_meaning.specs.spl_tree.declared.names_and_places.At.{At}
use Rattle.spl_meaning.specs.Names as n
use Rattle.spl_meaning.specs.Names.{Sort}
use Rattle.spl_meaning.specs.Faults.{Fault, fault, unless, IsAmong}
use Rattle.spl_meaning.specs.ExpressionRules.{Scope, is_misused}
use Rattle.spl_rules.specs.Parts as part
use Rattle.spl_rules.specs.Breaking as b
use Rattle.spl_rules.specs.Breaking.{BreaksHere}
use Rattle.spl_rules.specs.Roles as allowed
use Rattle.spl_rules.proofs.Here.{name_tests}
use Rattle.spl_rules.proofs.Cases.{broken_here}

-- a name in an expression that breaks 1 or 3
abbrev Fails : Option Sort → ℕ → Type 0
Fails s given =
    (allowed.is_declared s ≡ false) ⊎ ((allowed.is_of_sort part.operand s ≡ false) ⊎ (allowed.has_fit_index part.operand s given ≡ false))

not_true : (t : Bool) → not t ≡ true → t ≡ false
not_true true e = cc
not_true false e = refl

-- what is misused fails one of these
fails : (s : Option Sort) (given : ℕ) → is_misused s given ≡ true → Fails s given
unfolding is_misused
fails None given e = inl refl
fails (Some n.unknown) given e = cc
fails (Some n.label) given e = inr (inl refl)
fails (Some (n.intrinsic i)) given e = cc
fails (Some (n.procedure p)) given e = cc
fails (Some (n.subroutine p)) given e = cc
fails (Some (n.equate v)) given e = inr (inr (not_true (given == 0) e))
fails (Some (n.simple k own)) given e = inr (inr (not_true (given == 0) e))
fails (Some (n.value k)) given e = inr (inr (not_true (given == 0) e))
fails (Some (n.by_reference k)) given e = inr (inr (not_true (given == 0) e))
fails (Some (n.array k own low high)) given e = inr (inr (not_true (nat_le given 1) e))
fails (Some (n.view k own base)) given e = inr (inr (not_true (nat_le given 1) e))
fails (Some (n.pointer k own)) given e = inr (inr (not_true (nat_le given 1) e))
fails (Some (n.array_parameter k)) given e = inr (inr (not_true (nat_le given 1) e))

-- what these tests tell of another rule than 27 they tell of the index
index_told : (f : Fault) (t near : Bool) (at : At) → (f.rule == 27) ≡ false → IsAmong f (unless t 3 at ++ unless near 27 at) → not t ≡ true
index_told f false near at other m = refl
index_told f true true at other m = absurd m
index_told f true false at other (inl e) = let no : false ≡ true = sym other ∙ ap (λ (g : Fault). g.rule == 27) e in cc
index_told f true false at other (inr m) = absurd m

-- and so with all tests of a name
told : (sc : Scope) (x : List ℕ) (s : Option Sort) (given : ℕ) (at : At) (f : Fault) → (f.rule == 27) ≡ false
    → IsAmong f (name_tests part.operand sc x s given at) → is_misused s given ≡ true
unfolding is_misused
told sc x None given at f other m = refl
told sc x (Some n.unknown) given at f other m = absurd m
told sc x (Some n.label) given at f other m = refl
told sc x (Some (n.intrinsic i)) given at f other m = absurd m
told sc x (Some (n.procedure p)) given at f other m = absurd m
told sc x (Some (n.subroutine p)) given at f other m = absurd m
told sc x (Some (n.equate v)) given at f other m = index_told f (given == 0) true at other m
told sc x (Some (n.simple k own)) given at f other m = index_told f (given == 0) (not sc.split || sc.is_local x) at other m
told sc x (Some (n.value k)) given at f other m = index_told f (given == 0) (not sc.split || sc.is_local x) at other m
told sc x (Some (n.by_reference k)) given at f other m = index_told f (given == 0) (not sc.split || sc.is_local x) at other m
told sc x (Some (n.array k own low high)) given at f other m = index_told f (nat_le given 1) (not sc.split || sc.is_local x) at other m
told sc x (Some (n.view k own base)) given at f other m = index_told f (nat_le given 1) (not sc.split || sc.is_local x) at other m
told sc x (Some (n.pointer k own)) given at f other m = index_told f (nat_le given 1) (not sc.split || sc.is_local x) at other m
told sc x (Some (n.array_parameter k)) given at f other m = index_told f (nat_le given 1) (not sc.split || sc.is_local x) at other m

pub misused_break : (sc : Scope) (x : List ℕ) (given : ℕ) (at : At)
    → (is_misused (sc.names x) given ≡ true)
    ↔ (BreaksHere 1 (part.name part.operand sc x given at) at ⊎ BreaksHere 3 (part.name part.operand sc x given at) at)
misused_break sc x given at = ((λ e. breaks (fails (sc.names x) given e)), misused)
  where
    breaks : Fails (sc.names x) given
        → BreaksHere 1 (part.name part.operand sc x given at) at ⊎ BreaksHere 3 (part.name part.operand sc x given at) at
    breaks (inl e) = inl (b.undeclared e)
    breaks (inr (inl e)) = inr (b.wrong_sort e)
    breaks (inr (inr e)) = inr (b.wrong_index e)

    misused : BreaksHere 1 (part.name part.operand sc x given at) at ⊎ BreaksHere 3 (part.name part.operand sc x given at) at
        → is_misused (sc.names x) given ≡ true
    misused (inl d) = told sc x (sc.names x) given at (fault 1 at) refl (broken_here 1 (part.name part.operand sc x given at) at d)
    misused (inr d) = told sc x (sc.names x) given at (fault 3 at) refl (broken_here 3 (part.name part.operand sc x given at) at d)
