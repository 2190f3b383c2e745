-- The names of a list of declarations, and of parameters.
use Rattle.std.proofs.Common.{◌≡◌, ◌<◌, ◌≤◌, ℕ, ◌+◌, Bool, true, false, List, [], ◌∷◌, map, drop, length, get_or, Option, Some, None, refl, ap, ◌∙◌}
use Rattle.std.specs.Prelude.{if◌then◌else◌, ◌||◌, is_some}
use Rattle.spl_tree.specs.Views.{letters}
use Rattle.spl_sorts.specs.spl_meaning.Names as n
use Rattle.spl_sorts.specs.spl_meaning.Names.{Names, Sort, Table, find, or_else, same_name, sort_by, parameters}
use Rattle.spl_sorts.specs.spl_meaning.Tables as t
use Rattle.spl_uses.specs.spl_found.OwnNames.{over, with_name}
use Rattle.spl_uses.proofs.spl_found_proofs.OwnNames.{find_declared}
use Rattle.spl_sorts.specs.declared.profiles.Formal.{Formal}
use Rattle.spl_sorts.specs.Profiles.{formal_of}
use Rattle.spl_profiles.specs.Headings.{behind_formals}
use Rattle.spl_profiles.proofs.NameWalks.{onward, onward_end}

-- names outside that stand there twice
seen_twice : (a b : Option Sort) → or_else a (or_else b b) ≡ or_else a b
seen_twice (Some s) b = refl
seen_twice None (Some s) = refl
seen_twice None None = refl

pub outer_twice : (own outer : Table Sort) → (λ x. or_else (find own x) (or_else (find outer x) (find outer x))) ≡ over (find own) (find outer)
outer_twice own outer i x = seen_twice (find own x) (find outer x) i

pub ruleset seen = outer_twice

-- a name that is in the list or outside
pub either_there : (a b : Option Sort) → is_some (or_else a b) ≡ (is_some a || is_some b)
either_there None b = refl
either_there (Some s) b = refl

pub ruleset there = either_there

-- a table with a declaration more
pub declared_in : (old new : Table Sort) (x : List ℕ) (s : Sort) → new ≡ t.declared old x s → find new ≡ with_name (find old) x s
declared_in old new x s is = ap (λ (u : Table Sort). find u) is ∙ find_declared old x s

pub ruleset declared = declared_in

-- ---- parameters

pub formal_step : (here : Names) (list : List Formal) (i : ℕ) (p : Formal) → i < length list → p ≡ get_or list i p
    → behind_formals here (map formal_of (drop i list))
    ≡ behind_formals (with_name here (letters p.name) (sort_by p.kind p.array p.value)) (map formal_of (drop (i + 1) list))
formal_step here list i p lt is = onward formal_of (behind_formals here) list i p lt is

pub formal_end : (here : Names) (list : List Formal) (i : ℕ) → length list ≤ i → behind_formals here (map formal_of (drop i list)) ≡ here
formal_end here list i le = onward_end formal_of (behind_formals here) list i le

-- parameters that are declared hide those behind them
formals_all : (here : Names) (ps : List n.Formal) (y : List ℕ) → behind_formals here ps y ≡ or_else (here y) (find (parameters ps) y)
unfolding with_name
formals_all here [] y = by (here y)
  where
    by : (o : Option Sort) → o ≡ or_else o None
    by (Some a) = refl
    by None = refl
formals_all here (p ∷ ps) y =
    let s = sort_by p.kind p.array p.value in
    formals_all (with_name here p.name s) ps y ∙ by (here y) (same_name y p.name) s
  where
    by : (o : Option Sort) (b : Bool) (s : Sort)
        → or_else (or_else o (if b then Some s else None)) (find (parameters ps) y) ≡ or_else o (if b then Some s else find (parameters ps) y)
    by (Some e) b s = refl
    by None true s = refl
    by None false s = refl

pub formals_are : (ps : List n.Formal) → behind_formals (find []) ps ≡ find (parameters ps)
formals_are ps i y = formals_all (find []) ps y i

pub ruleset parameter_steps = (formal_step, formal_end, formals_are)
