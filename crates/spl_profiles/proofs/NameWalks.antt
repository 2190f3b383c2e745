-- Loops that take names in: what is in a set or a table behind the names from one of a list on.
use Rattle.std.proofs.Common.{◌≡◌, ◌<◌, ◌≤◌, ℕ, ◌+◌, suc, Bool, true, false, List, [], ◌∷◌, map, drop, length, get_or, Option, Some, None, refl, ap, sym, ◌∙◌, add-one}
use Rattle.std.specs.Prelude.{if◌then◌else◌}
use Rattle.std.proofs.Math.Seq.{drop-cons}
use Rattle.std.proofs.lemmas.List.{drop_all}
use Rattle.spl_tree.specs.declared.names_and_places.Name.{Name}
use Rattle.spl_tree.specs.declared.names_and_places.At.{At}
use Rattle.spl_tree.specs.declared.declarations.Spec.{Spec}
use Rattle.spl_tree.specs.Views.{letters}
use Rattle.spl_tree.specs.Spells.{placed, spec_tree}
use Rattle.spl_tree.specs.DeclarationTrees as decl
use Rattle.spl_tree.specs.DeclarationTrees.{Placed}
use Rattle.spl_sorts.specs.spl_meaning.Names.{find, or_else, same_name, lists, spec_of}
use Rattle.spl_found.specs.OwnNames.{with_name}
use Rattle.spl_profiles.specs.declared.listings.Listed.{Listed}
use Rattle.spl_profiles.specs.NameSets.{Test, no_name, and_name, and_names}
use Rattle.spl_profiles.specs.Listings.{Said, said, said_by, said_in, and_listed, and_specs}

-- a walk from one of a list's elements on
pub onward : {X Y Z : Type 0} (view : X → Y) (walk : List Y → Z) (xs : List X) (i : ℕ) (x : X) → i < length xs → x ≡ get_or xs i x
    → walk (map view (drop i xs)) ≡ walk (view x ∷ map view (drop (i + 1) xs))
onward view walk xs i x lt is =
    ap (λ ys. walk (map view ys)) (drop-cons xs i x lt ∙ ap (λ y. y ∷ drop (suc i) xs) (sym is)) ∙ rw (add-one i) refl

-- and from its end on
pub onward_end : {X Y Z : Type 0} (view : X → Y) (walk : List Y → Z) (xs : List X) (i : ℕ) → length xs ≤ i
    → walk (map view (drop i xs)) ≡ walk []
onward_end view walk xs i le = ap (λ ys. walk (map view ys)) (drop_all i xs le)

-- ---- sets

pub seen_step : (has : Test) (list : List (Name × At)) (i : ℕ) (x : Name × At) → i < length list → x ≡ get_or list i x
    → and_names has (map placed (drop i list)) ≡ and_names (and_name has (letters x.0)) (map placed (drop (i + 1) list))
seen_step has list i x lt is = onward placed (and_names has) list i x lt is

pub seen_end : (has : Test) (list : List (Name × At)) (i : ℕ) → length list ≤ i → and_names has (map placed (drop i list)) ≡ has
seen_end has list i le = onward_end placed (and_names has) list i le

-- a set has what it had, and the names
seen_all : (has : Test) (xs : List Placed) (y : List ℕ) → and_names has xs y ≡ (if lists xs y then true else has y)
seen_all has [] y = refl
seen_all has (x ∷ xs) y = seen_all (and_name has x.letters) xs y ∙ by (same_name y x.letters) (lists xs y)
  where
    by : (a b : Bool) → (if b then true else if a then true else has y) ≡ (if if a then true else b then true else has y)
    by true true = refl
    by true false = refl
    by false b = refl

pub seen_lists : (xs : List Placed) → and_names no_name xs ≡ lists xs
seen_lists xs i y = (seen_all no_name xs y ∙ by (lists xs y)) i
  where
    by : (b : Bool) → (if b then true else false) ≡ b
    by true = refl
    by false = refl

pub ruleset set_steps = (seen_step, seen_end, seen_lists)

-- ---- lists of kinds

pub listed_step : (known : Said) (l : Listed) (list : List (Name × At)) (i : ℕ) (x : Name × At) → i < length list → x ≡ get_or list i x
    → and_listed known l (map placed (drop i list)) ≡ and_listed (with_name known (letters x.0) l) l (map placed (drop (i + 1) list))
listed_step known l list i x lt is = onward placed (and_listed known l) list i x lt is

pub listed_end : (known : Said) (l : Listed) (list : List (Name × At)) (i : ℕ) → length list ≤ i → and_listed known l (map placed (drop i list)) ≡ known
listed_end known l list i le = onward_end placed (and_listed known l) list i le

pub ruleset listed_steps = (listed_step, listed_end)

pub spec_step : (known : Said) (list : List Spec) (i : ℕ) (l : Spec) → i < length list → l ≡ get_or list i l
    → and_specs known (map spec_tree (drop i list))
    ≡ and_specs (and_listed known (said (spec_tree l)) (spec_tree l).names) (map spec_tree (drop (i + 1) list))
spec_step known list i l lt is = onward spec_tree (and_specs known) list i l lt is

pub spec_end : (known : Said) (list : List Spec) (i : ℕ) → length list ≤ i → and_specs known (map spec_tree (drop i list)) ≡ known
spec_end known list i le = onward_end spec_tree (and_specs known) list i le

-- a list of kinds says the same of each of its names, but for those of which something is said
listed_all : (known : Said) (l : Listed) (xs : List Placed) (y : List ℕ) → and_listed known l xs y ≡ or_else (known y) (if lists xs y then Some l else None)
unfolding with_name
listed_all known l [] y = by (known y)
  where
    by : (o : Option Listed) → o ≡ or_else o None
    by (Some a) = refl
    by None = refl
listed_all known l (x ∷ xs) y = listed_all (with_name known x.letters l) l xs y ∙ by (known y) (same_name y x.letters) (lists xs y)
  where
    by : (o : Option Listed) (a b : Bool)
        → or_else (or_else o (if a then Some l else None)) (if b then Some l else None) ≡ or_else o (if if a then true else b then Some l else None)
    by (Some e) a b = refl
    by None true b = refl
    by None false b = refl

-- of lists the first counts
specs_all : (known : Said) (ls : List decl.Spec) (y : List ℕ) → and_specs known ls y ≡ or_else (known y) (said_in ls y)
specs_all known [] y = by (known y)
  where
    by : (o : Option Listed) → o ≡ or_else o None
    by (Some a) = refl
    by None = refl
specs_all known (l ∷ ls) y = specs_all (and_listed known (said l) l.names) ls y
    ∙ ap (λ o. or_else o (said_in ls y)) (listed_all known (said l) l.names y) ∙ by (known y) (lists l.names y)
  where
    by : (o : Option Listed) (b : Bool)
        → or_else (or_else o (if b then Some (said l) else None)) (said_in ls y) ≡ or_else o (said_by (if b then Some l else spec_of ls y))
    by (Some e) b = refl
    by None true = refl
    by None false = refl

pub all_said : (ls : List decl.Spec) → and_specs (find []) ls ≡ said_in ls
all_said ls i y = specs_all (find []) ls y i

pub ruleset spec_steps = (spec_step, spec_end, all_said)
