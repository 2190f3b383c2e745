-- What bodies and their subroutines may use, and subroutines one after the other.
use Rattle.std.proofs.Common.{ℕ, ◌≡◌, ◌<◌, ◌≤◌, ◌+◌, Bool, true, false, List, map, length, get_or, drop, Option, Some, None, is_some, refl, ap}
use Rattle.std.specs.Prelude.{if◌then◌else◌}
use Rattle.std.proofs.lemmas.List.{drop_all}
use Rattle.spl_tree.specs.declared.declarations.Decl.{Decl}
use Rattle.spl_tree.specs.DeclarationTrees.{declarations}
use Rattle.spl_tree.specs.Spells.{declaration}
use Rattle.spl_sound.specs.spl_meaning.Names.{Names, Sort, or_else}
use Rattle.spl_sound.specs.spl_meaning.Faults.{Fault}
use Rattle.spl_sound.specs.spl_meaning.ExpressionRules.{Scope}
use Rattle.spl_uses.specs.spl_found.OwnNames.{over}
use Rattle.spl_uses.specs.spl_found.FoundDeclarations.{found_inner, found_subroutines}
use Rattle.spl_types.proofs.SilentLaws.{front}

-- what is looked up twice
twice : (o p : Option Sort) → or_else o (or_else o p) ≡ or_else o p
twice None p = refl
twice (Some s) p = refl

-- a name that is looked for twice
local_twice : (b m : Bool) → (if b then true else if m then true else b) ≡ (if m then true else b)
local_twice true true = refl
local_twice true false = refl
local_twice false true = refl
local_twice false false = refl

-- the names of a body, and which are its own
pub body_names : (here outer : Names) → (λ x. or_else (here x) (or_else (here x) (outer x))) ≡ over here outer
body_names here outer i x = twice (here x) (outer x) i

-- which names are its own, where they are looked for twice
pub found_twice : Names → Bool → List ℕ → Bool
found_twice here m x = if is_some (here x) then true else if m then true else is_some (here x)

pub found_once : Names → Bool → List ℕ → Bool
found_once here m x = if m then true else is_some (here x)

pub body_locals : (here : Names) (m : Bool) → found_twice here m ≡ found_once here m
unfolding found_twice found_once
body_locals here m i x = local_twice (is_some (here x)) m i

pub inner_step : (sc : Scope) (ds : List Decl) (i : ℕ) (d : Decl) (f : Option Fault) → i < length ds → d ≡ get_or ds i d
    → found_subroutines sc (declarations (map declaration (drop i ds))) f
    ≡ found_subroutines sc (declarations (map declaration (drop (i + 1) ds))) (found_inner sc (declaration d) f)
inner_step sc ds i d f lt is = ap (λ (rest : List Decl). found_subroutines sc (declarations (map declaration rest)) f) (front ds i d lt is)

pub inner_end : (sc : Scope) (ds : List Decl) (i : ℕ) (f : Option Fault) → length ds ≤ i
    → found_subroutines sc (declarations (map declaration (drop i ds))) f ≡ f
inner_end sc ds i f le = ap (λ (rest : List Decl). found_subroutines sc (declarations (map declaration rest)) f) (drop_all i ds le)

pub ruleset insides = (body_names, body_locals)

pub ruleset inners = (inner_step, inner_end)
