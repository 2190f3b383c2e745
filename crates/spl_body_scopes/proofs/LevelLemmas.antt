-- Levels by their names and their places.
use Rattle.std.proofs.Common.{ℕ, ◌≡◌, Bool, true, false, List, [], ◌∷◌, ◌++◌, map, Some, refl, ap, ◌∙◌}
use Rattle.std.specs.Prelude.{if◌then◌else◌}
use Rattle.spl_tree.specs.DeclarationTrees.{Heading, Declarations}
use Rattle.spl_sorts.specs.spl_meaning.Names.{Names, Table, Formal, find, or_else, same_name, parameters, formals_of}
use Rattle.spl_sorts.specs.declared.profiles.Formal as code
use Rattle.spl_sorts.specs.Profiles.{formal_of}
use Rattle.spl_places.specs.declared.data.Datum as item
use Rattle.spl_places.specs.ListedData.{datum_of, list_data}
use Rattle.spl_places.specs.Gathered.{items_under}
use Rattle.spl_sorts.specs.spl_meaning.Places.{Place}
use Rattle.spl_places.specs.NameMaps.{behind_table}
use Rattle.spl_body_scopes.specs.Levels.{Level, Spots}

-- a level of both
abbrev pub level : Names → Spots → Level
level n a = record { names = n; places = a }

pub level_made : (n m : Names) (a b : Spots) → n ≡ m → a ≡ b → level n a ≡ level m b
level_made n m a b names places i = level (names i) (places i)

-- a list behind another
found_both : (s t : Table Place) (x : List ℕ) → or_else (find s x) (find t x) ≡ find (s ++ t) x
found_both [] t x = refl
found_both (e ∷ s) t x = by (same_name x e.0) (found_both s t x)
  where
    by : (b : Bool) → or_else (find s x) (find t x) ≡ find (s ++ t) x
        → or_else (if b then Some e.1 else find s x) (find t x) ≡ (if b then Some e.1 else find (s ++ t) x)
    by true rest = refl
    by false rest = rest

pub find_both : (s t : Table Place) → behind_table (find s) t ≡ find (s ++ t)
unfolding behind_table
find_both s t i x = found_both s t x i

-- ---- the list of a procedure

-- its first names are its parameters
pub first_named : (here : Names) (fs gs : List code.Formal) (h : Heading) → here ≡ find (parameters (map formal_of fs)) → fs ≡ gs → map formal_of gs ≡ formals_of h
    → here ≡ find (parameters (formals_of h))
first_named here fs gs h is same formals =
    is ∙ ap (λ (xs : List code.Formal). find (parameters (map formal_of xs))) same ∙ ap (λ (xs : List Formal). find (parameters xs)) formals

-- so its items are those under its heading
pub items_listed : (outer here : Names) (h : Heading) (ds : Declarations) (new old : List item.Datum)
    → map datum_of new ≡ map datum_of old ++ list_data outer here ds → old ≡ [] → here ≡ find (parameters (formals_of h)) → map datum_of new ≡ items_under outer h ds
items_listed outer here h ds new old is none first =
    is ∙ ap (λ (xs : List item.Datum). map datum_of xs ++ list_data outer here ds) none ∙ ap (λ (n : Names). list_data outer n ds) first
