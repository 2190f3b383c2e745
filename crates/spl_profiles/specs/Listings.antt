-- What lists of kinds say of names.
use Rattle.std.specs.Prelude.{ℕ, List, [], ◌∷◌, map, Option, Some, None}
use Rattle.arrayvec.specs.ArrayVec.{ArrayVec}
use Rattle.spl_tree.specs.DeclarationTrees.{Placed, Spec}
use Rattle.spl_sorts.specs.spl_meaning.Names.{Table, spec_of}
use Rattle.spl_found.specs.OwnNames.{with_name}
use Rattle.spl_profiles.specs.declared.listings.Listed.{Listed}
use Rattle.spl_profiles.specs.declared.listings.Listings.{Listings}

-- what a list of kinds says of its names
abbrev pub said : Spec → Listed
said l = record { kind = l.kind; array = l.array }

-- what is said of each name
abbrev pub Said : Type 0
Said = List ℕ → Option Listed

abbrev pub entry_of : ArrayVec ℕ × Listed → List ℕ × Listed
entry_of e = (e.0.items, e.1)

abbrev pub listed_of : Listings → Table Listed
listed_of l = map entry_of l.names.entries

-- where some list of kinds has the name
abbrev pub said_by : Option Spec → Option Listed
said_by None = None
said_by (Some l) = Some (said l)

-- what lists of kinds say: the first that has a name
abbrev pub said_in : List Spec → Said
said_in ls x = said_by (spec_of ls x)

-- the names of a list more, each where nothing is said of it yet
abbrev pub and_listed : Said → Listed → List Placed → Said
and_listed known l [] = known
and_listed known l (x ∷ xs) = and_listed (with_name known x.letters l) l xs

-- the names of lists of kinds more
abbrev pub and_specs : Said → List Spec → Said
and_specs known [] = known
and_specs known (l ∷ ls) = and_specs (and_listed known (said l) l.names) ls
