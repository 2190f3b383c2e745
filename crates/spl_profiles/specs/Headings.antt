-- The rules of headings, as they are asked through sets and tables of names.
use Rattle.std.specs.Prelude.{ℕ, Bool, ◌||◌, not, false, List, [], ◌∷◌, Option, Some, None, is_some}
use Rattle.spl_tree.specs.declared.names_and_places.At.{At}
use Rattle.spl_tree.specs.declared.expressions.Kind.{Kind}
use Rattle.spl_tree.specs.DeclarationTrees.{Placed}
use Rattle.spl_sorts.specs.spl_meaning.Names.{Formal, Names, sort_by}
use Rattle.spl_sorts.specs.spl_meaning.Pending.{by_value}
use Rattle.spl_sorts.specs.spl_meaning.Faults.{Fault, unless, first_fault}
use Rattle.spl_found.specs.OwnNames.{with_name}
use Rattle.spl_profiles.specs.declared.listings.Listed.{Listed}
use Rattle.spl_profiles.specs.NameSets.{Test, and_name}
use Rattle.spl_profiles.specs.Listings.{Said}

-- names that stand again, behind those that a test has
abbrev pub found_again : ℕ → Test → List Placed → Option Fault → Option Fault
found_again rule has [] f = f
found_again rule has (x ∷ xs) f = found_again rule (and_name has x.letters) xs (first_fault f (unless (not (has x.letters)) rule x.at))

-- 18: names of a list that fail a test
abbrev pub found_failing : Test → List Placed → Option Fault → Option Fault
found_failing passes [] f = f
found_failing passes (x ∷ xs) f = found_failing passes xs (first_fault f (unless (passes x.letters) 18 x.at))

-- the kind that is said of a name, and whether it is one of arrays
abbrev pub kind_said : Option Listed → Option Kind
kind_said None = None
kind_said (Some l) = Some l.kind

abbrev pub array_said : Option Listed → Bool
array_said None = false
array_said (Some l) = l.array

-- a name that no list of arrays has, and one that some list of kinds has
abbrev pub no_array : Said → Test
no_array known x = not (array_said (known x))

abbrev pub is_said : Said → Test
is_said known x = is_some (known x)

-- a parameter by what is said of its name, and by whether VALUE has it
abbrev pub formal_by : Said → Test → List ℕ → At → Formal
formal_by known values x at = record { name = x; at = at; kind = kind_said (known x); array = array_said (known x); value = values x }

-- parameters in order
abbrev pub formals_by : Said → Test → List Placed → List Formal
formals_by known values [] = []
formals_by known values (x ∷ xs) = formal_by known values x.letters x.at ∷ formals_by known values xs

-- 27: a parameter by reference of a split procedure
abbrev pub found_split : Bool → List Formal → Option Fault → Option Fault
found_split split [] f = f
found_split split (p ∷ ps) f = found_split split ps (first_fault f (unless (not split || by_value p || not (is_some p.kind)) 27 p.at))

-- parameters are declared
abbrev pub behind_formals : Names → List Formal → Names
behind_formals here [] = here
behind_formals here (p ∷ ps) = behind_formals (with_name here p.name (sort_by p.kind p.array p.value)) ps
