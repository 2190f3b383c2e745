-- Sets of names as tests of names.
use Rattle.std.specs.Prelude.{ℕ, Bool, true, false, if◌then◌else◌, List, [], ◌∷◌}
use Rattle.std.specs.List.{list_any}
use Rattle.spl_tree.specs.DeclarationTrees.{Placed}
use Rattle.spl_sorts.specs.spl_meaning.Names.{same_name}
use Rattle.spl_profiles.specs.declared.name_sets.NameSet.{NameSet}

-- a test of names
abbrev pub Test : Type 0
Test = List ℕ → Bool

-- whether a set has a name
abbrev pub has_of : NameSet → Test
has_of s x = list_any (λ k. same_name x k.items) s.names.keys

-- no name
abbrev pub no_name : Test
no_name x = false

-- a name more
abbrev pub and_name : Test → List ℕ → Test
and_name has x y = if same_name y x then true else has y

-- the names of a list more
abbrev pub and_names : Test → List Placed → Test
and_names has [] = has
and_names has (x ∷ xs) = and_names (and_name has x.letters) xs
