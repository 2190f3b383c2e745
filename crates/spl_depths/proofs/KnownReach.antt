-- Known values: where names stand below a return word, and uses at the limit and one beyond it.
use Rattle.std.proofs.Common.{◌≡◌, ℕ, true, false, List, [], ◌∷◌, Some, None, refl}
use Rattle.std.specs.Prelude.{codes}
use Rattle.spl_tree.specs.declared.names_and_places.At.{At}
use Rattle.spl_tree.specs.declared.expressions.Kind.{Kind}
use Rattle.spl_tree.specs.declared.expressions.Kind.TheVariants as kind
use Rattle.spl_tree.specs.Trees as tree
use Rattle.spl_tree.specs.Trees.{Tree}
use Rattle.spl_sorts.specs.spl_meaning.Names.{Formal, Profile, nothing_declared}
use Rattle.spl_depths.specs.Reach.{parameters_below, reach_of}
use Rattle.spl_depths.specs.Reached.{reached}

-- a place
at : At
at = record { unit = 1; line = 2; column = 3 }

-- a parameter by value
abbrev by_value : List ℕ → Kind → Formal
by_value x k = record { name = x; at = at; kind = Some k; array = false; value = true }

-- DOUBLE SUBROUTINE S(A,B), of an INTEGER A and a DOUBLE B by value
abbrev profile : Profile
profile = record { result = Some kind.Double; formals = by_value (codes "A") kind.Integer ∷ by_value (codes "B") kind.Double ∷ []; split = false }

-- B stands directly below the return word, and A below it
parameters_stand : parameters_below profile.formals ≡ (codes "A", 3) ∷ (codes "B", 2) ∷ []
parameters_stand = refl

-- the result stands below both, where it is assigned
result_stands : reach_of (codes "S") profile (codes "S") true ≡ Some 5
result_stands = refl

result_is_no_value : reach_of (codes "S") profile (codes "S") false ≡ None
result_is_no_value = refl

-- a name
abbrev named : List ℕ → Tree
named x = tree.Tree.named x tree.Trees.none at

-- 60 words wait and 3 are between: the limit
used_at_the_limit : reached nothing_declared (reach_of (codes "S") profile) (named (codes "A")) 60 None ≡ None
unfolding reached
used_at_the_limit = refl

-- and one beyond it
used_beyond_it : reached nothing_declared (reach_of (codes "S") profile) (named (codes "A")) 61 None ≡ Some (record { limit = 5; at = at; count = 64 })
unfolding reached
used_beyond_it = refl

-- 60 words and the left operand's word wait for the right operand
used_behind_an_operand : reached nothing_declared (reach_of (codes "S") profile) (tree.Tree.binary 11 (tree.Tree.number 1) (named (codes "A")) at) 60 None
    ≡ Some (record { limit = 5; at = at; count = 64 })
unfolding reached
used_behind_an_operand = refl

-- but not for that of AND
used_behind_and : reached nothing_declared (reach_of (codes "S") profile) (tree.Tree.binary 1 (tree.Tree.number 1) (named (codes "A")) at) 60 None ≡ None
unfolding reached
used_behind_and = refl
