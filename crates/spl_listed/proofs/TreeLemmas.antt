-- Lists with one more at their end.
use Rattle.std.proofs.Common.{◌≡◌, List, [], ◌∷◌, ◌++◌, map, ap, ◌∙◌}
use Rattle.spl_tree.specs.DeclarationTrees.{Declaration}
use Rattle.spl_listed.proofs.ListLemmas.{pushed}

-- declarations with one more
pub one_placed : {X : Type 0} (f : Declaration → Declaration) (view : X → Declaration) (xs : List X) (x : X)
    → map f (map view (xs ++ x ∷ [])) ≡ map f (map view xs) ++ f (view x) ∷ []
one_placed f view xs x = ap (map f) (pushed view xs x) ∙ pushed f (map view xs) (view x)
