-- Pointers with one more at their end.
use Rattle.std.proofs.Common.{◌≡◌, List, [], ◌∷◌, ◌++◌, map, refl, ap, ◌∙◌}
use Rattle.spl_tree.specs.DeclarationTrees.{Placed}
use Rattle.spl_tree.specs.Declarations.{pointer, pointers}
use Rattle.spl_listed.proofs.ListLemmas.{pushed}

pub pointers_pushed : (ps : List Placed) (p : Placed) → pointers (ps ++ p ∷ []) ≡ pointers ps ++ pointer p ∷ []
pointers_pushed [] p = refl
pointers_pushed (q ∷ ps) p = ap (λ qs. pointer q ∷ qs) (pointers_pushed ps p)

-- a list of pointers with one more
pub one_pointer : {X : Type 0} (placed : X → Placed) (xs : List X) (x : X) → pointers (map placed (xs ++ x ∷ [])) ≡ pointers (map placed xs) ++ pointer (placed x) ∷ []
one_pointer placed xs x = ap pointers (pushed placed xs x) ∙ pointers_pushed (map placed xs) (placed x)
