-- What whoever generates code knows of it at the end.
use Rattle.std.proofs.Common.{◌≡◌, ℕ, Bool, true, List, [], ◌∷◌, length, Option, Some, None, refl}
use Rattle.std.specs.List.{list_all}
use Rattle.std.proofs.lemmas.Bool.{and_parts, and_from, ltb-true}
use Rattle.std.proofs.lemmas.List.Recursion.{and_at}
use Rattle.spl_branch.specs.declared.pieces.Piece.{Piece}
use Rattle.spl_branch.specs.Pieces.{named, is_made, is_set_if}

-- where all marks are set, one that was made is
pub set_if_made : (marks : List Bool) (o : Option ℕ) → list_all (λ b. b) marks ≡ true → is_made (length marks) o ≡ true → is_set_if marks o ≡ true
set_if_made marks None all made = refl
set_if_made marks (Some l) all made = and_at (list_all (λ b. b)) (λ b. b) refl (λ _ _. refl) marks l _ (ltb-true l (length marks) made) all

-- so is each that a piece names
pub set_if_all_made : (ps : List Piece) (marks : List Bool) → list_all (λ b. b) marks ≡ true → list_all (λ x. is_made (length marks) (named x)) ps ≡ true → list_all (λ x. is_set_if marks (named x)) ps ≡ true
set_if_all_made [] marks all made = refl
set_if_all_made (x ∷ ps) marks all made =
    let both = and_parts (is_made (length marks) (named x)) (list_all (λ x. is_made (length marks) (named x)) ps) made in
    and_from _ _ (set_if_made marks (named x) all both.0) (set_if_all_made ps marks all both.1)
