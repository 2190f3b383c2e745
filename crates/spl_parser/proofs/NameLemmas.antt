-- Lists of names with one more at their end.
use Rattle.std.proofs.Common.{ℕ, ◌≡◌, ◌+◌, ◌<◌, List, [], ◌∷◌, ◌++◌, map, take, length, get_or, ap, ◌∙◌}
use Rattle.std.proofs.lemmas.List.{take_more}
use Rattle.spl_tree.specs.declared.names_and_places.Name.{Name}
use Rattle.spl_tree.specs.Views.{letters}
use Rattle.spl_tokens.proofs.Steps.{pushed}

-- names with one more
pub one_name : (names : List Name) (i : ℕ) (n : Name) → i < length names
    → map letters (take (i + 1) names) ≡ map letters (take i names) ++ letters (get_or names i n) ∷ []
one_name names i n h = ap (map letters) (take_more names i n h) ∙ pushed letters (take i names) (get_or names i n)
