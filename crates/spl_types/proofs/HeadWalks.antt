-- The procedures of a unit, one declaration after the other.
use Rattle.std.proofs.Common.{ℕ, ◌≡◌, ◌<◌, ◌≤◌, ◌+◌, List, map, length, get_or, drop, ap}
use Rattle.std.proofs.lemmas.List.{drop_all}
use Rattle.spl_tree.specs.declared.declarations.Decl.{Decl}
use Rattle.spl_tree.specs.DeclarationTrees.{declarations}
use Rattle.spl_tree.specs.Spells.{declaration}
use Rattle.spl_types.specs.HeadTables.{Heads, heads_behind, heads_list}
use Rattle.spl_types.proofs.SilentLaws.{front}

pub head_step : (s : Heads) (ds : List Decl) (i : ℕ) (d : Decl) → i < length ds → d ≡ get_or ds i d
    → heads_list s (declarations (map declaration (drop i ds))) ≡ heads_list (heads_behind s (declaration d)) (declarations (map declaration (drop (i + 1) ds)))
head_step s ds i d lt is = ap (λ (rest : List Decl). heads_list s (declarations (map declaration rest))) (front ds i d lt is)

pub head_end : (s : Heads) (ds : List Decl) (i : ℕ) → length ds ≤ i → heads_list s (declarations (map declaration (drop i ds))) ≡ s
head_end s ds i le = ap (λ (rest : List Decl). heads_list s (declarations (map declaration rest))) (drop_all i ds le)

pub ruleset head_steps = (head_step, head_end)
