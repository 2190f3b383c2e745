-- The level of a unit's list, behind all declarations.
use Rattle.std.proofs.Common.{◌≡◌, ◌<◌, ◌≤◌, ℕ, ◌+◌, List, map, drop, length, get_or, refl, sym, ap, ◌∙◌}
use Rattle.spl_tree.specs.declared.declarations.Decl.{Decl}
use Rattle.spl_tree.specs.DeclarationTrees.{Declarations, declarations}
use Rattle.spl_tree.specs.Spells.{declaration}
use Rattle.spl_sound.specs.spl_meaning.Names.{Names, nothing_declared}
use Rattle.spl_unit_laws.specs.spl_found.OwnNames.{behind_declarations}
use Rattle.spl_unit_laws.proofs.spl_lists_proofs.NameWalks.{onward, onward_end}
use Rattle.spl_unit_laws.specs.spl_body_scopes.Levels.{Level, Spots, unit_level}
use Rattle.spl_unit_laws.specs.Steps.{level_behind}
use Rattle.spl_unit_walks.specs.Views.{levels_behind}

-- what is declared so far, and what is left, is all
pub record LevelWalk (from : Level) (all left : Declarations) (now : Level) : Type 0 where
  pub names : behind_declarations nothing_declared now.names left ≡ behind_declarations nothing_declared from.names all
  pub places : now.places ≡ from.places

pub level_first : (list : List Decl) (from : Level) → LevelWalk from (declarations (map declaration list)) (declarations (map declaration (drop 0 list))) from
level_first list from = record { names = refl; places = refl }

pub level_next : (from : Level) (all : Declarations) (list : List Decl) (i : ℕ) (d : Decl) (now next : Level)
    → LevelWalk from all (declarations (map declaration (drop i list))) now → i < length list → d ≡ get_or list i d
    → next ≡ level_behind now (declaration d) → LevelWalk from all (declarations (map declaration (drop (i + 1) list))) next
level_next from all list i d now next w lt is step =
    let left : Declarations = declarations (map declaration (drop (i + 1) list)) in
    record {
      names =
          ap (λ (l : Level). behind_declarations nothing_declared l.names left) step
          ∙ sym (onward declaration (λ ds. behind_declarations nothing_declared now.names (declarations ds)) list i d lt is) ∙ w.names;
      places = ap (λ (l : Level). l.places) step ∙ w.places;
    }

pub level_done : (from : Level) (all : Declarations) (list : List Decl) (i : ℕ) (now : Level)
    → LevelWalk from all (declarations (map declaration (drop i list))) now → length list ≤ i → now ≡ levels_behind from all
level_done from all list i now w le =
    let names : now.names ≡ behind_declarations nothing_declared from.names all =
    sym (onward_end declaration (λ ds. behind_declarations nothing_declared now.names (declarations ds)) list i le) ∙ w.names in
    let first : now ≡ record { names = behind_declarations nothing_declared from.names all; places = now.places } =
    ap (λ (n : Names). let l : Level = record { names = n; places = now.places } in l) names in
    first ∙ ap (λ (s : Spots). let l : Level = record { names = behind_declarations nothing_declared from.names all; places = s } in l) w.places

-- behind all of a unit's, which begins with no names
pub all_declared : (primary : ℕ) (list : List Decl) (ds : Declarations) (first whole : Level) → declarations (map declaration list) ≡ ds → first ≡ unit_level primary ds
    → whole ≡ levels_behind first (declarations (map declaration list)) → whole ≡ levels_behind (unit_level primary ds) ds
all_declared primary list ds first whole listed is step =
    step ∙ ap (λ (xs : Declarations). levels_behind first xs) listed ∙ ap (λ (l : Level). levels_behind l ds) is
