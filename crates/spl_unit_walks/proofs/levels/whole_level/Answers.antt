-- All of a unit's declarations.
use Rattle.std.proofs.Common.{List, map, ap}
use Rattle.spl_tree.specs.declared.declarations.Decl.{Decl}
use Rattle.spl_tree.specs.DeclarationTrees.{declarations}
use Rattle.spl_tree.specs.Spells.{declaration}
use Rattle.spl_unit_laws.specs.spl_body_scopes.Levels.{level_of}
use Rattle.spl_unit_walks.proofs.LevelWalks.{all_declared}
use Rattle.spl_unit_walks.proofs.levels.whole_level.Goals as goal

pub returns : goal.returns
returns c =
    all_declared c.args.primary c.deref.result.now (declarations (map declaration c.args.unit.now.items.items)) (level_of c.in_ok-level.level)
    (level_of c.declare_all.new.level) (ap (λ (xs : List Decl). declarations (map declaration xs)) c.deref.ensures.value) c.in_ok-level.ensures.level
    c.in_ok-declare_all.ensures
