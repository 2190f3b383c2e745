-- A procedure with its subroutines.
use Rattle.std.proofs.Common.{List, map, refl, sym, ap, ◌∙◌}
use Rattle.spl_tree.specs.declared.declarations.Decl.{Decl}
use Rattle.spl_tree.specs.DeclarationTrees as decl
use Rattle.spl_tree.specs.DeclarationTrees.{declarations}
use Rattle.spl_tree.specs.Spells.{declaration, heading_tree}
use Rattle.spl_tree.specs.Views.{statement}
use Rattle.spl_modules.proofs.WalkSteps.{procedure_tree, procedure_declared}
use Rattle.spl_modules.proofs.walk.declared.Goals as goal

pub returns-in_ok-push-in-Procedure : goal.returns-in_ok-push-in-Procedure
returns-in_ok-push-in-Procedure c =
    let h = heading_tree c.in-Procedure.heading in
    let ss = map statement c.in-Procedure.body.statements.items in
    let list = c.deref.result.now in
    let is =
    ap declaration c.in-Procedure.is ∙ procedure_tree c.in-Procedure.heading c.in-Procedure.body
    ∙ ap (λ (ds : List Decl). decl.Declaration.procedure h (declarations (map declaration ds)) ss) (sym c.deref.ensures.value) in
    procedure_declared c.args.segment c.args.all.now
    (record { modules = c.procedure.new.modules; main = c.args.all.now.main; routines = c.push.new.self }) c.in_ok-own-in-Procedure.own
    h (declarations (map declaration list)) ss (declaration c.args.item.now) is
    c.in_ok-own-in-Procedure.ensures.entered c.in_ok-own-in-Procedure.ensures.names refl c.in_ok-push-in-Procedure.ensures.items
