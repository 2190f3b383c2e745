-- Declarations as trees.
use Rattle.std.proofs.Common.{◌≡◌, Bool, map, Option, ap, sym, ◌∙◌}
use Rattle.spl_tree.specs.declared.declarations.Decl.TheVariants.{Procedure, rolls-Procedure}
use Rattle.spl_tree.specs.declared.declarations.Decl.TheFolds.{fold-roll-Decl, fold-Body, fold_out-Body}
use Rattle.spl_tree.specs.declared.declarations.Heading.{Heading}
use Rattle.spl_tree.specs.declared.declarations.Body.{Body}
use Rattle.spl_tree.specs.DeclarationTrees as decl
use Rattle.spl_tree.specs.Spells.{declaration, declaration_step, body_step, BodyTree, heading_tree}
use Rattle.spl_tree.specs.Views.{letters, statement}
use Rattle.spl_sound.specs.spl_meaning.Names as n
use Rattle.spl_sound.specs.spl_meaning.Names.{Names, profile_of}
use Rattle.spl_sound.specs.spl_meaning.Faults.{Fault, first_fault}
use Rattle.spl_sound.specs.spl_meaning.DeclarationRules.{Around}
use Rattle.spl_uses.specs.spl_found.OwnNames.{with_name}
use Rattle.spl_uses.specs.spl_found.FoundDeclarations.{found_procedure, procedure_by}
use Rattle.spl_uses.specs.spl_found.FoundUnits.{Waits, walked}
use Rattle.spl_types.specs.HeadTables.{Heads, heads_with, heads_behind}

-- behind a procedure
pub heads_procedure : (s : Heads) (h : Heading) (b : Body) → heads_behind s (declaration (Procedure h b)) ≡ heads_with s (letters h.name) (profile_of (heading_tree h))
heads_procedure s h b =
    ap (heads_behind s) (ap declaration (sym (rolls-Procedure h b)) ∙ fold-roll-Decl decl.Declaration BodyTree declaration_step body_step _)

-- a body as a tree
body_tree : (b : Body) → fold-Body decl.Declaration BodyTree declaration_step body_step b ≡ record { items = map declaration b.items.items; statements = map statement b.statements.items }
body_tree b = fold_out-Body decl.Declaration BodyTree declaration_step body_step b

-- a procedure as a tree
procedure_tree : (h : Heading) (b : Body)
    → declaration (Procedure h b) ≡ decl.Declaration.procedure (heading_tree h) (decl.declarations (map declaration b.items.items)) (map statement b.statements.items)
procedure_tree h b = ap declaration (sym (rolls-Procedure h b)) ∙ fold-roll-Decl decl.Declaration BodyTree declaration_step body_step _
    ∙ ap (λ (t : BodyTree). decl.Declaration.procedure (heading_tree h) (decl.declarations t.items) t.statements) (body_tree b)

-- what is found at it
pub procedure_walked : (a : Around) (agrees : decl.Heading → Bool) (w : Waits) (here : Names) (h : Heading) (b : Body) (f : Option Fault)
    → walked a agrees w here (declaration (Procedure h b)) f
    ≡ found_procedure (with_name here (letters h.name) (n.procedure (profile_of (heading_tree h)))) (heading_tree h) (decl.declarations (map declaration b.items.items))
    (map statement b.statements.items) (first_fault f (procedure_by here (w (letters h.name)) (heading_tree h)))
procedure_walked a agrees w here h b f = ap (λ (d : decl.Declaration). walked a agrees w here d f) (procedure_tree h b)
