use Rattle.std.proofs.Common.{map, Option, ap, ◌∙◌}
use Rattle.spl_tree.specs.DeclarationTrees.{declarations}
use Rattle.spl_tree.specs.Spells.{declaration, heading_tree}
use Rattle.spl_sound.specs.spl_meaning.Names as n
use Rattle.spl_sound.specs.spl_meaning.Names.{Names, find}
use Rattle.spl_sound.specs.spl_meaning.Faults.{Fault}
use Rattle.spl_sorts.specs.Tables.{table_of}
use Rattle.spl_uses.specs.spl_found.OwnNames.{behind_declarations}
use Rattle.spl_uses.specs.spl_found.FoundDeclarations.{found_locals, around_procedure}
use Rattle.spl_types.proofs.procedures.own_names.Goals as goal

-- the list is walked behind the parameters
pub returns-clause-first : goal.returns-clause-first
returns-clause-first c =
    let a = around_procedure (find (table_of c.args.globals.now)) (heading_tree c.args.head.now) in
    let ds = declarations (map declaration c.args.items.now) in
    let first = find (n.parameters (n.formals_of (heading_tree c.args.head.now))) in
    c.in_ok-declarations.ensures.first
    ∙ ap (λ (here : Names). found_locals a here ds c.first_names.new.report) c.in_ok-own.ensures.names
    ∙ ap (λ (r : Option Fault). found_locals a first ds r) c.in_ok-own.ensures.first

pub returns-clause-names : goal.returns-clause-names
returns-clause-names c =
    c.in_ok-declarations.ensures.names
    ∙ ap (λ (here : Names). behind_declarations (find (table_of c.args.globals.now)) here (declarations (map declaration c.args.items.now))) c.in_ok-own.ensures.names
