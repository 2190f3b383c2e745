-- An EQUATE shows its items.
use Rattle.std.proofs.Common.{ap, sym, ◌∙◌, map}
use Rattle.std.proofs.lemmas.Result.{on_ok_weaker}
use Rattle.spl_tree.specs.DeclarationTrees.{Declaration}
use Rattle.spl_tree.specs.Spells as view
use Rattle.spl_sorts.specs.spl_meaning.Names.{find}
use Rattle.spl_uses.specs.spl_found.OwnNames.{behind_equates, behind_declaration}
use Rattle.spl_uses.specs.spl_found.FoundDeclarations.{found_equates, found_local}
use Rattle.spl_sorts.specs.Tables.{table_of}
use Rattle.spl_lists.specs.Arounds.{around_of}
use Rattle.spl_lists.specs.Sums.{equal_tree}
use Rattle.spl_lists.proofs.EquateWalks.{equate_view}
use Rattle.spl_lists.proofs.lists.declaration.Goals as goal

pub returns-in-Equate-clause-first : goal.returns-in-Equate-clause-first
returns-in-Equate-clause-first c =
    let a = around_of c.args.around.now in
    let here = find (table_of c.args.here.now) in
    let f = c.args.report.now in
    let shows = ap view.declaration c.in-Equate.is ∙ equate_view c.in-Equate.list in
    on_ok_weaker c.equates.result (λ e. e ∙ ap (λ es. found_equates a here (map equal_tree es) f) c.deref-in-Equate.ensures.value
    ∙ ap (λ (t : Declaration). found_local a here t f) (sym shows))
    c.equates.ensures.first

pub returns-in-Equate-clause-names : goal.returns-in-Equate-clause-names
returns-in-Equate-clause-names c =
    let outer = find (table_of c.args.around.now.names.now) in
    let here = find (table_of c.args.here.now) in
    let shows = ap view.declaration c.in-Equate.is ∙ equate_view c.in-Equate.list in
    on_ok_weaker c.equates.result (λ e. e ∙ ap (λ es. behind_equates outer here (map equal_tree es)) c.deref-in-Equate.ensures.value
    ∙ ap (λ (t : Declaration). behind_declaration outer here t) (sym shows))
    c.equates.ensures.names
