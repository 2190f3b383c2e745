-- A result goes in where its name stands for what gives it.
use Rattle.std.proofs.Common.{rules, ◌≡◌, true, Option, sym, ap, ◌∙◌}
use Rattle.spl_tree.specs.Views.{letters}
use Rattle.spl_sorts.specs.spl_meaning.Names.{find}
use Rattle.spl_places.specs.NameMaps.{entries_of, shown}
use Rattle.spl_places.specs.Spots.{spot_of}
use Rattle.spl_places.proofs.NameMapLemmas.{shown_added}
use Rattle.spl_body_scopes.specs.declared.results.BodyResult.{BodyResult}
use Rattle.spl_body_scopes.specs.Results.{result_of}
use Rattle.spl_statement_scopes.specs.Levels.{behind}
use Rattle.spl_module_code.specs.Bodies.{is_called, seen_results}
use Rattle.spl_sorts.specs.Tables.{names_of}
use Rattle.spl_statement_scopes.proofs.ResultLemmas.{taken_in}
use Rattle.spl_statement_scopes.proofs.levels.add_result.Goals as goal

pub returns-in_ok-add : goal.returns-in_ok-add
returns-in_ok-add c =
    let r = c.in-Some.one in
    let names = names_of c.args.names.now in
    let old = find (entries_of c.args.places.now) in
    let new = find (entries_of c.add.new.self) in
    let called : is_called (names (letters r.name)) ≡ true = search rules in
    taken_in (shown spot_of new) (shown spot_of old) names r called (shown_added spot_of new old (letters r.name) r.place c.in_ok-add.ensures)
    ∙ ap (λ (k : Option BodyResult). behind (shown spot_of old) (seen_results names (result_of k))) (sym c.in-Some.is)
