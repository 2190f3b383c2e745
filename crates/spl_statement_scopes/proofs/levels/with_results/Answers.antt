-- The subroutine's own result goes in first, and then that of the procedure around it.
use Rattle.std.proofs.Common.{ap, ◌∙◌}
use Rattle.spl_sorts.specs.spl_meaning.Names.{find}
use Rattle.spl_places.specs.NameMaps.{entries_of, shown}
use Rattle.spl_places.specs.Spots.{spot_of}
use Rattle.spl_body_scopes.specs.Levels.{Spots, Level, level_of, through}
use Rattle.spl_body_scopes.specs.Results.{result_of}
use Rattle.spl_statement_scopes.specs.Levels.{behind}
use Rattle.spl_module_code.specs.Bodies.{seen_results}
use Rattle.spl_statement_scopes.proofs.ResultLemmas.{both_behind}
use Rattle.spl_statement_scopes.proofs.levels.with_results.Goals as goal

-- a level with other places
abbrev placed : Level → Spots → Level
placed l spots = record { names = l.names; places = spots }

pub returns : goal.returns
returns c =
    let names = through (level_of c.args.inner).names (level_of c.args.own.now).names (level_of c.args.outer.now).names in
    let old = shown spot_of (find (entries_of c.args.inner.places)) in
    let first = result_of c.args.results.inner.now in
    let second = result_of c.args.results.own.now in
    ap (placed (level_of c.args.inner))
    (c.in_ok-add_result-2.ensures ∙ ap (λ (o : Spots). behind o (seen_results names second)) c.in_ok-add_result.ensures ∙ both_behind old names first second)
