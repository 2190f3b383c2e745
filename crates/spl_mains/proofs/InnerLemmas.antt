-- A subroutine's statement: it is performed alone, and RETURN leads behind it.
use Rattle.std.proofs.Common.{◌+◌, ◌≤◌, true, false, [], sym, arith, append-nil}
use Rattle.std.proofs.lemmas.Bool.{and_parts}
use Rattle.spl_followed.specs.spl_tree.StatementTrees as stat
use Rattle.spl_followed.specs.spl_meaning.Pending.{statement_most}
use Rattle.spl_followed.specs.spl_meaning.States.{done}
use Rattle.spl_followed.specs.spl_meaning.Statements.{run, run_all}
use Rattle.spl_followed.specs.spl_code.Parts.{nothing}
use Rattle.spl_stores.specs.spl_statement_code.Statements.{statement}
use Rattle.spl_followed.specs.spl_follow.Following.{tally}
use Rattle.spl_followed.specs.spl_follow.Parts.{Completes, Leaving, Returning}
use Rattle.spl_followed.proofs.spl_follow_proofs.FollowLemmas.{weaken}
use Rattle.spl_followed.proofs.spl_follow_proofs.StandLemmas.{closed_any}
use Rattle.spl_stores.proofs.spl_control_proofs.SequenceLemmas.{nothing_performs, lists_perform}
use Rattle.spl_stores.specs.spl_jumps.Landed.{is_landed}
use Rattle.spl_stores.specs.spl_names.Names.{read_with}
use Rattle.spl_stores.specs.Covered.{is_covered_statement}
use Rattle.spl_stores.proofs.CoverLemmas.{statement_whole, covered_performs}
use Rattle.spl_mains.specs.Laws.{CoveredInnersFollow}
use Rattle.spl_mains.proofs.MainLemmas.{left_returns}

pub inner_follows : CoveredInnersFollow
inner_follows may returns c results z call d number need st first leave l ws to return room covered stands front pays calls' agrees jumps landed s m begins =
    let h = read_with c.scope results z.setting in
    let one = (and_parts (is_covered_statement may returns c.scope results z.setting st 0) true covered).0 in
    let lands = (and_parts (is_landed c.landings [] st 0) true landed).0 in
    let whole = statement_whole may returns c results z.setting st 0 one [] lands in
    let enough : statement_most c.scope.names st + 8 ≤ need = omega (arith, room) in
    let performs = lists_perform z d 0 need (statement c st 0) nothing (λ t. run h call d number st 0 t) (λ t. done tt t)
    (λ i vs. closed_any false (statement c st 0 i vs).pieces (whole.closed i vs)) (λ i vs. record { rest = []; is = sym (append-nil vs) })
    (covered_performs may returns c results z call d number [] st 0 need one enough calls' agrees return jumps lands) (nothing_performs z d 0 need) in
    weaken z.ground z.rate 0 3 0 (tally s) m (Completes z.setting leave 0 s.now m) (Completes z.setting leave 0 s.now m)
    (Leaving z.setting z.exits 0 s.now m) (Returning z.setting leave 0 s.now m)
    (run_all h call d number (stat.Statements.and st stat.Statements.none) 0 s)
    (performs.does l ws first leave s m stands front pays begins) (λ u t n a less. a) (left_returns z.setting z.exits leave s m to)
