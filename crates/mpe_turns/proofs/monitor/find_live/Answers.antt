-- Session by session.
use Rattle.std.proofs.Common.{◌≡◌, rules, sym, ◌∙◌}
use Rattle.hp_word.specs.declared.endings.Ending.TheVariants.{Running}
use Rattle.mpe_turns.proofs.DispatchLemmas.{live_beyond, live_here}
use Rattle.mpe_turns.proofs.monitor.find_live.Goals as goal

pub returns-then-eq-clause-value : goal.returns-then-eq-clause-value
returns-then-eq-clause-value c =
    let runs : c.index-sessions-i.result.ending ≡ Running = search rules in
    sym (live_here c.args.sessions.now c.loop-i.i c.index-sessions-i.result c.loop-i-test.true c.index-sessions-i.is runs) ∙ c.loop-i.invariant

pub loop-i-preserved : goal.loop-i-preserved
loop-i-preserved c =
    let other : c.index-sessions-i.result.ending ≡ Running → ⊥ = search rules in
    live_beyond c.args.sessions.now c.loop-i.i c.index-sessions-i.result c.loop-i-test.true c.index-sessions-i.is other ∙ c.loop-i.invariant
