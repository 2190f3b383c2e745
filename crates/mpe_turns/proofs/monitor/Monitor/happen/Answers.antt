-- Each event is the definition's, or is passed over by it too.
use Rattle.std.proofs.Common.{ℕ, ◌+◌, sym, ap, ◌∙◌}
use Rattle.std.specs.Prelude.{nat_le, ◌^◌}
use Rattle.mpe_worlds.specs.declared.event.Event.{Event}
use Rattle.mpe_worlds.specs.Worlds.{World}
use Rattle.mpe_worlds.specs.Events.{Played, happened}
use Rattle.mpe_turns.specs.Monitors.{codes_in, played_by}
use Rattle.mpe_turns.proofs.EventLemmas.{evict_on, evict_over, live_so, turn_on, turn_over}
use Rattle.mpe_turns.proofs.monitor.Monitor.happen.Goals as goal

pub returns-then-not-may_turn-clause-played : goal.returns-then-not-may_turn-clause-played
returns-then-not-may_turn-clause-played c =
    let p = played_by c.args.self.now c.args.count in
    turn_over (codes_in c.args.self.now) p c.in-Turn.who c.in-Turn.quantum (sym c.may_turn.ensures ∙ c.if-not-may_turn.true)
    ∙ ap (λ (e : Event). happened (codes_in c.args.self.now) e p) (sym c.in-Turn.is)

pub turn-requires-clause-live : goal.turn-requires-clause-live
turn-requires-clause-live c = live_so (codes_in c.args.self.now) c.args.self.now.sessions.items c.in-Turn.who (nat_le 1 c.in-Turn.quantum)
    (nat_le (c.args.self.now.spent + c.in-Turn.quantum) (2 ^ 60)) (sym c.may_turn.ensures ∙ c.if-not-may_turn.false)

pub returns-then-not-may_evict-clause-played : goal.returns-then-not-may_evict-clause-played
returns-then-not-may_evict-clause-played c =
    let p = played_by c.args.self.now c.args.count in
    evict_over (codes_in c.args.self.now) p c.in-Evict.program c.in-Evict.seg (sym c.may_evict.ensures ∙ c.if-not-may_evict.true)
    ∙ ap (λ (e : Event). happened (codes_in c.args.self.now) e p) (sym c.in-Evict.is)

pub returns-else-not-may_turn-clause-played : goal.returns-else-not-may_turn-clause-played
returns-else-not-may_turn-clause-played c =
    let p = played_by c.args.self.now c.args.count in
    let made : World → ℕ → Played = λ w n. record { world = w; spent = n; count = c.args.count + 1 } in
    ap (λ (w : World). made w c.turn.new.self.spent) c.turn.ensures.world ∙ ap (made _) c.turn.ensures.spent
    ∙ turn_on (codes_in c.args.self.now) p c.in-Turn.who c.in-Turn.quantum (sym c.may_turn.ensures ∙ c.if-not-may_turn.false)
    ∙ ap (λ (e : Event). happened (codes_in c.args.self.now) e p) (sym c.in-Turn.is)

pub returns-else-not-may_evict-clause-played : goal.returns-else-not-may_evict-clause-played
returns-else-not-may_evict-clause-played c =
    let p = played_by c.args.self.now c.args.count in
    let made : World → ℕ → Played = λ w n. record { world = w; spent = n; count = c.args.count + 1 } in
    ap (λ (w : World). made w c.evict.new.self.spent) c.evict.ensures.world ∙ ap (made _) c.evict.ensures.spent
    ∙ evict_on (codes_in c.args.self.now) p c.in-Evict.program c.in-Evict.seg (sym c.may_evict.ensures ∙ c.if-not-may_evict.false)
    ∙ ap (λ (e : Event). happened (codes_in c.args.self.now) e p) (sym c.in-Evict.is)
