-- Event by event.
use Rattle.std.proofs.Common.{◌≡◌, ◌+◌, ◌≤◌, Vec, Global, List, length, drop, sym, ap, subst, ◌∙◌, arith}
use Rattle.hp_program.specs.declared.program.Program.{Program}
use Rattle.mpe_overlay.specs.Codes.{codes_of}
use Rattle.mpe_worlds.specs.declared.event.Event.{Event}
use Rattle.mpe_worlds.specs.Alone.{EachGoesOn}
use Rattle.mpe_worlds.specs.Events.{Played, played}
use Rattle.mpe_worlds.proofs.AloneLaws.{played_goes_on}
use Rattle.mpe_turns.specs.Monitors.{codes_in, played_by, world_of}
use Rattle.mpe_turns.proofs.EventLemmas.{played_all, played_more}
use Rattle.mpe_turns.proofs.monitor.Monitor.play.Goals as goal

pub loop-event-preserved : goal.loop-event-preserved
loop-event-preserved c =
    let events = c.deref-event-items.result.now in
    let i = c.loop-event.event-index in
    let before = c.loop-event.invariant in
    let p = played_by c.loop-event.self c.loop-event.count in
    let q = played_by c.happen-count.new.self c.happen-count.result in
    let more = played_more (codes_in c.loop-event.self) events i _ p q c.loop-event-test.true c.happen-count.ensures.played in
    record {
      few = omega (arith, c.happen-count.ensures.few, before.few);
      same_programs = c.happen-count.ensures.programs ∙ before.same_programs;
      same_base = c.happen-count.ensures.base ∙ before.same_base;
      rest = ap (λ (v : Vec Program Global). played (codes_of v.items) q (drop (i + 1) c.args.events.now.items)) c.happen-count.ensures.programs
          ∙ subst (λ (es : List Event). played (codes_in c.loop-event.self) q (drop (i + 1) es) ≡ played (codes_in c.loop-event.self) p (drop i es)) c.deref-event-items.ensures.value more
          ∙ before.rest;
    }

pub returns-clause-alone : goal.returns-clause-alone
returns-clause-alone c =
    let old = c.args.self.now in
    let events = c.args.events.now.items in
    let p = played_by c.loop-event.self c.loop-event.count in
    let le : length events ≤ c.loop-event.event-index =
    subst (λ (es : List Event). length es ≤ c.loop-event.event-index) c.deref-event-items.ensures.value c.loop-event-test.false in
    let done : p ≡ played (codes_in old) (played_by old 0) events =
    sym (played_all (codes_in c.loop-event.self) events c.loop-event.event-index p le) ∙ c.loop-event.invariant.rest in
    subst (λ (z : Played). EachGoesOn (codes_in old) (world_of old) z.world) (sym done) (played_goes_on (codes_in old) (played_by old 0) events)
