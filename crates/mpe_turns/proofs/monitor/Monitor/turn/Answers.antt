-- The session lives, and its program is there. Then the turn is the definition's.
use Rattle.std.proofs.Common.{◌≡◌, ℕ, ◌+◌, ◌-◌, ◌^◌, ◌<◌, Some, Vec, Global, slice_get, slice_set, sym, ap, subst, ◌∙◌, arith}
use Rattle.hp_program.specs.declared.program.Program.{Program}
use Rattle.hp_program.specs.Programs.{segments_of}
use Rattle.hp_word.specs.declared.endings.Ending.TheVariants.{Running}
use Rattle.mpe_overlay.specs.Codes.{codes_of, key_of}
use Rattle.mpe_worlds.specs.Worlds.{World}
use Rattle.mpe_worlds.specs.Alone.{EachGoesOn}
use Rattle.mpe_worlds.specs.RunSteps.{stepping}
use Rattle.mpe_worlds.specs.Turns.{loads_after, turned}
use Rattle.mpe_worlds.proofs.AloneLaws.{turned_goes_on}
use Rattle.mpe_turns.specs.Answers.{Advances, answer_at}
use Rattle.mpe_turns.specs.Monitors.{codes_in, world_of}
use Rattle.mpe_turns.specs.Stands.{IsKept, run_of}
use Rattle.mpe_turns.proofs.TurnLemmas.{advances, answers, kept_is, live_session, loads_are, needed_fits, program_there, turned_is, world_with}
use Rattle.mpe_turns.proofs.monitor.Monitor.turn.Goals as goal

pub need-requires : goal.need-requires
need-requires c =
    let m = c.args.self.now in
    let s = c.index_mut-session.result.now in
    let live = live_session m.sessions.items c.args.who s c.requires.live c.index_mut-session.ensures.value in
    let p = program_there m.overlay.programs.items s.program (m.kept.there c.args.who s live.0) in
    needed_fits m.overlay.programs.items m.overlay.regions.area.size m.sessions.items m.overlay.loads m.turns m.spent c.args.who c.needed_segment.result s p.0
    m.kept live.0 p.1 c.needed_segment.ensures c.needed_segment.type_inv

pub overflow_add-until : goal.overflow_add-until
overflow_add-until c =
    let m = c.args.self.now in
    let s = c.index_mut-session.result.now in
    let live = live_session m.sessions.items c.args.who s c.requires.live c.index_mut-session.ensures.value in
    let steps = m.kept.steps c.args.who s live.0 in
    let spent = c.requires.spent in
    omega (arith, steps, spent)

pub run-requires-clause-running : goal.run-requires-clause-running
run-requires-clause-running c =
    (live_session c.args.self.now.sessions.items c.args.who c.index_mut-session.result.now c.requires.live c.index_mut-session.ensures.value).1

pub run-requires-clause-until : goal.run-requires-clause-until
run-requires-clause-until c =
    let m = c.args.self.now in
    let s = c.index_mut-session.result.now in
    let live = live_session m.sessions.items c.args.who s c.requires.live c.index_mut-session.ensures.value in
    let steps = m.kept.steps c.args.who s live.0 in
    let spent = c.requires.spent in
    omega (arith, steps, spent)

pub invariant_of-self-clause-kept : goal.invariant_of-self-clause-kept
invariant_of-self-clause-kept c =
    let m = c.args.self.now in
    let s = c.index_mut-session.result.now in
    let live = live_session m.sessions.items c.args.who s c.requires.live c.index_mut-session.ensures.value in
    let p = program_there m.overlay.programs.items s.program (m.kept.there c.args.who s live.0) in
    let few : m.overlay.loads < 2 ^ 63 = omega (arith, m.kept.loads, m.kept.turns, m.bounded) in
    let of = ap (λ (v : Vec Program Global). slice_get v.items s.program) c.need.ensures.programs ∙ p.1 in
    let is = m.kept.each c.args.who s p.0 live.0 p.1 in
    let count : s.steps + c.args.quantum - s.steps ≡ c.args.quantum = omega arith in
    let ran = c.run.ensures.steps p.0 of is ∙ ap (λ (n : ℕ). stepping (segments_of p.0) c.need.new.self.regions.area n (run_of (segments_of p.0) s)) count in
    subst (λ (v : Vec Program Global). IsKept v.items c.need.new.self.regions.area.size (slice_set m.sessions.items c.args.who c.run.new.session) c.need.new.self.loads (m.turns + 1) (m.spent + c.args.quantum))
    (sym c.need.ensures.programs)
    (kept_is m.overlay.programs.items m.sessions.items c.args.who s c.run.new.session p.0 m.overlay.regions.area c.need.new.self.regions.area c.args.quantum c.needed_segment.result
    c.needed_segment.ensures live.0 p.1 c.need.ensures.area c.run.ensures.program ran
    m.overlay.regions.area.size c.need.new.self.regions.area.size m.overlay.loads c.need.new.self.loads m.turns m.spent m.kept c.need.ensures.size
    (c.need.ensures.loads ∙ loads_are (key_of s.program c.needed_segment.result) m.overlay.regions.area m.overlay.loads few) c.requires.some c.run.ensures.until
    (λ was. c.run.ensures.session p.0 of was))

-- What holds where the turn returns.
module _ (c : goal.After-self-2-1) where
  live : (slice_get c.args.self.now.sessions.items c.args.who ≡ Some c.index_mut-session.result.now) × (c.index_mut-session.result.now.ending ≡ Running)
  live = live_session c.args.self.now.sessions.items c.args.who c.index_mut-session.result.now c.requires.live c.index_mut-session.ensures.value

  its : (p : Program) × (slice_get c.args.self.now.overlay.programs.items c.index_mut-session.result.now.program ≡ Some p)
  its = program_there c.args.self.now.overlay.programs.items c.index_mut-session.result.now.program (c.args.self.now.kept.there c.args.who c.index_mut-session.result.now live.0)

  ran : run_of (segments_of its.0) c.run.new.session
      ≡ stepping (segments_of its.0) c.need.new.self.regions.area c.args.quantum (run_of (segments_of its.0) c.index_mut-session.result.now)
  ran =
      let old = c.index_mut-session.result.now in
      let of = ap (λ (v : Vec Program Global). slice_get v.items old.program) c.need.ensures.programs ∙ its.1 in
      let count : old.steps + c.args.quantum - old.steps ≡ c.args.quantum = omega arith in
      c.run.ensures.steps its.0 of (c.args.self.now.kept.each c.args.who old its.0 live.0 its.1)
      ∙ ap (λ (n : ℕ). stepping (segments_of its.0) c.need.new.self.regions.area n (run_of (segments_of its.0) old)) count

  counts : c.need.new.self.loads ≡ loads_after (key_of c.index_mut-session.result.now.program c.needed_segment.result) c.args.self.now.overlay.regions.area c.args.self.now.overlay.loads
  counts =
      let m = c.args.self.now in
      let few : m.overlay.loads < 2 ^ 63 = omega (arith, m.kept.loads, m.kept.turns, m.bounded) in
      c.need.ensures.loads ∙ loads_are (key_of c.index_mut-session.result.now.program c.needed_segment.result) m.overlay.regions.area m.overlay.loads few

  -- the world after the turn, over programs that may be named by the old monitor or the new one
  abbrev after : Vec Program Global → World
  after v = world_with (codes_of v.items) (slice_set c.args.self.now.sessions.items c.args.who c.run.new.session) c.need.new.self.regions.area
      (c.args.self.now.turns + 1) c.need.new.self.loads c.args.who

  goes : after c.need.new.self.programs ≡ turned (codes_in c.args.self.now) c.args.who c.args.quantum (world_of c.args.self.now)
  goes = ap after c.need.ensures.programs
      ∙ turned_is c.args.self.now.overlay.programs.items c.args.self.now.sessions.items c.args.who c.index_mut-session.result.now c.run.new.session its.0
      c.args.self.now.overlay.regions.area c.need.new.self.regions.area c.args.quantum c.needed_segment.result
      c.needed_segment.ensures live.0 its.1 c.need.ensures.area c.run.ensures.program ran
      c.args.self.now.turns c.args.self.now.overlay.loads c.args.self.now.last c.need.new.self.loads counts

pub returns-clause-world : goal.returns-clause-world
returns-clause-world c = goes c

pub returns-clause-value : goal.returns-clause-value
returns-clause-value c =
    let m = c.args.self.now in
    answers m.overlay.programs.items m.sessions.items c.args.who c.index_mut-session.result.now c.run.new.session (its c).0 m.overlay.regions.area c.need.new.self.regions.area
    c.args.quantum c.needed_segment.result c.needed_segment.ensures (live c).0 (its c).1 c.need.ensures.area c.run.ensures.program (ran c)
    c.answer-turned.result m.turns (m.turns + 1) m.overlay.loads c.need.new.self.loads m.last c.args.who c.answer-turned.ensures
    ∙ ap (λ (v : Vec Program Global). answer_at c.args.who c.args.quantum (world_of m) (after c v)) (sym c.need.ensures.programs)

pub returns-clause-advances : goal.returns-clause-advances
returns-clause-advances c =
    let m = c.args.self.now in
    subst (λ (v : Vec Program Global). Advances c.args.who (world_of m) (after c v)) (sym c.need.ensures.programs)
    (advances m.overlay.programs.items m.sessions.items c.args.who c.index_mut-session.result.now c.run.new.session (its c).0 m.overlay.regions.area c.need.new.self.regions.area
    c.args.quantum c.needed_segment.result c.needed_segment.ensures (live c).0 (its c).1 c.need.ensures.area c.run.ensures.program (ran c)
    m.turns (m.turns + 1) m.overlay.loads c.need.new.self.loads m.last c.args.who c.requires.some (live c).1 c.need.ensures.there (counts c))

pub returns-clause-alone : goal.returns-clause-alone
returns-clause-alone c =
    subst (λ (w : World). EachGoesOn (codes_in c.args.self.now) (world_of c.args.self.now) w) (sym (goes c))
    (turned_goes_on (codes_in c.args.self.now) c.args.who c.args.quantum (world_of c.args.self.now))
