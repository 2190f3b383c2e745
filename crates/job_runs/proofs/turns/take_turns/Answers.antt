-- Turn by turn.
use Rattle.std.proofs.Common.{◌≡◌, ◌+◌, ◌-◌, ◌*◌, ◌≤◌, Vec, Global, Some, sym, ap, subst, ◌∙◌, arith}
use Rattle.job_report.specs.hp_program.declared.program.Program.{Program}
use Rattle.mpe_turns.specs.mpe_overlay.Codes.{codes_of}
use Rattle.mpe_turns.specs.mpe_worlds.Worlds.{World}
use Rattle.mpe_turns.specs.mpe_worlds.Turns.{turned}
use Rattle.mpe_turns.specs.mpe_worlds.Dispatch.{after, next_of}
use Rattle.mpe_turns.specs.mpe_worlds.Alone.{EachGoesOn}
use Rattle.mpe_turns.specs.Monitors.{codes_in, world_of}
use Rattle.job_runs.proofs.TurnLemmas.{no_turn, no_session, turn_more, turns_go_on, less_to_spend}
use Rattle.job_runs.proofs.turns.take_turns.Goals as goal

pub returns-in-None-clause-world : goal.returns-in-None-clause-world
returns-in-None-clause-world c =
    let m = c.loop-left.monitor in
    sym (no_session (codes_in c.args.monitor.now) c.args.quantum c.loop-left.left (world_of m) (sym c.next.ensures.value ∙ c.in-None.is)) ∙ c.loop-left.invariant.rest

pub returns-in-None-clause-alone : goal.returns-in-None-clause-alone
returns-in-None-clause-alone c =
    let m = c.loop-left.monitor in
    let codes = codes_in c.args.monitor.now in
    let w = world_of c.args.monitor.now in
    subst (λ (x : World). EachGoesOn codes w x)
    (sym (sym (no_session codes c.args.quantum c.loop-left.left (world_of m) (sym c.next.ensures.value ∙ c.in-None.is)) ∙ c.loop-left.invariant.rest))
    (turns_go_on codes c.args.quantum c.args.turns w)

pub loop-left-preserved : goal.loop-left-preserved
loop-left-preserved c =
    let m = c.loop-left.monitor in
    let codes = codes_in c.args.monitor.now in
    let who = c.in-Some.who in
    let q = c.args.quantum in
    let next : next_of (world_of m) ≡ Some who = sym c.next.ensures.value ∙ c.in-Some.is in
    let spent = c.turn.ensures.spent in
    record {
      rest = ap (after codes q (c.loop-left.left - 1))
          (c.turn.ensures.world ∙ ap (λ (v : Vec Program Global). turned (codes_of v.items) who q (world_of m)) c.loop-left.invariant.same_programs)
          ∙ turn_more codes q c.loop-left.left who (world_of m) c.loop-left-test.true next ∙ c.loop-left.invariant.rest;
      same_programs = c.turn.ensures.programs ∙ c.loop-left.invariant.same_programs;
      same_base = c.turn.ensures.base ∙ c.loop-left.invariant.same_base;
      spent = subst (λ x. x + q * (c.loop-left.left - 1) ≤ 1152921504606846976) (sym spent)
          (less_to_spend m.spent q c.loop-left.left 1152921504606846976 c.loop-left-test.true c.loop-left.invariant.spent);
    }

pub returns-clause-world : goal.returns-clause-world
returns-clause-world c =
    let none = c.loop-left-test.false in
    sym (no_turn (codes_in c.args.monitor.now) c.args.quantum c.loop-left.left (world_of c.loop-left.monitor) (omega (arith, none))) ∙ c.loop-left.invariant.rest

pub returns-clause-alone : goal.returns-clause-alone
returns-clause-alone c =
    let none = c.loop-left-test.false in
    let codes = codes_in c.args.monitor.now in
    let w = world_of c.args.monitor.now in
    subst (λ (x : World). EachGoesOn codes w x)
    (sym (sym (no_turn codes c.args.quantum c.loop-left.left (world_of c.loop-left.monitor) (omega (arith, none))) ∙ c.loop-left.invariant.rest))
    (turns_go_on codes c.args.quantum c.args.turns w)
