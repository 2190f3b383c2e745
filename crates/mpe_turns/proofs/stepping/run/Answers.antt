-- A step more, or the last, over the view that holds the segment which the session needs.
use Rattle.std.proofs.Common.{◌≡◌, ℕ, ◌<◌, ◌≤◌, Bool, true, false, Some, slice_get, ap, refl, subst, sym, ◌∙◌, arith}
use Rattle.std.specs.Prelude.{is_some}
use Rattle.hp_program.specs.declared.program.Program.{Program}
use Rattle.mpe_overlay.specs.mpe_regions.Area.{Area}
use Rattle.mpe_overlay.specs.mpe_regions.Kept.{Kept}
use Rattle.mpe_overlay.specs.Held.{held_in}
use Rattle.mpe_worlds.specs.RunSteps.{can_step}
use Rattle.mpe_worlds.specs.hp_cpu.Stood.{needed}
use Rattle.hp_program.specs.Programs.{segments_of}
use Rattle.mpe_turns.specs.Stands.{IsSessionOf, run_of}
use Rattle.mpe_turns.specs.Steps.{MakesOne, MakesSome, RunsOver, Views, area_of}
use Rattle.mpe_turns.proofs.LoopLemmas.{all_made, begins, none_left, none_more, one_last, one_more, runs_over, views_of, views_stay}
use Rattle.mpe_turns.proofs.StepLemmas.{waits_for}
use Rattle.mpe_turns.proofs.stepping.run.Goals as goal

pub returns-in-None-clause-steps : goal.returns-in-None-clause-steps
returns-in-None-clause-steps c = λ p of is.
    let s = c.args.session.now in
    let a = c.args.overlay.now.regions.area in
    let words = c.view.result.area.now.items in
    let program = c.view.result.program in
    let seg = c.needed_segment-seg.result in
    let absent : is_some (held_in words a s.program (needed s.cpu)) ≡ false =
    subst (λ (k : ℕ). is_some (held_in words a s.program k) ≡ false) c.needed_segment-seg.ensures
    (subst (λ (n : ℕ). is_some (held_in words a n seg) ≡ false) c.view.ensures.program
    (subst (λ (k : Kept). is_some (held_in words k.area program seg) ≡ false) c.view.ensures.regions (sym c.in-None.ensures.value))) in
    none_left p a c.args.until s s (none_more p a c.args.until s s (begins p a c.args.until s is) (waits_for p words a s c.requires.running is absent))

pub stepping-init : goal.stepping-init
stepping-init c =
    let s = c.args.session.now in
    let overlay = c.args.overlay.now in
    record {
      running = c.requires.running;
      below = c.requires.below;
      left = refl;
      program = refl;
      views = views_of overlay c.view.result c.in-Some.code s.program c.in-Some.ensures.view c.view.ensures.program c.view.ensures.regions c.view.ensures.holds;
      some = λ p of is. begins p overlay.regions.area c.args.until s is;
    }

pub returns-then-not-follow-clause-steps : goal.returns-then-not-follow-clause-steps
returns-then-not-follow-clause-steps c = λ p of is.
    let a = c.args.overlay.now.regions.area in
    let code = c.stepping.code in
    let t = c.stepping.session in
    let before = c.stepping.invariant in
    let some = before.some p of is in
    let absent : is_some (held_in code.view.area.now.items (area_of code) t.program (needed t.cpu)) ≡ false =
    subst (λ (n : ℕ). is_some (held_in code.view.area.now.items (area_of code) n (needed t.cpu)) ≡ false) before.views.program c.if-not-follow.ensures.absent in
    let waits : can_step a (run_of (segments_of p) t) ≡ false =
    subst (λ (b : Area). can_step b (run_of (segments_of p) t) ≡ false) before.views.area
    (waits_for p code.view.area.now.items (area_of code) t before.running some.session absent) in
    none_left p a c.args.until c.args.session.now t (none_more p a c.args.until c.args.session.now t some waits)

-- all that was made with the last step
made : (c : goal.Then-not-make_step) (p : Program) → slice_get c.args.overlay.now.programs.items c.args.session.now.program ≡ Some p → IsSessionOf p c.args.session.now
    → MakesSome p c.args.overlay.now.regions.area c.args.until c.args.session.now false c.make_step.new.session
made c p of is =
    let overlay = c.args.overlay.now in
    let code = c.follow.new.code in
    let t = c.stepping.session in
    let before = c.stepping.invariant in
    let some = before.some p of is in
    let lt : t.steps < c.args.until = omega (arith, before.left) in
    let views : Views overlay t.program code = views_stay overlay t.program c.stepping.code code c.follow.ensures.view before.views in
    let here : RunsOver p code t = runs_over overlay code p t views (ap (slice_get overlay.programs.items) before.program ∙ of) some.session in
    one_last p overlay.regions.area c.args.until c.args.session.now t c.make_step.new.session some lt
    (subst (λ (a : Area). MakesOne p a t false c.make_step.new.session) views.area
    (subst (λ (b : Bool). MakesOne p (area_of code) t b c.make_step.new.session) c.if-not-make_step.true (c.make_step.ensures.steps p here)))

pub returns-then-not-make_step-clause-steps : goal.returns-then-not-make_step-clause-steps
returns-then-not-make_step-clause-steps c = λ p of is. none_left p c.args.overlay.now.regions.area c.args.until c.args.session.now c.make_step.new.session (made c p of is)

pub returns-then-not-make_step-clause-session : goal.returns-then-not-make_step-clause-session
returns-then-not-make_step-clause-session c = λ p of is. (made c p of is).session

pub stepping-preserved : goal.stepping-preserved
stepping-preserved c =
    let overlay = c.args.overlay.now in
    let code = c.follow.new.code in
    let t = c.stepping.session in
    let before = c.stepping.invariant in
    let goes_on : c.make_step.result ≡ true = c.if-not-make_step.false in
    let went = c.make_step.ensures.on goes_on in
    let lt : t.steps < c.args.until = omega (arith, before.left) in
    let views : Views overlay t.program code = views_stay overlay t.program c.stepping.code code c.follow.ensures.view before.views in
    record {
      running = went.1;
      below = omega (arith, went.0);
      left = omega (arith, before.left, went.0);
      program = c.make_step.ensures.program ∙ before.program;
      views = subst (λ (k : ℕ). Views overlay k code) (sym c.make_step.ensures.program) views;
      some = λ p of is.
          let some = before.some p of is in
          let here : RunsOver p code t = runs_over overlay code p t views (ap (slice_get overlay.programs.items) before.program ∙ of) some.session in
          one_more p overlay.regions.area c.args.until c.args.session.now t c.make_step.new.session some lt
          (subst (λ (a : Area). MakesOne p a t true c.make_step.new.session) views.area
          (subst (λ (b : Bool). MakesOne p (area_of code) t b c.make_step.new.session) goes_on (c.make_step.ensures.steps p here))) went.0;
    }

pub returns-clause-steps : goal.returns-clause-steps
returns-clause-steps c = λ p of is.
    let done : c.args.until ≤ c.stepping.session.steps = omega (arith, c.stepping.invariant.left) in
    all_made p c.args.overlay.now.regions.area c.args.until c.args.session.now c.stepping.session (c.stepping.invariant.some p of is) done
