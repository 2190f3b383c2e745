-- By what the processor answered.
use Rattle.hp_program.specs.Programs.{segments_of}
use Rattle.mpe_turns.proofs.StepLemmas.{one_served, one_trapped, one_waits, one_went, suits_of}
use Rattle.mpe_turns.proofs.stepping.make_step.Goals as goal

pub returns-in-Went-clause-steps : goal.returns-in-Went-clause-steps
returns-in-Went-clause-steps c = λ p over.
    let suits = suits_of p c.args.session.now over.session in
    rw (c.go_on.ensures.value, c.go_on.ensures.session)
    (one_went p c.args.code.now c.args.session.now over c.requires.running c.step.new.self
    (c.in-Went.ensures.steps (segments_of p) over.holds suits.count)
    (c.in-Went.ensures.suits (segments_of p) p.main p.entry p.globals.items p.valid over.holds suits))

pub returns-in-Absent-clause-steps : goal.returns-in-Absent-clause-steps
returns-in-Absent-clause-steps c = λ p over.
    let suits = suits_of p c.args.session.now over.session in
    one_waits p c.args.code.now c.args.session.now over c.requires.running _ c.step.new.self
    (c.in-Absent.ensures.steps (segments_of p) over.holds suits.count)

pub returns-in-Gate-clause-steps : goal.returns-in-Gate-clause-steps
returns-in-Gate-clause-steps c = λ p over.
    let suits = suits_of p c.args.session.now over.session in
    one_served p c.args.code.now c.args.session.now over c.requires.running c.in-Gate.intrinsic c.step.new.self _ _
    (c.in-Gate.ensures.steps (segments_of p) over.holds suits.count)
    (c.in-Gate.ensures.suits (segments_of p) p.main p.entry p.globals.items p.valid over.holds suits)
    c.serve_call.ensures

pub returns-in-Trapped-clause-steps : goal.returns-in-Trapped-clause-steps
returns-in-Trapped-clause-steps c = λ p over.
    let suits = suits_of p c.args.session.now over.session in
    rw (c.end.ensures.value, c.end.ensures.session)
    (one_trapped p c.args.code.now c.args.session.now over c.requires.running c.in-Trapped.trap c.step.new.self
    (c.in-Trapped.ensures.steps (segments_of p) over.holds suits.count)
    (c.in-Trapped.ensures.suits (segments_of p) p.main p.entry p.globals.items p.valid over.holds suits))
