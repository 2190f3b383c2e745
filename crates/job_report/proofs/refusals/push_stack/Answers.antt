-- The pieces are those of the definition.
use Rattle.job_report.proofs.refusals.push_stack.Goals as goal

pub returns : goal.returns
returns c =
    rw (← c.number-session.ensures, ← c.number-need.ensures, ← c.number-given.ensures, ← c.deref.ensures.0, ← c.deref-2.ensures.0, ← c.deref-3.ensures.0)
    c.push_line.ensures
