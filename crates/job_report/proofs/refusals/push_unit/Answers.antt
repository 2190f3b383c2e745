-- The pieces are those of the definition.
use Rattle.job_report.proofs.refusals.push_unit.Goals as goal

pub returns : goal.returns
returns c =
    rw (
      ← c.number-unit.ensures,
      ← c.number-line.ensures,
      ← c.number-column.ensures,
      ← c.unit_word-what.ensures,
      ← c.unit_number-which.ensures,
      ← c.deref.ensures.0,
      ← c.deref-2.ensures.0,
      ← c.deref-3.ensures.0,
      ← c.deref-4.ensures.0,
    )
    c.push_line.ensures
