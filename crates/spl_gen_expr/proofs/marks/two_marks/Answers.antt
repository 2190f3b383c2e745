-- Two marks are made.
use Rattle.spl_gen_expr.proofs.MarkLemmas.{fresh_twice}
use Rattle.spl_gen_expr.proofs.marks.two_marks.Goals as goal

pub returns-clause-made : goal.returns-clause-made
returns-clause-made c =
    let first = c.in_ok-first.ensures in
    let second = c.in_ok-fresh.ensures in
    fresh_twice _ _ _ first.marks first.pieces first.wants first.same second.marks second.pieces second.wants second.same
