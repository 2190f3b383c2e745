-- Both marks of a value are set.
use Rattle.spl_gen_expr.proofs.MarkLemmas.{ended}
use Rattle.spl_gen_expr.proofs.marks.end.Goals as goal

pub returns-in_ok-set_mark-2 : goal.returns-in_ok-set_mark-2
returns-in_ok-set_mark-2 c =
    rw c.in-Some.is (ended c.args.o.fail c.in-Some.end c.in_ok-immediate.ensures c.in_ok-lead.ensures c.in_ok-set_mark.ensures c.in_ok-operate.ensures c.in_ok-set_mark-2.ensures)
