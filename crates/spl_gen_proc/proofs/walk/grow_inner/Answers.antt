-- The mark of its entry is the first that may be set.
use Rattle.spl_unit_laws.proofs.spl_routine_code_proofs.OpenMarks.{first_open}
use Rattle.spl_gen_proc.proofs.walk.grow_inner.Goals as goal

pub subroutine-requires-clause-free : goal.subroutine-requires-clause-free
subroutine-requires-clause-free c = first_open c.args.part.now.done 0 c.args.part.now.code.marks.items c.requires.free
