-- An equal program is made of the same texts.
use Rattle.hp3000_top.proofs.Making.{filed_is_made}
use Rattle.hp3000_top.proofs.programs.program_of.Goals as goal

pub returns-clause-made : goal.returns-clause-made
returns-clause-made c = filed_is_made _ c.in_ok-program.program c.in_ok-filed.filed c.in_ok-program.ensures.made c.in_ok-filed.ensures
