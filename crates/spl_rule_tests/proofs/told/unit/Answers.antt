-- What was read is spelled.
use Rattle.spl_rule_tests.proofs.SpelledLists.{read_spelled}
use Rattle.spl_rule_tests.proofs.told.unit.Goals as goal

pub returns : goal.returns
returns c = read_spelled c.args.number c.args.bytes.now c.read_unit.result c.read_unit.ensures.unit
