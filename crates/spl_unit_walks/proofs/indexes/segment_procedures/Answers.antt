-- Where there is no map there are no names.
use Rattle.std.proofs.Common.{◌∙◌}
use Rattle.spl_unit_walks.proofs.indexes.segment_procedures.Goals as goal

pub returns-in-None : goal.returns-in-None
returns-in-None c = c.args.fixed.now.empty ∙ c.in-None.ensures
