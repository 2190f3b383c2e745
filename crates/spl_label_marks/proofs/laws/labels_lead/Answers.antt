-- Label by label.
use Rattle.spl_label_marks.proofs.LabelNames.{labels_lead}
use Rattle.spl_label_marks.proofs.LabelParts.{landed_part}
use Rattle.spl_label_marks.proofs.laws.labels_lead.Goals as goal

pub returns-clause-own : goal.returns-clause-own
returns-clause-own c = labels_lead

pub returns-clause-part : goal.returns-clause-part
returns-clause-part c = landed_part
