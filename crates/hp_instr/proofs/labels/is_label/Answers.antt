-- A label whose fields are such as words have is the one of its own word, and each word's has such fields.
use Rattle.hp_instr.proofs.LabelLaws.{is_label_iff}
use Rattle.hp_instr.proofs.labels.is_label.Goals as goal

pub returns-clause-word : goal.returns-clause-word
returns-clause-word c = rw c.fields_fit.ensures (is_label_iff c.args.l)
