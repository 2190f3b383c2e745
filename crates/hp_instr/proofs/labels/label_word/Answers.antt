-- The word has sixteen bits, is read as the label, and is the only word that is.
use Rattle.std.proofs.Common.{◌∙◌, ap, sym}
use Rattle.hp_instr.specs.Labels.{label_bits}
use Rattle.hp_instr.proofs.LabelLaws.{label_bits-label, label_bits-below, label-label_bits}
use Rattle.hp_instr.proofs.labels.label_word.Goals as goal

pub word_of-requires : goal.word_of-requires
word_of-requires c = label_bits-below c.args.l c.requires

pub returns-clause-read : goal.returns-clause-read
returns-clause-read c = rw c.word_of.ensures (label-label_bits c.args.l c.requires)

pub returns-clause-only : goal.returns-clause-only
returns-clause-only c = λ w below e. c.word_of.ensures ∙ sym (ap label_bits e) ∙ label_bits-label w below
