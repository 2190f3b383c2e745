-- The word has sixteen bits, is decoded to the instruction, and is the only word that is.
use Rattle.std.proofs.Common.{◌∙◌, ap, sym}
use Rattle.hp_instr.specs.Encoded.{encoded}
use Rattle.hp_instr.proofs.RoundTripLaws.{encoded-instruction}
use Rattle.hp_instr.proofs.FieldLaws.{instruction-encoded}
use Rattle.hp_instr.proofs.GivenLaws.{encoded-below}
use Rattle.hp_instr.proofs.encoder.encode.Goals as goal

pub word_of-requires : goal.word_of-requires
word_of-requires c = encoded-below c.args.i c.requires

pub returns-clause-decoded : goal.returns-clause-decoded
returns-clause-decoded c = rw c.word_of.ensures (instruction-encoded c.args.i c.requires)

pub returns-clause-only : goal.returns-clause-only
returns-clause-only c = λ w below e. c.word_of.ensures ∙ sym (ap encoded e) ∙ encoded-instruction w below
