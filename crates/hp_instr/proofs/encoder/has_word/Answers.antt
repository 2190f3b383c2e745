-- An instruction whose fields are such as words have is the one of its own word, and each word's has such fields.
use Rattle.hp_instr.proofs.GivenLaws.{has_word_iff}
use Rattle.hp_instr.proofs.encoder.has_word.Goals as goal

pub returns-clause-word : goal.returns-clause-word
returns-clause-word c = rw c.fields_fit.ensures (has_word_iff c.args.i)
