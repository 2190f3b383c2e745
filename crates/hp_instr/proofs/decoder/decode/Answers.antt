-- The laws of the round trip, at the word.
use Rattle.std.proofs.Common.{arith}
use Rattle.hp_instr.proofs.RoundTripLaws.{encoded-instruction}
use Rattle.hp_instr.proofs.GivenLaws.{has_word-instruction}
use Rattle.hp_instr.proofs.decoder.decode.Goals as goal

pub returns-clause-has_word : goal.returns-clause-has_word
returns-clause-has_word c = rw c.by_major.ensures (has_word-instruction c.args.w (omega arith))

pub returns-clause-again : goal.returns-clause-again
returns-clause-again c = rw c.by_major.ensures (encoded-instruction c.args.w (omega arith))
