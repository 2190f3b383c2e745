use Rattle.std.proofs.Common.{arith}
use Rattle.hp_fields.proofs.ZeroLemmas.{zeros_of, zeros_pushed}
use Rattle.hp_fields.proofs.counts.push_zeros.Goals as goal

-- the words that are pushed are the first n of 255 zeros
pub returns : goal.returns
returns c = zeros_pushed _ _ _ _ _ _ _ (zeros_of c.args.n (omega arith)) c.push_words.ensures
