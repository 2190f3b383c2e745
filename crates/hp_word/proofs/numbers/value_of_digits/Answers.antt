use Rattle.std.proofs.Common.{arith}
use Rattle.std.proofs.lemmas.Grind.{common_steps}
use Rattle.hp_word.specs.Texts.{value_after}
use Rattle.hp_word.proofs.NumberLemmas.{value_after-capped}
use Rattle.hp_word.proofs.numbers.value_of_digits.Goals as goal

-- one byte more: a digit, which goes to the value, and the cap may be put on before the others or after
pub loop-byte-preserved : goal.loop-byte-preserved
unfolding value_after
loop-byte-preserved c = record {
  small = grind (arith, common_steps);
  rest = grind (arith, common_steps);
  value = grind (arith, common_steps, value_after-capped);
}
