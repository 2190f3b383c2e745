-- The piece written in this turn follows the first `at` bytes.
use Rattle.std.proofs.Common.{arith, rules}
use Rattle.std.proofs.lemmas.Grind.{common_steps}
use Rattle.hp_outside.proofs.StreamLemmas.{Appends-Appends}
use Rattle.hp_outside.proofs.whole.write_all.Goals as goal

pub loop-at-preserved : goal.loop-at-preserved
loop-at-preserved g c = record {
  within = grind (arith, common_steps);
  never_falls = search rules;
  written =
      Appends-Appends _ _ _ c.loop-at.at c.in_ok-at.field-0 c.args.bytes.now _ (grind (arith, common_steps))
      c.loop-at.invariant.written c.in_ok-at.ensures.bytes;
}
