use Rattle.std.proofs.Common.{◌∙◌, sym, ap, arith, ◌+◌, List, ℕ, drop}
use Rattle.hp_word.specs.Intrinsics.{stored_from}
use Rattle.hp_call_rows.specs.GateRows.{with_bytes}
use Rattle.hp_call_rows.proofs.ByteLemmas.{store_more}
use Rattle.hp_call_rows.proofs.stack_bytes.store_bytes.Goals as goal

-- the byte at the loop's place is the first of those left, and is now stored
pub loop-byte-preserved : goal.loop-byte-preserved
loop-byte-preserved c = record {
  place = (let before = c.loop-byte.invariant.place in omega arith);
  same = c.put_byte.ensures.same ∙ c.loop-byte.invariant.same;
  value =
      ap (λ (words : List ℕ). with_bytes words (stored_from (c.loop-byte.b + 1) (drop (c.loop-byte.byte-index + 1) c.args.bytes.now))) c.put_byte.ensures.value
      ∙ sym (store_more c.loop-byte.words c.loop-byte.b c.args.bytes.now c.loop-byte.byte-index c.loop-byte-test.true)
      ∙ c.loop-byte.invariant.value;
}
