use Rattle.std.proofs.Common.{◌∙◌, sym, ap, arith, ◌+◌, List, ℕ, drop, length}
use Rattle.std.proofs.lemmas.List.{length-set}
use Rattle.hp_word.specs.Intrinsics.{stored_from}
use Rattle.hp_call_rows.specs.GateRows.{with_bytes}
use Rattle.hp_call_rows.proofs.ByteLemmas.{store_more}
use Rattle.hp_tos.specs.StackView.{seen}
use Rattle.mpe_gate.proofs.WordLemmas.{words_put, kept_on}
use Rattle.mpe_gate.proofs.bytes.store_bytes.Goals as goal

-- the byte at the loop's place is the first of those left, and is now stored
pub loop-byte-preserved : goal.loop-byte-preserved
loop-byte-preserved c =
    let words = words_put (seen c.loop-byte.stack) (seen c.put_byte.new.stack) _ c.put_byte.ensures in
    record {
      place = (let before = c.loop-byte.invariant.place in omega arith);
      kept =
          kept_on (seen c.args.stack.now) (seen c.loop-byte.stack) (seen c.put_byte.new.stack) _
          c.loop-byte.invariant.kept c.put_byte.ensures;
      many = ap length words ∙ length-set _ _ _ ∙ c.loop-byte.invariant.many;
      value =
          ap (λ (words : List ℕ). with_bytes words (stored_from (c.loop-byte.b + 1)
          (drop (c.loop-byte.byte-index + 1) c.args.bytes.now))) words
          ∙ sym (store_more (seen c.loop-byte.stack).words c.loop-byte.b c.args.bytes.now
          c.loop-byte.byte-index c.loop-byte-test.true)
          ∙ c.loop-byte.invariant.value;
    }
