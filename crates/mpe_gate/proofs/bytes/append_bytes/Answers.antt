use Rattle.std.proofs.Common.{rules}
use Rattle.hp_tos.specs.StackView.{seen}
use Rattle.hp_call_rows.proofs.ByteLemmas.{grown}
use Rattle.mpe_gate.proofs.bytes.append_bytes.Goals as goal

-- the byte at the loop's place is printed behind those so far
pub loop-k-preserved : goal.loop-k-preserved
loop-k-preserved c = record {
  value =
      grown c.push_reserved.new.self.items c.loop-k.printed.items c.args.printed.now.items (seen c.args.stack.now).words
      c.args.first c.loop-k.k c.byte_at.result
      c.push_reserved.ensures.items c.byte_at.ensures c.loop-k.invariant.value;
  counted = search rules;
  same = search rules;
}
