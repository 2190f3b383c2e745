-- The row of PCAL.
use Rattle.hp_cpu.proofs.ActLemmas.{call_acts}
use Rattle.hp_cpu.proofs.transfers.with_call.Goals as goal

pub returns : goal.returns
returns g c = record {
  acts = λ program here. call_acts program c.args.n _ _ _ _ c.pcal.result (c.pcal.ensures.row program here) (c.pcal.ensures.phase program here) (c.pcal.ensures.gate program here);
  ready = c.pcal.ensures.ready;
}
