-- What the source gave before this read and in it are some first bytes of what was left.
use Rattle.hp_outside.proofs.StreamLemmas.{Consumes-Consumes}
use Rattle.hp_outside.proofs.whole.read_all.Goals as goal

pub returns-then-count-limit-clause-rest : goal.returns-then-count-limit-clause-rest
returns-then-count-limit-clause-rest g c =
    Consumes-Consumes _ _ _ _ _ c.loop-bytes.invariant.came c.in_ok-count.ensures.bytes.0

pub returns-in_err-extend_from_slice-clause-rest : goal.returns-in_err-extend_from_slice-clause-rest
returns-in_err-extend_from_slice-clause-rest g c =
    Consumes-Consumes _ _ _ _ _ c.loop-bytes.invariant.came c.in_ok-count.ensures.bytes.0
