-- Where no hole is found each place meets a region or the end.
use Rattle.std.proofs.Common.{arith}
use Rattle.mpe_regions.proofs.PlaceLemmas.{hole-lowest}
use Rattle.mpe_regions.proofs.laws.holes_are_found.Goals as goal

pub returns : goal.returns
returns c = λ a want sound none p. hole-lowest a.size want 0 p a.list _ sound.laid_out none (λ at is. cc) (omega arith)
