-- The module's place among those of its segment.
use Rattle.mpe_segmenter.specs.Names.{parts}
use Rattle.spl_sites.proofs.GroundLemmas.{said}
use Rattle.spl_sites.proofs.laws.grounds_say_starts.Goals as goal

pub returns : goal.returns
returns c = λ p near ms seg front m back is k low high. said (parts ms) seg front m back is k low high
