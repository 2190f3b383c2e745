-- Piece by piece.
use Rattle.std.proofs.Common.{None, arith}
use Rattle.mpe_segmenter.specs.spl_branch.Stands as decoded
use Rattle.spl_sites.proofs.FitLemmas.{all_fit}
use Rattle.spl_sites.proofs.laws.starts_fit.Goals as goal

pub returns : goal.returns
returns c = λ g seg segment s w ps marks from to there byte short low few starts well kinds set calls stands.
    all_fit g seg segment s w marks to there byte short (λ l is. omega (arith, low l is, few)) ps (decoded.at_left from) None (λ e. absurd cc)
    (λ k above below. starts k (omega (arith, above)) below) well kinds set calls stands
