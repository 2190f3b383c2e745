-- Each region has the words of its segment, and the key of a segment of the program names it.
use Rattle.mpe_overlay.specs.Codes.{codes_of}
use Rattle.mpe_overlay.proofs.HoldLemmas.{held-part}
use Rattle.mpe_overlay.proofs.overlay.Overlay.view.Goals as goal

pub returns-clause-holds : goal.returns-clause-holds
returns-clause-holds c =
    let self = c.args.self.now in
    held-part self.base self.area.items self.regions (codes_of self.programs.items) c.args.program self.holds
