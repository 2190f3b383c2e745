-- Fewer regions keep their words.
use Rattle.mpe_overlay.specs.Codes.{codes_of}
use Rattle.mpe_overlay.proofs.HoldLemmas.{holds-dropped}
use Rattle.mpe_overlay.proofs.overlay.Overlay.evict.Goals as goal

pub invariant_of-self : goal.invariant_of-self
invariant_of-self c =
    let self = c.args.self.now in
    record { holds = holds-dropped self.base c.key.result self.area.items self.regions c.give.new.self (codes_of self.programs.items) self.holds c.give.ensures.dropped c.give.ensures.room }
