-- Declaration by declaration: an item that is not OWN stands among the local words, and an array's data have an address or stand above the base.
use Rattle.spl_sound_bodies.proofs.Settable.{settable}
use Rattle.spl_sound_bodies.proofs.laws.sound_procedures_are_settable.Goals as goal

pub returns : goal.returns
returns c = settable
