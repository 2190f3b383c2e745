-- Both by induction along declarations.
use Rattle.spl_places.proofs.HeldLaws.{all_placed, held_declarations}
use Rattle.spl_places.proofs.laws.items_are_held.Goals as goal

pub returns : goal.returns
returns c = record { all = all_placed; table = held_declarations }
