-- A pointer's own word is stored as that of an INTEGER.
use Rattle.spl_addresses.proofs.AddressLemmas.{pointers_assigned}
use Rattle.spl_addresses.proofs.laws.pointers_are_assigned.Goals as goal

pub returns : goal.returns
returns c = pointers_assigned
