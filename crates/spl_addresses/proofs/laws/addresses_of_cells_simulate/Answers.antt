-- By the rows of LRA, LSL and LOAD.
use Rattle.spl_addresses.proofs.AddressLemmas.{cells_give}
use Rattle.spl_addresses.proofs.laws.addresses_of_cells_simulate.Goals as goal

pub returns : goal.returns
returns c = cells_give
