-- By the rows of LRA, LSL and LOAD.
use Rattle.spl_addresses.proofs.ElementLemmas.{elements_give}
use Rattle.spl_addresses.proofs.laws.addresses_of_elements_simulate.Goals as goal

pub returns : goal.returns
returns c = elements_give
