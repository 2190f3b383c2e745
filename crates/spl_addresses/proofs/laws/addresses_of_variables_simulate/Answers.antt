-- By the rows of LRA, LSL and LOAD.
use Rattle.spl_addresses.proofs.AddressLemmas.{variables_give}
use Rattle.spl_addresses.proofs.laws.addresses_of_variables_simulate.Goals as goal

pub returns : goal.returns
returns c = variables_give
