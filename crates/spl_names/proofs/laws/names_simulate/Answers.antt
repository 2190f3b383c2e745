-- By what the name stands for.
use Rattle.spl_names.proofs.NameLemmas.{name_whole, name_simulates}
use Rattle.spl_names.proofs.AddressLemmas.{address_simulates}
use Rattle.spl_names.proofs.laws.names_simulate.Goals as goal

pub returns-clause-whole : goal.returns-clause-whole
returns-clause-whole c = name_whole

pub returns-clause-simulates : goal.returns-clause-simulates
returns-clause-simulates c = name_simulates

pub returns-clause-addresses : goal.returns-clause-addresses
returns-clause-addresses c = address_simulates
