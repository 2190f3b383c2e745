-- Where labels lead, as the definition of code has it.
use Rattle.std.specs.Prelude.{ℕ, List, Option, option_map}
use Rattle.spl_statement_code.specs.spl_meaning.Names.{find}
use Rattle.spl_spots.specs.declared.name_maps.NameMap.{NameMap}
use Rattle.spl_spots.specs.NameMaps.{entries_of}
use Rattle.spl_statement_code.specs.Landings as code
use Rattle.spl_landing_maps.specs.declared.landing.Landing.{Landing}

-- where a label leads
abbrev pub landing_of : Landing → code.Landing
landing_of l = record { mark = l.mark; pending = l.pending }

-- where the labels of a map lead
abbrev pub landings_of : NameMap Landing → List ℕ → Option code.Landing
landings_of map x = option_map landing_of (find (entries_of map) x)
