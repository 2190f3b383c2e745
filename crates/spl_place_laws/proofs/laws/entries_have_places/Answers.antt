-- Each entry has its item's or parameter's word.
use Rattle.spl_place_laws.proofs.NamedLaws.{globals_named, locals_named, parameters_named, inner_named}
use Rattle.spl_place_laws.proofs.laws.entries_have_places.Goals as goal

pub returns : goal.returns
returns c = record { globals = globals_named; locals = locals_named; procedures = parameters_named; subroutines = inner_named }
