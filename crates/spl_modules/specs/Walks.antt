-- What a unit's entries are, seen as a walk that has come to its end.
use Rattle.std.specs.Prelude.{ℕ, [], Option, Some, None}
use Rattle.spl_sound.specs.spl_meaning.Names.{find}
use Rattle.spl_places.specs.spl_spots.declared.name_maps.NameMap.{NameMap}
use Rattle.spl_places.specs.NameMaps.{entries_of}
use Rattle.spl_modules.specs.declared.walk.UnitEntries.{UnitEntries}
use Rattle.spl_modules.specs.Entered.{Indexes, Walk, entered_of, maps_of}

abbrev pub walk_of : UnitEntries → Walk
walk_of a = record { entered = entered_of a.modules.items; main_body = find (entries_of a.main); routines = maps_of a.routines.items }

-- the indexes of a map, where there is one
abbrev pub indexes_in : Option (NameMap ℕ) → Indexes
indexes_in None = find []
indexes_in (Some m) = find (entries_of m)
