-- Why no program is built of units.
use Rattle.std.specs.Prelude.{◌≡◌, List, Some}
use Rattle.spl_sound.specs.spl_meaning.Tables.{Source}
use Rattle.spl_sound.specs.spl_meaning.Limits.{first_full}
use Rattle.spl_built.specs.Built.{IsUnlinked}
use Rattle.spl_build.specs.declared.building.BuildFault.{BuildFault}
use Rattle.spl_build.specs.declared.building.BuildFault.TheVariants as why

-- why nothing is built of units: the first limit that they pass, or the first fault of their modules; want of memory says nothing
abbrev pub IsUnbuilt : List Source → BuildFault → Type 0
IsUnbuilt us (why.Limit limit at count) = first_full us ≡ Some (record { limit = limit; at = at; count = count })
IsUnbuilt us (why.Modules f) = IsUnlinked us f
IsUnbuilt us why.NoMemory = Unit {0}
