-- What it means that a program is refused for a limit.
use Rattle.std.specs.Prelude.{◌≡◌, List, Some}
use Rattle.spl_sound.specs.spl_meaning.Tables.{Source}
use Rattle.spl_sound.specs.spl_meaning.Limits.{first_full}
use Rattle.spl_limits.specs.declared.faults.LimitFault.{LimitFault}
use Rattle.spl_limits.specs.declared.faults.LimitFault.TheVariants as why

-- the limit is the first that these units pass, unless memory was wanting
abbrev pub IsFull : List Source → LimitFault → Type 0
IsFull us (why.Full limit at count) = first_full us ≡ Some (record { limit = limit; at = at; count = count })
IsFull us why.NoMemory = Unit {0}
