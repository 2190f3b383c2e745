-- The exit status of each answer.
use Rattle.std.specs.Prelude.{ℕ}
use Rattle.hp3000_top.specs.declared.exit.Exit.{Exit}
use Rattle.hp3000_top.specs.declared.exit.Exit.TheVariants.{Done, Refused, Usage, ReadFault, WriteFault, NoMemory, InputTooLong}

abbrev pub status_of : Exit → ℕ
status_of Done = 0
status_of Refused = 1
status_of Usage = 2
status_of ReadFault = 3
status_of WriteFault = 4
status_of NoMemory = 5
status_of InputTooLong = 6
