-- What a read of a source in memory answers and leaves, by the source and the length of the room.
use Rattle.std.specs.Prelude.{ℕ, ◌+◌, Result, Ok, Err, if◌then◌else◌}
use Rattle.hp_outside.specs.declared.memory.MemorySource.{MemorySource}
use Rattle.hp_outside.specs.declared.streams.Failed.{Failed}
use Rattle.hp_outside.specs.Room.{taken_count}
use Rattle.hp_outside.specs.Calls.{fails_at, next_call, one_more_fault}

-- what a read answers: a failure at the calls that are to fail, and else the number of bytes taken
abbrev pub read_answer : MemorySource → ℕ → Result ℕ Failed
read_answer s room =
    if fails_at s.fails.items s.calls then Err (record {}) else Ok (taken_count s.bytes.items s.at room)

-- what a read leaves: one call more; at a failure one fault more, and else the place behind the bytes taken
abbrev pub source_after : MemorySource → ℕ → MemorySource
source_after s room =
    if fails_at s.fails.items s.calls
    then record s { calls = next_call s.calls; faults = one_more_fault s.faults }
    else record s { calls = next_call s.calls; at = s.at + taken_count s.bytes.items s.at room }
