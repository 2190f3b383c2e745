-- What a write to a sink in memory answers and leaves.
use Rattle.std.specs.Prelude.{◌≡◌, ℕ, ◌-◌, ◌||◌, ◌==◌, List, [], ◌++◌, take, min, Result, Ok, Err, if◌then◌else◌}
use Rattle.hp_outside.specs.declared.memory.MemorySink.{MemorySink}
use Rattle.hp_outside.specs.declared.streams.Failed.{Failed}
use Rattle.hp_outside.specs.Calls.{fails_at, next_call, one_more_fault}

-- what a write answers: a failure where nothing more is taken and at the calls that are to fail, and else the
-- number of bytes taken, as many as there are and as are still taken
abbrev pub write_answer : MemorySink → ℕ → Result ℕ Failed
write_answer s piece =
    if s.left == 0 || fails_at s.fails.items s.calls then Err (record {}) else Ok (min s.left piece)

-- one call took these bytes: they stand behind those that were there, and so many fewer are still taken
pub record TakesBytes (old new : MemorySink) (taken : List ℕ) (count : ℕ) : Type 0 where
  pub bytes : new.bytes.items ≡ old.bytes.items ++ taken
  pub left : new.left ≡ old.left - count
  pub fails : new.fails.items ≡ old.fails.items
  pub calls : new.calls ≡ next_call old.calls

-- what a write leaves: at a failure one fault more and no byte, and else the first bytes of the piece
abbrev pub WritesTo : MemorySink → MemorySink → Result ℕ Failed → List ℕ → Type 0
WritesTo old new (Ok count) piece = TakesBytes old new (take count piece) count × (new.faults ≡ old.faults)
WritesTo old new (Err _) piece = TakesBytes old new [] 0 × (new.faults ≡ one_more_fault old.faults)

-- an empty sink that takes `limit` bytes and fails at the calls that are listed
pub record IsFresh (s : MemorySink) (limit : ℕ) (listed : List ℕ) : Type 0 where
  pub bytes : s.bytes.items ≡ []
  pub left : s.left ≡ limit
  pub fails : s.fails.items ≡ listed
  pub calls : s.calls ≡ 0
  pub faults : s.faults ≡ 0
