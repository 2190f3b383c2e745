-- Which calls of a source or a sink in memory fail. Calls are numbered from 0.
use Rattle.std.specs.Prelude.{ℕ, ◌+◌, ◌-◌, ◌^◌, Bool, ◌||◌, ◌==◌, List, min, Result, Ok, Err}
use Rattle.std.specs.List.{list_any}

-- the call with this number fails: it is listed, or it is the last number that can be counted
abbrev pub fails_at : List ℕ → ℕ → Bool
fails_at listed call = list_any (λ n. n == call) listed || call == 2 ^ 32 - 1

-- the number of the call after this one; the last number stays
abbrev pub next_call : ℕ → ℕ
next_call call = min (call + 1) (2 ^ 32 - 1)

-- the count of faults after one more; the last count stays
abbrev pub one_more_fault : ℕ → ℕ
one_more_fault faults = min (faults + 1) (2 ^ 64 - 1)

-- the count of faults after a call: one more where it failed
abbrev pub faults_after : {T E : Type 0} → ℕ → Result T E → ℕ
faults_after faults (Ok _) = faults
faults_after faults (Err _) = one_more_fault faults
