-- What every job keeps within: its settings, its programs with their units, and its sessions.
use Rattle.std.specs.Prelude.{ℕ, ◌<◌, ◌≤◌, List, [], ◌∷◌, length}
use Rattle.job_text.specs.States.{TextValue, SeatValue}
use Rattle.job_text.specs.Jobs.{JobValue}

-- something holds of each of a list
abbrev pub Each : {A : Type 0} → (A → Type 0) → List A → Type 0
Each P [] = Unit {0}
Each P (x ∷ xs) = P x × Each P xs

-- a program has at most 32 units, none longer than so many bytes
pub record ProgramFits (bytes : ℕ) (p : TextValue) : Type 0 where
  pub few : length p.units ≤ 32
  pub short : Each (λ text. length text ≤ bytes) p.units

-- a session is of one of so many programs, and its sizes are within their limits
pub record SeatFits (programs : ℕ) (s : SeatValue) : Type 0 where
  pub program : s.program < programs
  pub least_stack : 64 ≤ s.stack
  pub stack : s.stack ≤ 32000
  pub extra : s.extra ≤ 32000
  pub least_room : 1 ≤ s.room
  pub room : s.room ≤ 1048576

-- a job that a text of so many bytes says
pub record JobFits (bytes : ℕ) (job : JobValue) : Type 0 where
  pub memory : job.memory ≤ 1048576
  pub some_steps : 1 ≤ job.quantum
  pub quantum : job.quantum ≤ 10000
  pub turns : job.turns ≤ 1000000
  pub programs : length job.programs ≤ 16
  pub each_program : Each (ProgramFits bytes) job.programs
  pub sessions : length job.sessions ≤ 16
  pub each_session : Each (SeatFits (length job.programs)) job.sessions
