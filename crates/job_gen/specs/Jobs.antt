-- The job that a generated text is.
use Rattle.std.specs.Prelude.{ℕ, zero, suc, false, List, [], ◌∷◌, ◌++◌}
use Rattle.job_text.specs.States.{TextValue, SeatValue}
use Rattle.job_text.specs.Jobs.{JobValue}
use Rattle.job_gen.specs.Pieces.{text_of, behind_all}
use Rattle.job_gen.specs.Generated as lines

-- program j: one unit, whose draws go on behind those of the programs before it
abbrev pub program : ℕ → ℕ → TextValue
program n j = record { name = lines.name (suc j); units = text_of (behind_all n (lines.programs j)) lines.unit_lines ∷ [] }

-- the first j programs of the job with number n
unfoldable pub programs : ℕ → ℕ → List TextValue
programs n zero = []
programs n (suc j) = programs n j ++ program n j ∷ []

-- a session of a program, counted from 0, with the sizes that it has where none is given; nothing is typed
abbrev pub session : ℕ → SeatValue
session j = record { program = j; stack = 1024; extra = 0; room = 16384; lines = [] }

-- two sessions of each of the first j programs
unfoldable pub sessions : ℕ → List SeatValue
sessions zero = []
sessions (suc j) = sessions j ++ session j ∷ session j ∷ []

-- the generated job with number n
unfoldable pub generated_job : ℕ → JobValue
generated_job n = record { memory = 24576; quantum = 50; turns = 1000000; stats = false; programs = programs n 8; sessions = sessions 8 }
