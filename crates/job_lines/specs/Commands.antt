-- What a command says: the words of its line, in capitals.
use Rattle.std.specs.Prelude.{ℕ, if◌then◌else◌, List, [], ◌∷◌, Option, None, Some, option_map, codes}
use Rattle.job_lines.specs.declared.settings.Setting.{Setting}
use Rattle.job_lines.specs.declared.settings.Setting.TheVariants.{Memory, Quantum, Turns}
use Rattle.job_lines.specs.declared.sizes.Sizes.{Sizes}
use Rattle.job_lines.specs.Lines.{same}
use Rattle.job_lines.specs.Numbers.{number_in}
use Rattle.job_lines.specs.Sizes.{no_sizes, options}

-- a command; the name of a program or a session's program is any word
pub data Command : Type 0 where
  job : Command
  setting : Setting → ℕ → Command
  statistics : Command
  program : List ℕ → Command
  unit : Command
  session : List ℕ → Sizes → Command
  end_of_job : Command

-- a command word that stands alone
abbrev pub bare : Command → List (List ℕ) → Option Command
bare c [] = Some c
bare c _ = None

-- one with a number
abbrev pub with_number : Setting → List (List ℕ) → Option Command
with_number k (w ∷ []) = option_map (λ n. setting k n) (number_in w)
with_number k _ = None

-- one with a name
abbrev pub with_name : List (List ℕ) → Option Command
with_name (w ∷ []) = Some (program w)
with_name _ = None

-- one with a name and options
abbrev pub with_options : List (List ℕ) → Option Command
with_options [] = None
with_options (w ∷ ws) = option_map (λ sizes. session w sizes) (options no_sizes ws)

-- the command words, and what the words behind each have to be
abbrev pub command_words : List (List ℕ × (List (List ℕ) → Option Command))
command_words =
    (codes "!JOB", bare job) ∷ (codes "!MEMORY", with_number Memory) ∷ (codes "!QUANTUM", with_number Quantum) ∷ (codes "!TURNS", with_number Turns)
    ∷ (codes "!STATS", bare statistics) ∷ (codes "!PROGRAM", with_name) ∷ (codes "!UNIT", bare unit) ∷ (codes "!SESSION", with_options)
    ∷ (codes "!EOJ", bare end_of_job) ∷ []

-- the command that a word and those behind it are, by a table
abbrev pub command_by : List (List ℕ × (List (List ℕ) → Option Command)) → List ℕ → List (List ℕ) → Option Command
command_by [] w ws = None
command_by (entry ∷ table) w ws = if same w entry.0 then entry.1 ws else command_by table w ws

-- the command of these words; none where the first is no command word, or those behind it are wrong
unfoldable pub command_of : List (List ℕ) → Option Command
command_of [] = None
command_of (w ∷ ws) = command_by command_words w ws
