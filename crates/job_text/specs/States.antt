-- What the lines of a job say together: the state after each.
use Rattle.std.specs.Prelude.{ℕ, Bool, true, false, List, [], ◌∷◌, ◌++◌, Option, unwrap_or}
use Rattle.std.specs.List.{position_from}
use Rattle.job_lines.specs.declared.settings.Settings.{Settings}
use Rattle.job_lines.specs.declared.sizes.Size.TheVariants.{Stack, Extra, Print}
use Rattle.job_lines.specs.declared.sizes.Sizes.{Sizes}
use Rattle.job_lines.specs.declared.place.Place.{Place}
use Rattle.job_lines.specs.declared.place.Place.TheVariants.{Start, Outside, InUnit, InSession, Ended}
use Rattle.job_lines.specs.Lines.{same}
use Rattle.job_lines.specs.Settings.{no_settings, with_setting}
use Rattle.job_lines.specs.Sizes.{size_of}
use Rattle.job_lines.specs.Commands.{Command, job, setting, statistics, program, unit, session, end_of_job}
use Rattle.job_lines.specs.Says.{Said, unit_line, terminal_line, command, said_at}

-- a program: its name, and the text of each of its units
pub record TextValue : Type 0 where
  pub name : List ℕ
  pub units : List (List ℕ)

-- a session: the number of its program, counted from 0, its sizes, and what is typed at its terminal
pub record SeatValue : Type 0 where
  pub program : ℕ
  pub stack : ℕ
  pub extra : ℕ
  pub room : ℕ
  pub lines : List (List ℕ)

-- what the lines so far say
pub record State : Type 0 where
  -- where the next line stands
  pub place : Place
  -- the settings that were made, and whether statistics are wanted
  pub settings : Settings
  pub stats : Bool
  pub programs : List TextValue
  pub sessions : List SeatValue

-- before the first line
abbrev pub start : State
start = record {
  place = Start;
  settings = no_settings;
  stats = false;
  programs = [];
  sessions = [];
}

-- ---- the state after a line

-- the number of the first program with this name, if there is one
abbrev pub program_number : List ℕ → List TextValue → Option ℕ
program_number name programs = position_from (λ p. same p.name name) 0 programs

-- something done to the last of a list
abbrev pub at_last : {A : Type 0} → (A → A) → List A → List A
at_last f [] = []
at_last f (x ∷ []) = f x ∷ []
at_last f (x ∷ y ∷ xs) = x ∷ at_last f (y ∷ xs)

-- a unit's line brings its line feed
abbrev pub with_unit_line : List ℕ → TextValue → TextValue
with_unit_line line p = record p { units = at_last (λ u. u ++ line ++ 10 ∷ []) p.units }

abbrev pub with_unit : TextValue → TextValue
with_unit p = record p { units = p.units ++ [] ∷ [] }

abbrev pub with_terminal_line : List ℕ → SeatValue → SeatValue
with_terminal_line line x = record x { lines = x.lines ++ line ∷ [] }

-- a session as it begins
abbrev pub opened : ℕ → Sizes → SeatValue
opened number sizes = record { program = number; stack = size_of Stack sizes; extra = size_of Extra sizes; room = size_of Print sizes; lines = [] }

-- after a command
abbrev pub after_command : Command → State → State
after_command job s = record s { place = Outside }
after_command (setting k n) s = record s { settings = with_setting k n s.settings }
after_command statistics s = record s { stats = true }
after_command (program name) s = record s { place = Outside; programs = s.programs ++ record { name = name; units = [] } ∷ [] }
after_command unit s = record s { place = InUnit; programs = at_last with_unit s.programs }
after_command (session name sizes) s =
    record s { place = InSession; sessions = s.sessions ++ opened (unwrap_or (program_number name s.programs) 0) sizes ∷ [] }
after_command end_of_job s = record s { place = Ended }

-- after a line
unfoldable pub after : Said → State → State
after (unit_line line) s = record s { programs = at_last (with_unit_line line) s.programs }
after (terminal_line line) s = record s { sessions = at_last (with_terminal_line line) s.sessions }
after (command c) s = after_command c s
after _ s = s

-- after lines
unfoldable pub after_all : List (List ℕ) → State → State
after_all [] s = s
after_all (line ∷ lines) s = after_all lines (after (said_at s.place line) s)
