-- What a line of a job says at its place.
use Rattle.std.specs.Prelude.{ℕ, ◌==◌, Bool, false, if◌then◌else◌, List, [], ◌∷◌, map, drop, Option, None, Some}
use Rattle.std.specs.Char.{to_ascii_uppercase}
use Rattle.job_lines.specs.declared.place.Place.{Place}
use Rattle.job_lines.specs.declared.place.Place.TheVariants.{InUnit, InSession, Ended}
use Rattle.job_lines.specs.Lines.{is_blank_line, words}
use Rattle.job_lines.specs.Commands.{Command, command_of}

pub data Said : Type 0 where
  -- a line of blanks that means nothing
  nothing : Said
  -- text outside units and sessions
  stray : Said
  -- a line that is not blank behind the end of the job
  late : Said
  -- a line of a unit, and one of a terminal
  unit_line : List ℕ → Said
  terminal_line : List ℕ → Said
  -- a command, and a line that begins as one and is none
  command : Command → Said
  wrong : Said
  -- no line more
  end_of_text : Said

-- the line begins with `!`
abbrev pub is_command : List ℕ → Bool
is_command [] = false
is_command (b ∷ bs) = b == 33

-- a line that begins with `!` says what its words do, in capitals
abbrev pub said_by_words : Option Command → Said
said_by_words None = wrong
said_by_words (Some c) = command c

unfoldable pub command_said : List ℕ → Said
command_said line = said_by_words (command_of (words (map to_ascii_uppercase line)))

-- in a session a line that begins with `!!` is the terminal line without its first byte
abbrev pub session_said : List ℕ → Said
session_said line = if is_command line then (if is_command (drop 1 line) then terminal_line (drop 1 line) else command_said line) else terminal_line line

-- what a line says at a place
unfoldable pub said_at : Place → List ℕ → Said
said_at Ended line = if is_blank_line line then nothing else late
said_at InSession line = session_said line
said_at InUnit line = if is_command line then command_said line else unit_line line
said_at _ line = if is_command line then command_said line else if is_blank_line line then nothing else stray
