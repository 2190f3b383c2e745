-- How a session of a program opens.
use Rattle.std.specs.Prelude.{ℕ, List, [], slice_get, unwrap_or}
use Rattle.hp_program.specs.declared.program.Program.{Program}
use Rattle.hp_session.specs.declared.terminal.Line.{Line}
use Rattle.hp_program.specs.Valid.{label_of}
use Rattle.hp_program.specs.Programs.{segments_of}
use Rattle.hp_session.specs.State.{Machine, opened}
use Rattle.hp_session.specs.SessionView.{lines_of}

-- the offset in the main segment at which a program starts: its main entry's label
abbrev pub start_of : Program → ℕ
start_of p = label_of (unwrap_or (slice_get (segments_of p) p.main) []) p.entry

-- the state in which a session of the program opens
abbrev pub opened_of : Program → List Line → ℕ → ℕ → ℕ → Machine
opened_of p lines stack extra room = opened p.globals.items p.main (start_of p) (lines_of lines) stack extra room
