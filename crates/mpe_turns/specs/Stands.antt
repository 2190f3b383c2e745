-- For which session of a world a session stands, and what that needs.
use Rattle.std.specs.Prelude.{◌≡◌, ℕ, ◌<◌, ◌≤◌, true, List, length, map, slice_get, Some}
use Rattle.mpe_gate.specs.hp_tos.StackView.{seen}
use Rattle.mpe_gate.specs.hp_session.SessionView.{lines_of}
use Rattle.mpe_gate.specs.hp_session.State.{Machine}
use Rattle.mpe_gate.specs.hp_rows.Numbers.{numbers}
use Rattle.hp_program.specs.declared.program.Program.{Program}
use Rattle.hp_program.specs.Programs.{segments_of}
use Rattle.hp_program.specs.Valid.{is_local_entry}
use Rattle.mpe_worlds.specs.hp_calls.declared.phases.Phase.TheVariants.{Entering, Returning}
use Rattle.mpe_worlds.specs.hp_cpu.Stood.{registers}
use Rattle.mpe_overlay.specs.Codes.{codes_of, segment_at}
use Rattle.mpe_worlds.specs.Worlds.{Run, segments_at}
use Rattle.mpe_turns.specs.declared.session.Session.{Session}

-- the state of the flat machine: the words in memory and in registers are one list, and a transfer that is under way counts as
-- finished, as the program's tables have it
abbrev pub machine_of : List (List ℕ) → Session → Machine
machine_of segments s = record {
  regs = registers segments s.cpu;
  split = (seen s.cpu.stack).split;
  stack = (seen s.cpu.stack).words;
  extra = (seen s.cpu.stack).extra;
  lines = lines_of s.terminal.lines.items;
  next_line = s.terminal.next_line;
  printed = s.terminal.printed.items;
  ending = s.ending;
  stack_limit = (seen s.cpu.stack).limit;
  room = s.terminal.room;
}

-- the session of a world, in a program of these segments
abbrev pub run_of : List (List ℕ) → Session → Run
run_of segments s = record {
  program = s.program;
  machine = machine_of segments s;
  steps = s.steps;
  numbers = numbers (seen s.cpu.stack);
}

-- those of all sessions, each in its own program
abbrev pub runs_of : List (List (List ℕ)) → List Session → List Run
runs_of codes sessions = map (λ s. run_of (segments_at codes s.program) s) sessions

-- a session of a program: the program has as many segments as the processor's number says; the processor stands in one of them,
-- and a transfer that is under way leads into one, a call to a local entry
pub record IsSessionOf (p : Program) (s : Session) : Type 0 where
  pub count : length (segments_of p) ≡ s.cpu.segments
  pub current : s.cpu.regs.seg < length (segments_of p)
  pub entering : (seg entry : ℕ) → s.cpu.phase ≡ Entering seg entry → is_local_entry (slice_get (segments_of p) seg) entry ≡ true
  pub returning : (seg offset : ℕ) → s.cpu.phase ≡ Returning seg offset → seg < length (segments_of p)

-- what a monitor keeps over an area of `size` words: each session's program exists, the session is one of it, and has made no
-- more steps than were spent; no segment is larger than the area; and every count is at most what was spent
pub record IsKept (programs : List Program) (size : ℕ) (sessions : List Session) (brought taken spent : ℕ) : Type 0 where
  pub few : length sessions ≤ 16
  pub there : (who : ℕ) (s : Session) → slice_get sessions who ≡ Some s → s.program < length programs
  pub each : (who : ℕ) (s : Session) (p : Program) → slice_get sessions who ≡ Some s → slice_get programs s.program ≡ Some p → IsSessionOf p s
  pub steps : (who : ℕ) (s : Session) → slice_get sessions who ≡ Some s → s.steps ≤ spent
  pub fit : (key : ℕ) (words : List ℕ) → segment_at (codes_of programs) key ≡ Some words → length words ≤ size
  pub loads : brought ≤ taken
  pub turns : taken ≤ spent
