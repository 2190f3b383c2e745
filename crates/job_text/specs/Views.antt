-- What the code's types stand for.
use Rattle.std.specs.Prelude.{map}
use Rattle.mpe_session.specs.declared.seat.Seat.{Seat}
use Rattle.job_text.specs.declared.job.Text.{Text}
use Rattle.job_text.specs.declared.job.Job.{Job}
use Rattle.job_text.specs.declared.reading.Reading.{Reading}
use Rattle.job_text.specs.States as s
use Rattle.job_text.specs.Jobs.{JobValue}

-- the texts of a program
abbrev pub text_value : Text → s.TextValue
text_value t = record { name = t.name.text.items; units = map (λ u. u.bytes.items) t.units.items }

-- what is said of a session
abbrev pub seat_value : Seat → s.SeatValue
seat_value x = record {
  program = x.program;
  stack = x.stack;
  extra = x.extra;
  room = x.room;
  lines = map (λ l. l.bytes.items) x.lines.items;
}

-- what the lines so far say
abbrev pub state_of : Reading → s.State
state_of r = record {
  place = r.place;
  settings = r.settings;
  stats = r.stats;
  programs = map text_value r.programs.items;
  sessions = map seat_value r.seats.items;
}

-- a job
abbrev pub job_value : Job → JobValue
job_value j = record {
  memory = j.memory;
  quantum = j.quantum;
  turns = j.turns;
  stats = j.stats;
  programs = map text_value j.programs.items;
  sessions = map seat_value j.seats.items;
}
