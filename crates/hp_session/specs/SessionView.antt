-- The state that a `Session` stands for, and the room that it keeps.
use Rattle.std.specs.Prelude.{ℕ, ◌≤◌, List, map, vec_len, vec_capacity}
use Rattle.hp_session.specs.declared.terminal.Line.{Line}
use Rattle.hp_session.specs.declared.session.Session.TheInside.{Inside}
use Rattle.hp_session.specs.State.{Machine}

-- the bytes of each line
abbrev pub lines_of : List Line → List (List ℕ)
lines_of lines = map (λ l. l.bytes.items) lines

-- the fields, each vector as the list of its items
abbrev pub machine_of : Inside → Machine
machine_of f = record {
  regs = f.regs;
  split = f.split;
  stack = f.stack.items;
  extra = f.extra.items;
  lines = lines_of f.lines.items;
  next_line = f.next_line;
  printed = f.printed.items;
  ending = f.ending;
  stack_limit = f.stack_limit;
  room = f.room;
}

-- the stack and what is printed are within their limits, up to which memory is reserved
pub record IsRoomy (f : Inside) : Type 0 where
  pub words : vec_len f.stack ≤ f.stack_limit
  pub words_reserved : f.stack_limit ≤ vec_capacity f.stack
  pub bytes : vec_len f.printed ≤ f.room
  pub bytes_reserved : f.room ≤ vec_capacity f.printed
