-- A session at its terminal, as the flat machine has it.
use Rattle.hp_word.specs.declared.endings.Ending.TheVariants.{Running}
use Rattle.hp_session.specs.declared.registers.Regs.{Regs}
use Rattle.hp_session.specs.SessionView.{lines_of}
use Rattle.hp_session.specs.State.{Machine}
use Rattle.hp_tos.specs.Seen.{Seen}
use Rattle.mpe_session.specs.declared.terminal.Terminal.{Terminal}

-- the session with these registers, this stack and this terminal, which runs
abbrev pub seated : Regs → Seen → Terminal → Machine
seated regs s t = record {
  regs = regs;
  split = s.split;
  stack = s.words;
  extra = s.extra;
  lines = lines_of t.lines.items;
  next_line = t.next_line;
  printed = t.printed.items;
  ending = Running;
  stack_limit = s.limit;
  room = t.room;
}
