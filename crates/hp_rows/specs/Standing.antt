-- A session whose top words may stand in registers, as the flat machine has it.
use Rattle.hp_tos.specs.Seen.{Seen}
use Rattle.hp_session.specs.declared.registers.Regs.{Regs}
use Rattle.hp_session.specs.State.{Machine}

-- the session with these registers and this stack; its terminal and its ending are those of `rest`
abbrev pub standing : Regs → Seen → Machine → Machine
standing regs s rest = record rest {
  regs = regs;
  split = s.split;
  stack = s.words;
  extra = s.extra;
  stack_limit = s.limit;
}
