-- R before and after a word that is done whole.
use Rattle.std.specs.Prelude.{Bool, false, Result, Ok, Err}
use Rattle.hp_word.specs.declared.endings.Trap.{Trap}
use Rattle.hp_session.specs.declared.registers.Regs.{Regs}
use Rattle.hp_calls.specs.declared.phases.Called.{Called}
use Rattle.hp_calls.specs.declared.phases.Called.TheVariants.{Went, Gate}

-- the registers with R cleared
abbrev pub cleared : Regs → Regs
cleared regs = record regs { right = false }

-- the registers after a word that was begun with R cleared: where it is not done R is what it was
abbrev pub restored : Result Called Trap → Bool → Regs → Regs
restored (Ok (Went phase)) right next = next
restored (Ok (Gate i)) right next = record next { right = right }
restored (Err t) right next = record next { right = right }
