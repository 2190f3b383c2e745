-- What came of a word, and what a step answers by that.
use Rattle.std.specs.Prelude.{◌≡◌, false, Result, Ok, Err, ⊤}
use Rattle.hp_word.specs.declared.endings.Trap.{Trap}
use Rattle.hp_tos.specs.Seen.{Seen}
use Rattle.hp_calls.specs.declared.phases.Phase.{Phase}
use Rattle.hp_calls.specs.declared.phases.Phase.TheVariants.{Ready}
use Rattle.hp_calls.specs.declared.phases.Called.{Called}
use Rattle.hp_calls.specs.declared.phases.Called.TheVariants as called
use Rattle.hp_cpu.specs.declared.cpu.Stepped.{Stepped}
use Rattle.hp_cpu.specs.declared.cpu.Stepped.TheVariants.{Went, Absent, Gate, Trapped}

-- what came of a word that leaves no transfer under way
abbrev pub done : Result (Unit {0}) Trap → Result Called Trap
done (Ok u) = Ok (called.Went Ready)
done (Err t) = Err t

-- what a step answers
abbrev pub stepped : Result Called Trap → Stepped
stepped (Ok (called.Went phase)) = Went
stepped (Ok (called.Gate i)) = Gate i
stepped (Err t) = Trapped t

-- the phase after it: a call or a return that went leaves its own
abbrev pub phase_left : Result Called Trap → Phase → Phase
phase_left (Ok (called.Went phase)) before = phase
phase_left (Ok (called.Gate i)) before = before
phase_left (Err t) before = before

-- an intrinsic that is called finds the stack in whole mode, with every word in memory
abbrev pub CanBeServed : Stepped → Seen → Type 0
CanBeServed Went s = ⊤
CanBeServed (Absent seg) s = ⊤
CanBeServed (Gate i) s = (s.split ≡ false) × (s.in_registers ≡ 0)
CanBeServed (Trapped t) s = ⊤
