-- What is handed on to the gate can be served, by where an answer comes from.
use Rattle.std.specs.Prelude.{Result, Ok, Err}
use Rattle.hp_word.specs.declared.endings.Trap.{Trap}
use Rattle.hp_tos.specs.Seen.{Seen}
use Rattle.hp_calls.specs.declared.phases.Phase.{Phase}
use Rattle.hp_calls.specs.declared.phases.Called.{Called}
use Rattle.hp_calls.specs.declared.phases.Called.TheVariants.{Went, Gate}
use Rattle.hp_calls.specs.Transfers.{IsReady, went}
use Rattle.hp_cpu.specs.Answers.{CanBeServed, done, stepped}

pub done_ready : (answer : Result (Unit {0}) Trap) (s : Seen) → IsReady (done answer) s
done_ready (Ok u) s = tt
done_ready (Err t) s = tt

pub went_ready : (answer : Result Phase Trap) (s : Seen) → IsReady (went answer) s
went_ready (Ok phase) s = tt
went_ready (Err t) s = tt

pub step_ready : (answer : Result Called Trap) (s : Seen) → IsReady answer s → CanBeServed (stepped answer) s
step_ready (Ok (Went phase)) s ready = tt
step_ready (Ok (Gate i)) s ready = ready
step_ready (Err t) s ready = tt
