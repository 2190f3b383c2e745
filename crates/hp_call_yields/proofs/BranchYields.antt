-- Branches as pieces of code, told of what they test; and SCAL.
use Rattle.std.proofs.Common.{◌≡◌, ℕ, ◌<◌, ◌≤◌, Bool, false, [], ◌∷◌, ◌++◌, length, Ok, Err, refl, arith}
use Rattle.std.specs.Prelude.{◌%◌, ◌==◌, not, nat_lt, if◌then◌else◌}
use Rattle.std.proofs.lemmas.Bool.{lt-ltb}
use Rattle.std.proofs.lemmas.Bool.Decides.{nat_tests}
use Rattle.hp_yields.specs.hp_word.declared.endings.Trap.TheVariants.{StackOverflow}
use Rattle.hp_yields.specs.hp_instr.declared.instruction.Instr.TheVariants as i
use Rattle.hp_yields.specs.hp_session.State.{Machine, word, without}
use Rattle.hp_yields.specs.hp_memory_rows.MemoryRows.{is_named}
use Rattle.hp_yields.specs.spl_follow.Spots.{Spot, landed}
use Rattle.hp_yields.specs.spl_follow.Doing.{body, turned, subroutine_called}
use Rattle.hp_yields.proofs.YieldForms.{taken}

-- BR
pub always_turns : (back : Bool) (d : ℕ) (to r : Spot) (m : Machine) → turned (i.Branch false back d) to r m ≡ Ok (landed to m)
always_turns back d to r m = refl

-- BCC: where the mask names the code
pub code_turns : (mask : ℕ) (back : Bool) (d : ℕ) (to r : Spot) (m : Machine)
    → turned (i.OnCode mask back d) to r m ≡ Ok (landed (if is_named mask m.regs.code then to else r) m)
code_turns mask back d to r m = refl

-- BRE: where the top word, which is deleted, is even
pub even_turns : (back : Bool) (d : ℕ) (to r : Spot) (m : Machine) → 1 ≤ length m.stack
    → turned (i.Short 0o16 back d) to r m ≡ Ok (landed (if word 0 m % 2 == 0 then to else r) (without 1 m))
even_turns back d to r m enough = taken 1 m _ enough

-- BNCY and BNOV: where the flag is not set
pub no_carry_turns : (back : Bool) (d : ℕ) (to r : Spot) (m : Machine)
    → turned (i.Short 0o20 back d) to r m ≡ Ok (landed (if not m.regs.carry then to else r) m)
no_carry_turns back d to r m = refl

pub no_overflow_turns : (back : Bool) (d : ℕ) (to r : Spot) (m : Machine)
    → turned (i.Short 0o22 back d) to r m ≡ Ok (landed (if not m.regs.overflow then to else r) m)
no_overflow_turns back d to r m = refl

-- SCAL pushes the offset behind it
pub subroutine_entered : (to r : Spot) (m : Machine) → length m.stack < m.stack_limit
    → subroutine_called (body to) r m ≡ Ok (landed to (record m { stack = m.stack ++ r.offset ∷ [] }))
subroutine_entered to r m room = rw (lt-ltb (length m.stack) m.stack_limit room) refl

pub subroutine_not_entered : (to r : Spot) (m : Machine) → m.stack_limit ≤ length m.stack
    → subroutine_called (body to) r m ≡ Err StackOverflow
subroutine_not_entered to r m full =
    let none : nat_lt (length m.stack) m.stack_limit ≡ false = grind (arith, nat_tests, full) in rw none refl
