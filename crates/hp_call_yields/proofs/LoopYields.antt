-- TBA and MTBA as pieces of code: the variable is read at its address, and the loop goes on or the three words are deleted.
use Rattle.std.proofs.Common.{◌≡◌, ℕ, ◌≤◌, Bool, true, false, length, Ok, Err, ◌∙◌}
use Rattle.std.proofs.lemmas.Bool.{cond-true, cond-false}
use Rattle.hp_yields.specs.hp_word.Words.{added}
use Rattle.hp_yields.specs.hp_word.declared.endings.Trap.{Trap}
use Rattle.hp_yields.specs.hp_word.declared.endings.Trap.TheVariants.{IntegerOverflow}
use Rattle.hp_yields.specs.hp_instr.declared.instruction.Instr.TheVariants as i
use Rattle.hp_yields.specs.hp_session.declared.places.Place.TheVariants.{Stack}
use Rattle.hp_yields.specs.hp_session.State.{Machine, Outcome, then_with, word}
use Rattle.hp_yields.specs.hp_session.Places.{read_at, written}
use Rattle.hp_yields.specs.hp_memory_rows.MemoryRows.{settled_at, goes_on}
use Rattle.hp_yields.specs.spl_follow.Spots.{Spot}
use Rattle.hp_yields.specs.spl_follow.Doing.{loop_turning, turned}
use Rattle.hp_yields.proofs.YieldForms.{taken, found, lost}

-- what a variable's word does that was read: by TBA, and by MTBA
abbrev test : Spot → Spot → Machine → ℕ → Outcome
test to r m w = Ok (loop_turning (goes_on w (word 1 m) (word 0 m)) to r m)

-- and once the sum is stored
abbrev go : Spot → Spot → Machine → ℕ → Machine → Outcome
go to r m w n = Ok (loop_turning (goes_on (added w (word 1 m)).value (word 1 m) (word 0 m)) to r n)

abbrev step : Spot → Spot → Machine → ℕ → Outcome
step to r m w = then_with (settled_at (Stack (word 2 m)) (added w (word 1 m)) m) (go to r m w)

pub loop_tested : (back : Bool) (d w : ℕ) (to r : Spot) (m : Machine) → 3 ≤ length m.stack → read_at (Stack (word 2 m)) m ≡ Ok w
    → turned (i.Loop false back d) to r m ≡ Ok (loop_turning (goes_on w (word 1 m) (word 0 m)) to r m)
loop_tested back d w to r m enough is = taken 3 m _ enough ∙ found (read_at (Stack (word 2 m)) m) w (test to r m) is

pub loop_test_reads_none : (back : Bool) (d : ℕ) (t : Trap) (to r : Spot) (m : Machine) → 3 ≤ length m.stack
    → read_at (Stack (word 2 m)) m ≡ Err t
    → turned (i.Loop false back d) to r m ≡ Err t
loop_test_reads_none back d t to r m enough is = taken 3 m _ enough ∙ lost (read_at (Stack (word 2 m)) m) t (test to r m) is

-- the overflow bit is cleared by a sum that is in range
pub loop_stepped : (back : Bool) (d w : ℕ) (to r : Spot) (n m : Machine) → 3 ≤ length m.stack → read_at (Stack (word 2 m)) m ≡ Ok w
    → (added w (word 1 m)).overflow ≡ false → written (Stack (word 2 m)) (added w (word 1 m)).value m ≡ Ok n
    → turned (i.Loop true back d) to r m
    ≡ Ok (loop_turning (goes_on (added w (word 1 m)).value (word 1 m) (word 0 m)) to r (record n { regs = record n.regs { overflow = false } }))
unfolding settled_at
loop_stepped back d w to r n m enough is fits puts =
    taken 3 m _ enough ∙ found (read_at (Stack (word 2 m)) m) w (step to r m) is
    ∙ found (settled_at (Stack (word 2 m)) (added w (word 1 m)) m) (record n { regs = record n.regs { overflow = false } }) (go to r m w)
    (cond-false (added w (word 1 m)).overflow _ _ fits ∙ found (written (Stack (word 2 m)) (added w (word 1 m)).value m) n (λ n. Ok (record n { regs = record n.regs { overflow = false } })) puts)

pub loop_step_overflows : (back : Bool) (d w : ℕ) (to r : Spot) (m : Machine) → 3 ≤ length m.stack → read_at (Stack (word 2 m)) m ≡ Ok w
    → (added w (word 1 m)).overflow ≡ true → turned (i.Loop true back d) to r m ≡ Err IntegerOverflow
unfolding settled_at
loop_step_overflows back d w to r m enough is over =
    taken 3 m _ enough ∙ found (read_at (Stack (word 2 m)) m) w (step to r m) is
    ∙ lost (settled_at (Stack (word 2 m)) (added w (word 1 m)) m) IntegerOverflow (go to r m w) (cond-true (added w (word 1 m)).overflow _ _ over)

pub loop_step_reads_none : (back : Bool) (d : ℕ) (t : Trap) (to r : Spot) (m : Machine) → 3 ≤ length m.stack
    → read_at (Stack (word 2 m)) m ≡ Err t
    → turned (i.Loop true back d) to r m ≡ Err t
loop_step_reads_none back d t to r m enough is = taken 3 m _ enough ∙ lost (read_at (Stack (word 2 m)) m) t (step to r m) is
