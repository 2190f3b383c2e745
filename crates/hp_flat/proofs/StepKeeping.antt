-- A step goes on from the session before it, and a trap changes the ending alone.
-- 1. each row keeps what rows keep         (the crates of rows)
-- 2. so does the row of each instruction   (row-kept), and what the word at P does (outcome-kept)
-- 3. so a step goes on                     (step-continues); a row never ends in a trap of its own   (answered-untrapped)
use Rattle.std.proofs.Common.{◌≡◌, ℕ, true, false, List, length, refl, arith}
use Rattle.std.proofs.Math.Seq.{take-length}
use Rattle.std.specs.Prelude.{◌==◌, nat_le, Option, None, Some, Ok, Err}
use Rattle.hp_instr.specs.declared.instruction.Instr.{Instr}
use Rattle.hp_instr.specs.declared.instruction.Instr.TheVariants.{Pair, Shifted, Short, Immediate, Control, Memory, LoadCode, Branch, OnCode, Loop, Illegal}
use Rattle.hp_instr.specs.declared.instruction.Op.{Op}
use Rattle.hp_instr.specs.Instructions.{instruction}
use Rattle.hp_program.specs.Programs.{code_word}
use Rattle.hp_session.specs.State.{Machine, Outcome, passing}
use Rattle.hp_session.specs.Keeping.{Continues, is_trapped}
use Rattle.hp_session.proofs.KeepingForms.{IsKept, Keeps}
use Rattle.hp_session.proofs.KeepingLaws.{same, either, after_row, passing-kept, from_kept, continued}
use Rattle.hp_stack_rows.proofs.StackKeeping.{operated-kept}
use Rattle.hp_word_rows.proofs.WordKeeping.{shifting-kept, short_branch-kept, immediate_row-kept, count_row-kept}
use Rattle.hp_memory_rows.proofs.MemoryKeeping.{memory_row-kept, code_loaded-kept, branched-kept, loop_tested-kept, loop_stepped-kept}
use Rattle.hp_memory_rows.proofs.MoveKeeping.{move_row-kept}
use Rattle.hp_call_rows.proofs.CallKeeping.{LabelsLead, called-kept, subroutine_called-kept, exited-kept, subroutine_left-kept}
use Rattle.hp_word_rows.specs.WordRows.{count_row}
use Rattle.hp_call_rows.specs.CallRows.{called, exited, subroutine_left, subroutine_called}
use Rattle.hp_flat.specs.Step.{at_left, pair_row, control_row, word_row, row, by_word, outcome, ended, step}

pair_row-kept : (count : ℕ) (m : Machine) (left right : Op) → Keeps count m (pair_row left right m)
unfolding pair_row
pair_row-kept count m left right =
    either count m m.regs.right _ _ (passing-kept count m _ (operated-kept count m right.code))
    (either count m (right.code == 0) _ _ (passing-kept count m _ (operated-kept count m left.code))
    (after_row count m _ _ (operated-kept count m left.code) (λ n h. h)))

module _ (segments : List (List ℕ)) (lead : LabelsLead segments) where
  control_row-kept : (m : Machine) (which n : ℕ) → Keeps (length segments) m (control_row segments which n m)
  unfolding control_row
  control_row-kept m which n =
      either (length segments) m (which == 0) (called segments n m) _ (called-kept segments lead m n)
      (either (length segments) m (which == 1) (exited segments n m) _ (exited-kept segments m n)
      (either (length segments) m (which == 2) (subroutine_left n m) _ (subroutine_left-kept (length segments) m n)
      (either (length segments) m (which == 3) (subroutine_called segments n m) _ (subroutine_called-kept (length segments) m segments n)
      (either (length segments) m (nat_le which 8) (passing (count_row which n m)) _ (passing-kept (length segments) m _ (count_row-kept (length segments) m which n))
      (move_row-kept (length segments) m segments which n)))))

  word_row-kept : (m : Machine) (i : Instr) → Keeps (length segments) m (word_row segments i m)
  unfolding word_row
  word_row-kept m (Pair left right) = tt
  word_row-kept m (Shifted kind places) = passing-kept (length segments) m _ (shifting-kept (length segments) m kind places)
  word_row-kept m (Short test back d) = short_branch-kept (length segments) m test back d
  word_row-kept m (Immediate which n) = passing-kept (length segments) m _ (immediate_row-kept (length segments) m which n)
  word_row-kept m (Control which n) = control_row-kept m which n
  word_row-kept m (Memory major second x i mode) = passing-kept (length segments) m _ (memory_row-kept (length segments) m major second mode i x)
  word_row-kept m (LoadCode back d) = passing-kept (length segments) m _ (code_loaded-kept (length segments) m segments back d)
  word_row-kept m (Branch i back d) = branched-kept (length segments) m segments i back d
  word_row-kept m (OnCode mask back d) = same (length segments) m
  word_row-kept m (Loop modify back d) = either (length segments) m modify _ _ (loop_stepped-kept (length segments) m back d) (loop_tested-kept (length segments) m back d)
  word_row-kept m (Illegal w) = tt

  whole-kept : (m : Machine) (i : Instr) → Keeps (length segments) m (word_row segments i (at_left m))
  whole-kept m i = from_kept (length segments) m (at_left m) _ (same (length segments) m) (word_row-kept (at_left m) i)

  row-kept : (m : Machine) (i : Instr) → Keeps (length segments) m (row segments i m)
  unfolding row
  row-kept m (Pair left right) = pair_row-kept (length segments) m left right
  row-kept m (Shifted kind places) = whole-kept m (Shifted kind places)
  row-kept m (Short test back d) = whole-kept m (Short test back d)
  row-kept m (Immediate which n) = whole-kept m (Immediate which n)
  row-kept m (Control which n) = whole-kept m (Control which n)
  row-kept m (Memory major second x i mode) = whole-kept m (Memory major second x i mode)
  row-kept m (LoadCode back d) = whole-kept m (LoadCode back d)
  row-kept m (Branch i back d) = whole-kept m (Branch i back d)
  row-kept m (OnCode mask back d) = whole-kept m (OnCode mask back d)
  row-kept m (Loop modify back d) = whole-kept m (Loop modify back d)
  row-kept m (Illegal w) = whole-kept m (Illegal w)

  pub outcome-kept : (m : Machine) → Keeps (length segments) m (outcome segments m)
  unfolding outcome
  outcome-kept m = by (code_word segments m.regs.seg m.regs.p) where
    by : (w : Option ℕ) → Keeps (length segments) m (by_word segments w m)
    by None = tt
    by (Some w) = row-kept m (instruction w)

  -- what an answered word leaves
  pub answered : (m n : Machine) → outcome segments m ≡ Ok n → IsKept (length segments) m n
  answered m n h = by (outcome segments m) h (outcome-kept m) where
    by : (o : Outcome) → o ≡ Ok n → Keeps (length segments) m o → IsKept (length segments) m n
    by o is p = rw is at p

  pub answered-continues : (m n : Machine) → outcome segments m ≡ Ok n → Continues (length segments) m n
  answered-continues m n h = continued (length segments) m n (answered m n h)

  pub answered-untrapped : (m n : Machine) → outcome segments m ≡ Ok n → is_trapped m.ending ≡ false → is_trapped n.ending ≡ false
  answered-untrapped m n h = (answered m n h).untrapped

  -- a step goes on from the session before it
  pub step-continues : (m : Machine) → Continues (length segments) m (step segments m)
  unfolding step
  step-continues m = by (outcome segments m) (outcome-kept m) where
    by : (o : Outcome) → Keeps (length segments) m o → Continues (length segments) m (ended m o)
    by (Ok n) p = continued (length segments) m n p
    by (Err t) p = record {
      within = λ h. h;
      same_limit = refl;
      same_room = refl;
      same_lines = refl;
      later = omega arith;
      same_size = refl;
      front = take-length m.printed;
    }
