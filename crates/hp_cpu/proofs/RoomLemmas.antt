-- No row changes STACK or the number of words in the extra segment, in whatever program.
-- 1. rows that keep all that rows keep keep these lengths   (of_kept)
-- 2. so does PCAL, wherever its label leads                 (called-sized)
-- 3. so does what the word at P does                        (outcome-sized)
use Rattle.std.proofs.Common.{◌≡◌, ℕ, ◌+◌, Bool, true, false, List, ◌++◌, length, refl}
use Rattle.std.specs.Prelude.{◌==◌, nat_le, MatchResult, ⊤, Result, Ok, Err, Option, None, Some, if◌then◌else◌}
use Rattle.hp_word.specs.declared.endings.Trap.{Trap}
use Rattle.hp_word.specs.declared.endings.Trap.TheVariants.{Mode, StackOverflow}
use Rattle.hp_instr.specs.declared.instruction.Instr.{Instr}
use Rattle.hp_instr.specs.declared.instruction.Instr.TheVariants.{Pair, Shifted, Short, Immediate, Control, Memory, LoadCode, Branch, OnCode, Loop, Illegal}
use Rattle.hp_instr.specs.declared.instruction.Op.{Op}
use Rattle.hp_instr.specs.declared.labels.Label.{Label}
use Rattle.hp_instr.specs.declared.labels.Label.TheVariants.{Local, External, Bad}
use Rattle.hp_instr.specs.Instructions.{instruction}
use Rattle.hp_program.specs.Programs.{code_word, words_of}
use Rattle.hp_program.specs.Valid.{label_of}
use Rattle.hp_session.specs.State.{Machine, Outcome, passing, then_with}
use Rattle.hp_session.proofs.KeepingForms.{Keeps}
use Rattle.hp_session.proofs.KeepingLaws.{after_row, either, passing-kept}
use Rattle.hp_flat.proofs.hp_stack_rows_proofs.StackKeeping.{operated-kept}
use Rattle.hp_flat.specs.hp_word_rows.WordRows.{count_row}
use Rattle.hp_flat.proofs.hp_word_rows_proofs.WordKeeping.{shifting-kept, short_branch-kept, immediate_row-kept, count_row-kept}
use Rattle.hp_flat.specs.hp_memory_rows.MoveRows.{move_row}
use Rattle.hp_flat.proofs.hp_memory_rows_proofs.MemoryKeeping.{memory_row-kept, code_loaded-kept, branched-kept, loop_tested-kept, loop_stepped-kept}
use Rattle.hp_flat.proofs.hp_memory_rows_proofs.MoveKeeping.{move_row-kept}
use Rattle.hp_calls.specs.hp_call_rows.CallRows.{called, called_through, entered, exited, label_at, marker, subroutine_called, subroutine_left}
use Rattle.hp_calls.specs.hp_call_rows.GateRows.{served}
use Rattle.hp_calls.proofs.hp_call_rows_proofs.CallKeeping.{exited-kept, subroutine_called-kept, subroutine_left-kept}
use Rattle.hp_calls.proofs.hp_call_rows_proofs.GateKeeping.{served-kept}
use Rattle.hp_flat.specs.Step.{at_left, by_word, control_row, outcome, pair_row, row, word_row}

-- a session with STACK and an extra segment of the same lengths
pub record IsSized (m n : Machine) : Type 0 where
  pub same_limit : n.stack_limit ≡ m.stack_limit
  pub same_size : length n.extra ≡ length m.extra

-- what a row leaves is one
abbrev pub Sized : Machine → Outcome → Type 0
Sized m o = MatchResult o (λ n. IsSized m n) (λ _. ⊤)

of_kept : (count : ℕ) (m : Machine) (o : Outcome) → Keeps count m o → Sized m o
of_kept count m (Ok n) kept = record { same_limit = kept.same_limit; same_size = kept.same_size }
of_kept count m (Err t) kept = tt

-- Calls

entered-sized : (seg offset : ℕ) (m : Machine) → Sized m (entered seg offset m)
unfolding entered
entered-sized seg offset m = by (nat_le (length m.stack + length (marker m)) m.stack_limit) where
  by : (room : Bool) → Sized m (then_with (if room then Ok (record m { stack = m.stack ++ marker m }) else Err StackOverflow) (λ n.
      Ok (record n { regs = record n.regs { q = length m.stack + 3; p = offset; seg = seg; right = false } })))
  by true = record { same_limit = refl; same_size = refl }
  by false = tt

through-sized : (program : List (List ℕ)) (l : Label) (m : Machine) → Sized m (called_through program l m)
unfolding called_through
through-sized program (Local offset) m = entered-sized m.regs.seg offset m
through-sized program (External seg entry) m = by (seg == 255) where
  by : (gate : Bool) → Sized m (if gate then passing (served entry m) else entered seg (label_of (words_of program seg) entry) m)
  by true = of_kept 0 m _ (passing-kept 0 m _ (served-kept 0 m entry))
  by false = entered-sized seg _ m
through-sized program (Bad w) m = tt

called-sized : (program : List (List ℕ)) (n : ℕ) (m : Machine) → Sized m (called program n m)
unfolding called
called-sized program n m = by m.split (label_at program n m) where
  by : (split : Bool) (l : Result Label Trap) → Sized m (if split then Err Mode else then_with l (λ l. called_through program l m))
  by true l = tt
  by false (Ok l) = through-sized program l m
  by false (Err t) = tt

-- Instructions

pair-sized : (left right : Op) (m : Machine) → Keeps 0 m (pair_row left right m)
unfolding pair_row
pair-sized left right m =
    either 0 m m.regs.right _ _ (passing-kept 0 m _ (operated-kept 0 m right.code))
    (either 0 m (right.code == 0) _ _ (passing-kept 0 m _ (operated-kept 0 m left.code))
    (after_row 0 m _ _ (operated-kept 0 m left.code) (λ n h. h)))

control-sized : (program : List (List ℕ)) (which n : ℕ) (m : Machine) → Sized m (control_row program which n m)
unfolding control_row
control-sized program which n m = by (which == 0) where
  others : Keeps (length program) m (if which == 1 then exited program n m else if which == 2 then subroutine_left n m else if which == 3 then subroutine_called program n m
      else if nat_le which 8 then passing (count_row which n m) else move_row program which n m)
  others =
      either (length program) m (which == 1) (exited program n m) _ (exited-kept program m n)
      (either (length program) m (which == 2) (subroutine_left n m) _ (subroutine_left-kept (length program) m n)
      (either (length program) m (which == 3) (subroutine_called program n m) _ (subroutine_called-kept (length program) m program n)
      (either (length program) m (nat_le which 8) (passing (count_row which n m)) _ (passing-kept (length program) m _ (count_row-kept (length program) m which n))
      (move_row-kept (length program) m program which n))))

  by : (pcal : Bool) → Sized m (if pcal then called program n m else if which == 1 then exited program n m else if which == 2 then subroutine_left n m
      else if which == 3 then subroutine_called program n m else if nat_le which 8 then passing (count_row which n m) else move_row program which n m)
  by true = called-sized program n m
  by false = of_kept (length program) m _ others

word-sized : (program : List (List ℕ)) (i : Instr) (m : Machine) → Sized m (word_row program i m)
unfolding word_row
word-sized program (Pair left right) m = tt
word-sized program (Shifted kind places) m = of_kept 0 m _ (passing-kept 0 m _ (shifting-kept 0 m kind places))
word-sized program (Short test back d) m = of_kept 0 m _ (short_branch-kept 0 m test back d)
word-sized program (Immediate which n) m = of_kept 0 m _ (passing-kept 0 m _ (immediate_row-kept 0 m which n))
word-sized program (Control which n) m = control-sized program which n m
word-sized program (Memory major second x i mode) m = of_kept 0 m _ (passing-kept 0 m _ (memory_row-kept 0 m major second mode i x))
word-sized program (LoadCode back d) m = of_kept 0 m _ (passing-kept 0 m _ (code_loaded-kept 0 m program back d))
word-sized program (Branch i back d) m = of_kept 0 m _ (branched-kept 0 m program i back d)
word-sized program (OnCode mask back d) m = record { same_limit = refl; same_size = refl }
word-sized program (Loop modify back d) m = of_kept 0 m _ (either 0 m modify _ _ (loop_stepped-kept 0 m back d) (loop_tested-kept 0 m back d))
word-sized program (Illegal w) m = tt

-- R counts for no length
of_left : (m : Machine) (o : Outcome) → Sized (at_left m) o → Sized m o
of_left m (Ok n) sized = record { same_limit = sized.same_limit; same_size = sized.same_size }
of_left m (Err t) sized = tt

row-sized : (program : List (List ℕ)) (i : Instr) (m : Machine) → Sized m (row program i m)
unfolding row
row-sized program (Pair left right) m = of_kept 0 m _ (pair-sized left right m)
row-sized program (Shifted kind places) m = of_left m _ (word-sized program (Shifted kind places) (at_left m))
row-sized program (Short test back d) m = of_left m _ (word-sized program (Short test back d) (at_left m))
row-sized program (Immediate which n) m = of_left m _ (word-sized program (Immediate which n) (at_left m))
row-sized program (Control which n) m = of_left m _ (word-sized program (Control which n) (at_left m))
row-sized program (Memory major second x i mode) m = of_left m _ (word-sized program (Memory major second x i mode) (at_left m))
row-sized program (LoadCode back d) m = of_left m _ (word-sized program (LoadCode back d) (at_left m))
row-sized program (Branch i back d) m = of_left m _ (word-sized program (Branch i back d) (at_left m))
row-sized program (OnCode mask back d) m = of_left m _ (word-sized program (OnCode mask back d) (at_left m))
row-sized program (Loop modify back d) m = of_left m _ (word-sized program (Loop modify back d) (at_left m))
row-sized program (Illegal w) m = of_left m _ (word-sized program (Illegal w) (at_left m))

outcome-sized : (program : List (List ℕ)) (m : Machine) → Sized m (outcome program m)
unfolding outcome
outcome-sized program m = by (code_word program m.regs.seg m.regs.p) where
  by : (w : Option ℕ) → Sized m (by_word program w m)
  by None = tt
  by (Some w) = row-sized program (instruction w) m

pub answered-sized : (program : List (List ℕ)) (m n : Machine) → outcome program m ≡ Ok n → IsSized m n
answered-sized program m n h = by (outcome program m) h (outcome-sized program m) where
  by : (o : Outcome) → o ≡ Ok n → Sized m o → IsSized m n
  by o is sized = rw is at sized
