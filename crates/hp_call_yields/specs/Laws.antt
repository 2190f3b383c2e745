-- The laws of this crate: what each step of a move does, and what calls, returns, intrinsics and loops leave.
use Rattle.std.specs.Prelude.{◌≡◌, ℕ, ◌+◌, ◌<◌, ◌≤◌, Bool, false, [], ◌∷◌, ◌++◌, length, Ok, Err, ◌%◌, ◌==◌, not, nat_lt, if◌then◌else◌, ◌-◌, true, List, take, slice_index, Some}
use Rattle.hp_yields.specs.hp_word.declared.endings.Trap.TheVariants.{StackOverflow, Mode, Bounds, OutputLimit, IntegerOverflow}
use Rattle.hp_yields.specs.hp_instr.declared.instruction.Instr.TheVariants as i
use Rattle.hp_yields.specs.hp_session.State.{Machine, word, without, wrapped, at_place, replaced, with_code, passed}
use Rattle.hp_yields.specs.hp_memory_rows.MemoryRows.{is_named, goes_on}
use Rattle.hp_yields.specs.spl_follow.Spots.{Spot, landed}
use Rattle.hp_yields.specs.spl_follow.Doing.{body, turned, subroutine_called, loop_turning}
use Rattle.hp_yields.specs.hp_word.declared.arithmetic.Code.TheVariants.{Greater, Less, Equal}
use Rattle.hp_yields.specs.hp_instr.Bits.{bits}
use Rattle.hp_yields.specs.hp_session.declared.registers.Regs.{Regs}
use Rattle.hp_yields.specs.hp_session.declared.places.Place.TheVariants.{Stack, Db}
use Rattle.hp_yields.specs.hp_session.Places.{read_at, written, byte_read, byte_written}
use Rattle.hp_yields.specs.hp_call_rows.declared.call_rows.Frame.{Frame}
use Rattle.hp_yields.specs.hp_call_rows.CallRows.{status, with_status, marker, entered, marker_at, old_q, exited, subroutine_left}
use Rattle.hp_yields.specs.hp_memory_rows.MoveRows.{move_row, element_done, source_word, source_byte, is_of_class, as_moved, byte_passed, scan_ended}
use Rattle.hp_yields.specs.hp_flat.Step.{control_row}
use Rattle.hp_call_yields.specs.Steps.{with_status_of, passes_while, ends_until}
use Rattle.hp_yields.specs.hp_word.declared.intrinsics.Intrinsic.{Intrinsic}
use Rattle.hp_yields.specs.hp_word.Intrinsics.{is_in_bounds, has_room, taken_words}
use Rattle.hp_yields.specs.hp_call_rows.GateRows.{intrinsic, effect, after_call, served}
use Rattle.hp_yields.specs.hp_word.Words.{added}
use Rattle.hp_yields.specs.hp_word.declared.endings.Trap.{Trap}

-- MOVE
pub record WordMoves : Type 0 where
  pub move_ends : (segments : List (List ℕ)) (n : ℕ) (m : Machine) → 3 ≤ length m.stack → (word 0 m == 0) ≡ true
      → move_row segments 9 n m ≡ Ok (passed (without 2 m))
  pub move_goes : (segments : List (List ℕ)) (n w : ℕ) (k m : Machine) → 3 ≤ length m.stack → (word 0 m == 0) ≡ false
      → source_word segments (n == 1) (word 1 m) m ≡ Ok w → written (Db (word 2 m)) w m ≡ Ok k
      → move_row segments 9 n m ≡ Ok (element_done (word 2 m) (word 1 m) (word 0 m) k)
  pub move_reads_none : (segments : List (List ℕ)) (n : ℕ) (t : Trap) (m : Machine) → 3 ≤ length m.stack → (word 0 m == 0) ≡ false
      → source_word segments (n == 1) (word 1 m) m ≡ Err t → move_row segments 9 n m ≡ Err t
  pub move_stores_none : (segments : List (List ℕ)) (n w : ℕ) (t : Trap) (m : Machine) → 3 ≤ length m.stack → (word 0 m == 0) ≡ false
      → source_word segments (n == 1) (word 1 m) m ≡ Ok w → written (Db (word 2 m)) w m ≡ Err t → move_row segments 9 n m ≡ Err t

-- MVB
pub record ByteMoves : Type 0 where
  pub bytes_end : (segments : List (List ℕ)) (n : ℕ) (m : Machine) → 3 ≤ length m.stack → (word 0 m == 0) ≡ true
      → move_row segments 10 n m ≡ Ok (passed (without 2 m))
  pub bytes_go : (segments : List (List ℕ)) (n b : ℕ) (k m : Machine) → 3 ≤ length m.stack → (word 0 m == 0) ≡ false
      → source_byte segments (n == 1) (word 1 m) m ≡ Ok b → byte_written (Db (word 2 m)) b m ≡ Ok k
      → move_row segments 10 n m ≡ Ok (element_done (word 2 m) (word 1 m) (word 0 m) k)
  pub bytes_read_none : (segments : List (List ℕ)) (n : ℕ) (t : Trap) (m : Machine) → 3 ≤ length m.stack → (word 0 m == 0) ≡ false
      → source_byte segments (n == 1) (word 1 m) m ≡ Err t → move_row segments 10 n m ≡ Err t
  pub bytes_store_none : (segments : List (List ℕ)) (n b : ℕ) (t : Trap) (m : Machine) → 3 ≤ length m.stack → (word 0 m == 0) ≡ false
      → source_byte segments (n == 1) (word 1 m) m ≡ Ok b → byte_written (Db (word 2 m)) b m ≡ Err t → move_row segments 10 n m ≡ Err t

-- MVBW
pub record ClassMoves : Type 0 where
  pub while_ends : (segments : List (List ℕ)) (n b : ℕ) (m : Machine) → 2 ≤ length m.stack → byte_read (Db (word 0 m)) m ≡ Ok b
      → is_of_class n b ≡ false
      → move_row segments 11 n m ≡ Ok (passed (without 1 m))
  pub while_goes : (segments : List (List ℕ)) (n b : ℕ) (k m : Machine) → 2 ≤ length m.stack → byte_read (Db (word 0 m)) m ≡ Ok b
      → is_of_class n b ≡ true
      → byte_written (Db (word 1 m)) (as_moved n b) m ≡ Ok k
      → move_row segments 11 n m ≡ Ok (replaced 2 (wrapped (word 1 m + 1) ∷ wrapped (word 0 m + 1) ∷ []) k)
  pub while_reads_none : (segments : List (List ℕ)) (n : ℕ) (t : Trap) (m : Machine) → 2 ≤ length m.stack
      → byte_read (Db (word 0 m)) m ≡ Err t → move_row segments 11 n m ≡ Err t
  pub while_stores_none : (segments : List (List ℕ)) (n b : ℕ) (t : Trap) (m : Machine) → 2 ≤ length m.stack
      → byte_read (Db (word 0 m)) m ≡ Ok b → is_of_class n b ≡ true
      → byte_written (Db (word 1 m)) (as_moved n b) m ≡ Err t → move_row segments 11 n m ≡ Err t

-- SCW and SCU
pub record Scans : Type 0 where
  pub scan_while_goes : (segments : List (List ℕ)) (n b : ℕ) (m : Machine) → 2 ≤ length m.stack → byte_read (Db (word 1 m)) m ≡ Ok b
      → passes_while b m ≡ true
      → move_row segments 12 n m ≡ Ok (byte_passed m)
  pub scan_while_ends : (segments : List (List ℕ)) (n b : ℕ) (m : Machine) → 2 ≤ length m.stack → byte_read (Db (word 1 m)) m ≡ Ok b
      → passes_while b m ≡ false
      → move_row segments 12 n m ≡ Ok (scan_ended b m)
  pub scan_while_reads_none : (segments : List (List ℕ)) (n : ℕ) (t : Trap) (m : Machine) → 2 ≤ length m.stack
      → byte_read (Db (word 1 m)) m ≡ Err t → move_row segments 12 n m ≡ Err t
  pub scan_until_goes : (segments : List (List ℕ)) (n b : ℕ) (m : Machine) → 2 ≤ length m.stack → byte_read (Db (word 1 m)) m ≡ Ok b
      → ends_until b m ≡ false
      → move_row segments 13 n m ≡ Ok (byte_passed m)
  pub scan_until_ends : (segments : List (List ℕ)) (n b : ℕ) (m : Machine) → 2 ≤ length m.stack → byte_read (Db (word 1 m)) m ≡ Ok b
      → ends_until b m ≡ true
      → move_row segments 13 n m ≡ Ok (scan_ended b m)
  pub scan_until_reads_none : (segments : List (List ℕ)) (n : ℕ) (t : Trap) (m : Machine) → 2 ≤ length m.stack
      → byte_read (Db (word 1 m)) m ≡ Err t → move_row segments 13 n m ≡ Err t

-- CMPB
pub record ByteComparisons : Type 0 where
  pub compare_ends : (segments : List (List ℕ)) (n : ℕ) (m : Machine) → 3 ≤ length m.stack → (word 0 m == 0) ≡ true
      → move_row segments 14 n m ≡ Ok (passed (with_code Equal (without 3 m)))
  pub compare_goes : (segments : List (List ℕ)) (n a b : ℕ) (m : Machine) → 3 ≤ length m.stack → (word 0 m == 0) ≡ false
      → byte_read (Db (word 2 m)) m ≡ Ok a
      → source_byte segments (n == 1) (word 1 m) m ≡ Ok b → (a == b) ≡ true
      → move_row segments 14 n m ≡ Ok (element_done (word 2 m) (word 1 m) (word 0 m) m)
  pub compare_differs : (segments : List (List ℕ)) (n a b : ℕ) (m : Machine) → 3 ≤ length m.stack → (word 0 m == 0) ≡ false
      → byte_read (Db (word 2 m)) m ≡ Ok a
      → source_byte segments (n == 1) (word 1 m) m ≡ Ok b → (a == b) ≡ false
      → move_row segments 14 n m ≡ Ok (passed (with_code (if nat_lt b a then Greater else Less) (without 3 m)))
  pub compare_reads_no_first : (segments : List (List ℕ)) (n : ℕ) (t : Trap) (m : Machine) → 3 ≤ length m.stack → (word 0 m == 0) ≡ false
      → byte_read (Db (word 2 m)) m ≡ Err t → move_row segments 14 n m ≡ Err t
  pub compare_reads_no_second : (segments : List (List ℕ)) (n a : ℕ) (t : Trap) (m : Machine) → 3 ≤ length m.stack → (word 0 m == 0) ≡ false
      → byte_read (Db (word 2 m)) m ≡ Ok a → source_byte segments (n == 1) (word 1 m) m ≡ Err t → move_row segments 14 n m ≡ Err t

-- what PCAL pushes, and EXIT and SXIT
pub record Calls : Type 0 where
  pub procedure_entered : (seg offset : ℕ) (m : Machine) → length m.stack + 4 ≤ m.stack_limit
      → entered seg offset m ≡ Ok (record m { stack = m.stack ++ marker m; regs = record m.regs { q = length m.stack + 3; p = offset; seg = seg; right = false } })
  pub procedure_not_entered : (seg offset : ℕ) (m : Machine) → m.stack_limit < length m.stack + 4 → entered seg offset m ≡ Err StackOverflow
  pub marker_there : (q x offset state delta : ℕ) (m : Machine) → 3 ≤ q → q < 65536 → q < length m.stack → slice_index m.stack (q - 3) ≡ x
      → slice_index m.stack (q - 2) ≡ offset → slice_index m.stack (q - 1) ≡ state → slice_index m.stack q ≡ delta
      → marker_at q m ≡ Ok (record { x = x; offset = offset; status = state; delta = delta })
  pub status_back : (r s : Regs) → r.seg < 256 → with_status (status r) s ≡ with_status_of r s
  pub q_back : (above q : ℕ) → above + 3 < 65536 → q < 65536 → old_q (above + 3) (wrapped (above + 3 + 65536 - q)) ≡ q
  pub procedure_left : (segments : List (List ℕ)) (n : ℕ) (k : Frame) (m : Machine) → m.split ≡ false → marker_at m.regs.q m ≡ Ok k
      → bits 8 15 k.status < length segments → n + 3 ≤ m.regs.q → old_q m.regs.q k.delta < m.regs.q - (n + 3)
      → exited segments n m ≡ Ok (record m {
        stack = take (m.regs.q - (n + 3)) m.stack;
        regs = record (with_status k.status m.regs) { x = k.x; q = old_q m.regs.q k.delta; p = k.offset };
      })
  pub procedure_not_left : (segments : List (List ℕ)) (n : ℕ) (m : Machine) → m.split ≡ true → exited segments n m ≡ Err Mode
  pub procedure_returns : (segments : List (List ℕ)) (n : ℕ) (c m : Machine) → m.split ≡ false → m.regs.q ≡ length c.stack + 3
      → length c.stack + 3 < length m.stack → length c.stack + 3 < 65536 → slice_index m.stack (length c.stack) ≡ c.regs.x
      → slice_index m.stack (length c.stack + 1) ≡ wrapped (c.regs.p + 1) → slice_index m.stack (length c.stack + 2) ≡ status c.regs
      → slice_index m.stack (length c.stack + 3) ≡ wrapped (length c.stack + 3 + 65536 - c.regs.q)
      → c.regs.seg < 256 → c.regs.seg < length segments → c.regs.q + n < length c.stack
      → exited segments n m ≡ Ok (record m {
        stack = take (length c.stack - n) m.stack;
        regs = record (with_status_of c.regs m.regs) { x = c.regs.x; q = c.regs.q; p = wrapped (c.regs.p + 1) };
      })
  pub subroutine_returns : (n : ℕ) (m : Machine) → n + 1 ≤ length m.stack
      → subroutine_left n m ≡ Ok (at_place (word 0 m) (without (n + 1) m))

-- EXIT, SXIT, and the moves, by their codes
pub record ControlRows : Type 0 where
  pub exit_row : (segments : List (List ℕ)) (n : ℕ) (m : Machine) → control_row segments 1 n m ≡ exited segments n m
  pub subroutine_exit_row : (segments : List (List ℕ)) (n : ℕ) (m : Machine) → control_row segments 2 n m ≡ subroutine_left n m
  pub move_step_row : (segments : List (List ℕ)) (which n : ℕ) (m : Machine) → 9 ≤ which
      → control_row segments which n m ≡ move_row segments which n m

-- a call of the gate
pub record Intrinsics : Type 0 where
  pub intrinsic_done : (entry : ℕ) (i : Intrinsic) (m : Machine) → intrinsic entry ≡ Some i → taken_words i ≤ length m.stack
      → is_in_bounds (length m.stack) (effect i m) ≡ true → has_room (m.room - length m.printed) (effect i m) ≡ true
      → served entry m ≡ Ok (after_call (taken_words i) (effect i m) m)
  pub intrinsic_out : (entry : ℕ) (i : Intrinsic) (m : Machine) → intrinsic entry ≡ Some i → taken_words i ≤ length m.stack
      → is_in_bounds (length m.stack) (effect i m) ≡ false → served entry m ≡ Err Bounds
  pub intrinsic_full : (entry : ℕ) (i : Intrinsic) (m : Machine) → intrinsic entry ≡ Some i → taken_words i ≤ length m.stack
      → is_in_bounds (length m.stack) (effect i m) ≡ true → has_room (m.room - length m.printed) (effect i m) ≡ false
      → served entry m ≡ Err OutputLimit

-- BR, BCC, BRE, BNCY and BNOV, as pieces of code
pub record Branches : Type 0 where
  pub always_turns : (back : Bool) (d : ℕ) (to r : Spot) (m : Machine) → turned (i.Branch false back d) to r m ≡ Ok (landed to m)
  pub code_turns : (mask : ℕ) (back : Bool) (d : ℕ) (to r : Spot) (m : Machine)
      → turned (i.OnCode mask back d) to r m ≡ Ok (landed (if is_named mask m.regs.code then to else r) m)
  pub even_turns : (back : Bool) (d : ℕ) (to r : Spot) (m : Machine) → 1 ≤ length m.stack
      → turned (i.Short 0o16 back d) to r m ≡ Ok (landed (if word 0 m % 2 == 0 then to else r) (without 1 m))
  pub no_carry_turns : (back : Bool) (d : ℕ) (to r : Spot) (m : Machine)
      → turned (i.Short 0o20 back d) to r m ≡ Ok (landed (if not m.regs.carry then to else r) m)
  pub no_overflow_turns : (back : Bool) (d : ℕ) (to r : Spot) (m : Machine)
      → turned (i.Short 0o22 back d) to r m ≡ Ok (landed (if not m.regs.overflow then to else r) m)

-- SCAL, as a piece of code
pub record SubroutineCalls : Type 0 where
  pub subroutine_entered : (to r : Spot) (m : Machine) → length m.stack < m.stack_limit
      → subroutine_called (body to) r m ≡ Ok (landed to (record m { stack = m.stack ++ r.offset ∷ [] }))
  pub subroutine_not_entered : (to r : Spot) (m : Machine) → m.stack_limit ≤ length m.stack
      → subroutine_called (body to) r m ≡ Err StackOverflow

-- TBA and MTBA, as pieces of code
pub record Loops : Type 0 where
  pub loop_tested : (back : Bool) (d w : ℕ) (to r : Spot) (m : Machine) → 3 ≤ length m.stack → read_at (Stack (word 2 m)) m ≡ Ok w
      → turned (i.Loop false back d) to r m ≡ Ok (loop_turning (goes_on w (word 1 m) (word 0 m)) to r m)
  pub loop_test_reads_none : (back : Bool) (d : ℕ) (t : Trap) (to r : Spot) (m : Machine) → 3 ≤ length m.stack
      → read_at (Stack (word 2 m)) m ≡ Err t
      → turned (i.Loop false back d) to r m ≡ Err t
  pub loop_stepped : (back : Bool) (d w : ℕ) (to r : Spot) (n m : Machine) → 3 ≤ length m.stack → read_at (Stack (word 2 m)) m ≡ Ok w
      → (added w (word 1 m)).overflow ≡ false → written (Stack (word 2 m)) (added w (word 1 m)).value m ≡ Ok n
      → turned (i.Loop true back d) to r m
      ≡ Ok (loop_turning (goes_on (added w (word 1 m)).value (word 1 m) (word 0 m)) to r (record n { regs = record n.regs { overflow = false } }))
  pub loop_step_overflows : (back : Bool) (d w : ℕ) (to r : Spot) (m : Machine) → 3 ≤ length m.stack → read_at (Stack (word 2 m)) m ≡ Ok w
      → (added w (word 1 m)).overflow ≡ true → turned (i.Loop true back d) to r m ≡ Err IntegerOverflow
  pub loop_step_reads_none : (back : Bool) (d : ℕ) (t : Trap) (to r : Spot) (m : Machine) → 3 ≤ length m.stack
      → read_at (Stack (word 2 m)) m ≡ Err t
      → turned (i.Loop true back d) to r m ≡ Err t
