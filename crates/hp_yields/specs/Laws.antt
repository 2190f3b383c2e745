-- The laws of this crate: what each row leaves in place of the top words, and when it traps. A is the top word, B and C are beneath it.
use Rattle.std.specs.Prelude.{◌≡◌, ℕ, ◌+◌, ◌<◌, ◌≤◌, Bool, true, false, List, [], ◌∷◌, length, Some, Ok, Err, ◌%◌, slice_index, slice_set, ◌-◌, bit_and, bit_or, bit_xor, replicate}
use Rattle.spl_follow.specs.hp_word.declared.endings.Trap.{Trap}
use Rattle.spl_follow.specs.hp_word.declared.endings.Trap.TheVariants.{Bounds, StackOverflow}
use Rattle.spl_follow.specs.hp_word.Bytes.{with_byte, double, high_word, low_word}
use Rattle.spl_follow.specs.hp_instr.declared.instruction.Mode.{Mode}
use Rattle.spl_follow.specs.hp_program.Programs.{code_word}
use Rattle.spl_follow.specs.hp_session.declared.places.Place.{Place}
use Rattle.spl_follow.specs.hp_session.State.{Machine, word, without, displaced, with_code}
use Rattle.spl_follow.specs.hp_session.Places.{address, read_at, moved, operand, byte_operand, word_of_byte, byte_read, put, written, byte_written}
use Rattle.spl_follow.specs.hp_memory_rows.MemoryRows.{memory_row, code_loaded}
use Rattle.spl_follow.specs.Yielding.{Puts, PutsFar, Yields}
use Rattle.hp_yields.specs.Rows.{Places, Sided, held, with_held, Settles, SettlesWide, Divides, DividesLogically, Codes}
use Rattle.spl_follow.specs.hp_word.Words.{added, subtracted, multiplied, negated, divided, logically_added, logically_subtracted, logically_multiplied, logically_divided, double_added, double_subtracted, double_negated, words_compared, logically_compared, doubles_compared, word_code}
use Rattle.spl_follow.specs.hp_stack_rows.StackRows.{upper_double, lower_double, operated}
use Rattle.spl_follow.specs.hp_word.Bits.{shifted, field, with_field}
use Rattle.spl_follow.specs.hp_instr.Bits.{bits}
use Rattle.spl_follow.specs.hp_instr.Fields.{field_length}
use Rattle.spl_follow.specs.hp_word_rows.WordRows.{shift_of, shifting, minus, immediate_row, count_row}

-- ADD, SUB, MPY, DIV and NEG: of B and A, in this order
pub record IntegerOperators : Type 0 where
  pub add : (m : Machine) → 2 ≤ length m.stack → Settles 2 (added (word 1 m) (word 0 m)) m (operated 0o20 m)
  pub subtract : (m : Machine) → 2 ≤ length m.stack → Settles 2 (subtracted (word 1 m) (word 0 m)) m (operated 0o21 m)
  pub multiply : (m : Machine) → 2 ≤ length m.stack → Settles 2 (multiplied (word 1 m) (word 0 m)) m (operated 0o22 m)
  pub divide : (m : Machine) → 2 ≤ length m.stack → Divides 2 (divided (word 1 m) (word 0 m)) m (operated 0o23 m)
  pub negate : (m : Machine) → 1 ≤ length m.stack → Settles 1 (negated (word 0 m)) m (operated 0o24 m)

-- LADD, LSUB, LMPY and LDIV
pub record LogicalOperators : Type 0 where
  pub logical_add : (m : Machine) → 2 ≤ length m.stack → Yields 2 ((logically_added (word 1 m) (word 0 m)).value ∷ []) m (operated 0o61 m)
  pub logical_subtract : (m : Machine) → 2 ≤ length m.stack
      → Yields 2 ((logically_subtracted (word 1 m) (word 0 m)).value ∷ []) m (operated 0o62 m)
  pub logical_multiply : (m : Machine) → 2 ≤ length m.stack
      → Yields 2 (high_word (logically_multiplied (word 1 m) (word 0 m)).value ∷ low_word (logically_multiplied (word 1 m) (word 0 m)).value ∷ []) m (operated 0o63 m)
  pub logical_divide : (m : Machine) → 3 ≤ length m.stack
      → DividesLogically 3 (logically_divided (double (word 2 m) (word 1 m)) (word 0 m)) m (operated 0o64 m)

-- NOT, OR, XOR and AND
pub record BitOperators : Type 0 where
  pub bits_inverted : (m : Machine) → 1 ≤ length m.stack
      → Codes 1 ((65535 - word 0 m) ∷ []) (word_code (65535 - word 0 m)) m (operated 0o65 m)
  pub bits_or : (m : Machine) → 2 ≤ length m.stack
      → Codes 2 (bit_or (word 1 m) (word 0 m) ∷ []) (word_code (bit_or (word 1 m) (word 0 m))) m (operated 0o66 m)
  pub bits_xor : (m : Machine) → 2 ≤ length m.stack
      → Codes 2 (bit_xor (word 1 m) (word 0 m) ∷ []) (word_code (bit_xor (word 1 m) (word 0 m))) m (operated 0o67 m)
  pub bits_and : (m : Machine) → 2 ≤ length m.stack
      → Codes 2 (bit_and (word 1 m) (word 0 m) ∷ []) (word_code (bit_and (word 1 m) (word 0 m))) m (operated 0o70 m)

-- DADD, DSUB and DNEG: of the lower double and the upper one
pub record DoubleOperators : Type 0 where
  pub double_add : (m : Machine) → 4 ≤ length m.stack → SettlesWide 4 (double_added (lower_double m) (upper_double m)) m (operated 0o11 m)
  pub double_subtract : (m : Machine) → 4 ≤ length m.stack
      → SettlesWide 4 (double_subtracted (lower_double m) (upper_double m)) m (operated 0o12 m)
  pub double_negate : (m : Machine) → 2 ≤ length m.stack → SettlesWide 2 (double_negated (upper_double m)) m (operated 0o15 m)

-- CMP, LCMP, DCMP and TEST
pub record Comparisons : Type 0 where
  pub compare : (m : Machine) → 2 ≤ length m.stack → Codes 2 [] (words_compared (word 1 m) (word 0 m)) m (operated 0o17 m)
  pub logical_compare : (m : Machine) → 2 ≤ length m.stack → Codes 2 [] (logically_compared (word 1 m) (word 0 m)) m (operated 0o60 m)
  pub double_compare : (m : Machine) → 4 ≤ length m.stack
      → Codes 4 [] (doubles_compared (lower_double m) (upper_double m)) m (operated 0o10 m)
  pub top_tested : (m : Machine) → 1 ≤ length m.stack → operated 0o25 m ≡ Ok (with_code (word_code (word 0 m)) m)

-- ZERO, DZRO, DEL, DDEL, DELB, DUP, XCH, CAB and STAX
pub record Placements : Type 0 where
  pub zero_pushed : (m : Machine) → length m.stack < m.stack_limit → Places 0 (0 ∷ []) m.regs.x m (operated 0o06 m)
  pub zeros_pushed : (m : Machine) → length m.stack + 2 ≤ m.stack_limit → Places 0 (0 ∷ 0 ∷ []) m.regs.x m (operated 0o07 m)
  pub top_deleted : (m : Machine) → 1 ≤ length m.stack → Places 1 [] m.regs.x m (operated 0o40 m)
  pub double_deleted : (m : Machine) → 2 ≤ length m.stack → Places 2 [] m.regs.x m (operated 0o02 m)
  pub lower_deleted : (m : Machine) → 2 ≤ length m.stack → Places 2 (word 0 m ∷ []) m.regs.x m (operated 0o01 m)
  pub top_copied : (m : Machine) → 1 ≤ length m.stack → length m.stack < m.stack_limit
      → Places 0 (word 0 m ∷ []) m.regs.x m (operated 0o45 m)
  pub two_exchanged : (m : Machine) → 2 ≤ length m.stack → Places 2 (word 0 m ∷ word 1 m ∷ []) m.regs.x m (operated 0o32 m)
  pub three_rotated : (m : Machine) → 3 ≤ length m.stack → Places 3 (word 1 m ∷ word 0 m ∷ word 2 m ∷ []) m.regs.x m (operated 0o56 m)
  pub top_to_x : (m : Machine) → 1 ≤ length m.stack → Places 1 [] (word 0 m) m (operated 0o43 m)

-- the shifts, LDI, LDNI, LDXN, EXF, DPF, ANDI and ORI
pub record Immediates : Type 0 where
  pub shift : (kind count : ℕ) (m : Machine) → 1 ≤ length m.stack
      → Codes 1 (shifted (shift_of kind) (word 0 m) count ∷ []) (word_code (shifted (shift_of kind) (word 0 m) count)) m (shifting kind count m)
  pub number_pushed : (n : ℕ) (m : Machine) → length m.stack < m.stack_limit → Places 0 (n ∷ []) m.regs.x m (immediate_row 1 n m)
  pub minus_pushed : (n : ℕ) (m : Machine) → length m.stack < m.stack_limit → Places 0 (minus n ∷ []) m.regs.x m (immediate_row 8 n m)
  pub minus_to_x : (n : ℕ) (m : Machine) → Places 0 [] (minus n) m (immediate_row 9 n m)
  pub field_extracted : (n : ℕ) (m : Machine) → 1 ≤ length m.stack
      → Codes 1 (field (word 0 m) (bits 8 11 n) (field_length n) ∷ []) (word_code (field (word 0 m) (bits 8 11 n) (field_length n))) m (immediate_row 11 n m)
  pub field_deposited : (n : ℕ) (m : Machine) → 2 ≤ length m.stack
      → Codes 2 (with_field (word 1 m) (bits 8 11 n) (field_length n) (word 0 m) ∷ []) (word_code (with_field (word 1 m) (bits 8 11 n) (field_length n) (word 0 m))) m (immediate_row 12 n m)
  pub number_and : (n : ℕ) (m : Machine) → 1 ≤ length m.stack
      → Codes 1 (bit_and (word 0 m) n ∷ []) (word_code (bit_and (word 0 m) n)) m (immediate_row 13 n m)
  pub number_or : (n : ℕ) (m : Machine) → 1 ≤ length m.stack
      → Codes 1 (bit_or (word 0 m) n ∷ []) (word_code (bit_or (word 0 m) n)) m (immediate_row 14 n m)

-- ROOM by its number and by the top word, ADDS, SUBS; SPLT and JOIN
pub record Counts : Type 0 where
  pub room_there : (n : ℕ) (m : Machine) → 1 ≤ n → length m.stack + n ≤ m.stack_limit → count_row 6 n m ≡ Ok m
  pub room_lacking : (n : ℕ) (m : Machine) → 1 ≤ n → m.stack_limit < length m.stack + n → count_row 6 n m ≡ Err StackOverflow
  pub top_room_there : (m : Machine) → 1 ≤ length m.stack → length (without 1 m).stack + word 0 m ≤ m.stack_limit
      → Places 1 [] m.regs.x m (count_row 6 0 m)
  pub top_room_lacking : (m : Machine) → 1 ≤ length m.stack → m.stack_limit < length (without 1 m).stack + word 0 m
      → count_row 6 0 m ≡ Err StackOverflow
  pub zeros_added : (n : ℕ) (m : Machine) → length m.stack + n ≤ m.stack_limit → Places 0 (replicate n 0) m.regs.x m (count_row 7 n m)
  pub words_dropped : (n : ℕ) (m : Machine) → n ≤ length m.stack → Places n [] m.regs.x m (count_row 8 n m)
  pub mode_split : (m : Machine) → m.split ≡ false → immediate_row 0 1 m ≡ Ok (record m { split = true })
  pub mode_joined : (m : Machine) → m.split ≡ true → immediate_row 0 2 m ≡ Ok (record m { split = false })

-- LOAD, LDB, LDD, LDX and LRA, by the place of the operand; LOAD of a word of the code
pub record Loads : Type 0 where
  pub word_loaded : (mode : Mode) (i x : Bool) (place : Place) (w : ℕ) (m : Machine) → operand 1 mode i x m ≡ Ok place
      → read_at place m ≡ Ok w
      → length m.stack < m.stack_limit → Places 0 (w ∷ []) m.regs.x m (memory_row 4 true mode i x m)
  pub word_not_found : (mode : Mode) (i x : Bool) (t : Trap) (m : Machine) → operand 1 mode i x m ≡ Err t
      → memory_row 4 true mode i x m ≡ Err t
  pub word_not_there : (mode : Mode) (i x : Bool) (place : Place) (t : Trap) (m : Machine) → operand 1 mode i x m ≡ Ok place
      → read_at place m ≡ Err t
      → memory_row 4 true mode i x m ≡ Err t
  pub byte_is_loaded : (mode : Mode) (i x : Bool) (place : Place) (b : ℕ) (m : Machine) → byte_operand mode i x m ≡ Ok place
      → byte_read place m ≡ Ok b
      → length m.stack < m.stack_limit → Places 0 (b ∷ []) m.regs.x m (memory_row 13 false mode i x m)
  pub byte_not_found : (mode : Mode) (i x : Bool) (t : Trap) (m : Machine) → byte_operand mode i x m ≡ Err t
      → memory_row 13 false mode i x m ≡ Err t
  pub byte_not_there : (mode : Mode) (i x : Bool) (place : Place) (t : Trap) (m : Machine) → byte_operand mode i x m ≡ Ok place
      → byte_read place m ≡ Err t
      → memory_row 13 false mode i x m ≡ Err t
  pub double_is_loaded : (mode : Mode) (i x : Bool) (place : Place) (high low : ℕ) (m : Machine) → operand 2 mode i x m ≡ Ok place
      → read_at place m ≡ Ok high
      → read_at (moved 1 place) m ≡ Ok low → length m.stack + 2 ≤ m.stack_limit
      → Places 0 (high ∷ low ∷ []) m.regs.x m (memory_row 13 true mode i x m)
  pub double_not_found : (mode : Mode) (i x : Bool) (t : Trap) (m : Machine) → operand 2 mode i x m ≡ Err t
      → memory_row 13 true mode i x m ≡ Err t
  pub high_not_there : (mode : Mode) (i x : Bool) (place : Place) (t : Trap) (m : Machine) → operand 2 mode i x m ≡ Ok place
      → read_at place m ≡ Err t
      → memory_row 13 true mode i x m ≡ Err t
  pub low_not_there : (mode : Mode) (i x : Bool) (place : Place) (high : ℕ) (t : Trap) (m : Machine) → operand 2 mode i x m ≡ Ok place
      → read_at place m ≡ Ok high
      → read_at (moved 1 place) m ≡ Err t → memory_row 13 true mode i x m ≡ Err t
  pub x_loaded : (mode : Mode) (i x : Bool) (place : Place) (w : ℕ) (m : Machine) → operand 1 mode i x m ≡ Ok place → read_at place m ≡ Ok w
      → Places 0 [] w m (memory_row 11 true mode i x m)
  pub x_not_found : (mode : Mode) (i x : Bool) (t : Trap) (m : Machine) → operand 1 mode i x m ≡ Err t
      → memory_row 11 true mode i x m ≡ Err t
  pub x_not_there : (mode : Mode) (i x : Bool) (place : Place) (t : Trap) (m : Machine) → operand 1 mode i x m ≡ Ok place
      → read_at place m ≡ Err t
      → memory_row 11 true mode i x m ≡ Err t
  pub address_pushed : (mode : Mode) (i x : Bool) (place : Place) (m : Machine) → operand 1 mode i x m ≡ Ok place
      → length m.stack < m.stack_limit
      → Places 0 (address place ∷ []) m.regs.x m (memory_row 15 true mode i x m)
  pub address_not_found : (mode : Mode) (i x : Bool) (t : Trap) (m : Machine) → operand 1 mode i x m ≡ Err t
      → memory_row 15 true mode i x m ≡ Err t
  pub code_pushed : (segments : List (List ℕ)) (back : Bool) (d w : ℕ) (m : Machine)
      → code_word segments m.regs.seg (displaced back d m.regs.p) ≡ Some w
      → length m.stack < m.stack_limit → Places 0 (w ∷ []) m.regs.x m (code_loaded segments back d m)
  pub before_pushed : (segments : List (List ℕ)) (offset w : ℕ) (m : Machine) → m.regs.p ≡ offset + 1 → offset < 65535
      → code_word segments m.regs.seg offset ≡ Some w
      → length m.stack < m.stack_limit → Places 0 (w ∷ []) m.regs.x m (code_loaded segments true 1 m)

-- STOR, STB and STD, by the place of the operand
pub record Stores : Type 0 where
  pub word_stored : (mode : Mode) (i x : Bool) (place : Place) (n m : Machine) → 1 ≤ length m.stack → operand 1 mode i x m ≡ Ok place
      → written place (word 0 m) m ≡ Ok n → memory_row 5 true mode i x m ≡ Ok (without 1 n)
  pub word_not_stored : (mode : Mode) (i x : Bool) (place : Place) (t : Trap) (m : Machine) → 1 ≤ length m.stack
      → operand 1 mode i x m ≡ Ok place
      → written place (word 0 m) m ≡ Err t → memory_row 5 true mode i x m ≡ Err t
  pub word_store_not_found : (mode : Mode) (i x : Bool) (t : Trap) (m : Machine) → 1 ≤ length m.stack → operand 1 mode i x m ≡ Err t
      → memory_row 5 true mode i x m ≡ Err t
  pub byte_is_stored : (mode : Mode) (i x : Bool) (place : Place) (n m : Machine) → 1 ≤ length m.stack → byte_operand mode i x m ≡ Ok place
      → byte_written place (word 0 m % 256) m ≡ Ok n → memory_row 14 false mode i x m ≡ Ok (without 1 n)
  pub byte_not_stored : (mode : Mode) (i x : Bool) (place : Place) (t : Trap) (m : Machine) → 1 ≤ length m.stack
      → byte_operand mode i x m ≡ Ok place
      → byte_written place (word 0 m % 256) m ≡ Err t → memory_row 14 false mode i x m ≡ Err t
  pub byte_store_not_found : (mode : Mode) (i x : Bool) (t : Trap) (m : Machine) → 1 ≤ length m.stack
      → byte_operand mode i x m ≡ Err t → memory_row 14 false mode i x m ≡ Err t
  pub double_is_stored : (mode : Mode) (i x : Bool) (place : Place) (v w : ℕ) (m : Machine) → 2 ≤ length m.stack
      → operand 2 mode i x m ≡ Ok place
      → read_at place m ≡ Ok v → read_at (moved 1 place) m ≡ Ok w
      → memory_row 14 true mode i x m ≡ Ok (without 2 (put (moved 1 place) (word 0 m) (put place (word 1 m) m)))
  pub high_not_stored : (mode : Mode) (i x : Bool) (place : Place) (t : Trap) (m : Machine) → 2 ≤ length m.stack
      → operand 2 mode i x m ≡ Ok place
      → read_at place m ≡ Err t → memory_row 14 true mode i x m ≡ Err t
  pub low_not_stored : (mode : Mode) (i x : Bool) (place : Place) (v : ℕ) (t : Trap) (m : Machine) → 2 ≤ length m.stack
      → operand 2 mode i x m ≡ Ok place
      → read_at place m ≡ Ok v → read_at (moved 1 place) m ≡ Err t → memory_row 14 true mode i x m ≡ Err t
  pub double_store_not_found : (mode : Mode) (i x : Bool) (t : Trap) (m : Machine) → 2 ≤ length m.stack → operand 2 mode i x m ≡ Err t
      → memory_row 14 true mode i x m ≡ Err t

-- STOR, STB and STD, by what they change
pub record StoresPut : Type 0 where
  pub word_puts : (mode : Mode) (i x : Bool) (place : Place) (m : Machine) → 1 ≤ length m.stack → operand 1 mode i x m ≡ Ok place
      → Sided place false m
      → address place < length m.stack → Puts 1 (address place) (word 0 m) m (memory_row 5 true mode i x m)
  pub word_puts_far : (mode : Mode) (i x : Bool) (place : Place) (m : Machine) → 1 ≤ length m.stack
      → operand 1 mode i x m ≡ Ok place → Sided place true m
      → address place < length m.extra → PutsFar 1 (address place) (word 0 m) m (memory_row 5 true mode i x m)
  pub byte_puts : (mode : Mode) (i x : Bool) (place : Place) (m : Machine) → 1 ≤ length m.stack → byte_operand mode i x m ≡ Ok place
      → Sided (word_of_byte place) false m → address (word_of_byte place) < length m.stack
      → Puts 1 (address (word_of_byte place)) (with_byte (address place) (word 0 m % 256) (slice_index m.stack (address (word_of_byte place)))) m
      (memory_row 14 false mode i x m)
  pub byte_puts_far : (mode : Mode) (i x : Bool) (place : Place) (m : Machine) → 1 ≤ length m.stack → byte_operand mode i x m ≡ Ok place
      → Sided (word_of_byte place) true m → address (word_of_byte place) < length m.extra
      → PutsFar 1 (address (word_of_byte place)) (with_byte (address place) (word 0 m % 256) (slice_index m.extra (address (word_of_byte place)))) m
      (memory_row 14 false mode i x m)
  pub double_puts : (mode : Mode) (i x far : Bool) (place : Place) (m : Machine) → 2 ≤ length m.stack → operand 2 mode i x m ≡ Ok place
      → Sided place far m → Sided (moved 1 place) far m → address place < length (held far m)
      → address (moved 1 place) < length (held far m)
      → memory_row 14 true mode i x m
      ≡ Ok (without 2 (with_held far (slice_set (slice_set (held far m) (address place) (word 1 m)) (address (moved 1 place)) (word 0 m)) m))

-- what is read and stored at a place: within its words, and past them
pub record PlacesThere : Type 0 where
  pub read_there : (place : Place) (far : Bool) (m : Machine) → Sided place far m → address place < length (held far m)
      → read_at place m ≡ Ok (slice_index (held far m) (address place))
  pub read_past : (place : Place) (far : Bool) (m : Machine) → Sided place far m → length (held far m) ≤ address place
      → read_at place m ≡ Err Bounds
  pub written_there : (place : Place) (far : Bool) (w : ℕ) (m : Machine) → Sided place far m → address place < length (held far m)
      → written place w m ≡ Ok (with_held far (slice_set (held far m) (address place) w) m)
  pub written_past : (place : Place) (far : Bool) (w : ℕ) (m : Machine) → Sided place far m → length (held far m) ≤ address place
      → written place w m ≡ Err Bounds
  pub byte_written_there : (place : Place) (far : Bool) (byte : ℕ) (m : Machine) → Sided (word_of_byte place) far m
      → address (word_of_byte place) < length (held far m)
      → byte_written place byte m
      ≡ Ok (with_held far (slice_set (held far m) (address (word_of_byte place)) (with_byte (address place) byte (slice_index (held far m) (address (word_of_byte place))))) m)
