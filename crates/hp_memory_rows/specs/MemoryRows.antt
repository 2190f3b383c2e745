-- The rows of majors 4 to 15: a place is found, and then a word, a byte or a double is loaded, stored or reckoned with;
-- and the branches.
use Rattle.std.specs.Prelude.{ℕ, ◌+◌, ◌/◌, ◌%◌, ◌==◌, Bool, false, int_lt, int_le, pos, List, [], ◌∷◌, Option, None, Some, Result, Ok, Err, if◌then◌else◌}
use Rattle.hp_word.specs.declared.arithmetic.Arith.{Arith}
use Rattle.hp_word.specs.declared.arithmetic.Code.{Code}
use Rattle.hp_word.specs.declared.arithmetic.Code.TheVariants.{Greater, Less, Equal}
use Rattle.hp_word.specs.declared.endings.Trap.{Trap}
use Rattle.hp_word.specs.declared.endings.Trap.TheVariants.{CodeBounds, IntegerOverflow, Illegal}
use Rattle.hp_word.specs.Words.{signed, added, subtracted, multiplied, words_compared}
use Rattle.hp_instr.specs.declared.instruction.Mode.{Mode}
use Rattle.hp_session.specs.declared.places.Place.{Place}
use Rattle.hp_session.specs.declared.places.Place.TheVariants.{Stack}
use Rattle.hp_program.specs.Programs.{code_word}
use Rattle.hp_session.specs.State.{Machine, Outcome, then_with, word, taking, without, pushing, pushing_all, with_x, with_code, wrapped, displaced, at_place, passed, branching}
use Rattle.hp_session.specs.Results.{settled, keeping_carry}
use Rattle.hp_session.specs.Places.{address, read_at, moved, operand, byte_operand, byte_read, put, written, byte_written}

-- Operands

-- a row that reads the operand's word
abbrev pub reading : ℕ → Mode → Bool → Bool → Machine → (ℕ → Outcome) → Outcome
reading size mode i x m go = then_with (operand size mode i x m) (λ place. then_with (read_at place m) go)

-- LOAD: the operand's word is pushed
unfoldable pub loaded : Mode → Bool → Bool → Machine → Outcome
loaded mode i x m = reading 1 mode i x m (λ w. pushing w m)

-- STOR: A is stored, and then deleted
unfoldable pub stored : Mode → Bool → Bool → Machine → Outcome
stored mode i x m = taking 1 m (then_with (operand 1 mode i x m) (λ place. then_with (written place (word 0 m) m) (λ n. Ok (without 1 n))))

-- CMPM: A against the operand's word; A is deleted
unfoldable pub compared_in_memory : Mode → Bool → Bool → Machine → Outcome
compared_in_memory mode i x m =
    taking 1 m (reading 1 mode i x m (λ w. Ok (with_code (words_compared (word 0 m) w) (without 1 m))))

-- ADDM, SUBM, MPYM: an operation on A and the operand's word; the carry stays
unfoldable pub with_memory : (ℕ → ℕ → Arith) → Mode → Bool → Bool → Machine → Outcome
with_memory operation mode i x m =
    taking 1 m (reading 1 mode i x m (λ w. settled 1 (keeping_carry m (operation (word 0 m) w)) m))

-- an integer result stored at a place: a trap where it is out of range, else the overflow bit is cleared
unfoldable pub settled_at : Place → Arith → Machine → Outcome
settled_at place r m =
    if r.overflow then Err IntegerOverflow
    else then_with (written place r.value m) (λ n. Ok (record n { regs = record n.regs { overflow = false } }))

-- INCM, DECM: the operand's word plus or minus 1, stored in its place, and its code; the carry stays
unfoldable pub in_memory : (ℕ → ℕ → Arith) → Mode → Bool → Bool → Machine → Outcome
in_memory operation mode i x m =
    then_with (operand 1 mode i x m) (λ place. then_with (read_at place m) (λ w.
    then_with (settled_at place (operation w 1) m) (λ n. Ok (with_code (operation w 1).code n))))

-- LDX: X becomes the operand's word
unfoldable pub index_loaded : Mode → Bool → Bool → Machine → Outcome
index_loaded mode i x m = reading 1 mode i x m (λ w. Ok (with_x w m))

-- LDB: the operand's byte is pushed
unfoldable pub byte_loaded : Mode → Bool → Bool → Machine → Outcome
byte_loaded mode i x m = then_with (byte_operand mode i x m) (λ place. then_with (byte_read place m) (λ byte. pushing byte m))

-- STB: A's right byte is stored, and A then deleted
unfoldable pub byte_stored : Mode → Bool → Bool → Machine → Outcome
byte_stored mode i x m =
    taking 1 m (then_with (byte_operand mode i x m) (λ place. then_with (byte_written place (word 0 m % 256) m) (λ n. Ok (without 1 n))))

-- LDD: the operand's word and the next are pushed
unfoldable pub double_loaded : Mode → Bool → Bool → Machine → Outcome
double_loaded mode i x m =
    then_with (operand 2 mode i x m) (λ place. then_with (read_at place m) (λ high.
    then_with (read_at (moved 1 place) m) (λ low. pushing_all (high ∷ low ∷ []) m)))

-- STD: B and A are stored at the operand's word and the next, and then deleted; both must be in bounds
unfoldable pub double_stored : Mode → Bool → Bool → Machine → Outcome
double_stored mode i x m =
    taking 2 m (then_with (operand 2 mode i x m) (λ place.
    then_with (read_at place m) (λ _. then_with (read_at (moved 1 place) m) (λ _.
    Ok (without 2 (put (moved 1 place) (word 0 m) (put place (word 1 m) m)))))))

-- LRA: the operand's address is pushed; it is not tested
unfoldable pub address_loaded : Mode → Bool → Bool → Machine → Outcome
address_loaded mode i x m = then_with (operand 1 mode i x m) (λ place. pushing (address place) m)

-- the row of each major with an operand in memory, by bit 6
unfoldable pub memory_row : ℕ → Bool → Mode → Bool → Bool → Machine → Outcome
memory_row major second mode i x m =
    if major == 4 then loaded mode i x m else  -- LOAD
    if major == 5 then stored mode i x m else  -- STOR
    if major == 6 then compared_in_memory mode i x m else  -- CMPM
    if major == 7 then with_memory added mode i x m else  -- ADDM
    if major == 8 then with_memory subtracted mode i x m else  -- SUBM
    if major == 9 then with_memory multiplied mode i x m else  -- MPYM
    if major == 10 then (if second then in_memory subtracted mode i x m else in_memory added mode i x m) else  -- DECM, INCM
    if major == 11 then index_loaded mode i x m else  -- LDX
    if major == 13 then (if second then double_loaded mode i x m else byte_loaded mode i x m) else  -- LDD, LDB
    if major == 14 then (if second then double_stored mode i x m else byte_stored mode i x m) else  -- STD, STB
    if major == 15 then address_loaded mode i x m else  -- LRA
    Err Illegal

-- Code

-- a word that may be missing
abbrev pub present : Option ℕ → Result ℕ Trap
present None = Err CodeBounds
present (Some w) = Ok w

-- a word of the current segment that is read as data
unfoldable pub code_read : List (List ℕ) → ℕ → Machine → Result ℕ Trap
code_read segments offset m = present (code_word segments m.regs.seg offset)

-- LOAD from code: the word at P plus or minus d is pushed
unfoldable pub code_loaded : List (List ℕ) → Bool → ℕ → Machine → Outcome
code_loaded segments back d m = then_with (code_read segments (displaced back d m.regs.p) m) (λ w. pushing w m)

-- BR: the next step is at P plus or minus d, or with indirection at what the word there, added to its own offset, gives. The
-- target is not tested here
unfoldable pub branched : List (List ℕ) → Bool → Bool → ℕ → Machine → Outcome
branched segments i back d m = by (displaced back d m.regs.p) where
  by : ℕ → Outcome
  by t = if i then then_with (code_read segments t m) (λ w. Ok (at_place (wrapped (t + w)) m)) else Ok (at_place t m)

-- whether a mask names a code: 4 is for CCG, 2 for CCE, 1 for CCL
unfoldable pub is_named : ℕ → Code → Bool
is_named mask Greater = mask / 4 % 2 == 1
is_named mask Equal = mask / 2 % 2 == 1
is_named mask Less = mask % 2 == 1

-- BCC: a branch where the mask names the code
abbrev pub branched_on_code : ℕ → Bool → ℕ → Machine → Outcome
branched_on_code mask back d m = Ok (branching (is_named mask m.regs.code) back d m)

-- Loops: C is the stack address of a variable, B its step, A its limit

-- the variable has not passed the limit: it is at most that, or at least that where the step is negative
unfoldable pub goes_on : ℕ → ℕ → ℕ → Bool
goes_on value step limit =
    if int_lt (signed step) (pos 0) then int_le (signed limit) (signed value) else int_le (signed value) (signed limit)

-- a branch where the loop goes on; else the three words are deleted
unfoldable pub looped : Bool → Bool → ℕ → Machine → Machine
looped on back d m = if on then at_place (displaced back d m.regs.p) m else passed (without 3 m)

-- TBA: the variable is tested
unfoldable pub loop_tested : Bool → ℕ → Machine → Outcome
loop_tested back d m =
    taking 3 m (then_with (read_at (Stack (word 2 m)) m) (λ w. Ok (looped (goes_on w (word 1 m) (word 0 m)) back d m)))

-- MTBA: the step is added to the variable first, and the sum is tested; step and limit are those before the store
unfoldable pub loop_stepped : Bool → ℕ → Machine → Outcome
loop_stepped back d m =
    taking 3 m (then_with (read_at (Stack (word 2 m)) m) (λ w.
    then_with (settled_at (Stack (word 2 m)) (added w (word 1 m)) m) (λ n.
    Ok (looped (goes_on (added w (word 1 m)).value (word 1 m) (word 0 m)) back d n))))
