-- How an operand is found: its place, by mode, indirection and indexing; and how words and bytes are read and stored there.
use Rattle.std.specs.Prelude.{ℕ, ◌+◌, ◌-◌, ◌*◌, ◌/◌, Bool, nat_lt, List, length, slice_index, slice_set, Result, Ok, Err, if◌then◌else◌}
use Rattle.hp_word.specs.declared.endings.Trap.{Trap}
use Rattle.hp_word.specs.declared.endings.Trap.TheVariants.{Bounds}
use Rattle.hp_word.specs.Bytes.{byte_at, with_byte}
use Rattle.hp_instr.specs.declared.instruction.Mode.{Mode}
use Rattle.hp_instr.specs.declared.instruction.Mode.TheVariants.{DbPlus, QPlus, QMinus, SMinus}
use Rattle.hp_session.specs.declared.places.Place.{Place}
use Rattle.hp_session.specs.declared.places.Place.TheVariants.{Db, Stack}
use Rattle.hp_session.specs.State.{Machine, Outcome, then_with, wrapped}

-- the place that a mode names before indirection and indexing; S is the address of the last word
unfoldable pub base : Mode → Machine → Place
base (DbPlus d) m = Db d
base (QPlus d) m = Stack (wrapped (m.regs.q + d))
base (QMinus d) m = Stack (wrapped (m.regs.q + 65536 - d))
base (SMinus d) m = Stack (wrapped (length m.stack + 65535 - d))

-- the words among which a place is: in split mode a DB-relative one is in the extra segment
unfoldable pub area : Place → Machine → List ℕ
area (Db a) m = if m.split then m.extra else m.stack
area (Stack a) m = m.stack

-- the address of a place among these words
abbrev pub address : Place → ℕ
address (Db a) = a
address (Stack a) = a

-- the word at a place
unfoldable pub read_at : Place → Machine → Result ℕ Trap
read_at place m = if nat_lt (address place) (length (area place m)) then Ok (slice_index (area place m) (address place)) else Err Bounds

-- the place so many words, or bytes, further on
unfoldable pub moved : ℕ → Place → Place
moved by (Db a) = Db (wrapped (a + by))
moved by (Stack a) = Stack (wrapped (a + by))

-- what indexing adds: X, or twice X where the operand is a double; nothing where the instruction is not indexed
abbrev pub index : ℕ → Bool → Machine → ℕ
index size x m = if x then size * m.regs.x else 0

-- the place of an operand of one or two words: the mode's, or with indirection the DB-relative one that the cell there gives;
-- then X is added
unfoldable pub operand : ℕ → Mode → Bool → Bool → Machine → Result Place Trap
operand size mode i x m =
    if i then then_with (read_at (base mode m) m) (λ cell. Ok (moved (index size x m) (Db cell)))
    else Ok (moved (index size x m) (base mode m))

-- the byte place of a place's left byte: twice its address
unfoldable pub first_byte : Place → Place
first_byte (Db a) = Db (wrapped (2 * a))
first_byte (Stack a) = Stack (wrapped (2 * a))

-- the byte place of an operand: the mode's first byte, or with indirection the DB-relative one that the cell there gives; then X
unfoldable pub byte_operand : Mode → Bool → Bool → Machine → Result Place Trap
byte_operand mode i x m =
    if i then then_with (read_at (base mode m) m) (λ cell. Ok (moved (index 1 x m) (Db cell)))
    else Ok (moved (index 1 x m) (first_byte (base mode m)))

-- the place of the word that holds the byte at a byte place
unfoldable pub word_of_byte : Place → Place
word_of_byte (Db b) = Db (b / 2)
word_of_byte (Stack b) = Stack (b / 2)

-- the byte at a byte place
unfoldable pub byte_read : Place → Machine → Result ℕ Trap
byte_read place m = then_with (read_at (word_of_byte place) m) (λ w. Ok (byte_at (address place) w))

-- the machine with w at a place
unfoldable pub put : Place → ℕ → Machine → Machine
put (Db a) w m = if m.split then record m { extra = slice_set m.extra a w } else record m { stack = slice_set m.stack a w }
put (Stack a) w m = record m { stack = slice_set m.stack a w }

-- w is stored at a place
unfoldable pub written : Place → ℕ → Machine → Outcome
written place w m = if nat_lt (address place) (length (area place m)) then Ok (put place w m) else Err Bounds

-- a byte is stored at a byte place; the other byte of its word stays
unfoldable pub byte_written : Place → ℕ → Machine → Outcome
byte_written place byte m =
    then_with (read_at (word_of_byte place) m) (λ w. written (word_of_byte place) (with_byte (address place) byte w) m)
