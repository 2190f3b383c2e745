-- Loads and stores, told of the place of their operand. A load pushes what is there; a store puts the top word or words there and deletes them.
use Rattle.std.proofs.Common.{◌≡◌, ℕ, ◌+◌, ◌-◌, ◌<◌, ◌≤◌, Bool, true, false, List, [], ◌∷◌, length, take, Some, Ok, Err, refl, ap, ◌∙◌, arith}
use Rattle.std.specs.Prelude.{◌%◌, nat_lt, slice_index, slice_set, if◌then◌else◌}
use Rattle.std.proofs.lemmas.Bool.{lt-ltb, cond-true, cond-false}
use Rattle.std.proofs.lemmas.Bool.Decides.{nat_tests}
use Rattle.std.proofs.lemmas.List.{length-set}
use Rattle.spl_follow.specs.hp_word.declared.endings.Trap.{Trap}
use Rattle.spl_follow.specs.hp_word.declared.endings.Trap.TheVariants.{Bounds}
use Rattle.spl_follow.specs.hp_word.Bytes.{with_byte}
use Rattle.spl_follow.specs.hp_instr.declared.instruction.Mode.{Mode}
use Rattle.spl_follow.specs.hp_program.Programs.{code_word}
use Rattle.spl_follow.specs.hp_session.declared.places.Place.{Place}
use Rattle.spl_follow.specs.hp_session.declared.places.Place.TheVariants.{Db, Stack}
use Rattle.spl_follow.specs.hp_session.State.{Machine, Outcome, then_with, word, without, pushing, pushing_all, with_x, displaced}
use Rattle.spl_follow.specs.hp_session.Places.{address, area, read_at, moved, operand, byte_operand, word_of_byte, byte_read, put, written, byte_written}
use Rattle.spl_follow.specs.hp_memory_rows.MemoryRows.{loaded, stored, index_loaded, byte_loaded, byte_stored, double_loaded, double_stored, address_loaded, memory_row, present, code_read, code_loaded}
use Rattle.spl_follow.specs.Yielding.{Puts, PutsFar}
use Rattle.hp_yields.specs.Rows.{Places, Sided, held, with_held}
use Rattle.hp_yields.proofs.YieldForms.{taken, found, lost, places_of, places_none, pushes, pushes_all}

-- ---- loads

pub word_loaded : (mode : Mode) (i x : Bool) (place : Place) (w : ℕ) (m : Machine) → operand 1 mode i x m ≡ Ok place
    → read_at place m ≡ Ok w
    → length m.stack < m.stack_limit → Places 0 (w ∷ []) m.regs.x m (memory_row 4 true mode i x m)
unfolding memory_row loaded
word_loaded mode i x place w m at is room =
    places_of 0 (w ∷ []) m.regs.x m _ _
    (found (operand 1 mode i x m) place (λ place. then_with (read_at place m) (λ w. pushing w m)) at ∙ found (read_at place m) w (λ w. pushing w m) is)
    (pushes w m room)

pub byte_is_loaded : (mode : Mode) (i x : Bool) (place : Place) (b : ℕ) (m : Machine) → byte_operand mode i x m ≡ Ok place
    → byte_read place m ≡ Ok b
    → length m.stack < m.stack_limit → Places 0 (b ∷ []) m.regs.x m (memory_row 13 false mode i x m)
unfolding memory_row byte_loaded
byte_is_loaded mode i x place b m at is room =
    places_of 0 (b ∷ []) m.regs.x m _ _
    (found (byte_operand mode i x m) place (λ place. then_with (byte_read place m) (λ b. pushing b m)) at ∙ found (byte_read place m) b (λ b. pushing b m) is)
    (pushes b m room)

pub double_is_loaded : (mode : Mode) (i x : Bool) (place : Place) (high low : ℕ) (m : Machine) → operand 2 mode i x m ≡ Ok place
    → read_at place m ≡ Ok high
    → read_at (moved 1 place) m ≡ Ok low → length m.stack + 2 ≤ m.stack_limit
    → Places 0 (high ∷ low ∷ []) m.regs.x m (memory_row 13 true mode i x m)
unfolding memory_row double_loaded
double_is_loaded mode i x place high low m at first second room =
    places_of 0 (high ∷ low ∷ []) m.regs.x m _ _
    (found (operand 2 mode i x m) place (λ place. then_with (read_at place m) (λ high. then_with (read_at (moved 1 place) m) (λ low. pushing_all (high ∷ low ∷ []) m))) at
    ∙ found (read_at place m) high (λ high. then_with (read_at (moved 1 place) m) (λ low. pushing_all (high ∷ low ∷ []) m)) first
    ∙ found (read_at (moved 1 place) m) low (λ low. pushing_all (high ∷ low ∷ []) m) second)
    (pushes_all (high ∷ low ∷ []) m room)

-- LDX
pub x_loaded : (mode : Mode) (i x : Bool) (place : Place) (w : ℕ) (m : Machine) → operand 1 mode i x m ≡ Ok place → read_at place m ≡ Ok w
    → Places 0 [] w m (memory_row 11 true mode i x m)
unfolding memory_row index_loaded
x_loaded mode i x place w m at is =
    places_of 0 [] w m _ _
    (found (operand 1 mode i x m) place (λ place. then_with (read_at place m) (λ w. Ok (with_x w m))) at ∙ found (read_at place m) w (λ w. Ok (with_x w m)) is)
    (places_none w m)

-- LRA
pub address_pushed : (mode : Mode) (i x : Bool) (place : Place) (m : Machine) → operand 1 mode i x m ≡ Ok place
    → length m.stack < m.stack_limit
    → Places 0 (address place ∷ []) m.regs.x m (memory_row 15 true mode i x m)
unfolding memory_row address_loaded
address_pushed mode i x place m at room =
    places_of 0 (address place ∷ []) m.regs.x m _ _ (found (operand 1 mode i x m) place (λ place. pushing (address place) m) at) (pushes (address place) m room)

-- their traps: a cell that is not there, and an operand that is not
pub word_not_found : (mode : Mode) (i x : Bool) (t : Trap) (m : Machine) → operand 1 mode i x m ≡ Err t
    → memory_row 4 true mode i x m ≡ Err t
unfolding memory_row loaded
word_not_found mode i x t m is = lost (operand 1 mode i x m) t _ is

pub word_not_there : (mode : Mode) (i x : Bool) (place : Place) (t : Trap) (m : Machine) → operand 1 mode i x m ≡ Ok place
    → read_at place m ≡ Err t
    → memory_row 4 true mode i x m ≡ Err t
unfolding memory_row loaded
word_not_there mode i x place t m at is =
    found (operand 1 mode i x m) place (λ place. then_with (read_at place m) (λ w. pushing w m)) at ∙ lost (read_at place m) t _ is

pub byte_not_found : (mode : Mode) (i x : Bool) (t : Trap) (m : Machine) → byte_operand mode i x m ≡ Err t
    → memory_row 13 false mode i x m ≡ Err t
unfolding memory_row byte_loaded
byte_not_found mode i x t m is = lost (byte_operand mode i x m) t _ is

pub byte_not_there : (mode : Mode) (i x : Bool) (place : Place) (t : Trap) (m : Machine) → byte_operand mode i x m ≡ Ok place
    → byte_read place m ≡ Err t
    → memory_row 13 false mode i x m ≡ Err t
unfolding memory_row byte_loaded
byte_not_there mode i x place t m at is =
    found (byte_operand mode i x m) place (λ place. then_with (byte_read place m) (λ b. pushing b m)) at ∙ lost (byte_read place m) t _ is

pub double_not_found : (mode : Mode) (i x : Bool) (t : Trap) (m : Machine) → operand 2 mode i x m ≡ Err t
    → memory_row 13 true mode i x m ≡ Err t
unfolding memory_row double_loaded
double_not_found mode i x t m is = lost (operand 2 mode i x m) t _ is

pub high_not_there : (mode : Mode) (i x : Bool) (place : Place) (t : Trap) (m : Machine) → operand 2 mode i x m ≡ Ok place
    → read_at place m ≡ Err t
    → memory_row 13 true mode i x m ≡ Err t
unfolding memory_row double_loaded
high_not_there mode i x place t m at is =
    found (operand 2 mode i x m) place (λ place. then_with (read_at place m) (λ high. then_with (read_at (moved 1 place) m) (λ low. pushing_all (high ∷ low ∷ []) m))) at
    ∙ lost (read_at place m) t _ is

pub low_not_there : (mode : Mode) (i x : Bool) (place : Place) (high : ℕ) (t : Trap) (m : Machine) → operand 2 mode i x m ≡ Ok place
    → read_at place m ≡ Ok high
    → read_at (moved 1 place) m ≡ Err t → memory_row 13 true mode i x m ≡ Err t
unfolding memory_row double_loaded
low_not_there mode i x place high t m at first is =
    found (operand 2 mode i x m) place (λ place. then_with (read_at place m) (λ high. then_with (read_at (moved 1 place) m) (λ low. pushing_all (high ∷ low ∷ []) m))) at
    ∙ found (read_at place m) high (λ high. then_with (read_at (moved 1 place) m) (λ low. pushing_all (high ∷ low ∷ []) m)) first
    ∙ lost (read_at (moved 1 place) m) t _ is

pub x_not_found : (mode : Mode) (i x : Bool) (t : Trap) (m : Machine) → operand 1 mode i x m ≡ Err t → memory_row 11 true mode i x m ≡ Err t
unfolding memory_row index_loaded
x_not_found mode i x t m is = lost (operand 1 mode i x m) t _ is

pub x_not_there : (mode : Mode) (i x : Bool) (place : Place) (t : Trap) (m : Machine) → operand 1 mode i x m ≡ Ok place
    → read_at place m ≡ Err t
    → memory_row 11 true mode i x m ≡ Err t
unfolding memory_row index_loaded
x_not_there mode i x place t m at is =
    found (operand 1 mode i x m) place (λ place. then_with (read_at place m) (λ w. Ok (with_x w m))) at ∙ lost (read_at place m) t _ is

pub address_not_found : (mode : Mode) (i x : Bool) (t : Trap) (m : Machine) → operand 1 mode i x m ≡ Err t
    → memory_row 15 true mode i x m ≡ Err t
unfolding memory_row address_loaded
address_not_found mode i x t m is = lost (operand 1 mode i x m) t _ is

-- ---- places

-- the words among which a place is
held_area : (place : Place) (far : Bool) (m : Machine) → Sided place far m → area place m ≡ held far m
unfolding area
held_area (Db a) true m side = cond-true m.split m.extra m.stack side
held_area (Db a) false m side = cond-false m.split m.extra m.stack side
held_area (Stack a) true m side = cc
held_area (Stack a) false m side = refl

-- a word put there
put_there : (place : Place) (far : Bool) (w : ℕ) (m : Machine) → Sided place far m
    → put place w m ≡ with_held far (slice_set (held far m) (address place) w) m
unfolding put
put_there (Db a) true w m side = cond-true m.split (record m { extra = slice_set m.extra a w }) (record m { stack = slice_set m.stack a w }) side
put_there (Db a) false w m side = cond-false m.split (record m { extra = slice_set m.extra a w }) (record m { stack = slice_set m.stack a w }) side
put_there (Stack a) true w m side = cc
put_there (Stack a) false w m side = refl

-- a place within its words is read
pub read_there : (place : Place) (far : Bool) (m : Machine) → Sided place far m → address place < length (held far m)
    → read_at place m ≡ Ok (slice_index (held far m) (address place))
unfolding read_at
read_there place far m side less =
    let e = held_area place far m side in
    ap (λ (xs : List ℕ). if nat_lt (address place) (length xs) then Ok (slice_index xs (address place)) else Err Bounds) e
    ∙ cond-true (nat_lt (address place) (length (held far m))) _ _ (lt-ltb (address place) (length (held far m)) less)

pub read_past : (place : Place) (far : Bool) (m : Machine) → Sided place far m → length (held far m) ≤ address place
    → read_at place m ≡ Err Bounds
unfolding read_at
read_past place far m side past =
    let e = held_area place far m side in
    let out : nat_lt (address place) (length (held far m)) ≡ false = grind (arith, nat_tests, past) in
    ap (λ (xs : List ℕ). if nat_lt (address place) (length xs) then Ok (slice_index xs (address place)) else Err Bounds) e
    ∙ cond-false (nat_lt (address place) (length (held far m))) _ _ out

-- a store within its words changes the one
pub written_there : (place : Place) (far : Bool) (w : ℕ) (m : Machine) → Sided place far m → address place < length (held far m)
    → written place w m ≡ Ok (with_held far (slice_set (held far m) (address place) w) m)
unfolding written
written_there place far w m side less =
    let e = held_area place far m side in
    ap (λ (xs : List ℕ). if nat_lt (address place) (length xs) then Ok (put place w m) else Err Bounds) e
    ∙ cond-true (nat_lt (address place) (length (held far m))) (Ok (put place w m)) (Err Bounds) (lt-ltb (address place) (length (held far m)) less)
    ∙ ap (λ (n : Machine). let left : Outcome = Ok n in left) (put_there place far w m side)

pub written_past : (place : Place) (far : Bool) (w : ℕ) (m : Machine) → Sided place far m → length (held far m) ≤ address place
    → written place w m ≡ Err Bounds
unfolding written
written_past place far w m side past =
    let e = held_area place far m side in
    let out : nat_lt (address place) (length (held far m)) ≡ false = grind (arith, nat_tests, past) in
    ap (λ (xs : List ℕ). if nat_lt (address place) (length xs) then Ok (put place w m) else Err Bounds) e
    ∙ cond-false (nat_lt (address place) (length (held far m))) (Ok (put place w m)) (Err Bounds) out

-- ---- stores

pub word_stored : (mode : Mode) (i x : Bool) (place : Place) (n m : Machine) → 1 ≤ length m.stack → operand 1 mode i x m ≡ Ok place
    → written place (word 0 m) m ≡ Ok n → memory_row 5 true mode i x m ≡ Ok (without 1 n)
unfolding memory_row stored
word_stored mode i x place n m enough at is =
    taken 1 m _ enough
    ∙ found (operand 1 mode i x m) place (λ place. then_with (written place (word 0 m) m) (λ n. Ok (without 1 n))) at
    ∙ found (written place (word 0 m) m) n (λ n. Ok (without 1 n)) is

pub word_not_stored : (mode : Mode) (i x : Bool) (place : Place) (t : Trap) (m : Machine) → 1 ≤ length m.stack
    → operand 1 mode i x m ≡ Ok place
    → written place (word 0 m) m ≡ Err t → memory_row 5 true mode i x m ≡ Err t
unfolding memory_row stored
word_not_stored mode i x place t m enough at is =
    taken 1 m _ enough
    ∙ found (operand 1 mode i x m) place (λ place. then_with (written place (word 0 m) m) (λ n. Ok (without 1 n))) at
    ∙ lost (written place (word 0 m) m) t _ is

pub word_store_not_found : (mode : Mode) (i x : Bool) (t : Trap) (m : Machine) → 1 ≤ length m.stack → operand 1 mode i x m ≡ Err t
    → memory_row 5 true mode i x m ≡ Err t
unfolding memory_row stored
word_store_not_found mode i x t m enough is = taken 1 m _ enough ∙ lost (operand 1 mode i x m) t _ is

pub byte_is_stored : (mode : Mode) (i x : Bool) (place : Place) (n m : Machine) → 1 ≤ length m.stack → byte_operand mode i x m ≡ Ok place
    → byte_written place (word 0 m % 256) m ≡ Ok n → memory_row 14 false mode i x m ≡ Ok (without 1 n)
unfolding memory_row byte_stored
byte_is_stored mode i x place n m enough at is =
    taken 1 m _ enough
    ∙ found (byte_operand mode i x m) place (λ place. then_with (byte_written place (word 0 m % 256) m) (λ n. Ok (without 1 n))) at
    ∙ found (byte_written place (word 0 m % 256) m) n (λ n. Ok (without 1 n)) is

pub byte_not_stored : (mode : Mode) (i x : Bool) (place : Place) (t : Trap) (m : Machine) → 1 ≤ length m.stack
    → byte_operand mode i x m ≡ Ok place
    → byte_written place (word 0 m % 256) m ≡ Err t → memory_row 14 false mode i x m ≡ Err t
unfolding memory_row byte_stored
byte_not_stored mode i x place t m enough at is =
    taken 1 m _ enough
    ∙ found (byte_operand mode i x m) place (λ place. then_with (byte_written place (word 0 m % 256) m) (λ n. Ok (without 1 n))) at
    ∙ lost (byte_written place (word 0 m % 256) m) t _ is

pub byte_store_not_found : (mode : Mode) (i x : Bool) (t : Trap) (m : Machine) → 1 ≤ length m.stack
    → byte_operand mode i x m ≡ Err t → memory_row 14 false mode i x m ≡ Err t
unfolding memory_row byte_stored
byte_store_not_found mode i x t m enough is = taken 1 m _ enough ∙ lost (byte_operand mode i x m) t _ is

-- a byte within its words: the other byte of its word stays
pub byte_written_there : (place : Place) (far : Bool) (byte : ℕ) (m : Machine) → Sided (word_of_byte place) far m
    → address (word_of_byte place) < length (held far m)
    → byte_written place byte m
    ≡ Ok (with_held far (slice_set (held far m) (address (word_of_byte place)) (with_byte (address place) byte (slice_index (held far m) (address (word_of_byte place))))) m)
unfolding byte_written
byte_written_there place far byte m side less =
    found (read_at (word_of_byte place) m) (slice_index (held far m) (address (word_of_byte place))) (λ w. written (word_of_byte place) (with_byte (address place) byte w) m)
    (read_there (word_of_byte place) far m side less)
    ∙ written_there (word_of_byte place) far _ m side less

pub double_is_stored : (mode : Mode) (i x : Bool) (place : Place) (v w : ℕ) (m : Machine) → 2 ≤ length m.stack
    → operand 2 mode i x m ≡ Ok place
    → read_at place m ≡ Ok v → read_at (moved 1 place) m ≡ Ok w
    → memory_row 14 true mode i x m ≡ Ok (without 2 (put (moved 1 place) (word 0 m) (put place (word 1 m) m)))
unfolding memory_row double_stored
double_is_stored mode i x place v w m enough at first second =
    taken 2 m _ enough
    ∙ found (operand 2 mode i x m) place (λ place. then_with (read_at place m) (λ _. then_with (read_at (moved 1 place) m) (λ _.
    Ok (without 2 (put (moved 1 place) (word 0 m) (put place (word 1 m) m)))))) at
    ∙ found (read_at place m) v (λ _. then_with (read_at (moved 1 place) m) (λ _. Ok (without 2 (put (moved 1 place) (word 0 m) (put place (word 1 m) m))))) first
    ∙ found (read_at (moved 1 place) m) w (λ _. Ok (without 2 (put (moved 1 place) (word 0 m) (put place (word 1 m) m)))) second

pub high_not_stored : (mode : Mode) (i x : Bool) (place : Place) (t : Trap) (m : Machine) → 2 ≤ length m.stack
    → operand 2 mode i x m ≡ Ok place
    → read_at place m ≡ Err t → memory_row 14 true mode i x m ≡ Err t
unfolding memory_row double_stored
high_not_stored mode i x place t m enough at is =
    taken 2 m _ enough
    ∙ found (operand 2 mode i x m) place (λ place. then_with (read_at place m) (λ _. then_with (read_at (moved 1 place) m) (λ _.
    Ok (without 2 (put (moved 1 place) (word 0 m) (put place (word 1 m) m)))))) at
    ∙ lost (read_at place m) t _ is

pub low_not_stored : (mode : Mode) (i x : Bool) (place : Place) (v : ℕ) (t : Trap) (m : Machine) → 2 ≤ length m.stack
    → operand 2 mode i x m ≡ Ok place
    → read_at place m ≡ Ok v → read_at (moved 1 place) m ≡ Err t → memory_row 14 true mode i x m ≡ Err t
unfolding memory_row double_stored
low_not_stored mode i x place v t m enough at first is =
    taken 2 m _ enough
    ∙ found (operand 2 mode i x m) place (λ place. then_with (read_at place m) (λ _. then_with (read_at (moved 1 place) m) (λ _.
    Ok (without 2 (put (moved 1 place) (word 0 m) (put place (word 1 m) m)))))) at
    ∙ found (read_at place m) v (λ _. then_with (read_at (moved 1 place) m) (λ _. Ok (without 2 (put (moved 1 place) (word 0 m) (put place (word 1 m) m))))) first
    ∙ lost (read_at (moved 1 place) m) t _ is

pub double_store_not_found : (mode : Mode) (i x : Bool) (t : Trap) (m : Machine) → 2 ≤ length m.stack → operand 2 mode i x m ≡ Err t
    → memory_row 14 true mode i x m ≡ Err t
unfolding memory_row double_stored
double_store_not_found mode i x t m enough is = taken 2 m _ enough ∙ lost (operand 2 mode i x m) t _ is

-- ---- stores, as what is put

-- one word of the stack, or of the extra segment, is another, and n are deleted
puts_of : (n a v : ℕ) (m : Machine) (o : Outcome) → o ≡ Ok (without n (record m { stack = slice_set m.stack a v })) → Puts n a v m o
puts_of n a v m o is = record {
  stores = record {
    left = without n (record m { stack = slice_set m.stack a v });
    is = is;
    words = ap (λ (k : ℕ). take (k - n) (slice_set m.stack a v)) (length-set m.stack a v);
    same = refl;
  };
  same_code = refl;
}

puts_far_of : (n a v : ℕ) (m : Machine) (o : Outcome) → o ≡ Ok (without n (record m { extra = slice_set m.extra a v })) → PutsFar n a v m o
puts_far_of n a v m o is = record {
  stores = record { left = without n (record m { extra = slice_set m.extra a v }); is = is; words = refl; same = refl };
  same_code = refl;
}

pub word_puts : (mode : Mode) (i x : Bool) (place : Place) (m : Machine) → 1 ≤ length m.stack → operand 1 mode i x m ≡ Ok place
    → Sided place false m
    → address place < length m.stack → Puts 1 (address place) (word 0 m) m (memory_row 5 true mode i x m)
word_puts mode i x place m enough at side less =
    puts_of 1 (address place) (word 0 m) m _
    (word_stored mode i x place (with_held false (slice_set m.stack (address place) (word 0 m)) m) m enough at (written_there place false (word 0 m) m side less))

pub word_puts_far : (mode : Mode) (i x : Bool) (place : Place) (m : Machine) → 1 ≤ length m.stack → operand 1 mode i x m ≡ Ok place
    → Sided place true m
    → address place < length m.extra → PutsFar 1 (address place) (word 0 m) m (memory_row 5 true mode i x m)
word_puts_far mode i x place m enough at side less =
    puts_far_of 1 (address place) (word 0 m) m _
    (word_stored mode i x place (with_held true (slice_set m.extra (address place) (word 0 m)) m) m enough at (written_there place true (word 0 m) m side less))

-- of a byte its word, whose other byte stays
pub byte_puts : (mode : Mode) (i x : Bool) (place : Place) (m : Machine) → 1 ≤ length m.stack → byte_operand mode i x m ≡ Ok place
    → Sided (word_of_byte place) false m → address (word_of_byte place) < length m.stack
    → Puts 1 (address (word_of_byte place)) (with_byte (address place) (word 0 m % 256) (slice_index m.stack (address (word_of_byte place)))) m
    (memory_row 14 false mode i x m)
byte_puts mode i x place m enough at side less =
    let v = with_byte (address place) (word 0 m % 256) (slice_index m.stack (address (word_of_byte place))) in
    puts_of 1 (address (word_of_byte place)) v m _
    (byte_is_stored mode i x place (with_held false (slice_set m.stack (address (word_of_byte place)) v) m) m enough at
    (byte_written_there place false (word 0 m % 256) m side less))

pub byte_puts_far : (mode : Mode) (i x : Bool) (place : Place) (m : Machine) → 1 ≤ length m.stack → byte_operand mode i x m ≡ Ok place
    → Sided (word_of_byte place) true m → address (word_of_byte place) < length m.extra
    → PutsFar 1 (address (word_of_byte place)) (with_byte (address place) (word 0 m % 256) (slice_index m.extra (address (word_of_byte place)))) m
    (memory_row 14 false mode i x m)
byte_puts_far mode i x place m enough at side less =
    let v = with_byte (address place) (word 0 m % 256) (slice_index m.extra (address (word_of_byte place))) in
    puts_far_of 1 (address (word_of_byte place)) v m _
    (byte_is_stored mode i x place (with_held true (slice_set m.extra (address (word_of_byte place)) v) m) m enough at
    (byte_written_there place true (word 0 m % 256) m side less))

-- a second word put where one was put before
side_stays : (place : Place) (far : Bool) (ws : List ℕ) (m : Machine) → Sided place far m → Sided place far (with_held far ws m)
side_stays (Db a) true ws m side = side
side_stays (Db a) false ws m side = side
side_stays (Stack a) far ws m side = side

held_again : (far : Bool) (ws vs : List ℕ) (m : Machine) → with_held far vs (with_held far ws m) ≡ with_held far vs m
held_again true ws vs m = refl
held_again false ws vs m = refl

held_back : (far : Bool) (ws : List ℕ) (m : Machine) → held far (with_held far ws m) ≡ ws
held_back true ws m = refl
held_back false ws m = refl

put_twice : (p q : Place) (far : Bool) (v w : ℕ) (m : Machine) → Sided p far m → Sided q far m
    → put q w (put p v m) ≡ with_held far (slice_set (slice_set (held far m) (address p) v) (address q) w) m
put_twice p q far v w m here there =
    let ws = slice_set (held far m) (address p) v in
    ap (λ (n : Machine). put q w n) (put_there p far v m here)
    ∙ put_there q far w (with_held far ws m) (side_stays q far ws m there)
    ∙ ap (λ (xs : List ℕ). with_held far (slice_set xs (address q) w) (with_held far ws m)) (held_back far ws m)
    ∙ held_again far ws (slice_set ws (address q) w) m

pub double_puts : (mode : Mode) (i x far : Bool) (place : Place) (m : Machine) → 2 ≤ length m.stack → operand 2 mode i x m ≡ Ok place
    → Sided place far m → Sided (moved 1 place) far m → address place < length (held far m) → address (moved 1 place) < length (held far m)
    → memory_row 14 true mode i x m
    ≡ Ok (without 2 (with_held far (slice_set (slice_set (held far m) (address place) (word 1 m)) (address (moved 1 place)) (word 0 m)) m))
double_puts mode i x far place m enough at here there first second =
    double_is_stored mode i x place (slice_index (held far m) (address place)) (slice_index (held far m) (address (moved 1 place))) m enough at
    (read_there place far m here first) (read_there (moved 1 place) far m there second)
    ∙ ap (λ (n : Machine). let left : Outcome = Ok (without 2 n) in left) (put_twice place (moved 1 place) far (word 1 m) (word 0 m) m here there)

-- ---- code

-- a word of the code that stands behind another one
pub code_pushed : (segments : List (List ℕ)) (back : Bool) (d w : ℕ) (m : Machine)
    → code_word segments m.regs.seg (displaced back d m.regs.p) ≡ Some w
    → length m.stack < m.stack_limit → Places 0 (w ∷ []) m.regs.x m (code_loaded segments back d m)
unfolding code_loaded code_read
code_pushed segments back d w m is room =
    places_of 0 (w ∷ []) m.regs.x m _ _
    (found (present (code_word segments m.regs.seg (displaced back d m.regs.p))) w (λ w. pushing w m) (ap present is)) (pushes w m room)

-- the word directly before
pub before_pushed : (segments : List (List ℕ)) (offset w : ℕ) (m : Machine) → m.regs.p ≡ offset + 1 → offset < 65535
    → code_word segments m.regs.seg offset ≡ Some w
    → length m.stack < m.stack_limit → Places 0 (w ∷ []) m.regs.x m (code_loaded segments true 1 m)
before_pushed segments offset w m at small is room =
    let e : displaced true 1 m.regs.p ≡ offset = omega (arith, at, small) in
    code_pushed segments true 1 w m (ap (λ (n : ℕ). code_word segments m.regs.seg n) e ∙ is) room
