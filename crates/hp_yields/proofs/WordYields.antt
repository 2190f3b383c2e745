-- Shifts, immediate numbers, fields, the change of mode, and the rows that count, told of the stack. Each stands under its code.
use Rattle.std.proofs.Common.{◌≡◌, ℕ, ◌+◌, ◌<◌, ◌≤◌, true, false, [], ◌∷◌, length, Ok, Err, refl, ◌∙◌, arith}
use Rattle.std.specs.Prelude.{◌==◌, nat_le, bit_and, bit_or, replicate}
use Rattle.std.proofs.lemmas.Bool.{le-leb}
use Rattle.std.proofs.lemmas.Bool.Decides.{nat_tests}
use Rattle.std.proofs.lemmas.List.{length-replicate}
use Rattle.spl_follow.specs.hp_word.declared.endings.Trap.TheVariants.{StackOverflow}
use Rattle.spl_follow.specs.hp_word.Bits.{shifted, field, with_field}
use Rattle.spl_follow.specs.hp_word.Words.{word_code}
use Rattle.spl_follow.specs.hp_instr.Bits.{bits}
use Rattle.spl_follow.specs.hp_instr.Fields.{field_length}
use Rattle.spl_follow.specs.hp_session.State.{Machine, Outcome, word, without}
use Rattle.spl_follow.specs.hp_session.Results.{coded}
use Rattle.spl_follow.specs.hp_word_rows.WordRows.{shift_of, shifting, minus, field_taken, field_put, bits_with, immediate_row, having_room, roomy, count_row}
use Rattle.hp_yields.specs.Rows.{Codes, Places}
use Rattle.hp_yields.proofs.YieldForms.{taken, codes, codes_of, places_of, places_none, places_deleted, pushes, pushes_all, drops}

-- a word for a word, and its code
coded_codes : (n w : ℕ) (m : Machine) (o : Outcome) → o ≡ Ok (coded n w m) → Codes n (w ∷ []) (word_code w) m o
coded_codes n w m o e = codes_of n (w ∷ []) (word_code w) m o _ e (codes n (w ∷ []) m (word_code w))

-- ---- shifts

pub shift : (kind count : ℕ) (m : Machine) → 1 ≤ length m.stack
    → Codes 1 (shifted (shift_of kind) (word 0 m) count ∷ []) (word_code (shifted (shift_of kind) (word 0 m) count)) m (shifting kind count m)
unfolding shifting
shift kind count m enough = coded_codes 1 (shifted (shift_of kind) (word 0 m) count) m _ (taken 1 m _ enough)

-- ---- immediate numbers

pub number_pushed : (n : ℕ) (m : Machine) → length m.stack < m.stack_limit → Places 0 (n ∷ []) m.regs.x m (immediate_row 1 n m)
unfolding immediate_row
number_pushed n m room = pushes n m room

pub minus_pushed : (n : ℕ) (m : Machine) → length m.stack < m.stack_limit → Places 0 (minus n ∷ []) m.regs.x m (immediate_row 8 n m)
unfolding immediate_row
minus_pushed n m room = pushes (minus n) m room

pub minus_to_x : (n : ℕ) (m : Machine) → Places 0 [] (minus n) m (immediate_row 9 n m)
unfolding immediate_row
minus_to_x n m = places_none (minus n) m

pub field_extracted : (n : ℕ) (m : Machine) → 1 ≤ length m.stack
    → Codes 1 (field (word 0 m) (bits 8 11 n) (field_length n) ∷ []) (word_code (field (word 0 m) (bits 8 11 n) (field_length n))) m (immediate_row 11 n m)
unfolding immediate_row field_taken
field_extracted n m enough = coded_codes 1 (field (word 0 m) (bits 8 11 n) (field_length n)) m _ (taken 1 m _ enough)

pub field_deposited : (n : ℕ) (m : Machine) → 2 ≤ length m.stack
    → Codes 2 (with_field (word 1 m) (bits 8 11 n) (field_length n) (word 0 m) ∷ []) (word_code (with_field (word 1 m) (bits 8 11 n) (field_length n) (word 0 m))) m (immediate_row 12 n m)
unfolding immediate_row field_put
field_deposited n m enough = coded_codes 2 (with_field (word 1 m) (bits 8 11 n) (field_length n) (word 0 m)) m _ (taken 2 m _ enough)

pub number_and : (n : ℕ) (m : Machine) → 1 ≤ length m.stack
    → Codes 1 (bit_and (word 0 m) n ∷ []) (word_code (bit_and (word 0 m) n)) m (immediate_row 13 n m)
unfolding immediate_row bits_with
number_and n m enough = coded_codes 1 (bit_and (word 0 m) n) m _ (taken 1 m _ enough)

pub number_or : (n : ℕ) (m : Machine) → 1 ≤ length m.stack
    → Codes 1 (bit_or (word 0 m) n ∷ []) (word_code (bit_or (word 0 m) n)) m (immediate_row 14 n m)
unfolding immediate_row bits_with
number_or n m enough = coded_codes 1 (bit_or (word 0 m) n) m _ (taken 1 m _ enough)

-- ---- modes

pub mode_split : (m : Machine) → m.split ≡ false → immediate_row 0 1 m ≡ Ok (record m { split = true })
unfolding immediate_row
mode_split m whole = rw whole refl

pub mode_joined : (m : Machine) → m.split ≡ true → immediate_row 0 2 m ≡ Ok (record m { split = false })
unfolding immediate_row
mode_joined m split = rw split refl

-- ---- room and counts

-- ROOM by its number, or by the word on top
pub room_there : (n : ℕ) (m : Machine) → 1 ≤ n → length m.stack + n ≤ m.stack_limit → count_row 6 n m ≡ Ok m
unfolding count_row roomy
room_there n m some room =
    let other : (n == 0) ≡ false = grind (arith, nat_tests, some) in
    rw (other, le-leb (length m.stack + n) m.stack_limit room) refl

pub room_lacking : (n : ℕ) (m : Machine) → 1 ≤ n → m.stack_limit < length m.stack + n → count_row 6 n m ≡ Err StackOverflow
unfolding count_row roomy
room_lacking n m some full =
    let other : (n == 0) ≡ false = grind (arith, nat_tests, some) in
    let no_room : nat_le (length m.stack + n) m.stack_limit ≡ false = grind (arith, nat_tests, full) in
    rw (other, no_room) refl

having_there : (n : ℕ) (m : Machine) → length m.stack + n ≤ m.stack_limit → having_room n m ≡ Ok m
having_there n m room = rw (le-leb (length m.stack + n) m.stack_limit room) refl

having_lacking : (n : ℕ) (m : Machine) → m.stack_limit < length m.stack + n → having_room n m ≡ Err StackOverflow
having_lacking n m full = let no_room : nat_le (length m.stack + n) m.stack_limit ≡ false = grind (arith, nat_tests, full) in rw no_room refl

pub top_room_there : (m : Machine) → 1 ≤ length m.stack → length (without 1 m).stack + word 0 m ≤ m.stack_limit
    → Places 1 [] m.regs.x m (count_row 6 0 m)
unfolding count_row roomy
top_room_there m enough room =
    places_of 1 [] m.regs.x m _ _ (taken 1 m (having_room (word 0 m) (without 1 m)) enough ∙ having_there (word 0 m) (without 1 m) room) (places_deleted 1 m.regs.x m)

pub top_room_lacking : (m : Machine) → 1 ≤ length m.stack → m.stack_limit < length (without 1 m).stack + word 0 m
    → count_row 6 0 m ≡ Err StackOverflow
unfolding count_row roomy
top_room_lacking m enough full = taken 1 m (having_room (word 0 m) (without 1 m)) enough ∙ having_lacking (word 0 m) (without 1 m) full

pub zeros_added : (n : ℕ) (m : Machine) → length m.stack + n ≤ m.stack_limit → Places 0 (replicate n 0) m.regs.x m (count_row 7 n m)
unfolding count_row
zeros_added n m room = let e = length-replicate {A = ℕ} n 0 in pushes_all (replicate n 0) m (omega (arith, e, room))

pub words_dropped : (n : ℕ) (m : Machine) → n ≤ length m.stack → Places n [] m.regs.x m (count_row 8 n m)
unfolding count_row
words_dropped n m enough = drops n m enough
