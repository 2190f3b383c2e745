-- Sequences of calls worked by hand from the rules: pushes, pops, fills, drops, a flush, and refusals at their edges.
use Rattle.std.proofs.Common.{◌≡◌, ℕ, ◌-◌, ◌^◌, true, List, [], ◌∷◌, replicate, refl}
use Rattle.std.specs.declared.result.Result.TheVariants.{Ok, Err}
use Rattle.hp_tos.specs.Seen.{Seen, made}
use Rattle.hp_tos.specs.Calls.{taking, word_at, making_room, filled, pushed, popped, dropped, replaced, flushed}
use Rattle.hp_tos.specs.Steps.{stepped}
use Rattle.hp_tos.specs.References.{db_words, read_of, stack_written, db_written}

-- an empty stack of seven words with an extra segment of two
abbrev empty : Seen
empty = made (replicate 7 0) 7 (50 ∷ 51 ∷ []) 2 0

-- a stack of seven words with these words on it, so many in registers, and so many fills and spills
abbrev with : List ℕ → ℕ → ℕ → ℕ → Seen
with words in_registers fills spills =
    record empty { words = words; in_registers = in_registers; fills = fills; spills = spills }

-- a stack is made with the first words of its room, whatever the others are
made-three : (made (7 ∷ 8 ∷ 9 ∷ 10 ∷ []) 4 [] 0 3).words ≡ 7 ∷ 8 ∷ 9 ∷ []
made-three = refl

-- the stack after six pushes
abbrev six : Seen
six = pushed 6 (pushed 5 (pushed 4 (pushed 3 (pushed 2 (pushed 1 empty)))))

-- four pushes fill the registers, the fifth and the sixth spill one each
pushed-six : six ≡ with (1 ∷ 2 ∷ 3 ∷ 4 ∷ 5 ∷ 6 ∷ []) 4 0 2
pushed-six = refl

-- four pops find their words in registers
popped-four : popped (popped (popped (popped six))) ≡ with (1 ∷ 2 ∷ []) 0 0 2
popped-four = refl

-- two words are needed then: two fills, and no word moves in the list
filled-two : filled 2 (with (1 ∷ 2 ∷ []) 0 0 2) ≡ with (1 ∷ 2 ∷ []) 2 2 2
filled-two = refl

-- with one in a register, three words are two fills
filled-one_there : filled 3 (with (1 ∷ 2 ∷ 3 ∷ []) 1 0 0) ≡ with (1 ∷ 2 ∷ 3 ∷ []) 3 2 0
filled-one_there = refl

-- with more in registers than are needed nothing is filled
filled-enough : filled 2 six ≡ six
filled-enough = refl

-- a pop with no word in a register is one fill
popped-none_there : popped (with (1 ∷ 2 ∷ []) 0 0 0) ≡ with (1 ∷ []) 0 1 0
popped-none_there = refl

-- three words dropped come from registers
dropped-registers : dropped 3 six ≡ with (1 ∷ 2 ∷ 3 ∷ []) 1 0 2
dropped-registers = refl

-- the fifth comes from memory, with no fill
dropped-memory : dropped 5 six ≡ with (1 ∷ []) 0 0 2
dropped-memory = refl

-- two of the words in registers exchanged for one, and for two: no word moves between registers and memory
replaced-fewer : replaced 2 (9 ∷ []) six ≡ with (1 ∷ 2 ∷ 3 ∷ 4 ∷ 9 ∷ []) 3 0 2
replaced-fewer = refl

replaced-many : replaced 2 (6 ∷ 5 ∷ []) six ≡ with (1 ∷ 2 ∷ 3 ∷ 4 ∷ 6 ∷ 5 ∷ []) 4 0 2
replaced-many = refl

-- a flush is one spill for each of the four registers, and the words stay
flushed-four : flushed six ≡ with (1 ∷ 2 ∷ 3 ∷ 4 ∷ 5 ∷ 6 ∷ []) 0 0 6
flushed-four = refl

-- counts go on from 0 past the last value of 64 bits
pushed-last_count : pushed 5 (with (1 ∷ 2 ∷ 3 ∷ 4 ∷ []) 4 0 (2 ^ 64 - 1)) ≡ with (1 ∷ 2 ∷ 3 ∷ 4 ∷ 5 ∷ []) 4 0 0
pushed-last_count = refl

-- the seventh push fits, the eighth does not
making_room-last : making_room six ≡ Ok tt
making_room-last = refl

making_room-none : making_room (pushed 7 six) ≡ Err (record { limit = 7 })
making_room-none = refl

-- the top word, the one beneath it, and the lowest
word_at-six : word_at 0 six ∷ word_at 1 six ∷ word_at 5 six ∷ [] ≡ 6 ∷ 5 ∷ 1 ∷ []
word_at-six = refl

-- all six words may be taken, seven may not
taking-all : taking 6 six (word_at 5 six) ≡ Ok 1
taking-all = refl

taking-more : taking 7 six (word_at 6 six) ≡ Err (record { wanted = 7; there = 6 })
taking-more = refl

-- a number of words above 255 is shown as 255
taking-many : taking 40000 six (word_at 39999 six) ≡ Err (record { wanted = 255; there = 6 })
taking-many = refl

-- an address of a register's word is in bounds, and the write goes to it
stack_written-register : stack_written 3 9 six ≡ with (1 ∷ 2 ∷ 3 ∷ 9 ∷ 5 ∷ 6 ∷ []) 4 0 2
stack_written-register = refl

-- the room above the words is out of bounds
read_of-top : read_of six.words 6 ≡ Err (record { address = 6; top = 6 })
read_of-top = refl

-- in split mode DB addresses the extra segment
read_of-split : read_of (db_words (record six { split = true })) 1 ≡ Ok 51
read_of-split = refl

-- a write there leaves the stack's words
db_written-split : db_written 1 9 (record six { split = true }) ≡ record six { split = true; extra = 50 ∷ 9 ∷ [] }
db_written-split = refl

-- a step that takes two words from memory and leaves one: two fills, and one word in a register
stepped-two : stepped 2 (9 ∷ []) (with (1 ∷ 2 ∷ 3 ∷ []) 0 0 0) ≡ with (1 ∷ 9 ∷ []) 1 2 0
stepped-two = refl

-- one that takes one and leaves two, with four in registers: one spill
stepped-one : stepped 1 (6 ∷ 6 ∷ []) six ≡ with (1 ∷ 2 ∷ 3 ∷ 4 ∷ 5 ∷ 6 ∷ 6 ∷ []) 4 0 3
stepped-one = refl
