-- Words that go from the room into registers, and words that are taken away.
use Rattle.std.proofs.Common.{◌≡◌, ℕ, ◌+◌, ◌-◌, ◌%◌, ◌^◌, ◌<◌, ◌≤◌, List, [], ◌∷◌, ◌++◌, length, take, drop, slice_index, slice_set, zero, suc, ap, arith}
use Rattle.std.proofs.lemmas.List.{take-append-drop}
use Rattle.std.proofs.lemmas.Grind.{common_steps}
use Rattle.std.proofs.Math.Seq.{take-add}
use Rattle.hp_tos.specs.declared.data.Data.{Data}
use Rattle.hp_tos.specs.Lists.{Lists, lists, stored, stored_all}
use Rattle.hp_tos.specs.Calls.{dropped, filled, replaced}
use Rattle.hp_tos.specs.Representation.{seen_of}

-- where no word is stored the room stays
pub parted : (address : ℕ) (room : List ℕ) → take address room ++ drop address room ≡ room
parted address room = take-append-drop address room

-- one word is stored as a list of one
pub stored_one : (address w : ℕ) (room : List ℕ) → address < length room
    → slice_set room address w ≡ take address room ++ (w ∷ drop (address + 1) room)
stored_one address w [] inside = grind arith
stored_one zero w (x ∷ room) inside = grind (arith, common_steps)
stored_one (suc address) w (x ∷ room) inside =
    let later = stored_one address w room (omega arith) in grind (arith, common_steps)

-- so is one of a list of one
pub stored_alone : (d : Lists) (address w : ℕ) (words : List ℕ) → 1 ≤ length words → length words < 2
    → address + length words ≤ length d.stack → w ≡ slice_index words 0 → stored address w d ≡ stored_all address words d
stored_alone d address w [] some few room is = grind arith
stored_alone d address w (x ∷ []) some few room is =
    let one = stored_one address w d.stack (omega arith) in grind (arith, common_steps)
stored_alone d address w (x ∷ y ∷ words) some few room is = grind arith

-- words that are filled were the last in memory
pub taken_in_two : (from many : ℕ) (room : List ℕ)
    → take (from + many) room ≡ take from room ++ take many (drop from room)
taken_in_two from many room = take-add from many room

-- the words in memory and the lowest registers are the first of all: both sides walk down to the registers
kept_above : (room top : List ℕ) (sm kept all : ℕ) → all ≡ sm + kept → sm ≤ length room
    → take sm room ++ take kept top ≡ take all (take sm room ++ top)
kept_above room top zero kept all is there =
    let same : kept ≡ all = omega arith in ap (λ k. take k top) same
kept_above [] top (suc sm) kept all is there = grind arith
kept_above (x ∷ room) top (suc sm) kept zero is there = grind arith
kept_above (x ∷ room) top (suc sm) kept (suc all) is there =
    ap (λ ws. x ∷ ws) (kept_above room top sm kept all (omega arith) (omega arith))

-- without the highest registers the stack is without its top words
pub seen_dropped : (memory : Data) (top new : List ℕ) (sm fills spills n : ℕ)
    → n ≤ length top → sm ≤ length (lists memory).stack → new ≡ take (length top - n) top
    → seen_of memory sm new fills spills ≡ dropped n (seen_of memory sm top fills spills)
unfolding seen_of
seen_dropped memory top new sm fills spills n few there is =
    let room = (lists memory).stack in
    let many : length (take sm room ++ top) - n ≡ sm + (length top - n) = grind (arith, common_steps) in
    let words = kept_above room top sm (length top - n) (length (take sm room ++ top) - n) many there in
    grind (arith, common_steps)

-- and so it is with nothing in their place
pub seen_replaced : (memory : Data) (top new : List ℕ) (sm fills spills n : ℕ)
    → n ≤ length top → sm ≤ length (lists memory).stack → new ≡ take (length top - n) top
    → seen_of memory sm new fills spills ≡ replaced n [] (seen_of memory sm top fills spills)
unfolding seen_of
seen_replaced memory top new sm fills spills n few there is =
    let room = (lists memory).stack in
    let many : length (take sm room ++ top) - n ≡ sm + (length top - n) = grind (arith, common_steps) in
    let words = kept_above room top sm (length top - n) (length (take sm room ++ top) - n) many there in
    grind (arith, common_steps)

-- words filled beneath the registers were the highest in memory: the list of both stays
pub seen_filled : (memory : Data) (top new : List ℕ) (sm fills spills n count k : ℕ)
    → count ≡ length top → (seen_of memory sm top fills spills).in_registers < n
    → n ≤ length (seen_of memory sm top fills spills).words
    → sm + length top ≤ length (lists memory).stack → length top ≤ k
    → new ≡ take (n - count) (drop (sm - (n - count)) (lists memory).stack) ++ take k top
    → seen_of memory (sm - (n - count)) new ((fills + (n - count)) % 2 ^ 64) spills
    ≡ filled n (seen_of memory sm top fills spills)
unfolding seen_of
seen_filled memory top new sm fills spills n count k many wanting some there all is =
    let room = (lists memory).stack in
    let here : length (take sm room ++ top) ≡ sm + length top = grind (arith, common_steps) in
    let back : (sm - (n - count)) + (n - count) ≡ sm = omega arith in
    let both = taken_in_two (sm - (n - count)) (n - count) room in
    let whole : take k top ≡ top = grind (arith, common_steps) in
    let words : take (sm - (n - count)) room ++ new ≡ take sm room ++ top = grind (arith, common_steps) in
    let number : length new ≡ n = grind (arith, common_steps) in
    grind (arith, common_steps)
