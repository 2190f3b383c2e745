-- Two programs in a small area, worked by hand.
use Rattle.std.proofs.Common.{◌≡◌, ℕ, List, [], ◌∷◌, None, Some, refl}
use Rattle.hp_program.specs.declared.store.Fetched.TheVariants.{Word, Absent, Outside}
use Rattle.hp_program.specs.Stores.{fetched}
use Rattle.mpe_regions.specs.Area.{Area}
use Rattle.mpe_overlay.specs.declared.loaded.Loaded.TheVariants.{There, Brought}
use Rattle.mpe_overlay.specs.Codes.{key_of, segment_at}
use Rattle.mpe_overlay.specs.Holds.{words_in}
use Rattle.mpe_overlay.specs.Held.{held_in}
use Rattle.mpe_overlay.specs.Needs.{answer, counted}

-- the first program has two segments, and the second has one
abbrev codes : List (List (List ℕ))
codes = ((1 ∷ 2 ∷ []) ∷ (3 ∷ 4 ∷ 5 ∷ []) ∷ []) ∷ ((6 ∷ 7 ∷ []) ∷ []) ∷ []

-- segment 1 of program 0 stands from place 2 on, and segment 0 of program 1 in the first two words
abbrev area : Area
area = record { size = 6; list = record { key = 256; place = 0; size = 2 } ∷ record { key = 1; place = 2; size = 3 } ∷ []; order = 1 ∷ 256 ∷ [] }

abbrev words : List ℕ
words = 6 ∷ 7 ∷ 3 ∷ 4 ∷ 5 ∷ 0 ∷ []

-- keys of two programs differ
key_of-last : key_of 0 255 ≡ 255
key_of-last = refl

key_of-next : key_of 1 0 ≡ 256
key_of-next = refl

-- a key names a segment of its program
segment_at-second : segment_at codes 1 ≡ Some (3 ∷ 4 ∷ 5 ∷ [])
unfolding segment_at
segment_at-second = refl

segment_at-program : segment_at codes 256 ≡ Some (6 ∷ 7 ∷ [])
unfolding segment_at
segment_at-program = refl

-- and no other one
segment_at-none : segment_at codes 257 ≡ None
unfolding segment_at
segment_at-none = refl

-- the words of a region begin at its place
words_in-second : words_in words (record { key = 1; place = 2; size = 3 }) ≡ 3 ∷ 4 ∷ 5 ∷ []
words_in-second = refl

-- a view of a program holds what is loaded of it
held_in-loaded : held_in words area 0 1 ≡ Some (3 ∷ 4 ∷ 5 ∷ [])
held_in-loaded = refl

held_in-absent : held_in words area 0 0 ≡ None
held_in-absent = refl

-- and nothing of the next program
held_in-other : held_in words area 0 256 ≡ None
held_in-other = refl

-- the last word, the first offset behind it, and a segment that is absent
fetched-last : fetched (held_in words area 1 0) 1 ≡ Word 7
unfolding fetched
fetched-last = refl

fetched-behind : fetched (held_in words area 1 0) 2 ≡ Outside
unfolding fetched
fetched-behind = refl

fetched-none : fetched (held_in words area 1 1) 0 ≡ Absent
unfolding fetched
fetched-none = refl

-- what is live is there, and no load is counted
answer-there : answer 100 1 3 area ≡ There
answer-there = refl

counted-there : counted 1 area 9 ≡ 9
counted-there = refl

-- what is not is brought in, here over the segment that was used longest ago
answer-brought : answer 100 0 2 area ≡ Brought 102 1
answer-brought = refl

-- and counted, the last number being followed by 0
counted-brought : counted 0 area 9 ≡ 10
counted-brought = refl

counted-last : counted 0 area 18446744073709551615 ≡ 0
counted-last = refl
