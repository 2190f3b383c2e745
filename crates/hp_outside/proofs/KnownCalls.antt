-- Known values of the definitions, each worked by hand.
use Rattle.std.proofs.Common.{◌≡◌, inl, inr, [], ◌∷◌, true, false, refl, arith}
use Rattle.hp_outside.specs.Faults.{Rose}
use Rattle.hp_outside.specs.Calls.{fails_at, next_call, one_more_fault}
use Rattle.hp_outside.specs.Room.{taken_count}

-- a call fails where it is listed, and only there
listed : fails_at (0 ∷ 2 ∷ []) 2 ≡ true
listed = refl

between : fails_at (0 ∷ 2 ∷ []) 1 ≡ false
between = refl

-- the last number fails without being listed
last : fails_at [] 4294967295 ≡ true
last = refl

before_last : fails_at [] 4294967294 ≡ false
before_last = refl

-- the numbers go up by one, and the last stays
first_to_second : next_call 0 ≡ 1
first_to_second = refl

last_stays : next_call 4294967295 ≡ 4294967295
last_stays = refl

-- a count of faults goes up by one, and its last value stays
third_fault : one_more_fault 2 ≡ 3
third_fault = refl

full_count : one_more_fault 18446744073709551615 ≡ 18446744073709551615
full_count = refl

-- a count rose where it is greater, or stands at its last value
rose_by_one : Rose 2 3
rose_by_one = inl (omega arith)

rose_at_the_last : Rose 18446744073709551615 18446744073709551615
rose_at_the_last = inr refl

-- from the second place of four bytes three are left: two fit a room of two, and three a room of five
two_fit : taken_count (10 ∷ 20 ∷ 30 ∷ 40 ∷ []) 1 2 ≡ 2
two_fit = refl

three_are_there : taken_count (10 ∷ 20 ∷ 30 ∷ 40 ∷ []) 1 5 ≡ 3
three_are_there = refl

none_past_the_end : taken_count (10 ∷ 20 ∷ []) 7 5 ≡ 0
none_past_the_end = refl
