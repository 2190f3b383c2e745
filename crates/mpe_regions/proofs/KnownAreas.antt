-- An area of a hundred words, worked by hand.
use Rattle.std.proofs.Common.{◌≡◌, true, false, [], ◌∷◌, None, Some, refl}
use Rattle.mpe_regions.specs.Area.{Area, oldest_of}
use Rattle.mpe_regions.specs.Loads.{hole, put, dropped, used, touched, load, needed}
use Rattle.mpe_regions.specs.Sound.{is_hole}

-- nothing is live
abbrev empty : Area
empty = record { size = 100; list = []; order = [] }

-- 1 has the words from 0 to 39, and 2 those from 40 to 79
abbrev two : Area
two = put 2 40 40 (put 1 40 0 empty)

-- behind them is 3, and 2 is given up: 1 has the words from 0 to 39, and 3 those from 80 to 94
abbrev gap : Area
gap = dropped 2 (put 3 15 80 two)

-- the first hole is at 0, and a segment of the area's size fits
first_hole : hole empty 100 ≡ Some 0
first_hole = refl

-- one word more does not
too_large : hole empty 101 ≡ None
too_large = refl

-- behind two regions of forty words there are twenty words left
last_hole : hole two 20 ≡ Some 80
last_hole = refl

no_hole : hole two 21 ≡ None
no_hole = refl

-- the hole between two regions is as large as what lies between them, and the lowest
between : hole gap 40 ≡ Some 40
between = refl

lowest : hole gap 5 ≡ Some 40
lowest = refl

-- a hole is one at each place where the words fit
is_hole-higher : is_hole gap 5 95 ≡ true
is_hole-higher = refl

is_hole-over : is_hole gap 5 76 ≡ false
is_hole-over = refl

-- a region is put between its neighbours
list-put : (put 4 40 40 gap).list ≡ record { key = 1; place = 0; size = 40 } ∷ record { key = 4; place = 40; size = 40 } ∷ record { key = 3; place = 80; size = 15 } ∷ []
list-put = refl

-- its key is the one used last
order-put : (put 4 40 40 gap).order ≡ 1 ∷ 3 ∷ 4 ∷ []
order-put = refl

-- what is used goes to the end, and the next one is the oldest
order-used : (used 1 two).order ≡ 2 ∷ 1 ∷ []
order-used = refl

oldest : oldest_of (touched 1 two) ≡ Some 2
oldest = refl

-- a key that is not live is not touched
touched-absent : touched 7 two ≡ two
touched-absent = refl

-- a load into a hole gives nothing up
load-hole : load 3 20 two ≡ record { area = put 3 20 80 two; place = Some 80; given_up = 0 }
load-hole = refl

-- a load without a hole gives the oldest up, here 2
load-oldest : load 3 30 (used 1 two) ≡ record { area = put 3 30 40 (dropped 2 (used 1 two)); place = Some 40; given_up = 1 }
load-oldest = refl

-- and goes on until a hole is large enough
load-all : load 3 100 two ≡ record { area = record { size = 100; list = record { key = 3; place = 0; size = 100 } ∷ []; order = 3 ∷ [] }; place = Some 0; given_up = 2 }
load-all = refl

-- a segment that is larger than the area finds no place
load-none : (load 3 101 two).place ≡ None
load-none = refl

-- what is needed and live is only used
needed-live : needed 1 40 two ≡ used 1 two
needed-live = refl
