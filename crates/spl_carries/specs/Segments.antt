-- The segments of some units in their order, and their initial data words.
use Rattle.std.specs.Prelude.{ℕ, zero, suc, if◌then◌else◌, List, [], ◌∷◌, ◌++◌}
use Rattle.spl_meaning.specs.Tables.{Source, Routine, routines_of}
use Rattle.spl_meaning.specs.Places.{word_or_zero}
use Rattle.spl_meaning.specs.Bodies.{program_of}
use Rattle.spl_meaning.specs.Bound.{segment_name, stands_in}
use Rattle.spl_meaning.specs.Runs.{Seat, opening}

-- a name behind others, where it is not among them
abbrev pub with_name : List (List ℕ) → List ℕ → List (List ℕ)
with_name xs x = if stands_in xs x then xs else xs ++ x ∷ []

-- the segments of procedures, each at the heading that has the body
abbrev pub with_routines : Source → List (List ℕ) → List Routine → List (List ℕ)
with_routines u xs [] = xs
with_routines u xs (r ∷ rs) = with_routines u (with_name xs (segment_name u r.heading.segment)) rs

-- and that of the main body, where the unit is no subprogram
abbrev pub with_segments : Source → List (List ℕ) → List (List ℕ)
with_segments u xs =
    let more = with_routines u xs (routines_of u) in
    if u.subprogram then more else with_name more (segment_name u u.tree.segment)

-- the segments of units behind others
abbrev pub segments_from : List (List ℕ) → List Source → List (List ℕ)
segments_from xs [] = xs
segments_from xs (u ∷ us) = segments_from (with_segments u xs) us

-- The names of a program's segments: one name is one segment in all units, and they are numbered in the order in which units, in
-- order, first use them.
abbrev pub segment_names : List Source → List (List ℕ)
segment_names us = segments_from [] us

-- words at the addresses from one on
abbrev pub words_from : (ℕ → ℕ) → ℕ → ℕ → List ℕ
words_from word a zero = []
words_from word a (suc n) = word a ∷ words_from word (suc a) n

-- no seat at all: the data words do not depend on it
abbrev no_seat : Seat
no_seat = record { stack = 0; extra = 0; room = 0; lines = [] }

-- the data words of some units as a session finds them
abbrev pub initial_words : List Source → List ℕ
initial_words us = let p = program_of us in words_from (λ a. word_or_zero ((opening p no_seat 0).now.mem a)) 0 p.words
