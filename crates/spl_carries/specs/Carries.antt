-- What it means that a program carries some units: its flat run goes where the units' run goes.
use Rattle.std.specs.Prelude.{ℕ, ◌≡◌, ◌+◌, ◌*◌, ◌<◌, ◌≤◌, List, [], ◌∷◌, ◌++◌, length, slice_get, Some}
use Rattle.hp_flat.specs.hp_word.declared.endings.Ending.TheVariants.{Running}
use Rattle.hp_flat.specs.hp_program.declared.program.Program.{Program}
use Rattle.hp_flat.specs.hp_program.Programs.{segments_of}
use Rattle.hp_flat.specs.hp_session.State.{Machine, opened}
use Rattle.hp_flat.specs.Step.{after}
use Rattle.hp_flat.specs.Views.{start_of}
use Rattle.spl_meaning.specs.Tables.{Source}
use Rattle.spl_meaning.specs.Bodies.{data_words}
use Rattle.spl_meaning.specs.Bound.{bound}
use Rattle.spl_meaning.specs.Runs.{Seat, LinesAreBytes, Point, alone, stands, stray}
use Rattle.spl_carries.specs.Segments.{segment_names, initial_words}

-- the words of all segments, tables included
abbrev pub words_in : List (List ℕ) → ℕ
words_in [] = 0
words_in (s ∷ ss) = length s + words_in ss

-- how many steps of the machine one step of the source may take: twice the words of the program
abbrev pub weight : Program → ℕ
weight p = 2 * words_in (segments_of p)

-- where a flat session stands
abbrev pub flat_point : Machine → Point
flat_point m = record { printed = m.printed; standing = stands m.ending }

-- the program's session after N steps
abbrev pub flat : Program → Seat → ℕ → Machine
flat p seat n = after (segments_of p) n (opened p.globals.items p.main (start_of p) seat.lines seat.stack seat.extra seat.room)

-- these bytes are the first of those
pub record IsPrefix (some all : List ℕ) : Type 0 where
  pub rest : List ℕ
  pub is : all ≡ some ++ rest

-- From the machine to the source. After N steps of the machine some step n of the source is at the same point, and while it runs N is
-- less than the weight of n steps and one more. Or the source strays, and what it had printed there is the first of what the machine
-- has printed.
pub data Forth (p : Program) (us : List Source) (seat : Seat) (steps : ℕ) : Type 0 where
  follows : (at : ℕ) → alone us seat at ≡ flat_point (flat p seat steps)
      → ((flat p seat steps).ending ≡ Running → steps < weight p * (at + 1)) → Forth p us seat steps
  strayed : (at : ℕ) → (alone us seat at).standing ≡ stray → IsPrefix (alone us seat at).printed (flat p seat steps).printed
      → Forth p us seat steps

-- From the source to the machine: for each number n of steps within which the source has not strayed, some N is at the same point, at
-- most the weight of n steps and one more.
pub record Back (p : Program) (us : List Source) (seat : Seat) (at : ℕ) : Type 0 where
  pub steps : ℕ
  pub point : flat_point (flat p seat steps) ≡ alone us seat at
  pub soon : steps ≤ weight p * (at + 1)

-- a seat within the limits of a session, whose stack holds the data words and the main body's marker, and whose lines are bytes
pub record MaySit (us : List Source) (seat : Seat) : Type 0 where
  pub least_stack : 64 ≤ seat.stack
  pub most_stack : seat.stack ≤ 32000
  pub most_extra : seat.extra ≤ 32000
  pub least_room : 1 ≤ seat.room
  pub most_room : seat.room ≤ 1048576
  pub data' : data_words us + 4 ≤ seat.stack
  pub bytes : LinesAreBytes seat.lines

-- each segment has at most as many words as the segment of its name may have
pub record IsBounded (p : Program) (us : List Source) : Type 0 where
  pub segments : length (segments_of p) ≡ length (segment_names us)
  pub words : (i : ℕ) (words name : List ℕ) → slice_get (segments_of p) i ≡ Some words → slice_get (segment_names us) i ≡ Some name
      → length words ≤ bound us name

-- A program, which is valid by its type, carries some units: its segments keep their bounds, its data words are the units', and for each
-- seat both ways are open.
pub record Carries (p : Program) (us : List Source) : Type 0 where
  pub bounded : IsBounded p us
  pub globals : p.globals.items ≡ initial_words us
  pub forth : (seat : Seat) → MaySit us seat → (steps : ℕ) → Forth p us seat steps
  pub back : (seat : Seat) → MaySit us seat → (at : ℕ) → ((alone us seat at).standing ≡ stray → ⊥) → Back p us seat at
