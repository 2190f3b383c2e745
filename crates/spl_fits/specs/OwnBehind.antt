-- OWN items stand behind all globals.
use Rattle.std.specs.Prelude.{◌≡◌, ◌≤◌, ℕ, ◌+◌, true, false, List, [], ◌∷◌, Some}
use Rattle.spl_globals.specs.spl_meaning.Names.{find}
use Rattle.spl_globals.specs.spl_meaning.Tables.{Source, Routine, routine_table}
use Rattle.spl_globals.specs.spl_meaning.Places.{item_words, list_words}
use Rattle.spl_globals.specs.spl_meaning.Bodies.{Reached, reached_behind, own_table, global_words}
use Rattle.spl_globals.specs.spl_places.Programs.{Each}
use Rattle.spl_globals.specs.spl_places.Apart.{Spot, spots_from}

-- units with where their data begin
abbrev pub units_from : Reached → List Source → List (Reached × Source)
units_from at [] = []
units_from at (u ∷ us) = (at, u) ∷ units_from (reached_behind u at) us

-- a unit's globals end before a number, and its OWN items begin behind it
abbrev pub IsAround : ℕ → Reached × Source → Type 0
IsAround m e = (e.0.primary + list_words false (own_table e.1) ≤ m) × (m ≤ e.0.own)

-- so it is with each unit, where the OWN items of the first begin behind the globals of all
abbrev pub UnitsStandInOrder : Type 0
UnitsStandInOrder = (us : List Source) (at : Reached) (m : ℕ) → at.primary + global_words us ≤ m → m ≤ at.own → Each (IsAround m) (units_from at us)

-- a global and an OWN item on both sides of a number have no word in common
abbrev pub OwnItemsStandApart : Type 0
OwnItemsStandApart = (m own here : ℕ) (u : Source) (r : Routine) (x y : List ℕ) (p q : Spot) → here + list_words false (own_table u) ≤ m → m ≤ own
    → find (spots_from 0 here (own_table u)) x ≡ Some p → p.own ≡ false → find (spots_from own 1 (routine_table r)) y ≡ Some q → q.own ≡ true
    → p.word + item_words p.sort ≤ q.word
