-- A walk along the units of a program.
use Rattle.std.specs.Prelude.{◌≡◌, ℕ, suc, ◌+◌, false, List, ◌∷◌, drop, Some}
use Rattle.spl_tree.specs.DeclarationTrees as decl
use Rattle.spl_sorts.specs.spl_meaning.Tables.{Source}
use Rattle.spl_sorts.specs.spl_meaning.Places.{item_words}
use Rattle.spl_sorts.specs.spl_meaning.Bodies.{Reached, all_routines, global_words}
use Rattle.spl_places.specs.Counters.{total_words}
use Rattle.spl_places.specs.Programs.{unit_items, Each, NewInUnit, NewInRoutine, NewInAll}
use Rattle.spl_scopes.specs.Scopes.{first_reached, placed_units, unit_at}
use Rattle.spl_body_scopes.specs.Walks.{State, Left}

-- the units that a program has left behind n of them, where the next global and the next OWN item stand at these addresses
pub record UnitsLeft (us : List Source) (n primary own : ℕ) (rest : List Source) : Type 0 where
  pub at : Reached
  pub globals_at : at.primary ≡ primary
  pub owns_at : at.own ≡ own
  pub units : drop n (placed_units (first_reached us) us) ≡ placed_units at rest
  pub new_units : Each NewInUnit rest
  pub new_routines : Each NewInRoutine (all_routines rest)

-- before the first: OWN items stand behind all globals
abbrev pub UnitsBegin : Type 0
UnitsBegin = (us : List Source) → NewInAll us → UnitsLeft us 0 0 (global_words us) us

-- the next unit is the one of that number
abbrev pub UnitsEnter : Type 0
UnitsEnter = (us : List Source) (n primary own : ℕ) (u : Source) (rest : List Source) (left : UnitsLeft us n primary own (u ∷ rest))
    → unit_at us n ≡ Some (record { at = left.at; unit = u })

-- behind it, where all of its declarations are behind
abbrev pub UnitsGoOn : Type 0
UnitsGoOn = (us : List Source) (n primary own : ℕ) (u : Source) (rest : List Source) (left : UnitsLeft us n primary own (u ∷ rest)) (s : State)
    → Left (record { at = left.at; unit = u }) s decl.none
    → UnitsLeft us (suc n) (primary + total_words false item_words (unit_items u)) s.own rest
