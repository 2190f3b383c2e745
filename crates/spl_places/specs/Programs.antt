-- The items of units and of procedures, and programs in whose lists no item of data stands behind its own name.
use Rattle.std.specs.Prelude.{List, [], ◌∷◌, if◌then◌else◌}
use Rattle.spl_tree.specs.DeclarationTrees.{declarations}
use Rattle.spl_sorts.specs.spl_meaning.Names.{find, nothing_declared, parameters, formals_of}
use Rattle.spl_sorts.specs.spl_meaning.Tables.{Source, Routine, outer_names}
use Rattle.spl_sorts.specs.spl_meaning.Limits.{joined}
use Rattle.spl_sorts.specs.spl_meaning.Bodies.{all_routines}
use Rattle.spl_places.specs.ListedData.{Datum, list_data}
use Rattle.spl_places.specs.Held.{NewNames}

-- the globals of a unit that is no subprogram
abbrev pub unit_items : Source → List Datum
unit_items u = if u.subprogram then [] else list_data nothing_declared (find []) (declarations u.tree.items)

-- the items of a procedure's list
abbrev pub routine_items : Routine → List Datum
routine_items r = list_data (outer_names r) (find (parameters (formals_of r.heading))) r.items

-- the globals of all units, and the items of all procedures
abbrev pub all_globals : List Source → List Datum
all_globals us = joined unit_items us

abbrev pub all_locals : List Source → List Datum
all_locals us = joined routine_items (all_routines us)

-- each of some
abbrev pub Each : {A : Type 0} → (A → Type 0) → List A → Type 0
Each P [] = Unit {0}
Each P (a ∷ as') = P a × Each P as'

-- in the list of a unit, and in that of a procedure, each item's name is new
abbrev pub NewInUnit : Source → Type 0
NewInUnit u = NewNames nothing_declared [] (declarations u.tree.items)

abbrev pub NewInRoutine : Routine → Type 0
NewInRoutine r = NewNames (outer_names r) (parameters (formals_of r.heading)) r.items

-- and so it is in all lists of some units
abbrev pub NewInAll : List Source → Type 0
NewInAll us = Each NewInUnit us × Each NewInRoutine (all_routines us)
