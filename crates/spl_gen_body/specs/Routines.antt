-- When what the generator has of a procedure is what its definition has, and that its frame is then that of its body.
use Rattle.std.specs.Prelude.{◌≡◌, ℕ, ◌+◌, false, map}
use Rattle.spl_tree.specs.DeclarationTrees.{declarations}
use Rattle.spl_tree.specs.Spells.{heading_tree, declaration}
use Rattle.spl_sorts.specs.spl_meaning.Names.{Table, find}
use Rattle.spl_sorts.specs.spl_meaning.Tables.{Routine, outer_names}
use Rattle.spl_sorts.specs.spl_meaning.Places.{Place, above_base, item_words, places_from, arrays_from}
use Rattle.spl_sorts.specs.spl_meaning.Bodies.{procedure_body}
use Rattle.spl_sorts.specs.Tables.{table_of}
use Rattle.spl_initials.specs.spl_places.ListedData.{datum_of}
use Rattle.spl_initials.specs.spl_places.Counters.{total_words}
use Rattle.spl_initials.specs.spl_places.NameMaps.{entries_of, shown}
use Rattle.spl_initials.specs.spl_places.Spots.{spot_of, array_of}
use Rattle.spl_initials.specs.spl_places.Held.{named}
use Rattle.spl_initials.specs.spl_places.Programs.{NewInRoutine, routine_items}
use Rattle.spl_rooms.specs.Rooms.{routine_room}
use Rattle.spl_body_code.specs.Bodies.{frame_of}
use Rattle.spl_gen_body.specs.declared.bodies.Procedure.{Procedure}
use Rattle.spl_gen_body.specs.Procedures.{frame_for}

-- a procedure whose OWN items and their arrays begin at these addresses: its heading, its declarations with their items, the names outside
-- it, its room, and the places of its items and of its arrays' data
pub record Describes (own own_arrays : ℕ) (r : Routine) (of : Procedure) : Type 0 where
  pub heading : heading_tree of.heading.now ≡ r.heading
  pub list : declarations (map declaration of.declarations.now) ≡ r.items
  pub outer : find (table_of of.outer.now) ≡ outer_names r
  pub items : map datum_of of.items.now ≡ routine_items r
  pub room : of.room ≡ routine_room r
  pub places : shown spot_of (find (entries_of of.places.now.places)) ≡ find (places_from above_base own 1 (map named (routine_items r)))
  pub arrays :
      shown array_of (find (entries_of of.places.now.arrays))
      ≡ find (arrays_from above_base own_arrays (1 + total_words false item_words (routine_items r)) (map named (routine_items r)))

-- its frame is that of its body, where each item's name is new in its list, as it is where no rule is broken
abbrev pub FramesAreOfBodies : Type 0
FramesAreOfBodies = (globals : Table Place) (own own_arrays : ℕ) (r : Routine) (of : Procedure) → NewInRoutine r → Describes own own_arrays r of
    → frame_for of ≡ frame_of (procedure_body globals own own_arrays r)
