-- The code of a unit with all of its bodies, and the modules that are taken out of it.
use Rattle.std.specs.Prelude.{◌≡◌, ℕ, ◌+◌, false, List, Option}
use Rattle.spl_tree.specs.DeclarationTrees as decl
use Rattle.spl_tree.specs.DeclarationTrees.{declarations}
use Rattle.spl_sound.specs.spl_meaning.Names.{find}
use Rattle.spl_sound.specs.spl_meaning.Tables.{Source}
use Rattle.spl_sound.specs.spl_meaning.Places.{item_words}
use Rattle.spl_unit_laws.specs.spl_places.Counters.{total_words}
use Rattle.spl_unit_laws.specs.spl_places.Programs.{unit_items}
use Rattle.spl_branch.specs.declared.modules.Module.{Module}
use Rattle.spl_unit_laws.specs.spl_modules.Made.{Made}
use Rattle.spl_unit_laws.specs.spl_module_code.Modules.{numbered}
use Rattle.spl_unit_laws.specs.spl_body_scopes.Levels.{Level, unit_level}
use Rattle.spl_unit_laws.specs.spl_routine_code.Routines.{room_at}
use Rattle.spl_unit_laws.specs.spl_unit_codes.declared.growing.Growing.{Growing}
use Rattle.spl_unit_laws.specs.spl_unit_codes.Begun.{AreBegun}
use Rattle.spl_unit_laws.specs.spl_unit_codes.Slots.{AreSlots, PickedFrom}
use Rattle.spl_unit_laws.specs.declared.cursors.Cursor.{Cursor}
use Rattle.spl_unit_laws.specs.declared.cursors.Start.{Start}
use Rattle.spl_unit_laws.specs.Known.{Fixed, Known}
use Rattle.spl_unit_laws.specs.Steps.{Steps, AreFree}
use Rattle.spl_unit_laws.specs.Units.{MainStep, first_cursor}

-- what is known with these
abbrev pub known_at : Level → Cursor → List Growing → Known
known_at level at parts = record { level = level; at = at; parts = parts }

-- all bodies of a unit were appended to its codes, where its first room has this depth, and the walk has come to `last`
pub record BodiesStand (f : Fixed) (u : Source) (depth : ℕ) (from : Known) (last : Cursor) (all : List Growing) : Type 0 where
  pub level : Level
  pub parts : List Growing
  pub steps : Steps f (declarations u.tree.items) from (known_at level last parts)
  pub free : AreFree u.subprogram u.tree.segment decl.none parts
  pub main : MainStep u.subprogram f u.tree.statements depth parts all

-- the modules that its codes become were appended along names of segments
pub record PartsPicked (u : Source) (names : List (List ℕ)) (all : List Growing) (old new : List Module) : Type 0 where
  pub slots : List (Option Module)
  pub are_slots : AreSlots all slots
  pub picked : PickedFrom (find (numbered 0 u.segments)) slots names old new

-- both, from its beginning on
pub record UnitMade (f : Fixed) (made : ℕ → List Made) (u : Source) (names : List (List ℕ)) (at next : Start) (old new : List Module) : Type 0 where
  pub first : List Growing
  pub begun : AreBegun u made first
  pub last : Cursor
  pub all : List Growing
  pub bodies : BodiesStand f u (room_at f.rooms at.room).depth (known_at (unit_level at.primary (declarations u.tree.items)) (first_cursor u at) first) last all
  pub picked : PartsPicked u names all old new
  pub next_is :
      next ≡ record { primary = at.primary + total_words false item_words (unit_items u); own = last.own; own_arrays = last.own_arrays; room = last.inner_room }
