-- What stays the same for a unit, as the code has it.
use Rattle.std.specs.Prelude.{[], unwrap_or}
use Rattle.std.specs.List.{slice_get}
use Rattle.spl_tree.specs.DeclarationTrees.{Declarations}
use Rattle.spl_sound.specs.spl_meaning.Names.{find, nothing_declared}
use Rattle.spl_unit_laws.specs.spl_found.OwnNames.{behind_declarations}
use Rattle.spl_unit_laws.specs.spl_modules.Walks.{walk_of}
use Rattle.spl_unit_laws.specs.spl_body_scopes.Levels.{Level, level_of}
use Rattle.spl_unit_laws.specs.Known.{Fixed}
use Rattle.spl_unit_walks.specs.declared.fixed.Fixed as code

abbrev pub fixed_of : code.Fixed → Fixed
fixed_of f = record {
  segment = f.unit.now.segment;
  whole = level_of f.whole.now;
  procedures = (walk_of f.entries.now).entered.procedures;
  inner = λ i. unwrap_or (slice_get (walk_of f.entries.now).routines i) (find []);
  main_inner = (walk_of f.entries.now).main_body;
  rooms = f.rooms.now;
}

-- the level of a unit's list behind declarations
abbrev pub levels_behind : Level → Declarations → Level
levels_behind level ds = record { names = behind_declarations nothing_declared level.names ds; places = level.places }
