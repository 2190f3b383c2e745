-- The codes of a unit behind its main body may be finished.
use Rattle.std.specs.Prelude.{List, length}
use Rattle.spl_sound_labels.specs.spl_tree.DeclarationTrees as decl
use Rattle.spl_sound_labels.specs.spl_tree.DeclarationTrees.{declarations}
use Rattle.spl_sound_labels.specs.spl_meaning.Tables.{Source}
use Rattle.spl_routine_code.specs.spl_rooms.declared.room_type.Room.{Room}
use Rattle.spl_routine_code.specs.spl_scopes.Scopes.{Placed}
use Rattle.spl_unit_codes.specs.spl_modules.Entered.{Walk}
use Rattle.spl_unit_codes.specs.spl_modules.UnitModules.{IsUnitModules}
use Rattle.spl_routine_code.specs.spl_body_scopes.Levels.{unit_level}
use Rattle.spl_routine_code.specs.Routines.{room_at}
use Rattle.spl_unit_codes.specs.declared.growing.Growing.{Growing}
use Rattle.spl_unit_codes.specs.Begun.{AreBegun}
use Rattle.spl_unit_codes.specs.Slots.{AreComplete}
use Rattle.spl_complete_codes.proofs.Complete.{complete}
use Rattle.spl_unit_laws.specs.declared.cursors.Start.{Start}
use Rattle.spl_unit_laws.specs.Known.{Known}
use Rattle.spl_unit_laws.specs.Steps.{Steps, AreFree}
use Rattle.spl_unit_laws.specs.Units.{fixed_for, first_cursor, MainStep}
use Rattle.spl_unit_laws.specs.Begins.{UnitBegins}
use Rattle.spl_unit_laws.proofs.UnitEnds.{code_done}
use Rattle.spl_unit_laws.proofs.UnitMade.{UnitWhole, unit_whole}

-- each is the code of its module, all of whose marks are set
pub codes_complete : (u : Source) (at : Start) (rooms : List Room) (w : Walk) (first : List Growing) (last : Known) (whole : List Growing) → UnitBegins rooms u at
    → IsUnitModules u w → AreBegun u w.entered.made first
    → Steps (fixed_for u w at.primary rooms) (declarations u.tree.items)
    (record { level = unit_level at.primary (declarations u.tree.items); at = first_cursor u at; parts = first }) last
    → AreFree u.subprogram u.tree.segment decl.none last.parts
    → MainStep u.subprogram (fixed_for u w at.primary rooms) u.tree.statements (room_at rooms at.room).depth last.parts whole → AreComplete whole
codes_complete u at rooms w first last whole b are begun steps free main g y there =
    let p : Placed = record { at = b.reached; unit = u } in
    let all : UnitWhole p rooms b.others (length first) last whole =
    unit_whole p at rooms b.others w first last whole b.new b.new_routines b.primary b.own b.own_arrays b.inners b.rooms_are are begun steps free main in
    let one = all.each g y there in
    complete p one.frame.name g y.code (code_done p g y.code one)
