-- A program's modules, where its units stand from its first areas on.
use Rattle.std.proofs.Common.{◌≡◌, ℕ, List, sym, ap, subst}
use Rattle.spl_sound.specs.spl_meaning.Tables.{Source}
use Rattle.spl_sound.specs.spl_meaning.Sound.{IsSound}
use Rattle.spl_layout.specs.spl_rooms.declared.room_type.Room.{Room}
use Rattle.spl_layout.specs.spl_rooms.Rooms.{rooms_of}
use Rattle.spl_layout.specs.spl_globals.Stored.{first_areas}
use Rattle.spl_layout.specs.spl_globals.declared.areas.Areas.{Areas}
use Rattle.spl_branch.specs.declared.modules.Module.{Module}
use Rattle.spl_unit_laws.specs.spl_module_code.Modules.{program_uses, AreModules}
use Rattle.spl_unit_laws.specs.declared.cursors.Start.{Start}
use Rattle.spl_unit_laws.specs.Units.{UnitsStand}
use Rattle.spl_unit_laws.specs.Laws.{first_start}
use Rattle.spl_unit_laws.specs.Begins.{UnitsBegin}
use Rattle.spl_unit_laws.proofs.Modules.{units_first, modules_made}

start_at : Areas → Start
start_at a = record { primary = a.primary; own = a.own; own_arrays = a.own_arrays; room = 0 }

starts : (us : List Source) (a : Areas) → a ≡ first_areas us → start_at a ≡ first_start us
unfolding start_at
starts us a is = ap (λ (x : Areas). start_at x) is

pub compiled : (us : List Source) (rooms : List Room) (names : List (List ℕ)) (a : Areas) (ms : List Module) → IsSound us → rooms ≡ rooms_of us → names ≡ program_uses us
    → a ≡ first_areas us → UnitsStand rooms names us (record { primary = a.primary; own = a.own; own_arrays = a.own_arrays; room = 0 }) ms → AreModules us ms
unfolding start_at
compiled us rooms names a ms sound has used first stand = modules_made us rooms names (start_at a) ms sound has used (starts us a first) stand

-- before the first unit
pub units_begin : (us : List Source) (rooms : List Room) (a : Areas) → IsSound us → rooms ≡ rooms_of us → a ≡ first_areas us
    → UnitsBegin rooms us (record { primary = a.primary; own = a.own; own_arrays = a.own_arrays; room = 0 })
unfolding start_at
units_begin us rooms a sound has first = subst (λ (s : Start). UnitsBegin rooms us s) (sym (starts us a first)) (units_first us rooms sound has)
