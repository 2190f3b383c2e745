-- A loop over units, the modules of which are appended.
use Rattle.std.proofs.Common.{◌≡◌, ◌<◌, ◌≤◌, ℕ, ◌+◌, List, [], ◌∷◌, ◌++◌, map, drop, length, get_or, sym, ap, subst, ◌∙◌}
use Rattle.std.proofs.lemmas.List.{append_assoc, append-nil}
use Rattle.spl_tree.specs.declared.units.SplUnit.{SplUnit}
use Rattle.spl_sound.specs.spl_meaning.Tables.{Source}
use Rattle.spl_sound.specs.Spelled.{source_of}
use Rattle.spl_unit_laws.specs.spl_places.Programs.{Each}
use Rattle.spl_unit_laws.proofs.spl_lists_proofs.NameWalks.{onward, onward_end}
use Rattle.spl_layout.specs.spl_rooms.declared.room_type.Room.{Room}
use Rattle.spl_branch.specs.declared.modules.Module.{Module}
use Rattle.spl_unit_laws.specs.declared.cursors.Start.{Start}
use Rattle.spl_unit_laws.specs.Begins.{UnitBegins, UnitsBegin}
use Rattle.spl_unit_laws.proofs.UnitMade.{unit_begins, units_begin_behind}
use Rattle.spl_unit_laws.specs.Units.{OnceInBodies, UnitAppended, UnitsStand}
use Rattle.spl_unit_laws.specs.Units.{UnitsStand as s}

-- these modules of units have been made, where these units are left
pub record UnitsWalk (rooms : List Room) (names : List (List ℕ)) (all left : List Source) (from at : Start) (now : List Module) : Type 0 where
  pub rest : (ns : List Module) → UnitsStand rooms names left at ns → UnitsStand rooms names all from (now ++ ns)
  pub once : Each OnceInBodies left
  pub begin : UnitsBegin rooms left at

pub units_first : (rooms : List Room) (names : List (List ℕ)) (list : List SplUnit) (from : Start) (none : List Module) → none ≡ [] → Each OnceInBodies (map source_of list)
    → UnitsBegin rooms (map source_of list) from → UnitsWalk rooms names (map source_of list) (map source_of (drop 0 list)) from from none
units_first rooms names list from none is once begin = record {
  rest = λ ns stand. subst (λ (ms : List Module). UnitsStand rooms names (map source_of list) from (ms ++ ns)) (sym is) stand;
  once = once;
  begin = begin;
}

units_more : (rooms : List Room) (names : List (List ℕ)) (all : List Source) (u : Source) (us : List Source) (from at next : Start) (now new : List Module)
    → UnitsWalk rooms names all (u ∷ us) from at now → UnitAppended rooms names u at next now new → UnitsWalk rooms names all us from next new
units_more rooms names all u us from at next now new w one = record {
  rest = λ ns stand.
      subst (λ (ms : List Module). UnitsStand rooms names all from ms) (sym (append_assoc now one.0 ns) ∙ ap (λ (ms : List Module). ms ++ ns) (sym one.1))
      (w.rest (one.0 ++ ns) (s.more one.2 stand));
  once = w.once.1;
  begin = units_begin_behind rooms names u us at next one.0 w.begin one.2;
}

units_here : (rooms : List Room) (names : List (List ℕ)) (all : List Source) (list : List SplUnit) (i : ℕ) (u : SplUnit) (from at : Start) (now : List Module)
    → UnitsWalk rooms names all (map source_of (drop i list)) from at now → i < length list → u ≡ get_or list i u
    → UnitsWalk rooms names all (source_of u ∷ map source_of (drop (i + 1) list)) from at now
units_here rooms names all list i u from at now w lt is =
    subst (λ us. UnitsWalk rooms names all us from at now) (onward source_of (λ us. us) list i u lt is) w

pub units_next : (rooms : List Room) (names : List (List ℕ)) (all : List Source) (list : List SplUnit) (i : ℕ) (u : SplUnit) (from at next : Start) (now new : List Module)
    → UnitsWalk rooms names all (map source_of (drop i list)) from at now → i < length list → u ≡ get_or list i u → UnitAppended rooms names (source_of u) at next now new
    → UnitsWalk rooms names all (map source_of (drop (i + 1) list)) from next new
units_next rooms names all list i u from at next now new w lt is one =
    units_more rooms names all (source_of u) (map source_of (drop (i + 1) list)) from at next now new (units_here rooms names all list i u from at now w lt is) one

pub unit_once : (rooms : List Room) (names : List (List ℕ)) (all : List Source) (list : List SplUnit) (i : ℕ) (u : SplUnit) (from at : Start) (now : List Module)
    → UnitsWalk rooms names all (map source_of (drop i list)) from at now → i < length list → u ≡ get_or list i u → OnceInBodies (source_of u)
unit_once rooms names all list i u from at now w lt is = (units_here rooms names all list i u from at now w lt is).once.0

pub unit_begin : (rooms : List Room) (names : List (List ℕ)) (all : List Source) (list : List SplUnit) (i : ℕ) (u : SplUnit) (from at : Start) (now : List Module)
    → UnitsWalk rooms names all (map source_of (drop i list)) from at now → i < length list → u ≡ get_or list i u → UnitBegins rooms (source_of u) at
unit_begin rooms names all list i u from at now w lt is =
    unit_begins rooms (source_of u) (map source_of (drop (i + 1) list)) at (units_here rooms names all list i u from at now w lt is).begin

pub units_done : (rooms : List Room) (names : List (List ℕ)) (all : List Source) (list : List SplUnit) (i : ℕ) (from at : Start) (now : List Module)
    → UnitsWalk rooms names all (map source_of (drop i list)) from at now → length list ≤ i → UnitsStand rooms names all from now
units_done rooms names all list i from at now w le =
    let last : UnitsWalk rooms names all [] from at now = subst (λ us. UnitsWalk rooms names all us from at now) (onward_end source_of (λ us. us) list i le) w in
    subst (λ (ms : List Module). UnitsStand rooms names all from ms) (append-nil now) (last.rest [] s.none)
