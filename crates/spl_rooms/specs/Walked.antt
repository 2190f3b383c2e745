-- The rooms of bodies as they are found along declarations, with names in place of tables.
use Rattle.std.specs.Prelude.{ℕ, ◌+◌, if◌then◌else◌, List, [], ◌∷◌, ◌++◌, Option, None, false}
use Rattle.spl_tree.specs.StatementTrees as stat
use Rattle.spl_tree.specs.StatementTrees.{Statement, statements}
use Rattle.spl_tree.specs.DeclarationTrees as decl
use Rattle.spl_tree.specs.DeclarationTrees.{Heading, Declaration, Declarations, declarations}
use Rattle.spl_sound.specs.spl_meaning.Names.{Names, find, nothing_declared, parameters, formals_of, profile_of}
use Rattle.spl_sound.specs.spl_meaning.Tables.{Source}
use Rattle.spl_sound.specs.spl_meaning.Places.{item_words, array_words}
use Rattle.spl_sound.specs.spl_meaning.Pending.{depth}
use Rattle.spl_sound.specs.spl_meaning.Bodies.{marker_gap}
use Rattle.spl_places.specs.spl_found.OwnNames.{over, behind_declaration, behind_declarations}
use Rattle.spl_places.specs.ListedData.{Datum, list_data}
use Rattle.spl_places.specs.Counters.{total_words}
use Rattle.spl_formals.specs.ResultWords.{result_at}
use Rattle.spl_rooms.specs.declared.room_type.Room.{Room}

-- a subroutine, around which these names stand
abbrev pub subroutine_room : Names → Heading → Statement → Room
subroutine_room around h s = record {
  at = h.at;
  locals = 0;
  depth = depth (over (find (parameters (formals_of h))) around) (stat.Statements.and s stat.Statements.none);
  result = result_at 0 (profile_of h);
}

-- a declaration, where it is a subroutine
abbrev pub inner_rooms : Names → Declaration → List Room
inner_rooms around (decl.Declaration.subroutine h s) = subroutine_room around h s ∷ []
inner_rooms around d = []

-- the subroutines among declarations
abbrev pub subroutines_rooms : Names → Declarations → List Room
subroutines_rooms around decl.none = []
subroutines_rooms around (decl.and d ds) = inner_rooms around d ++ subroutines_rooms around ds

-- the local words of items
abbrev pub local_words : List Datum → ℕ
local_words ds = total_words false item_words ds + total_words false array_words ds

-- the depth of a body
abbrev pub body_depth : Names → List Statement → ℕ
body_depth names ss = depth names (statements ss)

-- the place of a procedure's result
abbrev pub procedure_result : Heading → Option ℕ
procedure_result h = result_at marker_gap (profile_of h)

-- a procedure, with the names outside it
abbrev pub procedure_rooms : Names → Heading → Declarations → List Statement → List Room
procedure_rooms globals h ds ss =
    let own = behind_declarations globals (find (parameters (formals_of h))) ds in
    record {
      at = h.at;
      locals = local_words (list_data globals (find (parameters (formals_of h))) ds);
      depth = body_depth (over own globals) ss;
      result = procedure_result h;
    } ∷ subroutines_rooms (over own globals) ds

-- a declaration, where it is a procedure
abbrev pub global_rooms : Names → Declaration → List Room
global_rooms globals (decl.Declaration.procedure h items ss) = procedure_rooms globals h items ss
global_rooms globals d = []

-- the procedures among declarations, each with the names behind its heading
abbrev pub globals_rooms : Names → Declarations → List Room
globals_rooms here decl.none = []
globals_rooms here (decl.and d ds) =
    global_rooms (behind_declaration nothing_declared here d) d ++ globals_rooms (behind_declaration nothing_declared here d) ds

-- the main body of a unit that is no subprogram
abbrev pub main_rooms : Names → Source → List Room
main_rooms own u =
    if u.subprogram then [] else record { at = u.tree.at; locals = 0; depth = body_depth own u.tree.statements; result = None } ∷ []

-- a unit
abbrev pub unit_rooms : Source → List Room
unit_rooms u =
    let ds = declarations u.tree.items in
    let own = behind_declarations nothing_declared nothing_declared ds in
    main_rooms own u ++ globals_rooms nothing_declared ds ++ subroutines_rooms (over own nothing_declared) ds
