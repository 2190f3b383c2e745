-- The rooms of the bodies of a program, by place.
use Rattle.std.specs.Prelude.{◌+◌, false, if◌then◌else◌, List, [], ◌∷◌, ◌++◌, map, None}
use Rattle.spl_tree.specs.StatementTrees as stat
use Rattle.spl_tree.specs.StatementTrees.{statements}
use Rattle.spl_sound.specs.spl_meaning.Names.{Names, find, profile_of}
use Rattle.spl_sound.specs.spl_meaning.Tables.{Source, Routine, Subroutine, unit_table, routines_of, routine_table, routine_names, routine_subroutines, unit_subroutines, subroutine_names}
use Rattle.spl_sound.specs.spl_meaning.Places.{list_words, list_array_words}
use Rattle.spl_sound.specs.spl_meaning.Pending.{depth}
use Rattle.spl_sound.specs.spl_meaning.Bodies.{marker_gap}
use Rattle.spl_sound.specs.spl_meaning.Limits.{joined}
use Rattle.spl_formals.specs.ResultWords.{result_at}
use Rattle.spl_rooms.specs.declared.room_type.Room.{Room}

-- a subroutine, around which these names stand
abbrev pub room_within : Names → Subroutine → Room
room_within around s = record {
  at = s.heading.at;
  locals = 0;
  depth = depth (subroutine_names around s) (stat.Statements.and s.statement stat.Statements.none);
  result = result_at 0 (profile_of s.heading);
}

-- a procedure: its local words are those of its list
abbrev pub routine_room : Routine → Room
routine_room r = record {
  at = r.heading.at;
  locals = list_words false (routine_table r) + list_array_words false (routine_table r);
  depth = depth (routine_names r) (statements r.statements);
  result = result_at marker_gap (profile_of r.heading);
}

-- with its subroutines
abbrev pub routine_rooms : Routine → List Room
routine_rooms r = routine_room r ∷ map (room_within (routine_names r)) (routine_subroutines r)

-- a main body
abbrev pub main_room : Source → Room
main_room u = record { at = u.tree.at; locals = 0; depth = depth (find (unit_table u)) (statements u.tree.statements); result = None }

-- a unit: its main body, its procedures, and the subroutines of its main body
abbrev pub rooms_in : Source → List Room
rooms_in u =
    (if u.subprogram then [] else main_room u ∷ []) ++ joined routine_rooms (routines_of u)
    ++ map (room_within (find (unit_table u))) (unit_subroutines u)

-- a program
abbrev pub rooms_of : List Source → List Room
rooms_of us = joined rooms_in us
