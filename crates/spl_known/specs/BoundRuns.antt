-- How many words some segments may have.
use Rattle.std.specs.Prelude.{List, [], ◌∷◌}
use Rattle.spl_known.specs.Programs.{KnownBound}

-- the unit, three statements, two targets with their references, and four expressions more: 13 nodes; the main body, QUIT and
-- TERMINATE
abbrev pub sum_and_quit : KnownBound
sum_and_quit =
    record { text = "BEGIN INTEGER I; INTRINSIC QUIT; I:=2; I:=I+3; QUIT(I) END."; segment = "SEG'"; words = 316 }

-- a heading, a body, a statement and its five parts: 8 nodes; one entry
abbrev pub procedure_alone : KnownBound
procedure_alone = record {
  text = "BEGIN INTEGER K; INTRINSIC QUIT;\n$CONTROL SEGMENT=ONE\nPROCEDURE P; K:=K+1;\n$CONTROL SEGMENT=TWO\nP; P; QUIT(K) END.";
  segment = "ONE";
  words = 194;
}

-- the unit, three statements and an expression: 5 nodes; the main body, P of the other segment once, QUIT and TERMINATE
abbrev pub main_body_alone : KnownBound
main_body_alone = record procedure_alone { segment = "TWO"; words = 125 }

-- a unit, a statement, an effect with a reference and a source: 5 nodes, and 3 words of the string; two entries
abbrev pub string_of_five : KnownBound
string_of_five = record { text = "BEGIN BYTE ARRAY B(0:9); MOVE B:=\"HELLO\" END."; segment = "SEG'"; words = 126 }

-- A subroutine is a declaration, a heading, and a statement with its target, reference and number, and has an entry. The procedure
-- around it has a heading, a body, a declaration with an item, and two statements, one of them empty: 12 nodes, two entries.
abbrev pub subroutine_in_a_procedure : KnownBound
subroutine_in_a_procedure = record {
  text = "BEGIN PROCEDURE P; BEGIN INTEGER I; SUBROUTINE S; I:=1; S; END;\n$CONTROL SEGMENT=TWO\nP END.";
  segment = "SEG'";
  words = 291;
}

-- all of these
abbrev pub bound_runs : List KnownBound
bound_runs = sum_and_quit ∷ procedure_alone ∷ main_body_alone ∷ string_of_five ∷ subroutine_in_a_procedure ∷ []
