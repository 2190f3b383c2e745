-- Statements that runs begin: each program by its text, with their numbers, lines, columns and condition codes, and some words.
use Rattle.std.specs.Prelude.{List, [], ◌∷◌, Some, None}
use Rattle.spl_meaning.specs.hp_word.declared.arithmetic.Code.TheVariants.{Greater}
use Rattle.spl_known.specs.Programs.{KnownBegun}

-- a loop, its body three times, and the call; I stands at 0 and K at 1
abbrev pub loop_of_three : KnownBegun
loop_of_three = record {
  text = "BEGIN INTEGER I,K; INTRINSIC QUIT;\nFOR I:=1 UNTIL 3 DO\nK:=K+I;\nQUIT(K) END.";
  steps = 9999;
  addresses = 0 ∷ 1 ∷ [];
  begun =
      (0, 2, 1, None, Some 0 ∷ Some 0 ∷ []) ∷ (1, 3, 1, None, Some 1 ∷ Some 0 ∷ []) ∷ (1, 3, 1, None, Some 2 ∷ Some 1 ∷ []) ∷ (1, 3, 1, None, Some 3 ∷ Some 3 ∷ [])
      ∷ (2, 4, 1, None, Some 4 ∷ Some 6 ∷ []) ∷ [];
}

-- the same, cut after the main body, the loop, its first test and the first statement in it
abbrev pub loop_cut_off : KnownBegun
loop_cut_off = record loop_of_three { steps = 4; begun = (0, 2, 1, None, Some 0 ∷ Some 0 ∷ []) ∷ (1, 3, 1, None, Some 1 ∷ Some 0 ∷ []) ∷ [] }

-- a loop without a variable, a block, a label and an empty statement are no places to stop at
abbrev pub silent_statements : KnownBegun
silent_statements = record {
  text = "BEGIN INTEGER I;\nWHILE I<1 DO\nBEGIN ;\nL: I:=1 END END.";
  steps = 9999;
  addresses = [];
  begun = (0, 4, 4, None, []) ∷ [];
}

-- a call has its parameter at 4, below its marker, and its local word at 9, above it; both end with it
abbrev pub call_of_a_procedure : KnownBegun
call_of_a_procedure = record {
  text = "BEGIN\nPROCEDURE P(C); VALUE C; INTEGER C; BEGIN INTEGER V;\nV:=C+1;\nRETURN; END;\nP(7);\nGOTO L; L: END.";
  steps = 9999;
  addresses = 4 ∷ 9 ∷ [];
  begun =
      (2, 5, 1, None, None ∷ None ∷ []) ∷ (0, 3, 1, None, Some 7 ∷ Some 0 ∷ []) ∷ (1, 4, 1, None, Some 7 ∷ Some 8 ∷ []) ∷ (3, 6, 1, None, None ∷ None ∷ []) ∷ [];
}

-- The statements of one use of a DEFINE share its place and have their own numbers; those of a subroutine come before those of its
-- procedure, and these before the main body's.
abbrev pub statements_at_one_place : KnownBegun
statements_at_one_place = record {
  text = "BEGIN DEFINE D=I:=I+1; I:=I*2#; INTEGER I;\nPROCEDURE P; BEGIN SUBROUTINE S; D;\nS; I:=I+3 END;\nP; D END.";
  steps = 9999;
  addresses = 0 ∷ [];
  begun =
      (4, 4, 1, None, Some 0 ∷ []) ∷ (1, 2, 34, None, Some 0 ∷ []) ∷ (2, 3, 1, None, Some 0 ∷ []) ∷ (0, 2, 34, None, Some 0 ∷ []) ∷ (3, 3, 4, None, Some 1 ∷ [])
      ∷ (5, 4, 4, None, Some 4 ∷ []) ∷ (6, 4, 4, None, Some 5 ∷ []) ∷ [];
}

-- behind a READ with no line left the test has its condition code, CCG
abbrev pub code_behind_a_read : KnownBegun
code_behind_a_read = record {
  text = "BEGIN INTEGER N; LOGICAL ARRAY W(0:1); INTRINSIC READ;\nN:=READ(W,-4);\nIF > THEN N:=5 END.";
  steps = 9999;
  addresses = 0 ∷ [];
  begun = (0, 2, 1, None, Some 0 ∷ []) ∷ (1, 3, 1, Some Greater, Some 0 ∷ []) ∷ (2, 3, 11, None, Some 0 ∷ []) ∷ [];
}

-- all of these
abbrev pub begun_runs : List KnownBegun
begun_runs = loop_of_three ∷ loop_cut_off ∷ silent_statements ∷ call_of_a_procedure ∷ statements_at_one_place ∷ code_behind_a_read ∷ []
