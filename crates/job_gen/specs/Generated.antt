-- The lines of a generated job: eight programs of eighty procedures each, and two sessions of each program.
use Rattle.std.specs.Prelude.{ℕ, zero, suc, ◌-◌, ◌/◌, ◌%◌, ◌==◌, if◌then◌else◌, List, [], ◌∷◌, ◌++◌, codes}
use Rattle.std.specs.Fmt.{decimal}
use Rattle.job_gen.specs.Pieces.{bytes, draw, Line, text_of}

-- a line with no draw
abbrev pub plain : List ℕ → Line
plain b = bytes b ∷ []

-- ---- a program's unit

-- procedure 0 calls none
abbrev pub first_procedure : Line
first_procedure = bytes (codes "LOGICAL PROCEDURE P0(V); VALUE V; LOGICAL V; BEGIN P0:=V*") ∷ draw ∷ bytes (codes "+") ∷ draw ∷ bytes (codes "; END;") ∷ []

-- each later one calls the one before it
abbrev pub later_procedure : ℕ → Line
later_procedure k =
    bytes (codes "LOGICAL PROCEDURE P") ∷ bytes (decimal k) ∷ bytes (codes "(V); VALUE V; LOGICAL V; BEGIN P") ∷ bytes (decimal k)
    ∷ bytes (codes ":=P") ∷ bytes (decimal (k - 1)) ∷ bytes (codes "(V+") ∷ draw ∷ bytes (codes ")*") ∷ draw ∷ bytes (codes "+") ∷ draw
    ∷ bytes (codes "; END;") ∷ []

abbrev pub procedure : ℕ → Line
procedure k = if k == 0 then first_procedure else later_procedure k

-- ten procedures stand in a segment; the line of the segment comes before the first of them
abbrev pub segment : ℕ → Line
segment s = plain (codes "$CONTROL SEGMENT=S" ++ decimal s)

abbrev pub procedure_lines : ℕ → List Line
procedure_lines k = if k % 10 == 0 then segment (k / 10) ∷ procedure k ∷ [] else procedure k ∷ []

-- the procedures below n
unfoldable pub procedures : ℕ → List Line
procedures zero = []
procedures (suc n) = procedures n ++ procedure_lines n

abbrev pub declarations : List Line
declarations =
    plain (codes "BEGIN LOGICAL S; LOGICAL ARRAY W(0:9); BYTE ARRAY B(*)=W; INTEGER I,N;")
    ∷ plain (codes "INTRINSIC PRINT,ASCII,TERMINATE;") ∷ []

-- the main body calls the last procedure twenty times, and prints what comes of it
abbrev pub calls : Line
calls = bytes (codes "S:=") ∷ draw ∷ bytes (codes "; FOR I:=1 UNTIL 20 DO S:=P79(S);") ∷ []

abbrev pub main_body : List Line
main_body =
    plain (codes "$CONTROL SEGMENT=MAIN")
    ∷ calls
    ∷ plain (codes "N:=ASCII(S,10,B); PRINT(W,-N,0); TERMINATE END.") ∷ []

-- the lines of a unit; that of each program has the same, with other draws
unfoldable pub unit_lines : List Line
unit_lines = declarations ++ procedures 80 ++ main_body

-- ---- the job

abbrev pub settings : List Line
settings = plain (codes "!JOB") ∷ plain (codes "!MEMORY 24576") ∷ plain (codes "!QUANTUM 50") ∷ plain (codes "!TURNS 1000000") ∷ []

-- the name of program j
abbrev pub name : ℕ → List ℕ
name j = codes "G" ++ decimal j

abbrev pub program : ℕ → List Line
program j = plain (codes "!PROGRAM " ++ name j) ∷ plain (codes "!UNIT") ∷ unit_lines

-- the programs 1 to n
unfoldable pub programs : ℕ → List Line
programs zero = []
programs (suc n) = programs n ++ program (suc n)

abbrev pub session : ℕ → Line
session j = plain (codes "!SESSION " ++ name j)

-- two sessions of each of the programs 1 to n
unfoldable pub sessions : ℕ → List Line
sessions zero = []
sessions (suc n) = sessions n ++ session (suc n) ∷ session (suc n) ∷ []

unfoldable pub job_lines : List Line
job_lines = settings ++ programs 8 ++ sessions 8 ++ plain (codes "!EOJ") ∷ []

-- the text of the generated job with number n
unfoldable pub generated : ℕ → List ℕ
generated n = text_of n job_lines
