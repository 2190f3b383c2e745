-- The tables of the manual's page: one line for each operation, its code and its name, in the order of the codes.
-- What is not listed is no operation.
use Rattle.std.specs.Prelude.{◌==◌, ℕ, Bool, List, [], ◌∷◌, codes}
use Rattle.std.specs.List.{list_any}

-- a line of a table
pub record Line : Type 0 where
  pub code : ℕ
  pub name : List ℕ

-- the line with a code and a name
abbrev pub line : ℕ → List ℕ → Line
line code name = record { code = code; name = name }

-- whether a table has a line with this code
abbrev pub is_listed : List Line → ℕ → Bool
is_listed table code = list_any (λ entry. entry.code == code) table

-- major 0, each half: operations on the words at the top of the stack
abbrev pub stack_operations : List Line
stack_operations =
    line 0o00 (codes "NOP") ∷
    line 0o01 (codes "DELB") ∷
    line 0o02 (codes "DDEL") ∷
    line 0o03 (codes "ZROX") ∷
    line 0o04 (codes "INCX") ∷
    line 0o05 (codes "DECX") ∷
    line 0o06 (codes "ZERO") ∷
    line 0o07 (codes "DZRO") ∷
    line 0o10 (codes "DCMP") ∷
    line 0o11 (codes "DADD") ∷
    line 0o12 (codes "DSUB") ∷
    line 0o15 (codes "DNEG") ∷
    line 0o16 (codes "DXCH") ∷
    line 0o17 (codes "CMP") ∷
    line 0o20 (codes "ADD") ∷
    line 0o21 (codes "SUB") ∷
    line 0o22 (codes "MPY") ∷
    line 0o23 (codes "DIV") ∷
    line 0o24 (codes "NEG") ∷
    line 0o25 (codes "TEST") ∷
    line 0o26 (codes "STBX") ∷
    line 0o27 (codes "DTST") ∷
    line 0o31 (codes "BTST") ∷
    line 0o32 (codes "XCH") ∷
    line 0o33 (codes "INCA") ∷
    line 0o34 (codes "DECA") ∷
    line 0o35 (codes "XAX") ∷
    line 0o36 (codes "ADAX") ∷
    line 0o37 (codes "ADXA") ∷
    line 0o40 (codes "DEL") ∷
    line 0o41 (codes "ZROB") ∷
    line 0o42 (codes "LDXB") ∷
    line 0o43 (codes "STAX") ∷
    line 0o44 (codes "LDXA") ∷
    line 0o45 (codes "DUP") ∷
    line 0o46 (codes "DDUP") ∷
    line 0o56 (codes "CAB") ∷
    line 0o60 (codes "LCMP") ∷
    line 0o61 (codes "LADD") ∷
    line 0o62 (codes "LSUB") ∷
    line 0o63 (codes "LMPY") ∷
    line 0o64 (codes "LDIV") ∷
    line 0o65 (codes "NOT") ∷
    line 0o66 (codes "OR") ∷
    line 0o67 (codes "XOR") ∷
    line 0o70 (codes "AND") ∷
    line 0o74 (codes "INCB") ∷
    line 0o75 (codes "DECB") ∷
    line 0o76 (codes "XBX") ∷
    []

-- major 1: shifts of the top word by a count
abbrev pub shifts : List Line
shifts =
    line 0o00 (codes "ASL") ∷
    line 0o01 (codes "ASR") ∷
    line 0o02 (codes "LSL") ∷
    line 0o03 (codes "LSR") ∷
    line 0o04 (codes "CSL") ∷
    line 0o05 (codes "CSR") ∷
    []

-- major 1: branches with a short displacement, on the top words, X, the carry or the overflow
abbrev pub short_branches : List Line
short_branches =
    line 0o10 (codes "IABZ") ∷
    line 0o11 (codes "DABZ") ∷
    line 0o12 (codes "IXBZ") ∷
    line 0o13 (codes "DXBZ") ∷
    line 0o14 (codes "CPRB") ∷
    line 0o15 (codes "BRO") ∷
    line 0o16 (codes "BRE") ∷
    line 0o17 (codes "BCY") ∷
    line 0o20 (codes "BNCY") ∷
    line 0o21 (codes "BOV") ∷
    line 0o22 (codes "BNOV") ∷
    []

-- major 2 with code 0: what the number n says, the window split or joined
abbrev pub window_operations : List Line
window_operations =
    line 1 (codes "SPLT") ∷
    line 2 (codes "JOIN") ∷
    []

-- major 2 with another code: operations with an immediate number or a field
abbrev pub immediates : List Line
immediates =
    line 1 (codes "LDI") ∷
    line 2 (codes "LDXI") ∷
    line 3 (codes "CMPI") ∷
    line 4 (codes "ADDI") ∷
    line 5 (codes "SUBI") ∷
    line 6 (codes "MPYI") ∷
    line 7 (codes "DIVI") ∷
    line 8 (codes "LDNI") ∷
    line 9 (codes "LDXN") ∷
    line 10 (codes "CMPN") ∷
    line 11 (codes "EXF") ∷
    line 12 (codes "DPF") ∷
    line 13 (codes "ANDI") ∷
    line 14 (codes "ORI") ∷
    line 15 (codes "XORI") ∷
    []

-- major 3: calls, room on the stack, and moves
abbrev pub controls : List Line
controls =
    line 0 (codes "PCAL") ∷
    line 1 (codes "EXIT") ∷
    line 2 (codes "SXIT") ∷
    line 3 (codes "SCAL") ∷
    line 4 (codes "ADXI") ∷
    line 5 (codes "SBXI") ∷
    line 6 (codes "ROOM") ∷
    line 7 (codes "ADDS") ∷
    line 8 (codes "SUBS") ∷
    line 9 (codes "MOVE") ∷
    line 10 (codes "MVB") ∷
    line 11 (codes "MVBW") ∷
    line 12 (codes "SCW") ∷
    line 13 (codes "SCU") ∷
    line 14 (codes "CMPB") ∷
    []

-- majors 4 to 15 with bit 6 zero: operations on a word in memory, by their major
abbrev pub first_references : List Line
first_references =
    line 10 (codes "INCM") ∷
    line 13 (codes "LDB") ∷
    line 14 (codes "STB") ∷
    []

-- majors 4 to 15 with bit 6 one: operations on a word in memory, by their major
abbrev pub second_references : List Line
second_references =
    line 4 (codes "LOAD") ∷
    line 5 (codes "STOR") ∷
    line 6 (codes "CMPM") ∷
    line 7 (codes "ADDM") ∷
    line 8 (codes "SUBM") ∷
    line 9 (codes "MPYM") ∷
    line 10 (codes "DECM") ∷
    line 11 (codes "LDX") ∷
    line 13 (codes "LDD") ∷
    line 14 (codes "STD") ∷
    line 15 (codes "LRA") ∷
    []
