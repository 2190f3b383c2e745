-- The code of whole bodies, worked by hand from their declarations. Of the statements it has one branch, that of a RETURN to the mark `leave`.
use Rattle.std.specs.Prelude.{◌≡◌, ℕ, [], ◌∷◌, List, codes, false, true, Some, None}
use Rattle.std.proofs.Common.{refl}
use Rattle.spl_code.specs.hp_word.Words.{word_of, double_of}
use Rattle.spl_code.specs.hp_word.Bytes.{high_word, low_word}
use Rattle.spl_code.specs.hp_instr.declared.instruction.Instr.TheVariants as i
use Rattle.spl_code.specs.hp_instr.declared.instruction.Mode.TheVariants.{QPlus}
use Rattle.spl_code.specs.spl_tree.declared.names_and_places.At.{At}
use Rattle.spl_code.specs.spl_tree.declared.expressions.Kind.{Kind}
use Rattle.spl_code.specs.spl_tree.declared.expressions.Kind.TheVariants as kind
use Rattle.spl_code.specs.spl_tree.Trees as tree
use Rattle.spl_code.specs.spl_tree.Trees.{Tree, Constant}
use Rattle.spl_code.specs.spl_tree.StatementTrees as stat
use Rattle.spl_code.specs.spl_tree.StatementTrees.{Statement}
use Rattle.spl_code.specs.spl_tree.DeclarationTrees as decl
use Rattle.spl_code.specs.spl_tree.DeclarationTrees.{Placed, Heading, Item, Declaration, declarations}
use Rattle.spl_code.specs.spl_meaning.Kinds.{plus, minus}
use Rattle.spl_code.specs.spl_meaning.Tables.{Routine, Subroutine, Source}
use Rattle.spl_code.specs.spl_meaning.Bodies.{Body, procedure_body, subroutine_body, main_body}
use Rattle.spl_code.specs.spl_branch.declared.pieces.Piece.TheVariants.{Do, Mark, Call}
use Rattle.spl_code.specs.Parts.{Written, piece}
use Rattle.spl_code.specs.Instructions.{LDI, LSL, ORI, LRA, STOR, BR, ZERO}
use Rattle.spl_body_code.specs.Frames.{ROOM, ADDS, EXIT, SXIT, SPLT, JOIN}
use Rattle.spl_body_code.specs.Cells.{LADD}
use Rattle.spl_body_code.specs.Bodies.{procedure_code, subroutine_code, main_code}
use Prim.Native.String.{String}

-- ---- declarations

-- where all stands in the text
abbrev nowhere : At
nowhere = record { unit = 1; line = 1; column = 1 }

abbrev placed : String → Placed
placed x = record { letters = codes x; at = nowhere }

-- a number without a sign
abbrev number : ℕ → Constant
number v = tree.Constant.number false v

-- an item by its shape, without and with an initial value
abbrev item : String → decl.Shape → Item
item x shape = record { name = codes x; at = nowhere; shape = shape; first = [] }

abbrev simple : String → Item
simple x = item x decl.Shape.simple

abbrev valued : String → Constant → Item
valued x v = record { name = codes x; at = nowhere; shape = decl.Shape.simple; first = v ∷ [] }

abbrev array : String → ℕ → ℕ → Item
array x low high = item x (decl.Shape.array (number low) (number high))

abbrev view : String → String → Item
view x base = item x (decl.Shape.view (codes base))

-- local items of a kind, and items that are OWN
abbrev local : Kind → List Item → Declaration
local k items = decl.Declaration.data_items false k items

abbrev own : Kind → List Item → Declaration
own k items = decl.Declaration.data_items true k items

-- an untyped heading without parameters
abbrev plain : String → Heading
plain x = record { result = None; name = codes x; names = []; values = []; specs = []; split = false; at = nowhere; segment = 0 }

-- a procedure with these declarations, which has no statements; its OWN items begin at 20, their arrays at 300
abbrev bare : Heading → List Declaration → Body
bare h ds = procedure_body [] 20 300 (record { heading = h; items = declarations ds; statements = []; globals = []; before = 0 })

-- the code of a procedure whose entry has mark 4, the marks from 9 on being new and no name wanted
abbrev code_of : Body → Written
code_of b = procedure_code b 4 (λ leave. piece (BR leave)) 9 []

-- ---- procedures

-- PROCEDURE P; the depth is 8
of_nothing : code_of (bare (plain "P") []) ≡ record {
  pieces = Mark 4 ∷ ROOM 8 ∷ BR 9 ∷ Mark 9 ∷ EXIT 0 ∷ [];
  marks = 1;
  wants = [];
}
of_nothing = refl

-- OPTION SPLIT, with INTEGER I: split mode behind the frame, and out of it behind the mark
of_a_split_one : (code_of (bare (record (plain "P") { split = true }) (local kind.Integer (simple "I" ∷ []) ∷ []))).pieces
    ≡ Mark 4 ∷ ROOM 9 ∷ ADDS 1 ∷ SPLT ∷ BR 9 ∷ Mark 9 ∷ JOIN ∷ EXIT 0 ∷ []
of_a_split_one = refl

-- INTEGER ARRAY A(0:298): a cell and 299 words, so 300, and 308 with the depth
of_300_words : (code_of (bare (plain "P") (local kind.Integer (array "A" 0 298 ∷ []) ∷ []))).pieces
    ≡ Mark 4 ∷ LDI 1 ∷ LSL 8 ∷ ORI 52 ∷ ROOM 0 ∷ ADDS 255 ∷ ADDS 45 ∷ LRA false false (QPlus 0) ∷ LDI 2 ∷ LADD ∷ STOR false false (QPlus 1)
    ∷ BR 9 ∷ Mark 9 ∷ EXIT 0 ∷ []
unfolding word_of
of_300_words = refl

-- INTEGER I:=7, ARRAY A(1:2); BYTE ARRAY B(*)=A; DOUBLE D:=3D: the words 1 to 5, the data in 6 and 7, whose cell is 6 - 1. Both cells come
-- before both values.
cells_before_values : (code_of (bare (plain "P")
    (local kind.Integer (valued "I" (number 7) ∷ array "A" 1 2 ∷ []) ∷ local kind.Byte (view "B" "A" ∷ [])
    ∷ local kind.Double (valued "D" (tree.Constant.wide false 3) ∷ []) ∷ []))).pieces
    ≡ Mark 4 ∷ ROOM 15 ∷ ADDS 7
    ∷ LRA false false (QPlus 0) ∷ LDI 5 ∷ LADD ∷ STOR false false (QPlus 2)
    ∷ LRA false false (QPlus 0) ∷ LDI 5 ∷ LADD ∷ LSL 1 ∷ STOR false false (QPlus 3)
    ∷ LDI 7 ∷ STOR false false (QPlus 1)
    ∷ LDI 0 ∷ LDI 3 ∷ Do (i.Memory 14 true false false (QPlus 4))
    ∷ BR 9 ∷ Mark 9 ∷ EXIT 0 ∷ []
unfolding word_of double_of high_word low_word
cells_before_values = refl

-- OWN INTEGER ARRAY A(0:1):=7,8; INTEGER ARRAY H(*)=A: the cell of H alone is set here, from the address of A's data
of_an_own_array : (code_of (bare (plain "R")
    (own kind.Integer (record { name = codes "A"; at = nowhere; shape = decl.Shape.array (number 0) (number 1); first = number 7 ∷ number 8 ∷ [] } ∷ [])
    ∷ local kind.Integer (view "H" "A" ∷ []) ∷ []))).pieces
    ≡ Mark 4 ∷ ROOM 9 ∷ ADDS 1 ∷ LDI 1 ∷ LSL 8 ∷ ORI 44 ∷ STOR false false (QPlus 1) ∷ BR 9 ∷ Mark 9 ∷ EXIT 0 ∷ []
unfolding word_of
of_an_own_array = refl

-- ---- SUM of N elements

abbrev name : String → Tree
name x = tree.Tree.named (codes x) tree.Trees.none nowhere

abbrev sum_of : Tree → Tree → Tree
sum_of a b = tree.Tree.binary plus a b nowhere

abbrev assigned : String → Tree → Statement
assigned x e = stat.Statement.assign (stat.Target.plain (name x)) e nowhere

-- INTEGER PROCEDURE SUM(A,N); VALUE N; INTEGER ARRAY A; INTEGER N; BEGIN INTEGER I,T; FOR I:=0 UNTIL N-1 DO T:=T+A(I); SUM:=T END
abbrev sum_routine : Routine
sum_routine = record {
  heading = record {
    result = Some kind.Integer;
    name = codes "SUM";
    names = placed "A" ∷ placed "N" ∷ [];
    values = placed "N" ∷ [];
    specs = record { kind = kind.Integer; array = true; names = placed "A" ∷ [] } ∷ record { kind = kind.Integer; array = false; names = placed "N" ∷ [] } ∷ [];
    split = false;
    at = nowhere;
    segment = 0;
  };
  items = declarations (local kind.Integer (simple "I" ∷ simple "T" ∷ []) ∷ []);
  statements =
      stat.Statement.for_values (codes "I") (tree.Tree.number 0) tree.Trees.none (tree.Tree.binary minus (name "N") (tree.Tree.number 1) nowhere)
      (assigned "T" (sum_of (name "T") (tree.Tree.named (codes "A") (tree.Trees.and (name "I") tree.Trees.none) nowhere))) nowhere
      ∷ assigned "SUM" (name "T") ∷ [];
  globals = [];
  before = 0;
}

-- the depth is 12, and there are two local words; EXIT deletes the two parameters and leaves the result
of_sum : (code_of (procedure_body [] 20 300 sum_routine)).pieces ≡ Mark 4 ∷ ROOM 14 ∷ ADDS 2 ∷ BR 9 ∷ Mark 9 ∷ EXIT 2 ∷ []
of_sum = refl

-- ---- subroutines

-- INTEGER SUBROUTINE S(I,D); VALUE I,D; INTEGER I; DOUBLE D; the empty statement: one word and two
abbrev three_words : Subroutine
three_words = record {
  heading = record {
    result = Some kind.Integer;
    name = codes "S";
    names = placed "I" ∷ placed "D" ∷ [];
    values = placed "I" ∷ placed "D" ∷ [];
    specs = record { kind = kind.Integer; array = false; names = placed "I" ∷ [] } ∷ record { kind = kind.Double; array = false; names = placed "D" ∷ [] } ∷ [];
    split = false;
    at = nowhere;
    segment = 0;
  };
  statement = stat.Statement.empty;
  before = 0;
}

of_a_subroutine : subroutine_code (subroutine_body (bare (plain "P") []) three_words) 5 (λ leave. piece (BR leave)) 9 [] ≡ record {
  pieces = Mark 5 ∷ ROOM 8 ∷ BR 9 ∷ Mark 9 ∷ SXIT 3 ∷ [];
  marks = 1;
  wants = [];
}
of_a_subroutine = refl

-- in a split procedure it stays in split mode
in_a_split_one : (subroutine_code (subroutine_body (bare (record (plain "P") { split = true }) []) three_words) 5 (λ leave. piece (BR leave)) 9 []).pieces
    ≡ Mark 5 ∷ ROOM 8 ∷ BR 9 ∷ Mark 9 ∷ SXIT 3 ∷ []
in_a_split_one = refl

-- ---- main bodies

-- a main body without statements, which has globals: its data are no part of its code
abbrev some_unit : Source
some_unit = record {
  subprogram = false;
  segments = codes "SEG'" ∷ [];
  tree = record { items = local kind.Integer (array "A" 0 9 ∷ []) ∷ []; statements = []; segment = 0; at = nowhere };
}

of_a_main_body : main_code (main_body [] some_unit) 4 (piece ZERO) 9 [] ≡ record {
  pieces = Mark 4 ∷ ROOM 8 ∷ ZERO ∷ Call (i.Control 0 0) true 0 ∷ [];
  marks = 0;
  wants = record { name = codes "TERMINATE"; gate = true } ∷ [];
}
of_a_main_body = refl

-- where TERMINATE is wanted already it is wanted once; a depth of 300 = 1 * 256 + 44
of_a_deep_one : main_code (record (main_body [] some_unit) { depth' = 300 }) 4 (piece ZERO) 9
    (record { name = codes "QUIT"; gate = true } ∷ record { name = codes "TERMINATE"; gate = true } ∷ []) ≡ record {
      pieces = Mark 4 ∷ LDI 1 ∷ LSL 8 ∷ ORI 44 ∷ ROOM 0 ∷ ZERO ∷ Call (i.Control 0 0) true 1 ∷ [];
      marks = 0;
      wants = record { name = codes "QUIT"; gate = true } ∷ record { name = codes "TERMINATE"; gate = true } ∷ [];
    }
of_a_deep_one = refl
