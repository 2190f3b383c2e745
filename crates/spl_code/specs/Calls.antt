-- Calls: the words of the result, and the call itself.
use Rattle.std.specs.Prelude.{ℕ, false, List, [], ◌∷◌, Option, Some, None}
use Rattle.spl_branch.specs.hp_instr.declared.instruction.Instr.TheVariants as i
use Rattle.spl_meaning.specs.spl_tree.declared.expressions.Kind.{Kind}
use Rattle.spl_meaning.specs.spl_tree.declared.expressions.Kind.TheVariants as kind
use Rattle.spl_meaning.specs.Names.{Names}
use Rattle.spl_meaning.specs.Places.{Place}
use Rattle.spl_meaning.specs.Values.{Who, procedure, subroutine}
use Rattle.spl_branch.specs.declared.pieces.Piece.{Piece}
use Rattle.spl_branch.specs.declared.pieces.Piece.TheVariants.{Call}
use Rattle.spl_code.specs.Instructions.{ZERO, DZRO, LSR}
use Rattle.spl_code.specs.Parts.{Part, piece, nothing, call_wanted}

-- What the code of a body is made with: its names and places; the entries of the module's procedures and of the body's subroutines, each by
-- its index among the module's entries.
pub record Scope : Type 0 where
  pub names : Names
  pub places : List ℕ → Option Place
  pub procedures : List ℕ → Option ℕ
  pub subroutines : List ℕ → Option ℕ

-- zeros for the words of a result
abbrev pub result_room : Option Kind → List Piece
result_room None = []
result_room (Some kind.Double) = DZRO ∷ []
result_room (Some _) = ZERO ∷ []

-- a result as a value: a BYTE stands in the left half of its word
abbrev pub result_taken : Option Kind → List Piece
result_taken (Some kind.Byte) = LSR 8 ∷ []
result_taken _ = []

-- PCAL of a procedure: of this module by its entry, of another by what is wanted
abbrev pub procedure_called : List ℕ → Option ℕ → Part
procedure_called x (Some entry) = piece (Call (i.Control 0 0) false entry)
procedure_called x None = call_wanted x false

-- SCAL of a subroutine by its entry
abbrev pub subroutine_called : Option ℕ → Part
subroutine_called (Some entry) = piece (Call (i.Control 3 0) false entry)
subroutine_called None = nothing

-- the call of a procedure or a subroutine
abbrev pub called : Scope → Who → Part
called c (procedure x) = procedure_called x (c.procedures x)
called c (subroutine x) = subroutine_called (c.subroutines x)
