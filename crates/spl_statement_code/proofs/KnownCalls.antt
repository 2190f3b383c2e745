-- The code of calls by themselves, worked by hand: results are dropped.
use Rattle.std.specs.Prelude.{◌≡◌, [], ◌∷◌, codes, false, true}
use Rattle.std.proofs.Common.{refl}
use Rattle.spl_code.specs.hp_instr.declared.instruction.Instr.TheVariants as i
use Rattle.spl_code.specs.hp_instr.declared.instruction.Mode.TheVariants.{QPlus}
use Rattle.spl_code.specs.spl_tree.Trees as tree
use Rattle.spl_code.specs.spl_tree.StatementTrees as stat
use Rattle.spl_code.specs.spl_branch.declared.pieces.Piece.TheVariants.{Call}
use Rattle.spl_code.specs.Instructions.{LDI, LOAD, ZERO, DZRO, DEL, DDEL}
use Rattle.spl_statement_code.specs.Statements.{statement}
use Rattle.spl_statement_code.proofs.KnownNames.{context, name, number, here, start, pieces_of}

-- F(1): one word is dropped
of_a_function : pieces_of (stat.Statement.call (codes "F") (tree.Trees.and (number 1) tree.Trees.none) here)
    ≡ start ∷ ZERO ∷ LDI 1 ∷ Call (i.Control 0 0) true 0 ∷ DEL ∷ []
of_a_function = refl

-- T, a DOUBLE: two words
of_a_subroutine : pieces_of (stat.Statement.call (codes "T") tree.Trees.none here) ≡ start ∷ DZRO ∷ Call (i.Control 3 0) false 3 ∷ DDEL ∷ []
of_a_subroutine = refl

-- C gives nothing
of_a_procedure : pieces_of (stat.Statement.call (codes "C") tree.Trees.none here) ≡ start ∷ Call (i.Control 0 0) true 0 ∷ []
of_a_procedure = refl

-- READ(A,5) and QUIT(1): of the first a word is dropped
of_a_typed_intrinsic : pieces_of (stat.Statement.call (codes "READ") (tree.Trees.and (name "A") (tree.Trees.and (number 5) tree.Trees.none)) here)
    ≡ start ∷ ZERO ∷ LOAD false false (QPlus 6) ∷ LDI 5 ∷ Call (i.Control 0 0) true 0 ∷ DEL ∷ []
of_a_typed_intrinsic = refl

of_an_intrinsic : pieces_of (stat.Statement.call (codes "QUIT") (tree.Trees.and (number 1) tree.Trees.none) here)
    ≡ start ∷ LDI 1 ∷ Call (i.Control 0 0) true 0 ∷ []
of_an_intrinsic = refl

-- what is wanted behind QUIT(1)
wanted_of_a_call : (statement context (stat.Statement.call (codes "QUIT") (tree.Trees.and (number 1) tree.Trees.none) here) 0 20 []).wants
    ≡ record { name = codes "QUIT"; gate = true } ∷ []
wanted_of_a_call = refl
