-- The code of labels, GO TO and RETURN, worked by hand, with the marks that labels set.
use Rattle.std.specs.Prelude.{◌≡◌, [], ◌∷◌, codes, false, true}
use Rattle.std.proofs.Common.{refl}
use Rattle.spl_code.specs.hp_instr.declared.instruction.Mode.TheVariants.{QPlus}
use Rattle.spl_code.specs.spl_tree.StatementTrees as stat
use Rattle.spl_code.specs.spl_branch.declared.pieces.Piece.TheVariants.{Mark}
use Rattle.spl_code.specs.Instructions.{LDI, STOR, BR}
use Rattle.spl_statement_code.specs.Instructions.{SUBS}
use Rattle.spl_statement_code.specs.Labels.{marks_inside, all_set}
use Rattle.spl_statement_code.proofs.KnownNames.{context, set_to, both, here, start, pieces_of, pieces_while}

-- OUT: I:=1
labelled : pieces_of (stat.Statement.labelled (codes "OUT") here (set_to "I" 1)) ≡ Mark 3 ∷ SUBS 0 ∷ start ∷ LDI 1 ∷ STOR false false (QPlus 1) ∷ []
labelled = refl

-- OUT: HERE: ;
labelled_twice : pieces_of (stat.Statement.labelled (codes "OUT") here (stat.Statement.labelled (codes "HERE") here stat.Statement.empty))
    ≡ Mark 3 ∷ SUBS 0 ∷ Mark 4 ∷ SUBS 0 ∷ SUBS 0 ∷ []
labelled_twice = refl

-- GO TO OUT from within two FORs; GO TO HERE from the inner one, and in the list of HERE itself
out_of_two : pieces_while 6 (stat.Statement.go_to (codes "OUT") here) ≡ start ∷ SUBS 6 ∷ BR 3 ∷ []
out_of_two = refl

out_of_one : pieces_while 6 (stat.Statement.go_to (codes "HERE") here) ≡ start ∷ SUBS 3 ∷ BR 4 ∷ []
out_of_one = refl

out_of_none : pieces_while 3 (stat.Statement.go_to (codes "HERE") here) ≡ start ∷ SUBS 0 ∷ BR 4 ∷ []
out_of_none = refl

-- RETURN drops what waits; more than 255 words are dropped by more than one instruction
returned : pieces_of (stat.Statement.return here) ≡ start ∷ SUBS 0 ∷ BR 5 ∷ []
returned = refl

returned_from_two : pieces_while 6 (stat.Statement.return here) ≡ start ∷ SUBS 6 ∷ BR 5 ∷ []
returned_from_two = refl

returned_from_most : pieces_while 255 (stat.Statement.return here) ≡ start ∷ SUBS 255 ∷ BR 5 ∷ []
returned_from_most = refl

returned_from_many : pieces_while 600 (stat.Statement.return here) ≡ start ∷ SUBS 255 ∷ SUBS 255 ∷ SUBS 90 ∷ BR 5 ∷ []
returned_from_many = refl

-- the marks that labels set, in order of text: BEGIN OUT: ; HERE: ; END
marks_in_a_block : marks_inside context
    (stat.Statement.block
    (both (stat.Statement.labelled (codes "OUT") here stat.Statement.empty) (stat.Statement.labelled (codes "HERE") here stat.Statement.empty)))
    ≡ 3 ∷ 4 ∷ []
marks_in_a_block = refl

no_marks : marks_inside context (stat.Statement.go_to (codes "OUT") here) ≡ []
no_marks = refl

set_in_order : all_set (false ∷ false ∷ true ∷ false ∷ []) (3 ∷ 0 ∷ []) ≡ true ∷ false ∷ true ∷ true ∷ []
set_in_order = refl
