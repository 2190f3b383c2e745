-- Labels of bodies, worked by hand.
use Rattle.std.specs.Prelude.{◌≡◌, true, false, [], ◌∷◌, codes, refl}
use Prim.Native.String.{String}
use Rattle.spl_statement_code.specs.hp_instr.declared.instruction.Instr.TheVariants as i
use Rattle.spl_statement_code.specs.hp_instr.declared.instruction.Mode.TheVariants.{DbPlus}
use Rattle.spl_statement_code.specs.spl_tree.declared.expressions.Kind.TheVariants as kind
use Rattle.spl_statement_code.specs.spl_tree.Trees as tree
use Rattle.spl_statement_code.specs.spl_tree.StatementTrees as stat
use Rattle.spl_statement_code.specs.spl_tree.StatementTrees.{Statement, statements}
use Rattle.spl_statement_code.specs.spl_meaning.Tables.{Source}
use Rattle.spl_statement_code.specs.spl_branch.declared.pieces.Piece.TheVariants.{Mark, Call, Begin}
use Rattle.spl_statement_code.specs.spl_code.Instructions.{LDI, STOR, BR}
use Rattle.spl_statement_code.specs.Instructions.{SUBS}
use Rattle.spl_body_code.specs.Frames.{ROOM}
use Rattle.spl_modules.specs.spl_scopes.Scopes.{first_reached}
use Rattle.spl_module_code.specs.LabelsOfBodies.{labels_among}
use Rattle.spl_module_code.specs.Modules.{module_written}
use Rattle.spl_module_code.proofs.KnownUnits.{nowhere, simple, unit_of}

abbrev label : String → Statement → Statement
label x s = stat.Statement.labelled (codes x) nowhere s

abbrev jump : String → Statement
jump x = stat.Statement.go_to (codes x) nowhere

-- FOR I:=1 UNTIL 2 DO s
abbrev twice : Statement → Statement
twice s = stat.Statement.for_values (codes "I") (tree.Tree.number 1) tree.Trees.none (tree.Tree.number 2) s nowhere

-- A: FOR .. DO BEGIN B: ; FOR .. DO C: END; D: CASE 0 OF BEGIN E: ; F: END
labels_of_lists :
    labels_among (statements (label "A" (twice (stat.Statement.block (statements (label "B" stat.Statement.empty ∷ twice (label "C" stat.Statement.empty) ∷ []))))
    ∷ label "D" (stat.Statement.case_of (tree.Tree.number 0) (statements (label "E" stat.Statement.empty ∷ label "F" stat.Statement.empty ∷ [])) nowhere) ∷ [])) 0
    ≡ record { name = codes "A"; pending = 0 } ∷ record { name = codes "B"; pending = 3 } ∷ record { name = codes "C"; pending = 6 }
    ∷ record { name = codes "D"; pending = 0 } ∷ record { name = codes "E"; pending = 0 } ∷ record { name = codes "F"; pending = 0 } ∷ []
labels_of_lists = refl

-- BEGIN INTEGER I; GO TO M; L: I:=2; M: GO TO L END.
abbrev jumping : Source
jumping = unit_of (simple kind.Integer "I" ∷ [])
    (jump "M" ∷ label "L" (stat.Statement.assign (stat.Target.plain (tree.Tree.named (codes "I") tree.Trees.none nowhere)) (tree.Tree.number 2) nowhere)
    ∷ label "M" (jump "L") ∷ [])

-- the mark 0 is that of the main body, 1 that of L, 2 that of M
with_two_labels : module_written (record { at = first_reached (jumping ∷ []); unit = jumping }) 0 ≡ record {
  pieces = Mark 0 ∷ ROOM 8 ∷ Begin nowhere ∷ SUBS 0 ∷ BR 2 ∷ Mark 1 ∷ SUBS 0 ∷ Begin nowhere ∷ LDI 2 ∷ STOR false false (DbPlus 0)
      ∷ Mark 2 ∷ SUBS 0 ∷ Begin nowhere ∷ SUBS 0 ∷ BR 1 ∷ Call (i.Control 0 0) true 0 ∷ [];
  marks = 2;
  wants = record { name = codes "TERMINATE"; gate = true } ∷ [];
}
with_two_labels = refl
