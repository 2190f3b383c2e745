-- The statements of bodies, worked by hand.
use Rattle.std.specs.Prelude.{◌≡◌, ℕ, true, false, List, [], ◌∷◌, codes, refl}
use Prim.Native.String.{String}
use Rattle.spl_branch.specs.hp_instr.declared.instruction.Mode.TheVariants.{QPlus}
use Rattle.spl_tree.specs.declared.names_and_places.At.{At}
use Rattle.spl_tree.specs.declared.expressions.Kind.TheVariants as kind
use Rattle.spl_tree.specs.Trees as tree
use Rattle.spl_tree.specs.StatementTrees as stat
use Rattle.spl_tree.specs.StatementTrees.{Statement, statements}
use Rattle.spl_sorts.specs.spl_meaning.Names.{Sort, find, simple}
use Rattle.spl_sorts.specs.spl_meaning.Places.{Place, above_base}
use Rattle.spl_sorts.specs.spl_meaning.Bodies.{Body}
use Rattle.spl_sorts.specs.spl_meaning.Faults.{fault}
use Rattle.spl_sorts.specs.spl_meaning.StatementRules.{label_faults}
use Rattle.spl_branch.specs.declared.pieces.Piece.{Piece}
use Rattle.spl_branch.specs.declared.pieces.Piece.TheVariants.{Mark, Begin}
use Rattle.spl_label_marks.specs.spl_code.Instructions.{LDI, LDNI, STOR, LRA, BR, BRE}
use Rattle.spl_label_marks.specs.spl_code.Parts.{Written}
use Rattle.spl_label_marks.specs.spl_code.Calls.{Scope}
use Rattle.spl_label_marks.specs.spl_statement_code.Instructions.{SUBS, TBA, MTBA}
use Rattle.spl_label_marks.specs.spl_scopes.Entries.{Owner, Entry}
use Rattle.spl_label_marks.specs.spl_module_code.Bodies.{body_statements, statements_scope}
use Rattle.spl_routine_code.specs.Bodies.{statements_part}

-- I, a local item
abbrev scope : Scope
scope = record {
  names = find {A = Sort} ((codes "I", simple kind.Integer false) ∷ []);
  places = find {A = Place} ((codes "I", above_base 1) ∷ []);
  procedures = find {A = ℕ} [];
  subroutines = find {A = ℕ} [];
}

abbrev here : At
here = record { unit = 1; line = 1; column = 1 }

-- six marks were made before, of which the last is the way out
abbrev written : List Statement → Written
written ss = statements_part scope (statements ss) 5 6 []

-- so many marks, and pieces that want no name
abbrev with_marks : ℕ → List Piece → Written
with_marks n ps = record { pieces = ps; marks = n; wants = [] }

abbrev label : String → Statement → Statement
label x s = stat.Statement.labelled (codes x) here s

abbrev jump : String → Statement
jump x = stat.Statement.go_to (codes x) here

-- FOR I:=1 UNTIL 9 DO s
abbrev counted : Statement → Statement
counted s = stat.Statement.for_values (codes "I") (tree.Tree.number 1) tree.Trees.none (tree.Tree.number 9) s here

abbrev start : Piece
start = Begin here

-- no statement
empty_body : written [] ≡ with_marks 0 []
empty_body = refl

-- RETURN
returned : written (stat.Statement.return here ∷ []) ≡ with_marks 0 (start ∷ SUBS 0 ∷ BR 5 ∷ [])
returned = refl

-- A: ;
one_label : written (label "A" stat.Statement.empty ∷ []) ≡ with_marks 1 (Mark 6 ∷ SUBS 0 ∷ SUBS 0 ∷ [])
one_label = refl

-- A: B: ;
two_labels : written (label "A" (label "B" stat.Statement.empty) ∷ []) ≡ with_marks 2 (Mark 6 ∷ SUBS 0 ∷ Mark 7 ∷ SUBS 0 ∷ SUBS 0 ∷ [])
two_labels = refl

-- GO TO B; A: ; B: GO TO A: the mark of B was made before the jump to it
forward_and_back : written (jump "B" ∷ label "A" stat.Statement.empty ∷ label "B" (jump "A") ∷ [])
    ≡ with_marks 2 (start ∷ SUBS 0 ∷ BR 7 ∷ Mark 6 ∷ SUBS 0 ∷ SUBS 0 ∷ Mark 7 ∷ SUBS 0 ∷ start ∷ SUBS 0 ∷ BR 6 ∷ [])
forward_and_back = refl

-- A: WHILE TRUE DO ; the loop's marks come behind those of labels
label_of_a_loop : written (label "A" (stat.Statement.while_true (tree.Tree.truth true) stat.Statement.empty here) ∷ [])
    ≡ with_marks 3 (Mark 6 ∷ SUBS 0 ∷ Mark 7 ∷ LDNI 1 ∷ BRE 8 ∷ SUBS 0 ∷ BR 7 ∷ Mark 8 ∷ [])
label_of_a_loop = refl

-- WHILE TRUE DO A: ; also those of a label inside
label_in_a_loop : written (stat.Statement.while_true (tree.Tree.truth true) (label "A" stat.Statement.empty) here ∷ [])
    ≡ with_marks 3 (Mark 7 ∷ LDNI 1 ∷ BRE 8 ∷ Mark 6 ∷ SUBS 0 ∷ SUBS 0 ∷ BR 7 ∷ Mark 8 ∷ [])
label_in_a_loop = refl

-- A: FOR I:=1 UNTIL 9 DO B: GO TO A: the three words of the FOR are dropped
out_of_a_for : written (label "A" (counted (label "B" (jump "A"))) ∷ [])
    ≡ with_marks 4
    (Mark 6 ∷ SUBS 0 ∷ start ∷ LDI 1 ∷ STOR false false (QPlus 1) ∷ LRA false false (QPlus 1) ∷ LDI 1 ∷ LDI 9 ∷ TBA 8 ∷ BR 9
    ∷ Mark 8 ∷ Mark 7 ∷ SUBS 0 ∷ start ∷ SUBS 3 ∷ BR 6 ∷ MTBA 8 ∷ Mark 9 ∷ [])
out_of_a_for = refl

-- FOR I:=1 UNTIL 9 DO BEGIN A: ; GO TO A END: they stay
within_a_for : written (counted (stat.Statement.block (statements (label "A" stat.Statement.empty ∷ jump "A" ∷ []))) ∷ [])
    ≡ with_marks 3
    (start ∷ LDI 1 ∷ STOR false false (QPlus 1) ∷ LRA false false (QPlus 1) ∷ LDI 1 ∷ LDI 9 ∷ TBA 7 ∷ BR 8
    ∷ Mark 7 ∷ SUBS 0 ∷ Mark 6 ∷ SUBS 0 ∷ SUBS 0 ∷ start ∷ SUBS 0 ∷ BR 6 ∷ MTBA 7 ∷ Mark 8 ∷ [])
within_a_for = refl

-- the labels A and B stand once, and the second A breaks a rule
each_once : label_faults (statements (label "A" (label "B" stat.Statement.empty) ∷ [])) ≡ []
each_once = refl

one_twice : label_faults (statements (label "A" stat.Statement.empty ∷ counted (label "A" stat.Statement.empty) ∷ [])) ≡ fault 20 here ∷ []
one_twice = refl

-- these are the statements of a body in its module
of_a_module : (es : List Entry) (o : Owner) (b : Body) (leave : ℕ)
    → body_statements es o b leave ≡ statements_part (statements_scope es o b) b.statements leave
of_a_module es o b leave = refl
