-- Labels and jumps of known lists that lead somewhere, and of some that do not.
use Rattle.std.specs.Prelude.{◌≡◌, ℕ, true, false, Bool, List, [], ◌∷◌, codes, refl}
use Prim.Native.String.{String}
use Rattle.spl_sound_labels.specs.spl_tree.declared.names_and_places.At.{At}
use Rattle.spl_sound_labels.specs.spl_tree.Trees as tree
use Rattle.spl_sound_labels.specs.spl_tree.StatementTrees as stat
use Rattle.spl_sound_labels.specs.spl_tree.StatementTrees.{Statement, statements}
use Rattle.spl_sound_labels.specs.spl_meaning.Names.{find}
use Rattle.spl_sound_labels.specs.spl_meaning.StatementRules.{list_labels}
use Rattle.spl_label_marks.specs.spl_statement_code.Landings.{Landing}
use Rattle.spl_jumps.specs.Landed.{are_landed}

abbrev here : At
here = record { unit = 1; line = 1; column = 1 }

abbrev label : String → Statement
label x = stat.Statement.labelled (codes x) here stat.Statement.empty

abbrev jump : String → Statement
jump x = stat.Statement.go_to (codes x) here

-- BEGIN .. END
abbrev block : List Statement → Statement
block ss = stat.Statement.block (statements ss)

-- FOR I:=1 UNTIL 9 DO s
abbrev counted : Statement → Statement
counted s = stat.Statement.for_values (codes "I") (tree.Tree.number 1) tree.Trees.none (tree.Tree.number 9) s here

-- a body's list, whose label L leads to mark 6, where so many words wait
abbrev lands : ℕ → List Statement → Bool
lands waiting ss =
    are_landed (find {A = Landing} ((codes "L", record { mark = 6; pending = waiting }) ∷ [])) (list_labels (statements ss)) (statements ss) 0

-- back to a label of the list, also out of a FOR in a block
jump_back : lands 0 (label "L" ∷ jump "L" ∷ []) ≡ true
jump_back = refl

jump_out : lands 0 (counted (block (jump "L" ∷ [])) ∷ label "L" ∷ []) ≡ true
jump_out = refl

-- within a FOR three words wait at the label
jump_within : lands 3 (counted (block (label "L" ∷ jump "L" ∷ [])) ∷ []) ≡ true
jump_within = refl

jump_without_these : lands 0 (counted (block (label "L" ∷ jump "L" ∷ [])) ∷ []) ≡ false
jump_without_these = refl

-- to another label, and into a list that does not stand around
other_label : lands 0 (label "L" ∷ jump "M" ∷ []) ≡ false
other_label = refl

jump_into : lands 0 (block (label "L" ∷ []) ∷ jump "L" ∷ []) ≡ false
jump_into = refl
