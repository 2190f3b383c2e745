-- What it means that the code of statements was appended: as of any part; and the marks of the labels inside, which were made before, are set.
use Rattle.std.specs.Prelude.{ℕ, ◌≡◌, Bool, true, List, [], ◌∷◌, ◌++◌, Option, Some, None, replicate, slice_set}
use Rattle.spl_code.specs.spl_tree.StatementTrees.{Statement, Statements}
use Rattle.spl_code.specs.spl_tree.DeclarationTrees.{Placed}
use Rattle.spl_code.specs.spl_meaning.StatementRules.{all_labels, all_labels_of}
use Rattle.spl_code.specs.spl_branch.declared.buffer.Code.{Code}
use Rattle.spl_code.specs.spl_branch.declared.pieces.Piece.TheVariants.{Mark}
use Rattle.spl_code.specs.spl_branch.Pieces.{is_settable}
use Rattle.spl_code.specs.spl_branch.Codes.{SameFrame}
use Rattle.spl_code.specs.Parts.{Part, wants_of}
use Rattle.spl_code.specs.Appends.{behind}
use Rattle.spl_statement_code.specs.Landings.{Landing, Context}

-- the mark of a label
abbrev pub mark_of : Option Landing → List ℕ
mark_of (Some l) = l.mark ∷ []
mark_of None = []

-- the marks of labels
abbrev pub marks_of : Context → List Placed → List ℕ
marks_of c [] = []
marks_of c (x ∷ xs) = mark_of (c.landings x.letters) ++ marks_of c xs

-- the marks that the code of a statement sets, which were made before: those of all labels in it, in order of text
abbrev pub marks_inside : Context → Statement → List ℕ
marks_inside c s = marks_of c (all_labels s)

-- and of the statements of a list
abbrev pub marks_within : Context → Statements → List ℕ
marks_within c ss = marks_of c (all_labels_of ss)

-- marks that are set, one after the other
abbrev pub all_set : List Bool → List ℕ → List Bool
all_set marks [] = marks
all_set marks (m ∷ ms) = all_set (slice_set marks m true) ms

-- these can be set one after the other: each was made, and none is set before
abbrev pub CanBeSet : List Bool → List ℕ → Type 0
CanBeSet marks [] = Unit {0}
CanBeSet marks (m ∷ ms) = (is_settable marks (Mark m) ≡ true) × CanBeSet (slice_set marks m true) ms

-- Code `d` is code `c` with a part: its pieces stand behind those of `c`, its own marks behind the old ones, all set; of the old ones `sets`
-- have been set, and no other has changed; its wants are those of the part; and name, entries and main body stay.
pub record AppendsSetting (sets : List ℕ) (part : Part) (c d : Code) : Type 0 where
  pub pieces : d.pieces.items ≡ c.pieces.items ++ (behind part c).pieces
  pub marks : d.marks.items ≡ all_set c.marks.items sets ++ replicate (behind part c).marks true
  pub wants : wants_of d.wants.items ≡ (behind part c).wants
  pub same : SameFrame c d
