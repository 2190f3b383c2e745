-- The laws of this crate: each label of a body has its own mark, where none stands twice; and what a part with marks for labels is.
use Rattle.std.specs.Prelude.{◌≡◌, ℕ, suc, ◌+◌, List, [], ◌∷◌, length, Option, Some}
use Rattle.spl_module_code.specs.spl_tree.StatementTrees.{Statements}
use Rattle.spl_module_code.specs.spl_meaning.Names.{Table, find}
use Rattle.spl_module_code.specs.spl_meaning.StatementRules.{label_faults}
use Rattle.spl_module_code.specs.spl_code.Parts.{Part, Written, Wanted}
use Rattle.spl_module_code.specs.spl_statement_code.Landings.{Landing}
use Rattle.spl_module_code.specs.LabelsOfBodies.{Label, labels_among, with_landings, landed_from}

-- labels lead to the marks from one on
abbrev pub Lead : (List ℕ → Option Landing) → ℕ → List Label → Type 0
Lead has mark [] = Unit {0}
Lead has mark (x ∷ xs) = (has x.name ≡ Some (record { mark = mark; pending = x.pending })) × Lead has (suc mark) xs

-- the labels of statements in which none stands twice
abbrev pub LabelsLead : Type 0
LabelsLead = (mark : ℕ) (ss : Statements) (k : ℕ) → label_faults ss ≡ [] → Lead (find (landed_from mark (labels_among ss k))) mark (labels_among ss k)

-- what a part is that stands behind so many marks of its own
abbrev pub with_more : ℕ → Written → Written
with_more n a = record { pieces = a.pieces; marks = n + a.marks; wants = a.wants }

-- A part with marks for labels is that part, with where these lead, behind as many marks.
abbrev pub LabelledPartsAre : Type 0
LabelledPartsAre = (ls : List Label) (part : Table Landing → Part) (l : ℕ) (ws : List Wanted)
    → with_landings ls part l ws ≡ with_more (length ls) (part (landed_from l ls) (l + length ls) ws)
