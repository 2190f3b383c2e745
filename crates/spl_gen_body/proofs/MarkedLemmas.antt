-- A mark that is set, and pieces behind it.
use Rattle.std.proofs.Common.{ℕ, ◌++◌, ◌∷◌, [], List, ap, ◌∙◌}
use Rattle.std.proofs.lemmas.List.{append_assoc, append-nil}
use Rattle.spl_branch.specs.declared.buffer.Code.{Code}
use Rattle.spl_branch.specs.declared.pieces.Piece.{Piece}
use Rattle.spl_branch.specs.declared.pieces.Piece.TheVariants.{Mark}
use Rattle.spl_body_code.specs.spl_code.Parts.{pieces}
use Rattle.spl_body_code.specs.spl_code.Appends.{Appends}
use Rattle.spl_body_code.proofs.spl_code_proofs.AppendLaws.{same_then}
use Rattle.spl_body_code.specs.Marked.{Marked}

-- pieces that are appended behind a mark
pub marked_then : {mark : ℕ} {ps : List Piece} {c d e : Code} → Marked mark [] c d → Appends (pieces ps) d e → Marked mark ps c e
marked_then {mark} {ps} {c} {d} {e} a b = record {
  pieces = b.pieces ∙ ap (λ xs. xs ++ ps) a.pieces ∙ append_assoc c.pieces.items (Mark mark ∷ []) ps;
  marks = b.marks ∙ append-nil d.marks.items ∙ a.marks;
  wants = b.wants ∙ a.wants;
  same = same_then a.same b.same;
}
