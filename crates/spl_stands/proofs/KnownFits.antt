-- Pieces that fit, and pieces that do not, by computing.
use Rattle.std.proofs.Common.{◌≡◌, false, [], ◌∷◌, Some, None, refl}
use Rattle.hp_leads.specs.hp_instr.declared.instruction.Instr.TheVariants as i
use Rattle.hp_leads.specs.spl_tree.declared.names_and_places.At.{At}
use Rattle.hp_leads.specs.spl_branch.declared.pieces.Piece.TheVariants.{Do, Mark, Begin}
use Rattle.hp_leads.specs.spl_branch.Stands as decoded
use Rattle.hp_leads.specs.spl_follow.Spots.{Ground}
use Rattle.hp_leads.specs.spl_follow.Standing.{Sites}
use Rattle.spl_stands.specs.Fitting.{AllFit}

-- LDI and SUBS, of one statement that starts at the first
one_statement : (g : Ground) (s : decoded.Sites) (w : Sites) (at : At) → g.starts 0 0 ≡ Some at → g.starts 0 1 ≡ None
    → AllFit g 0 s w (decoded.at_left 0) None (Begin at ∷ Do (i.Immediate 1 5) ∷ Do (i.Control 8 0) ∷ [])
one_statement g s w at first none = (refl, ((first, refl), ((none, refl), refl)))

-- no mark stands between a beginning and its word, so that no jump arrives where a statement has begun
no_mark_behind_a_beginning : (g : Ground) (s : decoded.Sites) (w : Sites) (at : At)
    → AllFit g 0 s w (decoded.at_left 0) None (Begin at ∷ Mark 3 ∷ Do (i.Control 8 0) ∷ []) → ⊥
no_mark_behind_a_beginning g s w at fits = let due : Some at ≡ None = fits.1.0 in cc

-- BR is no piece of its own
no_branch_by_itself : (g : Ground) (s : decoded.Sites) (w : Sites) → AllFit g 0 s w (decoded.at_left 0) None (Do (i.Branch false false 0) ∷ []) → ⊥
no_branch_by_itself g s w fits = let plain = fits.0.1 in cc
