-- The loop over pieces that writes their words, step by step.
use Rattle.std.proofs.Common.{◌≡◌, ℕ, ◌+◌, ◌<◌, ◌≤◌, List, [], ◌∷◌, ◌++◌, length, get_or, drop, refl, arith, append_assoc}
use Rattle.std.proofs.lemmas.List.{drop_more}
use Rattle.spl_branch.specs.declared.pieces.Piece.{Piece}
use Rattle.spl_branch.specs.declared.modules.Fix.{Fix}
use Rattle.spl_branch.specs.declared.modules.Start.{Start}
use Rattle.spl_branch.specs.declared.spots.Spot.{Spot}
use Rattle.spl_branch.specs.Stands.{ahead, size_at, after, end_of}
use Rattle.spl_branch.specs.Fixes.{piece_fixes, fixes_of, piece_starts, starts_of}
use Rattle.spl_branch.specs.Words.{piece_words, words_of}
use Rattle.spl_branch.proofs.SurveyLemmas.{moved_rises}

-- a piece ends no further back than it begins
pub end_of_rises : (ps : List Piece) (marks : ℕ → ℕ) (p : Spot) → p.offset ≤ (end_of marks p ps).offset
end_of_rises [] marks p = omega arith
end_of_rises (x ∷ ps) marks p = omega (arith, moved_rises x (size_at marks p.offset x) p (ahead ps), end_of_rises ps marks (after marks p x (ahead ps)))

-- one piece more
module _ (marks : ℕ → ℕ) (ps : List Piece) (i : ℕ) (d : Piece) (p p' : Spot) (lt : i < length ps) (e : p' ≡ after marks p (get_or ps i d) (ahead (drop (i + 1) ps))) where
  pub ends_more : end_of marks p' (drop (i + 1) ps) ≡ end_of marks p (drop i ps)
  ends_more = rw (drop_more ps i d lt, e) refl

  pub words_more : (made new : List ℕ) → new ≡ made ++ piece_words marks p (get_or ps i d) (ahead (drop (i + 1) ps)) → new ++ words_of marks p' (drop (i + 1) ps) ≡ made ++ words_of marks p (drop i ps)
  words_more made new h = rw (drop_more ps i d lt, e, h) (append_assoc made _ _)

  pub fixes_more : (made new : List Fix) → new ≡ made ++ piece_fixes marks p (get_or ps i d) → new ++ fixes_of marks p' (drop (i + 1) ps) ≡ made ++ fixes_of marks p (drop i ps)
  fixes_more made new h = rw (drop_more ps i d lt, e, h) (append_assoc made _ _)

  pub starts_more : (made new : List Start) → new ≡ made ++ piece_starts p (get_or ps i d) → new ++ starts_of marks p' (drop (i + 1) ps) ≡ made ++ starts_of marks p (drop i ps)
  starts_more made new h = rw (drop_more ps i d lt, e, h) (append_assoc made _ _)
