-- Instructions with a number of words, and rows of zeros.
use Rattle.std.proofs.Common.{◌≡◌, ◌<◌, ℕ, zero, suc, ◌+◌, ◌==◌, ◌||◌, [], ◌∷◌, ◌++◌, Bool, true, false, nat_lt, ◌⊎◌, inl, inr, replicate, refl, ap, sym, ◌∙◌, add-one}
use Rattle.std.proofs.lemmas.Bool.{and_from, lt-ltb, eqb-true}
use Rattle.hp_instr.specs.declared.instruction.Instr.TheVariants as i
use Rattle.hp_instr.specs.Fields.{is_control}
use Rattle.hp_instr.specs.Given.{has_word}
use Rattle.spl_branch.specs.declared.buffer.Code.{Code}
use Rattle.spl_branch.specs.declared.pieces.Piece.{Piece}
use Rattle.spl_body_code.specs.spl_code.Parts.{pieces, piece}
use Rattle.spl_body_code.specs.spl_code.Appends.{Appends}
use Rattle.spl_operations.specs.Views.{is_instruction}
use Rattle.spl_operations.proofs.PutLemmas.{pieces_then}
use Rattle.spl_gen_body.specs.Counts.{is_count}

either : (a b : Bool) → (a || b) ≡ true → (a ≡ true) ⊎ (b ≡ true)
either true b h = inl refl
either false b h = inr h

exit : (n : ℕ) → nat_lt n 256 ≡ true → is_instruction (i.Control 1 n) ≡ true
unfolding has_word is_control
exit n lt = and_from _ _ lt refl

subroutine_exit : (n : ℕ) → nat_lt n 256 ≡ true → is_instruction (i.Control 2 n) ≡ true
unfolding has_word is_control
subroutine_exit n lt = and_from _ _ lt refl

room : (n : ℕ) → nat_lt n 256 ≡ true → is_instruction (i.Control 6 n) ≡ true
unfolding has_word is_control
room n lt = and_from _ _ lt refl

zeros : (n : ℕ) → nat_lt n 256 ≡ true → is_instruction (i.Control 7 n) ≡ true
unfolding has_word is_control
zeros n lt = and_from _ _ lt refl

-- an instruction with a number of words takes this one
pub count_is_instruction : (which n : ℕ) → is_count which ≡ true → n < 256 → is_instruction (i.Control which n) ≡ true
count_is_instruction which n h lt = go (either _ _ h) where
  small : nat_lt n 256 ≡ true
  small = lt-ltb n 256 lt

  go3 : ((which == 1) ≡ true) ⊎ ((which == 2) ≡ true) → is_instruction (i.Control which n) ≡ true
  go3 (inl z) = rw (eqb-true which 1 z) (exit n small)
  go3 (inr z) = rw (eqb-true which 2 z) (subroutine_exit n small)

  go2 : ((which == 1 || which == 2) ≡ true) ⊎ ((which == 6) ≡ true) → is_instruction (i.Control which n) ≡ true
  go2 (inl z) = go3 (either _ _ z)
  go2 (inr z) = rw (eqb-true which 6 z) (room n small)

  go : ((which == 1 || which == 2 || which == 6) ≡ true) ⊎ ((which == 7) ≡ true) → is_instruction (i.Control which n) ≡ true
  go (inl z) = go2 (either _ _ z)
  go (inr z) = rw (eqb-true which 7 z) (zeros n small)

-- a row more stands behind those before it
rows_more : (x : Piece) (k : ℕ) → replicate (k + 1) x ≡ replicate k x ++ x ∷ []
rows_more x zero = refl
rows_more x (suc k) = ap (λ n. replicate n x) (add-one (suc k)) ∙ ap (λ ps. x ∷ ps) (ap (λ n. replicate n x) (sym (add-one k)) ∙ rows_more x k)

pub rows_step : (x : Piece) (k : ℕ) {c d e : Code} → Appends (pieces (replicate k x)) c d → Appends (piece x) d e → Appends (pieces (replicate (k + 1) x)) c e
rows_step x k {c} {d} {e} a b = rw (rows_more x k) (pieces_then {xs = replicate k x} {ys = x ∷ []} a b)
