-- The mask of the stack operations has a one at exactly the codes that are listed, found by computing all 64.
use Rattle.std.proofs.Common.{◌≡◌, ℕ, ◌/◌, ◌%◌, ◌^◌, ◌<◌, ◌==◌, refl}
use Rattle.std.proofs.lemmas.Bool.{agree_below_at}
use Rattle.hp_instr.specs.Fields.{is_op}

-- the mask has a one at a code exactly where that code is listed
pub mask_is : (code : ℕ) → code < 64 → (8214355163830282239 / 2 ^ code % 2 == 1) ≡ is_op code
unfolding is_op
mask_is code h = agree_below_at (λ k. 8214355163830282239 / 2 ^ k % 2 == 1) is_op 64 code refl h
