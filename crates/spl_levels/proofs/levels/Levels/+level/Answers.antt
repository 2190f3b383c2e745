use Rattle.std.proofs.Common.{arith, ◌+◌, ◌/◌, ◌≡◌, false, ℕ, suc}
use Rattle.spl_tree.specs.Operators.{is_sign}
use Rattle.spl_reading.specs.Readers.{pure, refuse, followed, and_then}
use Rattle.spl_reading.specs.ReadExpressions as r
use Rattle.spl_parts.specs.Parts.{found}
use Rattle.spl_levels.specs.Pieces.{length}
use Rattle.spl_tokens.proofs.Steps.{steps, by_peek}
use Rattle.spl_levels.proofs.LevelLemmas.{first_sum, level_up, within_is, turn_shifted, turn_compared}
use Rattle.spl_levels.proofs.levels.Levels.+level.Goals as goal

pub first-returns-in_err-sign-clause-read : goal.first-returns-in_err-sign-clause-read
unfolding pure refuse followed and_then
first-returns-in_err-sign-clause-read g t c = rw (first_sum _ _ _ _ _ _ _ c.if-height-ne2.false) (grind
    (arith, steps))

pub first-returns-in_ok-sign-clause-read : goal.first-returns-in_ok-sign-clause-read
unfolding pure refuse followed and_then
first-returns-in_ok-sign-clause-read g t c = rw (first_sum _ _ _ _ _ _ _ c.if-height-ne2.false) (grind (arith, steps))

pub first-returns-else-is_sign-clause-read : goal.first-returns-else-is_sign-clause-read
unfolding pure refuse followed and_then
first-returns-else-is_sign-clause-read g t c = let e : is_sign (r.operator_of c.in_ok-peek.field-0) ≡ false =
    cc (c.is_sign.ensures, c.if-is_sign.false, c.operator_of.ensures) in
    rw (first_sum _ _ _ _ _ _ _ c.if-height-ne2.false, by_peek _ _ _ _ c.in_ok-peek.ensures, e)
    c.level-else-is_sign.ensures.read

pub level-returns-in_err-place-clause-read : goal.level-returns-in_err-place-clause-read
unfolding pure refuse followed and_then
level-returns-in_err-place-clause-read g t c = rw (level_up _ _ _ c.args.height _ _ _ (omega arith)) (grind
    (arith, steps))

pub level-returns-in_err-of-clause-read : goal.level-returns-in_err-of-clause-read
unfolding pure refuse followed and_then
level-returns-in_err-of-clause-read g t c = rw (level_up _ _ _ c.args.height _ _ _ (omega arith)) (grind
    (arith, steps))

pub level-returns-clause-read : goal.level-returns-clause-read
unfolding pure refuse followed and_then
level-returns-clause-read g t c = rw (level_up _ _ _ c.args.height _ _ _ (omega arith)) (grind (arith, steps))

pub length-returns-in_err-bytes : goal.length-returns-in_err-bytes
unfolding pure refuse followed and_then length
length-returns-in_err-bytes g t c = let e =
    within_is c.args.self.now.room (c.args.self.now.taken + c.args.count / 8) c.opening.new.tokens (omega
    (arith, c.in_ok-opening.ensures.room)) in grind (arith, steps, e)

pub length-returns-in-Err : goal.length-returns-in-Err
unfolding pure refuse followed and_then length
length-returns-in-Err g t c = let e =
    within_is c.args.self.now.room (c.args.self.now.taken + c.args.count / 8) c.opening.new.tokens (omega
    (arith, c.in_ok-opening.ensures.room)) in grind (arith, steps, e)

pub length-returns-in-Ok : goal.length-returns-in-Ok
unfolding pure refuse followed and_then length
length-returns-in-Ok g t c = let e = within_is c.args.self.now.room
    (c.args.self.now.taken + c.args.count / 8) c.opening.new.tokens (omega
    (arith, c.in_ok-opening.ensures.room)) in grind (arith, steps, e)

-- the levels of operators other than this one
no_operator : (b k h : ℕ) → b ≡ k → (b ≡ h + 1 → ⊥) → k ≡ suc h → ⊥
no_operator b k h e n f = n (omega arith)

pub turn-returns-then-same-clause-read : goal.turn-returns-then-same-clause-read
unfolding r.turn
turn-returns-then-same-clause-read g t c = rw (
  by_peek _ _ _ _ c.in-Ok.ensures,
  turn_shifted c.args.self.now.condition c.args.self.now.room c.args.self.now.taken c.args.height c.args.at
      (found c.args.of) c.in-Ok.next c.args.tokens.now
      (no_operator c.binds.result _ c.args.height (cc
      (c.binds.ensures, c.operator_of.ensures)) c.if-binds-height.false) c.if-height-eq0.true (cc
      (c.same.ensures, c.if-same.true)),
) c.shifted.ensures.read

pub turn-returns-then-same-2-clause-read : goal.turn-returns-then-same-2-clause-read
unfolding r.turn found
turn-returns-then-same-2-clause-read g t c = rw (
  by_peek _ _ _ _ c.in-Ok.ensures,
  turn_compared c.args.self.now.condition c.args.self.now.room c.args.self.now.taken c.args.height c.args.at
      (found c.args.of) c.in-Ok.next c.args.tokens.now
      (no_operator c.binds.result _ c.args.height (cc
      (c.binds.ensures, c.operator_of.ensures)) c.if-binds-height.false) c.if-self.true c.if-height-eq7.true
      (cc (c.same-then-height-eq7.ensures, c.if-same-2.true)),
) c.compared.ensures.read
