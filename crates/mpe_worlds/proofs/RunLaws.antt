-- The steps of a turn, one by one and all together.
-- 1. a session that can make no step stays, and one step and then so many are one more       (stepping-stays, stepping-more)
-- 2. the steps of a turn are steps of the flat machine                                       (stepping_steps)
use Rattle.std.proofs.Common.{◌≡◌, ℕ, zero, suc, ◌+◌, ◌≤◌, Bool, true, false, List, refl, ◌∙◌, arith}
use Rattle.std.specs.Prelude.{if◌then◌else◌}
use Rattle.std.proofs.lemmas.Bool.{and_parts}
use Rattle.hp_cpu.specs.hp_flat.Step.{after, is_running}
use Rattle.mpe_overlay.specs.mpe_regions.Area.{Area, is_live}
use Rattle.mpe_worlds.specs.Worlds.{Run}
use Rattle.mpe_worlds.specs.RunSteps.{can_step, key_needed, stepped, stepping}

pub stepping-stays : (segments : List (List ℕ)) (a : Area) (n : ℕ) (r : Run) → can_step a r ≡ false → stepping segments a n r ≡ r
unfolding stepping
stepping-stays segments a zero r none = refl
stepping-stays segments a (suc n) r none = rw none refl

-- one step where it can be made
pub stepping-one : (segments : List (List ℕ)) (a : Area) (r : Run) → can_step a r ≡ true → stepping segments a 1 r ≡ stepped segments r
unfolding stepping
stepping-one segments a r can = rw can refl

pub stepping-none : (segments : List (List ℕ)) (a : Area) (r : Run) → stepping segments a 0 r ≡ r
unfolding stepping
stepping-none segments a r = refl

pub stepping-more : (segments : List (List ℕ)) (a : Area) (n : ℕ) (r : Run) → stepping segments a n (stepping segments a 1 r) ≡ stepping segments a (suc n) r
unfolding stepping
stepping-more segments a n r = by (can_step a r) refl where
  by : (can : Bool) → can_step a r ≡ can
      → stepping segments a n (if can then stepped segments r else r) ≡ (if can then stepping segments a n (stepped segments r) else r)
  by true is = refl
  by false is = stepping-stays segments a n r is

-- some steps of the flat machine, as many as are counted
pub record Makes (segments : List (List ℕ)) (most : ℕ) (old new : Run) : Type 0 where
  pub count : ℕ
  pub few : count ≤ most
  pub same_program : new.program ≡ old.program
  pub steps : new.steps ≡ old.steps + count
  pub machine : new.machine ≡ after segments count old.machine

-- one step first
makes-more : (segments : List (List ℕ)) (most : ℕ) (old new : Run) → is_running old.machine.ending ≡ true
    → Makes segments most (stepped segments old) new → Makes segments (suc most) old new
unfolding after
makes-more segments most old new runs m = record {
  count = suc m.count;
  few = omega arith;
  same_program = m.same_program;
  steps = omega (arith, m.steps);
  machine = m.machine ∙ rw runs refl;
}

pub stepping_steps : (segments : List (List ℕ)) (a : Area) (n : ℕ) (r : Run) → Makes segments n r (stepping segments a n r)
unfolding stepping after
stepping_steps segments a zero r = record { count = 0; few = omega arith; same_program = refl; steps = omega arith; machine = refl }
stepping_steps segments a (suc n) r = by (can_step a r) refl (stepping_steps segments a n (stepped segments r)) where
  by : (can : Bool) → can_step a r ≡ can → Makes segments n (stepped segments r) (stepping segments a n (stepped segments r))
      → Makes segments (suc n) r (if can then stepping segments a n (stepped segments r) else r)
  by true is m = makes-more segments n r _ (and_parts (is_running r.machine.ending) (is_live (key_needed r) a) is).0 m
  by false is m = record { count = 0; few = omega arith; same_program = refl; steps = omega arith; machine = refl }

-- at least one step is made where one can be
pub stepping_advances : (segments : List (List ℕ)) (a : Area) (n : ℕ) (r : Run) → can_step a r ≡ true → r.steps + 1 ≤ (stepping segments a (suc n) r).steps
unfolding stepping
stepping_advances segments a n r can = rw can (let m = stepping_steps segments a n (stepped segments r) in omega (arith, m.steps))
