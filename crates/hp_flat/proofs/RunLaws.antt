-- Runs of many steps: an ended one stays, steps add up, and a run goes on from where it began.
use Rattle.std.proofs.Common.{◌≡◌, ℕ, zero, suc, ◌+◌, Bool, true, false, List, length, refl, sym, arith}
use Rattle.std.specs.Prelude.{if◌then◌else◌}
use Rattle.std.proofs.Math.Seq.{take-length}
use Rattle.hp_session.specs.State.{Machine}
use Rattle.hp_session.specs.Keeping.{Continues}
use Rattle.hp_session.proofs.KeepingLaws.{continued_twice}
use Rattle.hp_call_rows.proofs.CallKeeping.{LabelsLead}
use Rattle.hp_flat.specs.Step.{after, step, is_running}
use Rattle.hp_flat.proofs.StepKeeping.{step-continues}

-- a run that has ended stays
pub after_ended : (segments : List (List ℕ)) (n : ℕ) (m : Machine) → is_running m.ending ≡ false → after segments n m ≡ m
unfolding after
after_ended segments zero m h = refl
after_ended segments (suc n) m h = rw h refl

-- so many steps, and then so many more
pub after-add : (segments : List (List ℕ)) (k n : ℕ) (m : Machine) → after segments (k + n) m ≡ after segments n (after segments k m)
unfolding after
after-add segments zero n m = let e : 0 + n ≡ n = omega arith in rw e refl
after-add segments (suc k) n m = let e : suc k + n ≡ suc (k + n) = omega arith in rw e (by (is_running m.ending) refl (after-add segments k n (step segments m))) where
  by : (runs : Bool) → is_running m.ending ≡ runs → after segments (k + n) (step segments m) ≡ after segments n (after segments k (step segments m))
      → (if runs then after segments (k + n) (step segments m) else m) ≡ after segments n (if runs then after segments k (step segments m) else m)
  by true is rest = rest
  by false is rest = sym (after_ended segments n m is)

-- a session goes on from itself
stays : (count : ℕ) (m : Machine) → Continues count m m
stays count m = record {
  within = λ h. h;
  same_limit = refl;
  same_room = refl;
  same_lines = refl;
  later = omega arith;
  same_size = refl;
  front = take-length m.printed;
}

pub after-continues : (segments : List (List ℕ)) → LabelsLead segments → (n : ℕ) (m : Machine) → Continues (length segments) m (after segments n m)
unfolding after
after-continues segments lead zero m = stays (length segments) m
after-continues segments lead (suc n) m = by (is_running m.ending) (after-continues segments lead n (step segments m)) where
  by : (runs : Bool) → Continues (length segments) (step segments m) (after segments n (step segments m)) → Continues (length segments) m (if runs then after segments n (step segments m) else m)
  by true rest = continued_twice (length segments) m (step segments m) _ (step-continues segments lead m) rest
  by false rest = stays (length segments) m
