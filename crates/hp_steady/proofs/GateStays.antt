-- An intrinsic leaves the session at its call: it prints and takes lines, but neither P nor the segment moves.
use Rattle.std.proofs.Common.{◌≡◌, ℕ, Bool, true, false, length, Option, None, Some, Ok, Err, refl}
use Rattle.std.specs.Prelude.{◌-◌, not, nat_le, if◌then◌else◌}
use Rattle.hp_flat.specs.hp_word.declared.endings.Trap.TheVariants.{Bounds, OutputLimit, StackUnderflow}
use Rattle.hp_flat.specs.hp_word.declared.intrinsics.Intrinsic.{Intrinsic}
use Rattle.hp_flat.specs.hp_word.Intrinsics.{Effect, outcome, is_in_bounds, has_room, taken_words}
use Rattle.hp_flat.specs.hp_session.State.{Machine, then_with}
use Rattle.hp_flat.specs.hp_call_rows.GateRows.{intrinsic, effect, after_call, performed, performed_if, served}
use Rattle.hp_steady.specs.Rest.{seat, StaysSeated}

after_call-stays : (m : Machine) (n : ℕ) (e : Effect) → seat (after_call n e m) ≡ seat m
unfolding after_call
after_call-stays m n e = refl

performed-stays : (m : Machine) (i : Intrinsic) → StaysSeated m (performed i m)
unfolding performed outcome
performed-stays m i = by (nat_le (taken_words i) (length m.stack)) (not (is_in_bounds (length m.stack) e)) (not (has_room (m.room - length m.printed) e)) where
  e : Effect
  e = effect i m

  by : (c f g : Bool)
      → StaysSeated m (if c then then_with (if f then Err Bounds else if g then Err OutputLimit else Ok e) (λ e. Ok (after_call (taken_words i) e m)) else Err StackUnderflow)
  by false f g = tt
  by true true g = tt
  by true false true = tt
  by true false false = after_call-stays m (taken_words i) e

pub served-stays : (m : Machine) (entry : ℕ) → StaysSeated m (served entry m)
unfolding served
served-stays m entry = by (intrinsic entry) where
  by : (i : Option Intrinsic) → StaysSeated m (performed_if i m)
  by None = tt
  by (Some i) = performed-stays m i
