-- The intrinsics: a call is done where it is within bounds and has room, and else traps.
use Rattle.std.proofs.Common.{◌≡◌, ℕ, ◌-◌, ◌≤◌, true, false, length, Option, Some, Ok, Err, ap, ◌∙◌}
use Rattle.std.specs.Prelude.{not}
use Rattle.std.proofs.lemmas.Bool.{cond-true, cond-false}
use Rattle.hp_yields.specs.hp_word.declared.endings.Trap.TheVariants.{Bounds, OutputLimit}
use Rattle.hp_yields.specs.hp_word.declared.intrinsics.Intrinsic.{Intrinsic}
use Rattle.hp_yields.specs.hp_word.Intrinsics.{Effect, outcome, is_in_bounds, has_room, taken_words}
use Rattle.hp_yields.specs.hp_session.State.{Machine, Outcome}
use Rattle.hp_yields.specs.hp_call_rows.GateRows.{intrinsic, effect, after_call, performed, performed_if, served}
use Rattle.hp_yields.proofs.YieldForms.{taken, found, lost}

-- what is done with an effect
abbrev after_effect : Intrinsic → Machine → Effect → Outcome
after_effect i m e = Ok (after_call (taken_words i) e m)

pub intrinsic_done : (entry : ℕ) (i : Intrinsic) (m : Machine) → intrinsic entry ≡ Some i → taken_words i ≤ length m.stack
    → is_in_bounds (length m.stack) (effect i m) ≡ true → has_room (m.room - length m.printed) (effect i m) ≡ true
    → served entry m ≡ Ok (after_call (taken_words i) (effect i m) m)
unfolding served performed outcome
intrinsic_done entry i m is enough within room =
    ap (λ (o : Option Intrinsic). performed_if o m) is ∙ taken (taken_words i) m _ enough
    ∙ found (outcome (length m.stack) (m.room - length m.printed) (effect i m)) (effect i m) (after_effect i m)
    (cond-false (not (is_in_bounds (length m.stack) (effect i m))) _ _ (ap not within) ∙ cond-false (not (has_room (m.room - length m.printed) (effect i m))) _ _ (ap not room))

pub intrinsic_out : (entry : ℕ) (i : Intrinsic) (m : Machine) → intrinsic entry ≡ Some i → taken_words i ≤ length m.stack
    → is_in_bounds (length m.stack) (effect i m) ≡ false → served entry m ≡ Err Bounds
unfolding served performed outcome
intrinsic_out entry i m is enough out =
    ap (λ (o : Option Intrinsic). performed_if o m) is ∙ taken (taken_words i) m _ enough
    ∙ lost (outcome (length m.stack) (m.room - length m.printed) (effect i m)) Bounds (after_effect i m)
    (cond-true (not (is_in_bounds (length m.stack) (effect i m))) _ _ (ap not out))

pub intrinsic_full : (entry : ℕ) (i : Intrinsic) (m : Machine) → intrinsic entry ≡ Some i → taken_words i ≤ length m.stack
    → is_in_bounds (length m.stack) (effect i m) ≡ true → has_room (m.room - length m.printed) (effect i m) ≡ false
    → served entry m ≡ Err OutputLimit
unfolding served performed outcome
intrinsic_full entry i m is enough within full =
    ap (λ (o : Option Intrinsic). performed_if o m) is ∙ taken (taken_words i) m _ enough
    ∙ lost (outcome (length m.stack) (m.room - length m.printed) (effect i m)) OutputLimit (after_effect i m)
    (cond-false (not (is_in_bounds (length m.stack) (effect i m))) _ _ (ap not within) ∙ cond-true (not (has_room (m.room - length m.printed) (effect i m))) _ _ (ap not full))
