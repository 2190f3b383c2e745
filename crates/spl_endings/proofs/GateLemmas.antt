-- What the gate does where a session is ended, in the machine and in the run.
use Rattle.std.proofs.Common.{◌≡◌, ℕ, ◌+◌, ◌-◌, ◌≤◌, Bool, true, false, [], ◌∷◌, ◌++◌, length, refl, ap, ◌∙◌, arith, add-zero}
use Rattle.std.specs.Prelude.{Ok, Err, slice_index, not, if◌then◌else◌}
use Rattle.std.proofs.lemmas.Bool.{le-leb}
use Rattle.std.proofs.lemmas.List.{append-nil, get_or-drop}
use Rattle.hp_call_yields.specs.hp_word.Words.{signed}
use Rattle.hp_call_yields.specs.hp_word.declared.endings.Ending.{Ending}
use Rattle.hp_call_yields.specs.hp_word.declared.endings.Ending.TheVariants.{Terminated, Quit}
use Rattle.hp_call_yields.specs.hp_word.declared.endings.Trap.TheVariants.{Mode, OutputLimit}
use Rattle.hp_call_yields.specs.hp_word.declared.intrinsics.Intrinsic.{Intrinsic}
use Rattle.hp_call_yields.specs.hp_word.declared.intrinsics.Intrinsic.TheVariants as gate
use Rattle.hp_call_yields.specs.hp_word.Intrinsics as calls
use Rattle.hp_call_yields.specs.hp_word.Intrinsics.{Effect, terminate_call, quit_call, is_in_bounds, has_room, taken_words}
use Rattle.hp_call_yields.specs.hp_instr.declared.instruction.Instr.TheVariants as i
use Rattle.hp_call_yields.specs.hp_session.State.{Machine, Outcome as Row, then_with}
use Rattle.hp_call_yields.specs.hp_call_rows.GateRows.{effect, ending_or, after_call, served}
use Rattle.hp_call_yields.specs.hp_flat.Step.{at_left, ended}
use Rattle.hp_call_yields.proofs.GateYields.{intrinsic_done}
use Rattle.hp_call_yields.specs.spl_meaning.Serving as run
use Rattle.hp_call_yields.specs.spl_meaning.Serving.{effected, carried_out, answered}
use Rattle.hp_call_yields.specs.spl_meaning.States.{State, terminated, quit, trapped, ends, stepping, printed_size}
use Rattle.hp_call_yields.specs.spl_follow.Spots.{Spot, landed}
use Rattle.hp_call_yields.specs.spl_follow.Doing.{Way, calling, procedure_called}
use Rattle.spl_endings.specs.Gates.{Served}
use Rattle.spl_endings.specs.Laws.{LastCallsEnd}

-- ---- the machine

-- a call that is served goes on at its return, or has ended
gate_called : (way : Way) (which : Intrinsic) (r : Spot) (m n : Machine) (v : Served way which) → m.split ≡ false → served v.entry (at_left m) ≡ Ok n
    → calling (i.Control 0 0) way r m ≡ landed r n
gate_called way which r m n v whole done =
    ap (λ (b : Bool). ended m (if b then Err Mode else procedure_called way r (at_left m))) whole
    ∙ ap (λ (w : Way). ended m (procedure_called w r (at_left m))) v.leads
    ∙ ap (λ (o : Row). ended m (then_with o (λ k. Ok (landed r k)))) done

-- an effect that touches and prints nothing is within bounds and has room
nothing_bounds : (e : Ending) (limit : ℕ) → is_in_bounds limit (record calls.nothing { ending = e }) ≡ true
unfolding is_in_bounds
nothing_bounds e limit = refl

nothing_room : (e : Ending) (room : ℕ) → has_room room (record calls.nothing { ending = e }) ≡ true
unfolding has_room
nothing_room e room = le-leb 0 room (omega arith)

-- TERMINATE
terminate_is : (m : Machine) → effect gate.Terminate m ≡ record calls.nothing { ending = Terminated }
unfolding calls.called terminate_call
terminate_is m = refl

-- QUIT, with the word on top
quit_is : (m : Machine) (v : ℕ) → slice_index m.stack (length m.stack - 1) ≡ v → effect gate.Quit m ≡ record calls.nothing { ending = Quit (signed v) }
unfolding calls.called quit_call
quit_is m v is = ap (λ (w : ℕ). record calls.nothing { ending = Quit (signed w) }) (get_or-drop (length m.stack - 1) m.stack 0 0 ∙ ap (λ (k : ℕ). slice_index m.stack k) (add-zero (length m.stack - 1)) ∙ is)

-- where a call ends the session: so it stands, and has printed nothing
pub record Ends (way : Way) (r : Spot) (e : Ending) (m : Machine) : Type 0 where
  pub ending : (calling (i.Control 0 0) way r m).ending ≡ e
  pub printed : (calling (i.Control 0 0) way r m).printed ≡ m.printed

-- a call with such an effect, whose parameters are there
ends_with : (way : Way) (which : Intrinsic) (e : Ending) (r : Spot) (m : Machine) → Served way which → m.split ≡ false → taken_words which ≤ length m.stack
    → effect which (at_left m) ≡ record calls.nothing { ending = e } → ending_or e m.ending ≡ e → Ends way r e m
unfolding after_call
ends_with way which e r m v whole enough is rest =
    let within : is_in_bounds (length m.stack) (effect which (at_left m)) ≡ true =
    ap (λ (x : Effect). is_in_bounds (length m.stack) x) is ∙ nothing_bounds e (length m.stack) in
    let room : has_room (m.room - length m.printed) (effect which (at_left m)) ≡ true =
    ap (λ (x : Effect). has_room (m.room - length m.printed) x) is ∙ nothing_room e (m.room - length m.printed) in
    let done = gate_called way which r m (after_call (taken_words which) (effect which (at_left m)) (at_left m)) v whole
    (intrinsic_done v.entry which (at_left m) v.serves enough within room) in
    record {
      ending = ap (λ (n : Machine). n.ending) done ∙ ap (λ (x : Effect). ending_or x.ending m.ending) is ∙ rest;
      printed = ap (λ (n : Machine). n.printed) done ∙ ap (λ (x : Effect). m.printed ++ x.prints) is ∙ append-nil m.printed;
    }

-- of TERMINATE, and of QUIT with the word on top
pub terminate_ends : (way : Way) (r : Spot) (m : Machine) → Served way gate.Terminate → m.split ≡ false → Ends way r Terminated m
terminate_ends way r m v whole = ends_with way gate.Terminate Terminated r m v whole (omega arith) (terminate_is (at_left m)) refl

pub quit_ends : (way : Way) (r : Spot) (m : Machine) (w : ℕ) → Served way gate.Quit → m.split ≡ false → 1 ≤ length m.stack
    → slice_index m.stack (length m.stack - 1) ≡ w → Ends way r (Quit (signed w)) m
quit_ends way r m w v whole enough is = ends_with way gate.Quit (Quit (signed w)) r m v whole enough (quit_is (at_left m) w is) refl

pub last_ends : LastCallsEnd
last_ends way r m v whole runs = let e = terminate_ends way r m v whole in (e.ending, e.printed)

-- ---- the run

-- an effect that touches and prints nothing is carried out with a step
nothing_carried : (e : Ending) (s : State)
    → effected (record calls.nothing { ending = e }) s
    ≡ stepping (carried_out (record calls.nothing { ending = e }) s) (λ u. answered e [] u)
nothing_carried e s =
    ap (λ (b : Bool). if not b then ends (trapped OutputLimit) s else stepping (carried_out (record calls.nothing { ending = e }) s) (λ u. answered e [] u))
    (le-leb 0 (s.now.room - printed_size s.now.printed) (omega arith))

pub terminate_run : (s : State)
    → run.served gate.Terminate [] s ≡ stepping (carried_out (record calls.nothing { ending = Terminated }) s) (λ u. ends terminated u)
unfolding calls.called terminate_call
terminate_run s = nothing_carried Terminated s

pub quit_run : (v : ℕ) (s : State)
    → run.served gate.Quit (v ∷ []) s ≡ stepping (carried_out (record calls.nothing { ending = Quit (signed v) }) s) (λ u. ends (quit (signed v)) u)
unfolding calls.called quit_call
quit_run v s = nothing_carried (Quit (signed v)) s
