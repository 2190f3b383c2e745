-- A call that is carried out, and then passed, is served.
use Rattle.std.proofs.Common.{◌≡◌, ℕ, refl, ◌∙◌}
use Rattle.std.specs.Prelude.{Result, Ok, Err, OnOk, OnErr}
use Rattle.hp_word.specs.declared.endings.Ending.{Ending}
use Rattle.hp_word.specs.declared.endings.Ending.TheVariants.{Running, Terminated, Quit, Trapped as StoodTrapped}
use Rattle.hp_word.specs.declared.endings.Trap.{Trap}
use Rattle.hp_word.specs.declared.intrinsics.Intrinsic.{Intrinsic}
use Rattle.hp_word.specs.Intrinsics.{answer_words}
use Rattle.hp_session.specs.declared.registers.Regs.{Regs}
use Rattle.hp_session.specs.State.{Machine, Outcome}
use Rattle.hp_call_rows.specs.GateRows.{performed}
use Rattle.hp_tos.specs.Seen.{Seen}
use Rattle.hp_rows.specs.Moves.{past}
use Rattle.mpe_session.specs.declared.terminal.Terminal.{Terminal}
use Rattle.mpe_gate.specs.declared.gate.Served.{Served}
use Rattle.mpe_gate.specs.declared.gate.Served.TheVariants.{Went, Ended, Trapped}
use Rattle.mpe_gate.specs.Seated.{seated}
use Rattle.mpe_gate.specs.Serves.{CameTo, ServesAs, Serves, came}

-- each way in which it was carried out: P is moved alone, and only where it was
pub serves_by : (i : Intrinsic) (regs : Regs) (s : Seen) (t : Terminal) (answer : Result Ending Trap)
    (next passed : Regs) (after : Seen) (later : Terminal)
    → ServesAs (performed i) (answer_words i) regs s t (came answer) next after later
    → OnOk answer (passed ≡ past next) → OnErr answer (passed ≡ next)
    → Serves i regs s t (came answer) passed after later
serves_by i regs s t (Ok Running) next passed after later did on_ok on_err =
    record { does = rw (did.does, on_ok) refl; moves = did.moves; same = did.same }
serves_by i regs s t (Ok Terminated) next passed after later did on_ok on_err =
    record { does = (did.does.0, rw (did.does.1, on_ok) refl); moves = did.moves; same = did.same }
serves_by i regs s t (Ok (Quit n)) next passed after later did on_ok on_err =
    record { does = (did.does.0, rw (did.does.1, on_ok) refl); moves = did.moves; same = did.same }
serves_by i regs s t (Ok (StoodTrapped trap)) next passed after later did on_ok on_err =
    record { does = (did.does.0, rw (did.does.1, on_ok) refl); moves = did.moves; same = did.same }
serves_by i regs s t (Err trap) next passed after later did on_ok on_err =
    record { does = (rw did.does.0 refl, rw on_err did.does.1); moves = did.moves; same = did.same }

-- two rows that come to the same are served in the same way
pub serves_same : (row other : Machine → Outcome) (left : ℕ) (regs : Regs) (s : Seen) (t : Terminal) (answer : Served)
    (next : Regs) (after : Seen) (later : Terminal)
    → row (seated regs s t) ≡ other (seated regs s t)
    → ServesAs other left regs s t answer next after later → ServesAs row left regs s t answer next after later
serves_same row other left regs s t answer next after later same did =
    record { does = by answer did.does; moves = did.moves; same = did.same } where
      by : (answer : Served) → CameTo (other (seated regs s t)) (seated regs s t) answer (seated next after later)
          → CameTo (row (seated regs s t)) (seated regs s t) answer (seated next after later)
      by Went is = same ∙ is
      by (Ended ending) is = (is.0, same ∙ is.1)
      by (Trapped trap) is = (same ∙ is.0, is.1)
