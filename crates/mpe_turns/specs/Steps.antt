-- What the steps of a turn make of a session, over the segment at hand.
use Rattle.std.specs.Prelude.{◌≡◌, ℕ, ◌+◌, ◌-◌, Bool, true, false, ◌&&◌, Some, slice_get}
use Rattle.hp_word.specs.declared.endings.Ending.{Ending}
use Rattle.hp_word.specs.declared.endings.Ending.TheVariants.{Running, Trapped as StoodTrapped}
use Rattle.hp_word.specs.declared.intrinsics.Intrinsic.{Intrinsic}
use Rattle.hp_program.specs.declared.program.Program.{Program}
use Rattle.hp_program.specs.Programs.{segments_of}
use Rattle.mpe_gate.specs.hp_tos.StackView.{seen}
use Rattle.mpe_worlds.specs.hp_calls.Phases.{HoldsOf}
use Rattle.mpe_worlds.specs.hp_flat.Step.{is_running}
use Rattle.mpe_gate.specs.declared.gate.Served.{Served}
use Rattle.mpe_gate.specs.declared.gate.Served.TheVariants.{Went, Ended, Trapped}
use Rattle.mpe_gate.specs.Serves.{Serves}
use Rattle.mpe_overlay.specs.mpe_regions.Area.{Area}
use Rattle.mpe_overlay.specs.declared.overlay.Overlay.{Overlay}
use Rattle.mpe_overlay.specs.declared.at_hand.SegmentView.{SegmentView}
use Rattle.mpe_overlay.specs.Held.{held_by}
use Rattle.mpe_worlds.specs.RunSteps.{can_step, stepping}
use Rattle.mpe_turns.specs.declared.session.Session.{Session}
use Rattle.mpe_turns.specs.Stands.{IsSessionOf, run_of}

-- the area that a view sees
abbrev pub area_of : SegmentView → Area
area_of code = code.view.regions.now.area

-- a view of an overlay for a program: it sees the overlay's area, and holds segments of that program
pub record Views (overlay : Overlay) (number : ℕ) (code : SegmentView) : Type 0 where
  pub area : area_of code ≡ overlay.regions.area
  pub program : code.view.program ≡ number
  pub holds : (p : Program) → slice_get overlay.programs.items number ≡ Some p → HoldsOf (segments_of p) (held_by code.view)

-- a session of a program runs over a view that holds segments of it
pub record RunsOver (p : Program) (code : SegmentView) (s : Session) : Type 0 where
  pub session : IsSessionOf p s
  pub holds : HoldsOf (segments_of p) (held_by code.view)
  pub same_program : s.program ≡ code.view.program

-- where a session stands after an intrinsic was served, and whether it goes on
abbrev pub ending_after : Served → Ending
ending_after Went = Running
ending_after (Ended ending) = ending
ending_after (Trapped trap) = StoodTrapped trap

abbrev pub is_went : Served → Bool
is_went Went = true
is_went _ = false

-- an intrinsic was served, which is one step; whether the session goes on is told
pub record ServesCall (i : Intrinsic) (old : Session) (on : Bool) (new : Session) : Type 0 where
  pub answer : Served
  pub serves : Serves i old.cpu.regs (seen old.cpu.stack) old.terminal answer new.cpu.regs (seen new.cpu.stack) new.terminal
  pub told : on ≡ is_went answer
  pub left : new ≡ record old {
    cpu = record old.cpu { regs = new.cpu.regs; stack = new.cpu.stack };
    terminal = new.terminal;
    ending = ending_after answer;
    steps = old.steps + 1;
  }

-- one step was tried; whether the session goes on is told
pub record MakesOne (p : Program) (a : Area) (old : Session) (on : Bool) (new : Session) : Type 0 where
  pub steps : run_of (segments_of p) new ≡ stepping (segments_of p) a 1 (run_of (segments_of p) old)
  pub told : on ≡ (can_step a (run_of (segments_of p) old) && is_running new.ending)
  pub session : IsSessionOf p new

-- some steps were made: what is left to be made until there are so many is the same from there on. Where the session was not told
-- to go on it can make none
pub record MakesSome (p : Program) (a : Area) (until : ℕ) (old : Session) (on : Bool) (new : Session) : Type 0 where
  pub rest : stepping (segments_of p) a (until - new.steps) (run_of (segments_of p) new)
      ≡ stepping (segments_of p) a (until - old.steps) (run_of (segments_of p) old)
  pub over : on ≡ false → can_step a (run_of (segments_of p) new) ≡ false
  pub session : IsSessionOf p new
