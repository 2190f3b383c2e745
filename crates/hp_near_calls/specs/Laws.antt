-- The laws of this crate.
use Rattle.std.specs.Prelude.{◌≡◌, ℕ, List}
use Rattle.spl_follow.specs.hp_instr.declared.instruction.Instr.TheVariants as i
use Rattle.spl_follow.specs.hp_session.State.{Machine}
use Rattle.spl_follow.specs.hp_flat.Step.{step}
use Rattle.spl_follow.specs.Spots.{Spot, Point, Ground}
use Rattle.spl_follow.specs.Leading.{Leads}
use Rattle.spl_follow.specs.Doing.{body, calling}
use Rattle.hp_near_calls.specs.Near.{IsNear}

-- A step stays in its segment, or begins and ends in whole mode.
abbrev pub StepsStayNear : Type 0
StepsStayNear = (segments : List (List ℕ)) (m : Machine) → IsNear m (step segments m)

-- From where each machine comes to a subroutine as by SCAL, in split mode too, that stands in the same segment. So SXIT, which goes to an offset of its own
-- segment, comes back behind the call.
abbrev pub SubroutineCallsAreNear : Type 0
SubroutineCallsAreNear = (g : Ground) (p : Point) (r to : Spot) (n : ℕ) → Leads g p r (calling (i.Control 3 n) (body to) r) → to.seg ≡ p.at.seg
