-- What it means that a part of code simulates a part of the source, wherever it stands.
use Rattle.std.specs.Prelude.{ℕ, ◌≤◌, List}
use Rattle.hp_flat.specs.hp_session.State.{Machine}
use Rattle.spl_code.specs.spl_meaning.References.{Setting}
use Rattle.spl_code.specs.spl_meaning.States.{State, Begun, Outcome}
use Rattle.spl_code.specs.spl_meaning.Laws.{IsFront}
use Rattle.spl_code.specs.Parts.{Part, Wanted}
use Rattle.spl_code.specs.Code.{Aim}
use Rattle.spl_follow.specs.Spots.{Spot, pos, Point, on, Ground}
use Rattle.spl_follow.specs.Following.{Rate}
use Rattle.spl_follow.specs.Standing.{Sites, Stands}
use Rattle.spl_follow.specs.Parts.{Ready, Begins, Gives, Exits, Runs, RunsAll}

-- what the code of a body finds around it: the program's words, the rates, where its module stands and which names that wants in all, the
-- body's setting and the ways out of it
pub record Surroundings : Type 0 where
  pub ground : Ground
  pub rate : Rate
  pub sites : Sites
  pub wants : List Wanted
  pub setting : Setting
  pub exits : Exits

-- The code of an expression simulates it: wherever its pieces stand, behind whatever marks and wants, while k words wait and with room for so
-- many words more.
pub record Simulates (z : Surroundings) (d : ℕ) (aim : Aim) (n k need : ℕ) (part : Part) (meaning : State → Outcome (List ℕ)) : Type 0 where
  pub does : (i : ℕ) (ws : List Wanted) (p : Point) (q : Spot) (s : State) (l : List Begun) (m : Machine)
      → Stands z.ground z.sites p (part i ws).pieces q → IsFront (part i ws).wants z.wants → Ready z.setting d p k need s l m
      → Gives z.ground z.rate z.setting z.sites.marks aim n p q k s l m (meaning s)

-- The code of a statement performs it, where a step of the run pays for all halves of words before its end.
pub record Performs (z : Surroundings) (d k need : ℕ) (part : Part) (meaning : State → Outcome (Unit {0})) : Type 0 where
  pub does : (i : ℕ) (ws : List Wanted) (p q : Spot) (s : State) (m : Machine)
      → Stands z.ground z.sites (on p) (part i ws).pieces q → IsFront (part i ws).wants z.wants → pos q ≤ z.rate.step
      → Begins z.setting d p k need s m → Runs z.ground z.rate z.setting z.exits q k s m (meaning s)

-- and so does that of a list of statements
pub record PerformsAll (z : Surroundings) (d k need : ℕ) (part : Part) (meaning : State → Outcome (Unit {0})) : Type 0 where
  pub does : (i : ℕ) (ws : List Wanted) (p q : Spot) (s : State) (m : Machine)
      → Stands z.ground z.sites (on p) (part i ws).pieces q → IsFront (part i ws).wants z.wants → pos q ≤ z.rate.step
      → Begins z.setting d p k need s m → RunsAll z.ground z.rate z.setting z.exits q k s m (meaning s)
