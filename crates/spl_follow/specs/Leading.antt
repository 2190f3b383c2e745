-- What it means that the words from one place to another do something to the machine.
use Rattle.std.specs.Prelude.{◌≡◌, ℕ, suc, ◌-◌, ◌<◌, []}
use Rattle.hp_flat.specs.hp_word.declared.endings.Ending.TheVariants.{Running}
use Rattle.hp_flat.specs.hp_session.State.{Machine}
use Rattle.hp_flat.specs.Step.{step, after}
use Rattle.spl_follow.specs.Spots.{Spot, spot, pos, Point, Ground, start_at, visits, print_between, prints}

-- One machine becomes another in at least one step, at most b, and never more than two. On the way, behind its first step, it is at no start; and all that it
-- prints is one print, if any.
pub record Reaches (g : Ground) (b : ℕ) (m n : Machine) : Type 0 where
  pub more : ℕ
  pub few : more < b
  pub brief : more < 2
  pub goes : after g.segments (suc more) m ≡ n
  pub quiet : visits g more (step g.segments m) ≡ []
  pub wrote : prints g (suc more) m ≡ print_between m n

-- From p each running machine becomes what F says of it, wherever F lets it go on. What is due at p starts there, and nothing else does.
-- r is behind p in its segment, and it takes at most one step for each half of a word from p to r.
pub record Leads (g : Ground) (p : Point) (r : Spot) (F : Machine → Machine) : Type 0 where
  pub start : start_at g p.at ≡ p.due
  pub rise : pos p.at < pos r
  pub inside : r.seg ≡ p.at.seg
  pub goes : (m : Machine) → spot m ≡ p.at → m.ending ≡ Running → Reaches g (pos r - pos p.at) m (F m)
