-- What the code of expressions and of statements starts from, and what it promises for each outcome.
use Rattle.std.specs.Prelude.{◌≡◌, ℕ, ◌+◌, ◌-◌, ◌≤◌, Bool, min, if◌then◌else◌, List, [], ◌∷◌, None}
use Rattle.hp_flat.specs.hp_word.declared.endings.Ending.TheVariants.{Running}
use Rattle.hp_flat.specs.hp_session.State.{Machine}
use Rattle.spl_code.specs.spl_meaning.Operations.{is_odd}
use Rattle.spl_code.specs.spl_meaning.References.{Setting}
use Rattle.spl_code.specs.spl_meaning.States.{Data, State, Begun, Exit, to_label, back, Outcome}
use Rattle.spl_code.specs.Code.{Aim, as_value, as_test}
use Rattle.spl_follow.specs.Spots.{Spot, spot, pos, Point, Ground}
use Rattle.spl_follow.specs.Matching.{Matched, Coded, Shows, IsValue, Arrives}
use Rattle.spl_follow.specs.Following.{Rate, tally, tally_with, Owes, Follows, NoExit}

-- ---- what code starts from

-- A part of an expression is ready to begin at p while k words wait: the machine is there, and matches; l is the log of what it has met; no
-- condition code is known; there is room for so many words more; and the bound on calls is at least the steps that are left.
pub record Ready (st : Setting) (d : ℕ) (p : Point) (k need : ℕ) (s : State) (l : List Begun) (m : Machine) : Type 0 where
  pub at : spot m ≡ p.at
  pub owes : Owes p.due l s m
  pub matches : Matched st s.now m k
  pub silent : s.code ≡ None
  pub room : s.now.top + k + need ≤ s.now.stack
  pub fuel : s.left ≤ d

-- a statement is ready to begin: nothing that has begun is still to be met, and the condition code that is known is the machine's
pub record Begins (st : Setting) (d : ℕ) (p : Spot) (k need : ℕ) (s : State) (m : Machine) : Type 0 where
  pub at : spot m ≡ p
  pub matches : Matched st s.now m k
  pub coded : Coded s.code m.regs.code
  pub room : s.now.top + k + need ≤ s.now.stack
  pub fuel : s.left ≤ d

-- ---- expressions

-- a test by its truth: on at q where it holds, and else at `fails`
abbrev pub Truth : Setting → Spot → Spot → ℕ → Data → Machine → Bool → State → Machine → Type 0
Truth st q fails k d m b s n = Arrives st (if b then q else fails) k d m s n × (s.code ≡ None)

-- a test by the value that it is of: its lowest bit decides; with a value that is not one word the run goes no further
abbrev pub Tested : Setting → Spot → Spot → ℕ → Data → Machine → List ℕ → State → Machine → Type 0
Tested st q fails k d m [] s n = Shows Running s.now n
Tested st q fails k d m (v ∷ []) s n = Truth st q fails k d m (is_odd v) s n
Tested st q fails k d m (v ∷ u ∷ vs) s n = Shows Running s.now n

-- what an expression leaves, by what is wanted of it: a value of n words on top, or a test
abbrev pub Attains : Setting → (ℕ → Spot) → Aim → ℕ → Spot → ℕ → Data → Machine → List ℕ → State → Machine → Type 0
Attains st marks as_value n q k d m vs s m' = IsValue st q n k d m vs s m'
Attains st marks (as_test fail) n q k d m vs s m' = Tested st q (marks fail) k d m vs s m'

-- An expression: it is charged a step for each half of a word of its code. One step of the run may come before its first instruction, that of
-- a call; behind it the steps of one instruction are to spare.
abbrev pub Gives : Ground → Rate → Setting → (ℕ → Spot) → Aim → ℕ → Point → Spot → ℕ → State → List Begun → Machine → Outcome (List ℕ) → Type 0
Gives g w st marks aim n p q k s l m o =
    Follows g w (pos q - pos p.at) 1 w.reach (tally_with l s) m (Attains st marks aim n q k s.now m) NoExit o

-- ---- statements

-- where the ways out of a body lead, and how many words wait there
pub record Exits : Type 0 where
  pub target : Exit → Spot
  pub held : Exit → ℕ

-- a statement that is done is at q
abbrev pub Completes : Setting → Spot → ℕ → Data → Machine → Unit {0} → State → Machine → Type 0
Completes st q k d m u s n = Arrives st q k d m s n

-- one that is left is where its way out leads, and of the k words that waited no more wait than do there
abbrev pub Leaving : Setting → Exits → ℕ → Data → Machine → Exit → State → Machine → Type 0
Leaving st x k d m e s n = Arrives st (x.target e) (min (x.held e) k) d m s n

-- A statement: its own steps pay for it. Three of them may come before its first instruction, and as many are to spare behind it.
abbrev pub Runs : Ground → Rate → Setting → Exits → Spot → ℕ → State → Machine → Outcome (Unit {0}) → Type 0
Runs g w st x q k s m o = Follows g w 0 3 3 (tally s) m (Completes st q k s.now m) (Leaving st x k s.now m) o

-- a list of statements, which may be empty: nothing is to spare behind it
abbrev pub RunsAll : Ground → Rate → Setting → Exits → Spot → ℕ → State → Machine → Outcome (Unit {0}) → Type 0
RunsAll g w st x q k s m o = Follows g w 0 3 0 (tally s) m (Completes st q k s.now m) (Leaving st x k s.now m) o

-- the ways out of a body: RETURN completes it, and a jump out of it leads nowhere
abbrev pub Returning : Setting → Spot → ℕ → Data → Machine → Exit → State → Machine → Type 0
Returning st q k d m back s n = Arrives st q k d m s n
Returning st q k d m (to_label x) s n = Shows Running s.now n
