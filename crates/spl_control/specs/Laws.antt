-- The laws of control: choices, loops and jumps, whatever their parts are, where these are followed.
use Rattle.std.specs.Prelude.{◌≡◌, ℕ, ◌+◌, ◌-◌, ◌≤◌, ◌<◌, Bool, true, false, if◌then◌else◌, List, None}
use Rattle.spl_follow.specs.hp_instr.declared.instruction.Instr.TheVariants as i
use Rattle.spl_follow.specs.hp_session.State.{Machine}
use Rattle.spl_follow.specs.spl_meaning.References.{Setting}
use Rattle.spl_follow.specs.spl_meaning.Statements.{looping, repeating, landing}
use Rattle.spl_follow.specs.spl_meaning.States.{Data, State, Exit, to_label, back, Outcome, done, leaves, spent, ends, strays, then_go}
use Rattle.spl_follow.specs.Spots.{Spot, pos, on, Ground}
use Rattle.spl_follow.specs.Leading.{Leads}
use Rattle.spl_follow.specs.Matching.{Arrives}
use Rattle.spl_follow.specs.Following.{Rate, Tally, tally, Follows, NoExit}
use Rattle.spl_follow.specs.Doing.{turning}
use Rattle.spl_follow.specs.Parts.{Ready, Begins, Truth, Exits, Completes, Leaving}

-- ---- choices

-- A statement that is done is at q, and no condition code is known.
abbrev pub Settles : Setting → Spot → ℕ → Data → Machine → Unit {0} → State → Machine → Type 0
Settles st q k d m u s n = Arrives st q k d m s n × (s.code ≡ None)

-- A test, and then one of two sides, each from where the test leads; both end at one place, and either may be charged so much, as for a branch
-- over the other. What the test has to spare pays for the steps before a side's first instruction.
abbrev pub ChoicesFollow : Type 0
ChoicesFollow = (g : Ground) (w : Rate) (st : Setting) (x : Exits) (c a : ℕ) (r fails q : Spot) (k : ℕ) (t : Tally) (m : Machine) (d0 : Data) (m0 : Machine)
    (test : Outcome Bool) (yes' no' : State → Outcome (Unit {0})) → Follows g w c 1 w.reach t m (Truth st r fails k d0 m0) NoExit test
    → ((s : State) (n : Machine) → Truth st r fails k d0 m0 true s n → s.left ≤ t.left
    → Follows g w a 3 0 (tally s) n (Settles st q k d0 m0) (Leaving st x k d0 m0) (yes' s))
    → ((s : State) (n : Machine) → Truth st r fails k d0 m0 false s n → s.left ≤ t.left
    → Follows g w a 3 0 (tally s) n (Settles st q k d0 m0) (Leaving st x k d0 m0) (no' s))
    → Follows g w (c + a) 1 3 t m (Settles st q k d0 m0) (Leaving st x k d0 m0) (then_go test (λ b s. if b then yes' s else no' s))

-- ---- loops

-- A loop with its test before its body, from its mark on: each turn is a step, the test, the body and the branch back. Where the test does
-- not hold it leads behind the loop. The step of a turn pays for the test's code and for the branch.
abbrev pub LoopsFollow : Type 0
LoopsFollow = (g : Ground) (w : Rate) (st : Setting) (x : Exits) (d need k : ℕ) (next r b q : Spot) (back : Bool) (by : ℕ)
    (test : State → Outcome Bool) (body : State → Outcome (Unit {0})) → Leads g (on b) q (turning (i.Branch false back by) next q)
    → (pos r - pos next) + (pos q - pos b) ≤ w.step
    → ((s : State) (m : Machine) → Ready st d (on next) k need s s.begun m
    → Follows g w (pos r - pos next) 1 w.reach (tally s) m (Truth st r q k s.now m) NoExit (test s))
    → ((s : State) (m : Machine) → Begins st d r k need s m
    → Follows g w 0 3 3 (tally s) m (Settles st b k s.now m) (Leaving st x k s.now m) (body s))
    → (fuel : ℕ) (s : State) (m : Machine) → s.left < fuel → Ready st d (on next) k need s s.begun m
    → Follows g w 0 2 3 (tally s) m (Settles st q k s.now m) (Leaving st x k s.now m) (looping fuel test body s)

-- A loop with its test behind its body, from its mark on: each turn is the body, a step and the test, which leads back where it does not hold.
-- That step pays for the test's code.
abbrev pub RepeatsFollow : Type 0
RepeatsFollow = (g : Ground) (w : Rate) (st : Setting) (x : Exits) (d need k : ℕ) (again b q : Spot) (test : State → Outcome Bool)
    (body : State → Outcome (Unit {0})) → pos q - pos b ≤ w.step
    → ((s : State) (m : Machine) → Begins st d again k need s m
    → Follows g w 0 3 3 (tally s) m (Settles st b k s.now m) (Leaving st x k s.now m) (body s))
    → ((s : State) (m : Machine) → Ready st d (on b) k need s s.begun m
    → Follows g w (pos q - pos b) 1 w.reach (tally s) m (Truth st q again k s.now m) NoExit (test s))
    → (fuel : ℕ) (s : State) (m : Machine) → s.left < fuel → Begins st d again k need s m
    → Follows g w 0 3 3 (tally s) m (Settles st q k s.now m) (Leaving st x k s.now m) (repeating fuel test body s)

-- ---- jumps

-- who leaves has fewer steps left
abbrev pub LeavesBelow : ℕ → Outcome (Unit {0}) → Type 0
LeavesBelow n (done u s) = Unit {0}
LeavesBelow n (leaves x s) = s.left < n
LeavesBelow n (spent s) = Unit {0}
LeavesBelow n (ends e s) = Unit {0}
LeavesBelow n (strays s) = Unit {0}

-- What the ways out are inside a list that bears labels: k words wait at these, and the others are as around it.
abbrev pub held_inside : (List ℕ → Bool) → ℕ → (Exit → ℕ) → Exit → ℕ
held_inside has k held (to_label y) = if has y then k else held (to_label y)
held_inside has k held back = held back

abbrev pub bearing : (List ℕ → Bool) → ℕ → Exits → Exits
bearing has k x = record x { held = held_inside has k x.held }

-- A list takes the jumps to its labels: where it is left by one, it goes on at that label, with as many words waiting, and so again. Each jump
-- has taken a step, so the bound lasts; and what leaves the list leaves by a way out of what is around it.
abbrev pub LandingsFollow : Type 0
LandingsFollow = (g : Ground) (w : Rate) (st : Setting) (x : Exits) (q : Spot) (k : ℕ) (t : Tally) (m : Machine) (d0 : Data) (m0 : Machine)
    (has : List ℕ → Bool) (from : List ℕ → State → Outcome (Unit {0}))
    → ((y : List ℕ) (s : State) (n : Machine) → has y ≡ true → Arrives st (x.target (to_label y)) k d0 m0 s n → s.left ≤ t.left
    → Follows g w 0 3 0 (tally s) n (Completes st q k d0 m0) (Leaving st (bearing has k x) k d0 m0) (from y s))
    → (fuel : ℕ) (o : Outcome (Unit {0})) → LeavesBelow fuel o → Follows g w 0 3 0 t m (Completes st q k d0 m0) (Leaving st (bearing has k x) k d0 m0) o
    → Follows g w 0 3 0 t m (Completes st q k d0 m0) (Leaving st x k d0 m0) (landing fuel has from o)
