-- The laws of this crate: jumps, statements that bear labels, and the lists that take jumps, over their parts as variables.
use Rattle.std.specs.Prelude.{◌≡◌, ℕ, ◌+◌, ◌-◌, ◌≤◌, Bool, true, false, if◌then◌else◌, List, [], ◌∷◌, ◌++◌}
use Rattle.spl_choices.specs.hp_session.State.{Machine}
use Rattle.spl_choices.specs.spl_tree.declared.names_and_places.At.{At}
use Rattle.spl_choices.specs.spl_branch.declared.pieces.Piece.TheVariants.{Begin, Mark}
use Rattle.spl_choices.specs.spl_meaning.Laws.{IsFront}
use Rattle.spl_choices.specs.spl_meaning.Names.{same_name}
use Rattle.spl_choices.specs.spl_meaning.States.{Data, State, Exit, to_label, Outcome, leaves, then_go, stopping, beginning, code_dropped}
use Rattle.spl_choices.specs.spl_meaning.Statements.{landing}
use Rattle.spl_choices.specs.spl_code.Instructions.{DEL}
use Rattle.spl_choices.specs.spl_code.Parts.{Part, Wanted, piece, nothing, ◌⨟◌}
use Rattle.spl_choices.specs.spl_statement_code.Landings.{jump}
use Rattle.spl_choices.specs.spl_statement_code.Statements.{idle, arm}
use Rattle.spl_choices.specs.spl_follow.Spots.{Spot, pos, on}
use Rattle.spl_choices.specs.spl_follow.Matching.{Arrives}
use Rattle.spl_choices.specs.spl_follow.Following.{tally, Goes}
use Rattle.spl_choices.specs.spl_follow.Standing.{Stands, due_after}
use Rattle.spl_choices.specs.spl_follow.Parts.{Begins, Runs, RunsAll}
use Rattle.spl_choices.specs.spl_follow.Simulating.{Surroundings, Performs, PerformsAll}
use Rattle.spl_choices.specs.spl_control.Laws.{bearing}
use Rattle.spl_choices.specs.spl_values.Reached.{IsWhole}
use Rattle.spl_choices.specs.Laws.{Chooses}

-- A jump is a statement that is noted and leaves its list by a way out, to whose mark it leads: of the words that wait it deletes those that do
-- not wait there.
abbrev pub JumpsPerform : Type 0
JumpsPerform = (z : Surroundings) (d k need number mark : ℕ) (at : At) (out : Exit) → z.sites.marks mark ≡ z.exits.target out
    → Performs z d k need (piece (Begin at) ⨟ jump (k - z.exits.held out) mark) (λ s. stopping number at s (λ u. leaves out u))

-- A statement behind its label's mark and word: the label takes a step of its own.
abbrev pub LabelledPerform : Type 0
LabelledPerform = (z : Surroundings) (d k need mark : ℕ) (a : Part) (one : State → Outcome (Unit {0})) → Performs z d k need a one
    → Performs z d k need (piece (Mark mark) ⨟ idle ⨟ a) (λ s. beginning s (λ u. one u))

-- the same where its label has no mark
abbrev pub UnreachedPerform : Type 0
UnreachedPerform = (z : Surroundings) (d k need : ℕ) (a : Part) (one : State → Outcome (Unit {0})) → Performs z d k need a one
    → Performs z d k need (nothing ⨟ idle ⨟ a) (λ s. beginning s (λ u. one u))

-- ---- statements, from their labels on

-- From one place the machine goes on to another, with k words waiting there as here, by so much charge; the run does nothing.
abbrev pub LeadsOn : Surroundings → ℕ → ℕ → Spot → Spot → Type 0
LeadsOn z k more q to = (d0 : Data) (m0 : Machine) (t : State) (n : Machine) → Arrives z.setting q k d0 m0 t n
    → (n1 : Machine) × Goes z.ground z.rate more 0 0 (tally t) n (tally t) n1 × Arrives z.setting to k d0 m0 t n1

-- Code performs a statement from each of its labels on: from the place of the way out to that label it is followed to the end of the code, and
-- from there to where that leads, as far as the label's own step pays for it.
pub record PerformsAt (z : Surroundings) (d k need : ℕ) (part : Part) (has : List ℕ → Bool) (at : List ℕ → State → Outcome (Unit {0})) : Type 0 where
  pub does : (i : ℕ) (ws : List Wanted) (p q to : Spot) (more : ℕ) (y : List ℕ) (s : State) (m : Machine)
      → Stands z.ground z.sites (on p) (part i ws).pieces q → IsFront (part i ws).wants z.wants → pos q + more ≤ z.rate.step → LeadsOn z k more q to
      → has y ≡ true → Begins z.setting d (z.exits.target (to_label y)) k need s m → Runs z.ground z.rate z.setting z.exits to k s m (at y s)

-- a statement that bears no label
abbrev pub UnlabelledPerformAt : Type 0
UnlabelledPerformAt = (z : Surroundings) (d k need : ℕ) (a : Part) (at : List ℕ → State → Outcome (Unit {0})) → PerformsAt z d k need a (λ x. false) at

-- one behind a label, to whose mark the way out leads, from that label on or from others behind it
abbrev pub LabelledPerformAt : Type 0
LabelledPerformAt = (z : Surroundings) (d k need mark : ℕ) (y : List ℕ) (a : Part) (one : State → Outcome (Unit {0})) (has : List ℕ → Bool)
    (at : List ℕ → State → Outcome (Unit {0})) → z.sites.marks mark ≡ z.exits.target (to_label y) → Performs z d k need a one → PerformsAt z d k need a has at
    → PerformsAt z d k need (piece (Mark mark) ⨟ idle ⨟ a) (λ x. if same_name x y then true else has x)
    (λ x s. if same_name x y then beginning s (λ u. one u) else at x s)

-- ---- lists

-- Code performs a list from each of its labels on: from the place of the way out to that label it is followed to the end of the code, wherever
-- that stands.
pub record PerformsFrom (z : Surroundings) (d k need : ℕ) (part : Part) (has : List ℕ → Bool) (from : List ℕ → State → Outcome (Unit {0})) : Type 0 where
  pub does : (i : ℕ) (ws : List Wanted) (p q : Spot) (y : List ℕ) (s : State) (m : Machine)
      → Stands z.ground z.sites (on p) (part i ws).pieces q → IsFront (part i ws).wants z.wants → pos q ≤ z.rate.step → has y ≡ true
      → Begins z.setting d (z.exits.target (to_label y)) k need s m → RunsAll z.ground z.rate z.setting z.exits q k s m (from y s)

-- a list of none
abbrev pub NothingPerformsFrom : Type 0
NothingPerformsFrom = (z : Surroundings) (d k need : ℕ) (a : Part) (from : List ℕ → State → Outcome (Unit {0})) → PerformsFrom z d k need a (λ x. false) from

-- A list from a label of its first statement on, and then the others; or from a label of these.
abbrev pub ListsPerformFrom : Type 0
ListsPerformFrom = (z : Surroundings) (d k need : ℕ) (a b : Part) (has more : List ℕ → Bool) (at from : List ℕ → State → Outcome (Unit {0}))
    (others : State → Outcome (Unit {0})) → ((l : ℕ) (ws : List Wanted) → due_after false (a l ws).pieces ≡ false)
    → ((l : ℕ) (ws : List Wanted) → IsFront ws (b l ws).wants) → PerformsAt z d k need a has at → PerformsAll z d k need b others
    → PerformsFrom z d k need b more from
    → PerformsFrom z d k need (a ⨟ b) (λ x. if has x then true else more x) (λ x s. if has x then then_go (at x s) (λ _ t. others t) else from x s)

-- what the code inside a list that bears labels finds around it
abbrev pub listing : (List ℕ → Bool) → ℕ → Surroundings → Surroundings
listing has k z = record z { exits = bearing has k z.exits }

-- A list takes the jumps to its own labels, at each of which as many words wait as before it, and leaves by the ways out around it.
abbrev pub ListsLand : Type 0
ListsLand = (z : Surroundings) (d k need fuel : ℕ) (a : Part) (has : List ℕ → Bool) (from : List ℕ → State → Outcome (Unit {0}))
    (all : State → Outcome (Unit {0})) → d ≤ fuel → PerformsAll (listing has k z) d k need a all → PerformsFrom (listing has k z) d k need a has from
    → PerformsAll z d k need a (λ s. landing fuel has from (all s))

-- A block: such a list, behind the word of the block. No condition code is known behind it.
abbrev pub BlocksPerform : Type 0
BlocksPerform = (z : Surroundings) (d k need : ℕ) (a : Part) (has : List ℕ → Bool) (from : List ℕ → State → Outcome (Unit {0}))
    (all : State → Outcome (Unit {0})) → PerformsAll (listing has k z) d k need a all → PerformsFrom (listing has k z) d k need a has from
    → Performs z d k need (idle ⨟ a) (λ s. beginning s (λ u. code_dropped (landing d has from (all u))))

-- ---- arms of a CASE

-- Code performs the arms of a CASE from each of their labels on: from the place of the way out to that label it is followed to the end of the
-- arm, and over the others to that of the CASE.
pub record ChoosesAt (z : Surroundings) (d k need : ℕ) (arms : ℕ → Part) (has : List ℕ → Bool) (from : List ℕ → State → Outcome (Unit {0})) : Type 0 where
  pub does : (end i : ℕ) (ws : List Wanted) (p q : Spot) (y : List ℕ) (s : State) (m : Machine)
      → Stands z.ground z.sites (on p) ((arms end i ws).pieces ++ DEL ∷ []) q → z.sites.marks end ≡ q → IsFront (arms end i ws).wants z.wants
      → pos q ≤ z.rate.step → has y ≡ true → Begins z.setting d (z.exits.target (to_label y)) k need s m
      → Runs z.ground z.rate z.setting z.exits q k s m (from y s)

-- where there is no arm
abbrev pub NoArmChoosesAt : Type 0
NoArmChoosesAt = (z : Surroundings) (d k need : ℕ) (arms : ℕ → Part) (from : List ℕ → State → Outcome (Unit {0})) → ChoosesAt z d k need arms (λ x. false) from

-- an arm before others, from its own labels on or from theirs
abbrev pub ArmsChooseAt : Type 0
ArmsChooseAt = (z : Surroundings) (d k need : ℕ) (a : Part) (arms : ℕ → Part) (has more : List ℕ → Bool) (at from : List ℕ → State → Outcome (Unit {0}))
    → IsWhole a → ((end l : ℕ) (ws : List Wanted) → IsFront ws (arms end l ws).wants) → PerformsAt z d k need a has at → ChoosesAt z d k need arms more from
    → ChoosesAt z d k need (λ end. arm a end ⨟ arms end) (λ x. if has x then true else more x) (λ x s. if has x then at x s else from x s)

-- The arms of a CASE take the jumps to their labels, as a list does.
abbrev pub ArmsLand : Type 0
ArmsLand = (z : Surroundings) (d k need : ℕ) (arms : ℕ → Part) (has : List ℕ → Bool) (meaning : ℕ → State → Outcome (Unit {0}))
    (from : List ℕ → State → Outcome (Unit {0})) → Chooses (listing has k z) d k need arms meaning → ChoosesAt (listing has k z) d k need arms has from
    → Chooses z d k need arms (λ v s. landing d has from (meaning v s))
