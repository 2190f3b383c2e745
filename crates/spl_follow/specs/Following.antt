-- What it means that the machine follows a part of a run: for each outcome of the part there is a machine that it comes to, with the steps
-- that it takes, the starts that it meets and the prints that it makes on the way.
use Rattle.std.specs.Prelude.{◌≡◌, ◌⊎◌, ℕ, ◌+◌, ◌*◌, ◌≤◌, List, [], ◌∷◌, ◌++◌, Option, None, Some}
use Rattle.hp_flat.specs.hp_word.declared.endings.Ending.TheVariants.{Running}
use Rattle.hp_flat.specs.hp_session.State.{Machine}
use Rattle.hp_flat.specs.Step.{after}
use Rattle.spl_code.specs.spl_tree.declared.names_and_places.At.{At}
use Rattle.spl_code.specs.spl_meaning.References.{Setting}
use Rattle.spl_code.specs.spl_meaning.States.{State, Begun, Exit, Outcome, done, leaves, spent, ends, strays}
use Rattle.spl_code.specs.spl_meaning.Runs.{ending_of}
use Rattle.spl_follow.specs.Spots.{Ground, Visit, visits, prints}
use Rattle.spl_follow.specs.Matching.{Matched, Coded, Shows}

-- ---- the log

-- a statement that was begun is one that the machine starts: at its place, with its data, some words waiting, and its condition code
pub record Agrees (b : Begun) (v : Visit) : Type 0 where
  pub place : v.at ≡ b.at
  pub setting : Setting
  pub waiting : ℕ
  pub matches : Matched setting b.data' v.machine waiting
  pub coded : Coded b.code v.machine.regs.code

-- visits, one by one, take one log to another: each adds a statement that agrees with it
abbrev pub Logged : List Begun → List Visit → List Begun → Type 0
Logged l [] l' = l ≡ l'
Logged l (v ∷ vs) l' = (b : Begun) × Agrees b v × Logged (l ++ b ∷ []) vs l'

-- Where a statement starts that is not yet met, the run has begun it, and the log l of what the machine has met lacks it; else l is the run's
-- log.
abbrev pub Owes : Option At → List Begun → State → Machine → Type 0
Owes None l s m = l ≡ s.begun
Owes (Some at) l s m = (b : Begun) × Agrees b (record { at = at; machine = m }) × (l ++ b ∷ [] ≡ s.begun)

-- what the machine has met is the run's log, or lacks the one statement at which it stands
abbrev pub Behind : Ground → List Begun → State → Machine → Type 0
Behind g l s m = (l ≡ s.begun) ⊎ Logged l (visits g 1 m) s.begun

-- ---- the charge

-- What steps of the run and of the machine are worth: a step of the run pays for so many of the machine, at least for a word's halves, and a
-- step of the machine lets so many of the run pass, eight at least.
pub record Rate : Type 0 where
  pub step : ℕ
  pub reach : ℕ
  pub word : 2 ≤ step
  pub enough : 8 ≤ reach

-- what of a run is counted: the steps that are left, the statements begun and the prints
pub record Tally : Type 0 where
  pub left : ℕ
  pub begun : List Begun
  pub printed : List (List ℕ)

-- of a state
abbrev pub tally : State → Tally
tally s = record { left = s.left; begun = s.begun; printed = s.now.printed }

-- of a state, with another log: that of what the machine has met
abbrev pub tally_with : List Begun → State → Tally
tally_with l s = record { left = s.left; begun = l; printed = s.now.printed }

-- The machine goes from one to another while the run's tally goes from t to t'.
-- cost: its steps are paid by those of the run, and by c more, which are charged to what stands before.
-- gain: the run's steps are let pass by those of the machine and by `lag` more, which may come before its first step; e are to spare.
-- log and wrote: what it meets on the way are the statements begun, and what it prints, step by step, are the prints.
pub record Goes (g : Ground) (w : Rate) (c lag e : ℕ) (t : Tally) (m : Machine) (t' : Tally) (m' : Machine) : Type 0 where
  pub n : ℕ
  pub goes : after g.segments n m ≡ m'
  pub cost : n + w.step * t'.left ≤ w.step * t.left + c
  pub gain : t.left + e ≤ t'.left + w.reach * n + lag
  pub less : t'.left ≤ t.left
  pub log : Logged t.begun (visits g n m) t'.begun
  pub wrote : t.printed ++ prints g n m ≡ t'.printed

-- ---- following

-- From m the machine follows what comes of a part. Where that is done, P holds of its value and state and of the machine, with e to spare.
-- Where it is left, J holds of the way out and these. Where its steps are spent, or it strays, the machine runs and has printed the same; the
-- statement begun last may not yet be met. Where it ends, the machine ends so and has printed the same.
abbrev pub Follows : {A : Type 0} → Ground → Rate → ℕ → ℕ → ℕ → Tally → Machine → (A → State → Machine → Type 0) → (Exit → State → Machine → Type 0)
    → Outcome A → Type 0
Follows g w c lag e t m P J (done a s) = (n : Machine) × Goes g w c lag e t m (tally s) n × P a s n
Follows g w c lag e t m P J (leaves x s) = (n : Machine) × Goes g w c lag w.reach t m (tally s) n × J x s n
Follows g w c lag e t m P J (spent s) =
    (n : Machine) × (l : List Begun) × Goes g w c lag 0 t m (tally_with l s) n × Shows Running s.now n × (s.left ≡ 0) × Behind g l s n
Follows g w c lag e t m P J (ends x s) = (n : Machine) × Goes g w c lag 0 t m (tally s) n × Shows (ending_of x) s.now n
Follows g w c lag e t m P J (strays s) =
    (n : Machine) × (l : List Begun) × Goes g w c lag 0 t m (tally_with l s) n × Shows Running s.now n × Behind g l s n

-- a part that has no way out
abbrev pub NoExit : Exit → State → Machine → Type 0
NoExit x s m = ⊥
