-- The laws of statements one behind the other, over the code that simulates them wherever it stands.
use Rattle.std.specs.Prelude.{◌≡◌, ℕ, false, List, [], ◌∷◌}
use Rattle.spl_follow.specs.hp_instr.declared.instruction.Instr.TheVariants as i
use Rattle.spl_follow.specs.spl_branch.declared.pieces.Piece.TheVariants.{Do}
use Rattle.spl_follow.specs.spl_meaning.Laws.{IsFront}
use Rattle.spl_follow.specs.spl_meaning.States.{State, Outcome, done, then_go, beginning}
use Rattle.spl_follow.specs.spl_code.Parts.{Part, Wanted, pieces, ◌⨟◌}
use Rattle.spl_follow.specs.Standing.{due_after}
use Rattle.spl_follow.specs.Simulating.{Surroundings, Performs, PerformsAll}

-- the word that deletes none performs the empty statement
abbrev pub IdleCodePerforms : Type 0
IdleCodePerforms = (z : Surroundings) (d k need : ℕ)
    → Performs z d k need (pieces (Do (i.Control 8 0) ∷ [])) (λ s. beginning s (λ t. done tt t))

-- no code performs no statements
abbrev pub NothingPerforms : Type 0
NothingPerforms = (z : Surroundings) (d k need : ℕ) → PerformsAll z d k need (pieces []) (λ s. done tt s)

-- The code of a statement, behind which nothing is due, and then that of a list, which loses no name that is wanted, perform the statement and
-- then the list.
abbrev pub ListsPerform : Type 0
ListsPerform = (z : Surroundings) (d k need : ℕ) (a b : Part) (one others : State → Outcome (Unit {0}))
    → ((l : ℕ) (ws : List Wanted) → due_after false (a l ws).pieces ≡ false) → ((l : ℕ) (ws : List Wanted) → IsFront ws (b l ws).wants)
    → Performs z d k need a one → PerformsAll z d k need b others
    → PerformsAll z d k need (a ⨟ b) (λ s. then_go (one s) (λ _ t. others t))
