-- The laws of this crate: assignments over their parts as variables; and then all that is covered.
use Rattle.std.specs.Prelude.{◌≡◌, ℕ, ◌+◌, ◌≤◌, Bool, true, false, List, ◌++◌, Option}
use Rattle.spl_counts.specs.spl_tree.declared.names_and_places.At.{At}
use Rattle.spl_counts.specs.spl_tree.declared.expressions.Kind.{Kind}
use Rattle.spl_counts.specs.spl_tree.StatementTrees.{Statement, Statements}
use Rattle.spl_counts.specs.spl_branch.declared.pieces.Piece.TheVariants.{Begin}
use Rattle.spl_counts.specs.spl_meaning.Operations.{kept}
use Rattle.spl_counts.specs.spl_meaning.Pending.{statement_most, statements_most}
use Rattle.spl_counts.specs.spl_meaning.Places.{Place}
use Rattle.spl_counts.specs.spl_meaning.References.{Setting, its_own, address_of, variable_located, store}
use Rattle.spl_counts.specs.spl_meaning.StatementRules.{list_labels}
use Rattle.spl_counts.specs.spl_meaning.States.{State, back, Outcome, then_go, stopping}
use Rattle.spl_counts.specs.spl_meaning.Statements.{bears_among, landing, run, run_all, run_from}
use Rattle.spl_counts.specs.spl_meaning.Values.{Who, Callee}
use Rattle.spl_counts.specs.spl_code.Parts.{Part, pieces, piece, nothing, ◌⨟◌}
use Rattle.spl_counts.specs.spl_code.Code.{as_value}
use Rattle.spl_counts.specs.spl_code.Stores.{stored}
use Rattle.spl_counts.specs.spl_statement_code.Landings.{Context}
use Rattle.spl_counts.specs.spl_statement_code.Statements.{statement, listed}
use Rattle.spl_counts.specs.spl_follow.Simulating.{Surroundings, Simulates, Performs, PerformsAll}
use Rattle.spl_counts.specs.spl_values.Reached.{is_reached, IsWhole}
use Rattle.spl_counts.specs.spl_operators.Laws.{is_single}
use Rattle.spl_moved.specs.spl_names.Names.{read_with}
use Rattle.spl_moved.specs.spl_links.Links.{MayCall}
use Rattle.spl_jumps.specs.Landed.{is_landed, are_landed, MayJump}
use Rattle.spl_calls.specs.spl_targets.Results.{ResultsAgree}
use Rattle.spl_stores.specs.Covered.{is_covered_statement, are_covered}

-- ---- constructs

-- A value of one word, and the store behind it in a variable of one word or a BYTE at a place that is reached. Where that is no data word the
-- run strays, and past STACK both trap.
abbrev pub AssignmentsPerform : Type 0
AssignmentsPerform = (z : Surroundings) (d k need number : ℕ) (at : At) (t : Kind) (place : Place) (a : Part) (value : State → Outcome (List ℕ))
    → is_single t ≡ true → is_reached z.setting k place ≡ true → 1 ≤ need → IsWhole a → Simulates z d as_value 1 k need a value
    → Performs z d k need (piece (Begin at) ⨟ (nothing ⨟ a ⨟ pieces (stored (its_own t) false k place)))
    (λ s. stopping number at s (λ u. then_go (value u) (λ vs v. store (variable_located t (address_of place v.now)) (kept t vs) v)))

-- ---- trees

-- What a RETURN finds around it: the mark of the body's way out is where that leads, and no word waits there.
pub record MayReturn (leave : ℕ) (z : Surroundings) : Type 0 where
  pub leads : z.sites.marks leave ≡ z.exits.target back
  pub held : z.exits.held back ≡ 0

-- what is covered has whole code, where its jumps lead somewhere
abbrev pub CoveredStatementsAreWhole : Type 0
CoveredStatementsAreWhole = (may : Who → Bool) (returns : Bool) (c : Context) (results : List ℕ → Option (Kind × Place)) (st : Setting) (s : Statement)
    (k : ℕ) → is_covered_statement may returns c.scope results st s k ≡ true
    → (labels : List (List ℕ)) → is_landed c.landings labels s k ≡ true → IsWhole (statement c s k)

-- The code of a statement that is covered performs it, wherever it stands, where its calls find what they name, RETURN leads to the way
-- out, and its labels and jumps lead somewhere, by those of the lists around it.
abbrev pub CoveredStatementsPerform : Type 0
CoveredStatementsPerform = (may : Who → Bool) (returns : Bool) (c : Context) (results : List ℕ → Option (Kind × Place)) (z : Surroundings) (call : Callee)
    (d number : ℕ)
    (labels : List (List ℕ)) (st : Statement) (k need : ℕ) → is_covered_statement may returns c.scope results z.setting st k ≡ true
    → statement_most c.scope.names st + 8 ≤ need → MayCall may c.scope z d call → ResultsAgree c.scope results → (returns ≡ true → MayReturn c.leave z)
    → MayJump c.landings z labels k → is_landed c.landings labels st k ≡ true
    → Performs z d k need (statement c st k) (λ s. run (read_with c.scope results z.setting) call d number st k s)

-- and so does that of a list of such, that takes the jumps to its labels
abbrev pub CoveredListsPerform : Type 0
CoveredListsPerform = (may : Who → Bool) (returns : Bool) (c : Context) (results : List ℕ → Option (Kind × Place)) (z : Surroundings) (call : Callee)
    (d number : ℕ)
    (labels : List (List ℕ)) (ss : Statements) (k need : ℕ) → are_covered may returns c.scope results z.setting ss k ≡ true
    → statements_most c.scope.names ss + 8 ≤ need → MayCall may c.scope z d call → ResultsAgree c.scope results → (returns ≡ true → MayReturn c.leave z)
    → MayJump c.landings z labels k
    → are_landed c.landings (labels ++ list_labels ss) ss k ≡ true
    → PerformsAll z d k need (listed c ss k) (λ s. landing d (bears_among ss)
    (λ x t. run_from (read_with c.scope results z.setting) call d number ss x k t) (run_all (read_with c.scope results z.setting) call d number ss k s))
