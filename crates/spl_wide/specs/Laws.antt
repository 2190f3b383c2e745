-- The laws of this crate: assignments of DOUBLE expressions that are covered.
use Rattle.std.specs.Prelude.{◌≡◌, ℕ, ◌+◌, ◌≤◌, Bool, true, false, List, Option}
use Rattle.spl_targets.specs.spl_branch.declared.pieces.Piece.TheVariants.{Begin}
use Rattle.spl_targets.specs.spl_tree.declared.names_and_places.At.{At}
use Rattle.spl_targets.specs.spl_tree.declared.expressions.Kind.{Kind}
use Rattle.spl_targets.specs.spl_tree.Trees.{Tree}
use Rattle.spl_targets.specs.spl_tree.StatementTrees as stat
use Rattle.spl_targets.specs.spl_tree.StatementTrees.{Target}
use Rattle.spl_targets.specs.spl_meaning.Pending.{waiting, target_most, statement_most}
use Rattle.spl_targets.specs.spl_meaning.Places.{Place}
use Rattle.spl_targets.specs.spl_meaning.References.{Setting}
use Rattle.spl_targets.specs.spl_meaning.States.{State, Outcome, stopping}
use Rattle.spl_targets.specs.spl_meaning.Statements.{assigned, run}
use Rattle.spl_targets.specs.spl_meaning.Values.{Who, Callee}
use Rattle.spl_targets.specs.spl_code.Code.{as_value}
use Rattle.spl_targets.specs.spl_code.Parts.{Part, piece, ◌⨟◌}
use Rattle.spl_targets.specs.spl_statement_code.Assignments as put
use Rattle.spl_targets.specs.spl_statement_code.Landings.{Context}
use Rattle.spl_targets.specs.spl_statement_code.Statements.{statement}
use Rattle.spl_targets.specs.spl_follow.Simulating.{Surroundings, Simulates, Performs}
use Rattle.spl_targets.specs.spl_values.Reached.{IsWhole}
use Rattle.spl_targets.specs.spl_links.Links.{MayCall}
use Rattle.spl_targets.specs.spl_names.Names.{read_with}
use Rattle.spl_targets.specs.Results.{ResultsAgree}
use Rattle.spl_targets.specs.spl_covered.Covered.{is_wide}
use Rattle.spl_targets.specs.Targets.{keeps_answer}
use Rattle.spl_wide.specs.Wide.{is_wide_target}

-- ---- over what stands on the right: its code and what it means, while so many words wait

-- The code of an assignment to such a target is whole where that of the right side is; this is made while the index waits, where there is one.
abbrev pub WideStoresAreWhole : Type 0
WideStoresAreWhole = (may : Who → Bool) (c : Context) (results : List ℕ → Option (Kind × Place)) (st : Setting) (to : Target) (right : ℕ → Part)
    (at : At) (k : ℕ) → is_wide_target may c.scope results st to k ≡ true → IsWhole (right (waiting to k))
    → IsWhole (piece (Begin at) ⨟ put.assigned c.scope to right k)

-- It performs the assignment of two words, with eight words of room beside those that wait in the index, and with the room of the right side.
abbrev pub WideStoresPerform : Type 0
WideStoresPerform = (may : Who → Bool) (c : Context) (results : List ℕ → Option (Kind × Place)) (z : Surroundings) (call : Callee) (d number : ℕ)
    (to : Target) (right : ℕ → Part) (means : ℕ → State → Outcome (List ℕ)) (at : At) (k need more : ℕ) → MayCall may c.scope z d call
    → ResultsAgree c.scope results → is_wide_target may c.scope results z.setting to k ≡ true → target_most c.scope.names to + 8 ≤ need
    → waiting to k + more ≤ k + need → IsWhole (right (waiting to k))
    → Simulates z d as_value 2 (waiting to k) more (right (waiting to k)) (λ s. means (waiting to k) s)
    → Performs z d k need (piece (Begin at) ⨟ put.assigned c.scope to right k)
    (λ s. stopping number at s (λ u. assigned (read_with c.scope results z.setting) call to means k u))

-- ---- of what is covered

-- An assignment of a DOUBLE expression that is covered has whole code; the value is made while the index of its target waits, where it has one.
abbrev pub WideAssignmentsAreWhole : Type 0
WideAssignmentsAreWhole = (may : Who → Bool) (c : Context) (results : List ℕ → Option (Kind × Place)) (st : Setting) (to : Target) (e : Tree) (at : At)
    (k : ℕ) → is_wide_target may c.scope results st to k ≡ true
    → is_wide may c.scope st e (waiting to k) ≡ true
    → IsWhole (statement c (stat.Statement.assign to e at) k)

-- And it performs the assignment, but not one that keeps a condition code.
abbrev pub WideAssignmentsPerform : Type 0
WideAssignmentsPerform = (may : Who → Bool) (c : Context) (results : List ℕ → Option (Kind × Place)) (z : Surroundings) (call : Callee) (d number : ℕ)
    (to : Target) (e : Tree)
    (at : At) (k need : ℕ) → MayCall may c.scope z d call → ResultsAgree c.scope results → is_wide_target may c.scope results z.setting to k ≡ true
    → is_wide may c.scope z.setting e (waiting to k) ≡ true → keeps_answer c.scope.names to e ≡ false
    → statement_most c.scope.names (stat.Statement.assign to e at) + 8 ≤ need
    → Performs z d k need (statement c (stat.Statement.assign to e at) k)
    (λ s. run (read_with c.scope results z.setting) call d number (stat.Statement.assign to e at) k s)
