-- The laws of this crate: assignments of one word, in a tree.
use Rattle.std.specs.Prelude.{◌≡◌, ℕ, ◌+◌, ◌≤◌, Bool, true, false, List, Option}
use Rattle.spl_covered.specs.spl_branch.declared.pieces.Piece.TheVariants.{Begin}
use Rattle.spl_covered.specs.spl_tree.declared.names_and_places.At.{At}
use Rattle.spl_covered.specs.spl_tree.declared.expressions.Kind.{Kind}
use Rattle.spl_covered.specs.spl_tree.Trees.{Tree}
use Rattle.spl_covered.specs.spl_tree.StatementTrees as stat
use Rattle.spl_covered.specs.spl_tree.StatementTrees.{Target}
use Rattle.spl_covered.specs.spl_meaning.Pending.{waiting, target_most, statement_most}
use Rattle.spl_covered.specs.spl_meaning.Places.{Place}
use Rattle.spl_covered.specs.spl_meaning.References.{Setting}
use Rattle.spl_covered.specs.spl_meaning.States.{State, Outcome, stopping}
use Rattle.spl_covered.specs.spl_meaning.Statements.{assigned, run}
use Rattle.spl_covered.specs.spl_meaning.Values.{Who, Callee}
use Rattle.spl_covered.specs.spl_code.Code.{as_value}
use Rattle.spl_covered.specs.spl_code.Parts.{Part, piece, ◌⨟◌}
use Rattle.spl_covered.specs.spl_statement_code.Assignments as put
use Rattle.spl_covered.specs.spl_statement_code.Landings.{Context}
use Rattle.spl_covered.specs.spl_statement_code.Statements.{statement}
use Rattle.spl_top_fields.specs.spl_follow.Simulating.{Surroundings, Simulates, Performs}
use Rattle.spl_covered.specs.spl_values.Reached.{IsWhole}
use Rattle.spl_covered.specs.spl_links.Links.{MayCall}
use Rattle.spl_covered.specs.Covered.{is_covered}
use Rattle.spl_covered.specs.spl_names.Names.{read_with}
use Rattle.spl_targets.specs.Results.{ResultsAgree}
use Rattle.spl_targets.specs.Targets.{keeps_answer, is_word_target}

-- ---- over what stands on the right: its code and what it means, while so many words wait

-- The code of an assignment to such a target is whole where that of the right side is; this is made while the index waits, where there is one.
abbrev pub WordStoresAreWhole : Type 0
WordStoresAreWhole = (may : Who → Bool) (c : Context) (results : List ℕ → Option (Kind × Place)) (st : Setting) (to : Target) (right : ℕ → Part)
    (at : At) (k : ℕ) → is_word_target may c.scope results st to k ≡ true → IsWhole (right (waiting to k))
    → IsWhole (piece (Begin at) ⨟ put.assigned c.scope to right k)

-- It performs the assignment of one word, with eight words of room beside those that wait in the index, and with the room of the right side.
abbrev pub WordStoresPerform : Type 0
WordStoresPerform = (may : Who → Bool) (c : Context) (results : List ℕ → Option (Kind × Place)) (z : Surroundings) (call : Callee) (d number : ℕ)
    (to : Target) (right : ℕ → Part) (means : ℕ → State → Outcome (List ℕ)) (at : At) (k need more : ℕ) → MayCall may c.scope z d call
    → ResultsAgree c.scope results → is_word_target may c.scope results z.setting to k ≡ true → target_most c.scope.names to + 8 ≤ need
    → waiting to k + more ≤ k + need → IsWhole (right (waiting to k))
    → Simulates z d as_value 1 (waiting to k) more (right (waiting to k)) (λ s. means (waiting to k) s)
    → Performs z d k need (piece (Begin at) ⨟ put.assigned c.scope to right k)
    (λ s. stopping number at s (λ u. assigned (read_with c.scope results z.setting) call to means k u))

-- ---- of what is covered

-- The code of an assignment of what is covered to such a target is whole; the value is made while its index waits, where it has one.
abbrev pub WordsAssignedAreWhole : Type 0
WordsAssignedAreWhole = (may : Who → Bool) (c : Context) (results : List ℕ → Option (Kind × Place)) (st : Setting) (to : Target) (e : Tree) (at : At)
    (k : ℕ) → is_word_target may c.scope results st to k ≡ true → is_covered may c.scope st e (waiting to k) ≡ true
    → IsWhole (statement c (stat.Statement.assign to e at) k)

-- It performs the assignment, wherever it stands, with the room that a body's depth has; but not one that keeps a condition code.
abbrev pub WordsAssigned : Type 0
WordsAssigned = (may : Who → Bool) (c : Context) (results : List ℕ → Option (Kind × Place)) (z : Surroundings) (call : Callee) (d number : ℕ)
    (to : Target) (e : Tree) (at : At) (k need : ℕ) → MayCall may c.scope z d call → ResultsAgree c.scope results
    → is_word_target may c.scope results z.setting to k ≡ true → is_covered may c.scope z.setting e (waiting to k) ≡ true
    → keeps_answer c.scope.names to e ≡ false → statement_most c.scope.names (stat.Statement.assign to e at) + 8 ≤ need
    → Performs z d k need (statement c (stat.Statement.assign to e at) k)
    (λ s. run (read_with c.scope results z.setting) call d number (stat.Statement.assign to e at) k s)
