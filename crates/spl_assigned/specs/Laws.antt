-- The laws of this crate: all assignments that are covered.
use Rattle.std.specs.Prelude.{◌≡◌, ℕ, ◌+◌, ◌≤◌, Bool, true, List, Option}
use Rattle.spl_wide.specs.spl_tree.declared.names_and_places.At.{At}
use Rattle.spl_wide.specs.spl_tree.declared.expressions.Kind.{Kind}
use Rattle.spl_wide.specs.spl_tree.Trees.{Tree}
use Rattle.spl_wide.specs.spl_tree.StatementTrees as stat
use Rattle.spl_wide.specs.spl_tree.StatementTrees.{Target}
use Rattle.spl_wide.specs.spl_meaning.Pending.{statement_most}
use Rattle.spl_wide.specs.spl_meaning.Places.{Place}
use Rattle.spl_wide.specs.spl_meaning.References.{Setting}
use Rattle.spl_wide.specs.spl_meaning.Statements.{run}
use Rattle.spl_wide.specs.spl_meaning.Values.{Who, Callee}
use Rattle.spl_wide.specs.spl_statement_code.Landings.{Context}
use Rattle.spl_wide.specs.spl_statement_code.Statements.{statement}
use Rattle.spl_wide.specs.spl_follow.Simulating.{Surroundings, Performs}
use Rattle.spl_wide.specs.spl_values.Reached.{IsWhole}
use Rattle.spl_wide.specs.spl_links.Links.{MayCall}
use Rattle.spl_wide.specs.spl_names.Names.{read_with}
use Rattle.spl_wide.specs.spl_targets.Results.{ResultsAgree}
use Rattle.spl_assigned.specs.Assigned.{is_covered_assignment}

-- they have whole code
abbrev pub AssignmentsAreWhole : Type 0
AssignmentsAreWhole = (may : Who → Bool) (c : Context) (results : List ℕ → Option (Kind × Place)) (st : Setting) (to : Target) (e : Tree) (at : At)
    (k : ℕ) → is_covered_assignment may c.scope results st to e k ≡ true → IsWhole (statement c (stat.Statement.assign to e at) k)

-- which performs them, with the condition code of a call of an intrinsic where the target keeps it
abbrev pub AssignmentsPerform : Type 0
AssignmentsPerform = (may : Who → Bool) (c : Context) (results : List ℕ → Option (Kind × Place)) (z : Surroundings) (call : Callee) (d number : ℕ)
    (to : Target) (e : Tree) (at : At) (k need : ℕ) → MayCall may c.scope z d call → ResultsAgree c.scope results
    → is_covered_assignment may c.scope results z.setting to e k ≡ true → statement_most c.scope.names (stat.Statement.assign to e at) + 8 ≤ need
    → Performs z d k need (statement c (stat.Statement.assign to e at) k)
    (λ s. run (read_with c.scope results z.setting) call d number (stat.Statement.assign to e at) k s)
