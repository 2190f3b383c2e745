-- The laws of this crate.
use Rattle.std.specs.Prelude.{◌≡◌, ℕ, ◌+◌, ◌≤◌, Bool, true, List, Option}
use Rattle.spl_targets.specs.spl_tree.declared.names_and_places.At.{At}
use Rattle.spl_targets.specs.spl_tree.declared.expressions.Kind.{Kind}
use Rattle.spl_targets.specs.spl_tree.Trees.{Trees}
use Rattle.spl_targets.specs.spl_tree.StatementTrees as stat
use Rattle.spl_targets.specs.spl_meaning.Pending.{statement_most}
use Rattle.spl_targets.specs.spl_meaning.Places.{Place}
use Rattle.spl_targets.specs.spl_meaning.References.{Setting}
use Rattle.spl_targets.specs.spl_meaning.Statements.{run}
use Rattle.spl_targets.specs.spl_meaning.Values.{Who, Callee}
use Rattle.spl_targets.specs.spl_statement_code.Landings.{Context}
use Rattle.spl_targets.specs.spl_statement_code.Statements.{statement}
use Rattle.spl_targets.specs.spl_follow.Simulating.{Surroundings, Performs}
use Rattle.spl_targets.specs.spl_values.Reached.{IsWhole}
use Rattle.spl_targets.specs.spl_links.Links.{MayCall}
use Rattle.spl_targets.specs.spl_names.Names.{read_with}
use Rattle.spl_calls.specs.Covered.{is_covered_call}

-- calls that are covered have whole code
abbrev pub CallsAreWhole : Type 0
CallsAreWhole = (may : Who → Bool) (c : Context) (st : Setting) (x : List ℕ) (es : Trees) (at : At) (k : ℕ)
    → is_covered_call may c.scope st x (c.scope.names x) es k ≡ true
    → IsWhole (statement c (stat.Statement.call x es at) k)

-- which performs them
abbrev pub CallsPerform : Type 0
CallsPerform = (may : Who → Bool) (c : Context) (results : List ℕ → Option (Kind × Place)) (z : Surroundings) (call : Callee) (d number : ℕ)
    (x : List ℕ) (es : Trees) (at : At) (k need : ℕ) → is_covered_call may c.scope z.setting x (c.scope.names x) es k ≡ true
    → statement_most c.scope.names (stat.Statement.call x es at) + 8 ≤ need → MayCall may c.scope z d call
    → Performs z d k need (statement c (stat.Statement.call x es at) k)
    (λ s. run (read_with c.scope results z.setting) call d number (stat.Statement.call x es at) k s)
