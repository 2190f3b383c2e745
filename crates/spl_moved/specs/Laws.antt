-- The laws of this crate: MOVE and SCAN in a tree, as statements and as values.
use Rattle.std.specs.Prelude.{◌≡◌, ℕ, ◌+◌, ◌≤◌, Bool, true, false, List, Option}
use Rattle.spl_choices.specs.spl_tree.declared.names_and_places.At.{At}
use Rattle.spl_choices.specs.spl_tree.declared.expressions.Kind.{Kind}
use Rattle.spl_choices.specs.spl_tree.StatementTrees as stat
use Rattle.spl_choices.specs.spl_tree.StatementTrees.{Effect}
use Rattle.spl_choices.specs.spl_meaning.Pending.{effect_most}
use Rattle.spl_choices.specs.spl_meaning.Places.{Place}
use Rattle.spl_choices.specs.spl_meaning.References.{Setting}
use Rattle.spl_choices.specs.spl_meaning.Statements.{run, effect_done}
use Rattle.spl_choices.specs.spl_meaning.Values.{Who, Callee}
use Rattle.spl_choices.specs.spl_code.Calls.{Scope}
use Rattle.spl_choices.specs.spl_code.Code.{as_value}
use Rattle.spl_choices.specs.spl_statement_code.Effects.{effect}
use Rattle.spl_choices.specs.spl_statement_code.Landings.{Context}
use Rattle.spl_choices.specs.spl_statement_code.Statements.{statement}
use Rattle.spl_choices.specs.spl_follow.Simulating.{Surroundings, Simulates, Performs}
use Rattle.spl_covered.specs.spl_values.Reached.{IsWhole}
use Rattle.spl_covered.specs.spl_links.Links.{MayCall}
use Rattle.spl_covered.specs.spl_names.Names.{read_with}
use Rattle.spl_moved.specs.Moved.{is_covered_effect}

-- moves and scans that are covered have whole code
abbrev pub MovesAreWhole : Type 0
MovesAreWhole = (may : Who → Bool) (c : Context) (st : Setting) (e : Effect) (at : At) (k : ℕ) → is_covered_effect may c.scope st false e k ≡ true
    → IsWhole (statement c (stat.Statement.do_effect e at) k)

-- which performs them
abbrev pub MovesPerform : Type 0
MovesPerform = (may : Who → Bool) (c : Context) (results : List ℕ → Option (Kind × Place)) (z : Surroundings) (call : Callee) (d number : ℕ)
    (e : Effect) (at : At) (k need : ℕ) → MayCall may c.scope z d call → is_covered_effect may c.scope z.setting false e k ≡ true
    → effect_most c.scope.names false e + 8 ≤ need
    → Performs z d k need (statement c (stat.Statement.do_effect e at) k)
    (λ s. run (read_with c.scope results z.setting) call d number (stat.Statement.do_effect e at) k s)

-- ---- answers

-- So it is where the answer is used.
abbrev pub AnswersAreWhole : Type 0
AnswersAreWhole = (may : Who → Bool) (c : Scope) (st : Setting) (e : Effect) (k : ℕ) → is_covered_effect may c st true e k ≡ true → IsWhole (effect c true e k)

-- The code gives it.
abbrev pub MovesAnswer : Type 0
MovesAnswer = (may : Who → Bool) (c : Scope) (results : List ℕ → Option (Kind × Place)) (z : Surroundings) (call : Callee) (d : ℕ) (e : Effect) (k need : ℕ)
    → MayCall may c z d call → is_covered_effect may c z.setting true e k ≡ true → effect_most c.names true e + 8 ≤ need
    → Simulates z d as_value 1 k need (effect c true e k) (λ s. effect_done (read_with c results z.setting) call d true e k s)
