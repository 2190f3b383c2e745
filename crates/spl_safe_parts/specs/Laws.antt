-- The law of this crate.
use Rattle.std.specs.Prelude.{◌≡◌, ℕ, Bool, true, List, Option}
use Rattle.spl_safe_effects.specs.spl_meaning.Places.{Place}
use Rattle.spl_safe_effects.specs.spl_meaning.References.{Setting}
use Rattle.spl_safe_effects.specs.spl_meaning.Values.{Who, Callee}
use Rattle.spl_safe_effects.specs.spl_tree.declared.expressions.Kind.{Kind}
use Rattle.spl_safe_effects.specs.spl_tree.StatementTrees.{Statements}
use Rattle.spl_safe_effects.specs.spl_code.Calls.{Scope}
use Rattle.spl_safe_effects.specs.spl_names.Names.{read_with}
use Rattle.spl_safe_effects.specs.spl_stores.Covered.{are_covered}
use Rattle.spl_safe_calls.specs.spl_safe_statements.Safe.{AllPartsAreSafe}
use Rattle.spl_safe_calls.specs.Calls.{CallsAreSafe}

-- The parts of statements that are covered are never lost, where the calls in them are not.
abbrev pub CoveredPartsAreSafe : Type 0
CoveredPartsAreSafe = (may : Who → Bool) (returns : Bool) (c : Scope) (results : List ℕ → Option (Kind × Place)) (st : Setting) (call : Callee) (d : ℕ)
    (ss : Statements) (k : ℕ) → CallsAreSafe may c.names call → are_covered may returns c results st ss k ≡ true
    → AllPartsAreSafe c.names (read_with c results st) call d ss k
