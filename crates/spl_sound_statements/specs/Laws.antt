-- The laws of this crate.
use Rattle.std.specs.Prelude.{◌≡◌, ℕ, Bool, true, false, List, [], Option}
use Rattle.spl_sound_values.specs.spl_tree.declared.expressions.Kind.{Kind}
use Rattle.spl_sound_values.specs.spl_tree.StatementTrees.{Statement, Statements}
use Rattle.spl_sound_values.specs.spl_meaning.Limits.{statement_uses, statements_uses}
use Rattle.spl_sound_values.specs.spl_meaning.Places.{Place}
use Rattle.spl_sound_values.specs.spl_meaning.References.{Setting}
use Rattle.spl_sound_values.specs.spl_meaning.Values.{Who}
use Rattle.spl_sound_values.specs.spl_meaning.ExpressionRules as rule
use Rattle.spl_sound_values.specs.spl_meaning.StatementRules.{statement_faults, statements_faults}
use Rattle.spl_sound_values.specs.spl_code.Calls.{Scope}
use Rattle.spl_sound_values.specs.spl_places.Programs.{Each}
use Rattle.spl_sound_values.specs.spl_shapes.Shapes.{is_shaped_statement, are_shaped_statements}
use Rattle.spl_stores.specs.Covered.{is_covered_statement, are_covered}
use Rattle.spl_sound_values.specs.Seen.{Seen, UseAllowed}
use Rattle.spl_sound_statements.specs.Results.{ResultsSeen}

-- A statement that breaks no rule is covered, where what is known of its names and of the results that it may assign is so, and where a RETURN may
-- stand outside the main body.
abbrev pub SoundStatementsAreCovered : Type 0
SoundStatementsAreCovered = (may : Who → Bool) (returns : Bool) (c : Scope) (results : List ℕ → Option (Kind × Place)) (st : Setting) (sc : rule.Scope)
    → Seen may c st sc → ResultsSeen c st sc results → (sc.is_main ≡ false → returns ≡ true) → (labels : List (List ℕ)) (after : Bool) (s : Statement)
    (k : ℕ) → statement_faults sc labels after s ≡ [] → is_shaped_statement s ≡ true
    → Each (UseAllowed may c) (statement_uses c.names s k) → is_covered_statement may returns c results st s k ≡ true

-- So are the statements of a list.
abbrev pub SoundListsAreCovered : Type 0
SoundListsAreCovered = (may : Who → Bool) (returns : Bool) (c : Scope) (results : List ℕ → Option (Kind × Place)) (st : Setting) (sc : rule.Scope)
    → Seen may c st sc → ResultsSeen c st sc results → (sc.is_main ≡ false → returns ≡ true) → (labels : List (List ℕ)) (after : Bool) (ss : Statements)
    (k : ℕ) → statements_faults sc labels after ss ≡ [] → are_shaped_statements ss ≡ true
    → Each (UseAllowed may c) (statements_uses c.names ss k) → are_covered may returns c results st ss k ≡ true
