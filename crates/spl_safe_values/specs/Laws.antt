-- The laws of this crate: values, conditions, arguments and references that are covered are safe.
use Rattle.std.specs.Prelude.{◌≡◌, ℕ, Bool, true, false, List, Option}
use Rattle.spl_covered.specs.spl_tree.declared.expressions.Kind.{Kind}
use Rattle.spl_covered.specs.spl_tree.Trees.{Tree, Trees}
use Rattle.spl_covered.specs.spl_meaning.Names.{Formal}
use Rattle.spl_covered.specs.spl_meaning.Places.{Place}
use Rattle.spl_covered.specs.spl_meaning.References.{Setting}
use Rattle.spl_covered.specs.spl_meaning.States.{State}
use Rattle.spl_covered.specs.spl_meaning.Statements.{condition}
use Rattle.spl_covered.specs.spl_meaning.Values.{Who, Callee, value, located, arguments}
use Rattle.spl_covered.specs.spl_code.Calls.{Scope}
use Rattle.spl_covered.specs.spl_names.Names.{read_with}
use Rattle.spl_covered.specs.Covered.{is_covered, is_wide, is_covered_reference, are_covered_arguments}
use Rattle.spl_safe_values.specs.Safe.{Safe, SafeCalls}

-- What is covered, of one word and of two, does not come to what has no meaning from where the run has not, where its calls do not.
abbrev pub CoveredValuesAreSafe : Type 0
CoveredValuesAreSafe = (may : Who → Bool) (c : Scope) (results : List ℕ → Option (Kind × Place)) (st : Setting) (call : Callee) (e : Tree) (k : ℕ) (s : State)
    → SafeCalls may c.names call → is_covered may c st e k ≡ true → s.lost ≡ false → Safe (value (read_with c results st) call e k s)

abbrev pub WideValuesAreSafe : Type 0
WideValuesAreSafe = (may : Who → Bool) (c : Scope) (results : List ℕ → Option (Kind × Place)) (st : Setting) (call : Callee) (e : Tree) (k : ℕ) (s : State)
    → SafeCalls may c.names call → is_wide may c st e k ≡ true → s.lost ≡ false → Safe (value (read_with c results st) call e k s)

-- Neither do conditions,
abbrev pub ConditionsAreSafe : Type 0
ConditionsAreSafe = (may : Who → Bool) (c : Scope) (results : List ℕ → Option (Kind × Place)) (st : Setting) (call : Callee) (e : Tree) (k : ℕ) (s : State)
    → SafeCalls may c.names call → is_covered may c st e k ≡ true → s.lost ≡ false → Safe (condition (read_with c results st) call e k s)

-- arguments,
abbrev pub ArgumentsAreSafe : Type 0
ArgumentsAreSafe = (may : Who → Bool) (c : Scope) (results : List ℕ → Option (Kind × Place)) (st : Setting) (call : Callee) (fs : List Formal) (es : Trees)
    (k : ℕ) (s : State) → SafeCalls may c.names call → are_covered_arguments may c st fs es k ≡ true → s.lost ≡ false
    → Safe (arguments (read_with c results st) call fs es k s)

-- and references.
abbrev pub ReferencesAreSafe : Type 0
ReferencesAreSafe = (may : Who → Bool) (c : Scope) (results : List ℕ → Option (Kind × Place)) (st : Setting) (call : Callee) (e : Tree) (k : ℕ) (s : State)
    → SafeCalls may c.names call → is_covered_reference may c st e k ≡ true → s.lost ≡ false → Safe (located (read_with c results st) call e k s)
