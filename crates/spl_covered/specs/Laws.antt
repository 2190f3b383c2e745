-- The laws of this crate: of all that is covered, as values and as tests; of DOUBLEs; and of arguments.
use Rattle.std.specs.Prelude.{◌≡◌, ℕ, ◌+◌, ◌≤◌, Bool, true, List, ◌∷◌, Option}
use Rattle.spl_byte_tests.specs.spl_tree.declared.expressions.Kind.{Kind}
use Rattle.spl_byte_tests.specs.spl_tree.Trees.{Tree, Trees}
use Rattle.spl_byte_tests.specs.spl_meaning.Kinds.{kind_of, operand_width}
use Rattle.spl_byte_tests.specs.spl_meaning.Names.{Formal}
use Rattle.spl_byte_tests.specs.spl_meaning.Pending.{formals_words, most, most_of}
use Rattle.spl_byte_tests.specs.spl_meaning.Places.{Place}
use Rattle.spl_byte_tests.specs.spl_meaning.References.{Setting}
use Rattle.spl_byte_tests.specs.spl_meaning.Values as run
use Rattle.spl_byte_tests.specs.spl_meaning.Values.{Who, Callee, value}
use Rattle.spl_byte_tests.specs.spl_code.Calls.{Scope}
use Rattle.spl_byte_tests.specs.spl_code.Code.{as_value, as_test, code, arguments}
use Rattle.spl_byte_tests.specs.spl_follow.Simulating.{Surroundings, Simulates}
use Rattle.spl_byte_tests.specs.spl_values.Reached.{IsWhole}
use Rattle.spl_whom.specs.spl_links.Links.{MayCall}
use Rattle.spl_byte_tests.specs.spl_names.Names.{read_with}
use Rattle.spl_covered.specs.Covered.{is_covered, is_wide, are_covered_arguments}

-- what is covered has whole code, as a value
abbrev pub CoveredCodeIsWhole : Type 0
CoveredCodeIsWhole = (may : Who → Bool) (c : Scope) (st : Setting) (e : Tree) (k : ℕ) → is_covered may c st e k ≡ true
    → IsWhole (code c e as_value k)

-- and as a test
abbrev pub CoveredTestsAreWhole : Type 0
CoveredTestsAreWhole = (may : Who → Bool) (c : Scope) (st : Setting) (e : Tree) (k fail : ℕ) → is_covered may c st e k ≡ true
    → IsWhole (code c e (as_test fail) k)

-- The code of an expression that is covered simulates it, wherever it stands, where its calls find what they name, with the room that a body's depth
-- has: eight words beside those that wait in it.
abbrev pub CoveredValuesSimulate : Type 0
CoveredValuesSimulate = (may : Who → Bool) (c : Scope) (results : List ℕ → Option (Kind × Place)) (z : Surroundings) (call : Callee) (d : ℕ) (e : Tree)
    (k need : ℕ) → MayCall may c z d call → is_covered may c z.setting e k ≡ true → most c.names e + 8 ≤ need
    → Simulates z d as_value (operand_width (kind_of c.names e)) k need (code c e as_value k)
    (λ s. value (read_with c results z.setting) call e k s)

-- Its code as a test goes on where the lowest bit of its value is 1, and leads to its mark, whichever that is, where it is 0.
abbrev pub CoveredTestsSimulate : Type 0
CoveredTestsSimulate = (may : Who → Bool) (c : Scope) (results : List ℕ → Option (Kind × Place)) (z : Surroundings) (call : Callee) (d : ℕ) (e : Tree)
    (k need fail : ℕ) → MayCall may c z d call → is_covered may c z.setting e k ≡ true → most c.names e + 8 ≤ need
    → Simulates z d (as_test fail) 1 k need (code c e (as_test fail) k) (λ s. value (read_with c results z.setting) call e k s)

-- ---- DOUBLEs

-- what is covered has whole code
abbrev pub WideCodeIsWhole : Type 0
WideCodeIsWhole = (may : Who → Bool) (c : Scope) (st : Setting) (e : Tree) (k : ℕ) → is_wide may c st e k ≡ true → IsWhole (code c e as_value k)

-- which gives its two words
abbrev pub WideValuesSimulate : Type 0
WideValuesSimulate = (may : Who → Bool) (c : Scope) (results : List ℕ → Option (Kind × Place)) (z : Surroundings) (call : Callee) (d : ℕ) (e : Tree)
    (k need : ℕ) → MayCall may c z d call → is_wide may c z.setting e k ≡ true → most c.names e + 8 ≤ need
    → Simulates z d as_value 2 k need (code c e as_value k) (λ s. value (read_with c results z.setting) call e k s)

-- ---- arguments

-- arguments that are covered, of which there is one at least, have whole code
abbrev pub ArgumentsAreWhole : Type 0
ArgumentsAreWhole = (may : Who → Bool) (c : Scope) (st : Setting) (f : Formal) (fs : List Formal) (es : Trees) (k : ℕ)
    → are_covered_arguments may c st (f ∷ fs) es k ≡ true → IsWhole (arguments c (f ∷ fs) es k)

-- Their code makes the words of their parameters, with the room that is asked for what waits in it, from w words on: each argument waits for those
-- behind it.
abbrev pub ArgumentsSimulate : Type 0
ArgumentsSimulate = (may : Who → Bool) (c : Scope) (results : List ℕ → Option (Kind × Place)) (z : Surroundings) (call : Callee) (d : ℕ) (f : Formal)
    (fs : List Formal) (es : Trees) (k w need : ℕ) → MayCall may c z d call → are_covered_arguments may c z.setting (f ∷ fs) es k ≡ true
    → most_of c.names (f ∷ fs) w es + 8 ≤ w + need → formals_words (f ∷ fs) ≤ need
    → Simulates z d as_value (formals_words (f ∷ fs)) k need (arguments c (f ∷ fs) es k)
    (λ s. run.arguments (read_with c results z.setting) call (f ∷ fs) es k s)
