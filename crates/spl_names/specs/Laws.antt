-- The laws of this crate: names without an index, as values and as addresses.
use Rattle.std.specs.Prelude.{◌≡◌, ℕ, ◌≤◌, true, List, Option}
use Rattle.spl_statement_code.specs.spl_tree.declared.expressions.Kind.{Kind}
use Rattle.spl_statement_code.specs.spl_tree.declared.names_and_places.At.{At}
use Rattle.spl_statement_code.specs.spl_tree.Trees as tree
use Rattle.spl_statement_code.specs.spl_meaning.Places.{Place}
use Rattle.spl_statement_code.specs.spl_meaning.References.{Setting, access_of}
use Rattle.spl_statement_code.specs.spl_meaning.Values.{Callee, value}
use Rattle.spl_statement_code.specs.spl_code.Calls.{Scope}
use Rattle.spl_statement_code.specs.spl_code.Code.{Aim, as_value, code}
use Rattle.spl_addresses.specs.spl_follow.Simulating.{Surroundings, Simulates}
use Rattle.spl_addresses.specs.spl_values.Reached.{IsWhole}
use Rattle.spl_names.specs.Names.{read_with, is_covered_name, is_addressed, is_wide_name, is_wide_led}

-- the code of a name that is covered is whole, whatever is wanted of it
abbrev pub NamesAreWhole : Type 0
NamesAreWhole = (c : Scope) (st : Setting) (x : List ℕ) (at : At) (aim : Aim) (k : ℕ) → is_covered_name st k (c.names x) (c.places x) ≡ true
    → IsWhole (code c (tree.Tree.named x tree.Trees.none at) aim k)

-- and simulates it
abbrev pub NamesSimulate : Type 0
NamesSimulate = (c : Scope) (results : List ℕ → Option (Kind × Place)) (z : Surroundings) (call : Callee) (d : ℕ) (x : List ℕ) (at : At) (aim : Aim)
    (k need : ℕ) → is_covered_name z.setting k (c.names x) (c.places x) ≡ true → 1 ≤ need
    → Simulates z d aim 1 k need (code c (tree.Tree.named x tree.Trees.none at) aim k)
    (λ s. value (read_with c results z.setting) call (tree.Tree.named x tree.Trees.none at) k s)

-- so does that of its address
abbrev pub AddressesSimulate : Type 0
AddressesSimulate = (c : Scope) (results : List ℕ → Option (Kind × Place)) (z : Surroundings) (call : Callee) (d : ℕ) (x : List ℕ) (at : At) (aim : Aim)
    (k need : ℕ) → is_addressed z.setting k (access_of (c.names x)) (c.places x) ≡ true → 1 ≤ need
    → Simulates z d aim 1 k need (code c (tree.Tree.address x tree.Trees.none at) aim k)
    (λ s. value (read_with c results z.setting) call (tree.Tree.address x tree.Trees.none at) k s)

-- and that of a DOUBLE variable, and of a name whose word leads to DOUBLEs, gives both words
abbrev pub WideNamesSimulate : Type 0
WideNamesSimulate = (c : Scope) (results : List ℕ → Option (Kind × Place)) (z : Surroundings) (call : Callee) (d : ℕ) (x : List ℕ) (at : At) (k need : ℕ)
    → is_wide_name z.setting k (c.names x) (c.places x) ≡ true → 2 ≤ need
    → Simulates z d as_value 2 k need (code c (tree.Tree.named x tree.Trees.none at) as_value k)
    (λ s. value (read_with c results z.setting) call (tree.Tree.named x tree.Trees.none at) k s)

abbrev pub WideLedNamesSimulate : Type 0
WideLedNamesSimulate = (c : Scope) (results : List ℕ → Option (Kind × Place)) (z : Surroundings) (call : Callee) (d : ℕ) (x : List ℕ) (at : At) (k need : ℕ)
    → is_wide_led z.setting k (access_of (c.names x)) (c.places x) ≡ true → 2 ≤ need
    → Simulates z d as_value 2 k need (code c (tree.Tree.named x tree.Trees.none at) as_value k)
    (λ s. value (read_with c results z.setting) call (tree.Tree.named x tree.Trees.none at) k s)
