-- The laws of this crate: calls of names in a tree, over their arguments as parts.
use Rattle.std.specs.Prelude.{ℕ, ◌+◌, ◌-◌, ◌≤◌, Bool, List, Option}
use Rattle.spl_names.specs.spl_tree.declared.expressions.Kind.{Kind}
use Rattle.spl_names.specs.spl_tree.declared.names_and_places.At.{At}
use Rattle.spl_names.specs.spl_tree.Trees as tree
use Rattle.spl_names.specs.spl_tree.Trees.{Trees}
use Rattle.spl_names.specs.spl_meaning.Pending.{result_words, most}
use Rattle.spl_names.specs.spl_meaning.Places.{Place}
use Rattle.spl_names.specs.spl_meaning.References.{Setting}
use Rattle.spl_names.specs.spl_meaning.Values as run
use Rattle.spl_names.specs.spl_meaning.Values.{Who, Callee, value}
use Rattle.spl_links.specs.spl_code.Calls.{Scope}
use Rattle.spl_links.specs.spl_code.Code as made
use Rattle.spl_links.specs.spl_code.Code.{as_value, code}
use Rattle.spl_links.specs.spl_follow.Simulating.{Surroundings, Simulates}
use Rattle.spl_links.specs.spl_values.Reached.{IsWhole}
use Rattle.spl_links.specs.Laws.{HasCode, ArgumentsCode}
use Rattle.spl_links.specs.Links.{MayCall}
use Rattle.spl_names.specs.Names.{read_with}
use Rattle.spl_whom.specs.Whom.{IsCalled, profile_called}

-- The code of such a call is whole, where that of its arguments is, or where there are none.
abbrev pub NamedCallsAreWhole : Type 0
NamedCallsAreWhole = (may : Who → Bool) (c : Scope) (st : Setting) (x : List ℕ) (es : Trees) (at : At) (k words : ℕ)
    → (r : IsCalled may st x (c.names x) words) → 1 ≤ words
    → HasCode (made.arguments c (profile_called r).formals es (k + result_words (profile_called r)))
    → IsWhole (code c (tree.Tree.named x es at) as_value k)

-- It gives the call's result, with the room that a body's depth has.
abbrev pub NamedCallsSimulate : Type 0
NamedCallsSimulate = (may : Who → Bool) (c : Scope) (results : List ℕ → Option (Kind × Place)) (z : Surroundings) (call : Callee) (d : ℕ) (x : List ℕ)
    (es : Trees) (at : At) (k need words : ℕ) → MayCall may c z d call → (r : IsCalled may z.setting x (c.names x) words) → 1 ≤ words
    → most c.names (tree.Tree.named x es at) + 8 ≤ need
    → HasCode (made.arguments c (profile_called r).formals es (k + result_words (profile_called r)))
    → ArgumentsCode (profile_called r) z d k (need - result_words (profile_called r))
    (made.arguments c (profile_called r).formals es (k + result_words (profile_called r)))
    (λ s. run.arguments (read_with c results z.setting) call (profile_called r).formals es (k + result_words (profile_called r)) s)
    → Simulates z d as_value words k need (code c (tree.Tree.named x es at) as_value k)
    (λ s. value (read_with c results z.setting) call (tree.Tree.named x es at) k s)
