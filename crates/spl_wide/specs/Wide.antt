-- Which assignments of DOUBLE expressions are proved. A further target makes it larger.
use Rattle.std.specs.Prelude.{ℕ, ◌&&◌, ◌||◌, Bool, false, List, Option}
use Rattle.spl_targets.specs.spl_tree.declared.expressions.Kind.{Kind}
use Rattle.spl_targets.specs.spl_tree.Trees as tree
use Rattle.spl_targets.specs.spl_tree.Trees.{Tree}
use Rattle.spl_targets.specs.spl_tree.StatementTrees as stat
use Rattle.spl_targets.specs.spl_tree.StatementTrees.{Target}
use Rattle.spl_targets.specs.spl_meaning.Values.{Who}
use Rattle.spl_targets.specs.spl_meaning.Names.{Sort}
use Rattle.spl_targets.specs.spl_meaning.Places.{Place}
use Rattle.spl_targets.specs.spl_meaning.References.{Setting, access_of}
use Rattle.spl_targets.specs.spl_code.Calls.{Scope}
use Rattle.spl_targets.specs.spl_names.Names.{is_wide_name, is_wide_element, is_wide_led}
use Rattle.spl_targets.specs.spl_whom.Whom.{is_double_result}
use Rattle.spl_targets.specs.spl_covered.Covered.{is_covered}
use Rattle.spl_targets.specs.Results.{result_kind, is_result}

-- a name that means a DOUBLE result
abbrev pub is_wide_result : Setting → ℕ → Option Sort → Option (Kind × Place) → Option Place → Bool
is_wide_result st k o r place = is_double_result (result_kind o) && is_result st k (result_kind o) r place

-- A target of two words: a DOUBLE variable or result, what a name leads to, or an element at an index that is covered.
abbrev pub is_wide_target : (Who → Bool) → Scope → (List ℕ → Option (Kind × Place)) → Setting → Target → ℕ → Bool
is_wide_target may c results st (stat.Target.plain (tree.Tree.named x tree.Trees.none at)) k =
    (is_wide_name st k (c.names x) (c.places x) || is_wide_led st k (access_of (c.names x)) (c.places x))
    || is_wide_result st k (c.names x) (results x) (c.places x)
is_wide_target may c results st (stat.Target.plain (tree.Tree.named x (tree.Trees.and i tree.Trees.none) at)) k =
    is_wide_element st k (access_of (c.names x)) (c.places x) && is_covered may c st i k
is_wide_target may c results st _ k = false
