-- Parts of statements as they are found: what stands before the body of a FOR, and statements in which no other stands.
use Rattle.std.specs.Prelude.{ℕ, not, Bool, List, Option}
use Rattle.spl_tree.specs.declared.names_and_places.At.{At}
use Rattle.spl_tree.specs.Trees.{Tree, Trees}
use Rattle.spl_tree.specs.StatementTrees as stat
use Rattle.spl_tree.specs.StatementTrees.{Statement}
use Rattle.spl_sorts.specs.spl_meaning.Faults.{Fault, unless, first_fault}
use Rattle.spl_sorts.specs.spl_meaning.ExpressionRules.{Scope}
use Rattle.spl_sorts.specs.spl_meaning.StatementRules.{counter_by}
use Rattle.spl_found.specs.FoundStatements.{found_single, found_step, found_assign, found_effect, found_assign_effect, found_call}

-- the counter of a FOR, its first value, its step and its last value
abbrev pub found_for : Scope → List ℕ → Tree → Trees → Tree → At → Option Fault → Option Fault
found_for sc x first step last at f =
    found_single sc at last (found_step sc at step (found_single sc at first (first_fault f (counter_by sc x (sc.names x) at))))

-- a GO TO, a RETURN, an assignment, a MOVE or a SCAN, or a call
abbrev pub found_simple : Scope → (List ℕ → Bool) → Statement → Option Fault → Option Fault
found_simple sc labels (stat.Statement.go_to x at) f = first_fault f (unless (labels x) 21 at)
found_simple sc labels (stat.Statement.return at) f = first_fault f (unless (not sc.is_main) 25 at)
found_simple sc labels (stat.Statement.assign to e at) f = found_assign sc to e at f
found_simple sc labels (stat.Statement.assign_effect to e at) f = found_assign_effect sc to e at f
found_simple sc labels (stat.Statement.do_effect e at) f = found_effect sc e at f
found_simple sc labels (stat.Statement.call x es at) f = found_call sc x es at f
found_simple sc labels s f = f
