-- A loop over arguments.
use Rattle.std.proofs.Common.{◌≡◌, max, map, drop}
use Rattle.spl_tree.specs.Views as view
use Rattle.spl_tree.specs.Trees.{trees}
use Rattle.spl_sorts.specs.spl_meaning.Pending as pending
use Rattle.spl_sorts.specs.Profiles.{formal_of}
use Rattle.spl_sorts.specs.Tables.{names_of}
use Rattle.spl_depths.proofs.expressions.+expressions.Given as goal

-- the most so far, or that of the arguments from here on, is the most of all
abbrev pub invariant-arguments-loop-e : goal.invariant-arguments-loop-e
invariant-arguments-loop-e l =
    max l.most (pending.most_of (names_of l.names) (map formal_of l.formals) l.waiting (trees (map view.expression (drop l.e-index l.args))))
    ≡ pending.most_of (names_of l.names) (map formal_of l.initial.formals) l.initial.waiting (trees (map view.expression l.args))
