-- A loop over initial values.
use Rattle.std.proofs.Common.{◌≡◌, map, drop}
use Rattle.spl_tree.specs.Views as view
use Rattle.spl_uses.specs.spl_found.FoundDeclarations.{found_initials}
use Rattle.spl_sorts.specs.Tables.{names_of}
use Rattle.spl_lists.proofs.data.initials.Given as goal

-- what is found from here on is what is found in all
abbrev pub invariant-loop-value : goal.invariant-loop-value
invariant-loop-value l =
    found_initials (names_of l.names) l.kind l.at (map view.constant (drop l.value-index l.values)) l.report
    ≡ found_initials (names_of l.names) l.kind l.at (map view.constant l.values) l.initial.report
