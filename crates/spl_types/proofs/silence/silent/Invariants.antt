use Rattle.std.proofs.Common.{◌≡◌, drop, map}
use Rattle.spl_tree.specs.Views as view
use Rattle.spl_uses.specs.spl_found.FoundDeclarations.{found_silent}
use Rattle.spl_types.proofs.silence.silent.Given as goal

-- what is found from here in the statements that are left is what is found in all
abbrev pub invariant-loop-statement : goal.invariant-loop-statement
invariant-loop-statement l =
    found_silent l.unit (map view.statement (drop l.statement-index l.statements)) l.report
    ≡ found_silent l.unit (map view.statement l.statements) l.initial.report
