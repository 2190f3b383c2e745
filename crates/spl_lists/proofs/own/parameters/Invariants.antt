-- A loop over parameters.
use Rattle.std.proofs.Common.{◌≡◌, [], map, drop}
use Rattle.spl_sorts.specs.spl_meaning.Names.{find}
use Rattle.spl_sorts.specs.Profiles.{formal_of}
use Rattle.spl_sorts.specs.Tables.{table_of}
use Rattle.spl_profiles.specs.Headings.{behind_formals}
use Rattle.spl_lists.proofs.own.parameters.Given as goal

-- the names behind those from here on are those behind all
abbrev pub invariant-loop-formal : goal.invariant-loop-formal
invariant-loop-formal l =
    behind_formals (find (table_of l.own)) (map formal_of (drop l.formal-index l.formals)) ≡ behind_formals (find []) (map formal_of l.formals)
