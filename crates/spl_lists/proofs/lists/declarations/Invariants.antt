-- A loop over declarations.
use Rattle.std.proofs.Common.{◌≡◌, map, drop}
use Rattle.spl_tree.specs.DeclarationTrees as decl
use Rattle.spl_tree.specs.Spells.{declaration}
use Rattle.spl_sorts.specs.spl_meaning.Names.{find}
use Rattle.spl_uses.specs.spl_found.OwnNames.{behind_declarations}
use Rattle.spl_uses.specs.spl_found.FoundDeclarations.{found_locals}
use Rattle.spl_sorts.specs.Tables.{table_of}
use Rattle.spl_lists.specs.Arounds.{around_of}
use Rattle.spl_lists.proofs.lists.declarations.Given as goal

-- what is found, and what names stand for, from here on is what all declarations give
abbrev pub invariant-loop-d : goal.invariant-loop-d
invariant-loop-d l = record {
  first : found_locals (around_of l.around) (find (table_of l.here)) (decl.declarations (map declaration (drop l.d-index l.list))) l.report
      ≡ found_locals (around_of l.around) (find (table_of l.initial.here)) (decl.declarations (map declaration l.list)) l.initial.report;
  names : behind_declarations (around_of l.around).names (find (table_of l.here)) (decl.declarations (map declaration (drop l.d-index l.list)))
      ≡ behind_declarations (around_of l.around).names (find (table_of l.initial.here)) (decl.declarations (map declaration l.list));
}
