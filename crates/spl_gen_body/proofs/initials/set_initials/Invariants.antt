-- A loop over declarations.
use Rattle.std.proofs.Common.{◌≡◌, false, map, drop}
use Rattle.spl_tree.specs.DeclarationTrees as decl
use Rattle.spl_tree.specs.Spells.{declaration}
use Rattle.spl_sorts.specs.spl_meaning.Names.{find}
use Rattle.spl_gen_expr.specs.spl_found.OwnNames.{behind_declarations}
use Rattle.spl_sorts.specs.Tables.{table_of}
use Rattle.spl_initials.specs.Cells.{found_in, initials_by}
use Rattle.spl_branch.specs.declared.buffer.Code.{Code}
use Rattle.spl_body_code.specs.spl_code.Parts.{pieces}
use Rattle.spl_body_code.specs.spl_code.Appends.{Appends}
use Rattle.spl_body_code.specs.Cells.{initials_set}
use Rattle.spl_gen_body.proofs.initials.set_initials.Given as goal

-- what is appended with the values from here on is all, and so it is with what names stand for
abbrev pub invariant-loop-d : goal.invariant-loop-d
invariant-loop-d l = record {
  code : (e : Code)
      → Appends (pieces (initials_set (initials_by false (find (table_of l.outer)) (found_in l.list) (find (table_of l.here)) (decl.declarations (map declaration (drop l.d-index l.declarations)))))) l.code e
      → Appends (pieces (initials_set (initials_by false (find (table_of l.outer)) (found_in l.list) (find (table_of l.initial.here)) (decl.declarations (map declaration l.declarations))))) l.fn.code e;
  names : behind_declarations (find (table_of l.outer)) (find (table_of l.here)) (decl.declarations (map declaration (drop l.d-index l.declarations)))
      ≡ behind_declarations (find (table_of l.outer)) (find (table_of l.initial.here)) (decl.declarations (map declaration l.declarations));
}
