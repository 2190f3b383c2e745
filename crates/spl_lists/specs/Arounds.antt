-- What stands around a list of declarations, as the rules have it.
use Rattle.spl_sorts.specs.spl_meaning.Names.{find}
use Rattle.spl_sorts.specs.spl_meaning.DeclarationRules as rules
use Rattle.spl_sorts.specs.Tables.{table_of}
use Rattle.spl_lists.specs.declared.own.Around.{Around}

-- the names outside, and flags
abbrev pub around_of : Around → rules.Around
around_of a = record {
  names = find (table_of a.names.now);
  in_procedure = a.in_procedure;
  split = a.split;
  subprogram = a.subprogram;
}
