-- What stands around subroutines, as the code has it.
use Rattle.spl_statement_scopes.specs.spl_body_scopes.Levels.{level_of}
use Rattle.spl_tree.specs.Spells.{heading_tree}
use Rattle.spl_statement_scopes.specs.spl_body_scopes.Results.{result_of, routine_result}
use Rattle.spl_statement_scopes.specs.spl_body_scopes.Found.{calls_in}
use Rattle.spl_gen_routines.specs.declared.inners.Around as code
use Rattle.spl_gen_routines.specs.declared.routines.Declared.{Declared}
use Rattle.spl_routine_code.specs.Routines.{Around}

abbrev pub around_of : code.Around → Around
around_of a = record { own = level_of a.own.now; outer = level_of a.outer.now; result = result_of a.result.now; calls = calls_in a.entries }

-- what stands around the subroutines of a procedure
abbrev pub routine_around : Declared → Around
routine_around d = record {
  own = level_of d.own.now;
  outer = level_of d.outer.now;
  result = routine_result (level_of d.own.now).names (heading_tree d.heading.now);
  calls = calls_in d.entries;
}
