-- What a body with its own list of declarations may use.
use Rattle.std.specs.Prelude.{true, if◌then◌else◌, [], is_some}
use Rattle.spl_sound.specs.spl_meaning.Names.{find}
use Rattle.spl_sound.specs.spl_meaning.ExpressionRules.{Scope}
use Rattle.spl_sorts.specs.Tables.{table_of}
use Rattle.spl_uses.specs.Scopes.{with_result}
use Rattle.spl_uses.specs.spl_found.OwnNames.{over}
use Rattle.spl_types.specs.declared.insides.Inside.{Inside}

-- its names hide those outside; in a main body each counts as its own
abbrev pub inside_of : Inside → Scope
inside_of i = record {
  names = over (find (table_of i.own.now)) (find (table_of i.outer.now));
  is_local = λ x. if i.is_main then true else is_some (find (table_of i.own.now) x);
  results = with_result i.procedure [];
  split = i.split;
  is_main = i.is_main;
}
