use Rattle.std.proofs.Common.{ap, true, false, ◌∷◌, [], is_some}
use Rattle.std.specs.Prelude.{if◌then◌else◌}
use Rattle.spl_tree.specs.Views.{letters}
use Rattle.spl_sound.specs.spl_meaning.Names.{Names, or_else, find}
use Rattle.spl_sound.specs.spl_meaning.ExpressionRules.{Scope}
use Rattle.spl_sorts.specs.Tables.{table_of}
use Rattle.spl_uses.specs.Scopes.{with_result}
use Rattle.spl_types.proofs.insides.subroutine_scope.Goals as goal

-- the parameters are only ever looked up
pub returns : goal.returns
returns c =
    let i = c.args.inside in
    let scope : Names → Scope = λ ps. record {
      names = λ x. or_else (ps x) (or_else (find (table_of i.own.now) x) (find (table_of i.outer.now) x));
      is_local = λ x. if is_some (ps x) then true else if i.is_main then true else is_some (find (table_of i.own.now) x);
      results = letters c.args.heading.now.name ∷ with_result i.procedure [];
      split = i.split;
      is_main = false;
    } in
    ap scope c.requires
