-- The number of arguments is their length, for what is told of a name and for its kind.
use Rattle.std.proofs.Common.{rules, ◌≡◌, length}
use Rattle.spl_uses.specs.Scopes.{scope_of}
use Rattle.spl_sorts.specs.Sorts.{operand_of}
use Rattle.spl_uses.proofs.Named.{named_kind, named_found}
use Rattle.spl_uses.proofs.expressions.+expressions.Goals as goal

pub expression-returns-in-Named-clause-first : goal.expression-returns-in-Named-clause-first
expression-returns-in-Named-clause-first t c =
    let few : c.len-given.result ≡ length c.in-Named.args.items = search rules in
    named_found (scope_of c.args.scope.now) c.args.around c.in-Named.x c.in-Named.args c.in-Named.at c.args.e.now c.len-given.result c.deref-in-Named.result.now
    c.args.report.now c.name.new.report c.behind.new.report c.in-Named.is few c.deref-in-Named.ensures.value c.name.ensures c.behind.ensures

pub expression-returns-in-Named-clause-kind : goal.expression-returns-in-Named-clause-kind
expression-returns-in-Named-clause-kind t c =
    let few : c.len-given.result ≡ length c.in-Named.args.items = search rules in
    named_kind (scope_of c.args.scope.now).names c.in-Named.x c.in-Named.args c.in-Named.at c.args.e.now c.len-given.result (operand_of c.named.result) c.in-Named.is few
    c.named.ensures
