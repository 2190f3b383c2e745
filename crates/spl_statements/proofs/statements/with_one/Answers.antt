use Rattle.std.proofs.Common.{arith}
use Rattle.spl_tokens.specs.Reads.{lexeme}
use Rattle.spl_tokens.proofs.Steps.{lexeme_at}
use Rattle.spl_statements.proofs.NestLemmas.{several}
use Rattle.spl_statements.proofs.statements.with_one.Goals as goal

-- several arguments are those of a call
pub returns-then-len-ne1 : goal.returns-then-len-ne1
returns-then-len-ne1 c = cc (
  several c.args.room (lexeme c.args.token.now) c.args.args.items c.args.tokens.now
      (λ h. c.if-len-ne1.true (omega (arith, c.args.args.ok.0, c.len.ensures))),
  c.call.ensures,
  c.name-name.ensures,
  lexeme_at c.args.token.now,
)
