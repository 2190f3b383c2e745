use Rattle.std.proofs.Common.{◌≡◌, true}
use Rattle.spl_tree.specs.declared.symbols.Symbol.TheVariants as s
use Rattle.spl_reading.specs.Readers.{same_symbol}
use Rattle.spl_reading.proofs.SameSymbol.{same_is}
use Rattle.spl_effects.proofs.effects.source.Goals as goal

-- the token that was looked at is taken
pub text-requires : goal.text-requires
text-requires c = let e : same_symbol c.in_ok-peek.field-0 s.Text ≡ true = cc (c.same.ensures, c.if-same.true) in
    let k = same_is c.in_ok-peek.field-0 s.Text e in cc (k, c.in_ok-peek.ensures, c.in_ok-token.ensures.symbol)
