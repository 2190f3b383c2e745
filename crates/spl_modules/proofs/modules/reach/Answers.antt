-- One more module that is empty.
use Rattle.std.proofs.Common.{arith, ◌∙◌, length, length-append, ap, ◌∷◌, []}
use Rattle.spl_modules.proofs.EnteredLemmas.{entered_pushed}
use Rattle.spl_modules.proofs.modules.reach.Goals as goal

pub loop-preserved : goal.loop-preserved
loop-preserved c = record {
  end = c.loop.invariant.end;
  long = omega (arith, c.loop.invariant.long, ap length c.in_ok-push.ensures.items, length-append c.loop.modules.items (c.new.result ∷ []));
  same =
      entered_pushed c.loop.modules.items c.push.new.self.items c.new.result c.in_ok-push.ensures.items c.new.ensures.entries c.new.ensures.procedures
      ∙ c.loop.invariant.same;
}
