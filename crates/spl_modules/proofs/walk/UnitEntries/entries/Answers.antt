-- The module of the segment, where there is one.
use Rattle.std.proofs.Common.{rules, ◌≡◌, length}
use Rattle.spl_modules.proofs.EnteredLemmas.{made_found, made_missing}
use Rattle.spl_modules.proofs.walk.UnitEntries.entries.Goals as goal

pub returns-then-number-len : goal.returns-then-number-len
returns-then-number-len c =
    let many : c.len.result ≡ length c.args.self.now.modules.items = search rules in
    made_found c.args.self.now.modules.items c.args.segment c.from-number.result c.len.result c.index.result.now c.deref.result.now
    c.from-number.ensures many c.if-number-len.true c.index.ensures c.deref.ensures.value

pub returns-else-number-len : goal.returns-else-number-len
returns-else-number-len c =
    let many : c.len.result ≡ length c.args.self.now.modules.items = search rules in
    made_missing c.args.self.now.modules.items c.args.segment c.from-number.result c.len.result c.from-number.ensures many c.if-number-len.false
