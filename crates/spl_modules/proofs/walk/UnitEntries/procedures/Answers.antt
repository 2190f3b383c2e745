-- The module of the segment, where there is one.
use Rattle.std.proofs.Common.{rules, ◌≡◌, length}
use Rattle.spl_modules.proofs.EnteredLemmas.{procedures_found, procedures_missing}
use Rattle.spl_modules.proofs.walk.UnitEntries.procedures.Goals as goal

pub returns-then-number-len : goal.returns-then-number-len
returns-then-number-len c =
    let many : c.len.result ≡ length c.args.self.now.modules.items = search rules in
    procedures_found c.args.self.now.modules.items c.args.segment c.from-number.result c.len.result c.index.result.now
    c.from-number.ensures many c.if-number-len.true c.index.ensures

pub returns-else-number-len : goal.returns-else-number-len
returns-else-number-len c =
    let many : c.len.result ≡ length c.args.self.now.modules.items = search rules in
    procedures_missing c.args.self.now.modules.items c.args.segment c.from-number.result c.len.result c.from-number.ensures many c.if-number-len.false
