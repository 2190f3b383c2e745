-- The module of the segment, where there is one.
use Rattle.std.proofs.Common.{rules, ◌≡◌, length, refl}
use Rattle.spl_module_code.proofs.spl_modules_proofs.EnteredLemmas.{made_found, made_missing}
use Rattle.spl_unit_codes.proofs.growing.entries_at.Goals as goal

pub returns-then-number-len : goal.returns-then-number-len
returns-then-number-len c =
    let many : c.len.result ≡ length c.args.entries.now.modules.items = search rules in
    made_found c.args.entries.now.modules.items c.args.number c.args.number c.len.result c.index.result.now c.deref.result.now
    refl many c.if-number-len.true c.index.ensures c.deref.ensures.value

pub returns-else-number-len : goal.returns-else-number-len
returns-else-number-len c =
    let many : c.len.result ≡ length c.args.entries.now.modules.items = search rules in
    made_missing c.args.entries.now.modules.items c.args.number c.args.number c.len.result refl many c.if-number-len.false
