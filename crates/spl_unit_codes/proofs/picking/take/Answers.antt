-- What a slot has.
use Rattle.std.proofs.Common.{rules, arith, ◌≡◌, ◌∷◌, [], length, sym, append-nil}
use Rattle.spl_unit_codes.proofs.Picks.{taken_some, taken_none, taken_past}
use Rattle.spl_unit_codes.proofs.picking.take.Goals as goal

pub returns-in_ok-push : goal.returns-in_ok-push
returns-in_ok-push c =
    let many : c.len.result ≡ length c.args.slots.now.items = search rules in (
      c.in-Some-take.module ∷ [],
      c.in_ok-push.ensures.items,
      taken_some c.args.number c.in-Some.number c.args.slots.now.items c.index_mut.result.now c.take.new.self c.in-Some-take.module c.in-Some.is
          (omega (arith, c.if-number-len.true, many)) c.index_mut.ensures.value (sym c.in-Some-take.ensures.value) c.in-Some-take.ensures.after,
    )

pub returns-in_default-take : goal.returns-in_default-take
returns-in_default-take c =
    let many : c.len.result ≡ length c.args.slots.now.items = search rules in (
      [],
      sym (append-nil c.args.modules.now.items),
      taken_none c.args.number c.in-Some.number c.args.slots.now.items c.index_mut.result.now c.take.new.self c.in-Some.is (omega (arith, c.if-number-len.true, many))
          c.index_mut.ensures.value (sym c.in_default-take.ensures.value) c.in_default-take.ensures.after,
    )

pub returns-else-number-len : goal.returns-else-number-len
returns-else-number-len c =
    let many : c.len.result ≡ length c.args.slots.now.items = search rules in (
      [],
      sym (append-nil c.args.modules.now.items),
      taken_past c.args.number c.in-Some.number c.args.slots.now.items c.in-Some.is (omega (arith, c.if-number-len.false, many)),
    )
