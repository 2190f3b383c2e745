-- Seat by seat.
use Rattle.std.proofs.Common.{◌≡◌, ◌<◌, ◌≤◌, length, slice_get, Some, refl, sym, ap, ◌∙◌, arith}
use Rattle.std.proofs.lemmas.Option.{slice_get_read}
use Rattle.mpe_turns.specs.declared.fault.OpenFault.TheVariants.{StackTooSmall}
use Rattle.mpe_turns.specs.Opening.{stack_needed}
use Rattle.mpe_turns.proofs.OpenLemmas.{seat_enough, seat_small}
use Rattle.mpe_turns.proofs.opening.check_stacks.Goals as goal

pub returns-then-seat-need : goal.returns-then-seat-need
returns-then-seat-need c =
    let seat = c.index-seats-i.result in
    let p = c.index-programs-seat.result in
    let at : slice_get c.args.seats.now c.loop-i.i ≡ Some seat = slice_get_read c.args.seats.now (length c.args.seats.now) c.loop-i.i seat refl c.loop-i-test.true c.index-seats-i.is in
    let less : seat.stack < stack_needed p = omega (arith, c.words_needed-need.ensures.value, c.if-seat-need.true) in
    sym c.loop-i.invariant
    ∙ seat_small c.args.programs.now c.args.seats.now c.loop-i.i seat p c.loop-i-test.true c.index-seats-i.is (c.requires.program c.loop-i.i seat at) c.index-programs-seat.is less
    ∙ ap (λ n. Some (StackTooSmall c.loop-i.i n seat.stack)) (sym c.words_needed-need.ensures.value)

pub loop-i-preserved : goal.loop-i-preserved
loop-i-preserved c =
    let seat = c.index-seats-i.result in
    let p = c.index-programs-seat.result in
    let at : slice_get c.args.seats.now c.loop-i.i ≡ Some seat = slice_get_read c.args.seats.now (length c.args.seats.now) c.loop-i.i seat refl c.loop-i-test.true c.index-seats-i.is in
    let enough : stack_needed p ≤ seat.stack = omega (arith, c.words_needed-need.ensures.value, c.if-seat-need.false) in
    seat_enough c.args.programs.now c.args.seats.now c.loop-i.i seat p c.loop-i-test.true c.index-seats-i.is (c.requires.program c.loop-i.i seat at) c.index-programs-seat.is enough
    ∙ c.loop-i.invariant
