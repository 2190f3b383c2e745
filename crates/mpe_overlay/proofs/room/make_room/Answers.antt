-- The loop goes as the load does: it ends where a hole is, and each turn before gives the oldest key up.
use Rattle.std.proofs.Common.{◌∙◌, arith}
use Rattle.mpe_overlay.proofs.RoomLemmas.{Ends, Goes, room_ends, room_some, room_goes}
use Rattle.mpe_overlay.proofs.room.make_room.Goals as goal

-- a hole was taken
ends : (c : goal.In-Some) → Ends c.args.key c.args.size c.in-Some.place c.loop-place.given_up c.args.regions.now.area c.take.new.self.area
ends c =
    room_ends c.args.key c.args.size c.in-Some.place c.loop-place.given_up c.args.regions.now.area c.loop-place.regions.area c.take.new.self.area
    c.in-Some.ensures.place c.take.ensures.taken c.loop-place.invariant.rest

pub returns-in-Some-clause-area : goal.returns-in-Some-clause-area
returns-in-Some-clause-area c = (ends c).area

pub returns-in-Some-clause-place : goal.returns-in-Some-clause-place
returns-in-Some-clause-place c = (ends c).place

pub returns-in-Some-clause-given_up : goal.returns-in-Some-clause-given_up
returns-in-Some-clause-given_up c = (ends c).given

pub unreachable-requires : goal.unreachable-requires
unreachable-requires c =
    room_some c.args.key c.args.size c.loop-place.regions.area c.take.new.self.area c.in_default.ensures.place c.take.ensures.taken c.take.ensures.sound
    (rw c.loop-place.invariant.same_size c.requires.fits) c.in-None.ensures.value

-- no hole was there, and the oldest key was given up
goes : (c : goal.After-give) → Goes c.args.key c.args.size c.loop-place.given_up c.args.regions.now.area c.loop-place.regions.area c.give.new.self.area
goes c =
    room_goes c.args.key c.args.size c.loop-place.given_up c.in-Some-oldest.oldest c.args.regions.now.area c.loop-place.regions.area c.take.new.self.area c.give.new.self.area
    c.in_default.ensures.place c.take.ensures.taken c.take.ensures.sound c.loop-place.invariant.absent c.in-Some-oldest.ensures.value c.give.ensures.dropped
    c.loop-place.invariant.rest

pub loop-place-smaller : goal.loop-place-smaller
loop-place-smaller c = let step = goes c in omega (arith, step.shorter)

pub loop-place-preserved : goal.loop-place-preserved
loop-place-preserved c =
    let step = goes c in
    record {
      same_room = c.give.ensures.room ∙ c.take.ensures.room ∙ c.loop-place.invariant.same_room;
      same_size = step.same_size ∙ c.loop-place.invariant.same_size;
      absent = step.absent;
      few = omega (arith, step.shorter, c.loop-place.invariant.few);
      rest = step.rest;
    }
