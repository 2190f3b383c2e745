use Rattle.std.proofs.Common.{◌≡◌, ◌+◌, ◌<◌, length}
use Rattle.mpe_regions.specs.Area.{IsAbsent}
use Rattle.mpe_regions.specs.Loads.{load, after_more}
use Rattle.mpe_overlay.proofs.room.make_room.Given as goal

-- what is given up so far belongs to the load, and the rest of it goes on from here
abbrev pub invariant-loop-place : goal.invariant-loop-place
invariant-loop-place l = record {
  same_room : l.regions.room ≡ 4096;
  same_size : l.regions.area.size ≡ l.fn.regions.area.size;
  absent : IsAbsent l.key l.regions.area;
  few : length l.regions.area.list + l.given_up < 4096;
  rest : load l.key l.size l.fn.regions.area ≡ after_more l.given_up (load l.key l.size l.regions.area);
}

-- each region that is given up is one less
abbrev pub decreases-loop-place : goal.decreases-loop-place
decreases-loop-place l = length l.regions.area.list
