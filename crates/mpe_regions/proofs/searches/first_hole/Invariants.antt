use Rattle.std.proofs.Common.{◌≡◌, ◌-◌, ◌<◌, ◌^◌, length}
use Rattle.mpe_regions.specs.Searches.{hole_sought}
use Rattle.mpe_regions.proofs.searches.first_hole.Given as goal

-- the search from here on finds what the whole search finds
abbrev pub invariant-loop-i : goal.invariant-loop-i
invariant-loop-i l = record {
  rest : hole_sought l.nodes l.end l.want (length l.nodes - l.i) l.from l.before l.at ≡ hole_sought l.nodes l.end l.want (length l.nodes) 0 65535 l.first;
  small : l.from < 2 ^ 33;
}
