use Rattle.std.proofs.Common.{◌≡◌, ◌-◌, length}
use Rattle.mpe_regions.specs.Searches.{sought}
use Rattle.mpe_regions.proofs.searches.searched.Given as goal

-- the search from here on finds what the whole search finds
abbrev pub invariant-loop-i : goal.invariant-loop-i
invariant-loop-i l = sought l.nodes l.key (length l.nodes - l.i) l.at ≡ sought l.nodes l.key (length l.nodes) l.first
