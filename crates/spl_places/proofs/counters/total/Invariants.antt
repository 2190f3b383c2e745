-- A loop over items.
use Rattle.std.proofs.Common.{◌≡◌, ◌+◌, map, drop}
use Rattle.spl_places.specs.ListedData.{datum_of}
use Rattle.spl_places.specs.Counters.{part_words, total_words}
use Rattle.spl_places.proofs.counters.total.Given as goal

-- the words so far and those from here on are all
abbrev pub invariant-loop-datum : goal.invariant-loop-datum
invariant-loop-datum l =
    l.total + total_words l.own (part_words l.part) (map datum_of (drop l.datum-index l.list)) ≡ total_words l.own (part_words l.part) (map datum_of l.list)
