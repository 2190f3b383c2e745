-- A loop over items.
use Rattle.std.proofs.Common.{◌≡◌, ◌++◌, map, drop}
use Rattle.spl_globals.specs.spl_places.ListedData.{datum_of}
use Rattle.spl_entries.specs.Entries.{item_entries}
use Rattle.spl_entries.proofs.items.item_places.Given as goal

-- the places so far and those from here on are all
abbrev pub invariant-loop-datum : goal.invariant-loop-datum
invariant-loop-datum l =
    l.all.items ++ item_entries l.next (map datum_of (drop l.datum-index l.items)) ≡ l.initial.all.items ++ item_entries l.fn.at (map datum_of l.items)
