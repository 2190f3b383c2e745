-- A loop over items.
use Rattle.std.proofs.Common.{◌≡◌, map, drop}
use Rattle.spl_places.specs.ListedData.{datum_of}
use Rattle.spl_places.specs.Counters.{part_words, sizes, behind, found}
use Rattle.spl_places.proofs.counters.Counter.add_all.Given as goal

-- the sum and the first limit from here on are those of all
abbrev pub invariant-loop-datum : goal.invariant-loop-datum
invariant-loop-datum l = record {
  sum : behind l.self (sizes l.own (part_words l.part) (map datum_of (drop l.datum-index l.list)))
      ≡ behind l.initial.self (sizes l.own (part_words l.part) (map datum_of l.list));
  first : found l.self (sizes l.own (part_words l.part) (map datum_of (drop l.datum-index l.list))) l.first
      ≡ found l.initial.self (sizes l.own (part_words l.part) (map datum_of l.list)) l.initial.first;
}
