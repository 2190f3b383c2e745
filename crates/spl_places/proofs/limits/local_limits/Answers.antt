-- Two sums run along the items.
use Rattle.std.proofs.Common.{ℕ, false, map, Option, ap, sym, ◌∙◌}
use Rattle.spl_sorts.specs.spl_meaning.Places.{item_words, array_words}
use Rattle.spl_sorts.specs.spl_meaning.Limits.{Full, passing, first_among}
use Rattle.spl_places.specs.ListedData.{datum_of}
use Rattle.spl_places.specs.Counters.{sizes, total_words}
use Rattle.spl_places.proofs.CounterLaws.{one_found, among_both}
use Rattle.spl_places.proofs.limits.local_limits.Goals as goal

pub returns : goal.returns
returns c =
    let ls = map datum_of c.args.locals.now in
    let f = c.args.first.now in
    let items = one_found 2 127 0 c.new-items.result (sizes false item_words ls) f c.add_all.new.first c.new-items.ensures c.in_ok-add_all.ensures.first in
    let arrays = sizes false array_words ls in
    one_found 4 32000 c.in_ok-words.words c.new-all.result arrays c.add_all.new.first c.add_all-2.new.first c.new-all.ensures c.in_ok-add_all-2.ensures.first
    ∙ ap (λ (n : ℕ). first_among c.add_all.new.first (passing 4 32000 n arrays)) c.in_ok-words.ensures
    ∙ ap (λ (g : Option Full). first_among g (passing 4 32000 (total_words false item_words ls) arrays)) items
    ∙ sym (among_both f (passing 2 127 0 (sizes false item_words ls)) (passing 4 32000 (total_words false item_words ls) arrays))
