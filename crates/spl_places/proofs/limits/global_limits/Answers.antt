-- Each of two sums runs along the globals and then along the items of procedures.
use Rattle.std.proofs.Common.{ℕ, ◌+◌, true, false, ◌++◌, map, Option, ap, sym, ◌∙◌}
use Rattle.spl_sorts.specs.spl_meaning.Places.{item_words, array_words}
use Rattle.spl_sorts.specs.spl_meaning.Limits.{Full, passing, first_among}
use Rattle.spl_places.specs.ListedData.{datum_of}
use Rattle.spl_places.specs.Counters.{sizes, total_words}
use Rattle.spl_places.proofs.CounterLaws.{two_found, among_both}
use Rattle.spl_places.proofs.limits.global_limits.Goals as goal

pub returns : goal.returns
returns c =
    let gs = map datum_of c.args.globals.now in
    let ls = map datum_of c.args.locals.now in
    let f = c.args.first.now in
    let items = sizes false item_words gs ++ sizes true item_words ls in
    let arrays = sizes false array_words gs ++ sizes true array_words ls in
    let words = c.in_ok-plus.ensures ∙ ap (λ (n : ℕ). n + c.in_ok-own_words.own_words) c.in_ok-globals_words.ensures
    ∙ ap (λ (n : ℕ). total_words false item_words gs + n) c.in_ok-own_words.ensures in
    let primary = two_found 1 256 0 c.new-primary.result c.add_all.new.self (sizes false item_words gs) (sizes true item_words ls) f c.add_all.new.first c.add_all-2.new.first
    c.new-primary.ensures c.in_ok-add_all.ensures.sum c.in_ok-add_all.ensures.first c.in_ok-add_all-2.ensures.first in
    two_found 4 32000 c.in_ok-plus.field-0 c.new-both.result c.add_all-3.new.self (sizes false array_words gs) (sizes true array_words ls)
    c.add_all-2.new.first c.add_all-3.new.first c.add_all-4.new.first
    c.new-both.ensures c.in_ok-add_all-3.ensures.sum c.in_ok-add_all-3.ensures.first c.in_ok-add_all-4.ensures.first
    ∙ ap (λ (n : ℕ). first_among c.add_all-2.new.first (passing 4 32000 n arrays)) words
    ∙ ap (λ (g : Option Full). first_among g (passing 4 32000 (total_words false item_words gs + total_words true item_words ls) arrays)) primary
    ∙ sym (among_both f (passing 1 256 0 items) (passing 4 32000 (total_words false item_words gs + total_words true item_words ls) arrays))
