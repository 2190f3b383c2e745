-- An item that has words is taken in.
use Rattle.std.proofs.Common.{rules, ◌≡◌, Bool, true, nat_lt, ap, sym, ◌∙◌}
use Rattle.std.specs.Prelude.{if◌then◌else◌}
use Rattle.spl_tree.specs.Views.{letters}
use Rattle.spl_sorts.specs.spl_meaning.Names.{find}
use Rattle.spl_sorts.specs.spl_meaning.Places.{is_own, item_words, place_of}
use Rattle.spl_places.specs.spl_found.OwnNames.{with_name}
use Rattle.spl_sorts.specs.Sorts.{sort_of}
use Rattle.spl_places.specs.NameMaps.{entries_of, shown}
use Rattle.spl_places.specs.Spots.{spot_of, place_in}
use Rattle.spl_places.proofs.NameMapLemmas.{shown_added}
use Rattle.spl_body_scopes.proofs.places.note_place.Goals as goal

pub returns-in_ok-add : goal.returns-in_ok-add
returns-in_ok-add c =
    let s = sort_of c.args.sort.now in
    let x = letters c.args.name.now in
    let old = find (entries_of c.args.places.now) in
    let has = shown spot_of old in
    let place = λ (own : Bool). place_of (place_in c.args.area) own c.args.owned c.args.here in
    let there : nat_lt 0 (item_words s) ≡ true = search rules in
    shown_added spot_of (find (entries_of c.add.new.self)) old x c.place_of.result c.in_ok-add.ensures
    ∙ ap (with_name has x) (c.place_of.ensures ∙ ap place c.is_own.ensures)
    ∙ sym (ap (λ (b : Bool). if b then with_name has x (place (is_own s)) else has) there)
