-- An array is taken in.
use Rattle.std.proofs.Common.{rules, ◌≡◌, ap, sym, ◌∙◌, to_z, of_z, arith, w64}
use Rattle.std.proofs.lemmas.Int.{ints}
use Rattle.std.specs.Prelude.{ℤ}
use mir.Val.{SFits}
use Rattle.spl_tree.specs.Views.{letters}
use Rattle.spl_sorts.specs.spl_meaning.Names.{find}
use Rattle.spl_sorts.specs.declared.sorts.Sort.{Sort}
use Rattle.spl_spots.specs.spl_found.OwnNames.{with_name}
use Rattle.spl_sorts.specs.Sorts.{sort_of}
use Rattle.spl_spots.specs.NameMaps.{entries_of, shown}
use Rattle.spl_places.specs.Spots.{spot_of, array_of, and_array}
use Rattle.spl_spots.proofs.NameMapLemmas.{shown_added}
use Rattle.spl_places.proofs.places.note_array.Goals as goal

pub returns-in_ok-add-in-Array : goal.returns-in_ok-add-in-Array
returns-in_ok-add-in-Array c =
    let x = letters c.args.name.now in
    let old = find (entries_of c.args.arrays.now) in
    let low = c.in-Array.low in
    let fits : SFits w64 low = search rules in
    let same : to_z w64 (of_z w64 low) ≡ low = omega (arith, ints) in
    let has = shown array_of old in
    shown_added array_of (find (entries_of c.add.new.self)) old x (record { from = c.args.from; kind = c.in-Array.kind; low = to_z w64 (of_z w64 low) }) c.in_ok-add-in-Array.ensures
    ∙ ap (λ (z : ℤ). with_name has x (record { from = spot_of c.args.from; kind = c.in-Array.kind; low = z })) same
    ∙ sym (ap (λ (s : Sort). and_array (spot_of c.args.from) (shown array_of old) x (sort_of s)) c.in-Array.is)
