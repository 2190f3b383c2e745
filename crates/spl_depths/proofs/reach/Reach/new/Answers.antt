-- Parameters by their places, and the result below them.
use Rattle.std.proofs.Common.{refl, rules, ◌+◌, ◌≡◌}
use Rattle.spl_tree.specs.Views.{letters}
use Rattle.spl_sorts.specs.spl_meaning.Names.{find}
use Rattle.spl_sorts.specs.spl_meaning.Pending.{formals_words, result_words}
use Rattle.spl_sorts.specs.Profiles.{profile_of}
use Rattle.spl_depths.specs.Places.{places_of}
use Rattle.spl_depths.specs.Reach.{parameters_below}
use Rattle.spl_depths.proofs.PlaceWalks.{reach_by_parts}
use Rattle.spl_depths.proofs.reach.Reach.new.Goals as goal

pub returns : goal.returns
returns c =
    let p = profile_of c.args.profile.now in
    let places : find (places_of c.in_ok-of.field-0) ≡ find (parameters_below p.formals) = search rules in
    let words : c.in_ok-plus.field-0 ≡ formals_words p.formals + result_words p = search rules in
    reach_by_parts (record { parameters = c.in_ok-of.field-0; name = c.args.name; result = c.in_ok-plus.field-0 }) (letters c.args.name.now) p refl places words
