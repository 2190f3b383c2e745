-- A look-up in the table is one in its list.
use Rattle.std.proofs.Common.{◌∙◌, ap}
use Rattle.mpe_segmenter.specs.Places.{place_of}
use Rattle.mpe_segmenter.proofs.PlaceLemmas.{lookup_place}
use Rattle.mpe_segmenter.proofs.places.Places.find.Goals as goal

pub returns : goal.returns
returns c =
    c.copied.ensures ∙ c.get.ensures.value ∙ lookup_place c.self.inside.places.entries c.args.name.now
    ∙ ap (place_of c.args.name.now.items) c.self.view_is
