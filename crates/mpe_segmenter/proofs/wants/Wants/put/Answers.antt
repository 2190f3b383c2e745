-- The set of keys is the list of wants.
use Rattle.std.proofs.Common.{◌≡◌, ◌∙◌, ap, refl, map}
use Rattle.mpe_segmenter.specs.Entries.{wanted_of, with_want}
use Rattle.mpe_segmenter.specs.PlaceViews.{seen}
use Rattle.mpe_segmenter.proofs.PlaceLemmas.{insert_want}
use Rattle.mpe_segmenter.proofs.wants.Wants.put.Goals as goal

pub returns : goal.returns
returns c =
    let key : seen c.key_of.result ≡ wanted_of c.args.want.now = rw (c.key_of.ensures.name, c.key_of.ensures.gate) refl in
    ap (map seen) c.in_ok-insert.ensures.keys ∙ insert_want c.self.inside.wants.keys c.key_of.result
    ∙ ap (λ vs. with_want vs (seen c.key_of.result)) c.self.view_is ∙ ap (with_want c.args.self.now) key
