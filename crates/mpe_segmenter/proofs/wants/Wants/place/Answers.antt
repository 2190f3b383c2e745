-- The place in the set of keys is that in the list of wants.
use Rattle.std.proofs.Common.{◌≡◌, ◌∙◌, ap, refl, unwrap_or}
use Rattle.std.specs.List.{position}
use Rattle.mpe_segmenter.specs.Entries.{wanted_of, want_at}
use Rattle.mpe_segmenter.specs.PlaceViews.{seen}
use Rattle.mpe_segmenter.proofs.PlaceLemmas.{same, want_position}
use Rattle.mpe_segmenter.proofs.wants.Wants.place.Goals as goal

pub returns : goal.returns
returns c =
    let key : seen c.key_of.result ≡ wanted_of c.args.want.now = rw (c.key_of.ensures.name, c.key_of.ensures.gate) refl in
    c.unwrap_or.ensures ∙ ap (λ o. unwrap_or o c.len.result) c.get_index_of.ensures.index
    ∙ ap (unwrap_or (position (same c.key_of.result) c.self.inside.wants.keys)) c.len.ensures.len
    ∙ want_position c.self.inside.wants.keys c.key_of.result
    ∙ ap (want_at (seen c.key_of.result)) c.self.view_is ∙ ap (λ w. want_at w c.args.self.now) key
