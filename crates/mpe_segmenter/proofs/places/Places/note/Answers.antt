-- A name that is not in the list goes last.
use Rattle.std.proofs.Common.{◌≡◌, ◌∙◌, ◌++◌, ◌∷◌, [], ℕ, List, None, nat_eq, ap, sym}
use Rattle.std.proofs.lemmas.List.{map_push}
use Rattle.std.specs.Cmp.Lexicographic.{pointwise}
use Rattle.arrayvec.specs.ArrayVec.{ArrayVec}
use Rattle.indexmap.proofs.CallerLemmas.{insert_entry-new}
use Rattle.mpe_segmenter.specs.Places.{place_of}
use Rattle.mpe_segmenter.specs.PlaceViews.{placed, pair_of}
use Rattle.mpe_segmenter.proofs.PlaceLemmas.{lookup_place, none_since, with_new}
use Rattle.mpe_segmenter.proofs.places.Places.note.Goals as goal

pub returns-in_ok-insert : goal.returns-in_ok-insert
returns-in_ok-insert c =
    let m = c.self.inside.places in
    let key = c.letters_of.result in
    let letters : key.items ≡ c.args.name.now.text.items = c.letters_of.ensures in
    let unnamed : place_of c.args.name.now.text.items c.args.self.now ≡ None = sym c.find.ensures ∙ none_since c.find.result c.is_none.result c.is_none.ensures c.if-is_none.true in
    let new : place_of key.items (placed m.entries) ≡ None = ap (λ n. place_of n (placed m.entries)) letters ∙ ap (place_of c.args.name.now.text.items) c.self.view_is ∙ unnamed in
    ap placed (c.in_ok-insert.ensures.entries ∙ insert_entry-new (λ (j k : ArrayVec ℕ). pointwise nat_eq j.items k.items) m key c.args.number (lookup_place m.entries key ∙ new))
    ∙ map_push pair_of m.entries (key, c.args.number)
    ∙ ap (λ (es : List (List ℕ × ℕ)). es ++ (key.items, c.args.number) ∷ []) c.self.view_is
    ∙ ap (λ (n : List ℕ). c.args.self.now ++ (n, c.args.number) ∷ []) letters
    ∙ sym (with_new c.args.self.now c.args.name.now.text.items c.args.number unnamed)
