-- The segment that is noted for a name is the one that the look-up through tables finds.
use Rattle.std.proofs.Common.{◌≡◌, ◌∙◌, ◌<◌, ℕ, List, Some, length, sym, ap, arith}
use Rattle.mpe_segmenter.specs.Segments.{home_label}
use Rattle.mpe_segmenter.specs.declared.segments.Segment.{Segment}
use Rattle.mpe_segmenter.specs.Places.{place_of}
use Rattle.mpe_segmenter.specs.Homes.{home_at, IsHomes}
use Rattle.mpe_segmenter.specs.SegmentViews.{segment_in, segments_in}
use Rattle.mpe_segmenter.proofs.HomeLemmas.{home_lost}
use Rattle.mpe_segmenter.proofs.FitLemmas.{fits_at, segment_at, nowhere_formed, home_within, home_is}
use Rattle.mpe_segmenter.proofs.homes.home_label.Goals as goal

-- the number that is noted for a name
found : (homes : List (List ℕ × ℕ)) (ss : List Segment) (q : List ℕ) (n : ℕ) → IsHomes homes (segments_in ss) → Some n ≡ place_of q homes → home_at 0 (segments_in ss) q ≡ Some n
found homes ss q n h e = sym (h.finds q) ∙ sym e

within : (homes : List (List ℕ × ℕ)) (ss : List Segment) (q : List ℕ) (n : ℕ) → IsHomes homes (segments_in ss) → Some n ≡ place_of q homes → n < length ss
within homes ss q n h e = home_within ss q n (found homes ss q n h e)

pub bounds-segments-number : goal.bounds-segments-number
bounds-segments-number c = within c.args.homes.now c.args.segments.now c.args.name.now.items c.in-Some.number c.requires.homes c.in-Some.ensures

pub offset_bounds-segments-number : goal.offset_bounds-segments-number
offset_bounds-segments-number c = omega (arith, within c.args.homes.now c.args.segments.now c.args.name.now.items c.in-Some.number c.requires.homes c.in-Some.ensures, c.requires.count)

pub label_in-requires-clause-count : goal.label_in-requires-clause-count
label_in-requires-clause-count c = omega (arith, within c.args.homes.now c.args.segments.now c.args.name.now.items c.in-Some.number c.requires.homes c.in-Some.ensures, c.requires.count)

pub label_in-requires-clause-few : goal.label_in-requires-clause-few
label_in-requires-clause-few c =
    (fits_at (segments_in c.args.segments.now) c.in-Some.number (segment_in c.index-segments-number.result) c.requires.fitting (segment_at c.args.segments.now c.in-Some.number c.index-segments-number.result (within c.args.homes.now c.args.segments.now c.args.name.now.items c.in-Some.number c.requires.homes c.in-Some.ensures) c.index-segments-number.is)).entries

pub returns-in-None-clause-value : goal.returns-in-None-clause-value
returns-in-None-clause-value c =
    ap home_label (sym (home_lost (segments_in c.args.segments.now) 0 c.args.name.now.items (sym (c.requires.homes.finds c.args.name.now.items) ∙ sym c.in-None.ensures)))

pub returns-in-None-clause-formed : goal.returns-in-None-clause-formed
returns-in-None-clause-formed c = nowhere_formed

pub returns-in-Some-clause-value : goal.returns-in-Some-clause-value
returns-in-Some-clause-value c =
    c.label_in.ensures.value ∙ ap home_label (sym (home_is c.args.segments.now c.args.name.now.items c.in-Some.number c.index-segments-number.result (found c.args.homes.now c.args.segments.now c.args.name.now.items c.in-Some.number c.requires.homes c.in-Some.ensures) (within c.args.homes.now c.args.segments.now c.args.name.now.items c.in-Some.number c.requires.homes c.in-Some.ensures) c.index-segments-number.is))
