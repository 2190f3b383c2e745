-- The words are those of the segments, so the program is valid.
use Rattle.std.proofs.Common.{◌≡◌, ◌∙◌, ℕ, Some, List, sym, ap, subst}
use Rattle.hp_program.specs.Valid.{first_defect}
use Rattle.mpe_segmenter.specs.Names.{Part}
use Rattle.mpe_segmenter.specs.Programs.{main_from}
use Rattle.mpe_segmenter.specs.Sites.{Links}
use Rattle.mpe_segmenter.specs.SegmentViews.{segments_in}
use Rattle.mpe_segmenter.proofs.ValidLemmas.{valid}
use Rattle.mpe_segmenter.proofs.SiteLaws.{links}
use Rattle.mpe_segmenter.proofs.program.make.Goals as goal

pub invariant_of-result : goal.invariant_of-result
invariant_of-result c =
    let ps : List Part = segments_in c.args.segments.items in
    let at : main_from 0 ps ≡ Some (c.unwrap-main.result.0, c.unwrap-main.result.1) =
    sym (c.main_place.ensures ∙ ap (λ ss. main_from 0 (segments_in ss)) c.as_slice-3.ensures.value) ∙ c.unwrap-main.ensures in
    record { valid = ap (λ ws. first_defect ws c.unwrap-main.result.0 c.unwrap-main.result.1 c.args.globals.items) c.in_ok-words.ensures ∙ valid ps c.unwrap-main.result.0 c.unwrap-main.result.1 c.args.globals.items c.requires.whole c.requires.globals at }

pub returns-clause-links : goal.returns-clause-links
returns-clause-links c =
    let P : List (List ℕ) → Type 0 = λ segments. Links (segments_in c.args.segments.items) segments in
    subst P (sym c.in_ok-words.ensures) (links (segments_in c.args.segments.items) c.requires.whole)
