-- The pieces of a program's modules stand where these lie.
use Rattle.std.proofs.Common.{◌≡◌, ℕ, ◌+◌, ◌<◌, List, [], length, Option, None, Some, refl, arith}
use Rattle.std.specs.Prelude.{slice_get, unwrap_or}
use Rattle.mpe_segmenter.specs.hp_program.Programs.{segments_of, words_of}
use Rattle.mpe_segmenter.proofs.hp_program_proofs.ValidLaws.{segment_fits}
use Rattle.mpe_segmenter.specs.spl_branch.Stands as decoded
use Rattle.mpe_segmenter.specs.spl_branch.Modules.{sites}
use Rattle.mpe_segmenter.specs.Counts.{sizes}
use Rattle.mpe_segmenter.specs.Sites.{module_entries}
use Rattle.spl_stands.proofs.StandLemmas.{words_stand}
use Rattle.spl_sites.specs.Grounds.{ground_of}
use Rattle.spl_sites.specs.Laws.{ProgramsStand}
use Rattle.spl_sites.proofs.FitLemmas.{modules_fit}

-- a segment that has words is there
found : (segments : List (List ℕ)) (seg : ℕ) → 0 < length (words_of segments seg) → slice_get segments seg ≡ Some (words_of segments seg)
found segments seg some = by (slice_get segments seg) some where
  by : (o : Option (List ℕ)) → 0 < length (unwrap_or o []) → o ≡ Some (unwrap_or o [])
  by None some = absurd (omega (arith, some))
  by (Some words) some = refl

pub programs_stand : ProgramsStand
programs_stand p near ms links seg front m back is c f w marks well kinds set calls =
    let base = sizes front in
    let entries = module_entries front m back in
    let segment = words_of (segments_of p) seg in
    let there = found (segments_of p) seg (omega (arith, links.size seg is.part is.there)) in
    let lies = links.lies seg front m back is in
    let few = links.few seg front m back is in
    words_stand (ground_of p near ms) seg segment there (sites base f.marks entries) w marks c.pieces.items (decoded.at_left base)
    (decoded.at_left (base + length m.words.items)) None
    (modules_fit p near ms seg front m back is c f segment entries w there few lies well kinds set calls)
    (f.stands segment base entries (segment_fits p seg segment there) few lies)
