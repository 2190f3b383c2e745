-- A program that is built of units has their segments in their order, each of which is that of its modules.
use Rattle.std.proofs.Common.{◌≡◌, ◌≤◌, ℕ, zero, suc, List, [], ◌∷◌, length, Some, sym, ap, subst, ◌∙◌}
use Rattle.std.specs.List.{slice_get}
use Rattle.std.proofs.lemmas.List.{length-map}
use Rattle.spl_carries.specs.hp_program.Programs.{segments_of, words_of}
use Rattle.spl_carries.specs.spl_meaning.Bound.{bound}
use Rattle.spl_module_words.specs.mpe_segmenter.Names.{segment_names, part_from, parts}
use Rattle.spl_module_words.specs.mpe_segmenter.Programs.{tables_of, part_words}
use Rattle.spl_module_words.proofs.mpe_segmenter_proofs.ValidLemmas.{got_map}
use Rattle.spl_bounds.specs.Bounds.{PartsKeepBounds}
use Rattle.spl_bounds.specs.Programs.{ProgramsKeepBounds}
use Rattle.spl_bounds.proofs.Order.{segments_are}

-- the words of a segment that is there
there_words : (ss : List (List ℕ)) (i : ℕ) (words : List ℕ) → slice_get ss i ≡ Some words → words_of ss i ≡ words
there_words [] i words is = cc
there_words (s ∷ ss) zero words is = cc
there_words (s ∷ ss) (suc i) words is = there_words ss i words is

pub programs_bounded : PartsKeepBounds → ProgramsKeepBounds
programs_bounded keep us ms globals p of n =
    let same = segments_are us ms of.sound n of.are_modules in
    record {
      segments = ap length of.makes.segments
          ∙ length-map (parts ms) (part_words (tables_of (parts ms)))
          ∙ length-map (segment_names ms) (part_from ms)
          ∙ ap length same;
      words = λ i words name is named.
          let there : slice_get (parts ms) i ≡ Some (part_from ms name) = got_map (part_from ms) (segment_names ms) i name (ap (λ ns. slice_get ns i) same ∙ named) in
          let size = of.links.size i (part_from ms name) there in
          let kept = keep us ms i (part_from ms name) of.sound of.spelled of.within of.are_modules there in
          subst (λ (ws : List ℕ). length ws ≤ bound us name) (there_words (segments_of p) i words is)
          (subst (λ (k : ℕ). k ≤ bound us name) (sym size) kept);
    }
