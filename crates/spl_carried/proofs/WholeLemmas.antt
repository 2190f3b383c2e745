-- Modules without faults make whole segments.
use Rattle.std.proofs.Common.{◌≡◌, ℕ, ◌≤◌, Bool, true, false, nat_lt, List, length, Option, Some, None, refl, arith}
use Rattle.std.specs.Prelude.{option_map, if◌then◌else◌}
use Rattle.std.proofs.lemmas.Bool.{ltb-false}
use Rattle.std.proofs.lemmas.List.{length-map}
use Rattle.spl_bounds.specs.spl_meaning.Tables.{Source}
use Rattle.spl_bounds.specs.spl_branch.declared.modules.Module.{Module}
use Rattle.spl_bounds.specs.mpe_segmenter.Names.{segment_names, part_from, parts}
use Rattle.spl_bounds.specs.mpe_segmenter.Entries.{either}
use Rattle.spl_bounds.specs.mpe_segmenter.Counts.{entries_full, segment_full}
use Rattle.spl_bounds.specs.mpe_segmenter.Faults.{mains, doubled, unresolved, Doubled, Unresolved, SegmentsFull, EntriesFull, SegmentFull, main_faults, name_faults, segment_faults, size_faults, first_fault}
use Rattle.spl_bounds.specs.mpe_segmenter.Whole.{IsWhole}
use Rattle.spl_bounds.proofs.mpe_segmenter_proofs.PrepareLemmas.{one_main, whole}
use Rattle.spl_bounds.specs.spl_module_code.Modules.{AreModules}
use Rattle.spl_bounds.proofs.spl_formed_modules_proofs.Formed.{all_formed}

-- ---- where there is no first of two, there is neither

no_first : {A : Type 0} (a b : Option A) → either a b ≡ None → a ≡ None
no_first None b e = refl
no_first (Some x) b e = cc

no_second : {A : Type 0} (a b : Option A) → either a b ≡ None → b ≡ None
no_second None b e = e
no_second (Some x) b e = cc

none_mapped : {A B : Type 0} (f : A → B) (o : Option A) → option_map f o ≡ None → o ≡ None
none_mapped f None e = refl
none_mapped f (Some x) e = cc

few_segments : (n : ℕ) → segment_faults n ≡ None → n ≤ 62
few_segments n e = by (nat_lt 62 n) refl e where
  by : (b : Bool) → nat_lt 62 n ≡ b → (if b then Some (SegmentsFull n) else None) ≡ None → n ≤ 62
  by true l e = cc
  by false l e = ltb-false 62 n l

pub whole_parts : (us : List Source) (ms : List Module) → AreModules us ms → first_fault ms ≡ None → IsWhole (parts ms)
whole_parts us ms are none =
    let sizes = either (segment_faults (length (segment_names ms))) (size_faults (parts ms)) in
    let main = no_first (main_faults (mains ms)) (either (name_faults ms) sizes) none in
    let behind = no_second (main_faults (mains ms)) (either (name_faults ms) sizes) none in
    let names = no_first (name_faults ms) sizes behind in
    let counts = no_second (name_faults ms) sizes behind in
    let segments = no_first (segment_faults (length (segment_names ms))) (size_faults (parts ms)) counts in
    let full = no_second (segment_faults (length (segment_names ms))) (size_faults (parts ms)) counts in
    let entries = option_map (λ p. EntriesFull p.0 p.1) (entries_full (parts ms)) in
    let words = option_map (λ p. SegmentFull p.0 p.1) (segment_full (parts ms)) in
    let many = length-map (segment_names ms) (part_from ms) in
    let few = few_segments (length (segment_names ms)) segments in
    whole ms (all_formed us ms are) (one_main (mains ms) main)
    (none_mapped Unresolved (unresolved ms) (no_second (option_map Doubled (doubled ms)) (option_map Unresolved (unresolved ms)) names)) (omega (arith, many, few))
    (none_mapped (λ p. EntriesFull p.0 p.1) (entries_full (parts ms)) (no_first entries words full))
    (none_mapped (λ p. SegmentFull p.0 p.1) (segment_full (parts ms)) (no_second entries words full))
