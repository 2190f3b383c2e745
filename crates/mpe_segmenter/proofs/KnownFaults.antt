-- Faults and look-ups worked by hand.
use Rattle.std.proofs.Common.{◌≡◌, ℕ, List, [], ◌∷◌, Option, Some, None, refl}
use Rattle.hp_instr.specs.declared.labels.Label.TheVariants.{Local, External}
use Rattle.mpe_segmenter.specs.Places.{place_of, with_place}
use Rattle.mpe_segmenter.specs.Entries.{gate_of}
use Rattle.mpe_segmenter.specs.Faults.{NoMain, TwoMains, SegmentsFull, main_faults, segment_faults, first_repeat}
use Rattle.mpe_segmenter.specs.Sites.{At, Gate, label_site}

no_main : main_faults 0 ≡ Some NoMain
no_main = refl

one_main : main_faults 1 ≡ None
one_main = refl

two_mains : main_faults 2 ≡ Some TwoMains
two_mains = refl

most_segments : segment_faults 62 ≡ None
most_segments = refl

one_segment_more : segment_faults 63 ≡ Some (SegmentsFull 63)
one_segment_more = refl

-- of AB and BA it is B whose second definition comes first
second_definition : first_repeat [] ((65 ∷ []) ∷ (66 ∷ []) ∷ (66 ∷ []) ∷ (65 ∷ []) ∷ []) ≡ Some (66 ∷ [])
second_definition = refl

-- a name that is there keeps its number
first_number : place_of (65 ∷ []) (with_place (with_place [] (65 ∷ []) 3) (65 ∷ []) 4) ≡ Some 3
first_number = refl

-- a local label leads to an offset of its segment, and one of segment 255 to an intrinsic
local_label : label_site [] 2 (Local 5) ≡ Some (At 2 5)
local_label = refl

gate_label : label_site [] 2 (External 255 7) ≡ Some (Gate 7)
gate_label = refl

-- QUIT has the last entry of the gate
quit : gate_of (81 ∷ 85 ∷ 73 ∷ 84 ∷ []) ≡ 8
quit = refl
