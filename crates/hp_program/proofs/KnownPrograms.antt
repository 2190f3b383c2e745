-- Small programs and what is wrong with them first, by computing. A segment here has a word of code, its labels and their number.
use Rattle.std.proofs.Common.{◌≡◌, ℕ, List, [], ◌∷◌, refl}
use Rattle.std.specs.Prelude.{Option, None, Some}
use Rattle.hp_instr.specs.Labels.{label}
use Rattle.hp_program.specs.declared.program.Defect.{Defect}
use Rattle.hp_program.specs.declared.program.Defect.TheVariants.{Head, Segment, Label as BadLabel, Main}
use Rattle.hp_program.specs.declared.store.Fetched.TheVariants.{Word, Absent, Outside}
use Rattle.hp_program.specs.Stores.{fetched}
use Rattle.hp_program.specs.Valid.{is_well_sized, is_local, is_local_entry, is_external, leads, is_head, bad_segment, bad_label, bad_table, first_defect}

-- what is wrong first with a program of one segment and no data, whose main entry is the first
abbrev alone : List ℕ → Option Defect
alone words = first_defect (words ∷ []) 0 1 []

smallest : alone (0 ∷ 0 ∷ 1 ∷ []) ≡ None
unfolding first_defect is_head bad_segment is_well_sized is_local_entry is_local label bad_table bad_label leads
smallest = refl

no_segment : first_defect [] 0 1 [] ≡ Some Head
unfolding first_defect is_head
no_segment = refl

main_segment_is_not_there : first_defect ((0 ∷ 0 ∷ 1 ∷ []) ∷ []) 1 1 [] ≡ Some Head
unfolding first_defect is_head
main_segment_is_not_there = refl

one_word : alone (0 ∷ []) ≡ Some (Segment 0)
unfolding first_defect is_head bad_segment is_well_sized
one_word = refl

more_entries_than_words : alone (0 ∷ 0 ∷ 3 ∷ []) ≡ Some (Segment 0)
unfolding first_defect is_head bad_segment is_well_sized
more_entries_than_words = refl

main_entry_leads_into_the_table : alone (0 ∷ 1 ∷ 1 ∷ []) ≡ Some Main
unfolding first_defect is_head bad_segment is_well_sized is_local_entry is_local label
main_entry_leads_into_the_table = refl

main_entry_is_a_gate : alone (0 ∷ 0o100777 ∷ 1 ∷ []) ≡ Some Main
unfolding first_defect is_head bad_segment is_well_sized is_local_entry is_local label
main_entry_is_a_gate = refl

eighth_intrinsic : alone (0 ∷ 0o104377 ∷ 0 ∷ 2 ∷ []) ≡ None
unfolding first_defect is_head bad_segment is_well_sized is_local_entry is_local label bad_table bad_label leads is_external
eighth_intrinsic = refl

ninth_intrinsic : alone (0 ∷ 0o104777 ∷ 0 ∷ 2 ∷ []) ≡ Some (BadLabel 0 2)
unfolding first_defect is_head bad_segment is_well_sized is_local_entry is_local label bad_table bad_label leads is_external
ninth_intrinsic = refl

-- bit 1 on: no label
no_label : alone (0 ∷ 0o040000 ∷ 0 ∷ 2 ∷ []) ≡ Some (BadLabel 0 2)
unfolding first_defect is_head bad_segment is_well_sized is_local_entry is_local label bad_table bad_label leads
no_label = refl

-- external labels to entry 1 of segment 0, which is local, and to entry 2 of it, which is not
own_entry_from_outside : alone (0 ∷ 0o100400 ∷ 0 ∷ 2 ∷ []) ≡ None
unfolding first_defect is_head bad_segment is_well_sized is_local_entry is_local label bad_table bad_label leads is_external
own_entry_from_outside = refl

external_to_an_external : alone (0 ∷ 0o101000 ∷ 0 ∷ 2 ∷ []) ≡ Some (BadLabel 0 2)
unfolding first_defect is_head bad_segment is_well_sized is_local_entry is_local label bad_table bad_label leads is_external
external_to_an_external = refl

-- What a store answers

not_held : fetched None 0 ≡ Absent
unfolding fetched
not_held = refl

last_word : fetched (Some (7 ∷ 8 ∷ [])) 1 ≡ Word 8
unfolding fetched
last_word = refl

past_the_end : fetched (Some (7 ∷ 8 ∷ [])) 2 ≡ Outside
unfolding fetched
past_the_end = refl
