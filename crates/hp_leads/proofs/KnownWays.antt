-- Where entries of small tables lead, and choices of branches, by computing. A table has its labels with the first one last, and their number.
use Rattle.std.proofs.Common.{◌≡◌, ℕ, true, false, List, [], ◌∷◌, Some, None, Ok, refl}
use Rattle.spl_follow.specs.hp_instr.declared.instruction.Instr.TheVariants as i
use Rattle.spl_follow.specs.hp_instr.Labels.{label}
use Rattle.spl_follow.specs.hp_session.State.{Machine, without, opened}
use Rattle.spl_follow.specs.hp_memory_rows.MemoryRows.{is_named}
use Rattle.spl_follow.specs.Doing.{gate, body}
use Rattle.hp_leads.specs.Words.{entry_way, subroutine_way}
use Rattle.hp_leads.specs.Choices.{chosen, choice}

-- a word of code; entry 2 is the intrinsic 8, and entry 1 the procedure at offset 0
abbrev table : List ℕ
table = 7 ∷ 35071 ∷ 0 ∷ 2 ∷ []

to_a_procedure : entry_way (table ∷ []) 0 1 ≡ Some (body (record { seg = 0; offset = 0; right = false }))
unfolding label
to_a_procedure = refl

to_the_gate : entry_way (table ∷ []) 0 2 ≡ Some (gate 8)
unfolding label
to_the_gate = refl

-- through entry 1 of segment 1, which is at offset 1
to_another_segment : entry_way ((0 ∷ 33025 ∷ 1 ∷ []) ∷ (5 ∷ 6 ∷ 1 ∷ 1 ∷ []) ∷ []) 0 1 ≡ Some (body (record { seg = 1; offset = 1; right = false }))
unfolding label
to_another_segment = refl

no_entry : entry_way (table ∷ []) 0 0 ≡ None
no_entry = refl

past_the_entries : entry_way (table ∷ []) 0 3 ≡ None
past_the_entries = refl

to_a_subroutine : subroutine_way (table ∷ []) 0 1 ≡ Some (body (record { seg = 0; offset = 0; right = false }))
unfolding label
to_a_subroutine = refl

no_subroutine_at_the_gate : subroutine_way (table ∷ []) 0 2 ≡ None
unfolding label
no_subroutine_at_the_gate = refl

-- ---- choices

-- a session with four zeros on top, whose code is CCE
abbrev fresh : Machine
fresh = opened [] 0 0 [] 100 0 0

zero_is_even : choice (i.Short 0o16 false 5) fresh ≡ Ok (chosen true (without 1 fresh))
zero_is_even = refl

zero_is_not_odd : choice (i.Short 0o15 false 5) fresh ≡ Ok (chosen false (without 1 fresh))
zero_is_not_odd = refl

-- the mask 2 names CCE, and 5 all others
on_equal : choice (i.OnCode 2 false 5) fresh ≡ Ok (chosen true fresh)
unfolding is_named
on_equal = refl

not_on_unequal : choice (i.OnCode 5 false 5) fresh ≡ Ok (chosen false fresh)
unfolding is_named
not_on_unequal = refl
