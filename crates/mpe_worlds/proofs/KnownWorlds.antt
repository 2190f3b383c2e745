-- Turns, dispatch and events of small worlds, worked by hand from the rules.
use Rattle.std.proofs.Common.{◌≡◌, ℕ, false, List, [], ◌∷◌, None, Some, Option, refl}
use Rattle.std.specs.Prelude.{slice_get, option_map}
use Rattle.hp_cpu.specs.hp_word.declared.endings.Ending.{Ending}
use Rattle.hp_cpu.specs.hp_word.declared.endings.Ending.TheVariants.{Running, Terminated, Trapped}
use Rattle.hp_cpu.specs.hp_word.declared.endings.Trap.TheVariants.{CodeBounds}
use Rattle.hp_cpu.specs.hp_instr.Fields.{is_op}
use Rattle.hp_cpu.specs.hp_instr.Instructions.{instruction, pair}
use Rattle.hp_cpu.specs.hp_program.Programs.{code_word}
use Rattle.hp_cpu.specs.hp_session.State.{opened}
use Rattle.hp_cpu.specs.hp_stack_rows.StackRows.{operated}
use Rattle.hp_cpu.specs.hp_stackops.StackUses.{used_by}
use Rattle.hp_cpu.specs.hp_flat.Step.{outcome, pair_row, row, step}
use Rattle.hp_cpu.specs.Counts.{instruction_numbers}
use Rattle.hp_cpu.specs.Gates.{called_gate}
use Rattle.mpe_overlay.specs.Codes.{segment_at}
use Rattle.mpe_worlds.specs.declared.event.Event.TheVariants.{Turn, Evict}
use Rattle.mpe_worlds.specs.Worlds.{Run, World}
use Rattle.mpe_worlds.specs.Opening.{largest, nothing_moved}
use Rattle.mpe_worlds.specs.RunSteps.{can_step, numbers_stepped, stepping}
use Rattle.mpe_worlds.specs.Turns.{evicted, turned}
use Rattle.mpe_worlds.specs.Dispatch.{next_among}
use Rattle.mpe_worlds.specs.Events.{Played, happened, played}

-- Dispatch

-- before the first turn the live session with the least number is next
next-first : next_among 255 (Terminated ∷ Running ∷ Running ∷ []) ≡ Some 1
next-first = refl

-- then the live one with the least number above
next-above : next_among 1 (Running ∷ Running ∷ Terminated ∷ Running ∷ []) ≡ Some 3
next-above = refl

-- behind the last the count begins anew, with the session itself where it alone is live
next-around : next_among 3 (Running ∷ Running ∷ Terminated ∷ Running ∷ []) ≡ Some 0
next-around = refl

next-alone : next_among 1 (Terminated ∷ Running ∷ Terminated ∷ []) ≡ Some 1
next-alone = refl

next-none : next_among 0 (Terminated ∷ Trapped CodeBounds ∷ []) ≡ None
next-none = refl

-- Turns

-- two segments of two pairs of NOPs each
abbrev codes : List (List (List ℕ))
codes = ((0 ∷ 0 ∷ []) ∷ (0 ∷ 0 ∷ []) ∷ []) ∷ []

-- a session in its first or its second segment
abbrev run : ℕ → Run
run seg = record { program = 0; machine = opened [] seg 0 [] 64 0 10; steps = 0; numbers = nothing_moved }

-- two sessions over an area in which one segment fits
abbrev world : World
world = record { runs = run 0 ∷ run 1 ∷ []; area = record { size = 3; list = []; order = [] }; turns = 0; loads = 0; last = 255 }

-- for how many steps each session went
abbrev steps_of : World → ℕ → Option ℕ
steps_of w who = option_map (λ r. r.steps) (slice_get w.runs who)

abbrev ending_of : World → ℕ → Option Ending
ending_of w who = option_map (λ r. r.machine.ending) (slice_get w.runs who)

-- nothing can be done before its segment is loaded
absent : can_step world.area (run 0) ≡ false
absent = refl

-- a turn of one step, which loads
turned-loads : (turned codes 0 1 world).loads ≡ 1
unfolding stepping step outcome code_word instruction pair is_op row pair_row operated called_gate numbers_stepped instruction_numbers used_by segment_at
turned-loads = refl

turned-steps : steps_of (turned codes 0 1 world) 0 ≡ Some 1
unfolding stepping step outcome code_word instruction pair is_op row pair_row operated called_gate numbers_stepped instruction_numbers used_by segment_at
turned-steps = refl

-- the other session's segment takes the place
turned-twice : (turned codes 1 1 (turned codes 0 1 world)).area.order ≡ 1 ∷ []
unfolding stepping step outcome code_word instruction pair is_op row pair_row operated called_gate numbers_stepped instruction_numbers used_by segment_at
turned-twice = refl

-- two NOPs, and then P is past the end: a trap is a step too, and the last
turned-traps : steps_of (turned codes 0 9 world) 0 ≡ Some 3
unfolding stepping step outcome code_word instruction pair is_op row pair_row operated called_gate numbers_stepped instruction_numbers used_by segment_at
turned-traps = refl

turned-ends : ending_of (turned codes 0 9 world) 0 ≡ Some (Trapped CodeBounds)
unfolding stepping step outcome code_word instruction pair is_op row pair_row operated called_gate numbers_stepped instruction_numbers used_by segment_at
turned-ends = refl

-- after an eviction the segment is loaded once more, and else not
turned-again : (turned codes 0 1 (turned codes 0 1 world)).loads ≡ 1
unfolding stepping step outcome code_word instruction pair is_op row pair_row operated called_gate numbers_stepped instruction_numbers used_by segment_at
turned-again = refl

evicted-again : (turned codes 0 1 (evicted 0 0 (turned codes 0 1 world))).loads ≡ 2
unfolding stepping step outcome code_word instruction pair is_op row pair_row operated called_gate numbers_stepped instruction_numbers used_by segment_at
evicted-again = refl

-- Events

abbrev begun : Played
begun = record { world = world; spent = 0; count = 0 }

-- no third session, no turn of no steps, and no third segment
passed_over : played codes begun (Turn 2 1 ∷ Turn 0 0 ∷ Evict 0 2 ∷ Evict 1 0 ∷ []) ≡ begun
unfolding happened segment_at
passed_over = refl

-- nor more than 2 ^ 60 steps in all
too_many : played codes (record begun { spent = 1152921504606846976 }) (Turn 0 1 ∷ []) ≡ record begun { spent = 1152921504606846976 }
unfolding happened segment_at
too_many = refl

-- a session that has ended has no turn; an eviction of what is not loaded is no event that is passed over
counted : (played codes begun (Turn 0 9 ∷ Turn 0 9 ∷ Evict 0 1 ∷ [])).count ≡ 2
unfolding happened stepping step outcome code_word instruction pair is_op row pair_row operated called_gate numbers_stepped instruction_numbers used_by segment_at
counted = refl

-- the largest segment of all programs
largest-third : largest (((1 ∷ []) ∷ (1 ∷ 2 ∷ []) ∷ []) ∷ ((1 ∷ 2 ∷ 3 ∷ []) ∷ []) ∷ []) ≡ 3
largest-third = refl
