-- Phases, their segments and the registers at their end, worked by hand from the rules.
use Rattle.std.proofs.Common.{◌≡◌, ℕ, true, false, List, [], ◌∷◌, slice_get, refl}
use Rattle.std.specs.Prelude.{Option, None, Some, Result, Ok, Err}
use Rattle.hp_word.specs.declared.arithmetic.Code.TheVariants.{Less}
use Rattle.hp_word.specs.declared.endings.Trap.{Trap}
use Rattle.hp_word.specs.declared.endings.Trap.TheVariants.{BadEntry}
use Rattle.hp_word.specs.declared.intrinsics.Intrinsic.TheVariants.{Read, Quit}
use Rattle.hp_instr.specs.declared.labels.Label.{Label}
use Rattle.hp_instr.specs.declared.labels.Label.TheVariants.{Local, External}
use Rattle.hp_session.specs.declared.registers.Regs.{Regs}
use Rattle.hp_calls.specs.declared.phases.Phase.TheVariants.{Ready, Entering, Returning}
use Rattle.hp_calls.specs.declared.phases.Called.{Called}
use Rattle.hp_calls.specs.declared.phases.Called.TheVariants.{Gate}
use Rattle.hp_calls.specs.Phases.{arrived, destination, finished}
use Rattle.hp_calls.specs.Transfers.{awaited, gate_through, handed_on, phase_through, pushed_by, wanted}

-- a program of two segments; the second has the entries 3 and 1
abbrev segments : List (List ℕ)
segments = (0 ∷ 0 ∷ 1 ∷ 1 ∷ []) ∷ (0 ∷ 0 ∷ 0 ∷ 0 ∷ 1 ∷ 3 ∷ 2 ∷ []) ∷ []

-- a store without the second
abbrev first_alone : ℕ → Option (List ℕ)
first_alone = slice_get ((0 ∷ 0 ∷ 1 ∷ 1 ∷ []) ∷ [])

abbrev at : ℕ → ℕ → Regs
at seg p = record { x = 7; q = 20; p = p; seg = seg; traps = true; right = false; overflow = false; carry = false; code = Less }

finished-ready : finished (slice_get segments) Ready (at 0 5) ≡ at 0 5
unfolding finished
finished-ready = refl

-- an entry's offset is read in the table of the segment that is entered
finished-first_entry : finished (slice_get segments) (Entering 1 1) (at 0 5) ≡ at 1 3
unfolding finished
finished-first_entry = refl

finished-second_entry : finished (slice_get segments) (Entering 1 2) (at 0 5) ≡ at 1 1
unfolding finished
finished-second_entry = refl

-- a return goes to the offset that the marker had
finished-returning : finished (slice_get segments) (Returning 0 2) (at 1 3) ≡ at 0 2
unfolding finished
finished-returning = refl

-- a transfer waits for its own segment, and for no other
arrived-absent : arrived first_alone (Entering 1 2) ≡ Err 1
unfolding arrived
arrived-absent = refl

arrived-held : arrived first_alone (Returning 0 2) ≡ Ok tt
unfolding arrived
arrived-held = refl

arrived-ready : arrived first_alone Ready ≡ Ok tt
unfolding arrived
arrived-ready = refl

destination-entering : destination (Entering 1 2) ≡ Some 1
destination-entering = refl

-- labels: a local one, one of another segment, and of the gate
phase-local : phase_through (Local 40) ≡ Ready
phase-local = refl

phase-external : phase_through (External 3 9) ≡ Entering 3 9
phase-external = refl

gate-quit : gate_through (External 255 8) ≡ Some Quit
gate-quit = refl

gate-ninth : gate_through (External 255 9) ≡ None
gate-ninth = refl

gate-other_segment : gate_through (External 254 8) ≡ None
gate-other_segment = refl

-- an intrinsic is wanted in whole mode alone, and through no missing label
abbrev label_of_read : Result Label Trap
label_of_read = Ok (External 255 2)

wanted-whole : wanted false label_of_read ≡ Some Read
wanted-whole = refl

wanted-split : wanted true label_of_read ≡ None
wanted-split = refl

wanted-no_entry : wanted false (Err BadEntry) ≡ None
wanted-no_entry = refl

-- what is handed on has pushed nothing, and waits for no segment
abbrev read_handed_on : Result Called Trap
read_handed_on = Ok (Gate Read)

handed_on-read : handed_on read_handed_on ≡ Some Read
handed_on-read = refl

pushed_by-read : pushed_by 4 read_handed_on ≡ 0
pushed_by-read = refl

awaited-read : awaited read_handed_on ≡ None
awaited-read = refl
