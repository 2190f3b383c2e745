-- What a step keeps: the room of both lists, and, in a valid program, that processor and program suit each other.
use Rattle.std.specs.Prelude.{◌≡◌, ℕ, ◌<◌, true, List, length, slice_get, None, ⊤}
use Rattle.hp_program.specs.Valid.{first_defect, is_local_entry}
use Rattle.hp_tos.specs.StackView.{seen}
use Rattle.hp_calls.specs.declared.phases.Phase.{Phase}
use Rattle.hp_calls.specs.declared.phases.Phase.TheVariants.{Ready, Entering, Returning}
use Rattle.hp_cpu.specs.declared.cpu.Cpu.{Cpu}

-- the room of both lists: STACK and the number of words in the extra segment are as before, and memory is reserved for as many
-- words of each
pub record KeepsRoom (old new : Cpu) : Type 0 where
  pub same_limit : (seen new.stack).limit ≡ (seen old.stack).limit
  pub same_size : length (seen new.stack).extra ≡ length (seen old.stack).extra
  pub same_capacity : (seen new.stack).capacity ≡ (seen old.stack).capacity
  pub same_extra_capacity : (seen new.stack).extra_capacity ≡ (seen old.stack).extra_capacity

-- a transfer of a program: a return leads into one of its segments, and a call to a local entry of one
abbrev pub IsTransferOf : List (List ℕ) → Phase → Type 0
IsTransferOf program Ready = ⊤
IsTransferOf program (Entering seg entry) = is_local_entry (slice_get program seg) entry ≡ true
IsTransferOf program (Returning seg offset) = seg < length program

-- a processor of a program
pub record Suits (program : List (List ℕ)) (cpu : Cpu) : Type 0 where
  pub count : length program ≡ cpu.segments
  -- it stands in one of its segments, and goes to one
  pub current : cpu.regs.seg < length program
  pub transfer : IsTransferOf program cpu.phase

-- the segments of a valid program, with its main segment, its entry there and its data words
abbrev pub AreValid : List (List ℕ) → ℕ → ℕ → List ℕ → Type 0
AreValid program main entry globals = first_defect program main entry globals ≡ None
