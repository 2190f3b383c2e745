-- Transfers in two parts: which segment a phase leads to, and the registers when the transfer is finished.
use Rattle.std.specs.Prelude.{◌≡◌, ℕ, List, [], slice_get, Option, None, Some, IfSome, unwrap_or, Result, Ok, Err}
use Rattle.hp_program.specs.Valid.{label_of}
use Rattle.hp_session.specs.declared.registers.Regs.{Regs}
use Rattle.hp_calls.specs.declared.phases.Phase.{Phase}
use Rattle.hp_calls.specs.declared.phases.Phase.TheVariants.{Ready, Entering, Returning}

-- the segment to which a transfer is under way, if one is
abbrev pub destination : Phase → Option ℕ
destination Ready = None
destination (Entering seg entry) = Some seg
destination (Returning seg offset) = Some seg

-- the words of a segment that may be missing; none of one that is
abbrev pub words_in : (ℕ → Option (List ℕ)) → ℕ → List ℕ
words_in held seg = unwrap_or (held seg) []

-- the registers when the transfer is finished: in the phase's segment, at the offset that its table has for the entry, or at
-- the one that the marker had. Both are in words from the segment's start
unfoldable pub finished : (ℕ → Option (List ℕ)) → Phase → Regs → Regs
finished held Ready regs = regs
finished held (Entering seg entry) regs = record regs { seg = seg; p = label_of (words_in held seg) entry }
finished held (Returning seg offset) regs = record regs { seg = seg; p = offset }

-- a segment that must be held: if it is not, its number is the answer
abbrev pub present : ℕ → Option (List ℕ) → Result (Unit {0}) ℕ
present seg None = Err seg
present seg (Some words) = Ok tt

-- whether a transfer can be finished over a store that holds these segments, or else for which it waits
unfoldable pub arrived : (ℕ → Option (List ℕ)) → Phase → Result (Unit {0}) ℕ
arrived held Ready = Ok tt
arrived held (Entering seg entry) = present seg (held seg)
arrived held (Returning seg offset) = present seg (held seg)

-- what a store holds are segments of a program
abbrev pub HoldsOf : List (List ℕ) → (ℕ → Option (List ℕ)) → Type 0
HoldsOf segments held = (seg : ℕ) → IfSome (held seg) (λ words. slice_get segments seg ≡ Some words)
