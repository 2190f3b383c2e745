-- How a session ended, in words.
use Rattle.std.specs.Prelude.{ℕ, List, [], ◌∷◌, codes}
use Rattle.std.specs.Fmt.{decimal, signed_decimal}
use Rattle.hp_word.specs.declared.endings.Ending.{Ending}
use Rattle.hp_word.specs.declared.endings.Ending.TheVariants.{Running, Terminated, Quit, Trapped}
use Rattle.hp_word.specs.declared.endings.Trap.{Trap}
use Rattle.hp_word.specs.declared.endings.Trap.TheVariants.{IntegerOverflow, DivideByZero, Bounds, StackOverflow, StackUnderflow, Illegal, CodeBounds, BadEntry, OutputLimit, Mode}

-- the traps by their numbers
abbrev pub trap_number : Trap → ℕ
trap_number IntegerOverflow = 1
trap_number DivideByZero = 2
trap_number Bounds = 3
trap_number StackOverflow = 4
trap_number StackUnderflow = 5
trap_number Illegal = 6
trap_number CodeBounds = 7
trap_number BadEntry = 8
trap_number OutputLimit = 9
trap_number Mode = 10

-- and their texts
abbrev pub trap_text : Trap → List ℕ
trap_text IntegerOverflow = codes "INTEGER OVERFLOW"
trap_text DivideByZero = codes "DIVIDE BY ZERO"
trap_text Bounds = codes "BOUNDS"
trap_text StackOverflow = codes "STACK OVERFLOW"
trap_text StackUnderflow = codes "STACK UNDERFLOW"
trap_text Illegal = codes "ILLEGAL INSTRUCTION"
trap_text CodeBounds = codes "CODE BOUNDS"
trap_text BadEntry = codes "ENTRY"
trap_text OutputLimit = codes "OUTPUT LIMIT"
trap_text Mode = codes "MODE"

-- how a session ended: the number of QUIT has its sign, a trap its number and its text
abbrev pub end_pieces : Ending → List (List ℕ)
end_pieces Running = codes "RUNNING" ∷ []
end_pieces Terminated = codes "TERMINATED" ∷ []
end_pieces (Quit n) = codes "QUIT " ∷ signed_decimal n ∷ []
end_pieces (Trapped t) = codes "TRAP " ∷ decimal (trap_number t) ∷ codes " " ∷ trap_text t ∷ []
