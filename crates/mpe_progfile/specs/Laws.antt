-- The laws of program files.
use Rattle.std.specs.Prelude.{ℕ, ◌≡◌, List, [], ◌++◌, Result, Ok, MatchResult}
use Rattle.hp_program.specs.declared.program.Program.{Program}
use Rattle.mpe_progfile.specs.declared.faults.FileFault.{FileFault}
use Rattle.mpe_progfile.specs.declared.faults.FileFault.TheVariants as fault
use Rattle.mpe_progfile.specs.Files.{IsFile}
use Rattle.mpe_progfile.specs.Reading.{Parts, read_file}
use Rattle.mpe_progfile.specs.Views.{program_parts}

-- the answer is a program of these parts, unless memory is wanting
abbrev pub GivesParts : Result Program FileFault → Parts → Type 0
GivesParts given parts = MatchResult given (λ p. program_parts p ≡ parts) (λ f. f ≡ fault.NoMemory)

-- the answer is this fault, unless memory is wanting
abbrev pub IsRefused : FileFault → FileFault → Type 0
IsRefused f fault.NoMemory = Unit {0}
IsRefused f g = g ≡ f

abbrev pub GivesFault : Result Program FileFault → FileFault → Type 0
GivesFault given f = MatchResult given (λ p. ⊥) (λ g. IsRefused f g)

-- a program's file is read as that program
abbrev pub FilesAreRead : Type 0
FilesAreRead = (p : Program) (bytes : List ℕ) → IsFile p bytes → read_file bytes ≡ Ok (program_parts p)

-- no file is a proper front of another
abbrev pub FilesAreNoFronts : Type 0
FilesAreNoFronts = (p q : Program) (front rest : List ℕ) → IsFile p front → IsFile q (front ++ rest) → rest ≡ []

-- a file is that of one program
abbrev pub FilesAreOfOneProgram : Type 0
FilesAreOfOneProgram = (p q : Program) (bytes : List ℕ) → IsFile p bytes → IsFile q bytes → program_parts p ≡ program_parts q
