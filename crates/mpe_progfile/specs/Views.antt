-- What the reader's answers say of the definition.
use Rattle.std.specs.Prelude.{map, ◌≡◌, Result, Ok, Err, MatchResult}
use Rattle.mpe_progfile.specs.declared.faults.FileFault.{FileFault}
use Rattle.mpe_progfile.specs.declared.faults.FileFault.TheVariants as fault
use Rattle.mpe_progfile.specs.declared.reader.Reader.{Reader}
use Rattle.mpe_progfile.specs.declared.file.Parts as file
use Rattle.hp_program.specs.declared.program.Program.{Program}
use Rattle.hp_program.specs.Programs.{segments_of}
use Rattle.mpe_progfile.specs.Reading.{Cursor, Parts}

-- where a reader stands
abbrev pub cursor_of : Reader → Cursor
cursor_of r = record { at = r.at; left = r.left.now }

-- a fault is that of the definition; want of memory says nothing
abbrev pub Fails : {A : Type 0} → FileFault → Result A FileFault → Type 0
Fails fault.NoMemory read = Unit {0}
Fails f read = read ≡ Err f

-- what was read, and where the reader stands behind it
abbrev pub Gives : {A B : Type 0} → (A → B) → Result A FileFault → Cursor → Result (B × Cursor) FileFault → Type 0
Gives view given there read = MatchResult given (λ a. read ≡ Ok (view a, there)) (λ f. Fails f read)

-- the parts that were read
abbrev pub parts_of : file.Parts → Parts
parts_of p = record { main = p.main; entry = p.entry; globals = p.globals.items; segments = map (λ s. s.items) p.segments.items }

-- a program's parts
abbrev pub program_parts : Program → Parts
program_parts p = record { main = p.main; entry = p.entry; globals = p.globals.items; segments = segments_of p }

-- what a file is read as, as a program
abbrev pub Answers : Result Program FileFault → Result Parts FileFault → Type 0
Answers given read = MatchResult given (λ p. read ≡ Ok (program_parts p)) (λ f. Fails f read)
