-- Why an input is refused: one line.
use Rattle.std.specs.Prelude.{ℕ, ◌+◌, List, [], ◌∷◌, codes}
use Rattle.std.specs.Fmt.{decimal}
use Rattle.spl_tree.specs.declared.names_and_places.At.{At}
use Rattle.spl_tree.specs.FaultKinds.{kind_name}
use Rattle.job_report.specs.declared.refusals.UnitRefusal.{UnitRefusal}
use Rattle.job_report.specs.declared.refusals.UnitRefusal.TheVariants.{Text, Rule, Limit}
use Rattle.job_report.specs.declared.refusals.ModulesRefusal.{ModulesRefusal}
use Rattle.job_report.specs.declared.refusals.ModulesRefusal.TheVariants.{NoMain, TwoMains, Doubled, Unresolved, SegmentsFull, EntriesFull, SegmentFull}
use Rattle.job_report.specs.declared.refusals.FileRefusal.{FileRefusal}
use Rattle.job_report.specs.declared.refusals.FileRefusal.TheVariants.{Truncated, Head, Segment, Trailing, Label}
use Rattle.job_report.specs.declared.refusals.Refusal.{Refusal}
use Rattle.job_report.specs.declared.refusals.Refusal.TheVariants as why
use Rattle.job_report.specs.Lines.{line}

-- what is wrong at a place of a unit
abbrev pub unit_word : UnitRefusal → List ℕ
unit_word (Text kind) = kind_name kind
unit_word (Rule r) = codes "RULE "
unit_word (Limit k) = codes "LIMIT "

-- the number of a rule or a limit; nothing of what has none
abbrev pub unit_number : UnitRefusal → List ℕ
unit_number (Rule r) = decimal r
unit_number (Limit k) = decimal k
unit_number _ = []

-- why modules make no program
abbrev pub modules_word : ModulesRefusal → List ℕ
modules_word NoMain = codes "NOMAIN"
modules_word TwoMains = codes "TWOMAINS"
modules_word (Doubled name) = codes "DOUBLED "
modules_word (Unresolved name) = codes "UNRESOLVED "
modules_word SegmentsFull = codes "SEGMENTSFULL"
modules_word (EntriesFull segment) = codes "ENTRIESFULL "
modules_word (SegmentFull segment) = codes "SEGMENTFULL "

-- the name that is told; nothing of what has none
abbrev pub modules_name : ModulesRefusal → List ℕ
modules_name (Doubled name) = name.text.items
modules_name (Unresolved name) = name.text.items
modules_name (EntriesFull segment) = segment.text.items
modules_name (SegmentFull segment) = segment.text.items
modules_name _ = []

-- what is wrong at a byte of a program file
abbrev pub file_word : FileRefusal → List ℕ
file_word Truncated = codes "TRUNCATED"
file_word Head = codes "HEAD"
file_word Segment = codes "SEGMENT"
file_word Trailing = codes "TRAILING"
file_word Label = codes "LABEL"

-- a line of the job, counted from 1, breaks a rule
abbrev pub job_refused : ℕ → ℕ → List ℕ
job_refused l r = line (codes "REFUSED JOB LINE " ∷ decimal l ∷ codes " RULE " ∷ decimal r ∷ [])

-- a unit of a program, at its place
abbrev pub unit_refused : List ℕ → At → UnitRefusal → List ℕ
unit_refused program at fault =
    line (codes "REFUSED PROGRAM " ∷ program ∷ codes " UNIT " ∷ decimal at.unit ∷ codes " LINE " ∷ decimal at.line
    ∷ codes " COLUMN " ∷ decimal at.column ∷ codes " " ∷ unit_word fault ∷ unit_number fault ∷ [])

-- the modules of a program
abbrev pub modules_refused : List ℕ → ModulesRefusal → List ℕ
modules_refused program fault =
    line (codes "REFUSED PROGRAM " ∷ program ∷ codes " SEGMENTER " ∷ modules_word fault ∷ modules_name fault ∷ [])

-- the stack of a session, which is counted from 0 and told from 1
abbrev pub stack_refused : ℕ → ℕ → ℕ → List ℕ
stack_refused session need given =
    line (codes "REFUSED STACK SESSION " ∷ decimal (session + 1) ∷ codes " NEED " ∷ decimal need ∷ codes " GIVEN " ∷ decimal given ∷ [])

-- the memory
abbrev pub memory_refused : ℕ → ℕ → List ℕ
memory_refused need given = line (codes "REFUSED MEMORY NEED " ∷ decimal need ∷ codes " GIVEN " ∷ decimal given ∷ [])

-- a program file, at a byte
abbrev pub file_refused : FileRefusal → ℕ → List ℕ
file_refused fault byte = line (codes "REFUSED FILE " ∷ file_word fault ∷ codes " " ∷ decimal byte ∷ [])

-- the line of each refusal
abbrev pub refused : Refusal → List ℕ
refused (why.Job l r) = job_refused l r
refused (why.Unit program at fault) = unit_refused program.text.items at fault
refused (why.Modules program fault) = modules_refused program.text.items fault
refused (why.Stack session need given) = stack_refused session need given
refused (why.Memory need given) = memory_refused need given
refused (why.File fault byte) = file_refused fault byte
