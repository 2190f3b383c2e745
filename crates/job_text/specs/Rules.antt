-- The rules of job texts: each is one test of a line, over what the lines before it say.
use Rattle.std.specs.Prelude.{ℕ, ◌+◌, ◌*◌, ◌==◌, Bool, true, false, not, ◌&&◌, ◌||◌, nat_lt, nat_le, if◌then◌else◌, List, [], ◌∷◌, length, Option, None, Some, is_some}
use Rattle.job_lines.specs.declared.settings.Setting.TheVariants.{Quantum, Turns}
use Rattle.job_lines.specs.declared.place.Place.{Place}
use Rattle.job_lines.specs.declared.place.Place.TheVariants.{Start, Ended}
use Rattle.job_lines.specs.Names.{is_program_name}
use Rattle.job_lines.specs.Settings.{setting_fits, setting_in, value_of}
use Rattle.job_lines.specs.Sizes.{sizes_fit}
use Rattle.job_lines.specs.Commands.{job, setting, statistics, program, unit, session, end_of_job}
use Rattle.job_lines.specs.Says.{Said, stray, late, command, wrong, end_of_text}
use Rattle.job_text.specs.States.{TextValue, State, program_number}

-- no line was read yet
abbrev pub is_start : Place → Bool
is_start Start = true
is_start _ = false

abbrev pub is_ended : Place → Bool
is_ended Ended = true
is_ended _ = false

abbrev pub is_empty : {A : Type 0} → List A → Bool
is_empty [] = true
is_empty _ = false

-- 1: line 1 is `!JOB`
abbrev pub opens : State → Said → Bool
opens s (command job) = true
opens s _ = not (is_start s.place)

-- 2: a command is one of the table, with the words that it has there; no option stands twice
abbrev pub is_understood : State → Said → Bool
is_understood s wrong = false
is_understood s _ = true

-- 3: a number is within its limits
abbrev pub is_in_limits : State → Said → Bool
is_in_limits s (command (setting k n)) = setting_fits k n
is_in_limits s (command (session name sizes)) = sizes_fit sizes
is_in_limits s _ = true

-- 4: a setting stands once, and before the first program; `!JOB` stands once
abbrev pub is_in_time : State → Said → Bool
is_in_time s (command job) = is_start s.place
is_in_time s (command (setting k n)) = not (is_some (setting_in k s.settings)) && is_empty s.programs
is_in_time s (command statistics) = not s.stats && is_empty s.programs
is_in_time s _ = true

-- 5: a program's name is one, and not taken
abbrev pub is_well_named : State → Said → Bool
is_well_named s (command (program name)) = is_program_name name && not (is_some (program_number name s.programs))
is_well_named s _ = true

-- the units of the last program
abbrev pub last_units : List TextValue → List (List ℕ)
last_units [] = []
last_units (p ∷ []) = p.units
last_units (p ∷ q ∷ ps) = last_units (q ∷ ps)

-- 6: at most 16 programs, and 32 units of each
abbrev pub has_room : State → Said → Bool
has_room s (command (program name)) = nat_lt (length s.programs) 16
has_room s (command unit) = nat_lt (length (last_units s.programs)) 32
has_room s _ = true

-- the last program has a unit, if there is a program
abbrev pub is_given : List TextValue → Bool
is_given programs = is_empty programs || not (is_empty (last_units programs))

-- 7: a unit is one of a program, and any other command behind a program comes behind a unit of it
abbrev pub has_units : State → Said → Bool
has_units s (command unit) = not (is_empty s.programs)
has_units s (command c) = is_given s.programs
has_units s wrong = is_given s.programs
has_units s _ = true

-- 8: a session names a program of the job
abbrev pub names_program : State → Said → Bool
names_program s (command (session name sizes)) = is_some (program_number name s.programs)
names_program s _ = true

-- 9: at most 16 sessions
abbrev pub has_seat : State → Said → Bool
has_seat s (command (session name sizes)) = nat_lt (length s.sessions) 16
has_seat s _ = true

-- 10: programs and units come before sessions, and text stands in units and sessions
abbrev pub is_in_order : State → Said → Bool
is_in_order s (command (program name)) = is_empty s.sessions
is_in_order s (command unit) = is_empty s.sessions
is_in_order s stray = false
is_in_order s _ = true

-- 11: at the end a job to be run has a session, and one to be prepared one program and no session
abbrev pub fits_its_use : Bool → State → Said → Bool
fits_its_use prep s (command end_of_job) = if prep then length s.programs == 1 && is_empty s.sessions else not (is_empty s.sessions)
fits_its_use prep s _ = true

-- 12: at the end the turns times the quantum are at most 50,000,000
abbrev pub is_short : State → Said → Bool
is_short s (command end_of_job) = nat_le (value_of Turns s.settings * value_of Quantum s.settings) 50000000
is_short s _ = true

-- 13: the text has the end of a job, and only blanks behind it
abbrev pub closes : State → Said → Bool
closes s late = false
closes s end_of_text = is_ended s.place
closes s _ = true

-- whether each rule is kept, in order of number
abbrev pub kept : Bool → State → Said → List Bool
kept prep s said =
    opens s said ∷ is_understood s said ∷ is_in_limits s said ∷ is_in_time s said ∷ is_well_named s said ∷ has_room s said ∷ has_units s said
    ∷ names_program s said ∷ has_seat s said ∷ is_in_order s said ∷ fits_its_use prep s said ∷ is_short s said ∷ closes s said ∷ []

-- the number of the first test that fails, if one does, counted from n
abbrev pub first_failing : ℕ → List Bool → Option ℕ
first_failing n [] = None
first_failing n (true ∷ tests) = first_failing (n + 1) tests
first_failing n (false ∷ tests) = Some n

-- the least rule that a line breaks
unfoldable pub broken : Bool → State → Said → Option ℕ
broken prep s said = first_failing 1 (kept prep s said)
