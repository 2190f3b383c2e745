-- Lines, words and commands worked by hand.
use Rattle.std.proofs.Common.{◌≡◌, true, false, [], ◌∷◌, Some, None, refl}
use Rattle.std.specs.Prelude.{codes}
use Rattle.job_lines.specs.declared.settings.Setting.TheVariants.{Memory}
use Rattle.job_lines.specs.declared.place.Place.TheVariants.{Start, Outside, InUnit, InSession, Ended}
use Rattle.job_lines.specs.Lines.{lines, words}
use Rattle.job_lines.specs.Numbers.{number_in}
use Rattle.job_lines.specs.Names.{is_program_name}
use Rattle.job_lines.specs.Sizes.{no_sizes, option, options}
use Rattle.job_lines.specs.Commands.{job, setting, program, command_of}
use Rattle.job_lines.specs.Says.{nothing, stray, late, terminal_line, command, wrong, command_said, said_at}

-- a line feed at the end begins no line more
fed : lines (codes "A\n\nB\n") ≡ codes "A" ∷ [] ∷ codes "B" ∷ []
unfolding lines
fed = refl

-- one carriage return is dropped before a line feed, and none at the end of the text
returned : lines (65 ∷ 13 ∷ 13 ∷ 10 ∷ 66 ∷ 13 ∷ []) ≡ (65 ∷ 13 ∷ []) ∷ (66 ∷ 13 ∷ []) ∷ []
unfolding lines
returned = refl

none : lines [] ≡ []
unfolding lines
none = refl

parted : words (codes " !A  B\t") ≡ codes "!A" ∷ codes "B" ∷ []
parted = refl

-- ten digits are a number, eleven are none
ten_digits : number_in (codes "0000000012") ≡ Some 12
unfolding number_in
ten_digits = refl

eleven_digits : number_in (codes "00000000012") ≡ None
unfolding number_in
eleven_digits = refl

no_digits : number_in [] ≡ None
unfolding number_in
no_digits = refl

signed : number_in (codes "+1") ≡ None
unfolding number_in
signed = refl

eight_letters : is_program_name (codes "ABCDEFG8") ≡ true
unfolding is_program_name
eight_letters = refl

nine_letters : is_program_name (codes "ABCDEFGH9") ≡ false
unfolding is_program_name
nine_letters = refl

-- options in any order, each once
given : options no_sizes (codes "PRINT=7" ∷ codes "STACK=64" ∷ []) ≡ Some (record { stack = Some 64; extra = None; print = Some 7 })
unfolding options option number_in
given = refl

given_twice : options no_sizes (codes "STACK=64" ∷ codes "STACK=64" ∷ []) ≡ None
unfolding options option number_in
given_twice = refl

-- numbers are taken whatever their limits
memory : command_of (codes "!MEMORY" ∷ codes "9999999999" ∷ []) ≡ Some (setting Memory 9999999999)
unfolding command_of number_in
memory = refl

-- the name of a program is any word
named : command_of (codes "!PROGRAM" ∷ codes "STACK=5" ∷ []) ≡ Some (program (codes "STACK=5"))
unfolding command_of
named = refl

parted_mark : command_of (codes "!" ∷ codes "JOB" ∷ []) ≡ None
unfolding command_of
parted_mark = refl

-- in either case
in_capitals : said_at Start (codes "!job") ≡ command job
unfolding said_at command_said command_of
in_capitals = refl

-- two marks in a session, and in a unit
two_marks : said_at InSession (codes "!!X") ≡ terminal_line (codes "!X")
unfolding said_at
two_marks = refl

two_marks_in_unit : said_at InUnit (codes "!!X") ≡ wrong
unfolding said_at command_said command_of
two_marks_in_unit = refl

-- blanks in front make a command text
blank_in_front : said_at Outside (codes " !UNIT") ≡ stray
unfolding said_at
blank_in_front = refl

blanks : said_at Ended (codes " \t") ≡ nothing
unfolding said_at
blanks = refl

behind_the_end : said_at Ended (codes "!EOJ") ≡ late
unfolding said_at
behind_the_end = refl
