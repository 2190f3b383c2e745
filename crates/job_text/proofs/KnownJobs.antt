-- Texts worked by hand.
use Rattle.std.proofs.Common.{◌≡◌, true, false, [], ◌∷◌, refl}
use Rattle.std.specs.Prelude.{codes, Ok, Err}
use Rattle.job_lines.specs.Lines.{lines}
use Rattle.job_lines.specs.Numbers.{number_in}
use Rattle.job_lines.specs.Names.{is_program_name}
use Rattle.job_lines.specs.Sizes.{option, options}
use Rattle.job_lines.specs.Commands.{command_of}
use Rattle.job_lines.specs.Says.{command_said, said_at}
use Rattle.job_text.specs.States.{after}
use Rattle.job_text.specs.Rules.{broken}
use Rattle.job_text.specs.Verdicts.{verdict_from, verdict}

-- no line at all: line 1 is no `!JOB`, and that is less than a missing end
empty : verdict false [] ≡ Err (record { line = 1; rule = 1 })
unfolding verdict verdict_from lines broken
empty = refl

-- no end: a line feed at the end begins no line more
no_end : verdict false (codes "!JOB\n") ≡ Err (record { line = 2; rule = 13 })
unfolding verdict verdict_from lines broken after said_at command_said command_of
no_end = refl

-- a small job to be prepared
prepared : verdict true (codes "!JOB\n!PROGRAM a\n!UNIT\nX\n!EOJ") ≡ Ok (record {
  memory = 65536;
  quantum = 100;
  turns = 100000;
  stats = false;
  programs = record { name = codes "A"; units = codes "X\n" ∷ [] } ∷ [];
  sessions = [];
})
unfolding verdict verdict_from lines broken after said_at command_said command_of is_program_name
prepared = refl

-- and one to be run
ran : verdict false (codes "!JOB\n!TURNS 3\n!PROGRAM A\n!UNIT\n!SESSION A STACK=64\n!!X\n!EOJ\n") ≡ Ok (record {
  memory = 65536;
  quantum = 100;
  turns = 3;
  stats = false;
  programs = record { name = codes "A"; units = [] ∷ [] } ∷ [];
  sessions = record { program = 0; stack = 64; extra = 0; room = 16384; lines = codes "!X" ∷ [] } ∷ [];
})
unfolding verdict verdict_from lines broken after said_at command_said command_of is_program_name number_in option options
ran = refl

-- the earlier line counts, though its rule is greater
earlier : verdict false (codes "!JOB\nX\n!RUN\n") ≡ Err (record { line = 2; rule = 10 })
unfolding verdict verdict_from lines broken after said_at command_said command_of
earlier = refl

-- and at one line the least rule: a number out of its limits behind a program that has no unit
least : verdict false (codes "!JOB\n!PROGRAM A\n!MEMORY 0\n") ≡ Err (record { line = 3; rule = 3 })
unfolding verdict verdict_from lines broken after said_at command_said command_of is_program_name number_in
least = refl

-- a line behind the end is only that
late : verdict true (codes "!JOB\n!PROGRAM A\n!UNIT\n!EOJ\n!RUN\n") ≡ Err (record { line = 5; rule = 13 })
unfolding verdict verdict_from lines broken after said_at command_said command_of is_program_name
late = refl
