-- The programs so far are made of the texts so far.
use Rattle.std.proofs.Common.{map, take}
use Rattle.job_gen.specs.job_text.Views.{text_value}
use Rattle.hp3000_top.specs.Programs.{AreMade}
use Rattle.hp3000_top.proofs.programs.programs_of.Given as goal

abbrev pub invariant-loop-text : goal.invariant-loop-text
invariant-loop-text l = AreMade (map text_value (take l.text-index l.texts)) l.programs.items
