-- A loop that makes a mark for each entry.
use Rattle.std.proofs.Common.{map}
use Rattle.spl_tree.specs.Views.{letters}
use Rattle.spl_module_code.specs.spl_modules.Made.{made_of}
use Rattle.spl_unit_codes.proofs.Begins.{Laid}
use Rattle.spl_unit_codes.proofs.growing.begun.Given as goal

-- those so far
abbrev pub invariant-loop : goal.invariant-loop
invariant-loop l = Laid (letters l.name) (map made_of l.entries) l.initial.code.main l.counter l.code
