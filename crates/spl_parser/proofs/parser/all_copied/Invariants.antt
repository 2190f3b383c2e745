use Rattle.std.proofs.Common.{◌≡◌, map, take}
use Rattle.spl_tree.specs.Views.{letters}
use Rattle.spl_parser.proofs.parser.all_copied.Given as goal

-- the names so far
abbrev pub invariant-loop-name : goal.invariant-loop-name
invariant-loop-name l = map letters l.copies.items ≡ map letters (take l.name-index l.names)
