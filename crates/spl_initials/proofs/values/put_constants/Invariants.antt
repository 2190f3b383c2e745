-- A loop over constants.
use Rattle.std.proofs.Common.{◌≡◌, map, drop}
use Rattle.spl_tree.specs.Views as trees
use Rattle.spl_sorts.specs.spl_meaning.Names as n
use Rattle.spl_sorts.specs.spl_meaning.Places.{put_values}
use Rattle.spl_sorts.specs.Tables.{names_of}
use Rattle.spl_initials.specs.Memory.{memory_of}
use Rattle.spl_initials.proofs.values.put_constants.Given as goal

-- with the values from here on the words are those with all
abbrev pub invariant-loop-j : goal.invariant-loop-j
invariant-loop-j l =
    put_values l.kind l.address l.j (map (n.constant_or_zero (names_of l.names)) (map trees.constant (drop l.j l.values))) (memory_of l.words)
    ≡ put_values l.kind l.address 0 (map (n.constant_or_zero (names_of l.names)) (map trees.constant l.values)) (memory_of l.initial.words)
