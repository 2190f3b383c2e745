use Rattle.std.proofs.Common.{◌≡◌, map}
use Rattle.spl_types.specs.HeadTables.{heads_of}
use Rattle.spl_types.proofs.CheckLaws.{bodies_so_far}
use Rattle.spl_types.proofs.checking.all_bodies.Given as goal

-- the procedures of the units so far
abbrev pub invariant-loop-unit : goal.invariant-loop-unit
invariant-loop-unit l = map heads_of l.all.items ≡ bodies_so_far l.units l.unit-index
