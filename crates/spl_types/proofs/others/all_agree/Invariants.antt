use Rattle.std.proofs.Common.{◌≡◌, map}
use Rattle.spl_tree.specs.Views.{letters}
use Rattle.spl_sorts.specs.Profiles.{profile_of}
use Rattle.spl_types.specs.HeadTables.{heads_of}
use Rattle.spl_types.specs.OtherUnits.{all_agreed}
use Rattle.spl_types.proofs.OtherLaws.{left}
use Rattle.spl_types.proofs.others.all_agree.Given as goal

-- what is left decides
abbrev pub invariant-loop-unit : goal.invariant-loop-unit
invariant-loop-unit l =
    left l.units l.unit-index (letters l.name) (profile_of l.profile) ≡ all_agreed (map heads_of l.units) (letters l.name) (profile_of l.profile)
