use Rattle.std.proofs.Common.{ℕ, ◌≡◌, List, map, length}
use Rattle.spl_sorts.specs.declared.profiles.Formal.{Formal}
use Rattle.spl_sound.specs.spl_meaning.DeclarationRules as rules
use Rattle.spl_sorts.specs.Profiles.{formal_of}
use Rattle.spl_types.proofs.FormalLists.{left}
use Rattle.spl_types.proofs.alike.same_formals.Given as goal

-- what is left decides, and of both there is as much
pub record IsLeft (fs gs : List Formal) (i : ℕ) : Type 0 where
  pub answer : left fs gs i ≡ rules.same_formals (map formal_of fs) (map formal_of gs)
  pub lengths : length fs ≡ length gs

abbrev pub invariant-loop-i : goal.invariant-loop-i
invariant-loop-i l = IsLeft l.a l.b l.i
