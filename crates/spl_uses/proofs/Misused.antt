-- Which names are misused, case by case.
use Rattle.std.proofs.Common.{◌≡◌, ℕ, not, Bool, true, false, Option, Some, None, refl}
use Rattle.spl_sorts.specs.spl_meaning.Names as n
use Rattle.spl_sorts.specs.spl_meaning.Names.{Sort}
use Rattle.spl_sorts.specs.spl_meaning.ExpressionRules.{index_fits, is_misused}

abbrev by_sort : Option Sort → ℕ → Bool
by_sort None given = true
by_sort (Some n.unknown) given = false
by_sort (Some n.label) given = true
by_sort (Some (n.intrinsic i)) given = false
by_sort (Some (n.procedure p)) given = false
by_sort (Some (n.subroutine p)) given = false
by_sort s given = not (index_fits s given)

pub misused_by : (s : Option Sort) (given : ℕ) → is_misused s given ≡ by_sort s given
unfolding is_misused
misused_by s given = refl

pub ruleset misused = misused_by
