-- Sums of constants, and the items of an EQUATE as the rules have them.
use Rattle.std.specs.Prelude.{ℕ, ◌*◌, ◌^◌, ℤ, pos, neg_ℤ, ◌≤ℤ◌, Bool, map, Vec}
use Rattle.std.specs.Global.{Global}
use Rattle.spl_tree.specs.declared.names_and_places.Name.{Name}
use Rattle.spl_tree.specs.declared.names_and_places.At.{At}
use Rattle.spl_tree.specs.declared.expressions.Const.{Const}
use Rattle.spl_tree.specs.DeclarationTrees.{Equal}
use Rattle.spl_tree.specs.Views.{letters}
use Rattle.spl_tree.specs.Spells.{term}

-- a name with its sum
abbrev pub equal_tree : Name × At × Vec (Bool × Const) Global → Equal
equal_tree e = record { name = letters e.0; at = e.1; terms = map term e.2.items }

-- a sum of so many values of 64 bits
abbrev pub IsSumOf : ℕ → ℤ → Type 0
IsSumOf n s = (neg_ℤ (pos (n * 2 ^ 63)) ≤ℤ s) × (s ≤ℤ pos (n * 2 ^ 63))
