-- Modules that are picked, worked by hand: the segments of a unit are B and A, with the numbers 0 and 1.
use Rattle.std.specs.Prelude.{ℕ, List, [], ◌∷◌, Option, Some, None, codes, refl}
use Rattle.spl_module_code.specs.spl_meaning.Names.{find}
use Rattle.spl_branch.specs.declared.modules.Module.{Module}
use Rattle.spl_module_code.specs.Modules.{numbered}
use Rattle.spl_unit_codes.specs.Slots.{Picked}
use Rattle.spl_unit_codes.specs.Slots.{TakenAt as at}
use Rattle.spl_unit_codes.specs.Slots.{Picked as p}

abbrev numbers : List ℕ → Option ℕ
numbers = find (numbered 0 (codes "B" ∷ codes "A" ∷ []))

-- A is used first, and once more, and B behind it
in_order_of_use : (b a : Module) → Picked numbers (Some b ∷ Some a ∷ []) (codes "A" ∷ codes "A" ∷ codes "B" ∷ []) (a ∷ b ∷ [])
in_order_of_use b a = p.more (a ∷ []) at.some (p.more [] at.empty (p.more (b ∷ []) at.some p.none))

-- another unit uses C, and this one has no body in B
not_of_this_unit : (a : Module) → Picked numbers (None ∷ Some a ∷ []) (codes "C" ∷ codes "B" ∷ codes "A" ∷ []) (a ∷ [])
not_of_this_unit a = p.more [] (refl, refl) (p.more [] at.empty (p.more (a ∷ []) at.some p.none))
