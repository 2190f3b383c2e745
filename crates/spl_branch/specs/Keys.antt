-- Names that are wanted, as they are found: by their letters and their kind.
use Rattle.std.specs.Prelude.{ℕ, Bool, List}
use Rattle.spl_branch.specs.declared.modules.Want.{Want}
use Rattle.spl_branch.specs.declared.wants.Key.{Key}

-- the letters of a want, and whether it is an intrinsic
abbrev pub asked : Want → List ℕ × Bool
asked w = (w.name.text.items, w.gate)

-- the letters of a key, and whether it is an intrinsic's
abbrev pub seen : Key → List ℕ × Bool
seen k = (k.name.items, k.gate)
