-- The table of DEFINEs as a list.
use Rattle.std.specs.Prelude.{ℕ, map, Vec}
use Rattle.std.specs.declared.alloc.Global.{Global}
use Rattle.arrayvec.specs.ArrayVec.{ArrayVec}
use Rattle.spl_tree.specs.declared.tokens.What.{What}
use Rattle.spl_cuts.specs.Defines.{Define}
use Rattle.spl_pieces.specs.SignViews.{sign_of}

-- a name with what it stands for
abbrev pub define_of : ArrayVec ℕ × Vec What Global → Define
define_of e = record { name = e.0.items; signs = map sign_of e.1.items }
