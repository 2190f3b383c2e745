-- What each module keeps by its type: how many words it has, and where its fixes stand and what they name.
use Rattle.std.specs.Prelude.{ℕ, ◌+◌, ◌==◌, ◌&&◌, nat_le, nat_lt, Bool, true, if◌then◌else◌, List, [], ◌∷◌}
use Rattle.spl_branch.specs.declared.modules.Fix.{Fix}
use Rattle.spl_branch.specs.declared.modules.FixKind.TheVariants as kind

-- a size is the number of words, or above 16,383 that of a module without words
abbrev pub is_sized : ℕ → ℕ → Bool
is_sized size words = if nat_le size 16383 then size == words else size == 16384 && words == 0

-- fixes stand at words below `size`, in order of offset, each behind the one before and the first from `from` on
abbrev pub rises : ℕ → ℕ → List Fix → Bool
rises from size [] = true
rises from size (f ∷ fs) = (nat_le from f.offset && nat_lt f.offset size) && rises (f.offset + 1) size fs

-- a fix names one of so many defines, one of so many wants, or an offset
abbrev pub has_aim : ℕ → ℕ → Fix → Bool
has_aim defines wants f = elim f.kind [
  | kind.Define ↦ nat_lt f.index defines
  | kind.Want ↦ nat_lt f.index wants
  | kind.Place ↦ nat_le f.index 16383
]
