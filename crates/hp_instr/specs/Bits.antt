-- The bits of a sixteen-bit word, numbered as the manuals do: bit 0 is the most significant, bit 15 the least.
use Rattle.std.specs.Prelude.{ℕ, ◌+◌, ◌-◌, ◌/◌, ◌%◌, ◌^◌, ◌==◌, Bool}

-- bits `first` to `last` of a word, read as a number
abbrev pub bits : ℕ → ℕ → ℕ → ℕ
bits first last w = w / 2 ^ (15 - last) % 2 ^ (last + 1 - first)

-- whether a bit of a word is one
abbrev pub bit : ℕ → ℕ → Bool
bit k w = bits k k w == 1
