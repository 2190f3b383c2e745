-- Numbers that are drawn one behind the other: each is made of the one before it.
use Rattle.std.specs.Prelude.{ℕ, ◌+◌, ◌*◌, ◌%◌}

-- the number behind x, of sixteen bits
unfoldable pub next : ℕ → ℕ
next x = (25173 * x + 13849) % 65536

-- what a draw behind x gives: the last three digits of the next number
abbrev pub drawn : ℕ → ℕ
drawn x = next x % 1000
