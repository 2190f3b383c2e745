-- The two forms of a branch: one word where its target is within reach, and else a direct branch over an indirect one.
use Rattle.std.specs.Prelude.{ℕ, ◌+◌, ◌-◌, Bool, true, false, nat_lt, if◌then◌else◌}
use Rattle.hp_instr.specs.declared.instruction.Instr.{Instr}
use Rattle.hp_instr.specs.declared.instruction.Instr.TheVariants as i

-- how many words a branch reaches, forward or back
abbrev pub reach : Instr → ℕ
reach (i.Short test back d) = 31
reach (i.Branch indirect back d) = 255
reach (i.OnCode mask back d) = 31
reach (i.Loop modify back d) = 255
reach by = 0

-- the same branch with another displacement
abbrev pub aimed : Instr → Bool → ℕ → Instr
aimed (i.Short test b n) back d = i.Short test back d
aimed (i.Branch indirect b n) back d = i.Branch indirect back d
aimed (i.OnCode mask b n) back d = i.OnCode mask back d
aimed (i.Loop modify b n) back d = i.Loop modify back d
aimed by back d = by

-- the distance between two offsets
abbrev pub gap : ℕ → ℕ → ℕ
gap p t = (p - t) + (t - p)

-- the branch at p that leads to t
abbrev pub toward : Instr → ℕ → ℕ → Instr
toward by p t = aimed by (nat_lt t p) (gap p t)

-- a branch at p does not reach t
abbrev pub is_far : Instr → ℕ → ℕ → Bool
is_far by p t = nat_lt (reach by) (gap p t)

-- how many words the long form has beyond one: BR needs no other branch over it
abbrev pub more : Instr → ℕ
more (i.Branch indirect back d) = 1
more by = 3

-- how many words a branch at p to t has
abbrev pub branch_size : Instr → ℕ → ℕ → ℕ
branch_size by p t = if is_far by p t then 1 + more by else 1

-- BR over the word behind it, indirect through that word
abbrev pub through : Instr
through = i.Branch true false 1

-- BR past the two words of such a BR
abbrev pub past : Instr
past = i.Branch false false 3

-- the call of an entry
abbrev pub calling : Instr → ℕ → Instr
calling (i.Control which n) e = i.Control which e
calling by e = by
