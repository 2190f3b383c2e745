-- What a `Stack` stands for.
use Rattle.hp_tos.specs.declared.stack.Stack.{Stack}
use Rattle.hp_tos.specs.Representation.{seen_of}
use Rattle.hp_tos.specs.Seen.{Seen}

-- the one list of words with the numbers of registers, fills and spills
abbrev pub seen : Stack → Seen
seen s = seen_of s.memory s.sm s.top.items s.fills s.spills
