-- The numbers after single calls, worked by hand from the rules.
use Rattle.std.proofs.Common.{◌≡◌, ℕ, replicate, [], refl}
use Rattle.hp_word.specs.declared.endings.Ending.TheVariants.{Terminated}
use Rattle.hp_word.specs.declared.endings.Trap.TheVariants.{Bounds}
use Rattle.hp_tos.specs.Seen.{Seen, made}
use Rattle.hp_rows.specs.Numbers.{Numbers}
use Rattle.mpe_gate.specs.declared.gate.Served.TheVariants.{Went, Ended, Trapped}
use Rattle.mpe_gate.specs.Serves.{serve_moved}

-- a stack of nine words in memory, with five fills and seven spills so far
abbrev flat : Seen
flat = record (made (replicate 9 0) 9 [] 0 9) { fills = 5; spills = 7 }

abbrev are : ℕ → ℕ → ℕ → Numbers
are in_registers fills spills = record { in_registers = in_registers; fills = fills; spills = spills }

-- the words of an answer stand in registers: none, one or two
answer-none : serve_moved 0 Went flat ≡ are 0 5 7
answer-none = refl

answer-word : serve_moved 1 Went flat ≡ are 1 5 7
answer-word = refl

answer-double : serve_moved 2 Went flat ≡ are 2 5 7
answer-double = refl

-- a session that has ended has no answer, and a trap comes before one is pushed
ended-none : serve_moved 0 (Ended Terminated) flat ≡ are 0 5 7
ended-none = refl

trapped-double : serve_moved 2 (Trapped Bounds) flat ≡ are 0 5 7
trapped-double = refl
