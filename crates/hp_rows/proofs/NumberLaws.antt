-- The numbers told at once are those of the single moves: words filled, taken away and pushed one by one.
use Rattle.std.proofs.Common.{◌≡◌, ℕ, ◌^◌, ◌<◌, ◌≤◌, List, length, arith}
use Rattle.hp_tos.specs.Seen.{Seen, IsSound}
use Rattle.hp_tos.specs.Calls.{filled, flushed, dropped}
use Rattle.hp_tos.specs.Steps.{pushed_all, stepped}
use Rattle.hp_tos.proofs.RegisterLaws.{in_registers-stepped, spills-stepped, fills-stepped, pushed_all-together}
use Rattle.hp_rows.specs.Numbers.{numbers, at_hand, exchanging, filling, dropping}

-- the words that are needed are those that are filled
pub numbers-filled : (n : ℕ) (s : Seen) → s.fills < 2 ^ 64 → numbers (filled n s) ≡ at_hand filling n s
numbers-filled n s fits = grind arith

-- a step that takes n words and leaves others moves the numbers so
pub numbers-stepped : (n : ℕ) (ws : List ℕ) (s : Seen) → IsSound s → n ≤ 4
    → numbers (stepped n ws s) ≡ exchanging n (length ws) (at_hand filling n s)
numbers-stepped n ws s sound small =
    let registers = in_registers-stepped n ws s sound.registers small in
    let fills = fills-stepped n ws s sound.fills in
    let spills = spills-stepped n ws s sound.registers small sound.spills in cc

-- a step that drops n words moves them so
pub numbers-dropped : (n : ℕ) (s : Seen) → IsSound s → numbers (dropped n s) ≡ exchanging n 0 (at_hand dropping n s)
numbers-dropped n s sound = grind arith

-- a step that flushes and pushes words moves them so
pub numbers-flushed : (ws : List ℕ) (s : Seen) → IsSound s
    → numbers (pushed_all ws (flushed s)) ≡ exchanging 0 (length ws) (numbers (flushed s))
numbers-flushed ws s sound = let together = pushed_all-together ws (flushed s) (omega arith) (grind arith) in grind arith
