-- What several calls in a row leave, and so what a whole step does to the registers in use, the fills and the spills.
use Rattle.std.proofs.Common.{◌≡◌, ℕ, ◌+◌, ◌-◌, ◌%◌, ◌^◌, ◌<◌, ◌≤◌, min, max, List, [], ◌∷◌, ◌++◌, length, refl, sym, arith}
use Rattle.std.proofs.lemmas.Grind.{common_steps}
use Rattle.hp_tos.specs.Seen.{Seen}
use Rattle.hp_tos.specs.Steps.{pushed_all, pushed_together, stepped}
use Rattle.hp_tos.specs.Calls.{filled, pushed, popped, dropped, replaced}

-- words that stand in registers need no fill
pub filled-there : (n : ℕ) (s : Seen) → n ≤ s.in_registers → filled n s ≡ s
filled-there n s there = grind arith

-- a word that stands in a register is popped as it is dropped
pub popped-there : (s : Seen) → 1 ≤ s.in_registers → popped s ≡ dropped 1 s
popped-there s there = grind arith

-- words dropped one after the other are dropped together
pub dropped-dropped : (m n : ℕ) (s : Seen) → dropped m (dropped n s) ≡ dropped (n + m) s
dropped-dropped m n s = grind (arith, common_steps)

-- words pushed one after the other stand above the others
pub words-pushed_all : (ws : List ℕ) (s : Seen) → (pushed_all ws s).words ≡ s.words ++ ws
words-pushed_all [] s = grind (arith, common_steps)
words-pushed_all (w ∷ ws) s = let later = words-pushed_all ws (pushed w s) in grind (arith, common_steps)

-- at most four words stay in registers
pub in_registers-pushed_all : (ws : List ℕ) (s : Seen) → s.in_registers ≤ 4
    → (pushed_all ws s).in_registers ≡ min 4 (s.in_registers + length ws)
in_registers-pushed_all [] s few = grind arith
in_registers-pushed_all (w ∷ ws) s few = let later = in_registers-pushed_all ws (pushed w s) in grind arith

-- what is above four is spilled
pub spills-pushed_all : (ws : List ℕ) (s : Seen) → s.in_registers ≤ 4 → s.spills < 2 ^ 64
    → (pushed_all ws s).spills ≡ (s.spills + (s.in_registers + length ws - 4)) % 2 ^ 64
spills-pushed_all [] s few fits = grind arith
spills-pushed_all (w ∷ ws) s few fits = let later = spills-pushed_all ws (pushed w s) in grind arith

-- after a step those stand in registers that stood there or were needed, less those taken, with those pushed: at most 4
pub in_registers-stepped : (n : ℕ) (ws : List ℕ) (s : Seen) → s.in_registers ≤ 4 → n ≤ 4
    → (stepped n ws s).in_registers ≡ min 4 (max s.in_registers n - n + length ws)
in_registers-stepped n ws s few small =
    let pushes = in_registers-pushed_all ws (dropped n (filled n s)) in grind arith

-- and what is above four was spilled
pub spills-stepped : (n : ℕ) (ws : List ℕ) (s : Seen) → s.in_registers ≤ 4 → n ≤ 4 → s.spills < 2 ^ 64
    → (stepped n ws s).spills ≡ (s.spills + (max s.in_registers n - n + length ws - 4)) % 2 ^ 64
spills-stepped n ws s few small fits =
    let pushes = spills-pushed_all ws (dropped n (filled n s)) in grind arith

-- words pushed one after the other are pushed together
pub pushed_all-together : (ws : List ℕ) (s : Seen) → s.in_registers ≤ 4 → s.spills < 2 ^ 64
    → pushed_all ws s ≡ pushed_together ws s
pushed_all-together [] s few fits = grind (arith, common_steps)
pushed_all-together (w ∷ ws) s few fits =
    let later = pushed_all-together ws (pushed w s) (omega arith) (grind arith) in grind (arith, common_steps)

-- words for which registers are free stand there as they are pushed: none is spilled
pub pushed_all-free : (ws : List ℕ) (s : Seen) → s.in_registers + length ws ≤ 4
    → pushed_all ws s ≡ record s { words = s.words ++ ws; in_registers = s.in_registers + length ws }
pushed_all-free [] s free = grind (arith, common_steps)
pushed_all-free (w ∷ ws) s free = let later = pushed_all-free ws (pushed w s) (omega arith) in grind (arith, common_steps)

-- so as many words or fewer in place of words that stand in registers are those taken away and these pushed
pub replaced-pushed : (n : ℕ) (ws : List ℕ) (s : Seen) → s.in_registers ≤ 4 → n ≤ s.in_registers → length ws ≤ n
    → replaced n ws s ≡ pushed_all ws (dropped n s)
replaced-pushed n ws s few there fewer = sym (pushed_all-free ws (dropped n s) (omega arith))

-- a push fills nothing
pub fills-pushed_all : (ws : List ℕ) (s : Seen) → (pushed_all ws s).fills ≡ s.fills
fills-pushed_all [] s = refl
fills-pushed_all (w ∷ ws) s = fills-pushed_all ws (pushed w s)

-- so a step fills what was wanting in registers
pub fills-stepped : (n : ℕ) (ws : List ℕ) (s : Seen) → s.fills < 2 ^ 64
    → (stepped n ws s).fills ≡ (s.fills + (n - s.in_registers)) % 2 ^ 64
fills-stepped n ws s fits = let pushes = fills-pushed_all ws (dropped n (filled n s)) in grind arith
