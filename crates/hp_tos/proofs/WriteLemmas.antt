-- A write to a word in memory or in a register, as the list of both sees it.
use Rattle.std.proofs.Common.{◌≡◌, ℕ, ◌+◌, ◌-◌, ◌<◌, ◌≤◌, List, [], ◌∷◌, ◌++◌, length, take, drop, slice_set, zero, suc, refl, ap, ◌∙◌, arith}
use Rattle.std.specs.List.{refill}
use Rattle.std.proofs.lemmas.List.{take_at}
use Rattle.std.proofs.lemmas.Grind.{common_steps}
use Rattle.hp_tos.specs.declared.data.Data.{Data}
use Rattle.hp_tos.specs.Lists.{lists, stored}
use Rattle.hp_tos.specs.References.{stack_written}
use Rattle.hp_tos.specs.Representation.{seen_of}

-- a word in memory: both sides walk down to the address
written_in_memory : (room top : List ℕ) (sm address w : ℕ) → address < sm → sm ≤ length room
    → take sm (slice_set room address w) ++ top ≡ slice_set (take sm room ++ top) address w
written_in_memory room top zero address w below there = grind arith
written_in_memory [] top (suc sm) address w below there = grind arith
written_in_memory (x ∷ room) top (suc sm) zero w below there = refl
written_in_memory (x ∷ room) top (suc sm) (suc address) w below there =
    ap (λ ws. x ∷ ws) (written_in_memory room top sm address w (omega arith) (omega arith))

-- a word in a register, so many above the words in memory: both sides walk down to the registers
written_above : (room top : List ℕ) (sm i address w : ℕ) → address ≡ sm + i → sm ≤ length room
    → take sm room ++ slice_set top i w ≡ slice_set (take sm room ++ top) address w
written_above room top zero i address w is there =
    let same : i ≡ address = omega arith in ap (λ k. slice_set top k w) same
written_above [] top (suc sm) i address w is there = grind arith
written_above (x ∷ room) top (suc sm) i zero w is there = grind arith
written_above (x ∷ room) top (suc sm) i (suc address) w is there =
    ap (λ ws. x ∷ ws) (written_above room top sm i address w (omega arith) (omega arith))

-- registers that are lent and given back with a word in its place
pub put_again : (old lent : List ℕ) (i w : ℕ) → lent ≡ old
    → refill (length old) old (slice_set lent i w) ≡ slice_set old i w
put_again old lent i w same =
    let many : length (slice_set lent i w) ≡ length old = grind (arith, common_steps) in
    take_at (slice_set lent i w) (drop (length (slice_set lent i w)) old) (length old) many
    ∙ ap (λ xs. slice_set xs i w) same

-- a word stored in the room beneath the registers is a word written on the stack
pub seen_stored : (old new : Data) (top : List ℕ) (sm fills spills address w : ℕ)
    → address < sm → sm ≤ length (lists old).stack → lists new ≡ stored address w (lists old)
    → seen_of new sm top fills spills ≡ stack_written address w (seen_of old sm top fills spills)
unfolding seen_of
seen_stored old new top sm fills spills address w below there step =
    let words = written_in_memory (lists old).stack top sm address w below there in grind (arith, common_steps)

-- and so is a word put in a register
pub seen_put : (memory : Data) (old new : List ℕ) (sm fills spills address w : ℕ)
    → sm ≤ address → sm ≤ length (lists memory).stack → new ≡ slice_set old (address - sm) w
    → seen_of memory sm new fills spills ≡ stack_written address w (seen_of memory sm old fills spills)
unfolding seen_of
seen_put memory old new sm fills spills address w above there step =
    let place : address ≡ sm + (address - sm) = omega arith in
    let words = written_above (lists memory).stack old sm (address - sm) address w place there in
    grind (arith, common_steps)
