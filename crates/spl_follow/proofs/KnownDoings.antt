-- What pieces do, worked by hand on one machine, and what it means that some stand.
use Rattle.std.specs.Prelude.{◌≡◌, true, false, [], ◌∷◌}
use Rattle.std.proofs.Common.{refl}
use Rattle.hp_flat.specs.hp_word.declared.endings.Ending.TheVariants.{Trapped}
use Rattle.hp_flat.specs.hp_word.declared.endings.Trap.TheVariants.{StackUnderflow, Mode}
use Rattle.hp_flat.specs.hp_instr.declared.instruction.Instr.TheVariants as i
use Rattle.hp_flat.specs.hp_instr.Instructions.{op}
use Rattle.hp_flat.specs.hp_session.State.{Machine, opened, deleted}
use Rattle.hp_flat.specs.hp_word_rows.WordRows.{count_row}
use Rattle.hp_flat.specs.hp_stack_rows.StackRows.{operated}
use Rattle.spl_code.specs.spl_branch.declared.pieces.Piece.{Piece}
use Rattle.spl_code.specs.spl_branch.declared.pieces.Piece.TheVariants.{Do, Mark, Begin}
use Rattle.spl_follow.specs.Spots.{Spot, spot, landed}
use Rattle.spl_follow.specs.Matching.{Stand}
use Rattle.spl_follow.specs.Doing.{doing, turning, calling, body}
use Rattle.spl_follow.specs.Standing.{due_after}

-- a session at word 10 of segment 2, with 3 and 4 on top of its marker's four words
abbrev here : Spot
here = record { seg = 2; offset = 10; right = false }

abbrev behind : Spot
behind = record { seg = 2; offset = 11; right = false }

abbrev there : Spot
there = record { seg = 2; offset = 300; right = false }

abbrev odd : Machine
odd = landed here (record (opened [] 2 0 [] 64 0 10) { stack = 0 ∷ 0 ∷ 0 ∷ 0 ∷ 4 ∷ 3 ∷ [] })

abbrev even : Machine
even = record odd { stack = 0 ∷ 0 ∷ 0 ∷ 0 ∷ 3 ∷ 4 ∷ [] }

-- SUBS 1 deletes a word, and it goes on behind
deletes : doing [] (i.Control 8 1) behind odd ≡ landed behind (record odd { stack = 0 ∷ 0 ∷ 0 ∷ 0 ∷ 4 ∷ [] })
unfolding count_row deleted
deletes = refl

-- a stack operation may go on in the right half of its word
deletes_in_half : spot (doing [] (i.Pair (op 0o40) (op 0)) (record here { right = true }) odd) ≡ record { seg = 2; offset = 10; right = true }
unfolding operated deleted
deletes_in_half = refl

-- SUBS 7 of six words traps, and else the machine is as it was, at its own word
too_many : doing [] (i.Control 8 7) behind odd ≡ record odd { ending = Trapped StackUnderflow }
unfolding count_row deleted
too_many = refl

-- BRE goes on behind an odd word and to its mark at an even one, which both delete, however it is coded
at_odd : turning (i.Short 0o16 false 0) there behind odd ≡ landed behind (record odd { stack = 0 ∷ 0 ∷ 0 ∷ 0 ∷ 4 ∷ [] })
at_odd = refl

at_even : turning (i.Short 0o16 true 9) there behind even ≡ landed there (record even { stack = 0 ∷ 0 ∷ 0 ∷ 0 ∷ 3 ∷ [] })
at_even = refl

-- BR goes to its mark, in another segment's words as in its own
goes_there : turning (i.Branch false false 0) there behind odd ≡ landed there odd
goes_there = refl

-- SCAL pushes the offset behind it; it goes on in the subroutine
calls_subroutine : calling (i.Control 3 0) (body there) behind odd ≡ landed there (record odd { stack = 0 ∷ 0 ∷ 0 ∷ 0 ∷ 4 ∷ 3 ∷ 11 ∷ [] })
calls_subroutine = refl

-- PCAL in split mode traps
not_in_split_mode : calling (i.Control 0 0) (body there) behind (record odd { split = true }) ≡ record odd { split = true; ending = Trapped Mode }
not_in_split_mode = refl

-- ---- pieces

-- a statement is due behind its beginning, across a mark, until an instruction is done
abbrev begin : Piece
begin = Begin (record { unit = 1; line = 4; column = 2 })

due_behind_a_mark : due_after false (begin ∷ Mark 3 ∷ []) ≡ true
due_behind_a_mark = refl

not_due_behind_a_word : due_after false (begin ∷ Mark 3 ∷ Do (i.Immediate 1 0) ∷ []) ≡ false
not_due_behind_a_word = refl

-- two words stand from address 4 on
two_words : Stand odd.stack 4 (4 ∷ 3 ∷ [])
two_words = (refl, (refl, tt))
