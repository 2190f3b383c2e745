-- Places, starts, visits and prints worked by hand: a few words of two segments, of which the first has a start at each of two statements.
use Rattle.std.specs.Prelude.{◌≡◌, ℕ, suc, true, false, if◌then◌else◌, ◌&&◌, ◌==◌, List, [], ◌∷◌, Option, Some, None}
use Rattle.std.specs.Prelude.{zero, ◌<◌}
use Rattle.std.proofs.Common.{refl, arith}
use Rattle.std.proofs.lemmas.Option.{none-some}
use Rattle.hp_flat.specs.hp_word.declared.endings.Ending.TheVariants.{Terminated}
use Rattle.hp_flat.specs.hp_instr.Instructions.{instruction, immediate, pair}
use Rattle.hp_flat.specs.hp_instr.Fields.{is_immediate, is_op}
use Rattle.hp_flat.specs.hp_program.Programs.{code_word}
use Rattle.hp_flat.specs.hp_session.State.{Machine, opened, deleted}
use Rattle.hp_flat.specs.hp_word_rows.WordRows.{immediate_row}
use Rattle.hp_flat.specs.hp_stack_rows.StackRows.{operated}
use Rattle.hp_flat.specs.Step.{step, outcome, row, word_row, pair_row}
use Rattle.spl_code.specs.spl_tree.declared.names_and_places.At.{At}
use Rattle.spl_code.specs.spl_branch.declared.pieces.Piece.TheVariants.{Literal, Mark}
use Rattle.spl_follow.specs.Spots.{Spot, spot, next_word, pos, on, Ground, start_at, Visit, visits, print_between, prints}
use Rattle.spl_follow.specs.Following.{Logged}
use Rattle.spl_follow.specs.Doing.{gate}
use Rattle.spl_follow.specs.Standing.{Sites, Stands}

-- ---- places

-- the right half of word 5 is eleven halves from the start of its segment, and the word behind it is word 6
abbrev fifth : Spot
fifth = record { seg = 1; offset = 5; right = true }

eleven : pos fifth ≡ 11
eleven = refl

sixth : next_word fifth ≡ record { seg = 1; offset = 6; right = false }
sixth = refl

-- ---- a ground: LDI 5, LDI 7 and DEL, with statements at its words 0 and 1

abbrev place : ℕ → At
place line = record { unit = 1; line = line; column = 1 }

abbrev words : List (List ℕ)
words = (0o020405 ∷ 0o020407 ∷ 0o004000 ∷ []) ∷ []

abbrev starts : ℕ → ℕ → Option At
starts seg offset =
    if seg == 0 && offset == 0 then Some (place 1) else if seg == 0 && offset == 1 then Some (place 2) else None

few : (seg offset v : ℕ) → code_word words seg offset ≡ Some v → offset < 16383
unfolding code_word
few zero zero v h = omega arith
few zero (suc zero) v h = omega arith
few zero (suc (suc zero)) v h = omega arith
few zero (suc (suc (suc n))) v h = absurd (none-some v h)
few (suc s) n v h = absurd (none-some v h)

abbrev ground : Ground
ground = record { segments = words; starts = starts; short = few }

-- a session of it, at word 0 with 64 words of stack, and what it becomes
abbrev first : Machine
first = opened [] 0 0 [] 64 0 10

abbrev second : Machine
second = record first { regs = record first.regs { p = 1 }; stack = 0 ∷ 0 ∷ 0 ∷ 0 ∷ 5 ∷ [] }

abbrev third : Machine
third = record first { regs = record first.regs { p = 2 }; stack = 0 ∷ 0 ∷ 0 ∷ 0 ∷ 5 ∷ 7 ∷ [] }

-- a start is at the left half alone
no_start_half_way : start_at ground (record { seg = 0; offset = 1; right = true }) ≡ None
no_start_half_way = refl

-- LDI 5 pushes 5, and then LDI 7 pushes 7
one_step : step words first ≡ second
unfolding step outcome code_word row word_row instruction immediate is_immediate immediate_row
one_step = refl

two_steps : step words second ≡ third
unfolding step outcome code_word row word_row instruction immediate is_immediate immediate_row
two_steps = refl

-- before the first step the first start is met, before the second the other; before the third there is none
abbrev both : List Visit
both = record { at = place 1; machine = first } ∷ record { at = place 2; machine = second } ∷ []

met_twice : visits ground 3 first ≡ both
unfolding step outcome code_word row word_row instruction immediate is_immediate immediate_row
met_twice = refl

-- nothing is printed on the way
silent : prints ground 3 first ≡ []
unfolding step outcome code_word row word_row instruction immediate pair is_immediate is_op immediate_row pair_row operated deleted
silent = refl

-- an ended machine meets no start
ended : visits ground 3 (record first { ending = Terminated }) ≡ []
ended = refl

-- two bytes more than before are one print; none are none
print_of_two : print_between (record first { printed = 65 ∷ [] }) (record first { printed = 65 ∷ 66 ∷ 67 ∷ [] }) ≡ (66 ∷ 67 ∷ []) ∷ []
print_of_two = refl

no_print_at_all : print_between (record first { printed = 65 ∷ [] }) (record first { printed = 65 ∷ [] }) ≡ []
no_print_at_all = refl

-- ---- pieces

abbrev at_third : Spot
at_third = spot third

-- a mark and a word that is not run stand at word 2, up to word 3
abbrev sites : Sites
sites = record { marks = λ l. at_third; ways = λ wanted index. gate 1 }

lies_there : Stands ground sites (on at_third) (Mark 0 ∷ Literal 0o004000 ∷ []) (next_word at_third)
unfolding code_word
lies_there = (refl, refl, (refl, refl, refl))

-- the log of what was met: none is from a log to itself
nothing_logged : Logged [] [] []
nothing_logged = refl
