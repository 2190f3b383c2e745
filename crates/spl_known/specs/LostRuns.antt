-- Runs that come to what has no meaning, and others that stray at a reference alone: each program by its text, with how its run stands after some steps,
-- and whether it is lost. What is lost breaks a rule, or calls a procedure that no unit defines.
use Rattle.std.specs.Prelude.{ℕ, ◌≡◌, Bool, true, false, List, [], ◌∷◌, Option, Some, None}
use Prim.Native.String.{String}
use Rattle.spl_meaning.specs.hp_word.declared.endings.Ending.TheVariants.{Running, Trapped}
use Rattle.spl_meaning.specs.hp_word.declared.endings.Trap.TheVariants.{Bounds}
use Rattle.spl_meaning.specs.Tables.{Source}
use Rattle.spl_meaning.specs.Runs.{Seat, Standing, stands, stray, alone, is_lost}
use Rattle.spl_known.specs.Programs.{sources_from}

-- a program of one unit, a number of steps, how its run stands then, and whether it is lost
pub record KnownLoss : Type 0 where
  pub text : String
  pub steps : ℕ
  pub standing : Standing
  pub lost : Bool

-- the usual seat
abbrev pub seat : Seat
seat = record { stack = 1024; extra = 0; room = 16384; lines = [] }

-- how the run of units stands, and whether it is lost
abbrev pub loss_with : Option (List Source) → ℕ → Option (Standing × Bool)
loss_with None n = None
loss_with (Some us) n = Some ((alone us seat n).standing, is_lost us seat n)

-- the run of the text is so
abbrev pub IsLostSo : KnownLoss → Type 0
IsLostSo k = loss_with (sources_from 1 [] (k.text ∷ [])) k.steps ≡ Some (k.standing, k.lost)

-- each of these is
abbrev pub AllLostSo : List KnownLoss → Type 0
AllLostSo [] = Unit {0}
AllLostSo (k ∷ ks) = IsLostSo k × AllLostSo ks

-- ---- what has no meaning

abbrev pub jump_to_no_label : KnownLoss
jump_to_no_label = record { text = "BEGIN INTEGER I; GO TO L END."; steps = 9; standing = stray; lost = true }

-- its statement has not begun yet
abbrev pub before_that_jump : KnownLoss
before_that_jump = record { text = "BEGIN INTEGER I; GO TO L END."; steps = 1; standing = stands Running; lost = false }

abbrev pub name_without_a_place : KnownLoss
name_without_a_place = record { text = "BEGIN INTEGER I; I:=J END."; steps = 9; standing = stray; lost = true }

abbrev pub code_that_is_not_known : KnownLoss
code_that_is_not_known = record { text = "BEGIN INTEGER I; I:=1; IF < THEN I:=2 END."; steps = 9; standing = stray; lost = true }

abbrev pub call_of_no_body : KnownLoss
call_of_no_body = record { text = "BEGIN PROCEDURE P; OPTION EXTERNAL; P END."; steps = 9; standing = stray; lost = true }

abbrev pub two_words_for_one : KnownLoss
two_words_for_one = record { text = "BEGIN INTEGER I; I:=5D END."; steps = 9; standing = stray; lost = true }

-- ---- references

-- the marker stands at 2 to 5
abbrev pub word_of_the_marker : KnownLoss
word_of_the_marker = record { text = "BEGIN INTEGER I; INTEGER POINTER P; @P:=3; I:=P END."; steps = 9; standing = stray; lost = false }

-- four words from 1 on
abbrev pub print_into_the_marker : KnownLoss
print_into_the_marker =
    record { text = "BEGIN LOGICAL ARRAY W(0:1); INTRINSIC PRINT; PRINT(W,4,0) END."; steps = 9; standing = stray; lost = false }

abbrev pub word_past_the_stack : KnownLoss
word_past_the_stack =
    record { text = "BEGIN INTEGER I; INTEGER POINTER P; @P:=2000; I:=P END."; steps = 9; standing = stands (Trapped Bounds); lost = false }

abbrev pub lost_runs : List KnownLoss
lost_runs =
    jump_to_no_label
    ∷ before_that_jump
    ∷ name_without_a_place
    ∷ code_that_is_not_known
    ∷ call_of_no_body
    ∷ two_words_for_one
    ∷ word_of_the_marker
    ∷ print_into_the_marker
    ∷ word_past_the_stack
    ∷ []
