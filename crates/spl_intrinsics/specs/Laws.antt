-- The law of this crate: a call of an intrinsic that answers, behind the words of its parameters.
use Rattle.std.specs.Prelude.{◌≡◌, ℕ, ◌+◌, ◌-◌, ◌≤◌, Bool, true, false, List, length}
use Rattle.spl_statement_code.specs.hp_word.declared.intrinsics.Intrinsic.{Intrinsic}
use Rattle.spl_statement_code.specs.hp_word.declared.intrinsics.Intrinsic.TheVariants as gate
use Rattle.spl_statement_code.specs.hp_word.Intrinsics.{parameter_words, answer_words}
use Rattle.spl_statement_code.specs.hp_instr.declared.instruction.Instr.TheVariants as op
use Rattle.spl_endings.specs.hp_session.State.{Machine}
use Rattle.spl_statement_code.specs.spl_meaning.References.{Setting}
use Rattle.spl_statement_code.specs.spl_meaning.Serving.{served}
use Rattle.spl_statement_code.specs.spl_meaning.States.{Data, State, Begun}
use Rattle.spl_endings.specs.spl_frames.Words.{AreWords}
use Rattle.spl_endings.specs.spl_follow.Spots.{Spot, spot, pos, Point, Ground}
use Rattle.spl_endings.specs.spl_follow.Leading.{Leads}
use Rattle.spl_endings.specs.spl_follow.Matching.{Matched, Kept, Stand, IsAnswer}
use Rattle.spl_endings.specs.spl_follow.Following.{Rate, tally_with, Owes, Follows, NoExit}
use Rattle.spl_endings.specs.spl_follow.Doing.{Way, calling}
use Rattle.spl_endings.specs.Gates.{Served}

-- the intrinsics that answer: all but those that end the session
abbrev pub is_answered : Intrinsic → Bool
is_answered gate.Terminate = false
is_answered gate.Quit = false
is_answered i = true

-- A call of an intrinsic is about to be made at p, with the words of its parameters on top of its answer's, and these on k words that wait, in a
-- part that began with d0 and m0; l is the log of what was met. The condition code that the source knows does not matter.
pub record Asks (st : Setting) (p : Point) (i : Intrinsic) (k : ℕ) (vs : List ℕ) (d0 : Data) (m0 : Machine) (s : State) (l : List Begun) (m : Machine) : Type 0 where
  pub at : spot m ≡ p.at
  pub owes : Owes p.due l s m
  pub matches : Matched st s.now m (k + (answer_words i + parameter_words i))
  pub wide : length vs ≡ parameter_words i
  pub stand : Stand m.stack (s.now.top + (k + answer_words i)) vs
  pub small : AreWords vs
  pub kept : Kept (d0.top + k) d0 m0.stack s.now m.stack
  pub room : s.now.top + (k + (answer_words i + parameter_words i)) ≤ s.now.stack

-- Where its way leads to the gate, in no split mode, the call does what the source's does: it strays, traps, or leaves the answer in place of all
-- these words, with what it stored, printed and took of the lines, and its condition code. Its step is spent when that is done.
abbrev pub IntrinsicsAnswer : Type 0
IntrinsicsAnswer = (g : Ground) (w : Rate) (st : Setting) (p : Point) (r : Spot) (way : Way) (i : Intrinsic) (k : ℕ) (vs : List ℕ) (d0 : Data)
    (m0 : Machine) (s : State) (l : List Begun) (m : Machine) → is_answered i ≡ true → Served way i → st.split ≡ false
    → Leads g p r (calling (op.Control 0 0) way r) → Asks st p i k vs d0 m0 s l m
    → Follows g w (pos r - pos p.at) 1 w.reach (tally_with l s) m (IsAnswer st r (answer_words i) k d0 m0) NoExit (served i vs s)
