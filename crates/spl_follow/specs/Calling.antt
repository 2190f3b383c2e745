-- What it means that calls do in the machine what they do in the run. The callee is a parameter: what a call means for so many calls one
-- within another.
use Rattle.std.specs.Prelude.{◌≡◌, ℕ, ◌+◌, ◌-◌, ◌≤◌, ◌<◌, Bool, List, ◌++◌, length, replicate, Option, None, Some}
use Rattle.hp_flat.specs.hp_instr.declared.instruction.Instr.{Instr}
use Rattle.hp_flat.specs.hp_session.State.{Machine}
use Rattle.spl_code.specs.spl_tree.declared.expressions.Kind.{Kind}
use Rattle.spl_code.specs.spl_meaning.Names.{Profile}
use Rattle.spl_code.specs.spl_meaning.Operations.{result_value}
use Rattle.spl_code.specs.spl_meaning.Pending.{result_words, formals_words, marker_words}
use Rattle.spl_code.specs.spl_meaning.References.{Setting}
use Rattle.spl_code.specs.spl_meaning.States.{Data, State, Begun}
use Rattle.spl_code.specs.spl_meaning.Values.{Who, Callee}
use Rattle.spl_frames.specs.Words.{AreWords}
use Rattle.spl_follow.specs.Spots.{Spot, spot, next_word, pos, Point, Ground, Real}
use Rattle.spl_follow.specs.Leading.{Leads}
use Rattle.spl_follow.specs.Doing.{calling}
use Rattle.spl_follow.specs.Matching.{Matched, Stand, IsValue}
use Rattle.spl_follow.specs.Following.{Rate, tally_with, Owes, Follows, NoExit}
use Rattle.spl_follow.specs.Standing.{Sites}

-- how a body's code calls a procedure or a subroutine: by which instruction, of a want or an entry by its index, and with which parameters
pub record Link : Type 0 where
  pub by : Instr
  pub wanted : Bool
  pub index : ℕ
  pub profile : Profile

-- A call is about to be made at p, with its result, zero at first, and the words of its parameters on top of k words that wait, and room for a
-- marker. The step that it takes is spent.
pub record Calling (g : Ground) (st : Setting) (x : Link) (p : Point) (k : ℕ) (vs : List ℕ) (s : State) (l : List Begun) (m : Machine) : Type 0 where
  pub at : spot m ≡ p.at
  pub real : Real g p.at
  pub owes : Owes p.due l s m
  pub matches : Matched st s.now m (k + result_words x.profile + length vs)
  pub wide : length vs ≡ formals_words x.profile.formals
  pub stand : Stand m.stack (s.now.top + k) (replicate (result_words x.profile) 0 ++ vs)
  pub small : AreWords vs
  pub silent : s.code ≡ None
  pub room : s.now.top + k + result_words x.profile + length vs + marker_words ≤ s.now.stack

-- the value of a result by its words, as the callee leaves them; where there is no result there are none
abbrev pub result_of : Option Kind → List ℕ → List ℕ
result_of None ws = ws
result_of (Some k) ws = result_value k ws

-- Behind a call, at p, the words of its result are on top, as the callee left them: a BYTE still stands in the left half of its word. By these
-- the run has the value.
pub record IsResult (st : Setting) (p : Spot) (x : Profile) (k : ℕ) (d : Data) (m : Machine) (vs : List ℕ) (s : State) (m' : Machine) : Type 0 where
  pub words : List ℕ
  pub value : vs ≡ result_of x.result words
  pub stands : IsValue st p (result_words x) k d m words s m'

-- Each call that a body may make, where fewer than d steps are left, is followed to the word behind it: its result stands there in place of the
-- parameters. It is charged its own word and what the step spent on it pays for.
abbrev pub Calls : Ground → Rate → Sites → Setting → (Who → Option Link) → ℕ → Callee → Type 0
Calls g w sites st links d call =
    (who : Who) (x : Link) → links who ≡ Some x → (p : Point) (r : Spot) (k : ℕ) (vs : List ℕ) (s : State) (l : List Begun) (m : Machine)
    → Leads g p r (calling x.by (sites.ways x.wanted x.index) r) → r ≡ next_word p.at → Calling g st x p k vs s l m → s.left < d
    → Follows g w (pos r - pos p.at + w.step) 0 w.reach (tally_with l s) m (IsResult st r x.profile k s.now m) NoExit (call who vs k s)
