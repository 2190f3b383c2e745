-- What stays of a run's frames.
use Rattle.std.specs.Prelude.{ℕ, ◌≡◌, ◌≤◌, ◌+◌, ◌-◌, List, [], ◌∷◌, length, None, is_some, nat_lt}
use Rattle.spl_meaning.specs.spl_tree.Trees.{Tree, Trees}
use Rattle.spl_meaning.specs.spl_tree.StatementTrees.{Statement, Statements}
use Rattle.spl_meaning.specs.Names.{Formal}
use Rattle.spl_meaning.specs.Tables.{Source}
use Rattle.spl_meaning.specs.Pending.{formals_words}
use Rattle.spl_meaning.specs.Values.{Who, Callee, value, located, index, arguments}
use Rattle.spl_meaning.specs.Bodies.{Body, Named, Program}
use Rattle.spl_meaning.specs.Statements.{run, run_all, run_body}
use Rattle.spl_meaning.specs.Runs.{Seat, LinesAreBytes, run_of, calls, called_back, run_statement, framed, enter_procedure, enter_subroutine, opening}
use Rattle.spl_meaning.specs.States.{Data, State}
use Rattle.spl_frames.specs.Words.{AreWords, IsOfWords, OfWords, GivesWords}
use Rattle.spl_frames.specs.Frames.{Frame, Lawful, LawfulIn, StaysIn}
use Rattle.spl_frames.specs.Entries.{procedure_frame, subroutine_frame, main_frame, procedure_entered, subroutine_entered}

-- The parts of a body, run with some calls one within another and with so many words waiting, leave the live frame as it is, wherever
-- they are done or left: values, references, indices, arguments, calls, statements and lists of them, and a body.
pub record PartsKeepFrames : Type 0 where
  pub values : (procedures : List Named) (d : ℕ) (b : Body) (e : Tree) (k : ℕ) (s : State)
      → StaysIn s.now (value b.here (calls procedures d b) e k s)
  pub references : (procedures : List Named) (d : ℕ) (b : Body) (e : Tree) (k : ℕ) (s : State)
      → StaysIn s.now (located b.here (calls procedures d b) e k s)
  pub indices : (procedures : List Named) (d : ℕ) (b : Body) (es : Trees) (k : ℕ) (s : State)
      → StaysIn s.now (index b.here (calls procedures d b) es k s)
  pub argument_lists : (procedures : List Named) (d : ℕ) (b : Body) (fs : List Formal) (es : Trees) (k : ℕ) (s : State)
      → StaysIn s.now (arguments b.here (calls procedures d b) fs es k s)
  pub callees : (procedures : List Named) (d : ℕ) (b : Body) (who : Who) (ws : List ℕ) (k : ℕ) (s : State)
      → StaysIn s.now (calls procedures d b who ws k s)
  pub statements : (procedures : List Named) (d i : ℕ) (b : Body) (st : Statement) (k : ℕ) (s : State)
      → StaysIn s.now (run b.here (calls procedures d b) d i st k s)
  pub lists : (procedures : List Named) (d i : ℕ) (b : Body) (ss : Statements) (k : ℕ) (s : State)
      → StaysIn s.now (run_all b.here (calls procedures d b) d i ss k s)
  pub bodies : (procedures : List Named) (d i : ℕ) (b : Body) (ss : Statements) (s : State)
      → StaysIn s.now (run_body b.here (calls procedures d b) d i ss s)

-- From data of words, values and arguments are words, and leave data of words; so do calls with words, and statements; and so it is at each
-- point of a run whose lines are bytes.
pub record WordsStayWords : Type 0 where
  pub values : (procedures : List Named) (d : ℕ) (b : Body) (e : Tree) (k : ℕ) (s : State) → IsOfWords s.now
      → GivesWords (value b.here (calls procedures d b) e k s)
  pub argument_lists : (procedures : List Named) (d : ℕ) (b : Body) (fs : List Formal) (es : Trees) (k : ℕ) (s : State) → IsOfWords s.now
      → GivesWords (arguments b.here (calls procedures d b) fs es k s)
  pub callees : (procedures : List Named) (d : ℕ) (b : Body) (who : Who) (ws : List ℕ) (k : ℕ) (s : State) → AreWords ws → IsOfWords s.now
      → GivesWords (calls procedures d b who ws k s)
  pub statements : (procedures : List Named) (d i : ℕ) (b : Body) (st : Statement) (k : ℕ) (s : State) → IsOfWords s.now
      → OfWords (run b.here (calls procedures d b) d i st k s)
  pub bodies : (procedures : List Named) (d i : ℕ) (b : Body) (ss : Statements) (s : State) → IsOfWords s.now
      → OfWords (run_body b.here (calls procedures d b) d i ss s)
  pub lists : (procedures : List Named) (d i : ℕ) (b : Body) (ss : Statements) (k : ℕ) (s : State) → IsOfWords s.now
      → OfWords (run_all b.here (calls procedures d b) d i ss k s)
  pub openings : (p : Program) (seat : Seat) (n : ℕ) → LinesAreBytes seat.lines → IsOfWords (opening p seat n).now
  pub runs : (us : List Source) (seat : Seat) (n : ℕ) → LinesAreBytes seat.lines → OfWords (run_of us seat n)

-- The data words of a session's opening are those of the program, and no other.
abbrev pub OpeningsHaveTheirWords : Type 0
OpeningsHaveTheirWords = (p : Program) (seat : Seat) (n a : ℕ) → is_some ((opening p seat n).now.mem a) ≡ nat_lt a p.words

-- A lawful state stays lawful, for the same frames.
abbrev pub LawfulStatesStay : Type 0
LawfulStatesStay = (words : ℕ) (live : Frame) (others : List Frame) (procedures : List Named) (d i : ℕ) (b : Body) (ss : Statements) (s : State)
    → Lawful words live others s.now → LawfulIn words live others (run_body b.here (calls procedures d b) d i ss s)

-- Where a call has its room and the steps for its local words, its body is run from the data with which it begins.
abbrev pub CallsEnter : Type 0
CallsEnter = (call : Callee) (d : ℕ) (b : Body) (ws : List ℕ) (k : ℕ) (s : State)
    → (((procedure_frame s.now.top k b).top + b.depth' ≤ s.now.stack) → b.words ≤ s.left
    → enter_procedure call d b ws k s
    ≡ called_back s.now b.profile (s.now.top + k)
    (run_body b.here call d b.number b.statements (record s { now = procedure_entered s.now k b ws; code = None; left = s.left - b.words })))
    × (((subroutine_frame s.now.base s.now.top k b).top + b.depth' ≤ s.now.stack)
    → enter_subroutine call d b ws k s
    ≡ called_back s.now b.profile (s.now.top + k) (run_statement b call d (framed (subroutine_entered s.now k b ws) s)))

-- From a lawful state, a call that has its room, with as many words as its parameters have, begins in a lawful one, with its frame above
-- the others. So does the main body.
abbrev pub BodiesBeginLawfully : Type 0
BodiesBeginLawfully =
    ((words : ℕ) (live : Frame) (others : List Frame) (now : Data) (k : ℕ) (b : Body) (ws : List ℕ) → Lawful words live others now
    → length ws ≡ formals_words b.profile.formals
    → (((procedure_frame now.top k b).top + b.depth' ≤ now.stack)
    → Lawful words (procedure_frame now.top k b) (live ∷ others) (procedure_entered now k b ws))
    × (((subroutine_frame now.base now.top k b).top + b.depth' ≤ now.stack)
    → Lawful words (subroutine_frame now.base now.top k b) (live ∷ others) (subroutine_entered now k b ws)))
    × ((p : Program) (b : Body) (seat : Seat) (n : ℕ) → (main_frame p b).top + b.depth' ≤ seat.stack
    → Lawful p.words (main_frame p b) [] (opening p seat n).now)
