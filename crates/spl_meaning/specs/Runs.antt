-- Calls, the main body, and the run of a program alone.
use Rattle.std.specs.Prelude.{ℕ, zero, suc, ◌<◌, ◌+◌, ◌-◌, Bool, false, if◌then◌else◌, nat_lt, replicate, List, [], ◌∷◌, ◌++◌, Option, Some, None}
use Rattle.hp_word.specs.declared.endings.Ending.{Ending}
use Rattle.hp_word.specs.declared.endings.Ending.TheVariants as ending
use Rattle.hp_word.specs.declared.endings.Trap.TheVariants.{StackOverflow}
use Rattle.spl_tree.specs.declared.expressions.Kind.{Kind}
use Rattle.spl_meaning.specs.Names.{Profile}
use Rattle.spl_meaning.specs.Kinds.{width}
use Rattle.spl_meaning.specs.Tables.{Source, Subroutine, subroutine_named}
use Rattle.spl_meaning.specs.Places.{Place, data_word, put, put_cells, put_initials}
use Rattle.spl_meaning.specs.Pending.{formals_words, result_words, marker_words, return_words}
use Rattle.spl_meaning.specs.References.{address_of, word_at}
use Rattle.spl_meaning.specs.Operations.{result_value}
use Rattle.spl_meaning.specs.Values.{procedure, subroutine, Callee}
use Rattle.spl_meaning.specs.Statements.{run_all, run_body}
use Rattle.spl_meaning.specs.Bodies.{Body, Named, Program, subroutine_body, program_of, body_named}
use Rattle.spl_meaning.specs.States.{Data, State, Begun, End, terminated, quit, trapped, to_label, back, Outcome, done, leaves, spent, ends, strays, has_no_meaning, then_go, stepping, all_printed}

-- ---- entering

-- words put one behind the other
abbrev pub put_words : ℕ → List ℕ → (ℕ → Option ℕ) → ℕ → Option ℕ
put_words a [] mem = mem
put_words a (w ∷ ws) mem = put_words (suc a) ws (put a w mem)

-- the address of the marker, or of the return word, of a call: above a top, k words that wait, the result and the parameters
abbrev pub link_of : ℕ → ℕ → Body → ℕ
link_of top k b = top + k + result_words b.profile + formals_words b.profile.formals

-- the address of the first local word: above the marker
abbrev pub locals_of : ℕ → ℕ → Body → ℕ
locals_of top k b = link_of top k b + marker_words

-- the data words with the result, zero at first, and the words of the parameters, behind k words that wait
abbrev pub parameters_put : ℕ → ℕ → Body → List ℕ → (ℕ → Option ℕ) → ℕ → Option ℕ
parameters_put top k b ws mem = put_words (top + k) (replicate (result_words b.profile) 0 ++ ws) mem

-- the data of a procedure's new frame, before its local words are there
abbrev pub procedure_framed : ℕ → Body → List ℕ → Data → Data
procedure_framed k b ws d = record d {
  mem = parameters_put d.top k b ws d.mem;
  top = locals_of d.top k b + b.words;
  base = locals_of d.top k b - 1;
  inner = 0;
}

-- the data with a body's cells and initial values
abbrev pub cells_set : Body → Data → Data
cells_set b d = record d { mem = put_initials (λ p. address_of p d) b.initials (put_cells (λ p. address_of p d) b.cells d.mem) }

-- the data of a subroutine's new frame
abbrev pub subroutine_framed : ℕ → Body → List ℕ → Data → Data
subroutine_framed k b ws d = record d {
  mem = parameters_put d.top k b ws d.mem;
  top = link_of d.top k b + return_words;
  inner = link_of d.top k b;
}

-- a state with other data, at which no condition code is known
abbrev pub framed : Data → State → State
framed d s = record s { now = d; code = None }

-- Local words become zero one by one, a step each.
abbrev pub zeroed : ℕ → ℕ → State → (State → Outcome (List ℕ)) → Outcome (List ℕ)
zeroed zero a s go = go s
zeroed (suc n) a s go = stepping s (λ s1. zeroed n (suc a) (record s1 { now = record s1.now { mem = put a 0 s1.now.mem } }) go)

-- the data words below an address
abbrev pub cut_at : ℕ → (ℕ → Option ℕ) → ℕ → Option ℕ
cut_at top mem a = if nat_lt a top then mem a else None

-- ---- leaving

-- RETURN leaves the body; a jump out of it leads nowhere
abbrev pub returned : Outcome (Unit {0}) → Outcome (Unit {0})
returned (leaves back s) = done tt s
returned (leaves (to_label x) s) = has_no_meaning s
returned o = o

-- the words from an address on
abbrev pub words_at : ℕ → ℕ → State → Outcome (List ℕ)
words_at zero a s = done [] s
words_at (suc n) a s = then_go (word_at false a s) (λ w s1. then_go (words_at n (suc a) s1) (λ ws s2. done (w ∷ ws) s2))

-- the value of a result whose words stand from an address on
abbrev pub result_at : Option Kind → ℕ → State → Outcome (List ℕ)
result_at None a s = done [] s
result_at (Some k) a s = then_go (words_at (width k) a s) (λ ws s1. done (result_value k ws) s1)

-- the frame of the caller, as it was, and what the callee left elsewhere
abbrev pub left_to : Data → State → State
left_to caller s = record s {
  now = record s.now { mem = cut_at caller.top s.now.mem; top = caller.top; base = caller.base; inner = caller.inner };
  code = None;
}

-- a body is run, and its result is what the caller gets
abbrev pub called_back : Data → Profile → ℕ → Outcome (Unit {0}) → Outcome (List ℕ)
called_back caller p first o = then_go (returned o) (λ _ s. then_go (result_at p.result first s) (λ vs s1. done vs (left_to caller s1)))

-- ---- calls

-- a subroutine's body is one statement, which is in no list
abbrev pub run_statement : Body → Callee → ℕ → State → Outcome (Unit {0})
run_statement b call d s = run_all b.here call d b.number b.statements 0 s

-- A call of a procedure. Above the caller's frame and the words that wait stand its result, zero at first, its parameters, four words
-- of a marker, and its local words. There has to be room for these and for its depth.
abbrev pub enter_procedure : Callee → ℕ → Body → List ℕ → ℕ → State → Outcome (List ℕ)
enter_procedure call d b ws k s =
    if nat_lt s.now.stack (locals_of s.now.top k b + b.words + b.depth')
    then ends (trapped StackOverflow) s
    else zeroed b.words (locals_of s.now.top k b) (framed (procedure_framed k b ws s.now) s) (λ s1.
    called_back s.now b.profile (s.now.top + k)
    (run_body b.here call d b.number b.statements (record s1 { now = cells_set b s1.now })))

-- A call of a subroutine: a return word stands in place of the marker, and it goes on in the frame around it.
abbrev pub enter_subroutine : Callee → ℕ → Body → List ℕ → ℕ → State → Outcome (List ℕ)
enter_subroutine call d b ws k s =
    if nat_lt s.now.stack (link_of s.now.top k b + return_words + b.depth')
    then ends (trapped StackOverflow) s
    else called_back s.now b.profile (s.now.top + k) (run_statement b call d (framed (subroutine_framed k b ws s.now) s))

-- a call of a procedure that is there
abbrev pub call_procedure : Option Body → (Body → Callee) → ℕ → List ℕ → ℕ → State → Outcome (List ℕ)
call_procedure (Some b) call d ws k s = enter_procedure (call b) d b ws k s
call_procedure None call d ws k s = has_no_meaning s

-- a call of a subroutine that is there
abbrev pub call_subroutine : Option Subroutine → Body → Callee → ℕ → List ℕ → ℕ → State → Outcome (List ℕ)
call_subroutine (Some x) b call d ws k s = enter_subroutine call d (subroutine_body b x) ws k s
call_subroutine None b call d ws k s = has_no_meaning s

-- what a call means in a body, for so many calls one within another
abbrev pub calls : List Named → ℕ → Body → Callee
calls procedures zero b who ws k s = spent s
calls procedures (suc d) b (procedure x) ws k s = call_procedure (body_named procedures x) (λ c. calls procedures d c) d ws k s
calls procedures (suc d) b (subroutine x) ws k s = call_subroutine (subroutine_named b.subroutines x) b (calls procedures d b) d ws k s

-- ---- the main body

-- The main body: a step, and then there has to be room for its depth; its end acts as TERMINATE.
abbrev pub run_main : List Named → ℕ → Body → State → Outcome (Unit {0})
run_main procedures d b s =
    stepping s (λ s1.
    if nat_lt s1.now.stack (s1.now.top + b.depth') then ends (trapped StackOverflow) s1
    else then_go (returned (run_body b.here (calls procedures d b) d b.number b.statements s1)) (λ _ s2. stepping s2 (λ s3. ends terminated s3)))

-- a program that has a main body
abbrev pub run_program : Program → Option Body → ℕ → State → Outcome (Unit {0})
run_program p (Some b) d s = run_main p.procedures d b s
run_program p None d s = has_no_meaning s

-- ---- the run alone

-- what a session is given: words of stack and of extra segment, bytes that may be printed, and terminal lines
pub record Seat : Type 0 where
  pub stack : ℕ
  pub extra : ℕ
  pub room : ℕ
  pub lines : List (List ℕ)

-- so many words of zero
abbrev pub zeros : ℕ → ℕ → Option ℕ
zeros count a = if nat_lt a count then Some 0 else None

-- numbers of a byte
abbrev pub AreBytes : List ℕ → Type 0
AreBytes [] = Unit {0}
AreBytes (b ∷ bs) = (b < 256) × AreBytes bs

-- lines of such
abbrev pub LinesAreBytes : List (List ℕ) → Type 0
LinesAreBytes [] = Unit {0}
LinesAreBytes (l ∷ ls) = AreBytes l × LinesAreBytes ls

-- an address in the program's own data
abbrev pub global_address : Place → ℕ
global_address (data_word a) = a
global_address _ = 0

-- the program's data words and the main body's marker, with n steps to go
abbrev pub opening : Program → Seat → ℕ → State
opening p seat n = record {
  now = record {
    mem = put_initials global_address p.initials (put_cells global_address p.cells (zeros p.words));
    top = p.words + marker_words;
    base = p.words + marker_words - 1;
    inner = 0;
    extra = replicate seat.extra 0;
    lines = seat.lines;
    taken = 0;
    printed = [];
    stack = seat.stack;
    room = seat.room;
  };
  code = None;
  left = n;
  begun = [];
  lost = false;
}

-- how a run stands: as a session does, or astray
pub data Standing : Type 0 where
  stands : Ending → Standing
  stray : Standing

-- a point of a run: what it has printed, and how it stands
pub record Point : Type 0 where
  pub printed : List ℕ
  pub standing : Standing

-- an end of a run as the ending of a session
abbrev pub ending_of : End → Ending
ending_of terminated = ending.Terminated
ending_of (quit n) = ending.Quit n
ending_of (trapped t) = ending.Trapped t

-- the point of a state
abbrev pub at_state : State → Standing → Point
at_state s standing = record { printed = all_printed s.now.printed; standing = standing }

-- the point of an outcome
abbrev pub point_of : {A : Type 0} → Outcome A → Point
point_of (done a s) = at_state s (stands ending.Running)
point_of (leaves x s) = at_state s (stands ending.Running)
point_of (spent s) = at_state s (stands ending.Running)
point_of (ends e s) = at_state s (stands (ending_of e))
point_of (strays s) = at_state s stray

-- the statements begun in an outcome
abbrev pub begun_of : {A : Type 0} → Outcome A → List Begun
begun_of (done a s) = s.begun
begun_of (leaves x s) = s.begun
begun_of (spent s) = s.begun
begun_of (ends e s) = s.begun
begun_of (strays s) = s.begun

-- whether an outcome is that of a run that came to what has no meaning
abbrev pub lost_of : {A : Type 0} → Outcome A → Bool
lost_of (done a s) = s.lost
lost_of (leaves x s) = s.lost
lost_of (spent s) = s.lost
lost_of (ends e s) = s.lost
lost_of (strays s) = s.lost

-- the outcome of the units' run within n steps
abbrev pub run_of : List Source → Seat → ℕ → Outcome (Unit {0})
run_of us seat n = let p = program_of us in run_program p p.main n (opening p seat n)

-- the point of the units' run after n steps
abbrev pub alone : List Source → Seat → ℕ → Point
alone us seat n = point_of (run_of us seat n)

-- whether the units' run came to what has no meaning within n steps
abbrev pub is_lost : List Source → Seat → ℕ → Bool
is_lost us seat n = lost_of (run_of us seat n)

-- the statements that a debugger may stop at and that the run has begun within n steps, each with its data
abbrev pub begins : List Source → Seat → ℕ → List Begun
begins us seat n = begun_of (run_of us seat n)
