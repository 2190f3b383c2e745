-- What comes of an intrinsic that is served: the flat machine's row for its call.
use Rattle.std.specs.Prelude.{◌≡◌, ◌≢◌, ℕ, Result, Ok, Err, vec_capacity}
use Rattle.hp_word.specs.declared.endings.Ending.{Ending}
use Rattle.hp_word.specs.declared.endings.Ending.TheVariants.{Running}
use Rattle.hp_word.specs.declared.endings.Trap.{Trap}
use Rattle.hp_word.specs.declared.intrinsics.Intrinsic.{Intrinsic}
use Rattle.hp_word.specs.Intrinsics.{answer_words}
use Rattle.hp_session.specs.declared.registers.Regs.{Regs}
use Rattle.hp_session.specs.State.{Machine, Outcome, passing}
use Rattle.hp_call_rows.specs.GateRows.{performed}
use Rattle.hp_tos.specs.Seen.{Seen}
use Rattle.hp_rows.specs.Numbers.{Numbers, numbers, exchanging}
use Rattle.mpe_session.specs.declared.terminal.Terminal.{Terminal}
use Rattle.mpe_gate.specs.declared.gate.Served.{Served}
use Rattle.mpe_gate.specs.declared.gate.Served.TheVariants.{Went, Ended, Trapped}
use Rattle.mpe_gate.specs.Seated.{seated}

-- what a session was and is, by what came of a row. One that goes on runs as the row leaves it. One that has ended stands so
-- but for its ending, which is the answer's. At a trap it is as it was
abbrev pub CameTo : Outcome → Machine → Served → Machine → Type 0
CameTo row old Went new = row ≡ Ok new
CameTo row old (Ended ending) new = (ending ≢ Running) × (row ≡ Ok (record new { ending = ending }))
CameTo row old (Trapped trap) new = (row ≡ Err trap) × (new ≡ old)

-- the numbers of the stack in registers: the words that are taken come from memory, with no fill, and so many are pushed. At a
-- trap none is
abbrev pub serve_moved : ℕ → Served → Seen → Numbers
serve_moved left (Trapped trap) s = numbers s
serve_moved left _ s = exchanging 0 left (numbers s)

-- memory is reserved for as many words and bytes as before, and the lines and the room are the same
pub record SameRoom (s : Seen) (t : Terminal) (after : Seen) (later : Terminal) : Type 0 where
  pub stack : after.capacity ≡ s.capacity
  pub extra : after.extra_capacity ≡ s.extra_capacity
  pub printed : vec_capacity later.printed ≡ vec_capacity t.printed
  pub lines : later.lines ≡ t.lines
  pub room : later.room ≡ t.room

-- from registers, a stack and a terminal a call answered, and left registers, a stack and a terminal, as a row says that takes
-- its words from memory and pushes so many
pub record ServesAs (row : Machine → Outcome) (left : ℕ) (regs : Regs) (s : Seen) (t : Terminal) (answer : Served)
    (next : Regs) (after : Seen) (later : Terminal) : Type 0 where
  -- it did the flat machine's row. At a trap registers, words, the number of lines taken and the bytes printed are as before
  pub does : CameTo (row (seated regs s t)) (seated regs s t) answer (seated next after later)
  -- the numbers of the stack in registers moved as the answer says
  pub moves : numbers after ≡ serve_moved left answer s
  -- nothing was reserved, and nothing given back
  pub same : SameRoom s t after later

-- the call of an intrinsic was served: what it does was done, and its word is passed
abbrev pub Serves : Intrinsic → Regs → Seen → Terminal → Served → Regs → Seen → Terminal → Type 0
Serves i = ServesAs (λ m. passing (performed i m)) (answer_words i)

-- what came of a call that is carried out, by where the session then stands
abbrev pub came : Result Ending Trap → Served
came (Ok Running) = Went
came (Ok ending) = Ended ending
came (Err trap) = Trapped trap
