-- What the public calls answer: an expression or a condition at the front of the tokens from some place on.
use Rattle.std.specs.Prelude.{ℕ, ◌≡◌, ◌<◌, ◌≤◌, Bool, List, length, drop, Result, Ok, Err}
use Rattle.spl_tree.specs.declared.expressions.Expr.{Expr}
use Rattle.spl_tree.specs.Symbols.{Lexeme}
use Rattle.spl_tree.specs.Trees.{Tree}
use Rattle.spl_tree.specs.Views.{expression}
use Rattle.spl_within.specs.spl_reading.Readers.{Outcome, Got, Bad, Deep}
use Rattle.spl_verdicts.specs.PartVerdicts.{Verdict}
use Rattle.spl_tokens.specs.declared.faults.Fault.{Fault}
use Rattle.spl_tokens.specs.declared.faults.Fault.TheVariants as fault
use Rattle.spl_tokens.specs.declared.faults.ParseFault.{ParseFault}
use Rattle.spl_tokens.specs.declared.faults.ParseFault.TheVariants.{Syntax, TooDeep, NoMemory}

-- The part stands from the place on, up to the one that is answered, is nowhere too deep, and with the token there
-- none begins;
-- or the tokens before the place open one that is not too deep, are none themselves, and with that token none
-- begins; or with
-- the token at the place, and with none before, more is open than may be.
abbrev pub Answers : Bool → List Lexeme → ℕ → ℕ → Result (Expr × ℕ) ParseFault → Type 0
Answers c tokens from depth (Ok r) = (from ≤ r.1) × (r.1 < length tokens)
    × Verdict c depth (drop from tokens) (Got (expression r.0) (drop r.1 tokens))
Answers c tokens from depth (Err (Syntax at)) = (from ≤ at) × (at < length tokens)
    × Verdict c depth (drop from tokens) (Bad (drop at tokens))
Answers c tokens from depth (Err (TooDeep at)) = (from ≤ at) × (at < length tokens)
    × Verdict c depth (drop from tokens) (Deep (drop at tokens))
Answers c tokens from depth (Err NoMemory) = Unit {0}

-- the answer is what the tokens come to
abbrev pub Says : List Lexeme → Result (Expr × ℕ) ParseFault → Outcome Tree → Type 0
Says tokens (Ok r) o = o ≡ Got (expression r.0) (drop r.1 tokens)
Says tokens (Err (Syntax at)) o = o ≡ Bad (drop at tokens)
Says tokens (Err (TooDeep at)) o = o ≡ Deep (drop at tokens)
Says tokens (Err NoMemory) o = Unit {0}

-- whatever the tokens from the place on come to, the answer is that
abbrev pub Exact : Bool → List Lexeme → ℕ → ℕ → Result (Expr × ℕ) ParseFault → Type 0
Exact c tokens from depth result = (o : Outcome Tree) → Verdict c depth (drop from tokens) o → Says tokens result o

-- what a rule answers, at the place where it stopped
abbrev pub answer_at : Result Expr Fault → ℕ → Result (Expr × ℕ) ParseFault
answer_at (Ok e) at = Ok (e, at)
answer_at (Err fault.Syntax) at = Err (Syntax at)
answer_at (Err fault.TooDeep) at = Err (TooDeep at)
answer_at (Err fault.NoMemory) at = Err NoMemory
