-- A function value that reads operands, where fewer than so many constructs may be opened.
use Rattle.std.specs.Prelude.{ℕ, ◌≤◌, ◌<◌, Bool, true, false, Option, None, List, Result}
use Rattle.std.specs.declared.alloc.Global.{Global}
use denote.Ref.{MutBor}
use Rattle.spl_tree.specs.declared.names_and_places.At.{At}
use Rattle.spl_tree.specs.Symbols.{Lexeme}
use Rattle.spl_tree.specs.Trees as tree
use Rattle.spl_reading.specs.Readers.{Parser, ◌>>=◌, by_symbol, pure, refuse}
use Rattle.spl_reading.specs.ReadExpressions as r
use Rattle.spl_parts.specs.declared.parts.Part.{Part}
use Rattle.spl_tokens.specs.declared.faults.Fault.{Fault}
use Rattle.spl_tokens.specs.Reads.{Reads}
use Rattle.spl_parts.specs.Parts.{operand}

pub record Nests (bound : ℕ) (pre : Global → MutBor (List Lexeme) → ℕ → ℕ → Option At → Type 0)
    (post : Global → MutBor (List Lexeme) → ℕ → ℕ → Option At → Result Part Fault → MutBor (List Lexeme)
    → Type 0) : Type 0 where
  pub callable : (alloc : Global) (old : MutBor (List Lexeme)) (room taken : ℕ) (minus : Option At) → room < bound
      → taken ≤ room
      → pre alloc old room taken minus
  pub reads : (alloc : Global) (old new : MutBor (List Lexeme)) (room taken : ℕ) (minus : Option At)
      (result : Result Part Fault)
      → room < bound → post alloc old room taken minus result new
      → Reads operand (r.unary room taken minus old.now) result new.now

-- the number of bytes of a comparison, which a condition alone has
abbrev pub counted_bytes : Bool → ℕ → ℕ → Parser tree.Tree
counted_bytes true room = r.within room
counted_bytes false room = λ _. refuse

-- a part of an expression, or of a condition where c is true
abbrev pub level : Bool → ℕ → ℕ → ℕ → ℕ → Option At → Parser r.Found
level c room taken height count minus = r.level (r.unary room) (counted_bytes c room) room c taken height count minus

-- what goes on with a part of the level above this one
abbrev pub turn : Bool → ℕ → ℕ → ℕ → At → r.Found → Parser (Bool × r.Found)
turn c room taken height at = r.turn (r.unary room) (counted_bytes c room) room c taken
    (level c room taken height) height at

-- the first operand of the level above this one
abbrev pub first : Bool → ℕ → ℕ → ℕ → ℕ → Option At → Parser r.Found
first c room taken height count minus = r.first (r.unary room) (counted_bytes c room) room c taken
    (level c room taken height) height count minus

-- the term behind a sign
abbrev pub term : Bool → ℕ → ℕ → ℕ → ℕ → Lexeme → Parser r.Found
term c room taken height count sign = by_symbol (r.signed_by_next (r.unary room) (counted_bytes c room) room c taken
    (level c room taken height) count sign)

-- an operator and its right operand
abbrev pub join : Bool → ℕ → ℕ → ℕ → At → r.Found → Parser (Bool × r.Found)
join c room taken height at f = r.join (r.unary room) (counted_bytes c room) room c taken
    (level c room taken height) height at f

-- the number of bytes behind a comparison
abbrev pub bytes : ℕ → ℕ → r.Found → Parser (Bool × r.Found)
bytes room taken f = r.bytes (r.unary room) (r.within room) room true taken f

-- a whole expression or condition
abbrev pub whole : Bool → ℕ → ℕ → Parser tree.Tree
whole c room taken = level c room taken 10 0 None >>= λ f. pure f.tree
