-- How constants, expressions and conditions are read. `room` is the number of constructs that may still be opened, less those
-- that `taken` counts: one for every eight operators of each expression around.
use Rattle.std.specs.Prelude.{ℕ, zero, suc, ◌+◌, ◌/◌, ◌==◌, ◌&&◌, not, Bool, true, false, if◌then◌else◌, nat_lt, nat_le, List, [], ◌∷◌, ◌++◌, Option, Some, None}
use Rattle.spl_tree.specs.declared.names_and_places.At.{At}
use Rattle.spl_tree.specs.declared.symbols.Symbol.{Symbol}
use Rattle.spl_tree.specs.declared.symbols.Symbol.TheVariants as s
use Rattle.spl_tree.specs.Symbols.{Lexeme}
use Rattle.spl_tree.specs.Operators.{Form, reference, comparison, other, compared, form_of_call, bytes_of, binds, is_sign, sign_number, is_number, negated, shift_of}
use Rattle.spl_tree.specs.Trees as tree
use Rattle.spl_reading.specs.Readers.{Parser, ◌>>=◌, ◌>>◌, pure, refuse, by_symbol, take, at_place, allowed, same_symbol, expect, named_number, repeat}

-- an expression that was read: how many operators stand in it so far, its form and its tree
pub record Found : Type 0 where
  pub count : ℕ
  pub form : Form
  pub tree : tree.Tree

-- a constant

-- the number behind a sign
unfoldable pub signed_by : Bool → Symbol → Parser tree.Constant
signed_by minus (s.Number v) = take >> pure (tree.Constant.number minus v)
signed_by minus (s.Wide v) = take >> pure (tree.Constant.wide minus v)
signed_by minus _ = refuse

unfoldable pub constant_by : Symbol → Parser tree.Constant
constant_by (s.Number v) = take >> pure (tree.Constant.number false v)
constant_by (s.Wide v) = take >> pure (tree.Constant.wide false v)
constant_by s.Text = take >>= λ t. pure (tree.Constant.text t.letters)
constant_by (s.Truth b) = take >> pure (tree.Constant.truth b)
constant_by s.Name = take >>= λ t. pure (tree.Constant.name t.letters t.at)
constant_by (s.Operator op) = if is_sign op then (take >> by_symbol (signed_by (op == 12))) else refuse
constant_by _ = refuse

unfoldable pub constant : Parser tree.Constant
constant = by_symbol constant_by

-- whether the symbol is this one
abbrev pub is : Symbol → Symbol → Bool
is k found = same_symbol found k

-- the operator that the symbol is; 99 where it is none
unfoldable pub operator_of : Symbol → ℕ
operator_of (s.Operator op) = op
operator_of _ = 99

-- primary ".(" const ":" const ")", from its dot on
unfoldable pub bits : At → Found → Parser Found
bits at r = do
  _ ← expect s.Dot
  _ ← expect s.Open
  a ← constant
  _ ← expect s.Colon
  b ← constant
  _ ← expect s.Close
  pure (record { count = 0; form = other; tree = tree.Tree.field r.tree a b at })

-- what may follow a primary
unfoldable pub field : At → Found → Parser Found
field at r = by_symbol (λ k. if is s.Dot k then bits at r else pure r)

-- the number behind a minus at this place
unfoldable pub negative_by : At → Symbol → Parser Found
negative_by at (s.Number v) = take >> pure (record { count = 0; form = other; tree = tree.Tree.number (negated 65536 v) })
negative_by at (s.Wide v) = take >> pure (record { count = 0; form = other; tree = tree.Tree.wide (negated 4294967296 v) })
negative_by at _ = refuse

-- a part with no operators of its own
abbrev pub plain : Form → tree.Tree → Found
plain form e = record { count = 0; form = form; tree = e }

-- a token that opens a construct, where `room` constructs may be open and `taken` are
unfoldable pub enter : ℕ → ℕ → Parser Lexeme
enter room taken = allowed (nat_lt taken room)

-- "(", which opens a construct
unfoldable pub opening : ℕ → ℕ → Parser Lexeme
opening room taken = by_symbol (λ k. if is s.Open k then enter room taken else refuse)

-- `inner` reads an operand behind a NOT, and `whole` an expression in parentheses
module _ (room : ℕ) (inner : Parser Found) (whole : Parser tree.Tree) (taken : ℕ) where
  -- "(" expr ")"
  unfoldable pub enclosed : Parser tree.Tree
  enclosed = do
    _ ← opening room taken
    e ← whole
    _ ← expect s.Close
    pure e

  -- { "," expr }
  unfoldable pub more_arguments : List tree.Tree → Parser (Bool × List tree.Tree)
  more_arguments es = by_symbol (λ k. if is s.Comma k then (take >> whole >>= λ e. pure (true, es ++ e ∷ [])) else pure (false, es))

  -- "(" expr { "," expr } ")"
  unfoldable pub arguments : Parser (List tree.Tree)
  arguments = do
    _ ← opening room taken
    e ← whole
    es ← repeat more_arguments (e ∷ [])
    _ ← expect s.Close
    pure es

  -- a name, with the arguments behind it
  unfoldable pub named : Lexeme → Parser Found
  named t = by_symbol (λ k. if is s.Open k
      then (arguments >>= λ es. pure (plain (form_of_call es) (tree.Tree.named t.letters (tree.trees es) t.at)))
      else pure (plain reference (tree.Tree.named t.letters (tree.trees []) t.at)))

  -- "@" ref, from the name on
  unfoldable pub addressed : Lexeme → Lexeme → Parser Found
  addressed a t = by_symbol (λ k. if is s.Open k
      then (enclosed >>= λ e. pure (plain other (tree.Tree.address t.letters (tree.trees (e ∷ [])) a.at)))
      else pure (plain other (tree.Tree.address t.letters (tree.trees []) a.at)))

  unfoldable pub primary_by : Symbol → Parser Found
  primary_by (s.Number v) = take >> pure (plain other (tree.Tree.number v))
  primary_by (s.Wide v) = take >> pure (plain other (tree.Tree.wide v))
  primary_by s.Text = take >>= λ t. pure (plain other (tree.Tree.text t.letters))
  primary_by (s.Truth b) = take >> pure (plain other (tree.Tree.truth b))
  primary_by s.Name = take >>= named
  primary_by s.AtSign = take >>= λ a. expect s.Name >>= addressed a
  primary_by s.Open = enclosed >>= λ e. pure (plain other e)
  primary_by (s.Type k) = take >>= λ t. enclosed >>= λ e. pure (plain other (tree.Tree.transfer k e t.at))
  primary_by _ = refuse

  -- NOT unary
  unfoldable pub inverse : Parser Found
  inverse = enter room taken >>= λ t. inner >>= λ r. pure (plain other (tree.Tree.unary 2 r.tree t.at))

  -- primary [ ".(" const ":" const ")" ]
  unfoldable pub primary : Parser Found
  primary = at_place >>= λ at. by_symbol primary_by >>= field at

  -- an operand; a minus at f stands before its number
  unfoldable pub unary_step : Option At → Parser Found
  unary_step None = by_symbol (λ k. if is s.Not k then inverse else primary)
  unary_step (Some at) = by_symbol (negative_by at) >>= field at

-- the place of a part whose first token is at the second place
abbrev pub begins : Option At → At → At
begins None at = at
begins (Some f) at = f

-- whether two references have a relation between them
abbrev pub is_comparison : Form → Bool
is_comparison comparison = true
is_comparison _ = false

-- The levels. `unary` reads an operand for what is then taken, and `count` the number of bytes of a comparison; c says that
-- it is a condition.
module _ (unary : ℕ → Option At → Parser Found) (count : ℕ → Parser tree.Tree) (room : ℕ) (c : Bool) (taken : ℕ) where
  -- an operator or a mark `&` behind n others of its expression
  unfoldable pub counted : ℕ → Parser Lexeme
  counted n = allowed (nat_le (taken + suc n / 8) room)

  -- the term behind a sign
  unfoldable pub signed_by_next : (ℕ → Option At → Parser Found) → ℕ → Lexeme → Symbol → Parser Found
  signed_by_next below n t k = if (operator_of t.symbol == 12) && is_number k
      then (below n (Some t.at) >>= λ r. pure (record { count = r.count; form = other; tree = r.tree }))
      else (below n None >>= λ r. pure (record {
        count = r.count;
        form = other;
        tree = tree.Tree.unary (sign_number (operator_of t.symbol)) r.tree t.at;
      }))

  -- the first operand of a level, behind n operators
  unfoldable pub first : (ℕ → Option At → Parser Found) → ℕ → ℕ → Option At → Parser Found
  first below h n f = if suc h == 3
      then by_symbol (λ k. if is_sign (operator_of k) then (take >>= λ t. by_symbol (signed_by_next below n t)) else below n None)
      else below n f

  -- operator right
  unfoldable pub join : (ℕ → Option At → Parser Found) → ℕ → At → Found → Parser (Bool × Found)
  join below h at r = do
    o ← counted r.count
    b ← below (suc r.count) None
    pure (
      not (suc h == 4),
      record {
        count = b.count;
        form = if suc h == 4 then compared r.form b.form else other;
        tree = tree.Tree.binary (operator_of o.symbol) r.tree b.tree at;
      },
    )

  -- "&" (ASL|ASR|LSL|LSR|CSL|CSR) "(" const ")"
  unfoldable pub shifted : At → Found → Parser (Bool × Found)
  shifted at r = do
    _ ← counted r.count
    k ← named_number shift_of
    _ ← expect s.Open
    v ← constant
    _ ← expect s.Close
    pure (true, record { count = suc r.count; form = other; tree = tree.Tree.shift k r.tree v at })

  -- "," "(" expr ")" behind two references and a relation
  unfoldable pub bytes : Found → Parser (Bool × Found)
  bytes r = do
    _ ← take
    _ ← opening room (taken + r.count / 8)
    e ← count (taken + r.count / 8)
    _ ← expect s.Close
    pure (true, record { count = r.count; form = other; tree = bytes_of r.tree e })

  -- what goes on with a part of level suc h
  unfoldable pub turn_by : (ℕ → Option At → Parser Found) → ℕ → At → Found → Symbol → Parser (Bool × Found)
  turn_by below h at r k =
      if binds (operator_of k) == suc h then join below h at r
      else if (suc h == 1) && is s.Ampersand k then shifted at r
      else if c && (suc h == 8) && is s.Comma k && is_comparison r.form then bytes r
      else pure (false, r)

  unfoldable pub turn : (ℕ → Option At → Parser Found) → ℕ → At → Found → Parser (Bool × Found)
  turn below h at r = by_symbol (turn_by below h at r)

  -- a part of level h behind n operators
  unfoldable pub level : ℕ → ℕ → Option At → Parser Found
  level zero n f = unary (taken + n / 8) f >>= λ r. pure (record { count = n; form = r.form; tree = r.tree })
  level (suc h) n f = at_place >>= λ at. first (level h) h n f >>= repeat (turn (level h) h (begins f at))

-- an expression, whose operands `unary` reads
unfoldable pub whole : (ℕ → Option At → Parser Found) → ℕ → ℕ → Parser tree.Tree
whole unary room taken = level unary (λ _. refuse) room false taken 10 0 None >>= λ r. pure r.tree

-- an operand; a minus at f stands before its number
unfoldable pub unary : ℕ → ℕ → Option At → Parser Found
unary zero taken f = unary_step zero refuse refuse taken f
unary (suc room) taken f = unary_step (suc room) (unary room taken None) (whole (unary room) room taken) taken f

-- an expression
unfoldable pub expression : ℕ → ℕ → Parser tree.Tree
expression room taken = whole (unary room) room taken

-- an expression, where one more construct is open than room says
unfoldable pub within : ℕ → ℕ → Parser tree.Tree
within zero taken = refuse
within (suc room) taken = expression room taken

-- a condition
unfoldable pub condition : ℕ → ℕ → Parser tree.Tree
condition room taken = level (unary room) (within room) room true taken 10 0 None >>= λ r. pure r.tree
