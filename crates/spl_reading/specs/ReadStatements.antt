-- How statements are read. `room` is the number of constructs that may still be opened; `inner` reads a statement inside, and
-- `below` is the room that is left there.
use Rattle.std.specs.Prelude.{ℕ, zero, suc, ◌-◌, ◌||◌, ◌++◌, Bool, true, false, if◌then◌else◌, List, [], ◌∷◌}
use Rattle.spl_tree.specs.declared.names_and_places.At.{At}
use Rattle.spl_tree.specs.declared.symbols.Symbol.{Symbol}
use Rattle.spl_tree.specs.declared.symbols.Symbol.TheVariants as s
use Rattle.spl_tree.specs.declared.symbols.Reserved.{Reserved}
use Rattle.spl_tree.specs.declared.symbols.Reserved.TheVariants as w
use Rattle.spl_tree.specs.Symbols.{Lexeme}
use Rattle.spl_tree.specs.Trees as tree
use Rattle.spl_tree.specs.Trees.{Tree, Trees, trees}
use Rattle.spl_tree.specs.StatementTrees as stat
use Rattle.spl_tree.specs.StatementTrees.{statements}
use Rattle.spl_tree.specs.Statements.{class_of, is_relation}
use Rattle.spl_reading.specs.Readers.{Parser, ◌>>=◌, pure, refuse, by_symbol, take, at_place, expect, named_number, repeat}
use Rattle.spl_reading.specs.ReadExpressions.{is, operator_of, constant, enter, enclosed, arguments, within, expression, condition}

-- a name, and an index where a "(" is behind it
unfoldable pub indexed : ℕ → Lexeme → Parser Tree
indexed room t = by_symbol (λ k. if is s.Open k
    then (enclosed room refuse (within room 0) 0 >>= λ e. pure (tree.Tree.named t.letters (trees (e ∷ [])) t.at))
    else pure (tree.Tree.named t.letters (trees []) t.at))

unfoldable pub reference : ℕ → Parser Tree
reference room = expect s.Name >>= indexed room

-- what stands behind the reference of a MOVE
unfoldable pub source_behind : ℕ → Tree → Parser stat.Source
source_behind room r = by_symbol (λ k. if is s.Comma k
    then (take >>= λ _. enclosed room refuse (within room 0) 0 >>= λ e. pure (stat.Source.counted r e))
    else (expect (s.Word w.While) >>= λ _. named_number class_of >>= λ n. pure (stat.Source.class_of r n)))

unfoldable pub source : ℕ → Parser stat.Source
source room = by_symbol (λ k. if is s.Text k then (take >>= λ t. pure (stat.Source.text t.letters)) else (reference room >>= source_behind room))

-- WHILE or UNTIL
unfoldable pub while_or_until : Parser Bool
while_or_until = by_symbol (λ k. if is (s.Word w.Until) k then (take >>= λ _. pure true) else (expect (s.Word w.While) >>= λ _. pure false))

unfoldable pub move : ℕ → Parser stat.Effect
move room = do
  _ ← expect (s.Word w.Move)
  r ← reference room
  _ ← expect s.Assign
  x ← source room
  pure (stat.Effect.move r x)

unfoldable pub scan : ℕ → Parser stat.Effect
scan room = do
  _ ← expect (s.Word w.Scan)
  r ← reference room
  until ← while_or_until
  e ← expression room 0
  pure (stat.Effect.scan r until e)

unfoldable pub effect : ℕ → Parser stat.Effect
effect room = by_symbol (λ k. if is (s.Word w.Scan) k then scan room else move room)

-- MOVE or SCAN
abbrev pub begins_effect : Symbol → Bool
begins_effect k = is (s.Word w.Move) k || is (s.Word w.Scan) k

-- what an IF tests
unfoldable pub if_test : ℕ → Parser stat.Test
if_test room = by_symbol (λ k. if is_relation (operator_of k) then (take >>= λ t. pure (stat.Test.code (operator_of t.symbol - 5)))
    else (condition room 0 >>= λ e. pure (stat.Test.condition e)))

-- behind ":="
unfoldable pub value : ℕ → stat.Target → At → Parser stat.Statement
value room to at = by_symbol (λ k. if begins_effect k then (effect room >>= λ e. pure (stat.Statement.assign_effect to e at))
    else (expression room 0 >>= λ e. pure (stat.Statement.assign to e at)))

unfoldable pub assigned : ℕ → stat.Target → At → Parser stat.Statement
assigned room to at = expect s.Assign >>= λ _. value room to at

-- a bit field as a target, from its dot on
unfoldable pub field_assigned : ℕ → Tree → At → Parser stat.Statement
field_assigned room r at = do
  _ ← expect s.Dot
  _ ← expect s.Open
  a ← constant
  _ ← expect s.Colon
  b ← constant
  _ ← expect s.Close
  assigned room (stat.Target.field r a b) at

-- behind a reference at the front of a statement, which is a call where no assignment follows
unfoldable pub behind_reference : ℕ → Tree → At → stat.Statement → Parser stat.Statement
behind_reference room r at otherwise = by_symbol (λ k. if is s.Dot k then field_assigned room r at
    else if is s.Assign k then assigned room (stat.Target.plain r) at else pure otherwise)

-- one expression and no more
abbrev pub is_single : List Tree → Bool
is_single (e ∷ []) = true
is_single _ = false

-- [ STEP expr ]
unfoldable pub stepped : ℕ → Parser (List Tree)
stepped room = by_symbol (λ k. if is (s.Word w.Step) k then (take >>= λ _. expression room 0 >>= λ e. pure (e ∷ [])) else pure [])

-- behind GO or GOTO
unfoldable pub go_name : Lexeme → Parser stat.Statement
go_name g = expect s.Name >>= λ t. pure (stat.Statement.go_to t.letters g.at)

unfoldable pub more_statements : Parser stat.Statement → List stat.Statement → Parser (Bool × List stat.Statement)
more_statements inner xs = by_symbol (λ k. if is s.Semicolon k then (take >>= λ _. inner >>= λ x. pure (true, xs ++ x ∷ [])) else pure (false, xs))

-- statement { ";" statement }
unfoldable pub statement_list : Parser stat.Statement → Parser (List stat.Statement)
statement_list inner = inner >>= λ x. repeat (more_statements inner) (x ∷ [])

module _ (room below : ℕ) (inner : Parser stat.Statement) where
  -- name ":" statement, from the colon on
  unfoldable pub labelled : Lexeme → Parser stat.Statement
  labelled t = enter room 0 >>= λ _. inner >>= λ x. pure (stat.Statement.labelled t.letters t.at x)

  -- a name with "(" behind it
  unfoldable pub with_arguments : Lexeme → Parser stat.Statement
  with_arguments t = arguments room refuse (within room 0) 0 >>= λ es. (if is_single es
      then behind_reference room (tree.Tree.named t.letters (trees es) t.at) t.at (stat.Statement.call t.letters (trees es) t.at)
      else pure (stat.Statement.call t.letters (trees es) t.at))

  -- a statement that begins with a name
  unfoldable pub named_statement : Lexeme → Parser stat.Statement
  named_statement t = by_symbol (λ k. if is s.Colon k then labelled t else if is s.Open k then with_arguments t
      else behind_reference room (tree.Tree.named t.letters (trees []) t.at) t.at (stat.Statement.call t.letters (trees []) t.at))

  -- "@" name ":="
  unfoldable pub address_assigned : Parser stat.Statement
  address_assigned = take >>= λ a. expect s.Name >>= λ t. assigned room (stat.Target.address t.letters a.at) a.at

  -- BEGIN statements END
  unfoldable pub block : Parser stat.Statement
  block = enter room 0 >>= λ _. statement_list inner >>= λ xs. expect (s.Word w.End) >>= λ _. pure (stat.Statement.block (statements xs))

  -- behind the statement of THEN
  unfoldable pub else_behind : Lexeme → stat.Test → stat.Statement → Parser stat.Statement
  else_behind i q x = by_symbol (λ k. if is (s.Word w.Else) k
      then (take >>= λ _. inner >>= λ y. pure (stat.Statement.if_test q x (statements (y ∷ [])) i.at))
      else pure (stat.Statement.if_test q x (statements []) i.at))

  -- IF test THEN statement [ELSE statement]
  unfoldable pub if_statement : Parser stat.Statement
  if_statement = enter room 0 >>= λ i. if_test below >>= λ q. expect (s.Word w.Then) >>= λ _. inner >>= else_behind i q

  -- WHILE condition DO statement
  unfoldable pub while_statement : Parser stat.Statement
  while_statement = enter room 0 >>= λ t. condition below 0 >>= λ e. expect (s.Word w.Do) >>= λ _. inner >>= λ x. pure (stat.Statement.while_true e x t.at)

  -- DO statement UNTIL condition
  unfoldable pub do_statement : Parser stat.Statement
  do_statement = enter room 0 >>= λ t. inner >>= λ x. expect (s.Word w.Until) >>= λ _. condition below 0 >>= λ e. pure (stat.Statement.until_true x e t.at)

  -- FOR name ":=" expr [STEP expr] UNTIL expr DO statement
  unfoldable pub for_statement : Parser stat.Statement
  for_statement = do
    f ← enter room 0
    t ← expect s.Name
    _ ← expect s.Assign
    a ← expression below 0
    es ← stepped below
    _ ← expect (s.Word w.Until)
    b ← expression below 0
    _ ← expect (s.Word w.Do)
    x ← inner
    pure (stat.Statement.for_values t.letters a (trees es) b x f.at)

  -- CASE expr OF BEGIN statements END
  unfoldable pub case_statement : Parser stat.Statement
  case_statement = do
    c ← enter room 0
    e ← expression below 0
    _ ← expect (s.Word w.Of)
    _ ← expect (s.Word w.Begin)
    xs ← statement_list inner
    _ ← expect (s.Word w.End)
    pure (stat.Statement.case_of e (statements xs) c.at)

  -- GO [TO] name
  unfoldable pub go_statement : Parser stat.Statement
  go_statement = take >>= λ g. by_symbol (λ k. if is (s.Word w.To) k then (take >>= λ _. go_name g) else go_name g)

  unfoldable pub effect_statement : Parser stat.Statement
  effect_statement = at_place >>= λ at. effect room >>= λ e. pure (stat.Statement.do_effect e at)

  -- a statement by its reserved word; any other word stands behind an empty one
  unfoldable pub by_word : Reserved → Parser stat.Statement
  by_word w.Begin = block
  by_word w.If = if_statement
  by_word w.While = while_statement
  by_word w.Do = do_statement
  by_word w.For = for_statement
  by_word w.Case = case_statement
  by_word w.Go = go_statement
  by_word w.Goto = take >>= go_name
  by_word w.Return = take >>= λ t. pure (stat.Statement.return t.at)
  by_word w.Move = effect_statement
  by_word w.Scan = effect_statement
  by_word _ = pure stat.Statement.empty

  unfoldable pub statement_by : Symbol → Parser stat.Statement
  statement_by s.Name = take >>= named_statement
  statement_by s.AtSign = address_assigned
  statement_by (s.Word w) = by_word w
  statement_by _ = pure stat.Statement.empty

  unfoldable pub statement_step : Parser stat.Statement
  statement_step = by_symbol statement_by

-- a statement, where so many constructs may be opened
unfoldable pub statement : ℕ → Parser stat.Statement
statement zero = statement_step zero zero refuse
statement (suc room) = statement_step (suc room) room (statement room)
