-- How declarations and units are read. A subroutine of a unit gets its segment once the unit's main body is found.
use Rattle.std.specs.Prelude.{ℕ, ◌==◌, ◌++◌, map, Bool, true, false, if◌then◌else◌, List, [], ◌∷◌, Option, Some, None}
use Rattle.spl_tree.specs.declared.expressions.Kind.{Kind}
use Rattle.spl_tree.specs.declared.expressions.Kind.TheVariants as kind
use Rattle.spl_tree.specs.declared.symbols.Symbol.{Symbol}
use Rattle.spl_tree.specs.declared.symbols.Symbol.TheVariants as s
use Rattle.spl_tree.specs.declared.symbols.Reserved.{Reserved}
use Rattle.spl_tree.specs.declared.symbols.Reserved.TheVariants as w
use Rattle.spl_tree.specs.Symbols.{Lexeme}
use Rattle.spl_tree.specs.Operators.{is_sign}
use Rattle.spl_tree.specs.Trees as tree
use Rattle.spl_tree.specs.StatementTrees as stat
use Rattle.spl_tree.specs.DeclarationTrees as decl
use Rattle.spl_tree.specs.DeclarationTrees.{Placed, declarations, UnitTree}
use Rattle.spl_tree.specs.Declarations.{Options, both, fit, option_of, no_options, can_be_body, is_subroutine, pointers}
use Rattle.spl_reading.specs.Readers.{Got, Bad, Parser, ◌>>=◌, pure, refuse, by_symbol, take, expect, repeat}
use Rattle.spl_reading.specs.ReadExpressions.{is, operator_of, constant}
use Rattle.spl_reading.specs.ReadStatements.{statement, statement_list}

-- a further part behind its comma
unfoldable pub more_parts : {A : Type 0} → Parser A → List A → Parser (Bool × List A)
more_parts part xs = by_symbol (λ k. if is s.Comma k then (take >>= λ _. part >>= λ x. pure (true, xs ++ x ∷ [])) else pure (false, xs))

-- part { "," part }
unfoldable pub separated : {A : Type 0} → Parser A → Parser (List A)
separated part = part >>= λ x. repeat (more_parts part) (x ∷ [])

unfoldable pub name : Parser Placed
name = expect s.Name >>= λ t. pure (record { letters = t.letters; at = t.at })

unfoldable pub names : Parser (List Placed)
names = separated name

-- item = name [":=" const]
unfoldable pub item : Parser decl.Item
item = expect s.Name >>= λ t. by_symbol (λ k. if is s.Assign k
    then (take >>= λ _. constant >>= λ v. pure (record { name = t.letters; at = t.at; shape = decl.Shape.simple; first = v ∷ [] }))
    else pure (record { name = t.letters; at = t.at; shape = decl.Shape.simple; first = [] }))

-- the bounds of an array, or the base of a view, behind "("
unfoldable pub shape : Parser decl.Shape
shape = by_symbol (λ k. if operator_of k == 13
    then (do
      _ ← take
      _ ← expect s.Close
      _ ← expect (s.Operator 5)
      b ← expect s.Name
      pure (decl.Shape.view b.letters))
    else (do
      a ← constant
      _ ← expect s.Colon
      b ← constant
      _ ← expect s.Close
      pure (decl.Shape.array a b)))

unfoldable pub array : Parser decl.Item
array = do
  t ← expect s.Name
  _ ← expect s.Open
  x ← shape
  pure (record { name = t.letters; at = t.at; shape = x; first = [] })

-- the last item of a list with these initial values
abbrev pub with_values : List tree.Constant → decl.Item → decl.Item
with_values vs i = record { name = i.name; at = i.at; shape = i.shape; first = vs }

-- what goes on with a list of arrays: a further one, or the values of the last
unfoldable pub more_arrays : List decl.Item × decl.Item → Parser (Bool × (List decl.Item × decl.Item))
more_arrays r = by_symbol (λ k. if is s.Comma k then (take >>= λ _. array >>= λ i. pure (true, (r.0 ++ r.1 ∷ [], i)))
    else if is s.Assign k then (take >>= λ _. separated constant >>= λ vs. pure (false, (r.0, with_values vs r.1))) else pure (false, r))

unfoldable pub arrays : Parser (List decl.Item)
arrays = array >>= λ i. repeat more_arrays ([], i) >>= λ r. pure (r.0 ++ r.1 ∷ [])

-- a further part of a sum of constants
unfoldable pub more_terms : List decl.Term → Parser (Bool × List decl.Term)
more_terms ts = by_symbol (λ k. if is_sign (operator_of k)
    then (take >>= λ p. constant >>= λ v. pure (true, ts ++ record { minus = operator_of p.symbol == 12; value = v } ∷ [])) else pure (false, ts))

unfoldable pub equal : Parser decl.Equal
equal = do
  t ← expect s.Name
  _ ← expect (s.Operator 5)
  v ← constant
  ts ← repeat more_terms (record { minus = false; value = v } ∷ [])
  pure (record { name = t.letters; at = t.at; terms = ts })

-- what is read depends on the first token
unfoldable pub by_token : {A : Type 0} → (Lexeme → Parser A) → Parser A
by_token f [] = Bad []
by_token f (t ∷ ts) = f t (t ∷ ts)

-- option by option: FORWARD and EXTERNAL exclude each other
unfoldable pub option_among : Options → Option Options → Parser Options
option_among a None = refuse
option_among a (Some b) = if fit (both a b) then (take >>= λ _. pure (both a b)) else refuse

unfoldable pub option_behind : Options → Parser Options
option_behind a = by_token (λ t. if is s.Name t.symbol then option_among a (option_of t.letters) else refuse)

unfoldable pub more_options : Options → Parser (Bool × Options)
more_options a = by_symbol (λ k. if is s.Comma k then (take >>= λ _. option_behind a >>= λ b. pure (true, b)) else pure (false, a))

unfoldable pub options : Parser Options
options = option_behind no_options >>= repeat more_options

-- [ "(" name { "," name } ")" ]
unfoldable pub parameters : Parser (List Placed)
parameters = by_symbol (λ k. if is s.Open k then (take >>= λ _. names >>= λ ns. expect s.Close >>= λ _. pure ns) else pure [])

-- the names of some parameters and the ";" behind them
unfoldable pub spec_names : Kind → Bool → Parser decl.Spec
spec_names c is_array = names >>= λ ns. expect s.Semicolon >>= λ _. pure (record { kind = c; array = is_array; names = ns })

unfoldable pub spec_behind : Kind → Parser decl.Spec
spec_behind c = by_symbol (λ k. if is (s.Word w.Array) k then (take >>= λ _. spec_names c true) else spec_names c false)

-- a further specification, with the ";" behind it
unfoldable pub spec_by : List decl.Spec → Symbol → Parser (Bool × List decl.Spec)
spec_by ss (s.Type c) = take >>= λ _. spec_behind c >>= λ x. pure (true, ss ++ x ∷ [])
spec_by ss _ = by_symbol (λ k. if is (s.Word w.Array) k then (take >>= λ _. spec_names kind.Logical true >>= λ x. pure (true, ss ++ x ∷ [])) else pure (false, ss))

unfoldable pub more_specs : List decl.Spec → Parser (Bool × List decl.Spec)
more_specs ss = by_symbol (spec_by ss)

-- ";" [ VALUE names ";" ] { spec ";" }
unfoldable pub heading_tail : Parser (List Placed × List decl.Spec)
heading_tail = expect s.Semicolon >>= λ _. by_symbol (λ k. if is (s.Word w.Value) k
    then (take >>= λ _. names >>= λ vs. expect s.Semicolon >>= λ _. repeat more_specs [] >>= λ ss. pure (vs, ss))
    else (repeat more_specs [] >>= λ ss. pure ([], ss)))

-- a heading without its options, of this segment or of that in force at its word
unfoldable pub heading : Option Kind → (Lexeme → ℕ) → Parser (Bool → decl.Heading)
heading r segment = do
  p ← take
  t ← expect s.Name
  ns ← parameters
  x ← heading_tail
  pure (λ split. record { result = r; name = t.letters; names = ns; values = x.0; specs = x.1; split = split; at = t.at; segment = segment p })

-- the declarations and statements of a body
abbrev pub BodyRead : Type 0
BodyRead = List decl.Declaration × List stat.Statement

-- `body` reads the body of a procedure of a segment; where u is false no procedure may be declared
module _ (room : ℕ) (body : ℕ → Parser BodyRead) (u : Bool) where
  unfoldable pub array_data : Bool → Kind → Parser decl.Declaration
  array_data own c = take >>= λ _. arrays >>= λ is. pure (decl.Declaration.data_items own c is)

  unfoldable pub item_data : Bool → Kind → Parser decl.Declaration
  item_data own c = separated item >>= λ is. pure (decl.Declaration.data_items own c is)

  -- behind a heading
  unfoldable pub behind_heading : (Bool → decl.Heading) → Parser decl.Declaration
  behind_heading h = by_symbol (λ k. if is (s.Word w.Options) k
      then (take >>= λ _. options >>= λ a. if a.forward then pure (decl.Declaration.forward (h a.split)) else if a.external then pure (decl.Declaration.external (h a.split))
      else (expect s.Semicolon >>= λ _. body (h a.split).segment >>= λ b. pure (decl.Declaration.procedure (h a.split) (declarations b.0) b.1)))
      else (body (h false).segment >>= λ b. pure (decl.Declaration.procedure (h false) (declarations b.0) b.1)))

  unfoldable pub procedure : Option Kind → Parser decl.Declaration
  procedure r = heading r (λ p. p.segment) >>= behind_heading

  unfoldable pub subroutine : ℕ → Option Kind → Parser decl.Declaration
  subroutine segment r = heading r (λ _. segment) >>= λ h. statement room >>= λ x. pure (decl.Declaration.subroutine (h false) x)

  unfoldable pub owned_by : Symbol → Parser decl.Declaration
  owned_by (s.Type c) = take >>= λ _. by_symbol (λ k. if is (s.Word w.Array) k then array_data true c else item_data true c)
  owned_by k = if is (s.Word w.Array) k then array_data true kind.Logical else refuse

  -- behind the word of a kind; behind subroutines, where `after` says so, only subroutines stand
  unfoldable pub typed_by : Bool → ℕ → Kind → Symbol → Parser decl.Declaration
  typed_by after segment c k = if is (s.Word w.Subroutine) k then subroutine segment (Some c) else if after then refuse
      else if is (s.Word w.Array) k then array_data false c
      else if is (s.Word w.Pointer) k then (take >>= λ _. names >>= λ ns. pure (decl.Declaration.data_items false c (pointers ns)))
      else if is (s.Word w.Procedure) k then (if u then procedure (Some c) else refuse) else item_data false c

  unfoldable pub typed : Bool → ℕ → Kind → Parser decl.Declaration
  typed after segment c = by_symbol (typed_by after segment c)

  unfoldable pub by_word : Bool → ℕ → Reserved → Parser decl.Declaration
  by_word after segment w.Subroutine = subroutine segment None
  by_word after segment w.Own = if after then refuse else (take >>= λ _. by_symbol owned_by)
  by_word after segment w.Array = if after then refuse else array_data false kind.Logical
  by_word after segment w.Equate = if after then refuse else (take >>= λ _. separated equal >>= λ es. pure (decl.Declaration.equate es))
  by_word after segment w.Intrinsic = if after then refuse else (take >>= λ _. names >>= λ ns. pure (decl.Declaration.intrinsic ns))
  by_word after segment w.Label = if after then refuse else (take >>= λ _. names >>= λ ns. pure (decl.Declaration.label ns))
  by_word after segment w.Procedure = if after then refuse else if u then procedure None else refuse
  by_word after segment _ = refuse

  unfoldable pub declaration_by : Bool → ℕ → Symbol → Parser decl.Declaration
  declaration_by after segment (s.Type c) = take >>= λ _. typed after segment c
  declaration_by after segment (s.Word k) = by_word after segment k
  declaration_by after segment _ = refuse

  -- a declaration
  unfoldable pub declaration : Bool → ℕ → Parser decl.Declaration
  declaration after segment = by_symbol (declaration_by after segment)

  -- a symbol that begins a declaration
  unfoldable pub declares : Symbol → Bool
  declares (s.Type c) = true
  declares (s.Word w.Subroutine) = true
  declares (s.Word w.Own) = true
  declares (s.Word w.Array) = true
  declares (s.Word w.Equate) = true
  declares (s.Word w.Intrinsic) = true
  declares (s.Word w.Label) = true
  declares (s.Word w.Procedure) = true
  declares _ = false

  -- what goes on with declarations: a further one and its ";"
  unfoldable pub more_declarations : ℕ → Bool × List decl.Declaration → Parser (Bool × (Bool × List decl.Declaration))
  more_declarations segment r = by_symbol (λ k. if declares k
      then (declaration r.0 segment >>= λ d. expect s.Semicolon >>= λ _. pure (true, (is_subroutine d, r.1 ++ d ∷ []))) else pure (false, r))

  -- { decl ";" }
  unfoldable pub declaration_list : ℕ → Parser (List decl.Declaration)
  declaration_list segment = repeat (more_declarations segment) (false, []) >>= λ r. pure r.1

-- the body of a procedure
unfoldable pub body : ℕ → ℕ → Parser BodyRead
body room segment = by_symbol (λ k. if is (s.Word w.Begin) k
    then (do
      _ ← take
      ds ← declaration_list room (λ _. refuse) false segment
      xs ← statement_list (statement room)
      _ ← expect (s.Word w.End)
      pure (ds, xs))
    else (statement room >>= λ x. if can_be_body x then pure ([], x ∷ []) else refuse))

-- the subroutines among declarations, of this segment
abbrev pub of_segment : ℕ → decl.Declaration → decl.Declaration
of_segment segment (decl.Declaration.subroutine h x) = decl.Declaration.subroutine (record {
  result = h.result;
  name = h.name;
  names = h.names;
  values = h.values;
  specs = h.specs;
  split = h.split;
  at = h.at;
  segment = segment;
}) x
of_segment segment d = d

-- the segment in force at the next token
unfoldable pub next_segment : Parser ℕ
next_segment [] = Bad []
next_segment (t ∷ ts) = Got t.segment (t ∷ ts)

-- a unit
unfoldable pub unit : ℕ → Parser UnitTree
unit room = do
  b ← expect (s.Word w.Begin)
  ds ← declaration_list room (body room) true 0
  segment ← next_segment
  xs ← statement_list (statement room)
  _ ← expect (s.Word w.End)
  _ ← expect s.Dot
  _ ← expect s.Stop
  pure (record { items = map (of_segment segment) ds; statements = xs; segment = segment; at = b.at })

-- how the bodies of procedures are read: in a procedure none is declared
abbrev pub bodies : ℕ → Bool → ℕ → Parser BodyRead
bodies room procedures = if procedures then body room else (λ _. refuse)

-- the reader of a declaration: of a unit, or else of a body; behind a subroutine or not; in this segment
abbrev pub declaration_of : Bool → Bool → ℕ → ℕ → Parser decl.Declaration
declaration_of procedures after segment room = declaration room (bodies room procedures) procedures after segment
