-- The grammar of statements, one constructor for each production.
use Rattle.std.specs.Prelude.{ℕ, ◌≡◌, ◌-◌, ◌&&◌, Bool, true, false, List, [], ◌∷◌, Option, Some, None, nat_le, nat_lt}
use Rattle.spl_tree.specs.declared.symbols.Symbol.TheVariants as s
use Rattle.spl_tree.specs.declared.symbols.Reserved.TheVariants as w
use Rattle.spl_tree.specs.Symbols.{Lexeme, Is}
use Rattle.spl_tree.specs.Operators.{Form, number_among}
use Rattle.spl_tree.specs.Expressions as g
use Rattle.spl_tree.specs.Expressions.{place}
use Rattle.spl_tree.specs.Trees as tree
use Rattle.spl_tree.specs.Trees.{Tree, Trees, trees}
use Rattle.spl_tree.specs.StatementTrees as stat
use Rattle.spl_tree.specs.StatementTrees.{closed, statements}

-- class = A | N | AN | AS | ANS, by its number
unfoldable pub class_of : List ℕ → Option ℕ
class_of letters = number_among ("A" ∷ "N" ∷ "AN" ∷ "AS" ∷ "ANS" ∷ []) 0 letters

-- the operator with this number is a relation; as one of the condition code its number is 5 less
abbrev pub is_relation : ℕ → Bool
is_relation op = nat_le 5 op && nat_lt op 11

-- expr
pub data Expression : Tree → List Lexeme → List Lexeme → Type 0 where
  expression : {n : ℕ} {x : Form} {e : Tree} {ts rest : List Lexeme} → g.Level false None 10 n x e ts rest
      → Expression e ts rest

-- condition
pub data Condition : Tree → List Lexeme → List Lexeme → Type 0 where
  condition : {n : ℕ} {x : Form} {e : Tree} {ts rest : List Lexeme} → g.Level true None 10 n x e ts rest
      → Condition e ts rest

-- ref = name [ "(" expr ")" ]
pub data Reference : Tree → List Lexeme → List Lexeme → Type 0 where
  name : {t : Lexeme} {rest : List Lexeme} → Is s.Name t
      → Reference (tree.Tree.named t.letters (trees []) t.at) (t ∷ rest) rest
  element : {e : Tree} {t o z : Lexeme} {ts rest : List Lexeme} → Is s.Name t → Is s.Open o
      → Expression e ts (z ∷ rest) → Is s.Close z
      → Reference (tree.Tree.named t.letters (trees (e ∷ [])) t.at) (t ∷ o ∷ ts) rest

-- target = ref [ ".(" const ":" const ")" ] | "@" name
pub data Target : stat.Target → List Lexeme → List Lexeme → Type 0 where
  plain : {r : Tree} {ts rest : List Lexeme} → Reference r ts rest → Target (stat.Target.plain r) ts rest
  field : {r : Tree} {a b : tree.Constant} {d o k z : Lexeme} {ts mid next rest : List Lexeme}
      → Reference r ts (d ∷ o ∷ mid) → Is s.Dot d
      → Is s.Open o → g.Constant a mid (k ∷ next) → Is s.Colon k → g.Constant b next (z ∷ rest) → Is s.Close z
      → Target (stat.Target.field r a b) ts rest
  address : {a t : Lexeme} {rest : List Lexeme} → Is s.AtSign a → Is s.Name t
      → Target (stat.Target.address t.letters a.at) (a ∷ t ∷ rest) rest

-- ref "," "(" expr ")" | string | ref WHILE class
pub data Source : stat.Source → List Lexeme → List Lexeme → Type 0 where
  counted : {r e : Tree} {k o z : Lexeme} {ts mid rest : List Lexeme} → Reference r ts (k ∷ o ∷ mid) → Is s.Comma k
      → Is s.Open o
      → Expression e mid (z ∷ rest) → Is s.Close z → Source (stat.Source.counted r e) ts rest
  text : {t : Lexeme} {rest : List Lexeme} → Is s.Text t → Source (stat.Source.text t.letters) (t ∷ rest) rest
  while_class : {r : Tree} {n : ℕ} {k t : Lexeme} {ts rest : List Lexeme} → Reference r ts (k ∷ t ∷ rest)
      → Is (s.Word w.While) k → Is s.Name t
      → class_of t.letters ≡ Some n → Source (stat.Source.class_of r n) ts rest

-- effect = MOVE ref ":=" source | SCAN ref (WHILE|UNTIL) expr
pub data Effect : stat.Effect → List Lexeme → List Lexeme → Type 0 where
  move : {r : Tree} {x : stat.Source} {m k : Lexeme} {ts mid rest : List Lexeme} → Is (s.Word w.Move) m
      → Reference r ts (k ∷ mid) → Is s.Assign k
      → Source x mid rest → Effect (stat.Effect.move r x) (m ∷ ts) rest
  scan_while : {r e : Tree} {m k : Lexeme} {ts mid rest : List Lexeme} → Is (s.Word w.Scan) m
      → Reference r ts (k ∷ mid) → Is (s.Word w.While) k
      → Expression e mid rest → Effect (stat.Effect.scan r false e) (m ∷ ts) rest
  scan_until : {r e : Tree} {m k : Lexeme} {ts mid rest : List Lexeme} → Is (s.Word w.Scan) m
      → Reference r ts (k ∷ mid) → Is (s.Word w.Until) k
      → Expression e mid rest → Effect (stat.Effect.scan r true e) (m ∷ ts) rest

-- condition | relop
pub data Test : stat.Test → List Lexeme → List Lexeme → Type 0 where
  condition : {e : Tree} {ts rest : List Lexeme} → Condition e ts rest → Test (stat.Test.condition e) ts rest
  code : {op : ℕ} {t : Lexeme} {rest : List Lexeme} → Is (s.Operator op) t → is_relation op ≡ true
      → Test (stat.Test.code (op - 5)) (t ∷ rest) rest

-- [ STEP expr ]
pub data Stepped : List Tree → List Lexeme → List Lexeme → Type 0 where
  absent : {ts : List Lexeme} → Stepped [] ts ts
  step : {e : Tree} {t : Lexeme} {ts rest : List Lexeme} → Is (s.Word w.Step) t → Expression e ts rest
      → Stepped (e ∷ []) (t ∷ ts) rest

mutual
  pub data Statement : stat.Statement → List Lexeme → List Lexeme → Type 0 where
    empty : {ts : List Lexeme} → Statement stat.Statement.empty ts ts
    -- name ":" statement
    labelled : {x : stat.Statement} {t k : Lexeme} {ts rest : List Lexeme} → Is s.Name t → Is s.Colon k
        → Statement x ts rest
        → Statement (stat.Statement.labelled t.letters t.at x) (t ∷ k ∷ ts) rest
    -- BEGIN statements END
    block : {xs : List stat.Statement} {b z : Lexeme} {ts rest : List Lexeme} → Is (s.Word w.Begin) b
        → Statements xs ts (z ∷ rest) → Is (s.Word w.End) z
        → Statement (stat.Statement.block (statements xs)) (b ∷ ts) rest
    -- IF test THEN statement
    if_then : {q : stat.Test} {x : stat.Statement} {i t : Lexeme} {ts mid rest : List Lexeme} → Is (s.Word w.If) i
        → Test q ts (t ∷ mid)
        → Is (s.Word w.Then) t → Statement x mid rest
        → Statement (stat.Statement.if_test q x (statements []) i.at) (i ∷ ts) rest
    -- IF test THEN statement ELSE statement: the ELSE belongs to no IF inside
    if_else : {q : stat.Test} {x y : stat.Statement} {i t l : Lexeme} {ts mid next rest : List Lexeme}
        → Is (s.Word w.If) i → Test q ts (t ∷ mid)
        → Is (s.Word w.Then) t → Statement x mid (l ∷ next) → closed x ≡ true → Is (s.Word w.Else) l
        → Statement y next rest
        → Statement (stat.Statement.if_test q x (statements (y ∷ [])) i.at) (i ∷ ts) rest
    -- WHILE condition DO statement
    while_do : {e : Tree} {x : stat.Statement} {t k : Lexeme} {ts mid rest : List Lexeme} → Is (s.Word w.While) t
        → Condition e ts (k ∷ mid)
        → Is (s.Word w.Do) k → Statement x mid rest → Statement (stat.Statement.while_true e x t.at) (t ∷ ts) rest
    -- DO statement UNTIL condition
    do_until : {e : Tree} {x : stat.Statement} {t k : Lexeme} {ts mid rest : List Lexeme} → Is (s.Word w.Do) t
        → Statement x ts (k ∷ mid)
        → Is (s.Word w.Until) k → Condition e mid rest → Statement (stat.Statement.until_true x e t.at) (t ∷ ts) rest
    -- FOR name ":=" expr [STEP expr] UNTIL expr DO statement
    for_do : {a b : Tree} {es : List Tree} {x : stat.Statement} {f t k u d : Lexeme}
        {ts after_first after_step mid rest : List Lexeme} → Is (s.Word w.For) f
        → Is s.Name t → Is s.Assign k → Expression a ts after_first → Stepped es after_first (u ∷ after_step)
        → Is (s.Word w.Until) u
        → Expression b after_step (d ∷ mid) → Is (s.Word w.Do) d → Statement x mid rest
        → Statement (stat.Statement.for_values t.letters a (trees es) b x f.at) (f ∷ t ∷ k ∷ ts) rest
    -- CASE expr OF BEGIN statements END
    case_of : {e : Tree} {xs : List stat.Statement} {c o b z : Lexeme} {ts mid rest : List Lexeme}
        → Is (s.Word w.Case) c → Expression e ts (o ∷ b ∷ mid)
        → Is (s.Word w.Of) o → Is (s.Word w.Begin) b → Statements xs mid (z ∷ rest) → Is (s.Word w.End) z
        → Statement (stat.Statement.case_of e (statements xs) c.at) (c ∷ ts) rest
    -- GO name
    go : {g t : Lexeme} {rest : List Lexeme} → Is (s.Word w.Go) g → Is s.Name t
        → Statement (stat.Statement.go_to t.letters g.at) (g ∷ t ∷ rest) rest
    -- GO TO name
    go_to : {g k t : Lexeme} {rest : List Lexeme} → Is (s.Word w.Go) g → Is (s.Word w.To) k → Is s.Name t
        → Statement (stat.Statement.go_to t.letters g.at) (g ∷ k ∷ t ∷ rest) rest
    -- GOTO name
    goto : {g t : Lexeme} {rest : List Lexeme} → Is (s.Word w.Goto) g → Is s.Name t
        → Statement (stat.Statement.go_to t.letters g.at) (g ∷ t ∷ rest) rest
    return : {t : Lexeme} {rest : List Lexeme} → Is (s.Word w.Return) t
        → Statement (stat.Statement.return t.at) (t ∷ rest) rest
    -- target ":=" expr
    assign : {x : stat.Target} {e : Tree} {k : Lexeme} {ts mid rest : List Lexeme} → Target x ts (k ∷ mid)
        → Is s.Assign k → Expression e mid rest
        → Statement (stat.Statement.assign x e (place ts)) ts rest
    -- target ":=" effect
    assign_effect : {x : stat.Target} {e : stat.Effect} {k : Lexeme} {ts mid rest : List Lexeme}
        → Target x ts (k ∷ mid) → Is s.Assign k → Effect e mid rest
        → Statement (stat.Statement.assign_effect x e (place ts)) ts rest
    -- effect
    effect : {e : stat.Effect} {ts rest : List Lexeme} → Effect e ts rest
        → Statement (stat.Statement.do_effect e (place ts)) ts rest
    -- name
    call : {t : Lexeme} {rest : List Lexeme} → Is s.Name t
        → Statement (stat.Statement.call t.letters (trees []) t.at) (t ∷ rest) rest
    -- name "(" expr { "," expr } ")"
    call_with : {es : List Tree} {t o z : Lexeme} {ts rest : List Lexeme} → Is s.Name t → Is s.Open o
        → g.Arguments es ts (z ∷ rest) → Is s.Close z
        → Statement (stat.Statement.call t.letters (trees es) t.at) (t ∷ o ∷ ts) rest

  -- statement { ";" statement }
  pub data Statements : List stat.Statement → List Lexeme → List Lexeme → Type 0 where
    one : {x : stat.Statement} {ts rest : List Lexeme} → Statement x ts rest → Statements (x ∷ []) ts rest
    more : {x : stat.Statement} {xs : List stat.Statement} {k : Lexeme} {ts mid rest : List Lexeme}
        → Statement x ts (k ∷ mid) → Is s.Semicolon k
        → Statements xs mid rest → Statements (x ∷ xs) ts rest
