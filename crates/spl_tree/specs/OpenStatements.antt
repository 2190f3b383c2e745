-- The steps of the chain of open productions for statements. They go to a part with d constructs open around it, and
-- begin no
-- expression's count of operators anew but at 0.
use Rattle.std.specs.Prelude.{ℕ, suc, ◌≡◌, true, false, List, ◌∷◌, None}
use Rattle.spl_tree.specs.declared.symbols.Symbol.TheVariants as s
use Rattle.spl_tree.specs.declared.symbols.Reserved.TheVariants as w
use Rattle.spl_tree.specs.Symbols.{Lexeme, Is}
use Rattle.spl_tree.specs.Expressions as g
use Rattle.spl_tree.specs.Trees as tree
use Rattle.spl_tree.specs.Trees.{Tree}
use Rattle.spl_tree.specs.StatementTrees as stat
use Rattle.spl_tree.specs.StatementTrees.{closed}
use Rattle.spl_tree.specs.Statements as st
use Rattle.spl_tree.specs.Parts as part
use Rattle.spl_tree.specs.Parts.{Part}

-- an expression, a condition
abbrev pub expr : Part
expr = part.level false None 10

abbrev pub cond : Part
cond = part.level true None 10

pub data StatementStep : Part → ℕ → List Lexeme → Part → ℕ → List Lexeme → Type 0 where
  -- name "(" expr
  index : {d : ℕ} {t o : Lexeme} {ts : List Lexeme} → Is s.Name t → Is s.Open o
      → StatementStep part.reference d (t ∷ o ∷ ts) expr (suc d) ts
  index_close : {d : ℕ} {e : Tree} {t o : Lexeme} {ts mid : List Lexeme} → Is s.Name t → Is s.Open o
      → st.Expression e ts mid → StatementStep part.reference d (t ∷ o ∷ ts) part.mark (suc d) mid
  -- behind a reference that is whole, where "(" may go on
  whole_reference : {d : ℕ} {r : Tree} {ts mid : List Lexeme} → st.Reference r ts mid
      → StatementStep part.reference d ts part.mark d mid
  -- ref, and what stands behind it
  source_reference : {d : ℕ} {ts : List Lexeme} → StatementStep part.source d ts part.reference d ts
  source_mark : {d : ℕ} {r : Tree} {ts mid : List Lexeme} → st.Reference r ts mid
      → StatementStep part.source d ts part.mark d mid
  source_open : {d : ℕ} {r : Tree} {k : Lexeme} {ts mid : List Lexeme} → st.Reference r ts (k ∷ mid) → Is s.Comma k
      → StatementStep part.source d ts part.mark d mid
  source_count : {d : ℕ} {r : Tree} {k o : Lexeme} {ts mid : List Lexeme} → st.Reference r ts (k ∷ o ∷ mid)
      → Is s.Comma k → Is s.Open o → StatementStep part.source d ts expr (suc d) mid
  source_close : {d : ℕ} {r e : Tree} {k o : Lexeme} {ts mid next : List Lexeme} → st.Reference r ts (k ∷ o ∷ mid)
      → Is s.Comma k → Is s.Open o → st.Expression e mid next → StatementStep part.source d ts part.mark (suc d) next
  source_class : {d : ℕ} {r : Tree} {k : Lexeme} {ts mid : List Lexeme} → st.Reference r ts (k ∷ mid)
      → Is (s.Word w.While) k → StatementStep part.source d ts part.mark d mid
  -- MOVE ref ":="
  move_reference : {d : ℕ} {m : Lexeme} {ts : List Lexeme} → Is (s.Word w.Move) m
      → StatementStep part.effect d (m ∷ ts) part.reference d ts
  move_assign : {d : ℕ} {r : Tree} {m : Lexeme} {ts mid : List Lexeme} → Is (s.Word w.Move) m → st.Reference r ts mid
      → StatementStep part.effect d (m ∷ ts) part.mark d mid
  move_source : {d : ℕ} {r : Tree} {m k : Lexeme} {ts mid : List Lexeme} → Is (s.Word w.Move) m
      → st.Reference r ts (k ∷ mid) → Is s.Assign k → StatementStep part.effect d (m ∷ ts) part.source d mid
  -- SCAN ref (WHILE|UNTIL)
  scan_reference : {d : ℕ} {m : Lexeme} {ts : List Lexeme} → Is (s.Word w.Scan) m
      → StatementStep part.effect d (m ∷ ts) part.reference d ts
  scan_mark : {d : ℕ} {r : Tree} {m : Lexeme} {ts mid : List Lexeme} → Is (s.Word w.Scan) m → st.Reference r ts mid
      → StatementStep part.effect d (m ∷ ts) part.mark d mid
  scan_while : {d : ℕ} {r : Tree} {m k : Lexeme} {ts mid : List Lexeme} → Is (s.Word w.Scan) m
      → st.Reference r ts (k ∷ mid) → Is (s.Word w.While) k → StatementStep part.effect d (m ∷ ts) expr d mid
  scan_until : {d : ℕ} {r : Tree} {m k : Lexeme} {ts mid : List Lexeme} → Is (s.Word w.Scan) m
      → st.Reference r ts (k ∷ mid) → Is (s.Word w.Until) k → StatementStep part.effect d (m ∷ ts) expr d mid
  -- the condition of an IF
  test_condition : {d : ℕ} {ts : List Lexeme} → StatementStep part.test d ts cond d ts
  -- name ":"
  label : {d : ℕ} {t k : Lexeme} {ts : List Lexeme} → Is s.Name t → Is s.Colon k
      → StatementStep part.statement d (t ∷ k ∷ ts) part.statement (suc d) ts
  -- BEGIN statements
  begin : {d : ℕ} {b : Lexeme} {ts : List Lexeme} → Is (s.Word w.Begin) b
      → StatementStep part.statement d (b ∷ ts) part.statements (suc d) ts
  begin_end : {d : ℕ} {xs : List stat.Statement} {b : Lexeme} {ts mid : List Lexeme} → Is (s.Word w.Begin) b
      → st.Statements xs ts mid → StatementStep part.statement d (b ∷ ts) part.mark (suc d) mid
  -- IF test THEN statement ELSE
  if_test : {d : ℕ} {i : Lexeme} {ts : List Lexeme} → Is (s.Word w.If) i
      → StatementStep part.statement d (i ∷ ts) part.test (suc d) ts
  if_then : {d : ℕ} {q : stat.Test} {i : Lexeme} {ts mid : List Lexeme} → Is (s.Word w.If) i → st.Test q ts mid
      → StatementStep part.statement d (i ∷ ts) part.mark (suc d) mid
  then_branch : {d : ℕ} {q : stat.Test} {i t : Lexeme} {ts mid : List Lexeme} → Is (s.Word w.If) i
      → st.Test q ts (t ∷ mid) → Is (s.Word w.Then) t
      → StatementStep part.statement d (i ∷ ts) part.statement (suc d) mid
  else_mark : {d : ℕ} {q : stat.Test} {x : stat.Statement} {i t : Lexeme} {ts mid next : List Lexeme}
      → Is (s.Word w.If) i → st.Test q ts (t ∷ mid) → Is (s.Word w.Then) t → st.Statement x mid next → closed x ≡ true
      → StatementStep part.statement d (i ∷ ts) part.mark (suc d) next
  else_branch : {d : ℕ} {q : stat.Test} {x : stat.Statement} {i t l : Lexeme} {ts mid next : List Lexeme}
      → Is (s.Word w.If) i → st.Test q ts (t ∷ mid) → Is (s.Word w.Then) t → st.Statement x mid (l ∷ next)
      → closed x ≡ true → Is (s.Word w.Else) l → StatementStep part.statement d (i ∷ ts) part.statement (suc d) next
  -- WHILE condition DO
  while_condition : {d : ℕ} {t : Lexeme} {ts : List Lexeme} → Is (s.Word w.While) t
      → StatementStep part.statement d (t ∷ ts) cond (suc d) ts
  while_do : {d : ℕ} {e : Tree} {t : Lexeme} {ts mid : List Lexeme} → Is (s.Word w.While) t → st.Condition e ts mid
      → StatementStep part.statement d (t ∷ ts) part.mark (suc d) mid
  while_body : {d : ℕ} {e : Tree} {t k : Lexeme} {ts mid : List Lexeme} → Is (s.Word w.While) t
      → st.Condition e ts (k ∷ mid) → Is (s.Word w.Do) k
      → StatementStep part.statement d (t ∷ ts) part.statement (suc d) mid
  -- DO statement UNTIL
  do_body : {d : ℕ} {t : Lexeme} {ts : List Lexeme} → Is (s.Word w.Do) t
      → StatementStep part.statement d (t ∷ ts) part.statement (suc d) ts
  do_until : {d : ℕ} {x : stat.Statement} {t : Lexeme} {ts mid : List Lexeme} → Is (s.Word w.Do) t
      → st.Statement x ts mid → StatementStep part.statement d (t ∷ ts) part.mark (suc d) mid
  do_condition : {d : ℕ} {x : stat.Statement} {t k : Lexeme} {ts mid : List Lexeme} → Is (s.Word w.Do) t
      → st.Statement x ts (k ∷ mid) → Is (s.Word w.Until) k → StatementStep part.statement d (t ∷ ts) cond (suc d) mid
  -- FOR name ":=" expr [STEP expr] UNTIL expr DO
  for_name : {d : ℕ} {f : Lexeme} {ts : List Lexeme} → Is (s.Word w.For) f
      → StatementStep part.statement d (f ∷ ts) part.mark (suc d) ts
  for_assign : {d : ℕ} {f t : Lexeme} {ts : List Lexeme} → Is (s.Word w.For) f → Is s.Name t
      → StatementStep part.statement d (f ∷ t ∷ ts) part.mark (suc d) ts
  for_first : {d : ℕ} {f t k : Lexeme} {ts : List Lexeme} → Is (s.Word w.For) f → Is s.Name t → Is s.Assign k
      → StatementStep part.statement d (f ∷ t ∷ k ∷ ts) expr (suc d) ts
  for_step : {d : ℕ} {a : Tree} {f t k : Lexeme} {ts mid : List Lexeme} → Is (s.Word w.For) f → Is s.Name t
      → Is s.Assign k → st.Expression a ts mid → StatementStep part.statement d (f ∷ t ∷ k ∷ ts) part.mark (suc d) mid
  for_step_value : {d : ℕ} {a : Tree} {f t k p : Lexeme} {ts mid : List Lexeme} → Is (s.Word w.For) f → Is s.Name t
      → Is s.Assign k → st.Expression a ts (p ∷ mid) → Is (s.Word w.Step) p
      → StatementStep part.statement d (f ∷ t ∷ k ∷ ts) expr (suc d) mid
  for_until : {d : ℕ} {a : Tree} {es : List Tree} {f t k : Lexeme} {ts mid next : List Lexeme} → Is (s.Word w.For) f
      → Is s.Name t → Is s.Assign k → st.Expression a ts mid → st.Stepped es mid next
      → StatementStep part.statement d (f ∷ t ∷ k ∷ ts) part.mark (suc d) next
  for_last : {d : ℕ} {a : Tree} {es : List Tree} {f t k u : Lexeme} {ts mid next : List Lexeme} → Is (s.Word w.For) f
      → Is s.Name t → Is s.Assign k → st.Expression a ts mid → st.Stepped es mid (u ∷ next) → Is (s.Word w.Until) u
      → StatementStep part.statement d (f ∷ t ∷ k ∷ ts) expr (suc d) next
  for_do : {d : ℕ} {a b : Tree} {es : List Tree} {f t k u : Lexeme} {ts mid next last : List Lexeme}
      → Is (s.Word w.For) f → Is s.Name t → Is s.Assign k → st.Expression a ts mid → st.Stepped es mid (u ∷ next)
      → Is (s.Word w.Until) u → st.Expression b next last
      → StatementStep part.statement d (f ∷ t ∷ k ∷ ts) part.mark (suc d) last
  for_body : {d : ℕ} {a b : Tree} {es : List Tree} {f t k u o : Lexeme} {ts mid next last : List Lexeme}
      → Is (s.Word w.For) f → Is s.Name t → Is s.Assign k → st.Expression a ts mid → st.Stepped es mid (u ∷ next)
      → Is (s.Word w.Until) u → st.Expression b next (o ∷ last) → Is (s.Word w.Do) o
      → StatementStep part.statement d (f ∷ t ∷ k ∷ ts) part.statement (suc d) last
  -- CASE expr OF BEGIN statements
  case_value : {d : ℕ} {c : Lexeme} {ts : List Lexeme} → Is (s.Word w.Case) c
      → StatementStep part.statement d (c ∷ ts) expr (suc d) ts
  case_of : {d : ℕ} {e : Tree} {c : Lexeme} {ts mid : List Lexeme} → Is (s.Word w.Case) c → st.Expression e ts mid
      → StatementStep part.statement d (c ∷ ts) part.mark (suc d) mid
  case_begin : {d : ℕ} {e : Tree} {c o : Lexeme} {ts mid : List Lexeme} → Is (s.Word w.Case) c
      → st.Expression e ts (o ∷ mid) → Is (s.Word w.Of) o
      → StatementStep part.statement d (c ∷ ts) part.mark (suc d) mid
  case_arms : {d : ℕ} {e : Tree} {c o b : Lexeme} {ts mid : List Lexeme} → Is (s.Word w.Case) c
      → st.Expression e ts (o ∷ b ∷ mid) → Is (s.Word w.Of) o → Is (s.Word w.Begin) b
      → StatementStep part.statement d (c ∷ ts) part.statements (suc d) mid
  case_end : {d : ℕ} {e : Tree} {xs : List stat.Statement} {c o b : Lexeme} {ts mid next : List Lexeme}
      → Is (s.Word w.Case) c → st.Expression e ts (o ∷ b ∷ mid) → Is (s.Word w.Of) o → Is (s.Word w.Begin) b
      → st.Statements xs mid next → StatementStep part.statement d (c ∷ ts) part.mark (suc d) next
  -- GO [TO], GOTO
  go : {d : ℕ} {g : Lexeme} {ts : List Lexeme} → Is (s.Word w.Go) g
      → StatementStep part.statement d (g ∷ ts) part.mark d ts
  go_to : {d : ℕ} {g k : Lexeme} {ts : List Lexeme} → Is (s.Word w.Go) g → Is (s.Word w.To) k
      → StatementStep part.statement d (g ∷ k ∷ ts) part.mark d ts
  goto : {d : ℕ} {g : Lexeme} {ts : List Lexeme} → Is (s.Word w.Goto) g
      → StatementStep part.statement d (g ∷ ts) part.mark d ts
  -- a target, and ":="
  target_reference : {d : ℕ} {ts : List Lexeme} → StatementStep part.statement d ts part.reference d ts
  target_dot : {d : ℕ} {r : Tree} {b : Lexeme} {ts mid : List Lexeme} → st.Reference r ts (b ∷ mid) → Is s.Dot b
      → StatementStep part.statement d ts part.mark d mid
  target_start : {d : ℕ} {r : Tree} {b o : Lexeme} {ts mid : List Lexeme} → st.Reference r ts (b ∷ o ∷ mid)
      → Is s.Dot b → Is s.Open o → StatementStep part.statement d ts part.constant d mid
  target_colon : {d : ℕ} {r : Tree} {v : tree.Constant} {b o : Lexeme} {ts mid next : List Lexeme}
      → st.Reference r ts (b ∷ o ∷ mid) → Is s.Dot b → Is s.Open o → g.Constant v mid next
      → StatementStep part.statement d ts part.mark d next
  target_length : {d : ℕ} {r : Tree} {v : tree.Constant} {b o k : Lexeme} {ts mid next : List Lexeme}
      → st.Reference r ts (b ∷ o ∷ mid) → Is s.Dot b → Is s.Open o → g.Constant v mid (k ∷ next) → Is s.Colon k
      → StatementStep part.statement d ts part.constant d next
  target_close : {d : ℕ} {r : Tree} {v u : tree.Constant} {b o k : Lexeme} {ts mid next last : List Lexeme}
      → st.Reference r ts (b ∷ o ∷ mid) → Is s.Dot b → Is s.Open o → g.Constant v mid (k ∷ next) → Is s.Colon k
      → g.Constant u next last → StatementStep part.statement d ts part.mark d last
  target_address : {d : ℕ} {a : Lexeme} {ts : List Lexeme} → Is s.AtSign a
      → StatementStep part.statement d (a ∷ ts) part.mark d ts
  target_assign : {d : ℕ} {x : stat.Target} {ts mid : List Lexeme} → st.Target x ts mid
      → StatementStep part.statement d ts part.mark d mid
  -- behind ":="
  value : {d : ℕ} {x : stat.Target} {k : Lexeme} {ts mid : List Lexeme} → st.Target x ts (k ∷ mid) → Is s.Assign k
      → StatementStep part.statement d ts expr d mid
  value_effect : {d : ℕ} {x : stat.Target} {k : Lexeme} {ts mid : List Lexeme} → st.Target x ts (k ∷ mid)
      → Is s.Assign k → StatementStep part.statement d ts part.effect d mid
  -- effect
  effect_of : {d : ℕ} {ts : List Lexeme} → StatementStep part.statement d ts part.effect d ts
  -- name "(" arguments
  call_arguments : {d : ℕ} {t o : Lexeme} {ts : List Lexeme} → Is s.Name t → Is s.Open o
      → StatementStep part.statement d (t ∷ o ∷ ts) part.arguments (suc d) ts
  call_close : {d : ℕ} {es : List Tree} {t o : Lexeme} {ts mid : List Lexeme} → Is s.Name t → Is s.Open o
      → g.Arguments es ts mid → StatementStep part.statement d (t ∷ o ∷ ts) part.mark (suc d) mid
  -- behind a statement that is whole, where something may go on
  whole_statement : {d : ℕ} {x : stat.Statement} {ts mid : List Lexeme} → st.Statement x ts mid
      → StatementStep part.statement d ts part.mark d mid
  -- statements
  first_statement : {d : ℕ} {ts : List Lexeme} → StatementStep part.statements d ts part.statement d ts
  semicolon : {d : ℕ} {x : stat.Statement} {ts mid : List Lexeme} → st.Statement x ts mid
      → StatementStep part.statements d ts part.mark d mid
  next_statement : {d : ℕ} {x : stat.Statement} {k : Lexeme} {ts mid : List Lexeme} → st.Statement x ts (k ∷ mid)
      → Is s.Semicolon k → StatementStep part.statements d ts part.statements d mid
