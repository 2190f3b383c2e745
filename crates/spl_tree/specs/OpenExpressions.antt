-- The chain of productions that are open behind some tokens, for expressions and conditions. A step goes from a
-- production to
-- its part that is still open; the parts before it are spelled whole. Beside each part stand the constructs that are
-- open
-- around it, d, and the operators so far of the expression that it belongs to, n: the nesting is d + n / 8.
use Rattle.std.specs.Prelude.{ℕ, suc, ◌+◌, ◌/◌, ◌≡◌, ◌==◌, Bool, true, false, List, ◌∷◌, Option, Some, None}
use Rattle.spl_tree.specs.declared.names_and_places.At.{At}
use Rattle.spl_tree.specs.declared.expressions.Kind.{Kind}
use Rattle.spl_tree.specs.declared.symbols.Symbol.TheVariants as s
use Rattle.spl_tree.specs.Symbols.{Lexeme, Is}
use Rattle.spl_tree.specs.Operators.{Form, comparison, binds, is_sign, shift_of}
use Rattle.spl_tree.specs.Expressions as g
use Rattle.spl_tree.specs.Trees as tree
use Rattle.spl_tree.specs.OpenStatements.{StatementStep}
use Rattle.spl_tree.specs.OpenDeclarations.{DeclarationStep}
pub use Rattle.spl_tree.specs.Parts.{Part, constant, level, unary, primary, arguments, mark}

pub data Step : Part → ℕ → ℕ → List Lexeme → Part → ℕ → ℕ → List Lexeme → Type 0 where
  -- behind the sign of a constant
  constant_sign : {d n op : ℕ} {t : Lexeme} {ts : List Lexeme} → Is (s.Operator op) t → is_sign op ≡ true
      → Step constant d n (t ∷ ts) mark d n ts
  -- behind a part that is whole, where an operator may go on
  whole : {c : Bool} {f : Option At} {h m d n : ℕ} {x : Form} {e : tree.Tree} {ts rest : List Lexeme}
      → g.Level c f h m x e ts rest
      → Step (level c f h) d n ts mark d (n + m) rest
  -- in an operand
  operand : {c : Bool} {f : Option At} {d n : ℕ} {ts : List Lexeme}
      → Step (level c f 0) d n ts (unary f) (d + n / 8) 0 ts
  -- in the level below
  below : {c : Bool} {f : Option At} {h d n : ℕ} {ts : List Lexeme} → (suc h == 3) ≡ false
      → Step (level c f (suc h)) d n ts (level c f h) d n ts
  -- in the first term of a sum
  unsigned : {c : Bool} {h d n : ℕ} {ts : List Lexeme} → (suc h == 3) ≡ true
      → Step (level c None (suc h)) d n ts (level c None h) d n ts
  signed : {c : Bool} {h d n op : ℕ} {t : Lexeme} {ts : List Lexeme} → (suc h == 3) ≡ true → Is (s.Operator op) t
      → is_sign op ≡ true
      → g.negates op ts ≡ false → Step (level c None (suc h)) d n (t ∷ ts) (level c None h) d n ts
  negative : {c : Bool} {h d n : ℕ} {t : Lexeme} {ts : List Lexeme} → (suc h == 3) ≡ true → Is (s.Operator 12) t
      → Step (level c None (suc h)) d n (t ∷ ts) (level c (Some t.at) h) d n ts
  -- behind an operator
  right : {c : Bool} {f : Option At} {h m d n op : ℕ} {x : Form} {a : tree.Tree} {o : Lexeme} {ts mid : List Lexeme}
      → (suc h == 4) ≡ false
      → g.Level c f (suc h) m x a ts (o ∷ mid) → Is (s.Operator op) o → (binds op == suc h) ≡ true
      → Step (level c f (suc h)) d n ts (level c None h) d (suc (n + m)) mid
  right_of_relation : {c : Bool} {f : Option At} {h m d n op : ℕ} {x : Form} {a : tree.Tree} {o : Lexeme}
      {ts mid : List Lexeme} → (suc h == 4) ≡ true
      → g.Level c f h m x a ts (o ∷ mid) → Is (s.Operator op) o → (binds op == suc h) ≡ true
      → Step (level c f (suc h)) d n ts (level c None h) d (suc (n + m)) mid
  -- "&", its shift, "(", const
  shift_mark : {c : Bool} {f : Option At} {h m d n : ℕ} {x : Form} {e : tree.Tree} {a : Lexeme} {ts mid : List Lexeme}
      → (suc h == 1) ≡ true
      → g.Level c f (suc h) m x e ts (a ∷ mid) → Is s.Ampersand a
      → Step (level c f (suc h)) d n ts mark d (suc (n + m)) mid
  shift_name : {c : Bool} {f : Option At} {h m d n k : ℕ} {x : Form} {e : tree.Tree} {a w : Lexeme}
      {ts mid : List Lexeme} → (suc h == 1) ≡ true
      → g.Level c f (suc h) m x e ts (a ∷ w ∷ mid) → Is s.Ampersand a → Is s.Name w → shift_of w.letters ≡ Some k
      → Step (level c f (suc h)) d n ts mark d (suc (n + m)) mid
  shift_count : {c : Bool} {f : Option At} {h m d n k : ℕ} {x : Form} {e : tree.Tree} {a w o : Lexeme}
      {ts mid : List Lexeme} → (suc h == 1) ≡ true
      → g.Level c f (suc h) m x e ts (a ∷ w ∷ o ∷ mid) → Is s.Ampersand a → Is s.Name w → shift_of w.letters ≡ Some k
      → Is s.Open o
      → Step (level c f (suc h)) d n ts constant d (suc (n + m)) mid
  shift_close : {c : Bool} {f : Option At} {h m d n k : ℕ} {x : Form} {e : tree.Tree} {v : tree.Constant}
      {a w o : Lexeme} {ts mid rest : List Lexeme} → (suc h == 1) ≡ true
      → g.Level c f (suc h) m x e ts (a ∷ w ∷ o ∷ mid) → Is s.Ampersand a → Is s.Name w → shift_of w.letters ≡ Some k
      → Is s.Open o → g.Constant v mid rest
      → Step (level c f (suc h)) d n ts mark d (suc (n + m)) rest
  -- two references and a relation, "," "(" expr
  bytes_comma : {f : Option At} {h m d n : ℕ} {e : tree.Tree} {k : Lexeme} {ts mid : List Lexeme} → (suc h == 8) ≡ true
      → g.Level true f h m comparison e ts (k ∷ mid) → Is s.Comma k
      → Step (level true f (suc h)) d n ts mark d (n + m) mid
  bytes_count : {f : Option At} {h m d n : ℕ} {e : tree.Tree} {k o : Lexeme} {ts mid : List Lexeme}
      → (suc h == 8) ≡ true
      → g.Level true f h m comparison e ts (k ∷ o ∷ mid) → Is s.Comma k → Is s.Open o
      → Step (level true f (suc h)) d n ts (level false None 10) (suc (d + (n + m) / 8)) 0 mid
  bytes_close : {f : Option At} {h m j d n : ℕ} {x : Form} {e count : tree.Tree} {k o : Lexeme}
      {ts mid rest : List Lexeme} → (suc h == 8) ≡ true
      → g.Level true f h m comparison e ts (k ∷ o ∷ mid) → Is s.Comma k → Is s.Open o
      → g.Level false None 10 j x count mid rest
      → Step (level true f (suc h)) d n ts mark (suc (d + (n + m) / 8)) 0 rest
  -- behind a primary that is whole, where "(" or "." may go on
  whole_primary : {f : Option At} {d : ℕ} {x : Form} {e : tree.Tree} {ts rest : List Lexeme} → g.Primary f x e ts rest
      → Step (primary f) d 0 ts mark d 0 rest
  -- behind NOT
  inverse : {d : ℕ} {t : Lexeme} {ts : List Lexeme} → Is s.Not t
      → Step (unary None) d 0 (t ∷ ts) (unary None) (suc d) 0 ts
  -- in a primary
  primary_of : {f : Option At} {d : ℕ} {ts : List Lexeme} → Step (unary f) d 0 ts (primary f) d 0 ts
  -- "." "(" const ":" const
  bits_dot : {f : Option At} {d : ℕ} {x : Form} {e : tree.Tree} {b : Lexeme} {ts mid : List Lexeme}
      → g.Primary f x e ts (b ∷ mid) → Is s.Dot b
      → Step (unary f) d 0 ts mark d 0 mid
  bits_start : {f : Option At} {d : ℕ} {x : Form} {e : tree.Tree} {b o : Lexeme} {ts mid : List Lexeme}
      → g.Primary f x e ts (b ∷ o ∷ mid) → Is s.Dot b
      → Is s.Open o → Step (unary f) d 0 ts constant d 0 mid
  bits_colon : {f : Option At} {d : ℕ} {x : Form} {e : tree.Tree} {v : tree.Constant} {b o : Lexeme}
      {ts mid next : List Lexeme} → g.Primary f x e ts (b ∷ o ∷ mid)
      → Is s.Dot b → Is s.Open o → g.Constant v mid next → Step (unary f) d 0 ts mark d 0 next
  bits_length : {f : Option At} {d : ℕ} {x : Form} {e : tree.Tree} {v : tree.Constant} {b o k : Lexeme}
      {ts mid next : List Lexeme} → g.Primary f x e ts (b ∷ o ∷ mid)
      → Is s.Dot b → Is s.Open o → g.Constant v mid (k ∷ next) → Is s.Colon k → Step (unary f) d 0 ts constant d 0 next
  bits_close : {f : Option At} {d : ℕ} {x : Form} {e : tree.Tree} {v w : tree.Constant} {b o k : Lexeme}
      {ts mid next rest : List Lexeme} → g.Primary f x e ts (b ∷ o ∷ mid)
      → Is s.Dot b → Is s.Open o → g.Constant v mid (k ∷ next) → Is s.Colon k → g.Constant w next rest
      → Step (unary f) d 0 ts mark d 0 rest
  -- name "(" arguments
  call_arguments : {d : ℕ} {t o : Lexeme} {ts : List Lexeme} → Is s.Name t → Is s.Open o
      → Step (primary None) d 0 (t ∷ o ∷ ts) arguments (suc d) 0 ts
  call_close : {d : ℕ} {es : List tree.Tree} {t o : Lexeme} {ts rest : List Lexeme} → Is s.Name t → Is s.Open o
      → g.Arguments es ts rest
      → Step (primary None) d 0 (t ∷ o ∷ ts) mark (suc d) 0 rest
  -- "@" name "(" expr
  address_name : {d : ℕ} {a : Lexeme} {ts : List Lexeme} → Is s.AtSign a → Step (primary None) d 0 (a ∷ ts) mark d 0 ts
  address_index : {d : ℕ} {a t o : Lexeme} {ts : List Lexeme} → Is s.AtSign a → Is s.Name t → Is s.Open o
      → Step (primary None) d 0 (a ∷ t ∷ o ∷ ts) (level false None 10) (suc d) 0 ts
  address_close : {d n : ℕ} {x : Form} {e : tree.Tree} {a t o : Lexeme} {ts rest : List Lexeme} → Is s.AtSign a
      → Is s.Name t → Is s.Open o
      → g.Level false None 10 n x e ts rest → Step (primary None) d 0 (a ∷ t ∷ o ∷ ts) mark (suc d) 0 rest
  -- "(" expr
  inside : {d : ℕ} {o : Lexeme} {ts : List Lexeme} → Is s.Open o
      → Step (primary None) d 0 (o ∷ ts) (level false None 10) (suc d) 0 ts
  close : {d n : ℕ} {x : Form} {e : tree.Tree} {o : Lexeme} {ts rest : List Lexeme} → Is s.Open o
      → g.Level false None 10 n x e ts rest
      → Step (primary None) d 0 (o ∷ ts) mark (suc d) 0 rest
  -- type "(" expr
  transfer_open : {d : ℕ} {k : Kind} {t : Lexeme} {ts : List Lexeme} → Is (s.Type k) t
      → Step (primary None) d 0 (t ∷ ts) mark d 0 ts
  transfer_inside : {d : ℕ} {k : Kind} {t o : Lexeme} {ts : List Lexeme} → Is (s.Type k) t → Is s.Open o
      → Step (primary None) d 0 (t ∷ o ∷ ts) (level false None 10) (suc d) 0 ts
  transfer_close : {d n : ℕ} {k : Kind} {x : Form} {e : tree.Tree} {t o : Lexeme} {ts rest : List Lexeme}
      → Is (s.Type k) t → Is s.Open o
      → g.Level false None 10 n x e ts rest → Step (primary None) d 0 (t ∷ o ∷ ts) mark (suc d) 0 rest
  -- the arguments from one on, and from the next on
  argument : {d : ℕ} {ts : List Lexeme} → Step arguments d 0 ts (level false None 10) d 0 ts
  -- behind one, where a comma may go on
  argument_whole : {d n : ℕ} {x : Form} {e : tree.Tree} {ts rest : List Lexeme} → g.Level false None 10 n x e ts rest
      → Step arguments d 0 ts mark d 0 rest
  next_argument : {d n : ℕ} {x : Form} {e : tree.Tree} {k : Lexeme} {ts mid : List Lexeme}
      → g.Level false None 10 n x e ts (k ∷ mid) → Is s.Comma k
      → Step arguments d 0 ts arguments d 0 mid
  -- in a statement
  of_statement : {p q : Part} {d j : ℕ} {ts mid : List Lexeme} → StatementStep p d ts q j mid → Step p d 0 ts q j 0 mid
  -- in a declaration or a unit
  of_declaration : {p q : Part} {d : ℕ} {ts mid : List Lexeme} → DeclarationStep p ts q mid → Step p d 0 ts q d 0 mid

-- A chain of steps: behind the tokens before the second list, the second part is open, with what is open around it.
pub data Opens : Part → ℕ → ℕ → List Lexeme → Part → ℕ → ℕ → List Lexeme → Type 0 where
  here : {p : Part} {d n : ℕ} {ts : List Lexeme} → Opens p d n ts p d n ts
  inner : {p q r : Part} {d n j k l m : ℕ} {ts mid rest : List Lexeme} → Step p d n ts q j k mid
      → Opens q j k mid r l m rest → Opens p d n ts r l m rest

-- how many constructs may be open
abbrev pub limit : ℕ
limit = 64

-- the nesting where so many constructs are open around an expression with so many operators
abbrev pub nesting : ℕ → ℕ → ℕ
nesting d n = d + n / 8

-- a chain to some open part
pub record OpensAt (p : Part) (d n : ℕ) (ts rest : List Lexeme) : Type 0 where
  pub part : Part
  pub constructs : ℕ
  pub operators : ℕ
  pub chain : Opens p d n ts part constructs operators rest
