-- The grammar of constants, expressions and conditions, one constructor for each production. In `P .. ts rest` the part
-- stands at the front of the tokens ts, and rest follows it.
use Rattle.std.specs.Prelude.{ℕ, suc, ◌+◌, ◌≡◌, ◌==◌, ◌&&◌, Bool, true, false, List, [], ◌∷◌, Option, Some, None}
use Rattle.spl_tree.specs.declared.names_and_places.At.{At}
use Rattle.spl_tree.specs.declared.expressions.Kind.{Kind}
use Rattle.spl_tree.specs.declared.symbols.Symbol.TheVariants as s
use Rattle.spl_tree.specs.Symbols.{Lexeme, Is}
use Rattle.spl_tree.specs.Operators.{Form, reference, comparison, other, compared, form_of_call, bytes_of, binds, is_sign, sign_number, is_number, negated, shift_of}
use Rattle.spl_tree.specs.Trees as tree

-- the place of the first token
abbrev pub place : List Lexeme → At
place [] = record { unit = 0; line = 0; column = 0 }
place (t ∷ ts) = t.at

-- the place where a part begins: that of the minus that belongs to its number, or else of its first token
abbrev pub start : Option At → List Lexeme → At
start None ts = place ts
start (Some at) ts = at

-- a minus that is followed by a number belongs to the number
abbrev pub negates : ℕ → List Lexeme → Bool
negates op [] = false
negates op (t ∷ ts) = op == 12 && is_number t.symbol

-- const = ["+"|"-"] number | string | TRUE | FALSE | name
pub data Constant : tree.Constant → List Lexeme → List Lexeme → Type 0 where
  number : {v : ℕ} {t : Lexeme} {rest : List Lexeme} → Is (s.Number v) t
      → Constant (tree.Constant.number false v) (t ∷ rest) rest
  wide : {v : ℕ} {t : Lexeme} {rest : List Lexeme} → Is (s.Wide v) t
      → Constant (tree.Constant.wide false v) (t ∷ rest) rest
  signed_number : {op v : ℕ} {p t : Lexeme} {rest : List Lexeme} → Is (s.Operator op) p → is_sign op ≡ true
      → Is (s.Number v) t
      → Constant (tree.Constant.number (op == 12) v) (p ∷ t ∷ rest) rest
  signed_wide : {op v : ℕ} {p t : Lexeme} {rest : List Lexeme} → Is (s.Operator op) p → is_sign op ≡ true
      → Is (s.Wide v) t
      → Constant (tree.Constant.wide (op == 12) v) (p ∷ t ∷ rest) rest
  text : {t : Lexeme} {rest : List Lexeme} → Is s.Text t → Constant (tree.Constant.text t.letters) (t ∷ rest) rest
  truth : {b : Bool} {t : Lexeme} {rest : List Lexeme} → Is (s.Truth b) t
      → Constant (tree.Constant.truth b) (t ∷ rest) rest
  name : {t : Lexeme} {rest : List Lexeme} → Is s.Name t → Constant (tree.Constant.name t.letters t.at) (t ∷ rest) rest

mutual
  -- A part of an expression of level h, or of a condition where c is true. A minus at f stands before its number. It
  -- has n
  -- operators of its own, the form x and the tree e.
  pub data Level : Bool → Option At → ℕ → ℕ → Form → tree.Tree → List Lexeme → List Lexeme → Type 0 where
    operand : {c : Bool} {f : Option At} {x : Form} {e : tree.Tree} {ts rest : List Lexeme} → Unary f x e ts rest
        → Level c f 0 0 x e ts rest
    -- a level stands for the one below
    up : {c : Bool} {f : Option At} {h n : ℕ} {x : Form} {e : tree.Tree} {ts rest : List Lexeme} → (suc h == 3) ≡ false
        → Level c f h n x e ts rest → Level c f (suc h) n x e ts rest
    -- sum = term
    unsigned : {c : Bool} {h n : ℕ} {x : Form} {e : tree.Tree} {ts rest : List Lexeme} → (suc h == 3) ≡ true
        → Level c None h n x e ts rest → Level c None (suc h) n x e ts rest
    -- sum = ("+"|"-") term
    signed : {c : Bool} {h n op : ℕ} {x : Form} {e : tree.Tree} {t : Lexeme} {ts rest : List Lexeme}
        → (suc h == 3) ≡ true
        → Is (s.Operator op) t → is_sign op ≡ true → negates op ts ≡ false → Level c None h n x e ts rest
        → Level c None (suc h) n other (tree.Tree.unary (sign_number op) e t.at) (t ∷ ts) rest
    -- sum = "-" term, where the term begins with a number
    negative : {c : Bool} {h n : ℕ} {x : Form} {e : tree.Tree} {t : Lexeme} {ts rest : List Lexeme}
        → (suc h == 3) ≡ true
        → Is (s.Operator 12) t → Level c (Some t.at) h n x e ts rest → Level c None (suc h) n other e (t ∷ ts) rest
    -- left operator right, from the left
    joined : {c : Bool} {f : Option At} {h m n op : ℕ} {x y : Form} {a b : tree.Tree} {o : Lexeme}
        {ts mid rest : List Lexeme}
        → (suc h == 4) ≡ false → Level c f (suc h) m x a ts (o ∷ mid) → Is (s.Operator op) o
        → (binds op == suc h) ≡ true
        → Level c None h n y b mid rest
        → Level c f (suc h) (suc (m + n)) other (tree.Tree.binary op a b (start f ts)) ts rest
    -- rel = sum relop sum: relations do not follow one another
    related : {c : Bool} {f : Option At} {h m n op : ℕ} {x y z : Form} {a b : tree.Tree} {o : Lexeme}
        {ts mid rest : List Lexeme}
        → (suc h == 4) ≡ true → Level c f h m x a ts (o ∷ mid) → Is (s.Operator op) o → (binds op == suc h) ≡ true
        → Level c None h n y b mid rest → compared x y ≡ z
        → Level c f (suc h) (suc (m + n)) z (tree.Tree.binary op a b (start f ts)) ts rest
    -- shift = shift "&" (ASL|ASR|LSL|LSR|CSL|CSR) "(" const ")"
    shifted : {c : Bool} {f : Option At} {h n k : ℕ} {x : Form} {e : tree.Tree} {v : tree.Constant} {a w o z : Lexeme}
        {ts mid rest : List Lexeme}
        → (suc h == 1) ≡ true → Level c f (suc h) n x e ts (a ∷ w ∷ o ∷ mid) → Is s.Ampersand a → Is s.Name w
        → shift_of w.letters ≡ Some k → Is s.Open o → Constant v mid (z ∷ rest) → Is s.Close z
        → Level c f (suc h) (suc n) other (tree.Tree.shift k e v (start f ts)) ts rest
    -- catom = ref relop ref "," "(" expr ")"
    bytes : {f : Option At} {h m n : ℕ} {x : Form} {e count : tree.Tree} {k o z : Lexeme} {ts mid rest : List Lexeme}
        → (suc h == 8) ≡ true → Level true f h m comparison e ts (k ∷ o ∷ mid) → Is s.Comma k → Is s.Open o
        → Level false None 10 n x count mid (z ∷ rest) → Is s.Close z
        → Level true f (suc h) m other (bytes_of e count) ts rest

  -- an operand
  pub data Unary : Option At → Form → tree.Tree → List Lexeme → List Lexeme → Type 0 where
    -- unary = NOT unary
    inverse : {x : Form} {e : tree.Tree} {t : Lexeme} {ts rest : List Lexeme} → Is s.Not t → Unary None x e ts rest
        → Unary None other (tree.Tree.unary 2 e t.at) (t ∷ ts) rest
    -- unary = primary
    plain : {f : Option At} {x : Form} {e : tree.Tree} {ts rest : List Lexeme} → Primary f x e ts rest
        → Unary f x e ts rest
    -- unary = primary ".(" const ":" const ")"
    bits : {f : Option At} {x : Form} {e : tree.Tree} {a b : tree.Constant} {d o k z : Lexeme}
        {ts mid next rest : List Lexeme}
        → Primary f x e ts (d ∷ o ∷ mid) → Is s.Dot d → Is s.Open o → Constant a mid (k ∷ next) → Is s.Colon k
        → Constant b next (z ∷ rest) → Is s.Close z → Unary f other (tree.Tree.field e a b (start f ts)) ts rest

  pub data Primary : Option At → Form → tree.Tree → List Lexeme → List Lexeme → Type 0 where
    number : {v : ℕ} {t : Lexeme} {rest : List Lexeme} → Is (s.Number v) t
        → Primary None other (tree.Tree.number v) (t ∷ rest) rest
    wide : {v : ℕ} {t : Lexeme} {rest : List Lexeme} → Is (s.Wide v) t
        → Primary None other (tree.Tree.wide v) (t ∷ rest) rest
    -- a number behind the minus that negates it, in its own width
    negative_number : {f : At} {v : ℕ} {t : Lexeme} {rest : List Lexeme} → Is (s.Number v) t
        → Primary (Some f) other (tree.Tree.number (negated 65536 v)) (t ∷ rest) rest
    negative_wide : {f : At} {v : ℕ} {t : Lexeme} {rest : List Lexeme} → Is (s.Wide v) t
        → Primary (Some f) other (tree.Tree.wide (negated 4294967296 v)) (t ∷ rest) rest
    text : {t : Lexeme} {rest : List Lexeme} → Is s.Text t
        → Primary None other (tree.Tree.text t.letters) (t ∷ rest) rest
    truth : {b : Bool} {t : Lexeme} {rest : List Lexeme} → Is (s.Truth b) t
        → Primary None other (tree.Tree.truth b) (t ∷ rest) rest
    name : {t : Lexeme} {rest : List Lexeme} → Is s.Name t
        → Primary None reference (tree.Tree.named t.letters (tree.trees []) t.at) (t ∷ rest) rest
    -- name "(" expr { "," expr } ")"
    call : {es : List tree.Tree} {t o z : Lexeme} {ts rest : List Lexeme} → Is s.Name t → Is s.Open o
        → Arguments es ts (z ∷ rest) → Is s.Close z
        → Primary None (form_of_call es) (tree.Tree.named t.letters (tree.trees es) t.at) (t ∷ o ∷ ts) rest
    -- "@" name
    address : {a t : Lexeme} {rest : List Lexeme} → Is s.AtSign a → Is s.Name t
        → Primary None other (tree.Tree.address t.letters (tree.trees []) a.at) (a ∷ t ∷ rest) rest
    -- "@" name "(" expr ")"
    address_of : {n : ℕ} {x : Form} {e : tree.Tree} {a t o z : Lexeme} {ts rest : List Lexeme} → Is s.AtSign a
        → Is s.Name t
        → Is s.Open o → Level false None 10 n x e ts (z ∷ rest) → Is s.Close z
        → Primary None other (tree.Tree.address t.letters (tree.trees (e ∷ [])) a.at) (a ∷ t ∷ o ∷ ts) rest
    -- "(" expr ")"
    parens : {n : ℕ} {x : Form} {e : tree.Tree} {o z : Lexeme} {ts rest : List Lexeme} → Is s.Open o
        → Level false None 10 n x e ts (z ∷ rest) → Is s.Close z → Primary None other e (o ∷ ts) rest
    -- type "(" expr ")"
    transfer : {k : Kind} {n : ℕ} {x : Form} {e : tree.Tree} {t o z : Lexeme} {ts rest : List Lexeme} → Is (s.Type k) t
        → Is s.Open o → Level false None 10 n x e ts (z ∷ rest) → Is s.Close z
        → Primary None other (tree.Tree.transfer k e t.at) (t ∷ o ∷ ts) rest

  -- expr { "," expr }
  pub data Arguments : List tree.Tree → List Lexeme → List Lexeme → Type 0 where
    one : {n : ℕ} {x : Form} {e : tree.Tree} {ts rest : List Lexeme} → Level false None 10 n x e ts rest
        → Arguments (e ∷ []) ts rest
    several : {n : ℕ} {x : Form} {e : tree.Tree} {es : List tree.Tree} {k : Lexeme} {ts mid rest : List Lexeme}
        → Level false None 10 n x e ts (k ∷ mid) → Is s.Comma k → Arguments es mid rest → Arguments (e ∷ es) ts rest
