-- What the first token of a part can be.
use Rattle.std.proofs.Common.{ℕ, suc, ◌≡◌, ◌==◌, ◌≤◌, Bool, true, false, List, ◌∷◌, Option, Some, refl, arith, ap, ◌∙◌}
use Rattle.std.proofs.lemmas.Bool.Decides.{nat_tests}
use Rattle.spl_reading.specs.spl_tree.declared.names_and_places.At.{At}
use Rattle.spl_reading.specs.spl_tree.declared.symbols.Symbol.{Symbol}
use Rattle.spl_reading.specs.spl_tree.declared.symbols.Symbol.TheVariants as s
use Rattle.spl_reading.specs.spl_tree.Symbols.{Lexeme, Is}
use Rattle.spl_reading.specs.spl_tree.Operators.{Form, is_sign, is_number}
use Rattle.spl_reading.specs.spl_tree.Expressions as g
use Rattle.spl_reading.specs.spl_tree.Statements.{is_relation}
use Rattle.spl_reading.specs.spl_tree.Trees as tree
use Rattle.spl_reading.specs.ReadExpressions.{is, operator_of}
use Rattle.spl_reading.specs.Readers.{same_symbol, symbol_number}

-- there is a first token, and its symbol passes the test
pub data Begins (test : Symbol → Bool) (b : Bool) : List Lexeme → Type 0 where
  with_first : {t : Lexeme} {ts : List Lexeme} → test t.symbol ≡ b → Begins test b (t ∷ ts)

pub by_is : (test : Symbol → Bool) (b : Bool) (k : Symbol) (t : Lexeme) (ts : List Lexeme) → Is k t → test k ≡ b
    → Begins test b (t ∷ ts)
by_is test b k t ts e f = with_first (ap test e ∙ f)

sign_of : Symbol → Bool
sign_of k = is_sign (operator_of k)

-- a primary is no sign,
primary_no_sign : {f : Option At} {x : Form} {e : tree.Tree} {ts rest : List Lexeme} → g.Primary f x e ts rest
    → Begins (λ k. is_sign (operator_of k)) false ts
unfolding operator_of
primary_no_sign (g.Primary.number i) = by_is _ _ _ _ _ i refl
primary_no_sign (g.Primary.wide i) = by_is _ _ _ _ _ i refl
primary_no_sign (g.Primary.negative_number i) = by_is _ _ _ _ _ i refl
primary_no_sign (g.Primary.negative_wide i) = by_is _ _ _ _ _ i refl
primary_no_sign (g.Primary.text i) = by_is _ _ _ _ _ i refl
primary_no_sign (g.Primary.truth i) = by_is _ _ _ _ _ i refl
primary_no_sign (g.Primary.name i) = by_is _ _ _ _ _ i refl
primary_no_sign (g.Primary.call i _ _ _) = by_is _ _ _ _ _ i refl
primary_no_sign (g.Primary.address i _) = by_is _ _ _ _ _ i refl
primary_no_sign (g.Primary.address_of i _ _ _ _) = by_is _ _ _ _ _ i refl
primary_no_sign (g.Primary.parens i _ _) = by_is _ _ _ _ _ i refl
primary_no_sign (g.Primary.transfer i _ _ _) = by_is _ _ _ _ _ i refl

unary_no_sign : {f : Option At} {x : Form} {e : tree.Tree} {ts rest : List Lexeme} → g.Unary f x e ts rest
    → Begins (λ k. is_sign (operator_of k)) false ts
unfolding operator_of
unary_no_sign (g.Unary.inverse i _) = by_is _ _ _ _ _ i refl
unary_no_sign (g.Unary.plain p) = primary_no_sign p
unary_no_sign (g.Unary.bits p _ _ _ _ _ _) = primary_no_sign p

below_sum : (h : ℕ) → suc h ≤ 2 → (suc h == 3) ≡ true → ⊥
below_sum h l e = grind (arith, nat_tests, e)

-- and so is a part below the sums
pub no_sign : {c : Bool} {f : Option At} {h n : ℕ} {x : Form} {e : tree.Tree} {ts rest : List Lexeme}
    → g.Level c f h n x e ts rest
    → h ≤ 2 → Begins (λ k. is_sign (operator_of k)) false ts
no_sign (g.Level.operand u) l = unary_no_sign u
no_sign (g.Level.up _ d) l = no_sign d (omega arith)
no_sign (g.Level.unsigned e d) l = absurd (below_sum _ l e)
no_sign (g.Level.signed e _ _ _ d) l = absurd (below_sum _ l e)
no_sign (g.Level.negative e _ d) l = absurd (below_sum _ l e)
no_sign (g.Level.joined _ d _ _ r) l = no_sign d l
no_sign (g.Level.related _ d _ _ r _) l = no_sign d (omega arith)
no_sign (g.Level.shifted _ d _ _ _ _ v _) l = no_sign d l
no_sign (g.Level.bytes _ d _ _ r _) l = no_sign d (omega arith)

-- what a minus negates begins with a number
primary_number : {f : At} {x : Form} {e : tree.Tree} {ts rest : List Lexeme} → g.Primary (Some f) x e ts rest
    → Begins is_number true ts
primary_number (g.Primary.negative_number i) = by_is _ _ _ _ _ i refl
primary_number (g.Primary.negative_wide i) = by_is _ _ _ _ _ i refl

pub number_first : {c : Bool} {f : At} {h n : ℕ} {x : Form} {e : tree.Tree} {ts rest : List Lexeme}
    → g.Level c (Some f) h n x e ts rest
    → Begins is_number true ts
number_first (g.Level.operand (g.Unary.plain p)) = primary_number p
number_first (g.Level.operand (g.Unary.bits p _ _ _ _ _ _)) = primary_number p
number_first (g.Level.up _ d) = number_first d
number_first (g.Level.joined _ d _ _ r) = number_first d
number_first (g.Level.related _ d _ _ r _) = number_first d
number_first (g.Level.shifted _ d _ _ _ _ v _) = number_first d
number_first (g.Level.bytes _ d _ _ r _) = number_first d

-- a primary does not begin with NOT
pub primary_no_not : {f : Option At} {x : Form} {e : tree.Tree} {ts rest : List Lexeme} → g.Primary f x e ts rest
    → Begins (is s.Not) false ts
unfolding same_symbol symbol_number
primary_no_not (g.Primary.number i) = by_is _ _ _ _ _ i refl
primary_no_not (g.Primary.wide i) = by_is _ _ _ _ _ i refl
primary_no_not (g.Primary.negative_number i) = by_is _ _ _ _ _ i refl
primary_no_not (g.Primary.negative_wide i) = by_is _ _ _ _ _ i refl
primary_no_not (g.Primary.text i) = by_is _ _ _ _ _ i refl
primary_no_not (g.Primary.truth i) = by_is _ _ _ _ _ i refl
primary_no_not (g.Primary.name i) = by_is _ _ _ _ _ i refl
primary_no_not (g.Primary.call i _ _ _) = by_is _ _ _ _ _ i refl
primary_no_not (g.Primary.address i _) = by_is _ _ _ _ _ i refl
primary_no_not (g.Primary.address_of i _ _ _ _) = by_is _ _ _ _ _ i refl
primary_no_not (g.Primary.parens i _ _) = by_is _ _ _ _ _ i refl
primary_no_not (g.Primary.transfer i _ _ _) = by_is _ _ _ _ _ i refl

-- an expression begins with no reserved word of statements
abbrev pub is_reserved : Symbol → Bool
is_reserved (s.Word w) = true
is_reserved _ = false

primary_no_word : {f : Option At} {x : Form} {e : tree.Tree} {ts rest : List Lexeme} → g.Primary f x e ts rest
    → Begins is_reserved false ts
primary_no_word (g.Primary.number i) = by_is _ _ _ _ _ i refl
primary_no_word (g.Primary.wide i) = by_is _ _ _ _ _ i refl
primary_no_word (g.Primary.negative_number i) = by_is _ _ _ _ _ i refl
primary_no_word (g.Primary.negative_wide i) = by_is _ _ _ _ _ i refl
primary_no_word (g.Primary.text i) = by_is _ _ _ _ _ i refl
primary_no_word (g.Primary.truth i) = by_is _ _ _ _ _ i refl
primary_no_word (g.Primary.name i) = by_is _ _ _ _ _ i refl
primary_no_word (g.Primary.call i _ _ _) = by_is _ _ _ _ _ i refl
primary_no_word (g.Primary.address i _) = by_is _ _ _ _ _ i refl
primary_no_word (g.Primary.address_of i _ _ _ _) = by_is _ _ _ _ _ i refl
primary_no_word (g.Primary.parens i _ _) = by_is _ _ _ _ _ i refl
primary_no_word (g.Primary.transfer i _ _ _) = by_is _ _ _ _ _ i refl

pub no_word : {c : Bool} {f : Option At} {h n : ℕ} {x : Form} {e : tree.Tree} {ts rest : List Lexeme}
    → g.Level c f h n x e ts rest → Begins is_reserved false ts
no_word (g.Level.operand (g.Unary.inverse i u)) = by_is _ _ _ _ _ i refl
no_word (g.Level.operand (g.Unary.plain p)) = primary_no_word p
no_word (g.Level.operand (g.Unary.bits p _ _ _ _ _ _)) = primary_no_word p
no_word (g.Level.up _ d) = no_word d
no_word (g.Level.unsigned _ d) = no_word d
no_word (g.Level.signed _ i _ _ d) = by_is _ _ _ _ _ i refl
no_word (g.Level.negative _ i d) = by_is _ _ _ _ _ i refl
no_word (g.Level.joined _ d _ _ r) = no_word d
no_word (g.Level.related _ d _ _ r _) = no_word d
no_word (g.Level.shifted _ d _ _ _ _ v _) = no_word d
no_word (g.Level.bytes _ d _ _ r _) = no_word d

primary_no_relation : {f : Option At} {x : Form} {e : tree.Tree} {ts rest : List Lexeme} → g.Primary f x e ts rest
    → Begins (λ k. is_relation (operator_of k)) false ts
unfolding operator_of
primary_no_relation (g.Primary.number i) = by_is _ _ _ _ _ i refl
primary_no_relation (g.Primary.wide i) = by_is _ _ _ _ _ i refl
primary_no_relation (g.Primary.negative_number i) = by_is _ _ _ _ _ i refl
primary_no_relation (g.Primary.negative_wide i) = by_is _ _ _ _ _ i refl
primary_no_relation (g.Primary.text i) = by_is _ _ _ _ _ i refl
primary_no_relation (g.Primary.truth i) = by_is _ _ _ _ _ i refl
primary_no_relation (g.Primary.name i) = by_is _ _ _ _ _ i refl
primary_no_relation (g.Primary.call i _ _ _) = by_is _ _ _ _ _ i refl
primary_no_relation (g.Primary.address i _) = by_is _ _ _ _ _ i refl
primary_no_relation (g.Primary.address_of i _ _ _ _) = by_is _ _ _ _ _ i refl
primary_no_relation (g.Primary.parens i _ _) = by_is _ _ _ _ _ i refl
primary_no_relation (g.Primary.transfer i _ _ _) = by_is _ _ _ _ _ i refl

sign_no_relation : (op : ℕ) → is_sign op ≡ true → is_relation op ≡ false
sign_no_relation op e = grind (arith, nat_tests, e)

-- nor does it begin with a relation
pub no_relation : {c : Bool} {f : Option At} {h n : ℕ} {x : Form} {e : tree.Tree} {ts rest : List Lexeme}
    → g.Level c f h n x e ts rest → Begins (λ k. is_relation (operator_of k)) false ts
unfolding operator_of
no_relation (g.Level.operand (g.Unary.inverse i u)) = by_is _ _ _ _ _ i refl
no_relation (g.Level.operand (g.Unary.plain p)) = primary_no_relation p
no_relation (g.Level.operand (g.Unary.bits p _ _ _ _ _ _)) = primary_no_relation p
no_relation (g.Level.up _ d) = no_relation d
no_relation (g.Level.unsigned _ d) = no_relation d
no_relation (g.Level.signed {op = op} _ i b _ d) = by_is _ _ _ _ _ i (sign_no_relation op b)
no_relation (g.Level.negative _ i d) = by_is _ _ _ _ _ i refl
no_relation (g.Level.joined _ d _ _ r) = no_relation d
no_relation (g.Level.related _ d _ _ r _) = no_relation d
no_relation (g.Level.shifted _ d _ _ _ _ v _) = no_relation d
no_relation (g.Level.bytes _ d _ _ r _) = no_relation d
