-- Each open prefix of a part can be completed: the words for it, and the tokens with which a part that has not begun is whole.
use Rattle.std.proofs.Common.{ℕ, zero, suc, ◌≡◌, ◌==◌, ◌≤◌, ◌||◌, not, Bool, true, false, List, [], ◌∷◌, ◌++◌, length, codes, Option, Some, None, refl, arith, ap, append_assoc}
use Rattle.std.proofs.lemmas.Bool.Decides.{nat_tests}
use Rattle.spl_reading.specs.spl_tree.declared.names_and_places.At.{At}
use Rattle.spl_reading.specs.spl_tree.declared.symbols.Symbol.{Symbol}
use Rattle.spl_reading.specs.spl_tree.declared.symbols.Symbol.TheVariants as s
use Rattle.spl_reading.specs.spl_tree.declared.symbols.Reserved.{Reserved}
use Rattle.spl_reading.specs.spl_tree.declared.symbols.Reserved.TheVariants as w
use Rattle.spl_reading.specs.spl_tree.Symbols.{Lexeme, Is}
use Rattle.spl_reading.specs.spl_tree.Operators.{Form}
use Rattle.spl_reading.specs.spl_tree.Expressions as g
use Rattle.spl_reading.specs.spl_tree.Trees as tree
use Rattle.spl_reading.specs.spl_tree.StatementTrees as stat
use Rattle.spl_reading.specs.spl_tree.Statements as st
use Rattle.spl_reading.specs.spl_tree.declared.expressions.Kind.{Kind}
use Rattle.spl_reading.specs.spl_tree.DeclarationTrees as decl
use Rattle.spl_reading.specs.spl_tree.DeclarationTrees.{Placed, UnitTree}
use Rattle.spl_reading.specs.spl_tree.Declarations as dl
use Rattle.spl_reading.specs.spl_tree.Declarations.{Options, is_subroutine}
use Rattle.spl_reading.specs.spl_tree.Units.{Unit_of}
use Rattle.spl_reading.specs.spl_tree.Parts as part
use Rattle.spl_reading.specs.spl_tree.Parts.{Part}
use Rattle.spl_grammar.proofs.MovedParts.{Swap, same, behind, swap_length, swap_longer, SomeConstant}
use Rattle.spl_grammar.proofs.MovedDeclarations.{Some_of, SomeDeclarations, SomeBody}
use Rattle.spl_grammar.proofs.MovedStatements.{SomeReference, SomeSource, SomeEffect, SomeTest, SomeStatements}

-- some part of each kind that is spelled
pub record AnyLevel (c : Bool) (f : Option At) (h : ℕ) (ts rest : List Lexeme) : Type 0 where
  pub operators : ℕ
  pub form : Form
  pub tree : tree.Tree
  pub spelled : g.Level c f h operators form tree ts rest

pub record AnyUnary (f : Option At) (ts rest : List Lexeme) : Type 0 where
  pub form : Form
  pub tree : tree.Tree
  pub spelled : g.Unary f form tree ts rest

pub record AnyPrimary (f : Option At) (ts rest : List Lexeme) : Type 0 where
  pub form : Form
  pub tree : tree.Tree
  pub spelled : g.Primary f form tree ts rest

pub record AnyArguments (ts rest : List Lexeme) : Type 0 where
  pub trees : List tree.Tree
  pub spelled : g.Arguments trees ts rest

pub record AnyStatement (ts rest : List Lexeme) : Type 0 where
  pub tree : stat.Statement
  pub spelled : st.Statement tree ts rest

-- options that end in FORWARD or EXTERNAL
pub record EndedOptions (a : Options) (ts rest : List Lexeme) : Type 0 where
  pub last : Options
  pub ends : (last.forward || last.external) ≡ true
  pub spelled : dl.OptionList a last ts rest

-- a heading of either word, without its options and its segment
pub data RawHeading (k : Reserved) : List Lexeme → List Lexeme → Type 0 where
  raw : {r : Option Kind} {ns vs : List Placed} {ss : List decl.Spec} {p t z : Lexeme}
      {ts after_type after_names after_values rest : List Lexeme}
      → dl.Result r ts (p ∷ t ∷ after_type) → Is (s.Word k) p → Is s.Name t
      → dl.Parameters ns after_type after_names → dl.Values vs after_names after_values
      → dl.Specs ss after_values (z ∷ rest) → Is s.Semicolon z → RawHeading k ts rest

pub record AnyDeclaration (u after : Bool) (segment : ℕ) (ts rest : List Lexeme) : Type 0 where
  pub tree : decl.Declaration
  pub fits : (is_subroutine tree || not after) ≡ true
  pub spelled : dl.Declaration u segment tree ts rest

pub record AnyUnit (ts : List Lexeme) : Type 0 where
  pub tree : UnitTree
  pub spelled : Unit_of tree ts

-- the part stands at the first list, whole; behind a mark nothing does
abbrev pub Whole : Part → List Lexeme → List Lexeme → Type 0
Whole part.constant ts rest = SomeConstant ts rest
Whole (part.level c f h) ts rest = AnyLevel c f h ts rest
Whole (part.unary f) ts rest = AnyUnary f ts rest
Whole (part.primary f) ts rest = AnyPrimary f ts rest
Whole part.arguments ts rest = AnyArguments ts rest
Whole part.reference ts rest = SomeReference ts rest
Whole part.source ts rest = SomeSource ts rest
Whole part.effect ts rest = SomeEffect ts rest
Whole part.test ts rest = SomeTest ts rest
Whole part.statement ts rest = AnyStatement ts rest
Whole part.statements ts rest = SomeStatements ts rest
Whole part.names ts rest = Some_of dl.Names ts rest
Whole part.constants ts rest = Some_of dl.Constants ts rest
Whole part.item ts rest = Some_of dl.Item ts rest
Whole part.items ts rest = Some_of dl.Items ts rest
Whole part.equal ts rest = Some_of dl.Equal ts rest
Whole part.equals ts rest = Some_of dl.Equals ts rest
Whole part.array ts rest = Some_of (dl.Array []) ts rest
Whole part.arrays ts rest = Some_of dl.Arrays ts rest
Whole (part.options a) ts rest = EndedOptions a ts rest
Whole (part.heading k) ts rest = RawHeading k ts rest
Whole (part.declaration u after) ts rest = (segment : ℕ) → AnyDeclaration u after segment ts rest
Whole (part.declarations u after) ts rest = (segment : ℕ) → SomeDeclarations u after segment ts rest
Whole part.body ts rest = (segment : ℕ) → SomeBody segment ts rest
Whole part.unit ts rest = rest ≡ [] → AnyUnit ts
Whole part.mark ts rest = ts ≡ rest

-- a level that is spelled
pub any_level : {c : Bool} {f : Option At} {h n : ℕ} {x : Form} {e : tree.Tree} {ts rest : List Lexeme}
    → g.Level c f h n x e ts rest → AnyLevel c f h ts rest
any_level l = record { operators = _; form = _; tree = _; spelled = l }

-- an operand
pub any_unary : {f : Option At} {x : Form} {e : tree.Tree} {ts rest : List Lexeme} → g.Unary f x e ts rest
    → AnyUnary f ts rest
any_unary l = record { form = _; tree = _; spelled = l }

-- a primary
pub any_primary : {f : Option At} {x : Form} {e : tree.Tree} {ts rest : List Lexeme} → g.Primary f x e ts rest
    → AnyPrimary f ts rest
any_primary l = record { form = _; tree = _; spelled = l }

-- a constant
pub any_constant : {v : tree.Constant} {ts rest : List Lexeme} → g.Constant v ts rest → SomeConstant ts rest
any_constant l = record { tree = _; spelled = l }

-- arguments
pub any_arguments : {es : List tree.Tree} {ts rest : List Lexeme} → g.Arguments es ts rest → AnyArguments ts rest
any_arguments l = record { trees = _; spelled = l }

-- the parts of expressions and statements; a number behind its minus stands below the sums
pub data Inside : Part → Type 0 where
  free : {c : Bool} {h : ℕ} → Inside (part.level c None h)
  minus : {c : Bool} {at : At} {h : ℕ} → h ≤ 2 → Inside (part.level c (Some at) h)
  a_constant : Inside part.constant
  an_operand : {f : Option At} → Inside (part.unary f)
  a_primary : {f : Option At} → Inside (part.primary f)
  some_arguments : Inside part.arguments
  a_reference : Inside part.reference
  a_source : Inside part.source
  an_effect : Inside part.effect
  a_test : Inside part.test
  a_statement : Inside part.statement
  some_statements : Inside part.statements
  a_mark : Inside part.mark

-- a level above one is inside too
pub inside_below : {c : Bool} {f : Option At} {h : ℕ} → Inside (part.level c f (suc h)) → Inside (part.level c f h)
inside_below free = free
inside_below (minus l) = minus (omega arith)

-- The tokens from ts on, up to rest, stand at the front of a whole part, when `next` follows them; more is behind it.
pub record Refilled (p : Part) (ts rest next more : List Lexeme) : Type 0 where
  pub to : List Lexeme
  pub swap : Swap rest next ts to
  pub whole : Whole p to more

-- a part at the end of a swap
pub filled : {p : Part} {ts rest next to more : List Lexeme} → Swap rest next ts to → Whole p to more
    → Refilled p ts rest next more
filled w s = record { to = _; swap = w; whole = s }

-- with some tokens more they do so, whatever follows
pub record Completed (p : Part) (ts rest : List Lexeme) : Type 0 where
  pub tail : List Lexeme
  pub whole : (more : List Lexeme) → Refilled p ts rest (tail ++ more) more

-- an open part, and the marks behind it
pub around : {p q : Part} {ts mid rest : List Lexeme} → Inside q → (marks : List Lexeme)
    → (Inside q → Completed q mid rest)
    → ((us next more : List Lexeme) → Swap rest next mid us → Whole q us (marks ++ more) → Refilled p ts rest next more)
    → Completed p ts rest
around v marks o f = let a = o v in record {
  tail = a.tail ++ marks;
  whole = λ more. rw (append_assoc a.tail marks more)
      (let b = a.whole (marks ++ more) in f b.to (a.tail ++ (marks ++ more)) more b.swap b.whole);
}

-- nothing stands between a mark and what is behind it
swap_same : {rest next ts us : List Lexeme} → Swap rest next ts us → length ts ≤ length rest → ts ≡ rest
swap_same same l = refl
swap_same (behind a) l = let b = swap_longer a in absurd (omega arith)

-- equal lists are as long
same_length : {ts us : List Lexeme} → ts ≡ us → length ts ≡ length us
same_length e = ap (λ us. length us) e

-- tokens before make a list no shorter
pub append_length : (ts us : List Lexeme) → length us ≤ length (ts ++ us)
append_length [] us = omega arith
append_length (t ∷ ts) us = let a = append_length ts us in omega arith

-- a list with a token before others has one, and so has one behind any list
pub has_token : (t : Lexeme) (ts : List Lexeme) → 1 ≤ length (t ∷ ts)
has_token t ts = omega arith

pub has_token_behind : (us : List Lexeme) (t : Lexeme) (ts : List Lexeme) → 1 ≤ length (us ++ t ∷ ts)
has_token_behind us t ts = let a = append_length us (t ∷ ts) in omega arith

-- what is open at a mark ends there
pub at_end : {ts rest : List Lexeme} → Completed part.mark ts rest → ts ≡ rest
at_end o = let a = o.whole [] in swap_same a.swap
    (let b = same_length a.whole in let l = swap_length a.swap in let m = append_length o.tail [] in omega arith)

-- a production that is open at a mark
unfoldable pub open_at : {p : Part} {ts mid rest : List Lexeme} → (marks : List Lexeme)
    → (Inside part.mark → Completed part.mark mid rest)
    → ((more : List Lexeme) → Refilled p ts mid (marks ++ more) more)
    → Completed p ts rest
open_at marks o f = record { tail = marks; whole = λ more. rw (← at_end (o a_mark)) (f more) }

-- tokens of these symbols
abbrev pub token : Symbol → Lexeme
token k = record { symbol = k; letters = []; at = g.place []; segment = 0 }

-- a reserved word
abbrev pub word : Reserved → Lexeme
word k = token (s.Word k)

-- a name without letters
abbrev pub a_name : Lexeme
a_name = token s.Name

-- the number 0
abbrev pub a_number : Lexeme
a_number = token (s.Number 0)

-- the name of a shift
abbrev pub a_shift : Lexeme
a_shift = record { symbol = s.Name; letters = codes "ASL"; at = g.place []; segment = 0 }

-- the name of a class
abbrev pub a_class : Lexeme
a_class = record { symbol = s.Name; letters = codes "A"; at = g.place []; segment = 0 }

-- what is whole with one token
abbrev pub operand_token : Option At → Lexeme
operand_token None = a_name
operand_token (Some at) = a_number

-- a primary of one token
pub one_primary : (f : Option At) (more : List Lexeme) → AnyPrimary f (operand_token f ∷ more) more
one_primary None more = any_primary (g.Primary.name refl)
one_primary (Some at) more = any_primary (g.Primary.negative_number refl)

-- an operand of one token
pub one_unary : (f : Option At) (more : List Lexeme) → AnyUnary f (operand_token f ∷ more) more
one_unary f more = let a = one_primary f more in any_unary (g.Unary.plain a.spelled)

-- a level of one token
pub one_level : (c : Bool) (f : Option At) (h : ℕ) → Inside (part.level c f h) → (more : List Lexeme)
    → AnyLevel c f h (operand_token f ∷ more) more
one_level c f zero v more = let a = one_unary f more in any_level (g.Level.operand a.spelled)
one_level c None (suc h) v more = go (suc h == 3) refl (one_level c None h free more)
  where
    go : (b : Bool) → (suc h == 3) ≡ b → AnyLevel c None h (a_name ∷ more) more → AnyLevel c None (suc h) (a_name ∷ more) more
    go true e a = any_level (g.Level.unsigned e a.spelled)
    go false e a = any_level (g.Level.up e a.spelled)
one_level c (Some at) (suc h) (minus l) more = let a = one_level c (Some at) h (minus (omega arith)) more in
    any_level (g.Level.up (grind (arith, nat_tests, l)) a.spelled)

-- an expression of one token
pub one_expression : (more : List Lexeme) → AnyLevel false None 10 (a_name ∷ more) more
one_expression more = one_level false None 10 free more

-- a part that has not begun
pub not_begun : {p : Part} (ts : List Lexeme) → Inside p → Completed p ts ts
not_begun ts (free {c = c} {h = h}) = record { tail = a_name ∷ []; whole = λ more. filled same (one_level c None h free more) }
not_begun ts (minus {c = c} {at = at} {h = h} l) = record
    { tail = a_number ∷ []; whole = λ more. filled same (one_level c (Some at) h (minus l) more) }
not_begun ts a_constant = record
    { tail = a_number ∷ []; whole = λ more. filled same (any_constant (g.Constant.number refl)) }
not_begun ts (an_operand {f = f}) = record
    { tail = operand_token f ∷ []; whole = λ more. filled same (one_unary f more) }
not_begun ts (a_primary {f = f}) = record
    { tail = operand_token f ∷ []; whole = λ more. filled same (one_primary f more) }
not_begun ts some_arguments = record {
  tail = a_name ∷ [];
  whole = λ more. let a = one_expression more in filled same (any_arguments (g.Arguments.one a.spelled));
}
not_begun ts a_reference = record {
  tail = a_name ∷ [];
  whole = λ more. filled same (record { tree = _; spelled = st.Reference.name refl });
}
not_begun ts a_source = record {
  tail = token s.Text ∷ [];
  whole = λ more. filled same (record { tree = _; spelled = st.Source.text refl });
}
not_begun ts an_effect = record {
  tail = word w.Move ∷ a_name ∷ token s.Assign ∷ token s.Text ∷ [];
  whole = λ more. filled same (record
      { tree = _; spelled = st.Effect.move refl (st.Reference.name refl) refl (st.Source.text refl) });
}
not_begun ts a_test = record {
  tail = token (s.Operator 5) ∷ [];
  whole = λ more. filled same (record { tree = _; spelled = st.Test.code refl refl });
}
not_begun ts a_statement = record {
  tail = [];
  whole = λ more. filled same (record { tree = _; spelled = st.Statement.empty });
}
not_begun ts some_statements = record {
  tail = [];
  whole = λ more. filled same (record { trees = _; spelled = st.Statements.one st.Statement.empty });
}
not_begun ts a_mark = record { tail = []; whole = λ more. filled same refl }
