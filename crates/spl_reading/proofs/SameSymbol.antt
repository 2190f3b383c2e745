-- Two symbols with the same numbers are the same.
use Rattle.std.proofs.Common.{ℕ, ◌≡◌, ◌==◌, ◌&&◌, Bool, true, false, List, [], ◌∷◌, get_or, refl, arith, ap, ap₂, sym, ◌∙◌}
use Rattle.std.proofs.lemmas.Bool.Decides.{nat_tests}
use Rattle.spl_tree.specs.declared.symbols.Symbol.{Symbol}
use Rattle.spl_tree.specs.declared.symbols.Symbol.TheVariants as s
use Rattle.spl_tree.specs.declared.symbols.Reserved.{Reserved}
use Rattle.spl_tree.specs.declared.symbols.Reserved.TheVariants as w
use Rattle.spl_tree.specs.declared.expressions.Kind.{Kind}
use Rattle.spl_tree.specs.declared.expressions.Kind.TheVariants as kind
use Rattle.spl_reading.specs.Readers.{same_symbol, symbol_number, kind_number, reserved_number, truth_number}

kinds : List Kind
kinds = kind.Integer ∷ kind.Logical ∷ kind.Byte ∷ kind.Double ∷ []

words : List Reserved
words = w.Array ∷ w.Begin ∷ w.Case ∷ w.Do ∷ w.Else ∷ w.End ∷ w.Equate ∷ w.For ∷ w.Go ∷ w.Goto ∷ w.If ∷ w.Intrinsic ∷
    w.Label ∷ w.Move ∷ w.Of
    ∷ w.Options ∷ w.Own ∷ w.Pointer ∷ w.Procedure ∷ w.Return ∷ w.Scan ∷ w.Step ∷ w.Subroutine ∷ w.Then ∷ w.To ∷ w.Until
    ∷ w.Value ∷ w.While ∷ w.Unused ∷ []

-- the symbol that has these numbers
symbol_again : ℕ → ℕ → Symbol
unfolding kinds words
symbol_again m n = get_or (s.Name ∷ s.Number n ∷ s.Wide n ∷ s.Text ∷ s.Truth (n == 1) ∷ s.Operator n ∷ s.Not ∷ s.Type
    (get_or kinds n kind.Integer)
    ∷ s.Open ∷ s.Close ∷ s.Comma ∷ s.Semicolon ∷ s.Colon ∷ s.Dot ∷ s.Ampersand ∷ s.AtSign ∷ s.Assign ∷ s.Word
    (get_or words n w.Unused) ∷ s.Stop ∷ []) m s.Stop

kind_again : (k : Kind) → get_or kinds (kind_number k) kind.Integer ≡ k
unfolding kinds kind_number
kind_again kind.Integer = refl
kind_again kind.Logical = refl
kind_again kind.Byte = refl
kind_again kind.Double = refl

word_again : (k : Reserved) → get_or words (reserved_number k) w.Unused ≡ k
unfolding words reserved_number
word_again w.Array = refl
word_again w.Begin = refl
word_again w.Case = refl
word_again w.Do = refl
word_again w.Else = refl
word_again w.End = refl
word_again w.Equate = refl
word_again w.For = refl
word_again w.Go = refl
word_again w.Goto = refl
word_again w.If = refl
word_again w.Intrinsic = refl
word_again w.Label = refl
word_again w.Move = refl
word_again w.Of = refl
word_again w.Options = refl
word_again w.Own = refl
word_again w.Pointer = refl
word_again w.Procedure = refl
word_again w.Return = refl
word_again w.Scan = refl
word_again w.Step = refl
word_again w.Subroutine = refl
word_again w.Then = refl
word_again w.To = refl
word_again w.Until = refl
word_again w.Value = refl
word_again w.While = refl
word_again w.Unused = refl

again_is : (k : Symbol) → symbol_again (symbol_number k).0 (symbol_number k).1 ≡ k
unfolding symbol_again symbol_number truth_number
again_is s.Name = refl
again_is (s.Number v) = refl
again_is (s.Wide v) = refl
again_is s.Text = refl
again_is (s.Truth true) = refl
again_is (s.Truth false) = refl
again_is (s.Operator op) = refl
again_is s.Not = refl
again_is (s.Type k) = ap s.Type (kind_again k)
again_is s.Open = refl
again_is s.Close = refl
again_is s.Comma = refl
again_is s.Semicolon = refl
again_is s.Colon = refl
again_is s.Dot = refl
again_is s.Ampersand = refl
again_is s.AtSign = refl
again_is s.Assign = refl
again_is (s.Word w) = ap s.Word (word_again w)
again_is s.Stop = refl

pub both_true : (x y : Bool) → (x && y) ≡ true → (x ≡ true) × (y ≡ true)
both_true true y e = (refl, e)
both_true false y e = cc

pub same_number : (a b : ℕ) → (a == b) ≡ true → a ≡ b
same_number a b e = grind (arith, nat_tests, e)

equal_numbers : (a b c d : ℕ) → (a == c && b == d) ≡ true → (a ≡ c) × (b ≡ d)
equal_numbers a b c d e =
    let t = both_true (a == c) (b == d) e in (same_number a c t.0, same_number b d t.1)

pub same_is : (a b : Symbol) → same_symbol a b ≡ true → a ≡ b
unfolding same_symbol
same_is a b e = let n = equal_numbers _ _ _ _ e in sym (again_is a) ∙ ap₂ symbol_again n.0 n.1 ∙ again_is b
