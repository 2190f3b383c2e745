-- What is inside a construct that was opened.
use Rattle.std.proofs.Common.{ℕ, zero, suc, ◌≡◌, ◌-◌, ◌<◌, false, List, [], ◌∷◌, length, map, refl, sym, ◌∙◌, arith}
use Rattle.std.proofs.lemmas.List.{length-map}
use Rattle.spl_tree.specs.declared.expressions.Expr.{Expr}
use Rattle.spl_tree.specs.Trees.{Tree, trees}
use Rattle.spl_tree.specs.Views.{expression}
use Rattle.spl_tree.specs.Symbols.{Lexeme}
use Rattle.spl_tree.specs.StatementTrees as stat
use Rattle.spl_reading.specs.Readers.{Got, pure}
use Rattle.spl_reading.specs.ReadStatements as r
use Rattle.spl_statements.specs.Nests.{inner, below, read, with_one}

-- one construct fewer may be opened there
pub below_is : (room : ℕ) → 0 < room → below room ≡ room - 1
below_is zero h = absurd (omega arith)
below_is (suc room) h = omega arith

pub inner_is : (room : ℕ) (ts : List Lexeme) → 0 < room → inner room ts ≡ r.statement (room - 1) ts
inner_is zero ts h = absurd (omega arith)
inner_is (suc room) ts h = let e : suc room - 1 ≡ room = omega arith in rw e refl

-- a statement, by what is inside
pub statement_is : (room : ℕ) (ts : List Lexeme) → r.statement room ts ≡ read room ts
unfolding r.statement
statement_is zero ts = refl
statement_is (suc room) ts = refl

-- arguments that are not one
pub not_single : (es : List Tree) → (length es ≡ 1 → ⊥) → r.is_single es ≡ false
not_single [] h = refl
not_single (e ∷ []) h = absurd (h refl)
not_single (e ∷ d ∷ es) h = refl

pub several : (room : ℕ) (t : Lexeme) (es : List Expr) (ts : List Lexeme) → (length es ≡ 1 → ⊥)
    → with_one room t (map expression es) ts ≡ Got (stat.Statement.call t.letters (trees (map expression es)) t.at) ts
unfolding pure
several room t es ts h = let e = not_single (map expression es) (λ l. h (sym (length-map es expression) ∙ l)) in
    rw e refl
