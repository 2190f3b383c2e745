-- Statements, by the pieces that are read apart.
use Rattle.std.proofs.Common.{ℕ, ◌≡◌, Bool, true, false, if◌then◌else◌, List, [], ◌∷◌, refl, ◌∙◌}
use Rattle.spl_tree.specs.Symbols.{Lexeme}
use Rattle.spl_tree.specs.declared.symbols.Symbol.TheVariants as s
use Rattle.spl_tree.specs.declared.symbols.Reserved.TheVariants as w
use Rattle.spl_tree.specs.Trees.{Tree, trees}
use Rattle.spl_tree.specs.StatementTrees as stat
use Rattle.spl_reading.specs.Readers.{Parser, pure, followed, and_then, by_symbol, take, expect}
use Rattle.spl_reading.specs.ReadExpressions.{is, enter, expression, condition}
use Rattle.spl_reading.specs.ReadStatements as r
use Rattle.spl_tokens.proofs.Chains.{along, along_end, under}
use Rattle.spl_statements.specs.Nests as nests
use Rattle.spl_statements.specs.Nests.{inner, below}
use Rattle.spl_statement_parts.specs.Parts as parts
use Rattle.spl_statements.specs.Pieces as pieces

-- IF, by the statement of THEN
pub if_is : (room : ℕ) (ts : List Lexeme) → nests.if_statement room ts
    ≡ followed (enter room 0) (λ i. followed (r.if_test (below room)) (λ q. followed (pieces.behind room w.Then)
    (nests.else_behind room i q))) ts
unfolding r.if_statement pieces.behind
if_is room ts = under _ _ _ (λ i us. under _ _ _ (λ q vs. along _ _ _ _ (λ _ ws. refl) vs) us) ts

-- what follows a statement that may stand there
by_mark : {A : Type 0} (room : ℕ) (b : Bool) (end : List stat.Statement → Parser A) (ts : List Lexeme)
    → (if b then followed take (λ _. followed (inner room) (λ y. end (y ∷ []))) else end []) ts
    ≡ followed (if b then followed take (λ _. followed (inner room) (λ y. pure (y ∷ []))) else pure []) end ts
by_mark room true end ts = along take (λ _. followed (inner room) (λ y. pure (y ∷ []))) end
    (λ _. followed (inner room) (λ y. end (y ∷ []))) (λ _ us. along (inner room) (λ y. pure (y ∷ [])) end
    (λ y. end (y ∷ [])) (λ y vs. along_end (y ∷ []) end vs) us) ts
by_mark room false end ts = along_end [] end ts

-- an IF behind the statement of THEN
pub else_is : (room : ℕ) (i : Lexeme) (q : stat.Test) (x : stat.Statement) (ts : List Lexeme)
    → nests.else_behind room i q x ts
    ≡ followed (pieces.marked room (s.Word w.Else)) (λ ys. pure (stat.Statement.if_test q x (stat.statements ys) i.at)) ts
unfolding r.else_behind pieces.marked by_symbol followed and_then
else_is room i q x [] = refl
else_is room i q x (t ∷ ts) = by_mark room (is (s.Word w.Else) t.symbol)
    (λ ys. pure (stat.Statement.if_test q x (stat.statements ys) i.at)) (t ∷ ts)

-- statements, by the one behind a semicolon
pub further_is : (room : ℕ) (xs : List stat.Statement) (ts : List Lexeme) → r.more_statements (inner room) xs ts
    ≡ followed (pieces.marked room s.Semicolon) (λ ys. pure (pieces.longer xs ys)) ts
unfolding r.more_statements pieces.marked by_symbol followed and_then
further_is room xs [] = refl
further_is room xs (t ∷ ts) = by_mark room (is s.Semicolon t.symbol) (λ ys. pure (pieces.longer xs ys)) (t ∷ ts)

-- WHILE, by the statement of DO
pub while_is : (room : ℕ) (ts : List Lexeme) → nests.while_statement room ts
    ≡ followed (enter room 0) (λ t. followed (condition (below room) 0) (λ e. followed (pieces.behind room w.Do)
    (λ x. pure (stat.Statement.while_true e x t.at)))) ts
unfolding r.while_statement pieces.behind
while_is room ts = under _ _ _ (λ t us. under _ _ _ (λ e vs. along _ _ _ _ (λ _ ws. refl) vs) us) ts

-- DO, by what is behind its statement
pub do_is : (room : ℕ) (ts : List Lexeme) → nests.do_statement room ts
    ≡ followed (enter room 0) (λ t. followed (inner room) (λ x. followed (parts.until_condition (below room))
    (λ e. pure (stat.Statement.until_true x e t.at)))) ts
unfolding r.do_statement parts.until_condition
do_is room ts = under _ _ _ (λ t us. under _ _ _ (λ x vs. along _ _ _ _ (λ _ ws. refl) vs) us) ts

-- FOR, by its values and the statement of DO
pub for_is : (room : ℕ) (ts : List Lexeme) → nests.for_statement room ts
    ≡ followed (enter room 0) (λ f. followed (expect s.Name) (λ t. followed (expect s.Assign) (λ _.
    followed (parts.values (below room)) (λ v. followed (pieces.behind room w.Do)
    (λ x. pure (stat.Statement.for_values t.letters v.0 (trees v.1.0) v.1.1 x f.at)))))) ts
unfolding r.for_statement pieces.behind parts.values parts.bounds parts.limit
for_is room ts = under (enter room 0) _ _ (λ f us. under (expect s.Name) _ _ (λ t vs. under (expect s.Assign) _ _
    (λ _ ws. by_values f t ws) vs) us) ts
  where
    end : Lexeme → Lexeme → Tree × (List Tree × Tree) → Parser stat.Statement
    end f t v = followed (pieces.behind room w.Do)
        (λ x. pure (stat.Statement.for_values t.letters v.0 (trees v.1.0) v.1.1 x f.at))

    body : Lexeme → Lexeme → Tree → List Tree → Tree → stat.Statement → Parser stat.Statement
    body f t a es b x = pure (stat.Statement.for_values t.letters a (trees es) b x f.at)

    behind_limit : Lexeme → Lexeme → Tree → List Tree → Tree → Parser stat.Statement
    behind_limit f t a es b = followed (expect (s.Word w.Do)) (λ _. followed (inner room) (body f t a es b))

    behind_steps : Lexeme → Lexeme → Tree → List Tree → Parser stat.Statement
    behind_steps f t a es = followed (expect (s.Word w.Until)) (λ _. followed (expression (below room) 0) (behind_limit f t a es))

    by_limit : (f t : Lexeme) (a : Tree) (es : List Tree) (ys : List Lexeme) → behind_steps f t a es ys
        ≡ followed (followed (parts.limit (below room)) (λ b. pure (es, b))) (λ b. end f t (a, b)) ys
    by_limit f t a es ys = along (expect (s.Word w.Until)) (λ _. expression (below room) 0) (behind_limit f t a es)
        (λ _. followed (expression (below room) 0) (behind_limit f t a es)) (λ _ zs. refl) ys
        ∙ along (parts.limit (below room)) (λ b. pure (es, b)) (λ b. end f t (a, b)) (behind_limit f t a es)
        (λ b zs. along (expect (s.Word w.Do)) (λ _. inner room) (body f t a es b) (λ _. followed (inner room) (body f t a es b))
        (λ _ is. refl) zs ∙ along_end (es, b) (λ b. end f t (a, b)) zs) ys

    by_values : (f t : Lexeme) (ws : List Lexeme)
        → followed (expression (below room) 0) (λ a. followed (r.stepped (below room)) (behind_steps f t a)) ws
        ≡ followed (parts.values (below room)) (end f t) ws
    by_values f t ws = along (expression (below room) 0) (λ a. followed (parts.bounds (below room)) (λ b. pure (a, b))) (end f t)
        (λ a. followed (r.stepped (below room)) (behind_steps f t a)) (λ a xs.
        along (r.stepped (below room)) (λ es. followed (parts.limit (below room)) (λ b. pure (es, b))) (λ b. end f t (a, b))
        (behind_steps f t a) (λ es ys. by_limit f t a es ys) xs
        ∙ along (parts.bounds (below room)) (λ b. pure (a, b)) (end f t) (λ b. end f t (a, b))
        (λ b ys. along_end (a, b) (end f t) ys) xs) ws

-- CASE, by its arms
pub case_is : (room : ℕ) (ts : List Lexeme) → nests.case_statement room ts
    ≡ followed (enter room 0) (λ c. followed (expression (below room) 0) (λ e. followed (pieces.arms room)
    (λ xs. pure (stat.Statement.case_of e (stat.statements xs) c.at)))) ts
unfolding r.case_statement pieces.arms
case_is room ts = under _ _ _ (λ c us. under _ _ _ (λ e vs. along _ _ _ _ (λ _ ws. along _ _ _ _ (λ _ xs.
    along _ _ _ _ (λ ss ys. along _ _ _ _ (λ _ zs. along_end _ _ zs) ys) xs) ws) vs) us) ts
