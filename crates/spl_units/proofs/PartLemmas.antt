-- Bodies and units, by the parts that are read apart.
use Rattle.std.proofs.Common.{ℕ, ◌≡◌, ◌∙◌, false, true, List, refl}
use Rattle.spl_tree.specs.Symbols.{Lexeme}
use Rattle.spl_tree.specs.declared.symbols.Symbol.TheVariants as s
use Rattle.spl_tree.specs.declared.symbols.Reserved.TheVariants as w
use Rattle.spl_reading.specs.Readers.{Parser, pure, followed, take, expect}
use Rattle.spl_tree.specs.DeclarationTrees as decl
use Rattle.spl_tree.specs.StatementTrees as stat
use Rattle.spl_reading.specs.ReadStatements as st
use Rattle.spl_reading.specs.ReadDeclarations as r
use Rattle.spl_reading.specs.ReadDeclarations.{bodies}
use Rattle.spl_tokens.proofs.Chains.{along, along_end, under}
use Rattle.spl_units.specs.UnitParts as parts

-- a body between BEGIN and END, by its statements with the END
pub block_is : (room segment : ℕ) (ts : List Lexeme) → parts.block_body room segment ts
    ≡ followed take (λ _. followed (r.declaration_list room (bodies room false) false segment)
    (λ ds. followed (parts.ended room) (λ xs. pure (ds, xs)))) ts
unfolding parts.ended
block_is room segment ts = under _ _ _ (λ _ us. under _ _ _ (λ ds vs. along _ _ _ _ (λ xs ws.
    along _ _ _ _ (λ _ zs. along_end _ _ zs) ws) vs) us) ts

-- a unit, by its main body
pub unit_is : (room : ℕ) (ts : List Lexeme) → r.unit room ts
    ≡ followed (expect (s.Word w.Begin)) (λ b. followed (r.declaration_list room (r.body room) true 0)
    (λ ds. followed (parts.main_body room)
    (λ m. pure (parts.unit_of ds m b.at)))) ts
unfolding r.unit parts.main_body parts.ended parts.stopped
unit_is room ts = under _ _ _ (λ b us. under _ _ _ (λ ds vs. along _ _ _ _ (λ n ws. by_end b ds n ws) vs) us) ts
  where
    end : Lexeme → List decl.Declaration → ℕ → List stat.Statement → Parser decl.UnitTree
    end b ds n xs = followed (expect s.Dot) (λ _. followed (expect s.Stop) (λ _. pure (parts.unit_of ds (n, xs) b.at)))

    by_end : (b : Lexeme) (ds : List decl.Declaration) (n : ℕ) (ws : List Lexeme)
        → followed (st.statement_list (st.statement room)) (λ xs. followed (expect (s.Word w.End)) (λ _. end b ds n xs)) ws
        ≡ followed (followed (parts.ended room) (λ xs. followed parts.stopped (λ _. pure (n, xs))))
        (λ m. pure (parts.unit_of ds m b.at)) ws
    by_end b ds n ws = along _ _ (end b ds n) _ (λ xs zs. along _ _ _ _ (λ _ is. along_end _ _ is) zs) ws
        ∙ along _ _ _ (end b ds n) (λ xs zs. along _ _ (λ _. pure (parts.unit_of ds (n, xs) b.at)) _ (λ _ is. refl) zs
        ∙ along _ _ _ _ (λ _ is. along_end _ _ is) zs) ws
