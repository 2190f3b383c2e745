-- Lists of declarations, by the pieces that are read apart.
use Rattle.std.proofs.Common.{ℕ, ◌≡◌, Bool, true, false, if◌then◌else◌, List, [], ◌∷◌, ◌++◌, refl, ◌∙◌}
use Rattle.spl_tree.specs.Symbols.{Lexeme}
use Rattle.spl_tree.specs.declared.symbols.Symbol.TheVariants as s
use Rattle.spl_tree.specs.DeclarationTrees as decl
use Rattle.spl_tree.specs.Declarations.{is_subroutine}
use Rattle.spl_reading.specs.Readers.{Parser, pure, followed, and_then, by_symbol, expect}
use Rattle.spl_reading.specs.ReadDeclarations as r
use Rattle.spl_declarations.specs.Nests as nests
use Rattle.spl_declarations.specs.Pieces as pieces
use Rattle.spl_tokens.proofs.Chains.{along, along_end}

-- a further declaration, where there is one
pub further_is : (room : ℕ) (unit : Bool) (segment : ℕ) (state : Bool × List decl.Declaration) (ts : List Lexeme)
    → nests.more_declarations room unit segment state ts
    ≡ followed (pieces.next room unit state.0 segment) (λ ds. pure (pieces.longer state ds)) ts
unfolding r.more_declarations pieces.next pieces.ended by_symbol followed and_then
further_is room unit segment state [] = refl
further_is room unit segment state (t ∷ ts) = go (nests.declares room unit t.symbol)
  where
    step : decl.Declaration → Parser (Bool × (Bool × List decl.Declaration))
    step d = pure (true, (is_subroutine d, state.1 ++ d ∷ []))

    end : List decl.Declaration → Parser (Bool × (Bool × List decl.Declaration))
    end ds = pure (pieces.longer state ds)

    go : (b : Bool) → (if b then followed (nests.declaration room unit state.0 segment) (λ d.
        followed (expect s.Semicolon) (λ _. step d)) else pure (false, state)) (t ∷ ts)
        ≡ followed (if b then followed (pieces.ended room unit state.0 segment) (λ d. pure (d ∷ [])) else pure [])
        end (t ∷ ts)
    go true = along (nests.declaration room unit state.0 segment) (λ d. followed (expect s.Semicolon) (λ _. pure d)) step
        (λ d. followed (expect s.Semicolon) (λ _. step d))
        (λ d us. along (expect s.Semicolon) (λ _. pure d) step (λ _. step d) (λ _ vs. along_end d step vs) us) (t ∷ ts)
        ∙ along (pieces.ended room unit state.0 segment) (λ d. pure (d ∷ [])) end step (λ d us. along_end (d ∷ []) end us) (t ∷ ts)
    go false = along_end [] end (t ∷ ts)
