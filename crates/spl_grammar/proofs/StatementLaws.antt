-- What follows from the laws of the readers of statements.
use Rattle.std.proofs.Common.{ℕ, ◌≡◌, List, ◌∷◌, length, arith, sym, ◌∙◌}
use Rattle.spl_reading.specs.spl_tree.Symbols.{Lexeme}
use Rattle.spl_reading.specs.spl_tree.StatementTrees as stat
use Rattle.spl_reading.specs.spl_tree.Statements as st
use Rattle.spl_reading.specs.Readers.{Bad}
use Rattle.spl_reading.specs.ReadStatements.{statement}
use Rattle.spl_grammar.specs.Following.{After}
use Rattle.spl_grammar.specs.Answers.{Agrees}
use Rattle.spl_grammar.proofs.LocalStatements.{local_statement}
use Rattle.spl_grammar.proofs.CompleteStatements.{complete_statement}
use Rattle.spl_grammar.proofs.SoundStatements.{statement_explained}
use Rattle.spl_grammar.proofs.ExpressionLaws.{read_whole, same_got, like_bad, not_near}

pub statement_fault : (room : ℕ) {t : Lexeme} {us vs ts more : List Lexeme} → statement room ts ≡ Bad (t ∷ us)
    → Agrees us vs ts more
    → (statement room more ≡ Bad (t ∷ vs)) ×
    ((x : stat.Statement) (rest : List Lexeme) → st.Statement x more rest → After x rest → ⊥)
statement_fault room {t = t} {us = us} {vs = vs} {ts = ts} {more = more} e a =
    let b = like_bad us vs t _ _ ((local_statement room).alike us vs ts more a) e in
    (b, λ x rest v w. not_near ((complete_statement v w).reads room) b)

pub statement_unique : {x y : stat.Statement} {ts rest more : List Lexeme} → st.Statement x ts rest → After x rest
    → st.Statement y ts more → After y more
    → (x ≡ y) × (rest ≡ more)
statement_unique {ts = ts} v w k z =
    let a = statement_explained (length ts) 0 ts (omega arith) in
    same_got _ _ _ _ (sym (read_whole ((complete_statement v w).reads (length ts)) a) ∙ read_whole
    ((complete_statement k z).reads (length ts)) a)
