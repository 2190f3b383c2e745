use Rattle.spl_statements.proofs.statements.+statement.Given as goal

-- one construct fewer may be opened inside
abbrev pub decreases-statement : goal.decreases-statement
decreases-statement l = l.room
