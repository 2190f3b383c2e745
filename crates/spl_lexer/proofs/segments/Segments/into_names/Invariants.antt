use Rattle.std.proofs.Common.{◌≡◌, ◌++◌, map}
use Rattle.spl_tree.specs.Views.{letters}
use Rattle.spl_lexer.proofs.segments.Segments.into_names.Given as goal

-- the names so far, and those left, are all
abbrev pub invariant-loop-text : goal.invariant-loop-text
invariant-loop-text l = map letters l.names.items ++ map (λ n. n.items) l.text-iterator ≡ l.fn.self
