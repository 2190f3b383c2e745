-- Entries as the code of a module has them: each with the mark of its number.
use Rattle.std.specs.Prelude.{ℕ, suc, Bool, List, [], ◌∷◌}
use Rattle.spl_tree.specs.Views.{letters}
use Rattle.spl_branch.specs.declared.buffer.Entry as code
use Rattle.spl_scopes.specs.Entries.{Entry, is_callable}

-- an entry of code
pub record Made : Type 0 where
  pub name : List ℕ
  pub mark : ℕ
  pub callable : Bool

-- an entry as the code has it
abbrev pub made_of : code.Entry → Made
made_of e = record { name = letters e.name; mark = e.mark; callable = e.callable }

-- entries in order, with marks from one on
abbrev pub made_from : ℕ → List Entry → List Made
made_from k [] = []
made_from k (e ∷ es) = record { name = e.name; mark = k; callable = is_callable e.callee } ∷ made_from (suc k) es
