-- How many words an expression adds.
use Rattle.std.proofs.Common.{◌≡◌, ◌≤◌, ℕ, ◌+◌, length, ap, ◌∙◌, arith}
use Rattle.spl_tree.specs.Trees.{Tree}
use Rattle.spl_sorts.specs.spl_meaning.Bound.{weight}
use Rattle.spl_branch.specs.declared.buffer.Code.{Code}
use Rattle.spl_branch.specs.Pieces.{count_of}
use Rattle.spl_operations.specs.spl_code.Parts.{wants_of}
use Rattle.spl_operations.specs.spl_code.Calls.{Scope}
use Rattle.spl_operations.specs.spl_code.Code.{Aim, code}
use Rattle.spl_operations.specs.spl_code.FewWords.{spare}
use Rattle.spl_operations.specs.spl_code.Appends.{Appends}
use Rattle.spl_operations.proofs.spl_code_proofs.CountLemmas.{count_append}
use Rattle.spl_operations.proofs.spl_code_proofs.CountLaws.{few_code}

pub words_added : (s : Scope) (e : Tree) (aim : Aim) (k : ℕ) (c d : Code) → Appends (code s e aim k) c d
    → count_of d.pieces.items + spare aim ≤ count_of c.pieces.items + weight e
words_added s e aim k c d a =
    let all = ap count_of a.pieces ∙ count_append c.pieces.items (code s e aim k (length c.marks.items) (wants_of c.wants.items)).pieces in
    let few = few_code s e aim k (length c.marks.items) (wants_of c.wants.items) in
    omega arith
