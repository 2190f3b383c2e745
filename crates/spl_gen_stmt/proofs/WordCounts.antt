-- How many words a statement adds, and those of a list.
use Rattle.std.proofs.Common.{◌≤◌, ℕ, ◌+◌, ◌*◌, List, length, ap, ◌∙◌, arith}
use Rattle.spl_tree.specs.StatementTrees.{Statement, Statements}
use Rattle.spl_sorts.specs.spl_meaning.Bound.{statement_weight, statements_weight}
use Rattle.spl_branch.specs.declared.buffer.Code.{Code}
use Rattle.spl_branch.specs.Pieces.{count_of}
use Rattle.spl_statement_code.specs.spl_code.Parts.{wants_of}
use Rattle.spl_statement_code.proofs.spl_code_proofs.CountLemmas.{count_append}
use Rattle.spl_statement_code.specs.Landings.{Context}
use Rattle.spl_statement_code.specs.Statements.{statement, listed}
use Rattle.spl_statement_code.specs.Labels.{AppendsSetting}
use Rattle.spl_statement_code.specs.FewWords.{nested_loops, nested_among}
use Rattle.spl_statement_code.proofs.CountLaws.{few_statement, few_listed}

pub words_added : (ctx : Context) (s : Statement) (sets : List ℕ) (k : ℕ) (c d : Code) → AppendsSetting sets (statement ctx s k) c d
    → k + 3 * nested_loops s ≤ 255 → count_of d.pieces.items + 12 ≤ count_of c.pieces.items + statement_weight s
words_added ctx s sets k c d a le =
    let all = ap count_of a.pieces ∙ count_append c.pieces.items (statement ctx s k (length c.marks.items) (wants_of c.wants.items)).pieces in
    let few = few_statement ctx s k (length c.marks.items) (wants_of c.wants.items) le in
    omega arith

pub list_words_added : (ctx : Context) (ss : Statements) (sets : List ℕ) (k : ℕ) (c d : Code) → AppendsSetting sets (listed ctx ss k) c d
    → k + 3 * nested_among ss ≤ 255 → count_of d.pieces.items ≤ count_of c.pieces.items + statements_weight ss
list_words_added ctx ss sets k c d a le =
    let all = ap count_of a.pieces ∙ count_append c.pieces.items (listed ctx ss k (length c.marks.items) (wants_of c.wants.items)).pieces in
    let few = (few_listed ctx ss k le).few (length c.marks.items) (wants_of c.wants.items) in
    omega arith
