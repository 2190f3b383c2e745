-- The words that a list of statements adds.
use Rattle.std.proofs.Common.{map, arith}
use Rattle.spl_tree.specs.Views as view
use Rattle.spl_tree.specs.StatementTrees.{statements}
use Rattle.spl_operations.proofs.PutLemmas.{ok_then}
use Rattle.spl_gen_stmt.proofs.WordCounts.{list_words_added}
use Rattle.spl_gen_stmt.proofs.generator.gen_statements.Goals as goal

pub returns-clause-words : goal.returns-clause-words
returns-clause-words c =
    ok_then c.listed.result
    (λ last le. list_words_added _ (statements (map view.statement c.args.list.now)) _ c.from.result c.args.code.now c.listed.new.code last
    (let same = c.from.ensures in omega (arith, same, le)))
    c.listed.ensures
