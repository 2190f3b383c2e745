-- What is appended with the statements from here on is all. And each call is of something lighter, by the weight of its tree.
use Rattle.std.proofs.Common.{◌+◌, map}
use Rattle.spl_tree.specs.Views as view
use Rattle.spl_tree.specs.StatementTrees.{statements}
use Rattle.spl_sorts.specs.spl_meaning.Bound.{statement_weight, statements_weight}
use Rattle.spl_statement_code.specs.Statements.{listed, arms}
use Rattle.spl_gen_stmt.specs.Contexts.{context_of}
use Rattle.spl_gen_stmt.proofs.StatementLemmas.{Due, rest_of}
use Rattle.spl_gen_stmt.proofs.statements.+statements.Given as goal

abbrev pub invariant-listed-loop-s : goal.invariant-listed-loop-s
invariant-listed-loop-s l =
    Due (context_of l.context) (λ ss. listed (context_of l.context) ss l.waiting) (statements (map view.statement l.list)) (rest_of l.list l.s-index) l.fn.code l.code

abbrev pub invariant-arms-loop-s : goal.invariant-arms-loop-s
invariant-arms-loop-s l =
    Due (context_of l.context) (λ ss. arms (context_of l.context) ss l.waiting l.end) (statements (map view.statement l.list)) (rest_of l.list l.s-index) l.fn.code l.code

abbrev pub decreases-statement : goal.decreases-statement
decreases-statement l = statement_weight (view.statement l.s.now)

abbrev pub decreases-listed : goal.decreases-listed
decreases-listed l = statements_weight (statements (map view.statement l.list.now)) + 1

abbrev pub decreases-choose : goal.decreases-choose
decreases-choose l = statement_weight (view.statement l.then_part.now) + 1

abbrev pub decreases-choose_or : goal.decreases-choose_or
decreases-choose_or l = statement_weight (view.statement l.then_part.now) + statement_weight (view.statement l.else_part.now) + 1

abbrev pub decreases-repeat_while : goal.decreases-repeat_while
decreases-repeat_while l = statement_weight (view.statement l.body.now) + 1

abbrev pub decreases-repeat_until : goal.decreases-repeat_until
decreases-repeat_until l = statement_weight (view.statement l.body.now) + 1

abbrev pub decreases-turn : goal.decreases-turn
decreases-turn l = statement_weight (view.statement l.body.now) + 1

abbrev pub decreases-choose_among : goal.decreases-choose_among
decreases-choose_among l = statements_weight (statements (map view.statement l.list.now)) + 3

abbrev pub decreases-arms : goal.decreases-arms
decreases-arms l = statements_weight (statements (map view.statement l.list.now)) + 2

abbrev pub decreases-arm : goal.decreases-arm
decreases-arm l = statement_weight (view.statement l.body.now) + 1
