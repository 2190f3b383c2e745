-- The table shows its declarations by their names.
use Rattle.std.proofs.lemmas.Result.{on_ok_weaker}
use Rattle.spl_tree.specs.Views.{letters}
use Rattle.spl_sorts.specs.Sorts.{sort_of}
use Rattle.spl_sorts.specs.Tables.{table_of}
use Rattle.spl_lists.proofs.OwnLemmas.{declared_in}
use Rattle.spl_lists.proofs.own.declare.Goals as goal

pub returns : goal.returns
returns c =
    on_ok_weaker c.declare.result (λ d. declared_in (table_of c.args.own.now) (table_of c.declare.new.self) (letters c.args.name.now) (sort_of c.args.sort) d)
    c.declare.ensures
