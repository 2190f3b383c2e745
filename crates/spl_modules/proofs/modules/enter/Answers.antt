-- The module of the segment has an entry more.
use Rattle.spl_tree.specs.Views.{letters}
use Rattle.spl_modules.proofs.EnteredLemmas.{entered_there, entered_in}
use Rattle.spl_modules.proofs.modules.enter.Goals as goal

pub returns-clause-index : goal.returns-clause-index
returns-clause-index c =
    entered_there c.args.modules.now.items c.reach.new.modules.items c.args.segment c.from.result c.in_ok-index.index c.index_mut-module.result.now
    c.from.ensures c.in_ok-reach.ensures.there c.index_mut-module.ensures.value c.in_ok-reach.ensures.entered c.in_ok-index.ensures.index

pub returns-clause-entered : goal.returns-clause-entered
returns-clause-entered c =
    entered_in c.args.modules.now.items c.reach.new.modules.items c.args.segment c.from.result c.index_mut-module.result.now c.add.new.self
    (letters c.args.name.now) c.args.callable c.from.ensures c.in_ok-reach.ensures.there c.index_mut-module.ensures.value c.in_ok-reach.ensures.entered
    c.in_ok-index.ensures.entries c.in_ok-index.ensures.procedures
