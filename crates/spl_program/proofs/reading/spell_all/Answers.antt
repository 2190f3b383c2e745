-- Text by text.
use Rattle.std.proofs.Common.{map}
use Rattle.spl_lexer.specs.TokenViews.{listed_of}
use Rattle.spl_program.specs.Steps.{UnspelledAmong}
use Rattle.spl_program.proofs.LoopLemmas.{handed, ready_at, units_none, units_step, unspelled_step}
use Rattle.spl_program.proofs.reading.spell_all.Goals as goal

pub loop-lexed-init : goal.loop-lexed-init
loop-lexed-init c = units_none c.in_ok-units.units.items c.in_ok-units.ensures.items

pub spell-requires : goal.spell-requires
spell-requires c = ready_at c.args.all.now c.loop-lexed.lexed-index c.lexed-item.result c.loop-lexed-test.true c.lexed-item.is c.requires

pub returns-in_err-unit-clause-fault : goal.returns-in_err-unit-clause-fault
returns-in_err-unit-clause-fault c =
    handed (UnspelledAmong (map listed_of c.args.all.now)) c.from_residual-in_err-unit.result c.in_err-unit.field-0.0 c.from_residual-in_err-unit.ensures.1
    (unspelled_step c.args.all.now c.loop-lexed.lexed-index c.lexed-item.result c.loop-lexed.units.items c.in_err-unit.field-0.0 c.loop-lexed-test.true c.lexed-item.is
    c.loop-lexed.invariant c.in_err-unit.ensures.fault)

pub loop-lexed-preserved : goal.loop-lexed-preserved
loop-lexed-preserved c =
    units_step c.args.all.now c.loop-lexed.lexed-index c.lexed-item.result c.loop-lexed.units.items c.push.new.self.items c.in_ok-unit.unit c.loop-lexed-test.true
    c.lexed-item.is c.in_ok-push.ensures.items c.loop-lexed.invariant c.in_ok-unit.ensures.unit
