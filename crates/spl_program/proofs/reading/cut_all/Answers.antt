-- Text by text.
use Rattle.std.proofs.Common.{◌+◌, refl}
use Rattle.spl_program.specs.Programs.{texts_of}
use Rattle.spl_program.specs.Steps.{UncutAmong}
use Rattle.spl_program.proofs.LoopLemmas.{handed, short_at, cut_none, ready_none, ready_more, cut_step, uncut_step}
use Rattle.spl_program.proofs.reading.cut_all.Goals as goal

pub loop-i-init : goal.loop-i-init
loop-i-init c = record { cut = cut_none c.in_ok-all.all.items c.in_ok-all.ensures.items; ready = ready_none c.in_ok-all.all.items c.in_ok-all.ensures.items }

pub cut-requires : goal.cut-requires
cut-requires c =
    rw c.deref.ensures.value (short_at c.args.texts.now c.loop-i.i c.index-texts-i.result c.loop-i-test.true c.index-texts-i.is c.requires.short)

pub returns-in_err-lexed-clause-fault : goal.returns-in_err-lexed-clause-fault
returns-in_err-lexed-clause-fault c =
    handed (UncutAmong 1 (texts_of c.args.texts.now)) c.from_residual-in_err-lexed.result c.in_err-lexed.field-0.0 c.from_residual-in_err-lexed.ensures.1
    (uncut_step c.args.texts.now c.loop-i.i (c.loop-i.i + 1) c.deref.result.now c.index-texts-i.result c.loop-i.all.items c.in_err-lexed.field-0.0 c.loop-i-test.true
    c.index-texts-i.is c.deref.ensures.value refl c.loop-i.invariant.cut c.in_err-lexed.ensures.fault)

pub loop-i-preserved : goal.loop-i-preserved
loop-i-preserved c = record {
  cut = cut_step c.args.texts.now c.loop-i.i (c.loop-i.i + 1) c.deref.result.now c.index-texts-i.result c.loop-i.all.items c.push.new.self.items c.in_ok-lexed.lexed
      c.loop-i-test.true c.index-texts-i.is c.deref.ensures.value refl c.in_ok-push.ensures.items c.loop-i.invariant.cut c.in_ok-lexed.ensures.cut;
  ready = ready_more c.loop-i.all.items c.push.new.self.items c.in_ok-lexed.lexed c.in_ok-push.ensures.items c.loop-i.invariant.ready c.in_ok-lexed.ensures.ready;
}
