-- Text by text.
use Rattle.std.proofs.Common.{map}
use Rattle.job_gen.specs.job_text.Fits.{ProgramFits}
use Rattle.job_gen.specs.job_text.Views.{text_value}
use Rattle.hp3000_top.specs.Steps.{RefusedAmong}
use Rattle.hp3000_top.proofs.Loops.{handed, each_at, made_none, made_step, refused_step}
use Rattle.hp3000_top.proofs.programs.programs_of.Goals as goal

pub loop-text-init : goal.loop-text-init
loop-text-init c = made_none c.in_ok-programs.programs.items c.in_ok-programs.ensures.items

pub program_of-requires : goal.program_of-requires
program_of-requires c = each_at (ProgramFits 1048576) text_value c.args.texts.now c.loop-text.text-index c.text-item.result c.requires c.loop-text-test.true c.text-item.is

pub returns-in_err-program-clause-refused : goal.returns-in_err-program-clause-refused
returns-in_err-program-clause-refused c =
    handed (RefusedAmong (map text_value c.args.texts.now)) c.from_residual-in_err-program.result c.in_err-program.field-0.0 c.from_residual-in_err-program.ensures.1
    (refused_step c.args.texts.now c.loop-text.text-index c.text-item.result c.loop-text.programs.items c.in_err-program.field-0.0 c.loop-text-test.true c.text-item.is
    c.loop-text.invariant c.in_err-program.ensures.refused)

pub loop-text-preserved : goal.loop-text-preserved
loop-text-preserved c =
    made_step c.args.texts.now c.loop-text.text-index c.text-item.result c.loop-text.programs.items c.push.new.self.items c.in_ok-program.program c.loop-text-test.true
    c.text-item.is c.in_ok-push.ensures.items c.loop-text.invariant c.in_ok-program.ensures.made
