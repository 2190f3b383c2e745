-- What the parts answer is what the bytes come to, as a job to be run.
use Rattle.std.proofs.Common.{ℕ, false, Vec, Global, map, refl, sym, subst}
use Rattle.job_gen.specs.job_text.Views.{text_value}
use Rattle.hp3000_top.specs.declared.answer.Answer.TheVariants.{Refusal}
use Rattle.hp3000_top.specs.Steps.{RefusedAmong, IsAnswered}
use Rattle.hp3000_top.proofs.AnswerLemmas.{fits_so, programs_fit_so, run_line_so, run_program_so, run_so}
use Rattle.hp3000_top.proofs.answering.run_answer.Goals as goal

pub returns-in-Err : goal.returns-in-Err
returns-in-Err c = run_line_so c.args.verb c.args.bytes.now c.in-Err.fault c.in_ok-line-in-Err.line c.requires.runs c.in-Err.ensures.fault c.in_ok-line-in-Err.ensures

pub programs_of-requires : goal.programs_of-requires
programs_of-requires c = programs_fit_so c.args.bytes.now false c.in-Ok.job c.deref.result.now c.requires.short c.in-Ok.ensures.ok c.deref.ensures.value

pub run-requires-clause-fits : goal.run-requires-clause-fits
run-requires-clause-fits c = fits_so c.args.bytes.now false c.in-Ok.job c.requires.short c.in-Ok.ensures.ok

pub returns-in-Ok-programs_of : goal.returns-in-Ok-programs_of
returns-in-Ok-programs_of c =
    run_so c.args.verb c.args.bytes.now _ c.in-Ok.job c.deref.result.now c.in-Ok-programs_of.programs.items c.run.result c.requires.runs refl
    c.in-Ok.ensures.ok c.deref.ensures.value
    c.in-Ok-programs_of.ensures.made c.run.ensures

pub returns-in-Err-Refused : goal.returns-in-Err-Refused
returns-in-Err-Refused c =
    subst (λ (v : Vec ℕ Global). IsAnswered c.args.bytes.now c.args.verb (Refusal v)) (sym c.in-Err-Refused.line-is)
    (run_program_so c.args.verb c.args.bytes.now c.in-Err-Refused.line c.in-Ok.job c.deref.result.now c.requires.runs c.in-Ok.ensures.ok c.deref.ensures.value
    (subst (RefusedAmong (map text_value c.deref.result.now)) c.in-Err-Refused.field-0-is c.in-Err-Refused.ensures.refused))
