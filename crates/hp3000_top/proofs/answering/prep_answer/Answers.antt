-- What the parts answer is what the bytes come to, as a job to be prepared.
use Rattle.std.proofs.Common.{ℕ, true, Vec, Global, map, sym, subst}
use Rattle.job_gen.specs.job_text.Views.{text_value}
use Rattle.hp3000_top.specs.declared.answer.Answer.TheVariants.{Refusal}
use Rattle.hp3000_top.specs.declared.verbs.Verb.TheVariants as verb
use Rattle.hp3000_top.specs.Steps.{RefusedAmong, IsAnswered}
use Rattle.hp3000_top.proofs.AnswerLemmas.{programs_fit_so, prep_line_so, prep_program_so, single_so, prepared_so}
use Rattle.hp3000_top.proofs.answering.prep_answer.Goals as goal

pub returns-in-Err : goal.returns-in-Err
returns-in-Err c = prep_line_so c.args.bytes.now c.in-Err.fault c.in_ok-line-in-Err.line c.in-Err.ensures.fault c.in_ok-line-in-Err.ensures

pub programs_of-requires : goal.programs_of-requires
programs_of-requires c = programs_fit_so c.args.bytes.now true c.in-Ok.job c.deref.result.now c.requires c.in-Ok.ensures.ok c.deref.ensures.value

pub file_answer-requires : goal.file_answer-requires
file_answer-requires c =
    single_so c.args.bytes.now c.in-Ok.job c.deref.result.now c.in-Ok-programs_of.programs.items c.in-Ok.ensures.ok c.deref.ensures.value
    c.in-Ok-programs_of.ensures.made

pub returns-in-Ok-programs_of : goal.returns-in-Ok-programs_of
returns-in-Ok-programs_of c =
    prepared_so c.args.bytes.now c.in-Ok.job c.deref.result.now c.in-Ok-programs_of.programs.items c.file_answer.result c.in-Ok.ensures.ok c.deref.ensures.value
    c.in-Ok-programs_of.ensures.made c.file_answer.ensures

pub returns-in-Err-Refused : goal.returns-in-Err-Refused
returns-in-Err-Refused c =
    subst (λ (v : Vec ℕ Global). IsAnswered c.args.bytes.now verb.Prep (Refusal v)) (sym c.in-Err-Refused.line-is)
    (prep_program_so c.args.bytes.now c.in-Err-Refused.line c.in-Ok.job c.deref.result.now c.in-Ok.ensures.ok c.deref.ensures.value
    (subst (RefusedAmong (map text_value c.deref.result.now)) c.in-Err-Refused.field-0-is c.in-Err-Refused.ensures.refused))
