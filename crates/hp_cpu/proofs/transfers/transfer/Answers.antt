-- Which of the four it is, by its code.
use Rattle.std.proofs.Common.{◌≡◌, ℕ, sym, ap, ◌∙◌}
use Rattle.hp_instr.specs.Groups.{group}
use Rattle.hp_instr.specs.declared.instruction.Instr.TheVariants.{Control}
use Rattle.hp_cpu.proofs.ActLemmas.{last_call}
use Rattle.hp_cpu.proofs.transfers.transfer.Goals as goal

pub returns-in-Control-eq2-default : goal.returns-in-Control-eq2-default
returns-in-Control-eq2-default g c = record {
  acts = λ program count here.
      let code = sym c.in-Control-eq2-default.which-is ∙ c.in-Control-eq2-default.which-test in
      rw (c.in-Control-eq2-default.is ∙ ap (λ (which : ℕ). Control which c.in-Control-eq2-default.n) code) (c.with_subroutine_exit.ensures.acts program);
  ready = c.with_subroutine_exit.ensures.ready;
}

pub returns-in-Control : goal.returns-in-Control
returns-in-Control g c = record {
  acts = λ program count here.
      let other = c.in-Control.which-test in
      let code = last_call c.in-Control.which c.in-Control.n _ (ap group (sym c.in-Control.is) ∙ c.requires) (sym c.in-Control.which-is) other.0.0.1 other.0.1 other.1 in
      rw (c.in-Control.is ∙ ap (λ (which : ℕ). Control which c.in-Control.n) code) (c.with_subroutine_call.ensures.acts program here);
  ready = c.with_subroutine_call.ensures.ready;
}
