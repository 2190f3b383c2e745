use Rattle.std.proofs.Common.{subst, List, ◌∷◌, [], sym}
use Rattle.job_gen.specs.Generated as generated
use Rattle.job_gen.proofs.GrowthLemmas.{grows_then, with_segment, without_segment}
use Rattle.job_gen.specs.Grows.{Grows}
use Rattle.job_gen.specs.declared.growing.Growing.{Growing}
use Rattle.job_gen.specs.Pieces.{Line}
use Rattle.job_gen.proofs.growing.Growing.procedure_lines.Goals.{then-k-eq0+in_ok-segment, else-k-eq0}
use Rattle.job_gen.proofs.growing.Growing.procedure_lines.Goals as goal

-- with the line of a segment, or without
pub returns : goal.returns
returns c =
    elim c.if-k-eq0.branch [
      | then-k-eq0+in_ok-segment w ↦
          subst (λ (ls : List Line). Grows c.args.self.now c.procedure.new.self ls) (sym (with_segment c.args.k w.if-k-eq0.true))
          (grows_then c.args.self.now w.segment.new.self c.procedure.new.self _ _ w.in_ok-segment.ensures
          (subst (λ (g : Growing). Grows g c.procedure.new.self (generated.procedure c.args.k ∷ [])) w.self-is c.in_ok-procedure.ensures))
      | else-k-eq0 w ↦
          subst (λ (ls : List Line). Grows c.args.self.now c.procedure.new.self ls) (sym (without_segment c.args.k w.if-k-eq0.false))
          (subst (λ (g : Growing). Grows g c.procedure.new.self (generated.procedure c.args.k ∷ [])) w.self-is c.in_ok-procedure.ensures)
    ]
