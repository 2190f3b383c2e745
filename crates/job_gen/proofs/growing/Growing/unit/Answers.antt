use Rattle.std.proofs.Common.{◌++◌}
use Rattle.job_gen.specs.Generated as generated
use Rattle.job_gen.proofs.GrowthLemmas.{grows_then}
use Rattle.job_gen.proofs.growing.Growing.unit.Goals as goal

pub returns : goal.returns
unfolding generated.unit_lines
returns c =
    grows_then c.args.self.now c.procedures.new.self c.main_body.new.self (generated.declarations ++ generated.procedures 80) generated.main_body
    (grows_then c.args.self.now c.declarations.new.self c.procedures.new.self generated.declarations (generated.procedures 80)
    c.in_ok-declarations.ensures c.in_ok-procedures.ensures)
    c.in_ok-main_body.ensures
