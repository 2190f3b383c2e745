use Rattle.hp_program.specs.Programs.{segments_of}
use Rattle.hp_flat.proofs.RunLaws.{after_ended}
use Rattle.hp_flat.proofs.laws.ended_runs_stay.Goals as goal

pub returns : goal.returns
returns c = λ m h. after_ended (segments_of c.args.program.now) c.args.steps m h
