use Rattle.hp_program.specs.Programs.{segments_of}
use Rattle.hp_flat.proofs.RunLaws.{after-add}
use Rattle.hp_flat.proofs.laws.steps_add_up.Goals as goal

pub returns : goal.returns
returns c = λ m. after-add (segments_of c.args.program.now) c.args.first c.args.more m
