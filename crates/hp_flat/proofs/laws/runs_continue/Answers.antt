-- Its program is valid, so its labels lead somewhere.
use Rattle.hp_program.specs.Programs.{segments_of}
use Rattle.hp_program.proofs.ValidLaws.{program_labels_lead}
use Rattle.hp_flat.proofs.RunLaws.{after-continues}
use Rattle.hp_flat.proofs.laws.runs_continue.Goals as goal

pub returns : goal.returns
returns c = λ m. after-continues (segments_of c.args.program.now) (program_labels_lead c.args.program.now) c.args.steps m
