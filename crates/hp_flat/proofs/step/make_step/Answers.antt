-- A word that is answered leaves what its row keeps, and no trap.
use Rattle.std.proofs.Common.{rules, ◌≡◌, false, ap}
use Rattle.std.specs.Prelude.{Ok}
use Rattle.hp_session.specs.Keeping.{is_trapped}
use Rattle.hp_program.specs.Programs.{segments_of}
use Rattle.hp_program.proofs.ValidLaws.{program_labels_lead}
use Rattle.hp_flat.specs.Step.{outcome}
use Rattle.hp_flat.proofs.StepKeeping.{answered-continues, answered-untrapped}
use Rattle.hp_flat.proofs.step.make_step.Goals as goal

pub returns-in_default-clause-kept : goal.returns-in_default-clause-kept
returns-in_default-clause-kept c =
    let is : outcome (segments_of c.args.program.now) c.args.session.now ≡ Ok c.act.new.session = search rules in
    answered-continues (segments_of c.args.program.now) (program_labels_lead c.args.program.now) _ _ is

pub returns-in_default-clause-trap : goal.returns-in_default-clause-trap
returns-in_default-clause-trap c =
    let is : outcome (segments_of c.args.program.now) c.args.session.now ≡ Ok c.act.new.session = search rules in
    let runs : is_trapped c.args.session.now.ending ≡ false = ap is_trapped c.requires in
    let quiet = answered-untrapped (segments_of c.args.program.now) (program_labels_lead c.args.program.now) _ _ is runs in
    λ trap. cc
