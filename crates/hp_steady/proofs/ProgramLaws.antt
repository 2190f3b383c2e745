-- What holds of the steps and the words of a program.
use Rattle.std.proofs.Common.{◌≡◌, ℕ, ◌<◌, ◌≤◌, List, length, take, Option, None, Some, refl, arith}
use Rattle.std.specs.Prelude.{slice_get, option_and_then}
use Rattle.std.proofs.lemmas.Bool.Decides.{nat_tests}
use Rattle.std.proofs.lemmas.Option.{slice_get_within}
use Rattle.hp_flat.specs.hp_program.declared.program.Program.{Program}
use Rattle.hp_flat.specs.hp_program.Programs.{code_word, segments_of}
use Rattle.hp_flat.specs.hp_program.Valid.{is_head}
use Rattle.hp_flat.proofs.hp_program_proofs.ValidLaws.{right_head, segment_fits, program_labels_lead}
use Rattle.hp_flat.specs.hp_session.State.{Machine}
use Rattle.hp_flat.specs.Step.{step}
use Rattle.hp_flat.proofs.StepKeeping.{step-continues}

-- what a step keeps has what was printed in front
pub prints_added : (p : Program) (m : Machine) → take (length m.printed) (step (segments_of p) m).printed ≡ m.printed
prints_added p m = (step-continues (segments_of p) (program_labels_lead p) m).front

-- a program has at most 62 segments
few_segments : (p : Program) → length (segments_of p) ≤ 62
unfolding is_head
few_segments p = let head = right_head (segments_of p) p.main p.entry p.globals.items p.valid in grind (arith, nat_tests)

pub words_near : (p : Program) (seg offset w : ℕ) → code_word (segments_of p) seg offset ≡ Some w → (offset < 16383) × (seg < 62)
unfolding code_word
words_near p seg offset w is = by (slice_get (segments_of p) seg) refl is where
  by : (o : Option (List ℕ)) → slice_get (segments_of p) seg ≡ o → option_and_then (λ words. slice_get words offset) o ≡ Some w
      → (offset < 16383) × (seg < 62)
  by None there h = cc
  by (Some words) there h =
      let fits = segment_fits p seg words there in
      let within = slice_get_within words offset w h in
      let few = few_segments p in
      let one = slice_get_within (segments_of p) seg words there in
      (omega arith, omega arith)
