-- The session lives, what is left to be made from here on is what was left at first, and the view is one of its program.
use Rattle.std.proofs.Common.{◌≡◌, ◌≤◌, ◌-◌, slice_get, Some}
use Rattle.std.specs.Prelude.{true}
use Rattle.hp_word.specs.declared.endings.Ending.TheVariants.{Running}
use Rattle.hp_program.specs.declared.program.Program.{Program}
use Rattle.mpe_turns.specs.Stands.{IsSessionOf}
use Rattle.mpe_turns.specs.Steps.{MakesSome, Views}
use Rattle.mpe_turns.proofs.stepping.run.Given as goal

abbrev pub invariant-stepping : goal.invariant-stepping
invariant-stepping l = record {
  running : l.session.ending ≡ Running;
  below : l.session.steps ≤ l.until;
  left : l.left ≡ l.until - l.session.steps;
  program : l.session.program ≡ l.fn.session.program;
  views : Views l.overlay l.session.program l.code;
  some : (p : Program) → slice_get l.overlay.programs.items l.fn.session.program ≡ Some p → IsSessionOf p l.fn.session
      → MakesSome p l.overlay.regions.area l.until l.fn.session true l.session;
}

abbrev pub decreases-stepping : goal.decreases-stepping
decreases-stepping l = l.left
