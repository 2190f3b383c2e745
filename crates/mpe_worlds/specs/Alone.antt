-- That each session of a world goes on as if it ran alone.
use Rattle.std.specs.Prelude.{◌≡◌, ℕ, ◌≤◌, ◌-◌, List, length, slice_get, Some}
use Rattle.hp_cpu.specs.hp_session.State.{Machine}
use Rattle.hp_cpu.specs.hp_flat.Step.{after}
use Rattle.mpe_worlds.specs.Worlds.{Run, World, segments_at}

-- a session of the same program, which has made no fewer steps. It stands where the flat machine of its program stands after so
-- many steps more; so from any state from which its steps had led to where it was, all of its steps lead to where it is
pub record GoesOn (segments : List (List ℕ)) (old new : Run) : Type 0 where
  pub same_program : new.program ≡ old.program
  pub later : old.steps ≤ new.steps
  pub goes_on : new.machine ≡ after segments (new.steps - old.steps) old.machine
  pub alone : (start : Machine) → old.machine ≡ after segments old.steps start → new.machine ≡ after segments new.steps start

-- there are as many sessions, and each goes on
pub record EachGoesOn (codes : List (List (List ℕ))) (old new : World) : Type 0 where
  pub same_count : length new.runs ≡ length old.runs
  pub each : (who : ℕ) (r s : Run) → slice_get old.runs who ≡ Some r → slice_get new.runs who ≡ Some s
      → GoesOn (segments_at codes r.program) r s
