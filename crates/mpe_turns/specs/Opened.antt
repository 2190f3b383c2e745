-- Sessions as they open.
use Rattle.std.specs.Prelude.{◌≡◌, ℕ, ◌<◌, List, length, slice_get, Some}
use Rattle.hp_program.specs.declared.program.Program.{Program}
use Rattle.mpe_session.specs.declared.seat.Seat.{Seat}
use Rattle.mpe_overlay.specs.Codes.{codes_of}
use Rattle.mpe_worlds.specs.Opening.{opening_runs}
use Rattle.mpe_turns.specs.declared.session.Session.{Session}
use Rattle.mpe_turns.specs.Stands.{IsSessionOf, runs_of}

-- sessions of programs, which stand for those with which a world of these seats opens
pub record AreOpened (programs : List Program) (seats : List Seat) (sessions : List Session) : Type 0 where
  pub runs : runs_of (codes_of programs) sessions ≡ opening_runs programs seats
  pub count : length sessions ≡ length seats
  pub there : (who : ℕ) (s : Session) → slice_get sessions who ≡ Some s → s.program < length programs
  pub each : (who : ℕ) (s : Session) (p : Program) → slice_get sessions who ≡ Some s → slice_get programs s.program ≡ Some p → IsSessionOf p s
  pub steps : (who : ℕ) (s : Session) → slice_get sessions who ≡ Some s → s.steps ≡ 0
