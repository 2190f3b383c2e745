-- A terminal as it is made.
use Rattle.std.specs.Prelude.{◌≡◌, ℕ, List, []}
use Rattle.hp_session.specs.declared.terminal.Line.{Line}
use Rattle.mpe_session.specs.declared.terminal.Terminal.{Terminal}

-- these lines will be typed, none was taken and nothing printed, and so many bytes may be
pub record IsFresh (t : Terminal) (typed : List Line) (size : ℕ) : Type 0 where
  pub lines : t.lines.items ≡ typed
  pub taken : t.next_line ≡ 0
  pub printed : t.printed.items ≡ []
  pub room : t.room ≡ size
