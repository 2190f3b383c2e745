-- The law of this crate.
use Rattle.std.specs.Prelude.{ℕ, ◌≤◌}
use Rattle.spl_body_code.specs.Frames.{granted}
use Rattle.spl_values.specs.spl_follow.Spots.{Spot, on, Ground}
use Rattle.spl_values.specs.spl_follow.Following.{Rate}
use Rattle.spl_values.specs.spl_follow.Standing.{Sites, Stands}
use Rattle.spl_values.specs.spl_follow.Rooms.{Grants}

-- Where the code at a body's entry stands, that grants the room: some words.
abbrev pub GrantedPiecesGrant : Type 0
GrantedPiecesGrant = (g : Ground) (w : Rate) (sites : Sites) (p q : Spot) (need : ℕ) → 1 ≤ need → Stands g sites (on p) (granted need) q
    → Grants g w p q need
