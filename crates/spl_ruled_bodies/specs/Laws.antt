-- The laws of this crate.
use Rattle.std.specs.Prelude.{◌≡◌, ℕ, true, List, Some}
use Rattle.std.specs.List.{slice_get}
use Rattle.spl_sound_beginnings.specs.spl_meaning.Bodies.{Named}
use Rattle.spl_sound_beginnings.specs.spl_meaning.Tables.{Source}
use Rattle.spl_sound_beginnings.specs.spl_meaning.Sound.{IsSound}
use Rattle.spl_sound_beginnings.specs.spl_scopes.Scopes.{Placed, unit_at, routine_bodies}
use Rattle.spl_sound_beginnings.specs.spl_sound.Spelled.{AreSpelled}
use Rattle.spl_sound_beginnings.specs.spl_places.Programs.{Each}
use Rattle.spl_shapes.specs.Shapes.{is_shaped_unit}
use Rattle.spl_ruled_bodies.specs.Ruled.{RoutineAt, MainAt}

-- tokens spell the trees of units
abbrev pub AreShaped : List Source → Type 0
AreShaped us = Each (λ u. is_shaped_unit u.tree ≡ true) us

-- In units that tokens spell and that break no rule the names of each procedure are found, and its heading, its list and its statements break none.
abbrev pub RoutinesAreRuled : Type 0
RoutinesAreRuled = (us : List Source) → AreSpelled us → AreShaped us → IsSound us → (i : ℕ) (p : Placed) → unit_at us i ≡ Some p → (j : ℕ) (b : Named)
    → slice_get (routine_bodies p) j ≡ Some b → RoutineAt p j b

-- So it is with the statements of each main body.
abbrev pub MainBodiesAreRuled : Type 0
MainBodiesAreRuled = (us : List Source) → AreSpelled us → AreShaped us → IsSound us → (i : ℕ) (p : Placed) → unit_at us i ≡ Some p → MainAt p
