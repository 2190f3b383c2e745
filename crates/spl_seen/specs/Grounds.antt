-- What is known of the names of a body, before any code is made of it.
use Rattle.std.specs.Prelude.{◌≡◌, ℕ, ◌||◌, true, List, Option, Some}
use Rattle.spl_ruled_bodies.specs.spl_meaning.Names.{Sort}
use Rattle.spl_ruled_bodies.specs.spl_meaning.Places.{Place}
use Rattle.spl_ruled_bodies.specs.spl_meaning.Bodies.{Body}
use Rattle.spl_ruled_bodies.specs.spl_meaning.ExpressionRules.{Scope}
use Rattle.spl_ruled_bodies.specs.spl_sound_names.Known.{is_item, is_passed, NamesAreFound}
use Rattle.spl_sound_values.specs.spl_near_places.Near.{is_framed, PlacesAreNear}
use Rattle.spl_sound_values.specs.spl_tops.Seen.{is_fixed}
use Rattle.spl_ruled_bodies.specs.Ruled.{AreFit}
use Rattle.spl_sound_values.specs.Seen.{is_plain_sort}

-- Of a body whose rules are those of a scope, and whose subroutines have these entries: what its names stand for is found, stands near, and is as its uses
-- ask; no item is counted from the top; parameters are declared in it; and in a split procedure what is declared there stands in its frame, and has no elements but those of a pointer.
pub record Grounds (entries : List ℕ → Option ℕ) (b : Body) (sc : Scope) : Type 0 where
  pub names : sc.names ≡ b.here.names
  pub split : sc.split ≡ b.here.setting.split
  pub found : NamesAreFound b.here.names b.here.places entries
  pub near : PlacesAreNear b.here
  pub fit : AreFit b.here.names
  pub fixed : (x : List ℕ) (s : Sort) (p : Place) → b.here.names x ≡ Some s → is_item s ≡ true → b.here.places x ≡ Some p → is_fixed p ≡ true
  pub local : (x : List ℕ) (s : Sort) → b.here.names x ≡ Some s → is_passed s ≡ true → sc.is_local x ≡ true
  pub framed : b.here.setting.split ≡ true → (x : List ℕ) (s : Sort) (p : Place) → b.here.names x ≡ Some s → (is_item s || is_passed s) ≡ true
      → sc.is_local x ≡ true → b.here.places x ≡ Some p → is_framed p ≡ true
  pub plain : b.here.setting.split ≡ true → (x : List ℕ) (s : Sort) → b.here.names x ≡ Some s → sc.is_local x ≡ true → is_plain_sort s ≡ true
