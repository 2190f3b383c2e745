-- Where the words of a body's names are: within what the modes of the machine reach.
use Rattle.std.specs.Prelude.{◌≡◌, ℕ, ◌<◌, ◌≤◌, Bool, true, false, List, Some}
use Rattle.spl_sound_names.specs.spl_tree.declared.expressions.Kind.{Kind}
use Rattle.spl_sound_names.specs.spl_meaning.Places.{Place, data_word, above_base, below_base, below_return}
use Rattle.spl_sound_names.specs.spl_meaning.References.{Here, Setting}
use Rattle.spl_sound_names.specs.spl_meaning.Bodies.{Named, main_body}
use Rattle.spl_sound_names.specs.spl_meaning.Limits.{most_primary, most_locals}
use Rattle.std.specs.List.{slice_get}
use Rattle.spl_scopes.specs.Scopes.{Placed, routine_bodies, global_places}

-- A place in a body with this setting: a word of the primary area; one above the base, where local items have their words; one below the base,
-- among the words of the frame there and no more than 63 away; or, in a subroutine, one below the return word, among those of its parameters and
-- result.
abbrev pub IsNear : Setting → Place → Type 0
IsNear st (data_word a) = a < most_primary
IsNear st (above_base n) = (1 ≤ n) × (n ≤ most_locals)
IsNear st (below_base n) = (n ≤ 63) × (n ≤ st.below)
IsNear st (below_return n) = (n ≤ st.held) × (st.inside ≡ true)

-- so are the places of all names and results that parts of a body are read with
pub record PlacesAreNear (h : Here) : Type 0 where
  pub places : (x : List ℕ) (p : Place) → h.places x ≡ Some p → IsNear h.setting p
  pub results : (x : List ℕ) (k : Kind) (p : Place) → h.results x ≡ Some (k, p) → IsNear h.setting p

-- a place in the frame, and no data word
abbrev pub is_framed : Place → Bool
is_framed (data_word a) = false
is_framed _ = true

-- The bodies of a unit but those of subroutines: the main body, and each procedure.
pub record BodiesAreNear (p : Placed) : Type 0 where
  pub main : PlacesAreNear (main_body (global_places p) p.unit).here
  pub routines : (j : ℕ) (b : Named) → slice_get (routine_bodies p) j ≡ Some b → PlacesAreNear b.body.here
