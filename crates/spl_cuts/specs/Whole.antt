-- What holds of each list of tokens that a text is cut into.
use Rattle.std.specs.Prelude.{ℕ, ◌≡◌, ◌+◌, ◌<◌, ◌≤◌, Bool, true, false, List, [], ◌∷◌, length}
use Rattle.spl_cuts.specs.Signs.{Sign, stop, Placed, Listed}

abbrev pub is_end : Sign → Bool
is_end stop = true
is_end _ = false

-- a token of this unit, in one of so many segments
pub record IsIn (one segments : ℕ) (t : Placed) : Type 0 where
  pub unit : t.at.unit ≡ one
  pub segment : t.segment < segments

-- such tokens, of which the last and no other is the end of the text
pub data Ends (unit segments : ℕ) : List Placed → Type 0 where
  last : {t : Placed} → t.what ≡ stop → IsIn unit segments t → Ends unit segments (t ∷ [])
  before : {t : Placed} {ts : List Placed} → is_end t.what ≡ false → IsIn unit segments t → Ends unit segments ts → Ends unit segments (t ∷ ts)

-- a list of at most so many tokens before its end
pub record IsWhole (unit limit : ℕ) (x : Listed) : Type 0 where
  pub few : length x.tokens ≤ limit + 1
  pub ends : Ends unit (length x.segments) x.tokens
