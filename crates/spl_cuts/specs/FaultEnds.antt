-- Where the piece of a first fault ends.
use Rattle.std.specs.Prelude.{ℕ, ◌≡◌, ◌+◌, ◌<◌, ◌≤◌, true, false, List, [], ◌∷◌, ◌++◌, length, map}
use Rattle.std.specs.List.{list_all}
use Rattle.spl_tree.specs.declared.names_and_places.At.{At}
use Rattle.spl_cuts.specs.declared.faults.LexKind.{LexKind}
use Rattle.spl_cuts.specs.declared.faults.LexKind.TheVariants as k
use Rattle.spl_cuts.specs.Signs.{Sign}
use Rattle.spl_cuts.specs.Bytes.{is_allowed, blanked, past_all}
use Rattle.spl_cuts.specs.Pieces.{Item, token, Faulty}
use Rattle.spl_cuts.specs.Defines.{State, is_outside, Takes, Breaks}
use Rattle.spl_cuts.specs.Cutting.{Here, here, start, fresh, begins_line, StandsBlanked, Cut}

-- The first fault of the text under a limit, as in Cutting, and its piece ends behind so many bytes of the text: the faulty
-- piece, the byte, the token that breaks a DEFINE, the end of the text, or the token that is one too many.
pub data EndsBehind (unit limit : ℕ) (text : List ℕ) : LexKind → At → ℕ → Type 0 where
  piece : {there : Here} {s : State} (front rest : List ℕ) (kind : LexKind) (size : ℕ)
      → Cut (start unit) fresh text there s (front ++ rest) → s.count ≤ limit
      → Faulty (begins_line there) (map blanked front) kind (map blanked rest) → size + length rest ≡ length text
      → EndsBehind unit limit text kind there.at size
  byte : {there : Here} {s : State} (good more rest : List ℕ) (b : ℕ) (item : Item) (size : ℕ)
      → Cut (start unit) fresh text there s ((good ++ b ∷ more) ++ rest) → s.count ≤ limit
      → StandsBlanked there (good ++ b ∷ more) item rest → list_all is_allowed good ≡ true → is_allowed b ≡ false
      → size + length more + length rest ≡ length text → EndsBehind unit limit text k.BadByte (past_all there.at good) size
  breaking : {there : Here} {s : State} (front rest : List ℕ) (x : Sign) (size : ℕ)
      → Cut (start unit) fresh text there s (front ++ rest) → s.count ≤ limit → StandsBlanked there front (token x) rest
      → list_all is_allowed front ≡ true → Breaks s (here there x) → size + length rest ≡ length text
      → EndsBehind unit limit text k.BadDefine there.at size
  end : {there : Here} {s : State} → Cut (start unit) fresh text there s [] → s.count ≤ limit → is_outside s.phase ≡ false
      → EndsBehind unit limit text k.BadDefine there.at (length text)
  many : {there : Here} {s next : State} (front rest : List ℕ) (x : Sign) (size : ℕ)
      → Cut (start unit) fresh text there s (front ++ rest) → s.count ≤ limit → StandsBlanked there front (token x) rest
      → list_all is_allowed front ≡ true → Takes s (here there x) next → limit < next.count → size + length rest ≡ length text
      → EndsBehind unit limit text k.TooManyTokens there.at size
