-- How a text is cut into the tokens of a unit, and its first fault.
use Rattle.std.specs.Prelude.{ℕ, ◌≡◌, ◌+◌, ◌<◌, ◌≤◌, Bool, true, false, ◌==◌, ◌||◌, nat_eq, List, [], ◌∷◌, ◌++◌, map, codes, if◌then◌else◌}
use Rattle.std.specs.List.{list_all}
use lib.Pointwise.{pointwise}
use Rattle.spl_tree.specs.declared.names_and_places.At.{At}
use Rattle.spl_cuts.specs.declared.faults.LexKind.{LexKind}
use Rattle.spl_cuts.specs.declared.faults.LexKind.TheVariants as k
use Rattle.spl_cuts.specs.Signs.{Sign, stop, Found, Placed, Listed}
use Rattle.spl_cuts.specs.Bytes.{is_allowed, blanked, past_all}
use Rattle.spl_cuts.specs.Commands.{Setting, segment_after, has_subprogram}
use Rattle.spl_cuts.specs.Pieces.{Item, nothing, token, settings, Stands, Faulty}
use Rattle.spl_cuts.specs.Defines.{State, outside, is_outside, Takes, Breaks}

-- a place in a text, with the segment in force there, and whether a command said SUBPROGRAM before
pub record Here : Type 0 where
  pub at : At
  pub segment : List ℕ
  pub subprogram : Bool

-- the beginning of a unit's text: the segment SEG' is in force
abbrev pub start : ℕ → Here
start unit = record { at = record { unit = unit; line = 1; column = 1 }; segment = codes "SEG'"; subprogram = false }

-- nothing is found before the beginning
abbrev pub fresh : State
fresh = record { defines = []; phase = outside; found = []; count = 0 }

abbrev pub begins_line : Here → Bool
begins_line h = h.at.column == 1

-- a token that stands here
abbrev pub here : Here → Sign → Found
here h x = record { what = x; at = h.at; segment = h.segment }

-- the place after a piece, and what is in force there
abbrev pub after : Here → List ℕ → Item → Here
after h front (settings os) = record { at = past_all h.at front; segment = segment_after h.segment os; subprogram = h.subprogram || has_subprogram os }
after h front _ = record h { at = past_all h.at front }

-- what the item of a piece makes of what was found before
pub data Adds (h : Here) (s : State) : Item → State → Type 0 where
  none : Adds h s nothing s
  command : {os : List Setting} → Adds h s (settings os) s
  sign : (x : Sign) (s1 : State) → Takes s (here h x) s1 → Adds h s (token x) s1

-- These bytes are a piece which gives this, where rest follows them: a byte that is allowed nowhere counts as a blank.
abbrev pub StandsBlanked : Here → List ℕ → Item → List ℕ → Type 0
StandsBlanked h front item rest = Stands (begins_line h) (map blanked front) item (map blanked rest)

-- The first text, which begins here, is cut up to the second one, which begins there: pieces stand one behind the other,
-- and have no byte that is allowed nowhere.
pub data Cut : Here → State → List ℕ → Here → State → List ℕ → Type 0 where
  done : {h : Here} {s : State} {text : List ℕ} → Cut h s text h s text
  piece : {h there : Here} {s s1 s2 : State} (front rest left : List ℕ) (item : Item)
      → StandsBlanked h front item rest → list_all is_allowed front ≡ true → Adds h s item s1
      → Cut (after h front item) s1 rest there s2 left → Cut h s (front ++ rest) there s2 left

-- The text, which begins here behind what was found, begins with a faulty piece of this kind and place.
pub data Fault (h : Here) (s : State) : List ℕ → LexKind → At → Type 0 where
  piece : (front rest : List ℕ) (kind : LexKind) → Faulty (begins_line h) (map blanked front) kind (map blanked rest)
      → Fault h s (front ++ rest) kind h.at
  -- a byte that is allowed nowhere, alone or in a comment, command line or string that a blank in its place would make right
  byte : (good more rest : List ℕ) (b : ℕ) (item : Item) → StandsBlanked h (good ++ b ∷ more) item rest
      → list_all is_allowed good ≡ true → is_allowed b ≡ false
      → Fault h s ((good ++ b ∷ more) ++ rest) k.BadByte (past_all h.at good)
  -- a token that does not continue the DEFINE which is open
  breaking : (front rest : List ℕ) (x : Sign) → StandsBlanked h front (token x) rest → list_all is_allowed front ≡ true
      → Breaks s (here h x) → Fault h s (front ++ rest) k.BadDefine h.at
  end : is_outside s.phase ≡ false → Fault h s [] k.BadDefine h.at

-- names, each once, in the order in which they come, behind these
abbrev pub has_name : List (List ℕ) → List ℕ → Bool
has_name [] n = false
has_name (m ∷ ms) n = pointwise nat_eq n m || has_name ms n

abbrev pub with_name : List (List ℕ) → List ℕ → List (List ℕ)
with_name ms n = if has_name ms n then ms else ms ++ n ∷ []

abbrev pub with_names : List (List ℕ) → List Found → List (List ℕ)
with_names ms [] = ms
with_names ms (t ∷ ts) = with_names (with_name ms t.segment) ts

-- the number of a name among these
abbrev pub number_of : List (List ℕ) → List ℕ → ℕ
number_of [] n = 0
number_of (m ∷ ms) n = if pointwise nat_eq n m then 0 else number_of ms n + 1

abbrev pub placed : List (List ℕ) → Found → Placed
placed ms t = record { what = t.what; at = t.at; segment = number_of ms t.segment }

-- the list of a unit whose text ends here: its tokens, and the end of the text, one past it
abbrev pub listed : Here → State → Listed
listed h s =
    let all = s.found ++ here h stop ∷ [] in
    let names = with_names [] all in
    record { tokens = map (placed names) all; segments = names; subprogram = h.subprogram }

-- The text is cut into this list; so many tokens arose, in the list and in DEFINEs.
pub record Cuts (unit count : ℕ) (text : List ℕ) (x : Listed) : Type 0 where
  pub there : Here
  pub state : State
  pub cut : Cut (start unit) fresh text there state []
  pub closed : is_outside state.phase ≡ true
  pub counted : state.count ≡ count
  pub is : x ≡ listed there state

-- The text before this place is cut, with a DEFINE perhaps still open, and a piece of this faulty kind begins there; so many
-- tokens arose before.
pub record Bad (unit count : ℕ) (text : List ℕ) (kind : LexKind) (at : At) : Type 0 where
  pub there : Here
  pub state : State
  pub left : List ℕ
  pub cut : Cut (start unit) fresh text there state left
  pub counted : state.count ≡ count
  pub fault : Fault there state left kind at

-- The text before this place is cut, and more than so many tokens have arisen behind the token there, but not before.
pub record Passes (unit limit : ℕ) (text : List ℕ) (at : At) : Type 0 where
  pub there : Here
  pub state : State
  pub next : State
  pub front : List ℕ
  pub rest : List ℕ
  pub what : Sign
  pub cut : Cut (start unit) fresh text there state (front ++ rest)
  pub few : state.count ≤ limit
  pub stands : StandsBlanked there front (token what) rest
  pub allowed : list_all is_allowed front ≡ true
  pub takes : Takes state (here there what) next
  pub many : limit < next.count
  pub is : at ≡ there.at

-- the list of a text in which at most so many tokens arise
pub record CutsWithin (unit limit : ℕ) (text : List ℕ) (x : Listed) : Type 0 where
  pub count : ℕ
  pub cuts : Cuts unit count text x
  pub few : count ≤ limit

-- the first fault of a text: a faulty piece before which at most so many tokens arise, or the token that is one too many
pub data FirstFault (unit limit : ℕ) (text : List ℕ) : LexKind → At → Type 0 where
  bad : {kind : LexKind} {at : At} (count : ℕ) → Bad unit count text kind at → count ≤ limit → FirstFault unit limit text kind at
  many : {at : At} → Passes unit limit text at → FirstFault unit limit text k.TooManyTokens at
