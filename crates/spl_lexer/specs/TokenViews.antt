-- What the tokens of a unit, with their segments, stand for in the cutting of texts.
use Rattle.std.specs.Prelude.{ℕ, Bool, ◌≡◌, ◌<◌, List, [], ◌∷◌, map, length, get_or}
use Rattle.spl_tree.specs.declared.names_and_places.At.{At}
use Rattle.spl_tree.specs.declared.names_and_places.Name.{Name}
use Rattle.spl_tree.specs.declared.tokens.Token.{Token}
use Rattle.spl_tree.specs.declared.tokens.Lexed.{Lexed}
use Rattle.spl_tree.specs.Views.{letters}
use Rattle.spl_cuts.specs.Signs as sg
use Rattle.spl_pieces.specs.SignViews.{sign_of}
use Rattle.spl_cuts.specs.Signs.{Found, Placed, Listed}
use Rattle.spl_cuts.specs.Cutting.{with_names, placed}

-- a token with the number of its segment
abbrev pub placed_of : Token → Placed
placed_of t = record { what = sign_of t.what; at = t.at; segment = t.segment }

-- the list of a unit
abbrev pub listed_of : Lexed → Listed
listed_of x = record { tokens = map placed_of x.tokens.items; segments = map letters x.segments.items; subprogram = x.subprogram }

-- a token with the name of its segment, by these names
abbrev pub found_of : List (List ℕ) → Token → Found
found_of names t = record { what = sign_of t.what; at = t.at; segment = get_or names t.segment [] }

-- each token's number is one of a name, and the name's first
abbrev pub AllNumbered : List Token → List (List ℕ) → Type 0
AllNumbered [] names = Unit {0}
AllNumbered (t ∷ ts) names = (t.segment < length names) × (placed names (found_of names t) ≡ placed_of t) × AllNumbered ts names

-- the names are those of the tokens' segments, in order of first token, and the tokens have their numbers
pub record IsNumbered (ts : List Token) (names : List (List ℕ)) : Type 0 where
  pub order : with_names [] (map (found_of names) ts) ≡ names
  pub all : AllNumbered ts names

-- the list of a unit with these tokens, its end among them
abbrev pub list_of : List Found → Bool → Listed
list_of ts subprogram =
    let names = with_names [] ts in record { tokens = map (placed names) ts; segments = names; subprogram = subprogram }

-- the place and segment of a use
abbrev pub use_at : At → Name → Found
use_at at segment = record { what = sg.Sign.stop; at = at; segment = segment.text.items }
