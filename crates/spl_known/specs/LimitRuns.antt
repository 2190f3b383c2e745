-- Units that pass a limit, and some that just keep it, each made of many like parts: number n stands in column n.
use Rattle.std.specs.Prelude.{ℕ, zero, suc, ◌≡◌, Bool, true, false, List, [], ◌∷◌, ◌++◌, Option, Some, None}
use Rattle.spl_meaning.specs.spl_tree.declared.names_and_places.At.{At}
use Rattle.spl_meaning.specs.spl_tree.declared.expressions.Kind.{Kind}
use Rattle.spl_meaning.specs.spl_tree.declared.expressions.Kind.TheVariants as kind
use Rattle.spl_meaning.specs.spl_tree.Trees as tree
use Rattle.spl_meaning.specs.spl_tree.DeclarationTrees as decl
use Rattle.spl_meaning.specs.spl_tree.DeclarationTrees.{Placed, Heading, Declaration, declarations}
use Rattle.spl_meaning.specs.Tables.{Source}
use Rattle.spl_meaning.specs.Limits.{Full, Sized, Use, passing, use_limits, first_among, first_full}

-- the place with a number
abbrev at : ℕ → At
at n = record { unit = 1; line = 1; column = n }

-- so many names from a number on
abbrev names : ℕ → ℕ → List Placed
names n zero = []
names n (suc k) = record { letters = n ∷ []; at = at n } ∷ names (suc n) k

-- an array of a kind, from 1 to a bound
abbrev array : ℕ → Kind → ℕ → Declaration
array n k high = decl.Declaration.data_items false k
    (record {
      name = n ∷ [];
      at = at n;
      shape = decl.Shape.array (tree.Constant.number false 1) (tree.Constant.number false high);
      first = [];
    } ∷ [])

-- a unit of declarations
abbrev source : List Declaration → Source
source ds = record {
  subprogram = false;
  segments = [];
  tree = record { items = ds; statements = []; segment = 0; at = at 0 };
}

-- a heading with so many DOUBLE parameters by value
abbrev heading : ℕ → ℕ → Option Kind → ℕ → Heading
heading name first result count = record {
  result = result;
  name = name ∷ [];
  names = names first count;
  values = names first count;
  specs = record { kind = kind.Double; array = false; names = names first count } ∷ [];
  split = false;
  at = at name;
  segment = 0;
}

-- a procedure with an empty body
abbrev procedure : Heading → List Declaration → Declaration
procedure h ds = decl.Declaration.procedure h (declarations ds) []

-- ---- what is said of them

-- a unit, with the first limit that it passes
pub record KnownLimit : Type 0 where
  pub unit : Source
  pub full : Option (ℕ × ℕ × ℕ)

-- the limit, the column and the count
abbrev pub full_seen : Option Full → Option (ℕ × ℕ × ℕ)
full_seen None = None
full_seen (Some f) = Some (f.limit, f.at.column, f.count)

-- it is so
abbrev pub LimitIsSo : KnownLimit → Type 0
LimitIsSo k = full_seen (first_full (k.unit ∷ [])) ≡ k.full

-- all of these are so
abbrev pub AllLimitsSo : List KnownLimit → Type 0
AllLimitsSo [] = Unit {0}
AllLimitsSo (k ∷ ks) = LimitIsSo k × AllLimitsSo ks

-- a unit of declarations, with what is said of it
abbrev known : List Declaration → Option (ℕ × ℕ × ℕ) → KnownLimit
known ds full = record { unit = source ds; full = full }

-- a cell and 31,999 words of data
abbrev pub greatest_data : KnownLimit
greatest_data = known (array 1 kind.Integer 31999 ∷ []) None

-- and one more
abbrev pub data_too_large : KnownLimit
data_too_large = known (array 1 kind.Integer 32000 ∷ []) (Some (4, 1, 32001))

-- the locals of a body with their arrays' data
abbrev pub local_data_too_large : KnownLimit
local_data_too_large = known (procedure (heading 1000 1 None 0) (array 1 kind.Double 16000 ∷ []) ∷ []) (Some (4, 1, 32001))

-- all of these
abbrev pub limit_runs : List KnownLimit
limit_runs =
    greatest_data
    ∷ data_too_large
    ∷ local_data_too_large
    ∷ []

-- ---- counts alone

-- so many things of so many words
abbrev sizes : ℕ → ℕ → ℕ → List Sized
sizes n zero words = []
sizes n (suc k) words = record { at = at n; words = words } ∷ sizes (suc n) k words

-- things with words, with where they first pass a number
pub record KnownCount : Type 0 where
  pub limit : ℕ
  pub most : ℕ
  pub before : ℕ
  pub sized : List Sized
  pub full : Option (ℕ × ℕ × ℕ)

-- it is so
abbrev pub CountIsSo : KnownCount → Type 0
CountIsSo k = full_seen (first_among None (passing k.limit k.most k.before k.sized)) ≡ k.full

-- all of these are so
abbrev pub AllCountsSo : List KnownCount → Type 0
AllCountsSo [] = Unit {0}
AllCountsSo (k ∷ ks) = CountIsSo k × AllCountsSo ks

-- the same by its parts
abbrev counted : ℕ → ℕ → ℕ → List Sized → Option (ℕ × ℕ × ℕ) → KnownCount
counted limit most before sized full = record { limit = limit; most = most; before = before; sized = sized; full = full }

-- counts at the edges of their limits
abbrev pub count_runs : List KnownCount
count_runs =
    -- 128 doubles are 256 words; a cell more passes
    counted 1 256 0 (sizes 1 128 2) None
    ∷ counted 1 256 0 (sizes 1 128 2 ++ sizes 500 1 1) (Some (1, 500, 257))
    -- what has no words passes nothing, and what is behind the first is not named
    ∷ counted 1 256 0 (sizes 1 128 2 ++ sizes 300 5 0 ++ sizes 500 2 2) (Some (1, 500, 258))
    -- 63 doubles and a cell are 127 words of a body; 64 doubles are too many
    ∷ counted 2 127 0 (sizes 1 63 2 ++ sizes 500 1 1) None
    ∷ counted 2 127 0 (sizes 1 64 2) (Some (2, 64, 128))
    -- behind a result of one word 58 words of parameters
    ∷ counted 3 59 1 (sizes 1 58 1) None
    ∷ counted 3 59 1 (sizes 1 59 1) (Some (3, 59, 60))
    ∷ counted 3 59 2 (sizes 1 29 2) (Some (3, 29, 60))
    ∷ []

-- ---- reach alone: a subroutine's parameters 1 to 10, of one word each, and its result 1001

-- the heading of that subroutine
abbrev ten : Heading
ten = record {
  result = Some kind.Integer;
  name = 1001 ∷ [];
  names = names 1 10;
  values = [];
  specs = record { kind = kind.Integer; array = false; names = names 1 10 } ∷ [];
  split = false;
  at = at 1001;
  segment = 0;
}

-- a use of a name, with whether it is out of reach
pub record KnownReach : Type 0 where
  pub use' : Use
  pub full : Option (ℕ × ℕ × ℕ)

-- it is so
abbrev pub ReachIsSo : KnownReach → Type 0
ReachIsSo k = full_seen (first_among None (use_limits ten k.use')) ≡ k.full

-- all of these are so
abbrev pub AllReachSo : List KnownReach → Type 0
AllReachSo [] = Unit {0}
AllReachSo (k ∷ ks) = ReachIsSo k × AllReachSo ks

-- the name, the words that wait, and whether it is assigned
abbrev reached : ℕ → ℕ → Bool → Option (ℕ × ℕ × ℕ) → KnownReach
reached name waiting is_target full =
    record { use' = record { name = name ∷ []; at = at 88; waiting = waiting; is_target = is_target }; full = full }

-- uses at the edge of reach
abbrev pub reach_runs : List KnownReach
reach_runs =
    -- the first of ten parameters stands 10 words below the return word's place
    reached 1 53 false None
    ∷ reached 1 54 false (Some (5, 88, 64))
    -- the last is the word beneath it
    ∷ reached 10 62 false None
    ∷ reached 10 63 true (Some (5, 88, 64))
    -- the result stands below all parameters where it is assigned; elsewhere its name is a call
    ∷ reached 1001 52 true None
    ∷ reached 1001 53 true (Some (5, 88, 64))
    ∷ reached 1001 90 false None
    -- another name is none of the subroutine's
    ∷ reached 11 90 false None
    ∷ []
