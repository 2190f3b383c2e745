-- How the forms of branches are chosen: all short at first; those that do not reach become long; again until none changes.
use Rattle.std.specs.Prelude.{ℕ, zero, suc, ◌+◌, ◌-◌, ◌||◌, ◌≤◌, Bool, false, nat_lt, nat_le, if◌then◌else◌, List, [], ◌∷◌, ◌++◌, length, replicate, drop, map, slice_index, slice_index_or, slice_set, ◌≡◌, ◌<◌, Option, None, Some}
use Rattle.std.specs.Global.{Vec}
use Rattle.spl_branch.specs.declared.pieces.Piece.{Piece}
use Rattle.spl_branch.specs.declared.pieces.Piece.TheVariants.{Branch, Mark}
use Rattle.spl_branch.specs.declared.spots.Spot.{Spot}
use Rattle.spl_branch.specs.declared.survey.Turn.{Turn}
use Rattle.spl_branch.specs.declared.survey.Stand.{Stand}
use Rattle.spl_branch.specs.Branches.{reach, more}
use Rattle.spl_branch.specs.Stands.{ahead, moved}

-- where pieces end that begin at p, each branch in one word
abbrev pub short_end : Spot → List Piece → Spot
short_end p [] = p
short_end p (x ∷ ps) = short_end (moved 1 p x (ahead ps)) ps

-- the branch that a piece is
abbrev pub piece_turns : Spot → Piece → List Turn
piece_turns p (Branch by l) = record { place = p.offset; mark = l; by = by } ∷ []
piece_turns p x = []

-- the branches of pieces that begin at p, each branch in one word
abbrev pub turns_of : Spot → List Piece → List Turn
turns_of p [] = []
turns_of p (x ∷ ps) = piece_turns p x ++ turns_of (moved 1 p x (ahead ps)) ps

-- how many branches a piece is
abbrev pub branches : Piece → ℕ
branches (Branch by l) = 1
branches x = 0

-- where a mark stands that no piece sets
abbrev pub nowhere : Stand
nowhere = record { place = 0; before = 0 }

-- where a mark stands
abbrev pub stand_at : List Stand → ℕ → Stand
stand_at stands l = slice_index_or stands l nowhere

-- the marks' places with that of the mark that a piece sets at p, behind k branches
abbrev pub with_stand : List Stand → Spot → ℕ → Piece → List Stand
with_stand stands p k (Mark l) = slice_set stands l (record { place = p.offset; before = k })
with_stand stands p k x = stands

-- the marks' places with those of the marks that pieces set that begin at p, behind k branches
abbrev pub stands_from : List Stand → Spot → ℕ → List Piece → List Stand
stands_from stands p k [] = stands
stands_from stands p k (x ∷ ps) = stands_from (with_stand stands p k x) (moved 1 p x (ahead ps)) (k + branches x) ps

-- the words that a branch has beyond one
abbrev pub added : Turn → Bool → ℕ
added t far = if far then more t.by else 0

-- the words that the long forms add before each branch, and before the end
abbrev pub shifts_of : ℕ → List Turn → List Bool → List ℕ
shifts_of s [] fs = s ∷ []
shifts_of s (t ∷ ts) fs = s ∷ shifts_of (s + added t (slice_index_or fs 0 false)) ts (drop 1 fs)

-- the offset of a mark
abbrev pub target : List Stand → List ℕ → ℕ → ℕ
target stands shifts l = (stand_at stands l).place + slice_index shifts (stand_at stands l).before

-- branch number k does not reach its mark; one that stands before it lies back
abbrev pub misses : List Stand → List ℕ → ℕ → Turn → Bool
misses stands shifts k t =
    if nat_le (stand_at stands t.mark).before k
    then nat_lt (reach t.by) (t.place + slice_index shifts k - target stands shifts t.mark)
    else nat_lt (reach t.by) (target stands shifts t.mark - (t.place + slice_index shifts k))

-- the forms of branches from number k on, those that do not reach made long
abbrev pub longer_from : List Stand → List ℕ → ℕ → List Turn → List Bool → List Bool
longer_from stands shifts k [] fs = []
longer_from stands shifts k (t ∷ ts) fs = (slice_index_or fs 0 false || misses stands shifts k t) ∷ longer_from stands shifts (k + 1) ts (drop 1 fs)

-- one round
abbrev pub longer : List Stand → List Turn → List Bool → List Bool
longer stands ts fs = longer_from stands (shifts_of 0 ts fs) 0 ts fs

-- the forms after some rounds
unfoldable pub rounds : List Stand → List Turn → ℕ → List Bool
rounds stands ts zero = replicate (length ts) false
rounds stands ts (suc m) = longer stands ts (rounds stands ts m)

-- how many branches are short
abbrev pub near : List Bool → ℕ
near [] = 0
near (f ∷ fs) = (if f then 0 else 1) + near fs

-- the words that the long forms add in all
abbrev pub total : List Turn → List Bool → ℕ
total ts fs = slice_index (shifts_of 0 ts fs) (length ts)

-- the marks stand within so many words and behind so many branches at most
abbrev pub IsWithin : List Stand → ℕ → ℕ → Type 0
IsWithin stands size n = (l : ℕ) → ((stand_at stands l).place ≤ size) × ((stand_at stands l).before ≤ n)

-- the offsets of the marks
abbrev pub targets : List Stand → List Turn → List Bool → List ℕ
targets stands ts fs = map (λ (st : Stand). st.place + slice_index (shifts_of 0 ts fs) st.before) stands

-- the marks' offsets after so many rounds that one more changes nothing, in at most 16,383 words; or there are more words
-- after some rounds
abbrev pub Chosen : List Stand → List Turn → ℕ → Option (Vec ℕ) → Type 0
Chosen stands ts size None = (m : ℕ) × (16383 < size + total ts (rounds stands ts m))
Chosen stands ts size (Some offsets) = (m : ℕ) × (size + total ts (rounds stands ts m) ≤ 16383) × (rounds stands ts (suc m) ≡ rounds stands ts m) × (offsets.items ≡ targets stands ts (rounds stands ts m))
