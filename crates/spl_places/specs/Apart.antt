-- The words of items: where each stands, among those that are OWN or among the others.
use Rattle.std.specs.Prelude.{◌≡◌, ◌≤◌, ◌⊎◌, ℕ, ◌+◌, Bool, true, false, nat_lt, if◌then◌else◌, [], ◌∷◌, ◌++◌}
use Rattle.spl_sorts.specs.spl_meaning.Names.{Sort, Table}
use Rattle.spl_sorts.specs.spl_meaning.Places.{Place, is_own, item_words, where_own, only, place_of}

-- an item: whether it is OWN, its first word, and what it stands for
pub record Spot : Type 0 where
  pub own : Bool
  pub word : ℕ
  pub sort : Sort

-- an item where the next OWN one and the next other one would stand
abbrev pub spot : ℕ → ℕ → Sort → Spot
spot owned here s = record { own = is_own s; word = if is_own s then owned else here; sort = s }

-- the items of a list that have words
abbrev pub spots_from : ℕ → ℕ → Table Sort → Table Spot
spots_from owned here [] = []
spots_from owned here (e ∷ es) =
    only (nat_lt 0 (item_words e.1)) (e.0, spot owned here e.1)
    ++ spots_from (owned + where_own true item_words e.1) (here + where_own false item_words e.1) es

-- its place
abbrev pub place_at : (ℕ → Place) → Spot → Place
place_at at p = place_of at p.own p.word p.word

-- Its words are between two numbers: those for OWN items, or those for others.
pub record Within (owned owned_end here here_end : ℕ) (p : Spot) : Type 0 where
  pub own : p.own ≡ true → (owned ≤ p.word) × (p.word + item_words p.sort ≤ owned_end)
  pub other : p.own ≡ false → (here ≤ p.word) × (p.word + item_words p.sort ≤ here_end)

-- Two items have no word in common.
abbrev pub Apart : Spot → Spot → Type 0
Apart p q = (p.word + item_words p.sort ≤ q.word) ⊎ (q.word + item_words q.sort ≤ p.word)
