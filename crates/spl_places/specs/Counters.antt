-- Sums of words that may pass a limit, as they run along items.
use Rattle.std.specs.Prelude.{ℕ, ◌+◌, Bool, nat_lt, if◌then◌else◌, List, [], ◌∷◌, map, Option}
use Rattle.spl_tree.specs.declared.names_and_places.At.{At}
use Rattle.spl_sorts.specs.spl_meaning.Names.{Sort}
use Rattle.spl_sorts.specs.spl_meaning.Places.{item_words, array_words, where_own, sum}
use Rattle.spl_sorts.specs.spl_meaning.Limits.{Full, Sized, sized, sooner_full}
use Rattle.spl_places.specs.declared.counters.Counter.{Counter}
use Rattle.spl_places.specs.declared.counters.Part.{Part}
use Rattle.spl_places.specs.declared.counters.Part.TheVariants as part
use Rattle.spl_places.specs.ListedData.{Datum}

-- which words of an item are meant
abbrev pub part_words : Part → Sort → ℕ
part_words part.Items = item_words
part_words part.Arrays = array_words

-- an item's place, and what it stands for
abbrev pub entry : Datum → At × Sort
entry d = (d.at, d.sort)

-- items with their words, where they are OWN or where they are not
abbrev pub sizes : Bool → (Sort → ℕ) → List Datum → List Sized
sizes own words ds = sized own words (map entry ds)

-- the words of items that are OWN, or of those that are not
abbrev pub total_words : Bool → (Sort → ℕ) → List Datum → ℕ
total_words own words ds = sum (λ d. where_own own words d.sort) ds

-- a sum with words more: behind what passes the limit it stays, and so it does behind what has no words
unfoldable pub behind_words : Counter → ℕ → Counter
behind_words c words =
    if c.passed then c
    else if nat_lt 0 words then record { limit = c.limit; most = c.most; count = c.count + words; passed = nat_lt c.most (c.count + words) }
    else c

-- the limit where these words pass it
unfoldable pub found_words : Counter → At → ℕ → Option Full → Option Full
found_words c at words f =
    if c.passed then f
    else if nat_lt 0 words
    then (if nat_lt c.most (c.count + words) then sooner_full f (record { limit = c.limit; at = at; count = c.count + words }) else f)
    else f

-- a sum behind things
abbrev pub behind : Counter → List Sized → Counter
behind c [] = c
behind c (x ∷ xs) = behind (behind_words c x.words) xs

-- the first limit, with the one that things pass
abbrev pub found : Counter → List Sized → Option Full → Option Full
found c [] f = f
found c (x ∷ xs) f = found (behind_words c x.words) xs (found_words c x.at x.words f)
