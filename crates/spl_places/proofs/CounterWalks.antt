-- Loops over items: a sum of their words, and the first limit, from one on.
use Rattle.std.proofs.Common.{◌≡◌, ◌<◌, ◌≤◌, ℕ, ◌+◌, Bool, List, map, drop, length, get_or, Option}
use Rattle.spl_sorts.specs.spl_meaning.Names.{Sort}
use Rattle.spl_sorts.specs.spl_meaning.Places.{where_own}
use Rattle.spl_sorts.specs.spl_meaning.Limits.{Full}
use Rattle.spl_sorts.specs.Sorts.{sort_of}
use Rattle.spl_lists.proofs.NameWalks.{onward, onward_end}
use Rattle.spl_places.specs.declared.data.Datum.{Datum}
use Rattle.spl_places.specs.declared.counters.Counter.{Counter}
use Rattle.spl_places.specs.ListedData.{datum_of}
use Rattle.spl_places.specs.Counters.{sizes, total_words, behind_words, found_words, behind, found}

pub behind_step : (c : Counter) (own : Bool) (words : Sort → ℕ) (list : List Datum) (i : ℕ) (x : Datum) → i < length list → x ≡ get_or list i x
    → behind c (sizes own words (map datum_of (drop i list)))
    ≡ behind (behind_words c (where_own own words (sort_of x.sort))) (sizes own words (map datum_of (drop (i + 1) list)))
behind_step c own words list i x lt is = onward datum_of (λ ds. behind c (sizes own words ds)) list i x lt is

pub behind_end : (c : Counter) (own : Bool) (words : Sort → ℕ) (list : List Datum) (i : ℕ) → length list ≤ i
    → behind c (sizes own words (map datum_of (drop i list))) ≡ c
behind_end c own words list i le = onward_end datum_of (λ ds. behind c (sizes own words ds)) list i le

pub found_step : (c : Counter) (own : Bool) (words : Sort → ℕ) (list : List Datum) (i : ℕ) (x : Datum) (f : Option Full) → i < length list → x ≡ get_or list i x
    → found c (sizes own words (map datum_of (drop i list))) f
    ≡ found (behind_words c (where_own own words (sort_of x.sort))) (sizes own words (map datum_of (drop (i + 1) list)))
    (found_words c x.at (where_own own words (sort_of x.sort)) f)
found_step c own words list i x f lt is = onward datum_of (λ ds. found c (sizes own words ds) f) list i x lt is

pub found_end : (c : Counter) (own : Bool) (words : Sort → ℕ) (list : List Datum) (i : ℕ) (f : Option Full) → length list ≤ i
    → found c (sizes own words (map datum_of (drop i list))) f ≡ f
found_end c own words list i f le = onward_end datum_of (λ ds. found c (sizes own words ds) f) list i le

pub ruleset counter_steps = (behind_step, behind_end, found_step, found_end)

pub total_step : (own : Bool) (words : Sort → ℕ) (list : List Datum) (i : ℕ) (x : Datum) → i < length list → x ≡ get_or list i x
    → total_words own words (map datum_of (drop i list)) ≡ where_own own words (sort_of x.sort) + total_words own words (map datum_of (drop (i + 1) list))
total_step own words list i x lt is = onward datum_of (total_words own words) list i x lt is

pub total_end : (own : Bool) (words : Sort → ℕ) (list : List Datum) (i : ℕ) → length list ≤ i → total_words own words (map datum_of (drop i list)) ≡ 0
total_end own words list i le = onward_end datum_of (total_words own words) list i le

pub ruleset total_steps = (total_step, total_end)
