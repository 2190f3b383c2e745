-- Entries with the names of what they are of.
use Rattle.std.specs.Prelude.{◌≡◌, ℕ, true, List, [], ◌∷◌, map}
use Rattle.spl_entries.specs.spl_meaning.Names.{Table, Formal}
use Rattle.spl_entries.specs.spl_meaning.Places as p
use Rattle.spl_entries.specs.spl_places.ListedData.{Datum}
use Rattle.spl_entries.specs.spl_places.Held.{is_data}
use Rattle.spl_entries.specs.spl_formals.ResultWords.{place_word}
use Rattle.spl_entries.specs.declared.place_type.Place.{Place}

-- an item that stands for data
abbrev pub IsData : Datum → Type 0
IsData d = is_data d.sort ≡ true

-- a table of places as one of words
abbrev pub words_by : Table p.Place → Table ℕ
words_by t = map (λ e. (e.0, place_word e.1)) t

-- the names of items with the words of their entries
abbrev pub item_words_by : List Datum → List Place → Table ℕ
item_words_by [] es = []
item_words_by (d ∷ ds) [] = []
item_words_by (d ∷ ds) (e ∷ es) = (d.name, e.word) ∷ item_words_by ds es

-- the names of parameters with the words of theirs
abbrev pub parameter_words_by : List Formal → List Place → Table ℕ
parameter_words_by [] es = []
parameter_words_by (f ∷ fs) [] = []
parameter_words_by (f ∷ fs) (e ∷ es) = (f.name, e.word) ∷ parameter_words_by fs es
