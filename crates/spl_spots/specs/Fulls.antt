-- Limits that are passed, as the meaning of sources has them.
use Rattle.std.specs.Prelude.{List, [], ◌∷◌, Option, Some, None}
use Rattle.spl_sorts.specs.spl_meaning.Limits as limits
use Rattle.spl_spots.specs.declared.full.Full.{Full}

-- a limit, a place and a count
abbrev pub full_of : Full → limits.Full
full_of f = record { limit = f.limit; at = f.at; count = f.count }

-- none or one, as a list
abbrev pub listed : {A : Type 0} → Option A → List A
listed None = []
listed (Some a) = a ∷ []
