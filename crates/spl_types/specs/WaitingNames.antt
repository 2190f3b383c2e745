-- FORWARDs that wait, by name.
use Rattle.std.specs.Prelude.{ℕ, List, map, Option, Some, None}
use Rattle.arrayvec.specs.ArrayVec.{ArrayVec}
use Rattle.spl_sound.specs.spl_meaning.Names as n
use Rattle.spl_sorts.specs.declared.profiles.Profile.{Profile}
use Rattle.spl_sorts.specs.Profiles.{profile_of}
use Rattle.spl_types.specs.declared.waiting.Waiting.{Waiting}

-- what is kept for a name
abbrev pub kept : Option Profile → Option n.Profile
kept None = None
kept (Some p) = Some (profile_of p)

-- a name with what is kept for it
abbrev pub entry_of : ArrayVec ℕ × Option Profile → List ℕ × Option n.Profile
entry_of e = (e.0.items, kept e.1)

-- what waits, where an entry may say that nothing does
abbrev pub joined : Option (Option n.Profile) → Option n.Profile
joined None = None
joined (Some p) = p

-- what the FORWARD of a name takes and gives, where it waits
abbrev pub waits_of : Waiting → List ℕ → Option n.Profile
waits_of w x = joined (n.find (map entry_of w.by_name.entries) x)
