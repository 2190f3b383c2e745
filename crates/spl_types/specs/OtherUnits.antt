-- The procedures of the other units.
use Rattle.std.specs.Prelude.{ℕ, ◌&&◌, Bool, true, false, if◌then◌else◌, List, [], ◌∷◌, map}
use Rattle.spl_tree.specs.DeclarationTrees.{Heading}
use Rattle.spl_sound.specs.spl_meaning.Names.{Profile, profile_of}
use Rattle.spl_types.specs.declared.others.Others.{Others}
use Rattle.spl_types.specs.HeadTables.{Heads, agreed, heads_of}

-- all procedures of a name in some units take and give this
abbrev pub all_agreed : List Heads → List ℕ → Profile → Bool
all_agreed [] x p = true
all_agreed (s ∷ ss) x p = if agreed s x p then all_agreed ss x p else false

-- those of the units before and behind one
abbrev pub agrees_of : Others → Heading → Bool
agrees_of o h = all_agreed (map heads_of o.before.now) h.name (profile_of h) && all_agreed (map heads_of o.behind.now) h.name (profile_of h)
