-- Where the calls of a module lead, by the tables of its program.
use Rattle.std.specs.Prelude.{ℕ, ◌+◌, Bool, false, List, unwrap_or}
use Rattle.spl_sites.specs.spl_follow.Spots.{Spot}
use Rattle.spl_sites.specs.spl_follow.Doing.{Way, gate}
use Rattle.spl_sites.specs.spl_follow.Standing.{Sites}
use Rattle.spl_sites.specs.hp_leads.Words.{entry_way}

-- a word of a segment
abbrev pub word_of : ℕ → ℕ → Spot
word_of seg offset = record { seg = seg; offset = offset; right = false }

-- where an entry of a segment leads; to no entry of the gate where it leads nowhere
abbrev pub way_of_entry : List (List ℕ) → ℕ → ℕ → Way
way_of_entry segments seg entry = unwrap_or (entry_way segments seg entry) (gate 0)

-- the sites of a module whose words stand from `base` on in a segment, and whose calls have these entries
abbrev pub module_sites : List (List ℕ) → ℕ → ℕ → (ℕ → ℕ) → (Bool → ℕ → ℕ) → Sites
module_sites segments seg base marks entries = record {
  marks = λ l. word_of seg (base + marks l);
  ways = λ wanted index. way_of_entry segments seg (entries wanted index);
}
