-- The counts of a program: its segments, the entries and the words of each.
use Rattle.std.specs.Prelude.{ℕ, ◌+◌, nat_lt, nat_le, ◌&&◌, Bool, true, if◌then◌else◌, List, [], ◌∷◌, Option, Some, None, option_map}
use Rattle.std.specs.List.{list_all}
use Rattle.spl_branch.specs.declared.modules.Define.{Define}
use Rattle.spl_branch.specs.declared.modules.Want.{Want}
use Rattle.spl_branch.specs.declared.modules.Module.{Module}
use Rattle.mpe_segmenter.specs.Names.{Part}
use Rattle.mpe_segmenter.specs.Entries.{table_of, entry_count, either, gate_of}

-- how many entries a segment has
abbrev pub entries_in : Part → ℕ
entries_in p = entry_count (table_of p.modules)

-- the first segment of more than 127 entries, with their number
abbrev pub entries_full : List Part → Option (List ℕ × ℕ)
entries_full [] = None
entries_full (p ∷ ps) = if nat_lt 127 (entries_in p) then Some (p.name, entries_in p) else entries_full ps

-- the sum at which the words of modules pass 16,383, where so many words are before them
abbrev pub passed_by : ℕ → List Module → Option ℕ
passed_by before [] = None
passed_by before (m ∷ ms) = if nat_lt 16383 (before + m.size) then Some (before + m.size) else passed_by (before + m.size) ms

-- how many words a segment's table has: one for each entry, and one for their number
abbrev pub table_size : Part → ℕ
table_size p = entries_in p + 1

-- the first segment of more than 16,383 words, with the sum at which it passes them
abbrev pub segment_full : List Part → Option (List ℕ × ℕ)
segment_full [] = None
segment_full (p ∷ ps) = either (option_map (λ w. (p.name, w)) (passed_by (table_size p) p.modules)) (segment_full ps)

-- how many words modules have
abbrev pub sizes : List Module → ℕ
sizes [] = 0
sizes (m ∷ ms) = m.size + sizes ms

-- an offset, where there is one, is below a size
abbrev pub is_below : ℕ → Option ℕ → Bool
is_below size None = true
is_below size (Some offset) = nat_lt offset size

-- a want for an intrinsic names one
abbrev pub is_gate_or_name : Want → Bool
is_gate_or_name w = if w.gate then nat_lt 0 (gate_of w.name.text.items) else true

-- a module is well formed: it is not empty, its entries stand at its words, and each want for an intrinsic names one. That its words, marks and
-- places are in order is kept by its type
abbrev pub is_well_formed : Module → Bool
is_well_formed m = nat_lt 0 m.size && list_all (λ (d : Define). nat_lt d.offset m.size) m.defines.items && is_below m.size m.main && list_all is_gate_or_name m.wants.items

-- a segment fits: it has at most 127 entries and, with its table, 16,383 words; and its modules are well formed
abbrev pub is_fitting : Part → Bool
is_fitting p = nat_le (entries_in p) 127 && nat_le (table_size p + sizes p.modules) 16383 && list_all is_well_formed p.modules
