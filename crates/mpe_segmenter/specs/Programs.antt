-- The program that modules make.
use Rattle.std.specs.Prelude.{ℕ, ◌≡◌, ◌+◌, List, [], ◌∷◌, map, Option, None, Some, option_map, length, is_some, if◌then◌else◌}
use Rattle.hp_instr.specs.Labels.{label_bits}
use Rattle.hp_program.specs.declared.program.Program.{Program}
use Rattle.hp_program.specs.Programs.{segments_of}
use Rattle.spl_branch.specs.declared.modules.Module.{Module}
use Rattle.mpe_segmenter.specs.Names.{Part, parts}
use Rattle.mpe_segmenter.specs.Entries.{Table, table_of, own_count, either}
use Rattle.mpe_segmenter.specs.Segments.{labels_of, segment_words}

-- the entries of each segment
abbrev pub tables_of : List Part → List Table
tables_of ps = map (λ p. table_of p.modules) ps

-- the words of a segment's labels, the first entry's first
abbrev pub label_words : List Table → Part → List ℕ
label_words ts p = map label_bits (labels_of ts (table_of p.modules))

-- the words of a segment, among segments with these entries
abbrev pub part_words : List Table → Part → List ℕ
part_words ts p = segment_words ts p.modules (table_of p.modules)

-- the words of each segment
abbrev pub program_words : List Part → List (List ℕ)
program_words ps = map (part_words (tables_of ps)) ps

-- the entry of the main body among those of modules, the first one's beginning with `first`
abbrev pub main_at : ℕ → List Module → Option ℕ
main_at first [] = None
main_at first (m ∷ ms) = if is_some m.main then Some (first + length m.defines.items) else main_at (first + own_count m) ms

-- where the main body is: its segment, counted from s, and its entry
abbrev pub main_from : ℕ → List Part → Option (ℕ × ℕ)
main_from s [] = None
main_from s (p ∷ ps) = either (option_map (λ k. (s, k)) (main_at 1 p.modules)) (main_from (s + 1) ps)

-- a program is what segments make: their words, the place of the main body, and the initial data words
pub record MakesOf (ps : List Part) (globals : List ℕ) (p : Program) : Type 0 where
  pub segments : segments_of p ≡ program_words ps
  pub main : main_from 0 ps ≡ Some (p.main, p.entry)
  pub data_words : p.globals.items ≡ globals

-- a program is what modules make
abbrev pub Makes : List Module → List ℕ → Program → Type 0
Makes ms globals p = MakesOf (parts ms) globals p
