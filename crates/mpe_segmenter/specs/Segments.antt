-- The words of a segment: those of its modules one behind the other, with entries and offsets put in, and then its table.
use Rattle.std.specs.Prelude.{ℕ, ◌+◌, Bool, true, if◌then◌else◌, List, [], ◌∷◌, ◌++◌, length, map, reverse, slice_index, slice_index_or, take, nat_lt, ◌<◌, ◌≡◌, Option, Some, None}
use Rattle.hp_instr.specs.declared.labels.Label.{Label}
use Rattle.hp_instr.specs.declared.labels.Label.TheVariants.{Local, External}
use Rattle.hp_instr.specs.Labels.{label_bits}
use Rattle.spl_branch.specs.declared.modules.Fix.{Fix}
use Rattle.spl_branch.specs.declared.modules.FixKind.TheVariants as kind
use Rattle.spl_branch.specs.declared.modules.Module.{Module}
use Rattle.spl_branch.specs.Modules.{fix_at, put_in}
use Rattle.mpe_segmenter.specs.Entries.{Own, Wanted, wanted_of, Table, entry_of, home_from, gate_of, own_count}

-- the label of an own entry: its offset
abbrev pub own_label : Own → Label
own_label o = Local o.offset

-- the word of that label
abbrev pub own_bits : Own → ℕ
own_bits o = label_bits (own_label o)

-- the label of a procedure of another segment
abbrev pub home_label : Option (ℕ × ℕ) → Label
home_label (Some (s, k)) = External s k
home_label None = External 0 0

-- the label of a name that is wanted: an intrinsic's entry in the gate, or the entry of the procedure that may be called by it
abbrev pub wanted_label : List Table → Wanted → Label
wanted_label ts w = if w.gate then External 255 (gate_of w.name) else home_label (home_from 0 ts w.name)

-- the labels of a segment, the first entry's first
abbrev pub labels_of : List Table → Table → List Label
labels_of ts t = map own_label t.own ++ map (wanted_label ts) t.wanted

-- the table of labels: the last entry's first, and then their number
abbrev pub table_words : List ℕ → List ℕ
table_words labels = reverse labels ++ length labels ∷ []

-- the words of a module that begin at `base`, from its word k on, with what its fixes ask for put in
abbrev pub laid_from : ℕ → (Bool → ℕ → ℕ) → List Fix → ℕ → List ℕ → List ℕ
laid_from base entries fixes k [] = []
laid_from base entries fixes k (w ∷ ws) = put_in base entries (fix_at fixes k) w ∷ laid_from base entries fixes (k + 1) ws

-- the entries that a module's fixes ask for, by the entries of what it wants: of its defines from number `first` on, and of its
-- wants; 0 of any other
abbrev pub entries_for : (Wanted → ℕ) → ℕ → Module → Bool → ℕ → ℕ
entries_for entry first m wanted index =
    if wanted then slice_index (map (λ w. entry (wanted_of w)) m.wants.items) index else
    if nat_lt index (length m.defines.items) then first + index else 0

-- the words of modules one behind the other, the first one's beginning at `base` and its defines having the entries from `first` on
abbrev pub body_from : (Wanted → ℕ) → ℕ → ℕ → List Module → List ℕ
body_from entry base first [] = []
body_from entry base first (m ∷ ms) = laid_from base (entries_for entry first m) m.fixes.items 0 m.words.items ++ body_from entry (base + m.size) (first + own_count m) ms

-- the words of a segment
abbrev pub segment_words : List Table → List Module → Table → List ℕ
segment_words ts ms t = body_from (entry_of t) 0 1 ms ++ table_words (map label_bits (labels_of ts t))

-- the entries of a module whose defines have those from `first` on, and its wants these
abbrev pub entries_by : ℕ → List ℕ → Bool → ℕ → ℕ
entries_by first wants wanted index = if wanted then slice_index wants index else first + index

-- what a fix asks for fits its word: a define's entry has eight bits, and an offset sixteen
abbrev pub is_layable : ℕ → ℕ → Fix → Bool
is_layable base first f = elim f.kind [
  | kind.Define ↦ nat_lt (first + f.index) 256
  | kind.Want ↦ true
  | kind.Place ↦ nat_lt (base + f.index) 65536
]

-- each fix stands at a word of so many, and at none at which an earlier one stands
abbrev pub IsApart : ℕ → List Fix → Type 0
IsApart size fixes = (i : ℕ) (d : Fix) → i < length fixes → ((slice_index_or fixes i d).offset < size) × (fix_at (take i fixes) (slice_index_or fixes i d).offset ≡ None)
