-- Where entries lead, and what the words of a program hold: each module where its base is, and each of its calls leading to what
-- it names.
use Rattle.std.specs.Prelude.{ℕ, ◌≡◌, ◌+◌, ◌<◌, ◌==◌, Bool, true, false, if◌then◌else◌, List, [], ◌∷◌, ◌++◌, length, slice_get, slice_index_or, Option, None, Some}
use Rattle.hp_instr.specs.declared.labels.Label.{Label}
use Rattle.hp_instr.specs.declared.labels.Label.TheVariants.{Local, External, Bad}
use Rattle.hp_instr.specs.Labels.{label}
use Rattle.hp_program.specs.Programs.{words_of}
use Rattle.hp_program.specs.Valid.{label_of}
use Rattle.spl_branch.specs.declared.modules.Define.{Define}
use Rattle.spl_branch.specs.declared.modules.Want.{Want}
use Rattle.spl_branch.specs.declared.modules.Module.{Module}
use Rattle.spl_branch.specs.Modules.{LiesAt}
use Rattle.mpe_segmenter.specs.Names.{Part}
use Rattle.mpe_segmenter.specs.Entries.{Own, owns, called_at, table_of, entry_of, owned, gate_of}
use Rattle.mpe_segmenter.specs.Segments.{entries_for}
use Rattle.mpe_segmenter.specs.Counts.{table_size, sizes}

-- what an entry leads to: an offset of a segment, or an intrinsic
pub data Site : Type 0 where
  At : ℕ → ℕ → Site
  Gate : ℕ → Site

-- the label of an entry of a segment
abbrev pub label_at : List (List ℕ) → ℕ → ℕ → Label
label_at segments s entry = label (label_of (words_of segments s) entry)

-- what a local label of a segment leads to
abbrev pub local_site : ℕ → Label → Option Site
local_site s (Local offset) = Some (At s offset)
local_site s (External seg entry) = None
local_site s (Bad w) = None

-- what a label of a segment leads to, through the table of another segment where it is external
abbrev pub label_site : List (List ℕ) → ℕ → Label → Option Site
label_site segments s (Local offset) = Some (At s offset)
label_site segments s (External seg entry) = if seg == 255 then Some (Gate entry) else local_site seg (label_at segments seg entry)
label_site segments s (Bad w) = None

-- what an entry of a segment leads to
abbrev pub site_of : List (List ℕ) → ℕ → ℕ → Option Site
site_of segments s entry = label_site segments s (label_at segments s entry)

-- no entry
abbrev pub no_entry : Own
no_entry = record { name = []; callable = false; offset = 0 }

-- a procedure that may be called by this name is defined there
pub record IsDefinition (ps : List Part) (name : List ℕ) (site : Site) : Type 0 where
  pub segment : ℕ
  pub part : Part
  pub place : ℕ
  pub there : slice_get ps segment ≡ Some part
  pub called : called_at name (owns 0 part.modules) ≡ Some place
  pub is : site ≡ At segment (slice_index_or (owns 0 part.modules) place no_entry).offset

-- a module of a segment with those before and behind it
pub record IsModule (ps : List Part) (s : ℕ) (front : List Module) (m : Module) (back : List Module) : Type 0 where
  pub part : Part
  pub there : slice_get ps s ≡ Some part
  pub among : part.modules ≡ front ++ m ∷ back

-- the entries that a module's fixes ask for, with these modules before and behind it
abbrev pub module_entries : List Module → Module → List Module → Bool → ℕ → ℕ
module_entries front m back = entries_for (entry_of (table_of (front ++ m ∷ back))) (1 + owned front) m

-- what the words of a program's segments hold
pub record Links (ps : List Part) (segments : List (List ℕ)) : Type 0 where
  -- a segment has the words of its modules and its table
  pub size : (s : ℕ) (p : Part) → slice_get ps s ≡ Some p → length (words_of segments s) ≡ table_size p + sizes p.modules
  -- each module's words stand behind those before it, with its entries and offsets put in
  pub lies : (s : ℕ) (front : List Module) (m : Module) (back : List Module) → IsModule ps s front m back → LiesAt (words_of segments s) (sizes front) (module_entries front m back) m.words.items m.fixes.items
  -- entries have eight bits
  pub few : (s : ℕ) (front : List Module) (m : Module) (back : List Module) → IsModule ps s front m back → (wanted : Bool) (index : ℕ) → module_entries front m back wanted index < 256
  -- a define's entry leads to its first word
  pub defines : (s : ℕ) (front : List Module) (m : Module) (back : List Module) → IsModule ps s front m back → (index : ℕ) (d : Define) → slice_get m.defines.items index ≡ Some d
      → site_of segments s (module_entries front m back false index) ≡ Some (At s (sizes front + d.offset))
  -- a want's entry leads to the definition of its name
  pub wants : (s : ℕ) (front : List Module) (m : Module) (back : List Module) → IsModule ps s front m back → (index : ℕ) (w : Want) → slice_get m.wants.items index ≡ Some w → w.gate ≡ false
      → (site : Site) × (site_of segments s (module_entries front m back true index) ≡ Some site) × IsDefinition ps w.name.text.items site
  -- or to its intrinsic
  pub gates : (s : ℕ) (front : List Module) (m : Module) (back : List Module) → IsModule ps s front m back → (index : ℕ) (w : Want) → slice_get m.wants.items index ≡ Some w → w.gate ≡ true
      → site_of segments s (module_entries front m back true index) ≡ Some (Gate (gate_of w.name.text.items))
