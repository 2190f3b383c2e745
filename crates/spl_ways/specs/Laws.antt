-- The laws of this crate.
use Rattle.std.specs.Prelude.{◌≡◌, ◌+◌, ℕ, true, false, List, length, Some, slice_get}
use Rattle.std.specs.List.{list_all}
use Rattle.spl_sites.specs.spl_branch.declared.pieces.Piece.{Piece}
use Rattle.spl_sites.specs.hp_program.Programs.{words_of}
use Rattle.spl_sites.specs.hp_program.Valid.{label_of}
use Rattle.spl_sites.specs.spl_branch.declared.modules.Define.{Define}
use Rattle.spl_sites.specs.spl_branch.declared.modules.Want.{Want}
use Rattle.spl_sites.specs.spl_branch.declared.modules.Module.{Module}
use Rattle.spl_sites.specs.spl_branch.Pieces.{is_indexed}
use Rattle.spl_sites.specs.spl_branch.Modules.{sites}
use Rattle.spl_sites.specs.mpe_segmenter.Names.{Part}
use Rattle.spl_sites.specs.mpe_segmenter.Entries.{owned, gate_of}
use Rattle.spl_sites.specs.mpe_segmenter.Counts.{sizes}
use Rattle.spl_sites.specs.mpe_segmenter.Programs.{program_words}
use Rattle.spl_sites.specs.mpe_segmenter.Whole.{IsWhole}
use Rattle.spl_sites.specs.mpe_segmenter.Sites.{IsModule, module_entries}
use Rattle.spl_sites.specs.hp_leads.Words.{entry_way, subroutine_way}
use Rattle.spl_sites.specs.spl_follow.Doing.{gate, body}
use Rattle.spl_sites.specs.Beginnings.{is_of_kind}
use Rattle.spl_sites.specs.Grounds.{AllCallsLead}
use Rattle.spl_ways.specs.Ways.{word_of, module_sites}

-- In the words of whole segments, the entry of a module's define leads to its first word, both a procedure's call and a subroutine's.
abbrev pub DefineEntriesLead : Type 0
DefineEntriesLead = (ps : List Part) → IsWhole ps → (seg : ℕ) (front : List Module) (m : Module) (back : List Module) → IsModule ps seg front m back
    → (index : ℕ) (d : Define) → slice_get m.defines.items index ≡ Some d
    → (entry_way (program_words ps) seg (module_entries front m back false index) ≡ Some (body (word_of seg (sizes front + d.offset))))
    × (subroutine_way (program_words ps) seg (module_entries front m back false index) ≡ Some (body (word_of seg (sizes front + d.offset))))

-- So each call in pieces leads where the module's sites say, where it has its want or its define.
abbrev pub CallsLead : Type 0
CallsLead = (ps : List Part) → IsWhole ps → (seg : ℕ) (front : List Module) (m : Module) (back : List Module) → IsModule ps seg front m back
    → (marks : ℕ → ℕ) (xs : List Piece) → list_all is_of_kind xs ≡ true
    → list_all (is_indexed (length m.wants.items) (length m.defines.items)) xs ≡ true
    → AllCallsLead (program_words ps) seg (sites (sizes front) marks (module_entries front m back))
    (module_sites (program_words ps) seg (sizes front) marks (module_entries front m back)) xs

-- The entry of a module's want for an intrinsic leads to that one's entry of the gate.
abbrev pub GatesLead : Type 0
GatesLead = (ps : List Part) → IsWhole ps → (seg : ℕ) (front : List Module) (m : Module) (back : List Module) → IsModule ps seg front m back
    → (index : ℕ) (v : Want) → slice_get m.wants.items index ≡ Some v → v.gate ≡ true
    → entry_way (program_words ps) seg (module_entries front m back true index) ≡ Some (gate (gate_of v.name.text.items))

-- The entry of a main body, behind those of its module's defines, has the offset at which that starts.
abbrev pub MainEntriesStart : Type 0
MainEntriesStart = (ps : List Part) → IsWhole ps → (seg : ℕ) (front : List Module) (m : Module) (back : List Module) → IsModule ps seg front m back
    → (offset : ℕ) → m.main ≡ Some offset
    → label_of (words_of (program_words ps) seg) (1 + (owned front + length m.defines.items)) ≡ sizes front + offset
