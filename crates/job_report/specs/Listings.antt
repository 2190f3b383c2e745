-- The listing of a program: its head, its data words, and each segment with its code words and the entries of its table.
-- Counts, segments and entries are told in decimal, offsets and words in six octal digits.
use Rattle.std.specs.Prelude.{ℕ, zero, suc, ◌+◌, ◌-◌, ◌==◌, List, [], ◌∷◌, ◌++◌, length, take, codes, if◌then◌else◌}
use Rattle.std.specs.Fmt.{decimal}
use Rattle.hp_word.specs.Texts.{octal_text_of}
use Rattle.hp_instr.specs.declared.labels.Label.{Label}
use Rattle.hp_instr.specs.declared.labels.Label.TheVariants.{Local, External, Bad}
use Rattle.hp_instr.specs.Labels.{label}
use Rattle.hp_instr.specs.Instructions.{instruction}
use Rattle.hp_instr.specs.Names.{listed_name}
use Rattle.hp_program.specs.Valid.{entries_of, label_of}
use Rattle.hp_program.specs.declared.program.Program.{Program}
use Rattle.hp_program.specs.Programs.{segments_of}
use Rattle.job_report.specs.Lines.{line}

-- six octal digits
abbrev pub octal : ℕ → List ℕ
octal n = octal_text_of 6 n

-- the first line: the version of the file, and the counts of its head
abbrev pub head_line : ℕ → ℕ → ℕ → ℕ → List ℕ
head_line segments main entry words =
    line (codes "PROGRAM VERSION 1 SEGMENTS " ∷ decimal segments ∷ codes " MAIN " ∷ decimal main ∷ codes " ENTRY " ∷ decimal entry ∷ codes " DATA " ∷ decimal words ∷ [])

-- a data word at an offset
abbrev pub data_line : ℕ → ℕ → List ℕ
data_line offset w = line (codes "DATA " ∷ octal offset ∷ codes " " ∷ octal w ∷ [])

-- data words from an offset on
abbrev pub data_lines : ℕ → List ℕ → List ℕ
data_lines offset [] = []
data_lines offset (w ∷ ws) = data_line offset w ++ data_lines (offset + 1) ws

-- the name of the instruction that a word is: of a pair both names, NOP too, parted by a comma; ILLEGAL where it is none
abbrev pub word_name : ℕ → List ℕ
word_name w = listed_name (instruction w)

-- a code word at an offset, with its name
abbrev pub code_line : ℕ → ℕ → List ℕ
code_line offset w = line (octal offset ∷ codes " " ∷ octal w ∷ codes " " ∷ word_name w ∷ [])

-- code words from an offset on
abbrev pub code_lines : ℕ → List ℕ → List ℕ
code_lines offset [] = []
code_lines offset (w ∷ ws) = code_line offset w ++ code_lines (offset + 1) ws

-- the monitor's calls by their entries in the gate
abbrev pub gates : List (ℕ × List ℕ)
gates = (1, codes "PRINT") ∷ (2, codes "READ") ∷ (3, codes "ASCII") ∷ (4, codes "DASCII") ∷ (5, codes "BINARY") ∷ (6, codes "DBINARY")
    ∷ (7, codes "TERMINATE") ∷ (8, codes "QUIT") ∷ []

abbrev pub named : List (ℕ × List ℕ) → ℕ → List ℕ
named [] entry = []
named (g ∷ gs) entry = if g.0 == entry then g.1 else named gs entry

abbrev pub gate_name : ℕ → List ℕ
gate_name entry = named gates entry

-- where an entry leads; segment 255 is the gate. No label of a valid program is bad.
abbrev pub entry_line : ℕ → Label → List ℕ
entry_line k (Local offset) = line (codes "ENTRY " ∷ decimal k ∷ codes " LOCAL " ∷ octal offset ∷ [])
entry_line k (External seg entry) =
    if seg == 255 then line (codes "ENTRY " ∷ decimal k ∷ codes " GATE " ∷ gate_name entry ∷ [])
    else line (codes "ENTRY " ∷ decimal k ∷ codes " SEGMENT " ∷ decimal seg ∷ codes " ENTRY " ∷ decimal entry ∷ [])
entry_line k (Bad w) = []

-- the entries of a segment's table from number k on, of which so many are left
abbrev pub entry_lines : List ℕ → ℕ → ℕ → List ℕ
entry_lines words k zero = []
entry_lines words k (suc left) = entry_line k (label (label_of words k)) ++ entry_lines words (k + 1) left

-- the code of a segment: its words before its table
abbrev pub code_of : List ℕ → List ℕ
code_of words = take (length words - 1 - entries_of words) words

-- a segment's line, with its words, table included
abbrev pub segment_line : ℕ → List ℕ → List ℕ
segment_line s words = line (codes "SEGMENT " ∷ decimal s ∷ codes " WORDS " ∷ decimal (length words) ∷ codes " ENTRIES " ∷ decimal (entries_of words) ∷ [])

-- segment s
unfoldable pub segment_text : ℕ → List ℕ → List ℕ
segment_text s words = segment_line s words ++ code_lines 0 (code_of words) ++ entry_lines words 1 (entries_of words)

-- the segments in order, from number s on
abbrev pub segments_text : ℕ → List (List ℕ) → List ℕ
segments_text s [] = []
segments_text s (words ∷ rest) = segment_text s words ++ segments_text (s + 1) rest

-- a program of these segments, main segment, main entry and data words
unfoldable pub listing_text : List (List ℕ) → ℕ → ℕ → List ℕ → List ℕ
listing_text segments main entry globals =
    head_line (length segments) main entry (length globals) ++ data_lines 0 globals ++ segments_text 0 segments

abbrev pub listing_of : Program → List ℕ
listing_of p = listing_text (segments_of p) p.main p.entry p.globals.items
