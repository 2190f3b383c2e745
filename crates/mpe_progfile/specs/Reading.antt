-- A program file read from its front.
use Rattle.std.specs.Prelude.{ℕ, zero, suc, ◌+◌, ◌-◌, ◌*◌, ◌==◌, ◌&&◌, Bool, true, false, nat_le, if◌then◌else◌, List, [], ◌∷◌, length, slice_get, slice_index, Option, Some, None, Result, Ok, Err}
use Rattle.hp_program.specs.Valid.{entries_of, is_local_entry, bad_table}
use Rattle.hp_program.specs.declared.program.Defect.{Defect}
use Rattle.hp_program.specs.declared.program.Defect.TheVariants as defect
use Rattle.mpe_progfile.specs.declared.faults.FileFault.{FileFault}
use Rattle.mpe_progfile.specs.declared.faults.FileFault.TheVariants as fault

-- a place in a file, and the bytes from there on
pub record Cursor : Type 0 where
  pub at : ℕ
  pub left : List ℕ

-- the next word; where a byte of it is missing the file ends too early
abbrev pub word_in : ℕ → List ℕ → Result (ℕ × Cursor) FileFault
word_in at (high ∷ low ∷ left) = Ok (256 * high + low, record { at = at + 2; left = left })
word_in at left = Err (fault.Truncated (at + length left))

unfoldable pub word : Cursor → Result (ℕ × Cursor) FileFault
word c = word_in c.at c.left

-- what was read passes a test, or is at fault
unfoldable pub tested : {A : Type 0} → Bool → FileFault → A → Result A FileFault
tested true f a = Ok a
tested false f a = Err f

-- goes on with what was read
unfoldable pub with_read : {A B : Type 0} → Result (A × Cursor) FileFault → (A → Cursor → Result (B × Cursor) FileFault) → Result (B × Cursor) FileFault
with_read (Ok r) go = go r.0 r.1
with_read (Err f) go = Err f

-- a number from one to another
abbrev pub is_between : ℕ → ℕ → ℕ → Bool
is_between low high n = nat_le low n && nat_le n high

-- a word of the head that passes a test
unfoldable pub head_word : (ℕ → Bool) → Cursor → Result (ℕ × Cursor) FileFault
head_word test c = with_read (word c) (λ w next. tested (test w) (fault.BadHead c.at) (w, next))

-- as many of a thing as a number says
unfoldable pub times : {A : Type 0} → (Cursor → Result (A × Cursor) FileFault) → ℕ → Cursor → Result (List A × Cursor) FileFault
times read zero c = Ok ([], c)
times read (suc n) c = with_read (read c) (λ a next. with_read (times read n next) (λ as' last. Ok (a ∷ as', last)))

-- words in order
abbrev pub words : ℕ → Cursor → Result (List ℕ × Cursor) FileFault
words n c = times word n c

-- the size of a segment
abbrev pub is_size : ℕ → Bool
is_size n = is_between 2 16383 n

-- the entries of a segment's table, which with their number fit into it
abbrev pub has_table : List ℕ → Bool
has_table ws = nat_le (entries_of ws) 127 && nat_le (entries_of ws) (length ws - 1)

-- a segment: its size, and its words, of which the last is the number of its entries
unfoldable pub segment : Cursor → Result (List ℕ × Cursor) FileFault
segment c = with_read (word c) (λ size next. with_read (tested (is_size size) (fault.BadSegment c.at) (size, next)) (λ size next.
    with_read (words size next) (λ ws last. tested (has_table ws) (fault.BadSegment (last.at - 2)) (ws, last))))

-- segments in order
abbrev pub segments : ℕ → Cursor → Result (List (List ℕ) × Cursor) FileFault
segments n c = times segment n c

-- ---- a whole file

-- a file's parts
pub record Parts : Type 0 where
  pub main : ℕ
  pub entry : ℕ
  pub globals : List ℕ
  pub segments : List (List ℕ)

-- The magic: four bytes, which are needed before it is judged.
abbrev pub magic_in : ℕ → List ℕ → Result (Bool × Cursor) FileFault
magic_in at (a ∷ b ∷ c ∷ d ∷ left) = Ok (a == 77 && b == 80 && c == 69 && d == 80, record { at = at + 4; left = left })
magic_in at left = Err (fault.Truncated (at + length left))

unfoldable pub magic_read : Cursor → Result (Bool × Cursor) FileFault
magic_read c = with_read (magic_in c.at c.left) (λ is next. tested is (fault.BadHead c.at) (is, next))

-- at most 32,000 data words, and as many segments as the head says
unfoldable pub body : ℕ → ℕ → ℕ → Cursor → Result (Parts × Cursor) FileFault
body count main entry c =
    with_read (head_word (is_between 0 32000) c) (λ count_of next.
    with_read (words count_of next) (λ globals next. with_read (segments count next) (λ ss last.
    Ok (record { main = main; entry = entry; globals = globals; segments = ss }, last))))

-- all parts, from the magic on: version 1, 1 to 62 segments, of which one is the main one
unfoldable pub parts : Cursor → Result (Parts × Cursor) FileFault
parts c =
    with_read (magic_read c) (λ _ next. with_read (head_word (is_between 1 1) next) (λ _ next.
    with_read (head_word (is_between 1 62) next) (λ count next. with_read (head_word (is_between 0 (count - 1)) next) (λ main next.
    with_read (word next) (λ entry next. body count main entry next)))))

-- nothing follows the last segment
abbrev pub is_end : List ℕ → Bool
is_end [] = true
is_end _ = false

unfoldable pub ended : Result (Parts × Cursor) FileFault → Result Parts FileFault
ended (Ok r) = tested (is_end r.1.left) (fault.Trailing r.1.at) r.0
ended (Err f) = Err f

-- the bytes of the numbers of entries of segments that begin at a byte
abbrev pub count_bytes : ℕ → List (List ℕ) → List ℕ
count_bytes from [] = []
count_bytes from (w ∷ ws) = (from + 2 * length w) ∷ count_bytes (from + 2 * length w + 2) ws

-- the byte at which the segments begin
abbrev pub segments_byte : List ℕ → ℕ
segments_byte globals = 14 + 2 * length globals

-- the first label that leads nowhere; each stands twice its number of bytes before the number of entries
abbrev pub table_read : Parts → Option Defect → Result Parts FileFault
table_read p None = Ok p
table_read p (Some (defect.Label s n)) = Err (fault.BadLabel (slice_index (count_bytes (segments_byte p.globals) p.segments) s - 2 * n))
table_read p (Some _) = Err (fault.BadLabel 10)

-- the main entry is local, and then each label leads somewhere
unfoldable pub labelled : Parts → Result Parts FileFault
labelled p =
    if is_local_entry (slice_get p.segments p.main) p.entry then table_read p (bad_table p.segments 0 p.segments) else Err (fault.BadLabel 10)

unfoldable pub all_labelled : Result Parts FileFault → Result Parts FileFault
all_labelled (Ok p) = labelled p
all_labelled (Err f) = Err f

-- what a file is read as
unfoldable pub read_file : List ℕ → Result Parts FileFault
read_file bytes = all_labelled (ended (parts (record { at = 0; left = bytes })))
