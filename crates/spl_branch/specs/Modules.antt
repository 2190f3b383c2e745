-- The module that pieces become, and the words of a segment in which it stands.
use Rattle.std.specs.Global.{Vec}
use Rattle.std.specs.Prelude.{ℕ, ◌≡◌, ◌==◌, ◌+◌, ◌*◌, ◌/◌, ◌<◌, ◌≤◌, Bool, true, false, if◌then◌else◌, List, [], ◌∷◌, length, slice_get, slice_index, Option, Some, None, option_map, map}
use Rattle.spl_branch.specs.declared.pieces.Piece.{Piece}
use Rattle.spl_branch.specs.declared.modules.FixKind.TheVariants as kind
use Rattle.spl_branch.specs.declared.modules.Fix.{Fix}
use Rattle.spl_branch.specs.declared.modules.Define.{Define}
use Rattle.spl_branch.specs.declared.modules.Module.{Module}
use Rattle.spl_branch.specs.declared.buffer.Entry.{Entry}
use Rattle.spl_branch.specs.declared.buffer.Code.{Code}
use Rattle.spl_branch.specs.Pieces.{count_of}
use Rattle.spl_branch.specs.Stands.{at_left, Sites, end_of, Stands, Settled}
use Rattle.spl_branch.specs.Fixes.{fixes_of, starts_of}

-- the define of an entry
abbrev pub define_of : (ℕ → ℕ) → Entry → Define
define_of marks e = record { name = e.name; offset = marks e.mark; callable = e.callable }

-- the fix at an offset
abbrev pub fix_at : List Fix → ℕ → Option Fix
fix_at [] k = None
fix_at (f ∷ fs) k = if f.offset == k then Some f else fix_at fs k

-- a call's word with this entry in its right eight bits
abbrev pub with_entry : ℕ → ℕ → ℕ
with_entry w e = w / 256 * 256 + e

-- a word of a module whose words stand from `base` on, with what its fix asks for put in
abbrev pub put_in : ℕ → (Bool → ℕ → ℕ) → Option Fix → ℕ → ℕ
put_in base entries None w = w
put_in base entries (Some f) w = elim f.kind [
  | kind.Define ↦ with_entry w (entries false f.index)
  | kind.Want ↦ with_entry w (entries true f.index)
  | kind.Place ↦ base + f.index
]

-- a module's words stand from `base` on in the words of a segment, with the entries and offsets put in at its fixes
pub record LiesAt (segment : List ℕ) (base : ℕ) (entries : Bool → ℕ → ℕ) (words : List ℕ) (fixes : List Fix) : Type 0 where
  pub within : base + length words ≤ length segment
  pub word : (k w : ℕ) → slice_get words k ≡ Some w → slice_get segment (base + k) ≡ Some (put_in base entries (fix_at fixes k) w)

-- a mark's offset in a segment where its module's words stand from `base` on
abbrev pub sites : ℕ → (ℕ → ℕ) → (Bool → ℕ → ℕ) → Sites
sites base marks entries = record { marks = λ l. base + marks l; entries = entries }

-- wherever in a segment of at most 16,383 words a module lies, with entries of eight bits, its words there stand for the pieces
abbrev pub StandWherever : List ℕ → List Fix → (ℕ → ℕ) → List Piece → Type 0
StandWherever words fixes marks ps = (segment : List ℕ) (base : ℕ) (entries : Bool → ℕ → ℕ) → length segment ≤ 16383 → ((wanted : Bool) (index : ℕ) → entries wanted index < 256) → LiesAt segment base entries words fixes
    → Stands segment (sites base marks entries) (at_left base) ps (at_left (base + length words))

-- a module is what pieces become that have at most 16,383 words, each mark at the offset that is given for it
pub record Finished (c : Code) (m : Module) : Type 0 where
  pub marks : ℕ → ℕ
  pub settled : Settled marks (at_left 0) c.pieces.items
  pub size : m.size ≡ length m.words.items
  pub stands : StandWherever m.words.items m.fixes.items marks c.pieces.items
  pub fixes : m.fixes.items ≡ fixes_of marks (at_left 0) c.pieces.items
  pub starts : m.starts.items ≡ starts_of marks (at_left 0) c.pieces.items
  pub defines : m.defines.items ≡ map (define_of marks) c.entries.items
  pub main : m.main ≡ option_map marks c.main

-- pieces have more than 16,383 words, however their marks lie
abbrev pub IsLong : List Piece → Type 0
IsLong ps = (marks : ℕ → ℕ) → Settled marks (at_left 0) ps → 16383 < (end_of marks (at_left 0) ps).offset

-- a module is what longer pieces become: nothing but the names
pub record Oversized (c : Code) (m : Module) : Type 0 where
  pub long : IsLong c.pieces.items
  pub size : m.size ≡ 16384
  pub words : m.words.items ≡ []
  pub fixes : m.fixes.items ≡ []
  pub starts : m.starts.items ≡ []
  pub defines : m.defines.items ≡ map (define_of (λ l. 0)) c.entries.items
  pub main : m.main ≡ option_map (λ l. 0) c.main

-- the marks' offsets, at which they stand and which are within 16,383 words; or none, where there are more words
abbrev pub Placed : Option (Vec ℕ) → List Piece → Type 0
Placed None ps = IsLong ps × (16383 < count_of ps)
Placed (Some at) ps = Settled (λ l. slice_index at.items l) (at_left 0) ps × ((end_of (λ l. slice_index at.items l) (at_left 0) ps).offset ≤ 16383) × ((end_of (λ l. slice_index at.items l) (at_left 0) ps).offset ≤ count_of ps) × ((l : ℕ) → slice_index at.items l ≤ 16383)
