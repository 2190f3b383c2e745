-- Where the operand of a memory instruction is; that it is what a reference of the source leads to; and what is seen where a word is read.
use Rattle.std.specs.Prelude.{◌≡◌, ℕ, ◌+◌, ◌<◌, ◌≤◌, Bool, true, false, List, [], ◌∷◌, length, slice_index, Option, Some, None, Result, Ok, Err}
use Rattle.spl_values.specs.hp_word.declared.endings.Trap.{Trap}
use Rattle.spl_values.specs.hp_word.declared.endings.Trap.TheVariants.{Bounds}
use Rattle.spl_values.specs.hp_instr.declared.instruction.Instr.{Instr}
use Rattle.spl_values.specs.hp_instr.declared.instruction.Instr.TheVariants as instr
use Rattle.spl_values.specs.hp_instr.declared.instruction.Mode.{Mode}
use Rattle.spl_values.specs.hp_session.State.{Machine, word}
use Rattle.spl_values.specs.hp_session.declared.places.Place.{Place}
use Rattle.spl_values.specs.hp_session.Places.{base, operand, byte_operand, address}
use Rattle.spl_values.specs.hp_yields.Rows.{Sided, held}
use Rattle.spl_values.specs.spl_tree.declared.expressions.Kind.{Kind}
use Rattle.spl_values.specs.spl_tree.declared.expressions.Kind.TheVariants as kind
use Rattle.spl_values.specs.spl_meaning.References.{Setting, Located}
use Rattle.spl_values.specs.spl_meaning.States.{Data, State, Begun, Outcome, done, leaves, spent, ends, strays, trapped}
use Rattle.spl_values.specs.spl_follow.Spots.{Spot, spot, Point}
use Rattle.spl_values.specs.spl_follow.Matching.{Matched, Kept, Coded, IsValue}
use Rattle.spl_values.specs.spl_follow.Following.{Owes}

-- ---- where an operand is

-- a mode names the word at an address of the stack
pub record Based (mode : Mode) (a : ℕ) (m : Machine) : Type 0 where
  pub at : address (base mode m) ≡ a
  pub side : Sided (base mode m) false m

-- how many words of its kind X counts by: two of a DOUBLE
abbrev pub counted_by : Kind → ℕ
counted_by kind.Integer = 1
counted_by kind.Logical = 1
counted_by kind.Byte = 1
counted_by kind.Double = 2

-- the place of an operand of a kind, with indirection and indexing or not: of a BYTE that of a byte
abbrev pub finding : Kind → Mode → Bool → Bool → Machine → Result Place Trap
finding kind.Integer mode i x m = operand 1 mode i x m
finding kind.Logical mode i x m = operand 1 mode i x m
finding kind.Byte mode i x m = byte_operand mode i x m
finding kind.Double mode i x m = operand 2 mode i x m

-- an operand of a kind is among the words of the extra segment (true) or of the stack (false), at an address
pub record Finds (t : Kind) (mode : Mode) (i x far : Bool) (a : ℕ) (m : Machine) : Type 0 where
  pub place : Place
  pub is : finding t mode i x m ≡ Ok place
  pub at : address place ≡ a
  pub side : Sided place far m

-- ---- what the source finds

-- The operand is what a reference of this kind leads to, which changes nothing: where that is a location the operand is there, and where its
-- cell is past STACK both trap. Where the reference strays nothing is asked.
abbrev pub Refers : Kind → Mode → Bool → Bool → State → Machine → Outcome Located → Type 0
Refers t mode i x s m (done p u) = (u ≡ s) × (p.kind ≡ t) × Finds t mode i x p.far p.address m
Refers t mode i x s m (leaves e u) = ⊥
Refers t mode i x s m (spent u) = ⊥
Refers t mode i x s m (ends e u) = (u ≡ s) × (e ≡ trapped Bounds) × (finding t mode i x m ≡ Err Bounds)
Refers t mode i x s m (strays u) = u ≡ s

-- ---- what is seen

-- The word that the run reads at an address is the machine's there; on the stack it is a data word.
pub record Seen (far : Bool) (a v : ℕ) (s : State) (m : Machine) : Type 0 where
  pub there : a < length (held far m)
  pub word : slice_index (held far m) a ≡ v
  pub small : v < 65536
  pub known : far ≡ false → s.now.mem a ≡ Some v

-- ---- where loads stand

-- A load stands at p, with k words waiting and room for its n words, in a part that began with d0 and m0; l is the log of what was met.
pub record Loading (st : Setting) (p : Point) (k n : ℕ) (d0 : Data) (m0 : Machine) (l : List Begun) (s : State) (m : Machine) : Type 0 where
  pub at : spot m ≡ p.at
  pub owes : Owes p.due l s m
  pub matches : Matched st s.now m k
  pub kept : Kept (d0.top + k) d0 m0.stack s.now m.stack
  pub silent : s.code ≡ None
  pub room : s.now.top + k + n ≤ s.now.stack

-- An index is in X at p, with k words waiting, in a part that began with d0 and m0.
pub record IsIndex (st : Setting) (p : Spot) (k : ℕ) (d0 : Data) (m0 : Machine) (v : ℕ) (s : State) (m : Machine) : Type 0 where
  pub at : spot m ≡ p
  pub matches : Matched st s.now m k
  pub kept : Kept (d0.top + k) d0 m0.stack s.now m.stack
  pub silent : s.code ≡ None
  pub index : m.regs.x ≡ v

-- the index that a reference has
abbrev pub HasIndex : Setting → Spot → ℕ → Data → Machine → Option ℕ → State → Machine → Type 0
HasIndex st p k d0 m0 None s m = ⊥
HasIndex st p k d0 m0 (Some v) s m = IsIndex st p k d0 m0 v s m

-- ---- where stores stand

-- the instruction of a store: STOR, STB, STD
abbrev pub storing : Kind → Bool → Bool → Mode → Instr
storing kind.Integer i x mode = instr.Memory 5 true x i mode
storing kind.Logical i x mode = instr.Memory 5 true x i mode
storing kind.Byte i x mode = instr.Memory 14 false x i mode
storing kind.Double i x mode = instr.Memory 14 true x i mode

-- the index of a reference waits on top, on k words
abbrev pub IndexWaits : Setting → Spot → ℕ → Data → Machine → Option ℕ → State → Machine → Type 0
IndexWaits st p k d0 m0 None s m = ⊥
IndexWaits st p k d0 m0 (Some u) s m = IsValue st p 1 k d0 m0 (u ∷ []) s m

-- A store stands at p, with the word v on top of k that wait, in a part that began with d0 and m0.
pub record Storing (st : Setting) (p : Spot) (k : ℕ) (d0 : Data) (m0 : Machine) (v : ℕ) (s : State) (m : Machine) : Type 0 where
  pub at : spot m ≡ p
  pub matches : Matched st s.now m (k + 1)
  pub top : word 0 m ≡ v
  pub small : v < 65536
  pub kept : Kept (d0.top + k) d0 m0.stack s.now m.stack
  pub coded : Coded s.code m.regs.code
  pub room : s.now.top + (k + 1) ≤ s.now.stack

-- The same of an element's: its index u is in X, and waits below v, on k words.
pub record Indexing (st : Setting) (p : Spot) (k : ℕ) (d0 : Data) (m0 : Machine) (u v : ℕ) (s : State) (m : Machine) : Type 0 where
  pub index : m.regs.x ≡ u
  pub stores : Storing st p (k + 1) s.now m v s m
  pub kept : Kept (d0.top + k) d0 m0.stack s.now m.stack
