-- Elements, words or bytes: how one is read and stored, by the run and by the machine.
use Rattle.std.proofs.Common.{◌≡◌, ℕ, ◌%◌, ◌/◌, ◌<◌, ◌≤◌, Bool, true, false, List, [], ◌∷◌, length, refl, sym, ap, ◌∙◌, arith}
use Rattle.std.specs.Prelude.{◌==◌, Some, Ok, Err, Result, slice_set}
use Rattle.std.proofs.lemmas.Bool.{false≢true}
use Rattle.spl_statement_code.specs.hp_word.Bytes.{byte_at, with_byte}
use Rattle.spl_statement_code.specs.hp_word.declared.endings.Trap.{Trap}
use Rattle.spl_statement_code.specs.hp_word.declared.endings.Trap.TheVariants.{Bounds}
use Rattle.spl_statement_code.proofs.hp_word_proofs.ByteLaws.{byte_at-below, with_byte-below}
use Rattle.hp_call_yields.specs.hp_session.State.{Machine, Outcome as Row, then_with, word, without, passed}
use Rattle.hp_call_yields.specs.hp_session.declared.places.Place.TheVariants.{Db}
use Rattle.hp_call_yields.specs.hp_session.Places.{word_of_byte, byte_read, written, byte_written}
use Rattle.hp_call_yields.specs.hp_memory_rows.MoveRows.{source_word, source_byte, element_done, move_row}
use Rattle.hp_call_yields.proofs.MoveYields as rows
use Rattle.hp_call_yields.specs.hp_yields.Rows.{held, with_held}
use Rattle.hp_call_yields.proofs.hp_yields_proofs.MemoryYields as memory
use Rattle.spl_statement_code.specs.spl_tree.declared.expressions.Kind.{Kind}
use Rattle.spl_statement_code.specs.spl_tree.declared.expressions.Kind.TheVariants as kind
use Rattle.spl_statement_code.specs.spl_meaning.Kinds.{width, is_byte}
use Rattle.spl_statement_code.specs.spl_meaning.References.{word_at, read_by, store_by, placed_word}
use Rattle.spl_statement_code.specs.spl_meaning.States.{State, done, then_go}
use Rattle.spl_operands.specs.Operands.{Seen}
use Rattle.spl_operands.proofs.LoadLemmas.{seen_read, past_read}

-- ---- units

-- the address of an element's word
abbrev pub unit_word : Bool → ℕ → ℕ
unit_word true a = a / 2
unit_word false a = a

-- an element in its word
abbrev pub unit_of : Bool → ℕ → ℕ → ℕ
unit_of true a w = byte_at a w
unit_of false a w = w

-- its word with another element
abbrev pub with_unit : Bool → ℕ → ℕ → ℕ → ℕ
with_unit true a v w = with_byte a (v % 256) w
with_unit false a v w = v

-- a byte, or a word
abbrev pub IsUnit : Bool → ℕ → Type 0
IsUnit true v = v < 256
IsUnit false v = v < 65536

pub unit_small : (bytes : Bool) (a w : ℕ) → w < 65536 → IsUnit bytes (unit_of bytes a w)
unit_small true a w small = byte_at-below a w small
unit_small false a w small = small

pub with_unit_small : (bytes : Bool) (a v w : ℕ) → IsUnit bytes v → w < 65536 → with_unit bytes a v w < 65536
with_unit_small true a v w one small = with_byte-below a (v % 256) w (omega arith) small
with_unit_small false a v w one small = one

-- ---- in the run

pub reads : (bytes : Bool) (t : Kind) (far : Bool) (a : ℕ) (s : State) → is_byte (Some t) ≡ bytes → width t ≡ 1
    → read_by t far a s ≡ then_go (word_at far (unit_word bytes a) s) (λ w u. done (unit_of bytes a w ∷ []) u)
reads true kind.Byte far a s same one = refl
reads true kind.Integer far a s same one = absurd (false≢true same)
reads true kind.Logical far a s same one = absurd (false≢true same)
reads true kind.Double far a s same one = absurd (false≢true same)
reads false kind.Byte far a s same one = absurd (false≢true (sym same))
reads false kind.Integer far a s same one = refl
reads false kind.Logical far a s same one = refl
reads false kind.Double far a s same one = absurd (omega (arith, one))

pub stores : (bytes : Bool) (t : Kind) (far : Bool) (a v : ℕ) (s : State) → is_byte (Some t) ≡ bytes → width t ≡ 1
    → store_by t far a (v ∷ []) s
    ≡ then_go (word_at far (unit_word bytes a) s) (λ w u. done tt (placed_word far (unit_word bytes a) (with_unit bytes a v w) u))
stores true kind.Byte far a v s same one = refl
stores true kind.Integer far a v s same one = absurd (false≢true same)
stores true kind.Logical far a v s same one = absurd (false≢true same)
stores true kind.Double far a v s same one = absurd (false≢true same)
stores false kind.Byte far a v s same one = absurd (false≢true (sym same))
stores false kind.Integer far a v s same one = refl
stores false kind.Logical far a v s same one = refl
stores false kind.Double far a v s same one = absurd (omega (arith, one))

-- ---- in the machine

-- where an element comes from, and how it is stored
abbrev pub source : Bool → List (List ℕ) → Bool → ℕ → Machine → Result ℕ Trap
source true segments code a m = source_byte segments code a m
source false segments code a m = source_word segments code a m

abbrev pub unit_written : Bool → ℕ → ℕ → Machine → Row
unit_written true a v m = byte_written (Db a) v m
unit_written false a v m = written (Db a) v m

-- MVB and MOVE
abbrev pub move_code : Bool → ℕ
move_code true = 10
move_code false = 9

pub unit_read : (bytes far : Bool) (segments : List (List ℕ)) (a w : ℕ) (s : State) (m : Machine) → m.split ≡ far → Seen far (unit_word bytes a) w s m
    → source bytes segments false a m ≡ Ok (unit_of bytes a w)
unfolding source_byte source_word byte_read word_of_byte
unit_read true far segments a w s m side seen =
    ap (λ (x : Result ℕ Trap). then_with x (λ w. let y : Result ℕ Trap = Ok (byte_at a w) in y)) (seen_read (Db (a / 2)) far (a / 2) w s m side refl seen)
unit_read false far segments a w s m side seen = seen_read (Db a) far a w s m side refl seen

pub unit_not_read : (bytes far : Bool) (segments : List (List ℕ)) (a : ℕ) (m : Machine) → m.split ≡ far → length (held far m) ≤ unit_word bytes a
    → source bytes segments false a m ≡ Err Bounds
unfolding source_byte source_word byte_read word_of_byte
unit_not_read true far segments a m side past =
    ap (λ (x : Result ℕ Trap). then_with x (λ w. let y : Result ℕ Trap = Ok (byte_at a w) in y)) (past_read (Db (a / 2)) far (a / 2) m side refl past)
unit_not_read false far segments a m side past = past_read (Db a) far a m side refl past

pub unit_put : (bytes far : Bool) (a v w : ℕ) (s : State) (m : Machine) → m.split ≡ far → IsUnit bytes v → Seen far (unit_word bytes a) w s m
    → unit_written bytes a v m ≡ Ok (with_held far (slice_set (held far m) (unit_word bytes a) (with_unit bytes a v w)) m)
unfolding word_of_byte
unit_put true far a v w s m side one seen =
    let same : v ≡ v % 256 = omega (arith, one) in
    memory.byte_written_there (Db a) far v m side seen.there
    ∙ ap (λ (x : ℕ). let y : Row = Ok (with_held far (slice_set (held far m) (a / 2) (with_byte a v x)) m) in y) seen.word
    ∙ ap (λ (x : ℕ). let y : Row = Ok (with_held far (slice_set (held far m) (a / 2) (with_byte a x w)) m) in y) same
unit_put false far a v w s m side one seen = memory.written_there (Db a) far v m side seen.there

pub unit_not_put : (bytes far : Bool) (a v : ℕ) (m : Machine) → m.split ≡ far → length (held far m) ≤ unit_word bytes a
    → unit_written bytes a v m ≡ Err Bounds
unfolding byte_written word_of_byte
unit_not_put true far a v m side past =
    ap (λ (x : Result ℕ Trap). then_with x (λ w. written (Db (a / 2)) (with_byte a v w) m)) (past_read (Db (a / 2)) far (a / 2) m side refl past)
unit_not_put false far a v m side past = memory.written_past (Db a) far v m side past

-- ---- rows

pub row_ends : (bytes : Bool) (segments : List (List ℕ)) (n : ℕ) (m : Machine) → 3 ≤ length m.stack → (word 0 m == 0) ≡ true
    → move_row segments (move_code bytes) n m ≡ Ok (passed (without 2 m))
row_ends true segments n m enough none = rows.bytes_end segments n m enough none
row_ends false segments n m enough none = rows.move_ends segments n m enough none

pub row_goes : (bytes : Bool) (segments : List (List ℕ)) (n v : ℕ) (k m : Machine) → 3 ≤ length m.stack → (word 0 m == 0) ≡ false
    → source bytes segments (n == 1) (word 1 m) m ≡ Ok v → unit_written bytes (word 2 m) v m ≡ Ok k
    → move_row segments (move_code bytes) n m ≡ Ok (element_done (word 2 m) (word 1 m) (word 0 m) k)
row_goes true segments n v k m enough some is puts = rows.bytes_go segments n v k m enough some is puts
row_goes false segments n v k m enough some is puts = rows.move_goes segments n v k m enough some is puts

pub row_reads_none : (bytes : Bool) (segments : List (List ℕ)) (n : ℕ) (t : Trap) (m : Machine) → 3 ≤ length m.stack → (word 0 m == 0) ≡ false
    → source bytes segments (n == 1) (word 1 m) m ≡ Err t → move_row segments (move_code bytes) n m ≡ Err t
row_reads_none true segments n t m enough some is = rows.bytes_read_none segments n t m enough some is
row_reads_none false segments n t m enough some is = rows.move_reads_none segments n t m enough some is

pub row_stores_none : (bytes : Bool) (segments : List (List ℕ)) (n v : ℕ) (t : Trap) (m : Machine) → 3 ≤ length m.stack → (word 0 m == 0) ≡ false
    → source bytes segments (n == 1) (word 1 m) m ≡ Ok v → unit_written bytes (word 2 m) v m ≡ Err t
    → move_row segments (move_code bytes) n m ≡ Err t
row_stores_none true segments n v t m enough some is puts = rows.bytes_store_none segments n v t m enough some is puts
row_stores_none false segments n v t m enough some is puts = rows.move_stores_none segments n v t m enough some is puts
