-- Words stored through the word of a name: what STOR does wherever its operand is what the source finds, and what stands around it where an index
-- waits below the value.
use Rattle.std.proofs.Common.{◌≡◌, ℕ, ◌+◌, ◌-◌, ◌/◌, ◌%◌, ◌<◌, ◌≤◌, Bool, true, false, List, [], ◌∷◌, ◌++◌, length, take, refl, sym, ap, subst, ◌∙◌, arith}
use Rattle.std.specs.Prelude.{Option, Some, Ok, Err, Result, slice_index}
use Rattle.std.proofs.lemmas.List.{append-nil}
use Rattle.std.proofs.Math.Seq.{take-length}
use Rattle.spl_values.specs.hp_word.declared.arithmetic.Code.{Code}
use Rattle.spl_values.specs.hp_word.declared.endings.Trap.{Trap}
use Rattle.spl_values.specs.hp_word.declared.endings.Trap.TheVariants.{Bounds}
use Rattle.spl_values.specs.hp_word.Bytes.{with_byte}
use Rattle.spl_values.proofs.hp_word_proofs.ByteLaws.{with_byte-below}
use Rattle.spl_values.specs.hp_instr.declared.instruction.Instr.TheVariants as instr
use Rattle.spl_values.specs.hp_instr.declared.instruction.Mode.{Mode}
use Rattle.spl_values.specs.hp_instr.declared.instruction.Mode.TheVariants.{SMinus}
use Rattle.spl_values.specs.hp_instr.Instructions.{op}
use Rattle.spl_values.specs.hp_session.State.{Machine, Outcome as Row, then_with, word}
use Rattle.spl_values.specs.hp_session.declared.places.Place.{Place as Operand}
use Rattle.spl_values.specs.hp_session.Places.{read_at, word_of_byte, written, byte_written, address}
use Rattle.spl_values.specs.hp_stack_rows.StackRows.{operated}
use Rattle.spl_values.specs.hp_memory_rows.MemoryRows.{memory_row}
use Rattle.spl_values.specs.hp_flat.Step.{at_left}
use Rattle.spl_values.specs.hp_yields.Rows.{Places, held}
use Rattle.spl_values.proofs.hp_yields_proofs.MemoryYields as rows
use Rattle.spl_values.proofs.hp_yields_proofs.StackYields as stack_rows
use Rattle.spl_values.specs.spl_tree.declared.expressions.Kind.{Kind}
use Rattle.spl_values.specs.spl_tree.declared.expressions.Kind.TheVariants as kind
use Rattle.spl_values.specs.spl_meaning.Kinds.{width}
use Rattle.spl_values.specs.spl_meaning.Operations.{kept}
use Rattle.spl_values.specs.spl_meaning.Places.{Place}
use Rattle.spl_values.specs.spl_meaning.References.{Setting, Located, led_located, placed_word, word_stored, store_by, store}
use Rattle.spl_values.specs.spl_meaning.States.{Data, State, End, Outcome, done, leaves, spent, ends, strays, trapped, then_go}
use Rattle.spl_values.specs.spl_code.Operands.{mode_of}
use Rattle.spl_values.specs.spl_follow.Spots.{Spot, pos, on, landed, Ground}
use Rattle.spl_values.specs.spl_follow.Leading.{Leads}
use Rattle.spl_values.specs.spl_follow.Matching.{outer, Matched, Kept, Coded, IsValue, Arrives}
use Rattle.spl_values.specs.spl_follow.Following.{Rate, tally, Follows, NoExit}
use Rattle.spl_values.specs.spl_follow.Doing.{going, doing}
use Rattle.spl_values.specs.spl_follow.Yielding.{Becomes, Puts, PutsFar}
use Rattle.spl_values.specs.spl_follow.Parts.{Completes}
use Rattle.spl_values.proofs.spl_follow_proofs.FollowLemmas.{then_follows, tail_follows}
use Rattle.spl_values.proofs.spl_follow_proofs.KeepLemmas.{kept_same, kept_on, kept_lower, kept_top, value_word}
use Rattle.spl_values.proofs.spl_follow_proofs.RowLemmas.{stray_here, row_trap, becomes_goes, becomes_matches, row_drops, row_stores, row_stores_far}
use Rattle.spl_values.specs.Reached.{is_word_kind, is_reached}
use Rattle.spl_operands.specs.Operands.{finding, Finds, Refers, Seen, Storing, Indexing}
pub use Rattle.spl_operands.specs.Operands.{storing}
use Rattle.spl_operands.proofs.SeeLemmas.{see}
use Rattle.spl_operands.proofs.OperandLemmas.{top_based, direct, place_refers, indexed_element}
use Rattle.spl_operands.proofs.LoadLemmas.{word_is_found, past_read, byte_address, byte_side}

-- ---- stores

-- what is put does not tell in which half of its word the machine was
from_left : (n a v : ℕ) (m : Machine) (o : Row) → Puts n a v (at_left m) o → Puts n a v m o
from_left n a v m o y = record { stores = y.stores; same_code = y.same_code }

from_left_far : (n a v : ℕ) (m : Machine) (o : Row) → PutsFar n a v (at_left m) o → PutsFar n a v m o
from_left_far n a v m o y = record { stores = y.stores; same_code = y.same_code }

-- STOR of a word that is seen: on the stack, where it is a data word, or in the extra segment.
word_is_put : (g : Ground) (w : Rate) (p q : Spot) (st : Setting) (t : Kind) (mode : Mode) (i x far : Bool) (a k v old : ℕ) (d0 : Data) (m0 : Machine)
    (s : State) (m : Machine) → is_word_kind t ≡ true → Leads g (on p) q (doing g.segments (instr.Memory 5 true x i mode) q) → Storing st p k d0 m0 v s m
    → Finds t mode i x far a (at_left m) → Seen far a old s (at_left m)
    → Follows g w (pos q - pos p) 0 w.reach (tally s) m (Completes st q k d0 m0) NoExit (done tt (placed_word far a v s))
word_is_put g w p q st t mode i x false a k v old d0 m0 s m one leads y f seen =
    let words = y.matches.words in
    let enough : 1 ≤ length m.stack = omega (arith, words) in
    let row = rows.word_puts mode i x f.place (at_left m) enough (sym (word_is_found t mode i x (at_left m) one) ∙ f.is) f.side
    (subst (λ (b : ℕ). b < length m.stack) (sym f.at) seen.there) in
    let puts : Puts 1 a v m (memory_row 5 true mode i x (at_left m)) =
    subst (λ (u : ℕ). Puts 1 a u m (memory_row 5 true mode i x (at_left m))) y.top
    (subst (λ (b : ℕ). Puts 1 b (word 0 m) m (memory_row 5 true mode i x (at_left m))) f.at
    (from_left 1 (address f.place) (word 0 m) m (memory_row 5 true mode i x (at_left m)) row)) in
    row_stores g w (on p) q (doing g.segments (instr.Memory 5 true x i mode) q) st s.begun s m d0 m0 k 1 a v old
    (memory_row 5 true mode i x (at_left m)) leads refl y.at refl puts (seen.known refl) y.small y.matches y.kept y.coded
word_is_put g w p q st t mode i x true a k v old d0 m0 s m one leads y f seen =
    let words = y.matches.words in
    let enough : 1 ≤ length m.stack = omega (arith, words) in
    let row = rows.word_puts_far mode i x f.place (at_left m) enough (sym (word_is_found t mode i x (at_left m) one) ∙ f.is) f.side
    (subst (λ (b : ℕ). b < length m.extra) (sym f.at) seen.there) in
    let puts : PutsFar 1 a v m (memory_row 5 true mode i x (at_left m)) =
    subst (λ (u : ℕ). PutsFar 1 a u m (memory_row 5 true mode i x (at_left m))) y.top
    (subst (λ (b : ℕ). PutsFar 1 b (word 0 m) m (memory_row 5 true mode i x (at_left m))) f.at
    (from_left_far 1 (address f.place) (word 0 m) m (memory_row 5 true mode i x (at_left m)) row)) in
    row_stores_far g w (on p) q (doing g.segments (instr.Memory 5 true x i mode) q) st s.begun s m d0 m0 k 1 a v
    (memory_row 5 true mode i x (at_left m)) leads refl y.at refl puts y.small y.matches y.kept y.coded

-- STOR where its operand is at an address: what was there is seen, the run strays, or both trap.
pub word_put : (g : Ground) (w : Rate) (p q : Spot) (st : Setting) (t : Kind) (mode : Mode) (i x far : Bool) (a k v : ℕ) (d0 : Data) (m0 : Machine)
    (s : State) (m : Machine) → is_word_kind t ≡ true → Leads g (on p) q (doing g.segments (instr.Memory 5 true x i mode) q) → Storing st p k d0 m0 v s m
    → Finds t mode i x far a (at_left m)
    → Follows g w (pos q - pos p) 0 w.reach (tally s) m (Completes st q k d0 m0) NoExit (word_stored far a (v ∷ []) s)
word_put g w p q st t mode i x far a k v d0 m0 s m one leads y f =
    see (λ (o : Outcome (Unit {0})). Follows g w (pos q - pos p) 0 w.reach (tally s) m (Completes st q k d0 m0) NoExit o) far a (k + 1) st s (at_left m)
    (λ old u. done tt (placed_word far a v u)) y.matches y.room
    (λ old seen. word_is_put g w p q st t mode i x far a k v old d0 m0 s m one leads y f seen)
    (stray_here g w (pos q - pos p) 0 w.reach st (on p) (k + 1) s s.begun m (Completes st q k d0 m0) NoExit leads.start y.at refl y.matches)
    (λ past. row_trap g w w.reach (on p) q (doing g.segments (instr.Memory 5 true x i mode) q) st s.begun s m (k + 1) (memory_row 5 true mode i x (at_left m))
    Bounds (Completes st q k d0 m0) NoExit leads refl y.at refl y.matches
    (rows.word_not_stored mode i x f.place Bounds (at_left m) enough (sym (word_is_found t mode i x (at_left m) one) ∙ f.is)
    (rows.written_past f.place far (word 0 (at_left m)) (at_left m) f.side (subst (λ (b : ℕ). length (held far (at_left m)) ≤ b) (sym f.at) past)))) where
      enough : 1 ≤ length m.stack
      enough = let words = y.matches.words in omega (arith, words)

-- ---- bytes

-- what is put of a byte, told by its address, the value on top and the word before
byte_terms : (P : ℕ → ℕ → Type 0) (place : Operand) (a v old top : ℕ) (xs : List ℕ) → address place ≡ a → top ≡ v → slice_index xs (a / 2) ≡ old
    → P (address (word_of_byte place)) (with_byte (address place) (top % 256) (slice_index xs (address (word_of_byte place))))
    → P (a / 2) (with_byte a (v % 256 % 256) old)
byte_terms P place a v old top xs at is was x =
    let once : v % 256 ≡ v % 256 % 256 = omega arith in
    subst (λ (u : ℕ). P (a / 2) (with_byte a (v % 256 % 256) u)) was
    (subst (λ (u : ℕ). P (a / 2) (with_byte a u (slice_index xs (a / 2)))) (ap (λ (u : ℕ). u % 256) is ∙ once)
    (subst (λ (b : ℕ). P (a / 2) (with_byte b (top % 256) (slice_index xs (a / 2)))) at
    (subst (λ (b : ℕ). P b (with_byte (address place) (top % 256) (slice_index xs b))) (byte_address place a at) x)))

-- a byte past its words is not stored
byte_past : (place : Operand) (byte : ℕ) (m : Machine) → read_at (word_of_byte place) m ≡ Err Bounds → byte_written place byte m ≡ Err Bounds
unfolding byte_written
byte_past place byte m past =
    ap (λ (r : Result ℕ Trap). then_with r (λ w. written (word_of_byte place) (with_byte (address place) byte w) m)) past

-- STB of a byte whose word is seen: the other byte of that stays.
byte_is_put : (g : Ground) (w : Rate) (p q : Spot) (st : Setting) (mode : Mode) (i x far : Bool) (a k v old : ℕ) (d0 : Data) (m0 : Machine)
    (s : State) (m : Machine) → Leads g (on p) q (doing g.segments (instr.Memory 14 false x i mode) q) → Storing st p k d0 m0 v s m
    → Finds kind.Byte mode i x far a (at_left m) → Seen far (a / 2) old s (at_left m)
    → Follows g w (pos q - pos p) 0 w.reach (tally s) m (Completes st q k d0 m0) NoExit (done tt (placed_word far (a / 2) (with_byte a (v % 256 % 256) old) s))
byte_is_put g w p q st mode i x false a k v old d0 m0 s m leads y f seen =
    let words = y.matches.words in
    let enough : 1 ≤ length m.stack = omega (arith, words) in
    let row = rows.byte_puts mode i x f.place (at_left m) enough f.is (byte_side f.place false (at_left m) f.side)
    (subst (λ (b : ℕ). b < length m.stack) (sym (byte_address f.place a f.at)) seen.there) in
    let puts : Puts 1 (a / 2) (with_byte a (v % 256 % 256) old) m (memory_row 14 false mode i x (at_left m)) =
    byte_terms (λ b u. Puts 1 b u m (memory_row 14 false mode i x (at_left m))) f.place a v old (word 0 m) m.stack f.at y.top seen.word
    (from_left 1 _ _ m (memory_row 14 false mode i x (at_left m)) row) in
    row_stores g w (on p) q (doing g.segments (instr.Memory 14 false x i mode) q) st s.begun s m d0 m0 k 1 (a / 2) (with_byte a (v % 256 % 256) old) old
    (memory_row 14 false mode i x (at_left m)) leads refl y.at refl puts (seen.known refl) (with_byte-below a (v % 256 % 256) old (omega arith) seen.small)
    y.matches y.kept y.coded
byte_is_put g w p q st mode i x true a k v old d0 m0 s m leads y f seen =
    let words = y.matches.words in
    let enough : 1 ≤ length m.stack = omega (arith, words) in
    let row = rows.byte_puts_far mode i x f.place (at_left m) enough f.is (byte_side f.place true (at_left m) f.side)
    (subst (λ (b : ℕ). b < length m.extra) (sym (byte_address f.place a f.at)) seen.there) in
    let puts : PutsFar 1 (a / 2) (with_byte a (v % 256 % 256) old) m (memory_row 14 false mode i x (at_left m)) =
    byte_terms (λ b u. PutsFar 1 b u m (memory_row 14 false mode i x (at_left m))) f.place a v old (word 0 m) m.extra f.at y.top seen.word
    (from_left_far 1 _ _ m (memory_row 14 false mode i x (at_left m)) row) in
    row_stores_far g w (on p) q (doing g.segments (instr.Memory 14 false x i mode) q) st s.begun s m d0 m0 k 1 (a / 2) (with_byte a (v % 256 % 256) old)
    (memory_row 14 false mode i x (at_left m)) leads refl y.at refl puts (with_byte-below a (v % 256 % 256) old (omega arith) seen.small)
    y.matches y.kept y.coded

byte_put : (g : Ground) (w : Rate) (p q : Spot) (st : Setting) (mode : Mode) (i x far : Bool) (a k v : ℕ) (d0 : Data) (m0 : Machine)
    (s : State) (m : Machine) → Leads g (on p) q (doing g.segments (instr.Memory 14 false x i mode) q) → Storing st p k d0 m0 v s m
    → Finds kind.Byte mode i x far a (at_left m)
    → Follows g w (pos q - pos p) 0 w.reach (tally s) m (Completes st q k d0 m0) NoExit (store_by kind.Byte far a (kept kind.Byte (v ∷ [])) s)
byte_put g w p q st mode i x far a k v d0 m0 s m leads y f =
    let words = y.matches.words in
    let enough : 1 ≤ length m.stack = omega (arith, words) in
    see (λ (o : Outcome (Unit {0})). Follows g w (pos q - pos p) 0 w.reach (tally s) m (Completes st q k d0 m0) NoExit o) far (a / 2) (k + 1) st s (at_left m)
    (λ old u. done tt (placed_word far (a / 2) (with_byte a (v % 256 % 256) old) u)) y.matches y.room
    (λ old seen. byte_is_put g w p q st mode i x far a k v old d0 m0 s m leads y f seen)
    (stray_here g w (pos q - pos p) 0 w.reach st (on p) (k + 1) s s.begun m (Completes st q k d0 m0) NoExit leads.start y.at refl y.matches)
    (λ past. row_trap g w w.reach (on p) q (doing g.segments (instr.Memory 14 false x i mode) q) st s.begun s m (k + 1) (memory_row 14 false mode i x (at_left m))
    Bounds (Completes st q k d0 m0) NoExit leads refl y.at refl y.matches
    (rows.byte_not_stored mode i x f.place Bounds (at_left m) enough f.is
    (byte_past f.place (word 0 (at_left m) % 256) (at_left m)
    (past_read (word_of_byte f.place) far (a / 2) (at_left m) (byte_side f.place far (at_left m) f.side) (byte_address f.place a f.at) past))))

-- ---- by the kind

-- a store where its operand is at an address
value_is_put : (g : Ground) (w : Rate) (p q : Spot) (st : Setting) (t : Kind) (mode : Mode) (i x far : Bool) (a k v : ℕ) (d0 : Data) (m0 : Machine)
    (s : State) (m : Machine) → width t ≡ 1 → Leads g (on p) q (doing g.segments (storing t i x mode) q) → Storing st p k d0 m0 v s m
    → Finds t mode i x far a (at_left m)
    → Follows g w (pos q - pos p) 0 w.reach (tally s) m (Completes st q k d0 m0) NoExit (store_by t far a (kept t (v ∷ [])) s)
value_is_put g w p q st kind.Integer mode i x far a k v d0 m0 s m one leads y f = word_put g w p q st kind.Integer mode i x far a k v d0 m0 s m refl leads y f
value_is_put g w p q st kind.Logical mode i x far a k v d0 m0 s m one leads y f = word_put g w p q st kind.Logical mode i x far a k v d0 m0 s m refl leads y f
value_is_put g w p q st kind.Byte mode i x far a k v d0 m0 s m one leads y f = byte_put g w p q st mode i x far a k v d0 m0 s m leads y f
value_is_put g w p q st kind.Double mode i x far a k v d0 m0 s m one leads y f = absurd (omega (arith, one))

-- a trap of the operand itself
not_put : (g : Ground) (w : Rate) (p q : Spot) (st : Setting) (t : Kind) (mode : Mode) (i x : Bool) (k v : ℕ) (d0 : Data) (m0 : Machine) (s : State)
    (m : Machine) → width t ≡ 1 → Leads g (on p) q (doing g.segments (storing t i x mode) q) → Storing st p k d0 m0 v s m
    → finding t mode i x (at_left m) ≡ Err Bounds
    → Follows g w (pos q - pos p) 0 w.reach (tally s) m (Completes st q k d0 m0) NoExit (ends (trapped Bounds) s)
not_put g w p q st kind.Integer mode i x k v d0 m0 s m one leads y lost =
    let words = y.matches.words in
    row_trap g w w.reach (on p) q (doing g.segments (instr.Memory 5 true x i mode) q) st s.begun s m (k + 1) (memory_row 5 true mode i x (at_left m))
    Bounds (Completes st q k d0 m0) NoExit leads refl y.at refl y.matches (rows.word_store_not_found mode i x Bounds (at_left m) (omega (arith, words)) lost)
not_put g w p q st kind.Logical mode i x k v d0 m0 s m one leads y lost =
    let words = y.matches.words in
    row_trap g w w.reach (on p) q (doing g.segments (instr.Memory 5 true x i mode) q) st s.begun s m (k + 1) (memory_row 5 true mode i x (at_left m))
    Bounds (Completes st q k d0 m0) NoExit leads refl y.at refl y.matches (rows.word_store_not_found mode i x Bounds (at_left m) (omega (arith, words)) lost)
not_put g w p q st kind.Byte mode i x k v d0 m0 s m one leads y lost =
    let words = y.matches.words in
    row_trap g w w.reach (on p) q (doing g.segments (instr.Memory 14 false x i mode) q) st s.begun s m (k + 1) (memory_row 14 false mode i x (at_left m))
    Bounds (Completes st q k d0 m0) NoExit leads refl y.at refl y.matches (rows.byte_store_not_found mode i x Bounds (at_left m) (omega (arith, words)) lost)
not_put g w p q st kind.Double mode i x k v d0 m0 s m one leads y lost = absurd (omega (arith, one))

-- a store where its operand is what a reference leads to
pub store_follows : (g : Ground) (w : Rate) (p q : Spot) (st : Setting) (t : Kind) (mode : Mode) (i x : Bool) (k v : ℕ) (d0 : Data) (m0 : Machine)
    (s : State) (m : Machine) (o : Outcome Located) → width t ≡ 1 → Leads g (on p) q (doing g.segments (storing t i x mode) q)
    → Storing st p k d0 m0 v s m → Refers t mode i x s (at_left m) o
    → Follows g w (pos q - pos p) 0 w.reach (tally s) m (Completes st q k d0 m0) NoExit (then_go o (λ y u. store y (kept y.kind (v ∷ [])) u))
store_follows g w p q st t mode i x k v d0 m0 s m (done y u) one leads z r =
    subst (λ (e : State). Follows g w (pos q - pos p) 0 w.reach (tally s) m (Completes st q k d0 m0) NoExit (store_by y.kind y.far y.address (kept y.kind (v ∷ [])) e)) (sym r.0)
    (subst (λ (c : Kind). Follows g w (pos q - pos p) 0 w.reach (tally s) m (Completes st q k d0 m0) NoExit (store_by c y.far y.address (kept c (v ∷ [])) s)) (sym r.1)
    (value_is_put g w p q st t mode i x y.far y.address k v d0 m0 s m one leads z r.2))
store_follows g w p q st t mode i x k v d0 m0 s m (leaves e u) one leads z r = absurd r
store_follows g w p q st t mode i x k v d0 m0 s m (spent u) one leads z r = absurd r
store_follows g w p q st t mode i x k v d0 m0 s m (ends e u) one leads z r =
    subst (λ (c : State). Follows g w (pos q - pos p) 0 w.reach (tally s) m (Completes st q k d0 m0) NoExit (ends e c)) (sym r.0)
    (subst (λ (c : End). Follows g w (pos q - pos p) 0 w.reach (tally s) m (Completes st q k d0 m0) NoExit (ends c s)) (sym r.1)
    (not_put g w p q st t mode i x k v d0 m0 s m one leads z r.2))
store_follows g w p q st t mode i x k v d0 m0 s m (strays u) one leads z r =
    subst (λ (c : State). Follows g w (pos q - pos p) 0 w.reach (tally s) m (Completes st q k d0 m0) NoExit (strays c)) (sym r)
    (stray_here g w (pos q - pos p) 0 w.reach st (on p) (k + 1) s s.begun m (Completes st q k d0 m0) NoExit leads.start z.at refl z.matches)

-- ---- the index

-- no word is deleted, and none put
whole_stack : (xs : List ℕ) → take (length xs - 0) xs ++ [] ≡ xs
whole_stack xs =
    let none : length xs - 0 ≡ length xs = omega arith in
    append-nil (take (length xs - 0) xs) ∙ ap (λ (n : ℕ). take n xs) none ∙ take-length xs

-- A row that changes X alone, behind an index and a value that wait: both stay.
index_held : (g : Ground) (w : Rate) (p r : Spot) (F : Machine → Machine) (st : Setting) (s : State) (m : Machine) (d0 : Data) (m0 : Machine) (k u v : ℕ)
    (o : Row) → Leads g (on p) r F → F m ≡ going r o m → IsValue st p 2 k d0 m0 (u ∷ v ∷ []) s m → Matched st s.now m (k + 1 + 1)
    → s.now.top + (k + 1 + 1) ≤ s.now.stack → (y : Places 0 [] u m o) → y.words.left.stack ≡ m.stack
    → Follows g w (pos r - pos p) 0 w.reach (tally s) m (λ (e : Unit {0}) s1 m1. Indexing st r k d0 m0 u v s1 m1) NoExit (done tt s)
index_held g w p r F st s m d0 m0 k u v o leads is x matches room y stays =
    let left : Becomes m.stack (outer m) o = record { left = y.words.left; is = y.words.is; words = stays; same = y.words.same } in (
      landed r y.words.left,
      becomes_goes g w (on p) r F st s.begun s m (k + 1 + 1) o m.stack (outer m) left leads is x.at refl matches refl,
      record {
        index = y.index;
        stores = record {
          at = refl;
          matches = becomes_matches st s.now (k + 1 + 1) o m.stack (outer m) left matches;
          top = ap (λ (xs : List ℕ). slice_index xs (length xs - 1 - 0)) stays ∙ value_word st p 2 k 0 1 d0 m0 (u ∷ v ∷ []) s m x refl;
          small = x.small.1.0;
          kept = kept_same (s.now.top + (k + 1)) s.now y.words.left.stack;
          coded = subst (λ (c : Option Code). Coded c y.words.left.regs.code) (sym x.silent) tt;
          room = room;
        };
        kept = subst (λ (ys : List ℕ). Kept (d0.top + k) d0 m0.stack s.now ys) (sym stays) x.kept;
      },
    )

-- what is placed does not tell in which half of its word the machine was
placed_from_left : (n x : ℕ) (ws : List ℕ) (m : Machine) (o : Row) → Places n ws x (at_left m) o → Places n ws x m o
placed_from_left n x ws m o y = record {
  words = y.words;
  index = y.index;
  same_code = y.same_code;
  same_carry = y.same_carry;
  same_overflow = y.same_overflow;
}

-- the index, at S-1, is what LDX puts into X
index_row : (st : Setting) (p : Spot) (s : State) (m : Machine) (d0 : Data) (m0 : Machine) (k u v : ℕ) → IsValue st p 2 k d0 m0 (u ∷ v ∷ []) s m
    → Matched st s.now m (k + 1 + 1) → s.now.top + (k + 1 + 1) ≤ s.now.stack → Places 0 [] u m (memory_row 11 true (SMinus 1) false false (at_left m))
index_row st p s m d0 m0 k u v x matches room =
    let words = matches.words in
    let least = matches.lies.least in
    let top = kept_top (d0.top + k) d0 m0.stack s.now m.stack x.kept in
    let low : s.now.top + k < length m.stack = omega (arith, words) in
    let f : Finds kind.Integer (SMinus 1) false false false (s.now.top + k) (at_left m) =
    direct (SMinus 1) false (s.now.top + k) (s.now.top + k) (at_left m) (top_based st s.now k 1 (at_left m) matches room) (omega (arith, room, least)) in
    let stands : slice_index m.stack (s.now.top + k) ≡ u = ap (λ (b : ℕ). slice_index m.stack (b + k)) top ∙ x.stand.0 in
    placed_from_left 0 u [] m (memory_row 11 true (SMinus 1) false false (at_left m))
    (rows.x_loaded (SMinus 1) false false f.place u (at_left m) f.is
    (rows.read_there f.place false (at_left m) f.side (subst (λ (b : ℕ). b < length m.stack) (sym f.at) low)
    ∙ ap (λ (c : ℕ). let y : Result ℕ Trap = Ok c in y) (ap (λ (b : ℕ). slice_index m.stack b) f.at ∙ stands)))

-- LDX S-1: X has the index that waits below the value, and both stay.
pub index_taken : (g : Ground) (w : Rate) (p r : Spot) (st : Setting) (s : State) (m : Machine) (d0 : Data) (m0 : Machine) (k u v : ℕ)
    → Leads g (on p) r (doing g.segments (instr.Memory 11 true false false (SMinus 1)) r) → IsValue st p 2 k d0 m0 (u ∷ v ∷ []) s m
    → s.now.top + (k + 1 + 1) ≤ s.now.stack
    → Follows g w (pos r - pos p) 0 w.reach (tally s) m (λ (e : Unit {0}) s1 m1. Indexing st r k d0 m0 u v s1 m1) NoExit (done tt s)
index_taken g w p r st s m d0 m0 k u v leads x room =
    let two : k + 2 ≡ k + 1 + 1 = omega arith in
    let matches : Matched st s.now m (k + 1 + 1) = subst (λ (j : ℕ). Matched st s.now m j) two x.matches in
    let y = index_row st p s m d0 m0 k u v x matches room in
    index_held g w p r (doing g.segments (instr.Memory 11 true false false (SMinus 1)) r) st s m d0 m0 k u v
    (memory_row 11 true (SMinus 1) false false (at_left m)) leads refl x matches room y (y.words.words ∙ whole_stack m.stack)

-- DEL: the index that waited is deleted, in a part that began with d0 and m0.
pub index_deleted : (g : Ground) (w : Rate) (p q : Spot) (st : Setting) (k : ℕ) (d0 : Data) (m0 : Machine) (d1 : Data) (m1 : Machine) (s : State) (m : Machine)
    → Leads g (on p) q (doing g.segments (instr.Pair (op 0o40) (op 0)) q) → Kept (d0.top + k) d0 m0.stack d1 m1.stack → Arrives st p (k + 1) d1 m1 s m
    → Follows g w (pos q - pos p) 0 w.reach (tally s) m (Completes st q k d0 m0) NoExit (done tt s)
index_deleted g w p q st k d0 m0 d1 m1 s m leads before x =
    let words = x.matches.words in
    let top = kept_top (d0.top + k) d0 m0.stack d1 m1.stack before in
    let y : Places 1 [] m.regs.x m (operated 0o40 m) = stack_rows.top_deleted m (omega (arith, words)) in
    row_drops g w (on p) q (doing g.segments (instr.Pair (op 0o40) (op 0)) q) st s.begun s m d0 m0 k 1 (operated 0o40 m) y.words leads refl x.at refl x.matches
    (kept_on (d0.top + k) d0 m0.stack d1 m1.stack s.now m.stack before
    (kept_lower (d0.top + k) (d1.top + (k + 1)) d1 m1.stack s.now m.stack x.kept (omega (arith, top))))
    (subst (λ (c : Code). Coded s.code c) (sym y.same_code) x.coded)

-- ---- elements

-- LDX, STOR and DEL: an element is stored, whose index waits below the value.
pub element_put : (g : Ground) (w : Rate) (p r1 r2 q : Spot) (st : Setting) (t : Kind) (far : Bool) (place : Place) (k u v : ℕ) (d0 : Data) (m0 : Machine)
    (s : State) (m : Machine) → width t ≡ 1 → is_reached st k place ≡ true → far ≡ st.split
    → Leads g (on p) r1 (doing g.segments (instr.Memory 11 true false false (SMinus 1)) r1)
    → Leads g (on r1) r2 (doing g.segments (storing t true true (mode_of k place)) r2)
    → Leads g (on r2) q (doing g.segments (instr.Pair (op 0o40) (op 0)) q) → IsValue st p 2 k d0 m0 (u ∷ v ∷ []) s m
    → s.now.top + (k + 1 + 1) ≤ s.now.stack
    → Follows g w (pos q - pos p) 0 w.reach (tally s) m (Completes st q k d0 m0) NoExit
    (then_go (led_located far t (Some place) u s) (λ y x. store y (kept y.kind (v ∷ [])) x))
element_put g w p r1 r2 q st t far place k u v d0 m0 s m one reached side takes puts deletes x room =
    let f = index_taken g w p r1 st s m d0 m0 k u v takes x room in
    let rise = takes.rise in
    let rest = puts.rise in
    let end = deletes.rise in
    let many = w.enough in
    let stores : Storing st r1 (k + 1) s.now f.0 v s f.0 = f.2.stores in
    let o : Outcome (Unit {0}) = then_go (led_located far t (Some place) u s) (λ y x. store y (kept y.kind (v ∷ [])) x) in
    then_follows g w (pos r1 - pos p) 0 w.reach (pos q - pos r1) 0 w.reach (pos q - pos p) 0 w.reach (tally s) m (tally s) f.0 (Completes st q k d0 m0) NoExit o f.1
    (tail_follows g w (pos r2 - pos r1) 0 w.reach (pos q - pos r2) 0 w.reach (pos q - pos r1) 0 w.reach (tally s) f.0 (Completes st r2 (k + 1) s.now f.0)
    (Completes st q k d0 m0) NoExit o
    (store_follows g w r1 r2 st t (mode_of k place) true true (k + 1) v s.now f.0 s f.0 (led_located far t (Some place) u s) one puts stores
    (place_refers st t far true u k (k + 1 + 1) place s (at_left f.0) reached side stores.matches stores.room (λ cell. indexed_element t cell u (at_left f.0) f.2.index)))
    (λ e s1 m1 a fewer. index_deleted g w r2 q st k d0 m0 s.now f.0 s1 m1 deletes f.2.kept a)
    (omega (arith, rest, end)) (omega arith) (omega (arith, many)) (omega (arith, many)))
    (omega (arith, rise, rest, end)) (omega (arith, many)) (omega (arith, many))
