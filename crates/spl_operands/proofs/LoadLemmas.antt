-- What LOAD, LDB and LDD give wherever their operand is what the source finds.
use Rattle.std.proofs.Common.{◌≡◌, ℕ, ◌+◌, ◌-◌, ◌/◌, ◌%◌, ◌<◌, ◌≤◌, Bool, true, false, List, [], ◌∷◌, length, refl, sym, ap, subst, ◌∙◌, arith}
use Rattle.std.specs.Prelude.{Ok, Err, Result, slice_index}
use Rattle.std.proofs.lemmas.Bool.{false≢true}
use Rattle.spl_values.specs.hp_word.declared.endings.Trap.{Trap}
use Rattle.spl_values.specs.hp_word.declared.endings.Trap.TheVariants.{Bounds}
use Rattle.spl_values.specs.hp_word.Bytes.{byte_at}
use Rattle.spl_values.proofs.hp_word_proofs.ByteLaws.{byte_at-below}
use Rattle.spl_values.specs.hp_instr.declared.instruction.Instr.{Instr}
use Rattle.spl_values.specs.hp_instr.declared.instruction.Instr.TheVariants as instr
use Rattle.spl_values.specs.hp_instr.declared.instruction.Mode.{Mode}
use Rattle.spl_values.specs.hp_session.State.{Machine, Outcome as Row, then_with}
use Rattle.spl_values.specs.hp_session.declared.places.Place.{Place as Operand}
use Rattle.spl_values.specs.hp_session.declared.places.Place.TheVariants.{Db, Stack}
use Rattle.spl_values.specs.hp_session.Places.{operand, moved, read_at, byte_read, word_of_byte, address}
use Rattle.spl_values.specs.hp_memory_rows.MemoryRows.{memory_row}
use Rattle.spl_values.specs.hp_flat.Step.{at_left}
use Rattle.spl_values.specs.hp_yields.Rows.{Sided, held}
use Rattle.spl_values.proofs.hp_yields_proofs.MemoryYields as rows
use Rattle.spl_values.specs.spl_tree.declared.expressions.Kind.{Kind}
use Rattle.spl_values.specs.spl_tree.declared.expressions.Kind.TheVariants as kind
use Rattle.spl_values.specs.spl_frames.Words.{AreWords}
use Rattle.spl_values.specs.spl_meaning.Kinds.{width}
use Rattle.spl_values.specs.spl_meaning.References.{Setting, Located, word_at, word_read, read_by, read}
use Rattle.spl_values.specs.spl_meaning.States.{Data, State, Begun, End, Outcome, done, leaves, spent, ends, strays, trapped, then_go}
use Rattle.spl_values.specs.spl_follow.Spots.{Spot, pos, Point, Ground}
use Rattle.spl_values.specs.spl_follow.Leading.{Leads}
use Rattle.spl_values.specs.spl_follow.Matching.{Outer, Matched, IsValue}
use Rattle.spl_values.specs.spl_follow.Following.{Rate, tally_with, Follows, NoExit}
use Rattle.spl_values.specs.spl_follow.Doing.{going, doing}
use Rattle.spl_values.specs.spl_follow.Yielding.{Yields}
use Rattle.spl_values.proofs.spl_follow_proofs.RowLemmas.{stray_here, row_value}
use Rattle.spl_values.proofs.spl_follow_proofs.PartLemmas.{rows_trap}
use Rattle.spl_values.specs.Reached.{is_word_kind}
use Rattle.spl_operands.specs.Operands.{finding, Finds, Refers, Seen, Loading}
use Rattle.spl_operands.proofs.SeeLemmas.{see}
use Rattle.spl_operands.proofs.OperandLemmas.{moved_address, moved_side}

-- ---- what is read

-- a word that is seen is what the machine reads there, and one past its words traps
pub seen_read : (place : Operand) (far : Bool) (a v : ℕ) (s : State) (m : Machine) → Sided place far m → address place ≡ a → Seen far a v s m
    → read_at place m ≡ Ok v
seen_read place far a v s m side at seen =
    rows.read_there place far m side (subst (λ (b : ℕ). b < length (held far m)) (sym at) seen.there)
    ∙ ap (λ (u : ℕ). let r : Result ℕ Trap = Ok u in r) (ap (λ (b : ℕ). slice_index (held far m) b) at ∙ seen.word)

pub past_read : (place : Operand) (far : Bool) (a : ℕ) (m : Machine) → Sided place far m → address place ≡ a → length (held far m) ≤ a
    → read_at place m ≡ Err Bounds
past_read place far a m side at past = rows.read_past place far m side (subst (λ (b : ℕ). length (held far m) ≤ b) (sym at) past)

-- the word of a byte
pub byte_address : (place : Operand) (a : ℕ) → address place ≡ a → address (word_of_byte place) ≡ a / 2
unfolding word_of_byte
byte_address (Db b) a at = ap (λ (c : ℕ). c / 2) at
byte_address (Stack b) a at = ap (λ (c : ℕ). c / 2) at

pub byte_side : (place : Operand) (far : Bool) (m : Machine) → Sided place far m → Sided (word_of_byte place) far m
unfolding word_of_byte
byte_side (Db b) far m side = side
byte_side (Stack b) far m side = side

-- and the byte that is read there, by its word
byte_is_read : (place : Operand) (a : ℕ) (m : Machine) (r : Result ℕ Trap) → address place ≡ a → read_at (word_of_byte place) m ≡ r
    → byte_read place m ≡ then_with r (λ w. Ok (byte_at a w))
unfolding byte_read
byte_is_read place a m r at is =
    ap (λ (b : ℕ). then_with (read_at (word_of_byte place) m) (λ w. let r : Result ℕ Trap = Ok (byte_at b w) in r)) at
    ∙ ap (λ (r : Result ℕ Trap). then_with r (λ w. let r : Result ℕ Trap = Ok (byte_at a w) in r)) is

-- a byte is a word
byte_small : (a w : ℕ) → w < 65536 → byte_at a w < 65536
byte_small a w low = let b = byte_at-below a w low in omega (arith, b)

-- ---- loads

-- the instruction of a load: LOAD, LDB, LDD
abbrev pub loading : Kind → Bool → Bool → Mode → Instr
loading kind.Integer i x mode = instr.Memory 4 true x i mode
loading kind.Logical i x mode = instr.Memory 4 true x i mode
loading kind.Byte i x mode = instr.Memory 13 false x i mode
loading kind.Double i x mode = instr.Memory 13 true x i mode

-- a value of a kind of one word is that word
word_is_read : (t : Kind) (far : Bool) (a : ℕ) (s : State) → is_word_kind t ≡ true → read_by t far a s ≡ word_read far a s
word_is_read kind.Integer far a s e = refl
word_is_read kind.Logical far a s e = refl
word_is_read kind.Byte far a s e = absurd (false≢true e)
word_is_read kind.Double far a s e = absurd (false≢true e)

-- and its operand is of one
pub word_is_found : (t : Kind) (mode : Mode) (i x : Bool) (m : Machine) → is_word_kind t ≡ true → finding t mode i x m ≡ operand 1 mode i x m
word_is_found kind.Integer mode i x m e = refl
word_is_found kind.Logical mode i x m e = refl
word_is_found kind.Byte mode i x m e = absurd (false≢true e)
word_is_found kind.Double mode i x m e = absurd (false≢true e)

-- where a load stands there is room for its words
pub load_room : (st : Setting) (p : Point) (k n : ℕ) (d0 : Data) (m0 : Machine) (l : List Begun) (s : State) (m : Machine)
    → Loading st p k n d0 m0 l s m → length m.stack + n ≤ m.stack_limit
load_room st p k n d0 m0 l s m x =
    let words = x.matches.words in
    let room = x.room in
    let limit : m.stack_limit ≡ s.now.stack = ap (λ (u : Outer). u.limit) x.matches.outer in
    omega (arith, words, room, limit)

-- a value of n words behind a row that pushes them
pub load_gives : (g : Ground) (w : Rate) (p : Point) (q : Spot) (F : Machine → Machine) (st : Setting) (k n : ℕ) (d0 : Data) (m0 : Machine) (l : List Begun)
    (s : State) (m : Machine) (vs : List ℕ) (o : Row) → Leads g p q F → F m ≡ going q o m → Loading st p k n d0 m0 l s m → Yields 0 vs m o → AreWords vs
    → length vs ≡ n → Follows g w (pos q - pos p.at) 0 w.reach (tally_with l s) m (IsValue st q n k d0 m0) NoExit (done vs s)
load_gives g w p q F st k n d0 m0 l s m vs o leads is y row small wide =
    let none : k ≡ k + 0 = omega arith in
    row_value g w p q F st l s m d0 m0 k 0 n vs o leads is y.at y.owes row (subst (λ (j : ℕ). Matched st s.now m j) none y.matches) y.kept y.silent small wide

-- a load that traps
pub load_traps : (g : Ground) (w : Rate) (p : Point) (q : Spot) (F : Machine → Machine) (st : Setting) (k n : ℕ) (d0 : Data) (m0 : Machine) (l : List Begun)
    (s : State) (m : Machine) (o : Row) → Leads g p q F → F m ≡ going q o m → Loading st p k n d0 m0 l s m → o ≡ Err Bounds
    → Follows g w (pos q - pos p.at) 0 w.reach (tally_with l s) m (IsValue st q n k d0 m0) NoExit (ends (trapped Bounds) s)
load_traps g w p q F st k n d0 m0 l s m o leads is y lost =
    rows_trap g w p q q F st l s m d0 m0 k k n o Bounds leads is y.at y.owes y.matches lost

-- one with which the run strays
pub load_strays : (g : Ground) (w : Rate) (p : Point) (q : Spot) (F : Machine → Machine) (st : Setting) (k n : ℕ) (d0 : Data) (m0 : Machine) (l : List Begun)
    (s : State) (m : Machine) → Leads g p q F → Loading st p k n d0 m0 l s m
    → Follows g w (pos q - pos p.at) 0 w.reach (tally_with l s) m (IsValue st q n k d0 m0) NoExit (strays s)
load_strays g w p q F st k n d0 m0 l s m leads y =
    stray_here g w (pos q - pos p.at) 0 w.reach st p k s l m (IsValue st q n k d0 m0) NoExit leads.start y.at y.owes y.matches

-- LOAD of what is found: the word there is on top, or the run strays, or both trap.
word_loads : (g : Ground) (w : Rate) (p : Point) (q : Spot) (st : Setting) (t : Kind) (mode : Mode) (i x far : Bool) (a k : ℕ) (d0 : Data) (m0 : Machine)
    (l : List Begun) (s : State) (m : Machine) → is_word_kind t ≡ true → Leads g p q (doing g.segments (instr.Memory 4 true x i mode) q)
    → Loading st p k 1 d0 m0 l s m → Finds t mode i x far a (at_left m)
    → Follows g w (pos q - pos p.at) 0 w.reach (tally_with l s) m (IsValue st q 1 k d0 m0) NoExit (word_read far a s)
word_loads g w p q st t mode i x far a k d0 m0 l s m one leads y f =
    let room = load_room st p k 1 d0 m0 l s m y in
    let fits = y.room in
    let found : operand 1 mode i x (at_left m) ≡ Ok f.place = sym (word_is_found t mode i x (at_left m) one) ∙ f.is in
    see (λ (o : Outcome (List ℕ)). Follows g w (pos q - pos p.at) 0 w.reach (tally_with l s) m (IsValue st q 1 k d0 m0) NoExit o) far a k st s (at_left m)
    (λ v u. done (v ∷ []) u) y.matches (omega (arith, fits))
    (λ v seen. load_gives g w p q (doing g.segments (instr.Memory 4 true x i mode) q) st k 1 d0 m0 l s m (v ∷ []) (memory_row 4 true mode i x (at_left m)) leads refl y
    (rows.word_loaded mode i x f.place v (at_left m) found (seen_read f.place far a v s (at_left m) f.side f.at seen) (omega (arith, room))).words
    (seen.small, tt) refl)
    (load_strays g w p q (doing g.segments (instr.Memory 4 true x i mode) q) st k 1 d0 m0 l s m leads y)
    (λ past. load_traps g w p q (doing g.segments (instr.Memory 4 true x i mode) q) st k 1 d0 m0 l s m (memory_row 4 true mode i x (at_left m)) leads refl y
    (rows.word_not_there mode i x f.place Bounds (at_left m) found (past_read f.place far a (at_left m) f.side f.at past)))

-- LDB: the byte of the word that is seen
byte_loads : (g : Ground) (w : Rate) (p : Point) (q : Spot) (st : Setting) (mode : Mode) (i x far : Bool) (a k : ℕ) (d0 : Data) (m0 : Machine)
    (l : List Begun) (s : State) (m : Machine) → Leads g p q (doing g.segments (instr.Memory 13 false x i mode) q)
    → Loading st p k 1 d0 m0 l s m → Finds kind.Byte mode i x far a (at_left m)
    → Follows g w (pos q - pos p.at) 0 w.reach (tally_with l s) m (IsValue st q 1 k d0 m0) NoExit (read_by kind.Byte far a s)
byte_loads g w p q st mode i x far a k d0 m0 l s m leads y f =
    let room = load_room st p k 1 d0 m0 l s m y in
    let fits = y.room in
    let side = byte_side f.place far (at_left m) f.side in
    let at = byte_address f.place a f.at in
    see (λ (o : Outcome (List ℕ)). Follows g w (pos q - pos p.at) 0 w.reach (tally_with l s) m (IsValue st q 1 k d0 m0) NoExit o) far (a / 2) k st s (at_left m)
    (λ v u. done (byte_at a v ∷ []) u) y.matches (omega (arith, fits))
    (λ v seen. load_gives g w p q (doing g.segments (instr.Memory 13 false x i mode) q) st k 1 d0 m0 l s m (byte_at a v ∷ []) (memory_row 13 false mode i x (at_left m)) leads refl y
    (rows.byte_is_loaded mode i x f.place (byte_at a v) (at_left m) f.is
    (byte_is_read f.place a (at_left m) (Ok v) f.at (seen_read (word_of_byte f.place) far (a / 2) v s (at_left m) side at seen)) (omega (arith, room))).words
    (byte_small a v seen.small, tt) refl)
    (load_strays g w p q (doing g.segments (instr.Memory 13 false x i mode) q) st k 1 d0 m0 l s m leads y)
    (λ past. load_traps g w p q (doing g.segments (instr.Memory 13 false x i mode) q) st k 1 d0 m0 l s m (memory_row 13 false mode i x (at_left m)) leads refl y
    (rows.byte_not_there mode i x f.place Bounds (at_left m) f.is
    (byte_is_read f.place a (at_left m) (Err Bounds) f.at (past_read (word_of_byte f.place) far (a / 2) (at_left m) side at past))))

-- LDD: both words are seen, one after the other
double_loads : (g : Ground) (w : Rate) (p : Point) (q : Spot) (st : Setting) (mode : Mode) (i x far : Bool) (a k : ℕ) (d0 : Data) (m0 : Machine)
    (l : List Begun) (s : State) (m : Machine) → Leads g p q (doing g.segments (instr.Memory 13 true x i mode) q)
    → Loading st p k 2 d0 m0 l s m → Finds kind.Double mode i x far a (at_left m)
    → Follows g w (pos q - pos p.at) 0 w.reach (tally_with l s) m (IsValue st q 2 k d0 m0) NoExit (read_by kind.Double far a s)
double_loads g w p q st mode i x far a k d0 m0 l s m leads y f =
    let room = load_room st p k 2 d0 m0 l s m y in
    let fits = y.room in
    let side = moved_side 1 f.place far (at_left m) f.side in
    let at : address (moved 1 f.place) ≡ (a + 1) % 65536 = moved_address 1 f.place ∙ ap (λ (b : ℕ). (b + 1) % 65536) f.at in
    see (λ (o : Outcome (List ℕ)). Follows g w (pos q - pos p.at) 0 w.reach (tally_with l s) m (IsValue st q 2 k d0 m0) NoExit o) far a k st s (at_left m)
    (λ high u. then_go (word_at far ((a + 1) % 65536) u) (λ low v. done (high ∷ low ∷ []) v)) y.matches (omega (arith, fits))
    (λ high seen. see (λ (o : Outcome (List ℕ)). Follows g w (pos q - pos p.at) 0 w.reach (tally_with l s) m (IsValue st q 2 k d0 m0) NoExit o) far ((a + 1) % 65536) k st s (at_left m)
    (λ low u. done (high ∷ low ∷ []) u) y.matches (omega (arith, fits))
    (λ low next. load_gives g w p q (doing g.segments (instr.Memory 13 true x i mode) q) st k 2 d0 m0 l s m (high ∷ low ∷ []) (memory_row 13 true mode i x (at_left m)) leads refl y
    (rows.double_is_loaded mode i x f.place high low (at_left m) f.is (seen_read f.place far a high s (at_left m) f.side f.at seen)
    (seen_read (moved 1 f.place) far ((a + 1) % 65536) low s (at_left m) side at next) (omega (arith, room))).words
    (seen.small, (next.small, tt)) refl)
    (load_strays g w p q (doing g.segments (instr.Memory 13 true x i mode) q) st k 2 d0 m0 l s m leads y)
    (λ past. load_traps g w p q (doing g.segments (instr.Memory 13 true x i mode) q) st k 2 d0 m0 l s m (memory_row 13 true mode i x (at_left m)) leads refl y
    (rows.low_not_there mode i x f.place high Bounds (at_left m) f.is (seen_read f.place far a high s (at_left m) f.side f.at seen)
    (past_read (moved 1 f.place) far ((a + 1) % 65536) (at_left m) side at past))))
    (load_strays g w p q (doing g.segments (instr.Memory 13 true x i mode) q) st k 2 d0 m0 l s m leads y)
    (λ past. load_traps g w p q (doing g.segments (instr.Memory 13 true x i mode) q) st k 2 d0 m0 l s m (memory_row 13 true mode i x (at_left m)) leads refl y
    (rows.high_not_there mode i x f.place Bounds (at_left m) f.is (past_read f.place far a (at_left m) f.side f.at past)))

-- by the kind
value_loads : (g : Ground) (w : Rate) (p : Point) (q : Spot) (st : Setting) (t : Kind) (mode : Mode) (i x far : Bool) (a k : ℕ) (d0 : Data) (m0 : Machine)
    (l : List Begun) (s : State) (m : Machine) → Leads g p q (doing g.segments (loading t i x mode) q)
    → Loading st p k (width t) d0 m0 l s m → Finds t mode i x far a (at_left m)
    → Follows g w (pos q - pos p.at) 0 w.reach (tally_with l s) m (IsValue st q (width t) k d0 m0) NoExit (read_by t far a s)
value_loads g w p q st kind.Integer mode i x far a k d0 m0 l s m leads y f = word_loads g w p q st kind.Integer mode i x far a k d0 m0 l s m refl leads y f
value_loads g w p q st kind.Logical mode i x far a k d0 m0 l s m leads y f = word_loads g w p q st kind.Logical mode i x far a k d0 m0 l s m refl leads y f
value_loads g w p q st kind.Byte mode i x far a k d0 m0 l s m leads y f = byte_loads g w p q st mode i x far a k d0 m0 l s m leads y f
value_loads g w p q st kind.Double mode i x far a k d0 m0 l s m leads y f = double_loads g w p q st mode i x far a k d0 m0 l s m leads y f

-- a trap of the operand itself
not_loaded : (g : Ground) (w : Rate) (p : Point) (q : Spot) (st : Setting) (t : Kind) (mode : Mode) (i x : Bool) (k : ℕ) (d0 : Data) (m0 : Machine)
    (l : List Begun) (s : State) (m : Machine) → Leads g p q (doing g.segments (loading t i x mode) q) → Loading st p k (width t) d0 m0 l s m
    → finding t mode i x (at_left m) ≡ Err Bounds
    → Follows g w (pos q - pos p.at) 0 w.reach (tally_with l s) m (IsValue st q (width t) k d0 m0) NoExit (ends (trapped Bounds) s)
not_loaded g w p q st kind.Integer mode i x k d0 m0 l s m leads y lost =
    load_traps g w p q (doing g.segments (instr.Memory 4 true x i mode) q) st k 1 d0 m0 l s m (memory_row 4 true mode i x (at_left m)) leads refl y
    (rows.word_not_found mode i x Bounds (at_left m) lost)
not_loaded g w p q st kind.Logical mode i x k d0 m0 l s m leads y lost =
    load_traps g w p q (doing g.segments (instr.Memory 4 true x i mode) q) st k 1 d0 m0 l s m (memory_row 4 true mode i x (at_left m)) leads refl y
    (rows.word_not_found mode i x Bounds (at_left m) lost)
not_loaded g w p q st kind.Byte mode i x k d0 m0 l s m leads y lost =
    load_traps g w p q (doing g.segments (instr.Memory 13 false x i mode) q) st k 1 d0 m0 l s m (memory_row 13 false mode i x (at_left m)) leads refl y
    (rows.byte_not_found mode i x Bounds (at_left m) lost)
not_loaded g w p q st kind.Double mode i x k d0 m0 l s m leads y lost =
    load_traps g w p q (doing g.segments (instr.Memory 13 true x i mode) q) st k 2 d0 m0 l s m (memory_row 13 true mode i x (at_left m)) leads refl y
    (rows.double_not_found mode i x Bounds (at_left m) lost)

-- a load where its operand is what a reference leads to
pub load_follows : (g : Ground) (w : Rate) (p : Point) (q : Spot) (st : Setting) (t : Kind) (mode : Mode) (i x : Bool) (k : ℕ) (d0 : Data) (m0 : Machine)
    (l : List Begun) (s : State) (m : Machine) (o : Outcome Located) → Leads g p q (doing g.segments (loading t i x mode) q)
    → Loading st p k (width t) d0 m0 l s m → Refers t mode i x s (at_left m) o
    → Follows g w (pos q - pos p.at) 0 w.reach (tally_with l s) m (IsValue st q (width t) k d0 m0) NoExit (then_go o (λ y u. read y u))
load_follows g w p q st t mode i x k d0 m0 l s m (done y u) leads z r =
    subst (λ (v : State). Follows g w (pos q - pos p.at) 0 w.reach (tally_with l s) m (IsValue st q (width t) k d0 m0) NoExit (read_by y.kind y.far y.address v)) (sym r.0)
    (subst (λ (c : Kind). Follows g w (pos q - pos p.at) 0 w.reach (tally_with l s) m (IsValue st q (width t) k d0 m0) NoExit (read_by c y.far y.address s)) (sym r.1)
    (value_loads g w p q st t mode i x y.far y.address k d0 m0 l s m leads z r.2))
load_follows g w p q st t mode i x k d0 m0 l s m (leaves e u) leads z r = absurd r
load_follows g w p q st t mode i x k d0 m0 l s m (spent u) leads z r = absurd r
load_follows g w p q st t mode i x k d0 m0 l s m (ends e u) leads z r =
    subst (λ (v : State). Follows g w (pos q - pos p.at) 0 w.reach (tally_with l s) m (IsValue st q (width t) k d0 m0) NoExit (ends e v)) (sym r.0)
    (subst (λ (c : End). Follows g w (pos q - pos p.at) 0 w.reach (tally_with l s) m (IsValue st q (width t) k d0 m0) NoExit (ends c s)) (sym r.1)
    (not_loaded g w p q st t mode i x k d0 m0 l s m leads z r.2))
load_follows g w p q st t mode i x k d0 m0 l s m (strays u) leads z r =
    subst (λ (v : State). Follows g w (pos q - pos p.at) 0 w.reach (tally_with l s) m (IsValue st q (width t) k d0 m0) NoExit (strays v)) (sym r)
    (load_strays g w p q (doing g.segments (loading t i x mode) q) st k (width t) d0 m0 l s m leads z)
