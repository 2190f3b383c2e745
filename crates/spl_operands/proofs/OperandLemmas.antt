-- Where operands are: places by their modes, and words through the cells that stand there.
use Rattle.std.proofs.Common.{◌≡◌, ℕ, ◌+◌, ◌%◌, ◌<◌, ◌≤◌, Bool, true, false, length, refl, sym, ap, subst, ◌∙◌, arith}
use Rattle.std.specs.Prelude.{Some, Result, Ok, Err, not, nat_lt, nat_le, slice_index}
use Rattle.std.proofs.lemmas.Bool.{ltb-true, leb-true, false≢true, not-true}
use Rattle.spl_values.specs.hp_word.declared.endings.Trap.{Trap}
use Rattle.spl_values.specs.hp_word.declared.endings.Trap.TheVariants.{Bounds}
use Rattle.spl_values.specs.hp_instr.declared.instruction.Mode.{Mode}
use Rattle.spl_values.specs.hp_instr.declared.instruction.Mode.TheVariants.{SMinus}
use Rattle.spl_values.specs.hp_session.State.{Machine, then_with, wrapped}
use Rattle.spl_values.specs.hp_session.declared.places.Place.{Place as Operand}
use Rattle.spl_values.specs.hp_session.declared.places.Place.TheVariants.{Db, Stack}
use Rattle.spl_values.specs.hp_session.Places.{address, base, moved, operand, byte_operand, read_at, index}
use Rattle.spl_values.specs.hp_yields.Rows.{Sided}
use Rattle.spl_values.proofs.hp_yields_proofs.MemoryYields as rows
use Rattle.spl_values.specs.spl_tree.declared.expressions.Kind.{Kind}
use Rattle.spl_values.specs.spl_tree.declared.expressions.Kind.TheVariants as kind
use Rattle.spl_values.specs.spl_meaning.Places.{Place, data_word, above_base, below_base, below_return}
use Rattle.spl_values.specs.spl_meaning.References.{Setting, address_of, element_address, element_located, led_located}
use Rattle.spl_values.specs.spl_meaning.States.{Data, State, Outcome, done}
use Rattle.spl_values.specs.spl_meaning.References.{Located}
use Rattle.spl_values.specs.spl_code.Operands.{mode_of}
use Rattle.spl_values.specs.spl_follow.Matching.{Outer, Matched}
use Rattle.spl_values.specs.Reached.{is_reached}
use Rattle.spl_values.proofs.VariableLemmas.{both}
use Rattle.spl_operands.specs.Operands.{Based, counted_by, finding, Finds, Refers}
use Rattle.spl_operands.proofs.SeeLemmas.{see}

-- ---- places

-- the mode of a place that is reached names the word at its address, however many words wait
pub place_based : (st : Setting) (d : Data) (k j : ℕ) (place : Place) (m : Machine) → is_reached st k place ≡ true → Matched st d m j
    → Based (mode_of k place) (address_of place d) m
unfolding base
place_based st d k j (data_word a) m e x =
    let two = both (not st.split) (nat_lt a 256) e in
    let low = ltb-true a 256 two.1 in
    let split : m.split ≡ st.split = ap (λ (u : Outer). u.split) x.outer in
    record { at = omega (arith, low); side = split ∙ not-true st.split two.0 }
place_based st d k j (above_base n) m e x =
    let low = ltb-true n 128 e in
    let q : m.regs.q ≡ d.base = ap (λ (u : Outer). u.q) x.outer in
    let live = x.lies.live in
    let within = x.lies.within in
    let least = x.lies.least in
    record { at = omega (arith, low, q, live, within, least); side = refl }
place_based st d k j (below_base n) m e x =
    let two = both (nat_lt n 64) (nat_le n st.below) e in
    let low = ltb-true n 64 two.0 in
    let few = leb-true n st.below two.1 in
    let deep = x.lies.deep in
    let q : m.regs.q ≡ d.base = ap (λ (u : Outer). u.q) x.outer in
    let live = x.lies.live in
    let within = x.lies.within in
    let least = x.lies.least in
    record { at = omega (arith, low, few, deep, q, live, within, least); side = refl }
place_based st d k j (below_return n) m e x = absurd (false≢true e)

-- the word below i others is at S- and so many
pub top_based : (st : Setting) (d : Data) (j i : ℕ) (m : Machine) → Matched st d m (j + i + 1) → d.top + (j + i + 1) ≤ d.stack
    → Based (SMinus i) (d.top + j) m
unfolding base
top_based st d j i m x room =
    let words = x.words in
    let least = x.lies.least in
    record { at = omega (arith, words, room, least); side = refl }

-- ---- at a mode itself

-- a place further on
pub moved_address : (by : ℕ) (place : Operand) → address (moved by place) ≡ (address place + by) % 65536
unfolding moved
moved_address by (Db a) = refl
moved_address by (Stack a) = refl

pub moved_side : (by : ℕ) (place : Operand) (far : Bool) (m : Machine) → Sided place far m → Sided (moved by place) far m
unfolding moved
moved_side by (Db a) far m side = side
moved_side by (Stack a) far m side = side

-- without indirection an operand of a word is at the mode's address, with X added
pub direct : (mode : Mode) (x : Bool) (b a : ℕ) (m : Machine) → Based mode b m → (b + index 1 x m) % 65536 ≡ a → Finds kind.Integer mode false x false a m
unfolding operand
direct mode x b a m is e = record {
  place = moved (index 1 x m) (base mode m);
  is = refl;
  at = moved_address (index 1 x m) (base mode m) ∙ ap (λ (c : ℕ). (c + index 1 x m) % 65536) is.at ∙ e;
  side = moved_side (index 1 x m) (base mode m) false m is.side;
}

-- ---- through a cell

-- the cell at a mode, and the one that is past the stack
cell_there : (mode : Mode) (c cell : ℕ) (m : Machine) → Based mode c m → c < length m.stack → slice_index m.stack c ≡ cell
    → read_at (base mode m) m ≡ Ok cell
cell_there mode c cell m b low is =
    rows.read_there (base mode m) false m b.side (subst (λ (a : ℕ). a < length m.stack) (sym b.at) low)
    ∙ ap (λ (w : ℕ). let r : Result ℕ Trap = Ok w in r) (ap (λ (a : ℕ). slice_index m.stack a) b.at ∙ is)

cell_past : (mode : Mode) (c : ℕ) (m : Machine) → Based mode c m → length m.stack ≤ c → read_at (base mode m) m ≡ Err Bounds
cell_past mode c m b past =
    rows.read_past (base mode m) false m b.side (subst (λ (a : ℕ). length m.stack ≤ a) (sym b.at) past)

-- what comes behind a result
led : (r o : Result ℕ Trap) (by : ℕ) → r ≡ o
    → then_with r (λ cell. let x : Result Operand Trap = Ok (moved by (Db cell)) in x) ≡ then_with o (λ cell. Ok (moved by (Db cell)))
led r o by e = ap (λ (r : Result ℕ Trap). then_with r (λ cell. let x : Result Operand Trap = Ok (moved by (Db cell)) in x)) e

-- an operand of a kind, with indirection, by what is read of its cell
indirect : (t : Kind) (mode : Mode) (x : Bool) (m : Machine) (o : Result ℕ Trap) → read_at (base mode m) m ≡ o
    → finding t mode true x m ≡ then_with o (λ cell. Ok (moved (index (counted_by t) x m) (Db cell)))
unfolding operand byte_operand
indirect kind.Integer mode x m o e = led (read_at (base mode m) m) o (index 1 x m) e
indirect kind.Logical mode x m o e = led (read_at (base mode m) m) o (index 1 x m) e
indirect kind.Byte mode x m o e = led (read_at (base mode m) m) o (index 1 x m) e
indirect kind.Double mode x m o e = led (read_at (base mode m) m) o (index 2 x m) e

-- with indirection the operand is where the cell leads, among the words of the mode in which the machine is
pub through : (t : Kind) (mode : Mode) (x : Bool) (c cell a : ℕ) (m : Machine) → Based mode c m → c < length m.stack
    → slice_index m.stack c ≡ cell → (cell + index (counted_by t) x m) % 65536 ≡ a → Finds t mode true x m.split a m
unfolding moved
through t mode x c cell a m b low is e = record {
  place = Db (wrapped (cell + index (counted_by t) x m));
  is = indirect t mode x m (Ok cell) (cell_there mode c cell m b low is);
  at = e;
  side = refl;
}

-- and where the cell is past the stack it traps
pub through_past : (t : Kind) (mode : Mode) (x : Bool) (c : ℕ) (m : Machine) → Based mode c m → length m.stack ≤ c
    → finding t mode true x m ≡ Err Bounds
through_past t mode x c m b past = indirect t mode x m (Err Bounds) (cell_past mode c m b past)

-- ---- what the source finds

-- So it is what a name's word leads to, at an index that X gives.
pub led_refers : (st : Setting) (t : Kind) (mode : Mode) (x : Bool) (i j : ℕ) (place : Place) (s : State) (m : Machine) → Matched st s.now m j
    → s.now.top + j ≤ s.now.stack → Based mode (address_of place s.now) m
    → ((cell : ℕ) → (cell + index (counted_by t) x m) % 65536 ≡ element_address t cell i)
    → Refers t mode true x s m (led_located m.split t (Some place) i s)
led_refers st t mode x i j place s m matches room b same =
    see (λ (o : Outcome Located). Refers t mode true x s m o) false (address_of place s.now) j st s m
    (λ cell u. done (element_located m.split t cell i) u) matches room
    (λ cell seen. (refl, refl, through t mode x (address_of place s.now) cell (element_address t cell i) m b seen.there seen.word (same cell)))
    refl
    (λ past. (refl, refl, through_past t mode x (address_of place s.now) m b past))

-- without an index it is element 0
pub first_element : (t : Kind) (cell : ℕ) (m : Machine) → (cell + index (counted_by t) false m) % 65536 ≡ element_address t cell 0
first_element kind.Integer cell m = refl
first_element kind.Logical cell m = refl
first_element kind.Byte cell m = refl
first_element kind.Double cell m = refl

-- and with one that of X
pub indexed_element : (t : Kind) (cell i : ℕ) (m : Machine) → m.regs.x ≡ i
    → (cell + index (counted_by t) true m) % 65536 ≡ element_address t cell i
indexed_element kind.Integer cell i m e = omega (arith, e)
indexed_element kind.Logical cell i m e = omega (arith, e)
indexed_element kind.Byte cell i m e = omega (arith, e)
indexed_element kind.Double cell i m e = omega (arith, e)

-- a reference through the word at a place that is reached, in the mode of the body
pub place_refers : (st : Setting) (t : Kind) (far x : Bool) (i k j : ℕ) (place : Place) (s : State) (m : Machine) → is_reached st k place ≡ true
    → far ≡ st.split → Matched st s.now m j → s.now.top + j ≤ s.now.stack
    → ((cell : ℕ) → (cell + index (counted_by t) x m) % 65536 ≡ element_address t cell i)
    → Refers t (mode_of k place) true x s m (led_located far t (Some place) i s)
place_refers st t far x i k j place s m reached side matches room same =
    let split : m.split ≡ st.split = ap (λ (u : Outer). u.split) matches.outer in
    subst (λ (b : Bool). Refers t (mode_of k place) true x s m (led_located b t (Some place) i s)) (split ∙ sym side)
    (led_refers st t (mode_of k place) x i j place s m matches room (place_based st s.now k j place m reached matches) same)
