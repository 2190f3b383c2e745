-- Stores in data words that are there: what the run puts there is what it sets at a body's entry.
use Rattle.std.proofs.Common.{◌≡◌, ℕ, ◌+◌, ◌*◌, ◌/◌, ◌%◌, ◌<◌, Bool, true, false, List, [], ◌∷◌, refl, sym, ap, ◌∙◌}
use Rattle.std.specs.Prelude.{Option, Some, None, is_some, nat_eq, ℤ, if◌then◌else◌}
use Rattle.std.proofs.lemmas.Bool.{false≢true, eqb-true, lt-ltb}
use Rattle.spl_procedures.specs.hp_word.declared.endings.Trap.TheVariants.{Bounds}
use Rattle.spl_procedures.specs.hp_word.Words.{word_of, double_of}
use Rattle.spl_procedures.specs.hp_word.Bytes.{with_byte, high_word, low_word}
use Rattle.spl_procedures.specs.spl_tree.declared.expressions.Kind.{Kind}
use Rattle.spl_procedures.specs.spl_tree.declared.expressions.Kind.TheVariants as kind
use Rattle.spl_procedures.specs.spl_meaning.Places.{Place, data_word, above_base, below_base, below_return, Cell, put, changed, stored, put_value, put_cells, viewed}
use Rattle.spl_procedures.specs.spl_meaning.Places.{cell_word, word_or_zero}
use Rattle.spl_procedures.specs.spl_meaning.References.{address_of, word_at, data_word_read}
use Rattle.spl_procedures.specs.spl_meaning.States.{Data, State, Outcome, ends, trapped, then_go}

-- ---- what stays there

changed_there : (o : Option ℕ) (v : ℕ) → is_some o ≡ true → is_some (changed o v) ≡ true
changed_there (Some w) v h = refl
changed_there None v h = h

pub stored_keeps : (a v : ℕ) (mem : ℕ → Option ℕ) (b : ℕ) → is_some (mem b) ≡ true → is_some (stored a v mem b) ≡ true
stored_keeps a v mem b h = by (nat_eq a b) where
  by : (t : Bool) → is_some (if t then changed (mem b) v else mem b) ≡ true
  by true = changed_there (mem b) v h
  by false = h

pub cells_keep : (address : Place → ℕ) (cs : List Cell) (mem : ℕ → Option ℕ) (b : ℕ) → is_some (mem b) ≡ true → is_some (put_cells address cs mem b) ≡ true
cells_keep address [] mem b h = h
cells_keep address (c ∷ cs) mem b h =
    let v = viewed c.as_bytes (cell_word c.array.kind c.array.low (address c.array.from)) in
    cells_keep address cs (stored (address c.place) v mem) b (stored_keeps (address c.place) v mem b h)

pub value_keeps : (k : Kind) (a j : ℕ) (v : ℤ) (mem : ℕ → Option ℕ) (b : ℕ) → is_some (mem b) ≡ true → is_some (put_value k a j v mem b) ≡ true
value_keeps kind.Integer a j v mem b h = stored_keeps (a + j) (word_of v) mem b h
value_keeps kind.Logical a j v mem b h = stored_keeps (a + j) (word_of v) mem b h
value_keeps kind.Byte a j v mem b h =
    let c : ℕ = (2 * a + j) / 2 in stored_keeps c (with_byte (2 * a + j) (word_of v % 256) (word_or_zero (mem c))) mem b h
value_keeps kind.Double a j v mem b h =
    let low : ℕ → Option ℕ = stored (a + 2 * j + 1) (low_word (double_of v)) mem in
    stored_keeps (a + 2 * j) (high_word (double_of v)) low b (stored_keeps (a + 2 * j + 1) (low_word (double_of v)) mem b h)

-- ---- a word that is there

-- by its value
pub there : (o : Option ℕ) → is_some o ≡ true → (v : ℕ) × (o ≡ Some v)
there (Some v) h = (v, refl)
there None h = absurd (false≢true h)

-- it is read
pub read_there : {A : Type 0} (a v : ℕ) (s : State) (go : ℕ → State → Outcome A) → a < s.now.stack → s.now.mem a ≡ Some v
    → then_go (word_at false a s) go ≡ go v s
read_there a v s go low e =
    ap (λ (t : Bool). then_go (if t then data_word_read (s.now.mem a) s else ends (trapped Bounds) s) go) (lt-ltb a s.now.stack low)
    ∙ ap (λ (o : Option ℕ). then_go (data_word_read o s) go) e

-- to put a word there is to store it
put_is_at : (a v old : ℕ) (mem : ℕ → Option ℕ) → mem a ≡ Some old → (b : ℕ) → put a v mem b ≡ stored a v mem b
put_is_at a v old mem e b = by (nat_eq a b) refl where
  by : (t : Bool) → nat_eq a b ≡ t → (if t then Some v else mem b) ≡ (if t then changed (mem b) v else mem b)
  by true t = ap (λ (o : Option ℕ). changed o v) (sym (ap mem (sym (eqb-true a b t)) ∙ e))
  by false t = refl

pub put_is : (a v old : ℕ) (mem : ℕ → Option ℕ) → mem a ≡ Some old → put a v mem ≡ stored a v mem
put_is a v old mem e j b = put_is_at a v old mem e b j

-- two words, whichever is stored first
pub stored_other : (a v : ℕ) (mem : ℕ → Option ℕ) (b : ℕ) → (a ≡ b → ⊥) → stored a v mem b ≡ mem b
stored_other a v mem b differs = by (nat_eq a b) refl where
  by : (t : Bool) → nat_eq a b ≡ t → (if t then changed (mem b) v else mem b) ≡ mem b
  by true e = absurd (differs (eqb-true a b e))
  by false e = refl

swap_at : (a c v u : ℕ) (mem : ℕ → Option ℕ) → (a ≡ c → ⊥) → (b : ℕ) → stored c u (stored a v mem) b ≡ stored a v (stored c u mem) b
swap_at a c v u mem differs b = by (nat_eq a b) refl (nat_eq c b) refl where
  by : (t : Bool) → nat_eq a b ≡ t → (w : Bool) → nat_eq c b ≡ w
      → (if w then changed (if t then changed (mem b) v else mem b) u else (if t then changed (mem b) v else mem b))
      ≡ (if t then changed (if w then changed (mem b) u else mem b) v else (if w then changed (mem b) u else mem b))
  by true e true f = absurd (differs (eqb-true a b e ∙ sym (eqb-true c b f)))
  by true e false f = refl
  by false e true f = refl
  by false e false f = refl

pub stores_swap : (a c v u : ℕ) (mem : ℕ → Option ℕ) → (a ≡ c → ⊥) → stored c u (stored a v mem) ≡ stored a v (stored c u mem)
stores_swap a c v u mem differs j b = swap_at a c v u mem differs b j

-- ---- addresses

-- the address of a place does not depend on the data words
address_same : (d : Data) (mem : ℕ → Option ℕ) (place : Place) → address_of place (record d { mem = mem }) ≡ address_of place d
address_same d mem (data_word a) = refl
address_same d mem (above_base n) = refl
address_same d mem (below_base n) = refl
address_same d mem (below_return n) = refl

-- as a function of places
abbrev pub addresses : Data → Place → ℕ
addresses d place = address_of place d

pub addresses_same : (d : Data) (mem : ℕ → Option ℕ) → addresses (record d { mem = mem }) ≡ addresses d
addresses_same d mem j place = address_same d mem place j
