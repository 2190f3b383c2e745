-- Words, values and fields at locations: what is read has the words of its kind, and what is stored has to have them.
use Rattle.std.proofs.Common.{◌≡◌, ℕ, ◌+◌, ◌/◌, ◌%◌, Bool, true, false, List, [], ◌∷◌, length, Option, Some, None, refl, arith}
use Rattle.std.specs.Prelude.{if◌then◌else◌, nat_lt, slice_index}
use Rattle.spl_covered.specs.hp_word.Bits.{with_field}
use Rattle.spl_covered.specs.hp_word.Bytes.{byte_at, with_byte}
use Rattle.spl_covered.specs.hp_word.declared.endings.Trap.TheVariants.{Bounds}
use Rattle.spl_covered.specs.spl_tree.declared.expressions.Kind.{Kind}
use Rattle.spl_covered.specs.spl_tree.declared.expressions.Kind.TheVariants as kind
use Rattle.spl_covered.specs.spl_meaning.Kinds.{width}
use Rattle.spl_covered.specs.spl_meaning.Operations.{kept}
use Rattle.spl_covered.specs.spl_meaning.References.{Located, data_word_read, word_at, placed_word, word_read, read_by, read, word_stored, store_by, store, store_field}
use Rattle.spl_covered.specs.spl_meaning.States.{State, trapped, done, ends}
use Rattle.spl_safe_values.proofs.Came.{Came, Comes, Free, One, comes_go, comes_done}

-- ---- words

data_word_came : (o : Option ℕ) (s : State) → s.lost ≡ false → Came Free (data_word_read o s)
data_word_came (Some v) s e = (e, tt)
data_word_came None s e = e

pub word_comes : (far : Bool) (a : ℕ) → Comes Free (word_at far a)
word_comes true a = record { is = λ s e. by s e (nat_lt a (length s.now.extra)) }
  where
    by : (s : State) → s.lost ≡ false → (t : Bool) → Came Free (if t then done (slice_index s.now.extra a) s else ends (trapped Bounds) s)
    by s e true = (e, tt)
    by s e false = e
word_comes false a = record { is = λ s e. by s e (nat_lt a s.now.stack) }
  where
    by : (s : State) → s.lost ≡ false → (t : Bool) → Came Free (if t then data_word_read (s.now.mem a) s else ends (trapped Bounds) s)
    by s e true = data_word_came (s.now.mem a) s e
    by s e false = e

-- a word that is placed leaves the run as it is
pub placed_lost : (far : Bool) (a v : ℕ) (s : State) → s.lost ≡ false → (placed_word far a v s).lost ≡ false
placed_lost true a v s e = e
placed_lost false a v s e = e

placed_comes : (far : Bool) (a v : ℕ) → Comes Free (λ s. done (tt {0}) (placed_word far a v s))
placed_comes far a v = record { is = λ s e. (placed_lost far a v s e, tt) }

-- ---- values

word_read_comes : (far : Bool) (a : ℕ) → Comes One (word_read far a)
word_read_comes far a = comes_go (word_comes far a) (λ w _. comes_done (w ∷ []) refl)

read_by_comes : (k : Kind) (far : Bool) (a : ℕ) → Comes (λ vs. length vs ≡ width k) (read_by k far a)
read_by_comes kind.Double far a =
    comes_go (word_comes far a) (λ high _. comes_go (word_comes far ((a + 1) % 65536)) (λ low _. comes_done (high ∷ low ∷ []) refl))
read_by_comes kind.Byte far a = comes_go (word_comes far (a / 2)) (λ w _. comes_done (byte_at a w ∷ []) refl)
read_by_comes kind.Integer far a = word_read_comes far a
read_by_comes kind.Logical far a = word_read_comes far a

pub read_comes : (p : Located) → Comes (λ vs. length vs ≡ width p.kind) (read p)
read_comes p = read_by_comes p.kind p.far p.address

-- ---- stores

word_stored_comes : (far : Bool) (a : ℕ) (vs : List ℕ) → One vs → Comes Free (word_stored far a vs)
word_stored_comes far a [] one = absurd (omega (arith, one))
word_stored_comes far a (v ∷ []) one = comes_go (word_comes far a) (λ w _. placed_comes far a v)
word_stored_comes far a (v ∷ w ∷ vs) one = absurd (omega (arith, one))

store_by_comes : (k : Kind) (far : Bool) (a : ℕ) (vs : List ℕ) → length vs ≡ width k → Comes Free (store_by k far a vs)
store_by_comes kind.Double far a [] wide = absurd (omega (arith, wide))
store_by_comes kind.Double far a (high ∷ []) wide = absurd (omega (arith, wide))
store_by_comes kind.Double far a (high ∷ low ∷ []) wide =
    comes_go (word_comes far a) (λ v _. comes_go (word_comes far ((a + 1) % 65536)) (λ w _. record {
      is = λ s e. (placed_lost far ((a + 1) % 65536) low (placed_word far a high s) (placed_lost far a high s e), tt);
    }))
store_by_comes kind.Double far a (high ∷ low ∷ v ∷ vs) wide = absurd (omega (arith, wide))
store_by_comes kind.Byte far a [] wide = absurd (omega (arith, wide))
store_by_comes kind.Byte far a (v ∷ []) wide = comes_go (word_comes far (a / 2)) (λ w _. placed_comes far (a / 2) (with_byte a (v % 256) w))
store_by_comes kind.Byte far a (v ∷ w ∷ vs) wide = absurd (omega (arith, wide))
store_by_comes kind.Integer far a vs wide = word_stored_comes far a vs wide
store_by_comes kind.Logical far a vs wide = word_stored_comes far a vs wide

pub store_comes : (p : Located) (vs : List ℕ) → length vs ≡ width p.kind → Comes Free (store p vs)
store_comes p vs wide = store_by_comes p.kind p.far p.address vs wide

-- what is kept of a value has as many words
pub kept_wide : (k : Kind) (vs : List ℕ) → length (kept k vs) ≡ length vs
kept_wide kind.Integer vs = refl
kept_wide kind.Logical vs = refl
kept_wide kind.Double vs = refl
kept_wide kind.Byte [] = refl
kept_wide kind.Byte (w ∷ []) = refl
kept_wide kind.Byte (w ∷ x ∷ vs) = refl

-- a bit field of a word
pub field_stored_comes : (p : Located) (start size : ℕ) (vs : List ℕ) → One vs → Comes Free (store_field p start size vs)
field_stored_comes p start size [] one = absurd (omega (arith, one))
field_stored_comes p start size (v ∷ []) one =
    comes_go (word_comes p.far p.address) (λ w _. placed_comes p.far p.address (with_field w start size v))
field_stored_comes p start size (v ∷ w ∷ vs) one = absurd (omega (arith, one))
