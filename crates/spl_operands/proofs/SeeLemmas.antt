-- What comes of reading a word: it is seen, the run strays, or both trap.
use Rattle.std.proofs.Common.{◌≡◌, ℕ, zero, suc, ◌+◌, ◌<◌, ◌≤◌, Bool, true, false, List, [], ◌∷◌, length, refl, sym, ap, subst, arith}
use Rattle.std.specs.Prelude.{Option, Some, None, nat_lt, if◌then◌else◌, slice_index}
use Rattle.std.proofs.lemmas.Bool.{ltb-true, ltb-false, false≢true}
use Rattle.spl_values.specs.hp_word.declared.endings.Trap.TheVariants.{Bounds}
use Rattle.spl_values.specs.hp_session.State.{Machine}
use Rattle.spl_values.specs.hp_yields.Rows.{held}
use Rattle.spl_values.specs.spl_frames.Words.{AreWords}
use Rattle.spl_values.specs.spl_meaning.References.{Setting, data_word_read, word_at}
use Rattle.spl_values.specs.spl_meaning.States.{State, Outcome, done, ends, strays, trapped, then_go}
use Rattle.spl_values.specs.spl_follow.Matching.{Outer, Matched}
use Rattle.spl_operands.specs.Operands.{Seen}

-- a word of words
word_of_words : (ws : List ℕ) (i : ℕ) → AreWords ws → slice_index ws i < 65536
word_of_words [] i h = omega arith
word_of_words (w ∷ ws) zero h = h.0
word_of_words (w ∷ ws) (suc i) h = word_of_words ws i h.1

-- Whatever is wanted of a word that is read, by its three answers.
pub see : {A : Type 0} (P : Outcome A → Type 0) (far : Bool) (a k : ℕ) (st : Setting) (s : State) (m : Machine) (go : ℕ → State → Outcome A)
    → Matched st s.now m k → s.now.top + k ≤ s.now.stack → ((v : ℕ) → Seen far a v s m → P (go v s)) → P (strays s)
    → (length (held far m) ≤ a → P (ends (trapped Bounds) s)) → P (then_go (word_at far a s) go)
see P true a k st s m go x room seen stray past = by (nat_lt a (length s.now.extra)) refl where
  same : m.extra ≡ s.now.extra
  same = ap (λ (u : Outer). u.extra) x.outer

  by : (b : Bool) → nat_lt a (length s.now.extra) ≡ b
      → P (then_go (if b then done (slice_index s.now.extra a) s else ends (trapped Bounds) s) go)
  by true e = seen (slice_index s.now.extra a) (record {
    there = subst (λ (xs : List ℕ). a < length xs) (sym same) (ltb-true a (length s.now.extra) e);
    word = ap (λ (xs : List ℕ). slice_index xs a) same;
    small = word_of_words s.now.extra a x.of_words.extra;
    known = λ e. absurd (false≢true (sym e));
  })
  by false e = past (subst (λ (xs : List ℕ). length xs ≤ a) (sym same) (ltb-false a (length s.now.extra) e))
see P false a k st s m go x room seen stray past = by (nat_lt a s.now.stack) refl (s.now.mem a) refl where
  words : length m.stack ≡ s.now.top + k
  words = x.words

  by : (b : Bool) → nat_lt a s.now.stack ≡ b → (o : Option ℕ) → s.now.mem a ≡ o
      → P (then_go (if b then data_word_read o s else ends (trapped Bounds) s) go)
  by true e (Some v) f = let low = x.low a v f in seen v (record {
    there = omega (arith, words, low);
    word = x.holds a v f;
    small = x.of_words.stack a v f;
    known = λ e. f;
  })
  by true e None f = stray
  by false e o f = let high = ltb-false a s.now.stack e in past (omega (arith, words, room, high))
