-- Words that are put one behind the other among the data words: where they stand, and what stands elsewhere.
use Rattle.std.proofs.Common.{◌≡◌, ◌⊎◌, inl, inr, ℕ, zero, suc, ◌+◌, ◌≤◌, ◌<◌, Bool, true, false, List, [], ◌∷◌, ◌++◌, length, refl, sym, ap, ◌∙◌, arith}
use Rattle.std.specs.Prelude.{Option, Some, None, is_some, replicate, slice_index, nat_eq, if◌then◌else◌}
use Rattle.std.proofs.Math.Logic.{⊎_elim}
use Rattle.std.proofs.lemmas.Bool.{false≢true, eq-eqb}
use Rattle.std.proofs.lemmas.List.{get_or_append_left, get_or-append-add}
use Rattle.std.proofs.lemmas.Option.{none-some}
use Rattle.spl_grants.specs.spl_meaning.Places.{put}
use Rattle.spl_grants.specs.spl_meaning.Runs.{put_words}
use Rattle.hp_call_yields.specs.spl_frames.Words.{AreWords}
use Rattle.hp_call_yields.specs.spl_frames.Entries.{zeros_put}
use Rattle.hp_call_yields.specs.spl_follow.Matching.{Stand}
use Rattle.hp_call_yields.proofs.spl_follow_proofs.RowLemmas.{put_cases}

-- ---- words that are put

-- one of these words, by its number, stands at an address
pub record IsPut (a : ℕ) (ws : List ℕ) (b v : ℕ) : Type 0 where
  pub i : ℕ
  pub few : i < length ws
  pub at : b ≡ a + i
  pub is : slice_index ws i ≡ v

-- a word is one of those put, or was there
pub words_cases : (a : ℕ) (ws : List ℕ) (mem : ℕ → Option ℕ) (b v : ℕ) → put_words a ws mem b ≡ Some v → IsPut a ws b v ⊎ (mem b ≡ Some v)
words_cases a [] mem b v e = inr e
words_cases a (w ∷ ws) mem b v e = ⊎_elim later earlier (words_cases (suc a) ws (put a w mem) b v e) where
  later : IsPut (suc a) ws b v → IsPut a (w ∷ ws) b v ⊎ (mem b ≡ Some v)
  later x =
      let few = x.few in
      let at = x.at in
      inl (record { i = suc x.i; few = omega (arith, few); at = omega (arith, at); is = x.is })

  earlier : put a w mem b ≡ Some v → IsPut a (w ∷ ws) b v ⊎ (mem b ≡ Some v)
  earlier f =
      ⊎_elim (λ y. let at : b ≡ a + 0 = y.0 ∙ omega arith in inl (record { i = 0; few = omega arith; at = at; is = sym y.1 }))
      (λ y. inr y.1) (put_cases mem a w b v f)

-- what is a data word stays one
words_keep : (a : ℕ) (ws : List ℕ) (mem : ℕ → Option ℕ) (b : ℕ) → is_some (mem b) ≡ true → is_some (put_words a ws mem b) ≡ true
words_keep a [] mem b h = h
words_keep a (w ∷ ws) mem b h = words_keep (suc a) ws (put a w mem) b (by (nat_eq a b)) where
  by : (t : Bool) → is_some (if t then Some w else mem b) ≡ true
  by true = refl
  by false = h

-- each of them is there
pub words_there : (a : ℕ) (ws : List ℕ) (mem : ℕ → Option ℕ) (b : ℕ) → a ≤ b → b < a + length ws → is_some (put_words a ws mem b) ≡ true
words_there a [] mem b h l = absurd (omega (arith, h, l))
words_there a (w ∷ ws) mem b h l = by (nat_eq a b) refl (λ m. words_there (suc a) ws (put a w mem) b m (omega (arith, l))) where
  by : (t : Bool) → nat_eq a b ≡ t → (suc a ≤ b → is_some (put_words (suc a) ws (put a w mem) b) ≡ true)
      → is_some (put_words (suc a) ws (put a w mem) b) ≡ true
  by true e later = words_keep (suc a) ws (put a w mem) b (ap (λ (t : Bool). is_some (if t then Some w else mem b)) e)
  by false e later = let no : a ≡ b → ⊥ = λ q. false≢true (sym e ∙ eq-eqb a b q) in later (omega (arith, h, no))

-- what is no data word stays none away from them
pub words_none : (a : ℕ) (ws : List ℕ) (mem : ℕ → Option ℕ) (b : ℕ) → mem b ≡ None → (a ≤ b → b < a + length ws → ⊥) → put_words a ws mem b ≡ None
words_none a ws mem b none away = by (put_words a ws mem b) refl where
  by : (o : Option ℕ) → put_words a ws mem b ≡ o → o ≡ None
  by None e = refl
  by (Some v) e =
      ⊎_elim (λ x. let few = x.few in let at = x.at in absurd (away (omega (arith, at)) (omega (arith, at, few)))) (λ f. absurd (none-some v (sym none ∙ f)))
      (words_cases a ws mem b v e)

-- a word of such is one
pub word_of_words : (ws : List ℕ) (i : ℕ) → AreWords ws → i < length ws → slice_index ws i < 65536
word_of_words [] i small l = absurd (omega (arith, l))
word_of_words (w ∷ ws) zero small l = small.0
word_of_words (w ∷ ws) (suc i) small l = word_of_words ws i small.1 (omega (arith, l))

-- ---- zeros

-- zeros are words that are put
pub zeros_are_words : (n a : ℕ) (mem : ℕ → Option ℕ) → put_words a (replicate n 0) mem ≡ zeros_put n a mem
zeros_are_words zero a mem = refl
zeros_are_words (suc n) a mem = zeros_are_words n (suc a) (put a 0 mem)

-- they are words, and all of them zero
pub zeros_small : (n : ℕ) → AreWords (replicate n 0)
zeros_small zero = tt
zeros_small (suc n) = (omega arith, zeros_small n)

-- ---- words on a stack

-- what stands behind words, by its number
pub behind : (xs ys : List ℕ) (a i : ℕ) → a ≡ length xs + i → slice_index (xs ++ ys) a ≡ slice_index ys i
behind xs ys a i at = ap (λ (b : ℕ). slice_index (xs ++ ys) b) at ∙ get_or-append-add xs ys i 0

-- what stands before others
pub before : (xs ys : List ℕ) (a : ℕ) → a < length xs → slice_index (xs ++ ys) a ≡ slice_index xs a
before xs ys a low = get_or_append_left xs ys 0 a low

-- words stand where each of them does
pub stand_each : (xs ws : List ℕ) (a : ℕ) → ((i : ℕ) → i < length ws → slice_index xs (a + i) ≡ slice_index ws i) → Stand xs a ws
stand_each xs [] a same = tt
stand_each xs (w ∷ ws) a same =
    let here : a ≡ a + 0 = omega arith in (
      ap (λ (b : ℕ). slice_index xs b) here ∙ same 0 (omega arith),
      stand_each xs ws (suc a)
          (λ i l. let there : suc a + i ≡ a + suc i = omega arith in ap (λ (b : ℕ). slice_index xs b) there ∙ same (suc i) (omega (arith, l))),
    )
