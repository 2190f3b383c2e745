-- Words of tables, as a store of code answers them.
use Rattle.std.proofs.Common.{◌≡◌, ℕ, List, [], slice_get, slice_index, refl, ◌∙◌, sym}
use Rattle.std.specs.Prelude.{Option, None, Some, unwrap_or}
use Rattle.std.proofs.lemmas.Option.{unwrap_or-slice_get}
use Rattle.hp_program.specs.declared.store.Fetched.TheVariants.{Word, Absent, Outside}
use Rattle.hp_program.specs.Stores.{fetched, word_or_outside}

-- the word that is answered
pub word_there : (held : Option (List ℕ)) (offset w : ℕ) → fetched held offset ≡ Word w → slice_index (unwrap_or held []) offset ≡ w
unfolding fetched
word_there None offset w h = cc
word_there (Some words) offset w h = sym (unwrap_or-slice_get words offset 0) ∙ by (slice_get words offset) h where
  by : (found : Option ℕ) → word_or_outside found ≡ Word w → unwrap_or found 0 ≡ w
  by None k = cc
  by (Some v) k = cc

-- past the segment's end there is none
pub word_outside : (held : Option (List ℕ)) (offset : ℕ) → fetched held offset ≡ Outside → slice_index (unwrap_or held []) offset ≡ 0
unfolding fetched
word_outside None offset h = cc
word_outside (Some words) offset h = sym (unwrap_or-slice_get words offset 0) ∙ by (slice_get words offset) h where
  by : (found : Option ℕ) → word_or_outside found ≡ Outside → unwrap_or found 0 ≡ 0
  by None k = refl
  by (Some v) k = cc

-- nor in a segment that is absent
pub word_absent : (held : Option (List ℕ)) (offset : ℕ) → fetched held offset ≡ Absent → slice_index (unwrap_or held []) offset ≡ 0
unfolding fetched
word_absent None offset h = refl
word_absent (Some words) offset h = by (slice_get words offset) h where
  by : (found : Option ℕ) → word_or_outside found ≡ Absent → slice_index words offset ≡ 0
  by None k = cc
  by (Some v) k = cc
