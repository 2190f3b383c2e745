-- What a store of code answers, by the segments that it holds.
use Rattle.std.specs.Prelude.{ℕ, List, slice_get, Option, None, Some}
use Rattle.hp_program.specs.declared.store.Fetched.{Fetched}
use Rattle.hp_program.specs.declared.store.Fetched.TheVariants.{Word, Absent, Outside}

-- a word of a segment that is held, if there is one
abbrev pub word_or_outside : Option ℕ → Fetched
word_or_outside None = Outside
word_or_outside (Some w) = Word w

-- the word at an offset of a segment: a segment that is not held is absent, and from its length on there is no word
unfoldable pub fetched : Option (List ℕ) → ℕ → Fetched
fetched None offset = Absent
fetched (Some words) offset = word_or_outside (slice_get words offset)
