-- Places as two's complement words, and the word of a result's place.
use Rattle.std.specs.Prelude.{ℕ, ◌+◌, pos, neg_ℤ, List, Option, Some, None}
use Rattle.spl_tree.specs.declared.expressions.Kind.{Kind}
use Rattle.hp_word.specs.Words.{word_of}
use Rattle.spl_sorts.specs.spl_meaning.Names.{Formal, Profile}
use Rattle.spl_sorts.specs.spl_meaning.Kinds.{width}
use Rattle.spl_sorts.specs.spl_meaning.Places.{Place, data_word, above_base, below_base, below_return}
use Rattle.spl_sorts.specs.spl_meaning.Pending.{formals_words}

-- the address of a data word, or how far above a base; below a base as a negative number
abbrev pub place_word : Place → ℕ
place_word (data_word a) = word_of (pos a)
place_word (above_base n) = word_of (pos n)
place_word (below_base n) = word_of (neg_ℤ (pos n))
place_word (below_return n) = word_of (neg_ℤ (pos n))

-- a result of a kind stands below the parameters
abbrev pub kind_at : ℕ → List Formal → Option Kind → Option ℕ
kind_at gap fs None = None
kind_at gap fs (Some k) = Some (word_of (neg_ℤ (pos (gap + formals_words fs + width k))))

abbrev pub result_at : ℕ → Profile → Option ℕ
result_at gap p = kind_at gap p.formals p.result
