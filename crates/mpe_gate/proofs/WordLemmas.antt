-- Words put on a stack, one after the other, leave the rest of it.
use Rattle.std.proofs.Common.{◌≡◌, ℕ, List, ap, sym, ◌∙◌}
use Rattle.hp_tos.specs.Seen.{Seen}
use Rattle.mpe_gate.specs.Words.{with_words}

-- a stack with other words has these
pub words_put : (mid new : Seen) (words : List ℕ) → new ≡ with_words words mid → new.words ≡ words
words_put mid new words is = ap (λ (s : Seen). s.words) is

-- a stack that differed in its words alone, with other words, still does
pub kept_on : (old mid new : Seen) (words : List ℕ) → mid ≡ with_words mid.words old → new ≡ with_words words mid
    → new ≡ with_words new.words old
kept_on old mid new words kept is =
    is ∙ ap (with_words words) kept ∙ ap (λ (ws : List ℕ). with_words ws old) (sym (words_put mid new words is))
