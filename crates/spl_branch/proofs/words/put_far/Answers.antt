use Rattle.spl_branch.proofs.FormedLemmas.{through_has_word, past_has_word}
use Rattle.spl_branch.proofs.words.put_far.Goals as goal

pub encode-through-requires : goal.encode-through-requires
encode-through-requires c = through_has_word

pub encode-past-requires : goal.encode-past-requires
encode-past-requires c = past_has_word
