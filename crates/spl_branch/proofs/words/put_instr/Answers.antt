use Rattle.spl_branch.proofs.FormedLemmas.{pair_has_word}
use Rattle.spl_branch.proofs.words.put_instr.Goals as goal

pub encode-requires : goal.encode-requires
encode-requires c = pair_has_word c.in-Pair.left _ c.args.next (rw c.in-Pair.is at c.requires.formed) c.requires.next
