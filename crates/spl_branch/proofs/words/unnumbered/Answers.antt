use Rattle.std.proofs.Common.{lit<}
use Rattle.spl_branch.proofs.FormedLemmas.{call_has_word}
use Rattle.spl_branch.proofs.words.unnumbered.Goals as goal

pub returns-in-Control-clause-formed : goal.returns-in-Control-clause-formed
returns-in-Control-clause-formed c = call_has_word c.in-Control.which 0 0 (lit< tt) (rw c.in-Control.is at c.requires.call)
