-- Unit by unit, and body by body.
use Rattle.spl_module_words.proofs.Segments.{few_words}
use Rattle.spl_module_words.proofs.laws.modules_have_few_words.Goals as goal

pub returns : goal.returns
returns c = few_words
