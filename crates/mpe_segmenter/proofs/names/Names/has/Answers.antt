-- The set of names is the list of their letters.
use Rattle.std.proofs.Common.{◌∙◌}
use Rattle.mpe_segmenter.proofs.NameLemmas.{any_has}
use Rattle.mpe_segmenter.proofs.names.Names.has.Goals as goal

pub returns : goal.returns
returns c = c.contains.ensures ∙ any_has c.self.inside.names.keys c.letters_of.result ∙ cc (c.self.view_is, c.letters_of.ensures)
