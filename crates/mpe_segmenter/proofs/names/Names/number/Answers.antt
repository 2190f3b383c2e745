-- The set of names is the list of their letters.
use Rattle.std.proofs.Common.{sym, ap, ◌∙◌, List, ℕ}
use Rattle.mpe_segmenter.specs.Names.{number_of}
use Rattle.mpe_segmenter.proofs.NameLemmas.{texts, insert_with, insert_number}
use Rattle.mpe_segmenter.proofs.names.Names.number.Goals as goal

pub returns-clause-names : goal.returns-clause-names
returns-clause-names c =
    ap texts c.in_ok-number.ensures.keys ∙ insert_with c.self.inside.names.keys c.letters_of-text.result ∙ cc (c.self.view_is, c.letters_of-text.ensures)

pub returns-clause-number : goal.returns-clause-number
returns-clause-number c =
    c.in_ok-number.ensures.index ∙ insert_number c.self.inside.names.keys c.letters_of-text.result
    ∙ sym (ap (λ (ms : List (List ℕ)). number_of ms c.args.name.now.text.items)
    (ap texts c.in_ok-number.ensures.keys ∙ insert_with c.self.inside.names.keys c.letters_of-text.result) ∙ cc (c.letters_of-text.ensures))
