-- The set of names is the list of their letters.
use Rattle.std.proofs.Common.{sym, ap, ◌∙◌, List, ℕ}
use Rattle.spl_cuts.specs.Cutting as cu
use Rattle.spl_lexer.proofs.SegmentLemmas.{texts, insert_with, insert_number}
use Rattle.spl_lexer.proofs.segments.Segments.number.Goals as goal

pub returns-clause-names : goal.returns-clause-names
returns-clause-names c =
    ap texts c.in_ok-number.ensures.keys ∙ insert_with c.self.inside.names.keys c.copy-text.result.text ∙ cc (c.self.view_is, c.copy-text.ensures)

pub returns-clause-number : goal.returns-clause-number
returns-clause-number c =
    c.in_ok-number.ensures.index ∙ insert_number c.self.inside.names.keys c.copy-text.result.text
    ∙ sym (ap (λ (ms : List (List ℕ)). cu.number_of ms c.args.name.now.text.items)
    (ap texts c.in_ok-number.ensures.keys ∙ insert_with c.self.inside.names.keys c.copy-text.result.text) ∙ cc (c.copy-text.ensures))
