use Rattle.std.proofs.Common.{◌≡◌, ◌++◌, ap, ◌∙◌, arith}
use Rattle.mpe_progfile.specs.Files.{word_bytes}
use Rattle.mpe_progfile.proofs.SpellLemmas.{spell_file}
use Rattle.mpe_progfile.proofs.file.read_parts.Goals as goal

-- the parts in order
pub returns-clause-spelled : goal.returns-clause-spelled
returns-clause-spelled c =
    let one : c.in_ok-head_word.field-0 ≡ 1 = omega (arith, c.in_ok-head_word.ensures.inside.0, c.in_ok-head_word.ensures.inside.1) in
    spell_file _ _ _ _ _ _ _ _ _ c.in_ok-count.count c.in_ok-main.main c.in_ok-entry.entry c.in_ok-data_words.data_words c.in_ok-globals.globals.items
    c.in_ok-segments.segments.items c.in_ok-magic.ensures.spelled
    (c.in_ok-head_word.ensures.spelled ∙ ap (λ w. word_bytes w ++ c.head_word.new.self.left.now) one)
    c.in_ok-count.ensures.spelled c.in_ok-main.ensures.spelled c.in_ok-entry.ensures.spelled c.in_ok-data_words.ensures.spelled
    c.in_ok-globals.ensures.spelled c.in_ok-segments.ensures.spelled c.in_ok-segments.ensures.size c.in_ok-globals.ensures.size
