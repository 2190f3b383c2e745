-- A short word, and a number of sixteen bits.
use Rattle.std.proofs.Common.{None, Some, ◌∙◌}
use Rattle.hp3000_top.proofs.WordLemmas.{long_word, short_word, small_number, large_number}
use Rattle.hp3000_top.proofs.verbs.job_number.Goals as goal

pub returns-then-word-gt5 : goal.returns-then-word-gt5
returns-then-word-gt5 c = long_word c.args.word.now c.if-word-gt5.true

pub returns-in-Some : goal.returns-in-Some
returns-in-Some c =
    small_number c.in-Some.number c.if-number-le65535.true ∙ short_word c.args.word.now (Some c.in-Some.number) c.if-word-gt5.false c.in-Some.ensures

pub returns-in_default : goal.returns-in_default
returns-in_default c =
    large_number c.in-Some.number c.if-number-le65535.false ∙ short_word c.args.word.now (Some c.in-Some.number) c.if-word-gt5.false c.in-Some.ensures

pub returns-in_default-2 : goal.returns-in_default-2
returns-in_default-2 c = short_word c.args.word.now None c.if-word-gt5.false c.in_default.ensures
