-- The line has the program's name and what is told.
use Rattle.std.proofs.Common.{◌∙◌}
use Rattle.hp3000_top.proofs.LineLemmas.{told_so}
use Rattle.hp3000_top.proofs.linking.link_line.Goals as goal

pub returns-in-Some : goal.returns-in-Some
returns-in-Some c =
    told_so c.args.name.now.text.items c.new-program.result.text.items c.args.fault c.in-Some.refusal c.refusal_line.result c.in-Some.ensures
    (c.new-program.ensures ∙ c.deref.ensures.0) c.refusal_line.ensures
