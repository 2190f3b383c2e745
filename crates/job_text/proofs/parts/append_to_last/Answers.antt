-- The last unit has the line behind what it had.
use Rattle.std.proofs.Common.{◌++◌, ◌∷◌, []}
use Rattle.spl_tree.specs.declared.names_and_places.Chars.{Chars}
use Rattle.job_text.proofs.PartLemmas.{last_changed_if}
use Rattle.job_text.proofs.parts.append_to_last.Goals as goal

pub returns-in-Some : goal.returns-in-Some
returns-in-Some c =
    let h = c.in-Some.ensures.item in
    last_changed_if (λ (u : Chars). u.bytes.items) (λ u. u ++ c.args.line.now ++ 10 ∷ []) c.args.units.now c.in-Some.unit.now c.append_line.new.unit
    c.append_line.result h.3.0 h.1 c.append_line.ensures
