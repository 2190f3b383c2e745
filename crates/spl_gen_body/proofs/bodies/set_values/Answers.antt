-- The names before the declarations are those of the heading's parameters.
use Rattle.std.proofs.Common.{List, map, false, ap, subst, ◌∙◌}
use Rattle.spl_tree.specs.DeclarationTrees.{declarations}
use Rattle.spl_tree.specs.Spells.{declaration}
use Rattle.spl_sorts.specs.spl_meaning.Names.{Names, Formal, find, parameters}
use Rattle.spl_sorts.specs.declared.profiles.Formal as code
use Rattle.spl_sorts.specs.Profiles.{formal_of}
use Rattle.spl_sorts.specs.Tables.{table_of}
use Rattle.spl_initials.specs.Cells.{found_in, initials_by}
use Rattle.spl_body_code.specs.spl_code.Parts.{pieces}
use Rattle.spl_body_code.specs.spl_code.Appends.{Appends}
use Rattle.spl_operations.proofs.PutLemmas.{ok_then}
use Rattle.spl_body_code.specs.Cells.{initials_set}
use Rattle.spl_gen_body.proofs.bodies.set_values.Goals as goal

pub returns : goal.returns
returns c =
    let of = c.args.of.now in
    let here = c.in_ok-here.ensures ∙ ap (λ (fs : List code.Formal). find (parameters (map formal_of fs))) c.deref.ensures.value
    ∙ ap (λ (fs : List Formal). find (parameters fs)) c.in_ok-formals.ensures in
    ok_then c.set_initials.result
    (λ a. subst (λ (ns : Names). Appends (pieces (initials_set (initials_by false (find (table_of of.outer.now)) (found_in of.places.now) ns (declarations (map declaration of.declarations.now)))))
    c.args.code.now c.set_initials.new.code) here a)
    c.set_initials.ensures.code
