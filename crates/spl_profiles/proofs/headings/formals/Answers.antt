-- The lists are those of the heading.
use Rattle.std.proofs.Common.{map, ap, ◌∙◌}
use Rattle.std.proofs.lemmas.Result.{IfOk-weaker}
use Rattle.spl_tree.specs.Spells.{placed, spec_tree, heading_tree}
use Rattle.spl_sorts.specs.spl_meaning.Names.{lists, find}
use Rattle.spl_sorts.specs.Profiles.{formal_of}
use Rattle.spl_profiles.specs.NameSets.{has_of}
use Rattle.spl_profiles.specs.Listings.{listed_of, said_in}
use Rattle.spl_profiles.specs.Headings.{formals_by}
use Rattle.spl_profiles.proofs.HeadingLaws.{formals_found}
use Rattle.spl_profiles.proofs.headings.formals.Goals as goal

pub returns : goal.returns
returns c =
    let h = heading_tree c.args.heading.now in
    let known = c.in_ok-listings.ensures ∙ ap (λ ls. said_in (map spec_tree ls)) c.deref.ensures.value in
    let values = c.in_ok-values.ensures ∙ ap (λ xs. lists (map placed xs)) c.deref-2.ensures.value in
    IfOk-weaker c.formals_by.result _ _ (λ ps is. formals_found h (find (listed_of c.in_ok-listings.listings)) (has_of c.in_ok-values.values) (map formal_of ps.items)
    known values (is ∙ ap (λ xs. formals_by (find (listed_of c.in_ok-listings.listings)) (has_of c.in_ok-values.values) (map placed xs)) c.deref-3.ensures.value))
    c.formals_by.ensures
