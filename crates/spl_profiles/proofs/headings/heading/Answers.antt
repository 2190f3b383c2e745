-- Each rule is asked of the heading's lists.
use Rattle.std.proofs.Common.{[], map, ap, ◌∙◌}
use Rattle.spl_tree.specs.Spells.{placed, spec_tree, heading_tree}
use Rattle.spl_sorts.specs.spl_meaning.Names.{lists, find}
use Rattle.spl_sorts.specs.spl_meaning.Faults.{first_fault}
use Rattle.spl_sorts.specs.spl_meaning.StatementRules.{repeated}
use Rattle.spl_sorts.specs.spl_meaning.DeclarationRules.{all_listed}
use Rattle.spl_sorts.specs.Profiles.{formal_of}
use Rattle.spl_profiles.specs.NameSets.{has_of}
use Rattle.spl_profiles.specs.Listings.{listed_of, said_in}
use Rattle.spl_profiles.specs.Headings.{found_failing, found_split, no_array, is_said, formals_by}
use Rattle.spl_profiles.proofs.HeadingLaws.{formals_found, heading_found}
use Rattle.spl_profiles.proofs.headings.heading.Goals as goal

pub returns-clause-formals : goal.returns-clause-formals
returns-clause-formals c =
    let known = c.in_ok-listings.ensures ∙ ap (λ ls. said_in (map spec_tree ls)) c.deref-2.ensures.value in
    let values = c.in_ok-values.ensures ∙ ap (λ xs. lists (map placed xs)) c.deref-3.ensures.value in
    formals_found (heading_tree c.args.heading.now) (find (listed_of c.in_ok-listings.listings)) (has_of c.in_ok-values.values)
    (map formal_of c.in_ok-formals.formals.items) known values
    (c.in_ok-formals.ensures ∙ ap (λ xs. formals_by (find (listed_of c.in_ok-listings.listings)) (has_of c.in_ok-values.values) (map placed xs)) c.deref-9.ensures.value)

pub returns-clause-first : goal.returns-clause-first
returns-clause-first c =
    let parameters = has_of c.in_ok-parameters.parameters in
    let known = find (listed_of c.in_ok-listings.listings) in
    let ps = map formal_of c.in_ok-formals.formals.items in
    heading_found c.args.split (heading_tree c.args.heading.now) parameters (has_of c.in_ok-values.values) known ps
    c.args.report.now c.distinct.new.report c.listed.new.report c.all_listed.new.report c.no_arrays.new.report c.with_kinds.new.report
    c.listed_once.new.report c.split_parameters.new.report
    (c.in_ok-parameters.ensures.set ∙ ap (λ xs. lists (map placed xs)) c.deref.ensures.value)
    (c.in_ok-listings.ensures ∙ ap (λ ls. said_in (map spec_tree ls)) c.deref-2.ensures.value)
    (returns-clause-formals c)
    (c.in_ok-parameters.ensures.first ∙ ap (λ xs. first_fault c.args.report.now (repeated 2 [] (map placed xs))) c.deref.ensures.value)
    (c.listed.ensures ∙ ap (λ xs. found_failing parameters (map placed xs) c.distinct.new.report) c.deref-4.ensures.value)
    (c.all_listed.ensures ∙ ap (λ ls. found_failing parameters (all_listed (map spec_tree ls)) c.listed.new.report) c.deref-5.ensures.value)
    (c.no_arrays.ensures ∙ ap (λ xs. found_failing (no_array known) (map placed xs) c.all_listed.new.report) c.deref-6.ensures.value)
    (c.with_kinds.ensures ∙ ap (λ xs. found_failing (is_said known) (map placed xs) c.no_arrays.new.report) c.deref-7.ensures.value)
    (c.in_ok-listed_once.ensures ∙ ap (λ ls. first_fault c.with_kinds.new.report (repeated 18 [] (all_listed (map spec_tree ls)))) c.deref-8.ensures.value)
    (c.split_parameters.ensures ∙ ap (λ qs. found_split c.args.split (map formal_of qs) c.listed_once.new.report) c.deref-10.ensures.value)
