-- The name of the segment, where the unit has it.
use Rattle.std.proofs.Common.{List, ◌++◌, [], ◌∷◌, ℕ, map, append-nil, sym, ap, ◌∙◌}
use Rattle.std.proofs.lemmas.List.{map_push}
use Rattle.spl_tree.specs.declared.names_and_places.Name.{Name}
use Rattle.spl_tree.specs.Views.{letters}
use Rattle.spl_unit_codes.proofs.Uses.{name_there, name_missing}
use Rattle.spl_unit_codes.proofs.picking.use_segment.Goals as goal

pub returns-in_ok-push-in-Some : goal.returns-in_ok-push-in-Some
returns-in_ok-push-in-Some c =
    let before = map letters c.args.names.now.items in
    ap (λ (xs : List Name). map letters xs) c.in_ok-push-in-Some.ensures.items
    ∙ map_push letters c.args.names.now.items c.copy.result
    ∙ ap (λ (x : List ℕ). before ++ x ∷ []) c.copy.ensures
    ∙ ap (λ (xs : List (List ℕ)). before ++ xs)
    (sym (name_there c.args.unit.now c.args.segment c.from.result c.deref.result.now c.in-Some.name.now c.deref.ensures.value c.from.ensures
    c.in-Some.ensures.lookup.3.0 c.in-Some.ensures.lookup.1))

pub returns-in-None : goal.returns-in-None
returns-in-None c =
    let before = map letters c.args.names.now.items in
    sym (append-nil before)
    ∙ ap (λ (xs : List (List ℕ)). before ++ xs) (sym (name_missing c.args.unit.now c.args.segment c.from.result c.deref.result.now c.deref.ensures.value
    c.from.ensures c.in-None.ensures.lookup.3))
