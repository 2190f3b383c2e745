-- Name by name.
use Rattle.std.proofs.Common.{List, map, sym, ap, ◌∙◌}
use Rattle.spl_tree.specs.declared.names_and_places.Name.{Name}
use Rattle.spl_tree.specs.Views.{letters}
use Rattle.spl_module_code.specs.spl_meaning.Names.{find}
use Rattle.spl_module_code.specs.spl_places.NameMaps.{entries_of, behind_table}
use Rattle.spl_module_code.proofs.spl_places_proofs.NameMapLemmas.{behind_more}
use Rattle.spl_module_code.specs.Modules.{numbered}
use Rattle.spl_unit_codes.proofs.Uses.{numbers_first, numbers_more, numbers_all}
use Rattle.spl_unit_codes.proofs.picking.segment_numbers.Goals as goal

pub loop-number-init : goal.loop-number-init
loop-number-init c = numbers_first (entries_of c.new-numbers.result) (numbered 0 (map letters c.deref-name-items.result.now)) c.new-numbers.ensures

pub loop-number-preserved : goal.loop-number-preserved
loop-number-preserved c =
    numbers_more c.loop-number.numbers c.add.new.self c.deref-name-items.result.now c.loop-number.number c.name-item.result
    (numbered 0 (map letters c.deref-name-items.result.now)) c.loop-number-test.true c.name-item.is
    (λ rest. ap (λ has. behind_table has rest) c.in_ok-add.ensures ∙ sym (behind_more (find (entries_of c.loop-number.numbers)) (letters c.name-item.result) c.loop-number.number rest))
    c.loop-number.invariant

pub returns : goal.returns
returns c =
    let names = c.deref-name-items.result.now in
    numbers_all c.loop-number.numbers names c.loop-number.number (numbered 0 (map letters names)) c.loop-number-test.false c.loop-number.invariant
    ∙ ap (λ (xs : List Name). find (numbered 0 (map letters xs))) c.deref-name-items.ensures.value
