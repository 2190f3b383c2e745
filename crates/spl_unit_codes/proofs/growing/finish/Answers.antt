-- Code by code.
use Rattle.std.proofs.Common.{List, ◌++◌, ◌∷◌, [], sym, ap, append_assoc, ◌∙◌}
use Rattle.spl_unit_codes.specs.declared.growing.Growing.{Growing}
use Rattle.spl_unit_codes.proofs.Ends.{slots_more, complete_here}
use Rattle.spl_unit_codes.proofs.growing.finish.Goals as goal

pub loop-part-preserved : goal.loop-part-preserved
loop-part-preserved c =
    let before = c.loop-part.yielded in
    record {
      slots = slots_more before c.loop-part.slots.items c.push.new.self.items c.in-Some.part c.in_ok-finished.field-0 c.loop-part.invariant.slots
          c.in_ok-finished.ensures c.in_ok-push.ensures.items;
      all =
          append_assoc before (c.in-Some.part ∷ []) c.next.new.self.rest.items
          ∙ ap (λ (xs : List Growing). before ++ xs) (sym c.in-Some.ensures.steps.0) ∙ c.loop-part.invariant.all;
    }

pub finished-requires : goal.finished-requires
finished-requires c =
    complete_here c.args.parts.items c.loop-part.yielded c.loop-part.part-iterator.rest.items c.next.new.self.rest.items c.in-Some.part c.requires
    c.loop-part.invariant.all c.in-Some.ensures.steps.0
