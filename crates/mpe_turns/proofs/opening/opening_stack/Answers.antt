-- The data words stand in front of zeros.
use Rattle.std.proofs.Common.{◌≡◌, ◌+◌, List, ℕ, length, take, drop, replicate, ◌++◌, rules, ap, ◌∙◌, arith}
use Rattle.std.proofs.lemmas.List.{with_items_is}
use Rattle.mpe_turns.proofs.OpenLemmas.{opened_stack}
use Rattle.mpe_turns.proofs.opening.opening_stack.Goals as goal

pub returns-clause-words : goal.returns-clause-words
returns-clause-words c =
    let filled : c.in_ok-room.room.items ≡ replicate c.args.limit 0 = search rules in
    let long : length c.put_first.new.room ≡ c.in_ok-room.room.len = omega (arith, c.put_first.auto.room, c.deref_mut.ensures.len) in
    ap (take (length c.args.globals.now + 4)) (with_items_is c.in_ok-room.room c.put_first.new.room long ∙ c.put_first.ensures
    ∙ ap (λ (xs : List ℕ). c.args.globals.now ++ drop (length c.args.globals.now) xs) (c.deref_mut.ensures.value ∙ filled))
    ∙ opened_stack c.args.globals.now c.args.limit c.requires
