-- What the survey finds is what the rounds begin with.
use Rattle.std.proofs.Common.{◌≡◌, Result, Ok, Err, IfOk, length, ap, arith}
use Rattle.spl_branch.specs.Stands.{at_left}
use Rattle.spl_branch.specs.Rounds.{Chosen}
use Rattle.spl_branch.specs.Modules.{Placed}
use Rattle.spl_branch.proofs.ChoiceLemmas.{stands_in, placed_short, placed, within_plan, turns_few}
use Rattle.spl_branch.proofs.finish.place_marks.Goals as goal

pub settle-requires-clause-few : goal.settle-requires-clause-few
settle-requires-clause-few c =
    let short = rw c.in-Some.is at c.in_ok-survey.ensures.short in
    let turns = rw c.in-Some.is at c.in_ok-survey.ensures.turns in
    omega (arith, short.0, short.1, turns_few c.args.pieces.now (at_left 0), ap length turns)

pub settle-requires-clause-within : goal.settle-requires-clause-within
settle-requires-clause-within c =
    let short = rw c.in-Some.is at c.in_ok-survey.ensures.short in
    let turns = rw c.in-Some.is at c.in_ok-survey.ensures.turns in
    let stands : c.in-Some.plan.stands.items ≡ stands_in c.args.pieces.now (length c.args.marks.now) = rw c.in-Some.is at c.in_ok-survey.ensures.stands in
    within_plan c.args.pieces.now c.args.marks.now c.in-Some.plan.stands.items c.in-Some.plan.turns.items c.in-Some.plan.size c.requires.in_step stands turns short.0

pub returns-in-None : goal.returns-in-None
returns-in-None c =
    let short = rw c.in-None.is at c.in_ok-survey.ensures.short in
    placed_short c.args.pieces.now c.args.marks.now c.requires.in_step c.requires.set short

each_ok : {T E : Type 0} (P Q : T → Type 0) (r : Result T E) → ((x : T) → P x → Q x) → IfOk r P → IfOk r Q
each_ok P Q (Ok x) f h = f x h
each_ok P Q (Err e) f h = tt

pub returns-in-Some : goal.returns-in-Some
returns-in-Some c =
    let short = rw c.in-Some.is at c.in_ok-survey.ensures.short in
    let turns = rw c.in-Some.is at c.in_ok-survey.ensures.turns in
    let stands : c.in-Some.plan.stands.items ≡ stands_in c.args.pieces.now (length c.args.marks.now) = rw c.in-Some.is at c.in_ok-survey.ensures.stands in
    each_ok (λ o. Chosen c.in-Some.plan.stands.items c.in-Some.plan.turns.items c.in-Some.plan.size o) (λ o. Placed o c.args.pieces.now) c.settle.result
    (placed c.args.pieces.now c.args.marks.now c.in-Some.plan.stands.items c.in-Some.plan.turns.items c.in-Some.plan.size c.requires.in_step c.requires.set stands turns short.0)
    c.settle.ensures
