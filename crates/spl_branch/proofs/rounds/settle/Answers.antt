-- The forms are those of some rounds; each round that changes one leaves fewer short ones.
use Rattle.std.proofs.Common.{◌≡◌, ◌∙◌, suc, arith, sym, rules}
use Rattle.std.proofs.lemmas.Grind.{common_steps}
use Rattle.spl_branch.specs.Rounds.{rounds, longer_from, shifts_of, total, targets}
use Rattle.spl_branch.proofs.RoundLemmas.{rounds_more, fewer_near, target_low}
use Rattle.spl_branch.proofs.rounds.settle.Goals as goal

pub loop-far-init : goal.loop-far-init
unfolding rounds
loop-far-init c = (0, grind (arith, common_steps))

pub loop-far-smaller : goal.loop-far-smaller
loop-far-smaller c =
    let (m, e) = c.loop-far.invariant in
    fewer_near c.args.plan.now.stands.items c.args.plan.now.turns.items m c.loop-far.far.items c.in_ok-longer.longer.items c.in_ok-shifts.shifts.items e (search rules) (search rules)

pub loop-far-preserved : goal.loop-far-preserved
loop-far-preserved c =
    let (m, e) = c.loop-far.invariant in
    (suc m, rounds_more c.args.plan.now.stands.items c.args.plan.now.turns.items m c.loop-far.far.items c.in_ok-longer.longer.items c.in_ok-shifts.shifts.items e (search rules) (search rules))

pub offsets-requires : goal.offsets-requires
offsets-requires c =
    let shifts : c.as_slice-then-same_forms.result.now ≡ shifts_of 0 c.args.plan.now.turns.items c.loop-far.far.items = search rules in
    let all : c.number_at.result ≡ total c.args.plan.now.turns.items c.loop-far.far.items = search rules in
    let stands : c.as_slice-stands.result.now ≡ c.args.plan.now.stands.items = c.as_slice-stands.ensures.value in
    rw (shifts, stands) (target_low c.args.plan.now.stands.items c.args.plan.now.turns.items c.loop-far.far.items c.args.plan.now.size c.requires.within (omega arith))

pub returns-then-same_forms : goal.returns-then-same_forms
returns-then-same_forms c =
    let (m, e) = c.loop-far.invariant in
    let shifts : c.in_ok-shifts.shifts.items ≡ shifts_of 0 c.args.plan.now.turns.items c.loop-far.far.items = search rules in
    let longer : c.in_ok-longer.longer.items ≡ longer_from c.args.plan.now.stands.items c.in_ok-shifts.shifts.items 0 c.args.plan.now.turns.items c.loop-far.far.items = search rules in
    let same : c.in_ok-longer.longer.items ≡ c.loop-far.far.items = search rules in
    let all : c.number_at.result ≡ total c.args.plan.now.turns.items c.loop-far.far.items = search rules in
    let made : c.in_ok-offsets.field-0.items ≡ targets c.args.plan.now.stands.items c.args.plan.now.turns.items c.loop-far.far.items = search rules in
    (m, rw (← e) (omega arith), sym (rounds_more c.args.plan.now.stands.items c.args.plan.now.turns.items m c.loop-far.far.items c.in_ok-longer.longer.items c.in_ok-shifts.shifts.items e shifts longer) ∙ same ∙ e, rw (← e) made)
