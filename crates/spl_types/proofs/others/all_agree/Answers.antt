use Rattle.std.proofs.Common.{rules, ◌≡◌, ◌<◌, ◌+◌, Bool, true, false, length, sym, ap, ◌∙◌}
use Rattle.std.specs.Prelude.{if◌then◌else◌}
use Rattle.spl_tree.specs.Views.{letters}
use Rattle.spl_sorts.specs.Profiles.{profile_of}
use Rattle.spl_types.proofs.OtherLaws.{left, left_step}
use Rattle.spl_types.proofs.others.all_agree.Goals as goal

-- one that does not agree
pub returns-then-not-agree : goal.returns-then-not-agree
returns-then-not-agree c =
    let units = c.args.units.now in
    let i = c.loop-unit.unit-index in
    let x = letters c.args.name.now in
    let p = profile_of c.args.profile.now in
    let inside : i < length units = search rules in
    let unlike : c.agree.result ≡ false = search rules in
    sym (sym c.loop-unit.invariant ∙ left_step units i c.unit-item.result x p inside (search rules)
    ∙ ap (λ (b : Bool). if b then left units (i + 1) x p else false) (sym c.agree.ensures ∙ unlike))

-- one that agrees
pub loop-unit-preserved : goal.loop-unit-preserved
loop-unit-preserved c =
    let units = c.args.units.now in
    let i = c.loop-unit.unit-index in
    let x = letters c.args.name.now in
    let p = profile_of c.args.profile.now in
    let inside : i < length units = search rules in
    let alike : c.agree.result ≡ true = search rules in
    sym (sym c.loop-unit.invariant ∙ left_step units i c.unit-item.result x p inside (search rules)
    ∙ ap (λ (b : Bool). if b then left units (i + 1) x p else false) (sym c.agree.ensures ∙ alike))
