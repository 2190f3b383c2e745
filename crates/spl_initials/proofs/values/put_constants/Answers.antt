-- One value more, and none left.
use Rattle.std.proofs.Common.{rules, ◌≡◌, ℕ, ◌+◌, map, drop, Option, ap, sym, ◌∙◌, to_z, of_z, arith, w64}
use Rattle.std.proofs.lemmas.Int.{ints}
use Rattle.std.specs.Prelude.{ℤ}
use mir.Val.{SFits}
use Rattle.spl_tree.specs.Views as trees
use Rattle.spl_sorts.specs.spl_meaning.Names.{constant_or_zero}
use Rattle.spl_sorts.specs.spl_meaning.Places.{put_value, put_values}
use Rattle.spl_sorts.specs.Tables.{names_of}
use Rattle.spl_initials.specs.Memory.{memory_of}
use Rattle.spl_initials.proofs.ValueWalks.{constant_step, constant_end}
use Rattle.spl_initials.proofs.values.put_constants.Goals as goal

pub loop-j-preserved : goal.loop-j-preserved
loop-j-preserved c =
    let names = names_of c.args.names.now in
    let k = c.args.kind in
    let a = c.args.address in
    let list = c.args.values.now in
    let j = c.loop-j.j in
    let x = c.index-values-j.result in
    let mem = memory_of c.loop-j.words in
    let rest = map (constant_or_zero names) (map trees.constant (drop (j + 1) list)) in
    let fits : SFits w64 c.constant_or_zero-value.result = search rules in
    let same : to_z w64 (of_z w64 c.constant_or_zero-value.result) ≡ c.constant_or_zero-value.result = omega (arith, ints) in
    let put = c.put_value.ensures ∙ ap (λ (z : ℤ). put_value k a j z mem) (same ∙ c.constant_or_zero-value.ensures) in
    ap (λ (m : ℕ → Option ℕ). put_values k a (j + 1) rest m) put
    ∙ sym (constant_step names k a list j x mem c.loop-j-test.true c.index-values-j.is) ∙ c.loop-j.invariant

pub returns : goal.returns
returns c =
    sym (constant_end (names_of c.args.names.now) c.args.kind c.args.address c.args.values.now c.loop-j.j (memory_of c.loop-j.words) c.loop-j-test.false)
    ∙ c.loop-j.invariant
