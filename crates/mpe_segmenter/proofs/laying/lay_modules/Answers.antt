-- Each turn lays the next module behind the words so far.
use Rattle.std.proofs.Common.{◌∙◌, ◌++◌, ◌+◌, ◌≤◌, ℕ, length, sym, ap, arith}
use Rattle.mpe_segmenter.specs.Entries.{Wanted, owned}
use Rattle.mpe_segmenter.specs.Entered.{entry_by}
use Rattle.mpe_segmenter.specs.Segments.{body_from}
use Rattle.mpe_segmenter.specs.Counts.{sizes}
use Rattle.mpe_segmenter.proofs.LayLemmas.{lay_step}
use Rattle.mpe_segmenter.proofs.laying.lay_modules.Goals as goal

pub loop-one-preserved : goal.loop-one-preserved
loop-one-preserved c =
    let next = c.in-Some.ensures.steps.0 in
    let e : Wanted → ℕ = λ w. entry_by c.args.entries.now.own c.args.entries.now.called c.args.entries.now.wanted w in
    let low : c.in-Some.one.size ≤ 16383 = omega (arith, ap sizes next, c.loop-one.invariant.within) in
    let step = lay_step e c.loop-one.words.items c.lay_module.new.words.items c.loop-one.first (c.loop-one.first + c.own_count-own.result) c.in-Some.one c.next.new.self.rest.items low c.in_ok-lay_module.ensures (ap (λ n. c.loop-one.first + n) c.own_count-own.ensures) in
    record {
      few = omega (arith, ap owned next, c.loop-one.invariant.few, c.own_count-own.ensures);
      within = omega (arith, ap sizes next, c.loop-one.invariant.within, step.0);
      made = step.1 ∙ ap (λ ms. c.loop-one.words.items ++ body_from e (length c.loop-one.words.items) c.loop-one.first ms) (sym next) ∙ c.loop-one.invariant.made;
    }
