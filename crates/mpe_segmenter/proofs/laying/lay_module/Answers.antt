-- The fixes of a module, by its type, stand apart and ask for what fits.
use Rattle.std.proofs.Common.{◌∙◌, ◌++◌, ℕ, List, length, map, sym, ap, subst, arith}
use Rattle.std.specs.List.{list_all}
use Rattle.spl_branch.specs.declared.modules.Fix.{Fix}
use Rattle.mpe_segmenter.specs.Entries.{Wanted, wanted_of}
use Rattle.mpe_segmenter.specs.Entered.{entry_by}
use Rattle.mpe_segmenter.specs.Segments.{is_layable, IsApart, laid_from, entries_by}
use Rattle.mpe_segmenter.proofs.LayLemmas.{layable, apart, laid_same}
use Rattle.mpe_segmenter.proofs.laying.lay_module.Goals as goal

pub lay-requires-clause-layable : goal.lay-requires-clause-layable
lay-requires-clause-layable c =
    ap (list_all (is_layable (length c.args.words.now.items) c.args.first)) c.as_slice-3.ensures.value
    ∙ layable c.args.one.fixes.items (length c.args.one.defines.items) (length c.args.one.wants.items) (length c.args.words.now.items) c.args.first c.args.one.aimed c.requires.first (omega (arith, c.requires.within))

pub lay-requires-clause-apart : goal.lay-requires-clause-apart
lay-requires-clause-apart c =
    let P : List Fix → Type 0 = λ fs. IsApart (length c.args.one.words.items) fs in
    subst P (sym c.as_slice-3.ensures.value) (apart c.args.one.fixes.items (length c.args.one.words.items) c.args.one.in_order)

pub returns : goal.returns
returns c =
    let e : Wanted → ℕ = λ w. entry_by c.args.entries.now.own c.args.entries.now.called c.args.entries.now.wanted w in
    let base : ℕ = length c.args.words.now.items in
    c.in_ok-lay.ensures
    ∙ ap (λ fs. c.args.words.now.items ++ laid_from base (entries_by c.args.first c.as_slice-2.result.now) fs 0 c.args.one.words.items) c.as_slice-3.ensures.value
    ∙ ap (λ gs. c.args.words.now.items ++ laid_from base (entries_by c.args.first gs) c.args.one.fixes.items 0 c.args.one.words.items) (c.as_slice-2.ensures.value ∙ c.in_ok-given.ensures ∙ ap (map (λ w. e (wanted_of w))) c.as_slice.ensures.value)
    ∙ ap (λ (ws : List ℕ). c.args.words.now.items ++ ws) (laid_same c.args.one.words.items c.args.one e base c.args.first 0)
