-- A module goes into the segment with the number of its name, or into a new one.
use Rattle.std.proofs.Common.{◌≡◌, ◌∙◌, ◌++◌, ◌∷◌, [], List, sym, ap, arith}
use Rattle.std.proofs.lemmas.List.{map_push, length-map}
use Rattle.spl_branch.specs.declared.modules.Module.{Module}
use Rattle.mpe_segmenter.specs.Names.{segment_of, with_name, number_of, Part}
use Rattle.mpe_segmenter.specs.PartViews.{part_of, parts_in, names_in, names_of}
use Rattle.mpe_segmenter.proofs.PartLemmas.{number_with, names_with, put_at, with_beyond}
use Rattle.mpe_segmenter.proofs.parts.put.Goals as goal

pub returns-in_ok-push-clause-parts : goal.returns-in_ok-push-clause-parts
returns-in_ok-push-clause-parts c =
    put_at c.args.parts.now.items c.in_ok-number.number c.index_mut.result.now _ c.args.one (omega (arith, c.if-number-len.true, c.len.ensures)) c.index_mut.ensures.value
    (c.in_ok-number.ensures.number ∙ ap (λ ns. number_of ns (segment_of c.args.one)) (c.in_ok-number.ensures.names ∙ ap (λ ns. with_name ns (segment_of c.args.one)) c.requires) ∙ number_with (names_in c.args.parts.now.items) (segment_of c.args.one))
    (ap (λ ms. record { name = c.index_mut.result.now.name.text.items; modules = ms }) c.in_ok-push.ensures.items)

pub returns-in_ok-push-clause-names : goal.returns-in_ok-push-clause-names
returns-in_ok-push-clause-names c =
    c.in_ok-number.ensures.names ∙ ap (λ ns. with_name ns (segment_of c.args.one)) c.requires ∙ names_with (parts_in c.args.parts.now.items) c.args.one
    ∙ ap names_of (sym (returns-in_ok-push-clause-parts c))

pub returns-in_ok-push-3-clause-parts : goal.returns-in_ok-push-3-clause-parts
returns-in_ok-push-3-clause-parts c =
    let number : c.in_ok-number.number ≡ number_of (names_in c.args.parts.now.items) (segment_of c.args.one) =
    c.in_ok-number.ensures.number ∙ ap (λ ns. number_of ns (segment_of c.args.one)) (c.in_ok-number.ensures.names ∙ ap (λ ns. with_name ns (segment_of c.args.one)) c.requires) ∙ number_with (names_in c.args.parts.now.items) (segment_of c.args.one) in
    ap parts_in c.in_ok-push-3.ensures.items ∙ map_push part_of c.args.parts.now.items _
    ∙ ap (λ (p : Part). parts_in c.args.parts.now.items ++ p ∷ []) (ap (λ n. record { name = n; modules = c.push-else-number-len.new.self.items }) c.copy-name.ensures ∙ ap (λ ms. record { name = segment_of c.args.one; modules = ms }) (c.in_ok-push-2.ensures.items ∙ ap (λ (ms : List Module). ms ++ c.args.one ∷ []) c.new-modules.ensures.items))
    ∙ sym (with_beyond (parts_in c.args.parts.now.items) c.args.one (omega (arith, number, c.if-number-len.false, c.len.ensures, length-map c.args.parts.now.items part_of)))
