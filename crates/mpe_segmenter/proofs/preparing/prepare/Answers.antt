-- Each test that fails tells the first fault; where none does, the segments are whole.
use Rattle.std.proofs.Common.{◌≡◌, ◌∙◌, ◌≤◌, Option, Some, None, option_map, List, length, sym, ap, subst, arith}
use Rattle.std.specs.List.{list_all}
use Rattle.std.proofs.lemmas.List.{length-map}
use Rattle.spl_branch.specs.declared.modules.Module.{Module}
use Rattle.mpe_segmenter.specs.Names.{Part, parts}
use Rattle.mpe_segmenter.specs.Entries.{either}
use Rattle.mpe_segmenter.specs.Entered.{is_few}
use Rattle.mpe_segmenter.specs.Faults.{Fault, mains, main_faults, name_faults, size_faults}
use Rattle.mpe_segmenter.specs.PartViews.{part_of}
use Rattle.mpe_segmenter.specs.SegmentViews.{segments_in}
use Rattle.mpe_segmenter.specs.Whole.{IsWhole}
use Rattle.mpe_segmenter.proofs.GatherLemmas.{few_in_parts, parts_few}
use Rattle.mpe_segmenter.proofs.PrepareLemmas.{none_unless, quiet, early_none, one_main, names_none, sizes_none, whole}
use Rattle.mpe_segmenter.proofs.preparing.prepare.Goals as goal

-- the faults that are told of modules and of their segments
abbrev early_told : List Module → Option (Option Fault)
early_told ms = option_map Some (either (main_faults (mains ms)) (name_faults ms))

abbrev size_told : List Part → Option (Option Fault)
size_told ps = option_map Some (size_faults ps)

pub overflow_cast-result : goal.overflow_cast-result
overflow_cast-result c =
    omega (arith, c.len-then-len-gt62.ensures, c.in_ok-parts.parts.ok, length-map c.in_ok-parts.parts.items part_of, ap length c.in_ok-parts.ensures, parts_few c.args.modules.items, c.requires.few)

pub entered-requires : goal.entered-requires
entered-requires c = ap (list_all is_few) c.in_ok-parts.ensures ∙ few_in_parts c.args.modules.items c.requires.few

pub make-requires-clause-whole : goal.make-requires-clause-whole
make-requires-clause-whole c =
    let made : segments_in c.in_ok-segments.segments.items ≡ parts c.args.modules.items = c.in_ok-segments.ensures ∙ c.in_ok-parts.ensures in
    let early : either (main_faults (mains c.args.modules.items)) (name_faults c.args.modules.items) ≡ None =
    quiet c.in_ok-fault.field-0 (either (main_faults (mains c.args.modules.items)) (name_faults c.args.modules.items)) (none_unless c.in_ok-fault.field-0 c.in_default.not-Some) (c.in_ok-fault.ensures ∙ ap early_told c.as_slice.ensures.value) in
    let none = early_none c.args.modules.items early in
    let sizes : size_faults (parts c.args.modules.items) ≡ None = quiet c.size_fault.result (size_faults (parts c.args.modules.items)) (none_unless c.size_fault.result c.in_default-size_fault.not-Some) (c.size_fault.ensures ∙ ap size_told (ap segments_in c.as_slice-2.ensures.value ∙ made)) in
    let both = sizes_none (parts c.args.modules.items) sizes in
    let count : length (parts c.args.modules.items) ≤ 62 = omega (arith, c.if-len-gt62.false, c.len.ensures, c.in_ok-parts.parts.ok, length-map c.in_ok-parts.parts.items part_of, ap length c.in_ok-parts.ensures) in
    let P : List Part → Type 0 = λ ps. IsWhole ps in
    subst P (sym made) (whole c.args.modules.items c.requires.formed (one_main (mains c.args.modules.items) none.0) (names_none c.args.modules.items none.1) count both.0 both.1)
