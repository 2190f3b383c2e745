-- The entry of a main body: the word of its label is the offset at which it starts.
use Rattle.std.proofs.Common.{◌≡◌, ℕ, ◌+◌, ◌-◌, ◌<◌, Bool, List, [], ◌∷◌, ◌++◌, map, length, get_or, Option, Some, None, refl, sym, ap, ◌∙◌, arith, zero-add, add-zero}
use Rattle.std.specs.Prelude.{unwrap_or, if◌then◌else◌, is_some}
use Rattle.std.proofs.lemmas.List.{length-append, length-map, get_or-map, get_or_append_left, get_or-append-add}
use Rattle.spl_sites.specs.hp_instr.declared.labels.Label.{Label}
use Rattle.spl_sites.specs.hp_instr.declared.labels.Label.TheVariants.{Local}
use Rattle.spl_sites.specs.hp_instr.Labels.{label_bits}
use Rattle.spl_sites.specs.hp_program.Valid.{label_of}
use Rattle.spl_sites.specs.spl_branch.declared.modules.Module.{Module}
use Rattle.spl_sites.specs.mpe_segmenter.Names.{Part}
use Rattle.spl_sites.specs.mpe_segmenter.Entries.{Own, own_of, main_of, owns, own_count, owned, Table, table_of}
use Rattle.spl_sites.specs.mpe_segmenter.Segments.{own_label, wanted_label, labels_of}
use Rattle.spl_sites.specs.mpe_segmenter.Counts.{entries_in, sizes}
use Rattle.spl_sites.specs.mpe_segmenter.Programs.{tables_of, label_words, part_words}
use Rattle.spl_sites.specs.mpe_segmenter.Sites.{no_entry}
use Rattle.spl_sites.proofs.mpe_segmenter_proofs.EntryLemmas.{length-owns}
use Rattle.spl_sites.proofs.mpe_segmenter_proofs.FitLemmas.{Fits, fits_at}
use Rattle.spl_sites.proofs.mpe_segmenter_proofs.LayLemmas.{label_count}
use Rattle.spl_sites.proofs.mpe_segmenter_proofs.SegmentLaws.{label_in}
use Rattle.spl_sites.proofs.mpe_segmenter_proofs.SiteLaws.{owned_append}
use Rattle.spl_sites.proofs.mpe_segmenter_proofs.ValidLemmas.{got_map}
use Rattle.spl_sites.proofs.mpe_segmenter_proofs.WholeLemmas.{body_of}
use Rattle.spl_ways.specs.Laws.{MainEntriesStart}

main_length : (o : Option ℕ) (base : ℕ) → length (main_of base o) ≡ (if is_some o then 1 else 0)
main_length None base = refl
main_length (Some k) base = refl

abbrev one_if : Bool → ℕ
one_if b = if b then 1 else 0

-- a main body has one entry
main_counts : (o : Option ℕ) (k : ℕ) → o ≡ Some k → one_if (is_some o) ≡ 1
main_counts o k is = ap (λ (x : Option ℕ). one_if (is_some x)) is

-- the own entry of a module's main body
main_in : (front : List Module) (m : Module) (back : List Module) (base k : ℕ) → m.main ≡ Some k
    → (get_or (owns base (front ++ m ∷ back)) (owned front + length m.defines.items) no_entry).offset ≡ (base + sizes front) + k
main_in [] m back base k is =
    let here : List Own = map (own_of base) m.defines.items in
    let count = length-map m.defines.items (own_of base) in
    let rest : List Own = owns (base + m.size) back in
    let place : 0 + length m.defines.items ≡ length here + 0 = omega (arith, count) in
    let one = main_length m.main base in
    let there = main_counts m.main k is in
    ap (λ (i : ℕ). (get_or ((here ++ main_of base m.main) ++ rest) i no_entry).offset) place
    ∙ ap (λ (o : Own). o.offset) (get_or_append_left (here ++ main_of base m.main) rest no_entry (length here + 0)
    (omega (arith, length-append here (main_of base m.main), one, there)))
    ∙ ap (λ (o : Own). o.offset) (get_or-append-add here (main_of base m.main) 0 no_entry)
    ∙ ap (λ (o : Option ℕ). (get_or (main_of base o) 0 no_entry).offset) is
    ∙ ap (λ (b : ℕ). b + k) (sym (add-zero base))
main_in (x ∷ front) m back base k is =
    let here : List Own = map (own_of base) x.defines.items ++ main_of base x.main in
    let size : length here ≡ own_count x = omega (arith, length-append (map (own_of base) x.defines.items) (main_of base x.main), length-map x.defines.items (own_of base), main_length x.main base) in
    let place : (own_count x + owned front) + length m.defines.items ≡ length here + (owned front + length m.defines.items) = omega (arith, size) in
    let start : (base + x.size) + sizes front ≡ base + (x.size + sizes front) = omega arith in
    ap (λ (i : ℕ). (get_or (owns base (x ∷ (front ++ m ∷ back))) i no_entry).offset) place
    ∙ ap (λ (o : Own). o.offset) (get_or-append-add here (owns (base + x.size) (front ++ m ∷ back)) (owned front + length m.defines.items) no_entry)
    ∙ main_in front m back (base + x.size) k is
    ∙ ap (λ (b : ℕ). b + k) start

-- the word of an own entry's label
pub own_word : (ts : List Table) (p : Part) → Fits p → (i : ℕ) → i < length (owns 0 p.modules)
    → label_of (part_words ts p) (1 + i) ≡ (get_or (owns 0 p.modules) i no_entry).offset
unfolding label_bits
own_word ts p f i lt =
    let o : Own = get_or (owns 0 p.modules) i no_entry in
    let count = label_count ts p in
    let ls : List Label = labels_of ts (table_of p.modules) in
    let many : length ls ≡ entries_in p = sym (length-map ls label_bits) ∙ count in
    let low : i < entries_in p = omega (arith, lt) in
    let place : (1 + i) - 1 ≡ i = omega arith in
    label_in (body_of p) (label_words ts p) (1 + i) (omega arith) (omega (arith, count, low))
    ∙ ap (λ (k : ℕ). get_or (label_words ts p) k 0) place
    ∙ get_or-map label_bits ls i (Local 0) 0 (omega (arith, many, low))
    ∙ ap label_bits (get_or_append_left (map own_label (owns 0 p.modules)) (map (wanted_label ts) (table_of p.modules).wanted) (Local 0) i (omega (arith, length-map (owns 0 p.modules) own_label, lt))
    ∙ get_or-map own_label (owns 0 p.modules) i no_entry (Local 0) lt)
    ∙ omega arith

pub main_starts : MainEntriesStart
main_starts ps w seg front m back is offset main =
    let one = main_counts m.main offset main in
    let within : owned front + length m.defines.items < length (owns 0 is.part.modules) =
    omega (arith, length-owns is.part.modules 0, ap owned is.among, owned_append front m back, one) in
    ap (λ (o : Option (List ℕ)). label_of (unwrap_or o []) (1 + (owned front + length m.defines.items))) (got_map (part_words (tables_of ps)) ps seg is.part is.there)
    ∙ own_word (tables_of ps) is.part (fits_at ps seg is.part w.fitting is.there) (owned front + length m.defines.items) within
    ∙ ap (λ (ms : List Module). (get_or (owns 0 ms) (owned front + length m.defines.items) no_entry).offset) is.among
    ∙ main_in front m back 0 offset main
    ∙ ap (λ (b : ℕ). b + offset) (zero-add (sizes front))
