-- The program of whole segments is valid: each label leads somewhere, and no count is passed.
use Rattle.std.proofs.Common.{◌≡◌, ℕ, zero, suc, ◌+◌, ◌-◌, ◌<◌, ◌≤◌, Bool, true, false, nat_lt, nat_le, List, [], ◌∷◌, map, length, get_or, Option, Some, None, is_some, slice_get, refl, sym, ap, ◌∙◌, arith}
use Rattle.std.specs.Prelude.{◌&&◌, if◌then◌else◌, option_map}
use Rattle.std.specs.List.{list_all}
use Rattle.std.specs.Str.{bytes_eq}
use Rattle.std.proofs.lemmas.List.{length-map}
use Rattle.std.proofs.lemmas.Bool.{and_parts, and_from, ltb-true, lt-ltb, le-leb, ne_eqb}
use Rattle.hp_program.specs.Valid.{entries_of, label_of, is_well_sized, is_local_entry, is_external, leads, is_head, bad_segment, bad_label, bad_table, first_defect}
use Rattle.hp_instr.specs.declared.labels.Label.{Label}
use Rattle.hp_instr.specs.declared.labels.Label.TheVariants.{Local, External}
use Rattle.hp_instr.specs.Labels.{label, label_bits, is_label}
use Rattle.spl_branch.specs.declared.modules.Module.{Module}
use Rattle.mpe_segmenter.specs.Names.{Part}
use Rattle.mpe_segmenter.specs.Entries.{Own, owns, called_at, Wanted, Table, table_of, own_count, owned, home_from, gate_from, gates, gate_of, either}
use Rattle.mpe_segmenter.specs.Segments.{own_label, wanted_label, home_label, labels_of}
use Rattle.mpe_segmenter.specs.Counts.{entries_in, sizes, is_well_formed}
use Rattle.mpe_segmenter.specs.Homes.{home_at}
use Rattle.mpe_segmenter.specs.Programs.{tables_of, part_words, program_words, main_at, main_from}
use Rattle.mpe_segmenter.specs.Whole.{is_resolved, is_linked, IsWhole}
use Rattle.mpe_segmenter.proofs.EntryLemmas.{length-owns}
use Rattle.mpe_segmenter.proofs.HomeLemmas.{home_found, called_within}
use Rattle.mpe_segmenter.proofs.FitLemmas.{Fits, fits_at, local_formed, external_formed}
use Rattle.mpe_segmenter.proofs.LayLemmas.{label_count}
use Rattle.mpe_segmenter.proofs.WholeLemmas.{all_append, all_map, all_at, formed, below, owns_below, words_count, label_here, local_in, local_entry, well_sized}

-- an intrinsic's entry is one of eight
gate_most : (gs : List (List ℕ)) (k : ℕ) (name : List ℕ) → 0 < k → gate_from k gs name + 1 ≤ k + length gs
gate_most [] k name h = omega (arith, h)
gate_most (g ∷ gs) k name h = by (bytes_eq name g) (gate_most gs (k + 1) name (omega arith)) where
  by : (b : Bool) → gate_from (k + 1) gs name + 1 ≤ (k + 1) + length gs → (if b then k else gate_from (k + 1) gs name) + 1 ≤ k + suc (length gs)
  by true e = omega arith
  by false e = omega (arith, e)

gate_few : (name : List ℕ) → gate_of name ≤ 8
gate_few name = let h : gate_from 1 gates name + 1 ≤ 9 = gate_most gates 1 name (omega arith) in omega (arith, h)

-- an element at an index, and what a function makes of it
pub got : {A : Type 0} (xs : List A) (i : ℕ) → i < length xs → (x : A) × (slice_get xs i ≡ Some x)
got [] i lt = absurd (omega (arith, lt))
got (x ∷ xs) zero lt = (x, refl)
got (x ∷ xs) (suc i) lt = got xs i (omega (arith, lt))

pub got_map : {A B : Type 0} (f : A → B) (xs : List A) (i : ℕ) (x : A) → slice_get xs i ≡ Some x → slice_get (map f xs) i ≡ Some (f x)
got_map f [] i x h = cc
got_map f (y ∷ xs) zero x h = let is : y ≡ x = cc in ap (λ z. Some (f z)) is
got_map f (y ∷ xs) (suc i) x h = got_map f xs i x h

pub got_passes : {A : Type 0} (P : A → Bool) (xs : List A) (i : ℕ) (x : A) → list_all P xs ≡ true → slice_get xs i ≡ Some x → P x ≡ true
got_passes P [] i x h g = cc
got_passes P (y ∷ xs) zero x h g = let is : y ≡ x = cc in ap P (sym is) ∙ (and_parts (P y) (list_all P xs) h).0
got_passes P (y ∷ xs) (suc i) x h g = got_passes P xs i x (and_parts (P y) (list_all P xs) h).1 g

some_of : {A : Type 0} (o : Option A) → is_some o ≡ true → (a : A) × (o ≡ Some a)
some_of None h = cc
some_of (Some a) h = (a, refl)

-- where a procedure may be called from anywhere
pub record Reached (ps : List Part) (q : List ℕ) : Type 0 where
  pub number : ℕ
  pub place : ℕ
  pub part : Part
  pub there : slice_get ps number ≡ Some part
  pub below : number < length ps
  pub called : called_at q (owns 0 part.modules) ≡ Some place
  pub home : home_from 0 (tables_of ps) q ≡ Some (number, 1 + place)

pub reached : (ps : List Part) (q : List ℕ) → is_some (home_at 0 ps q) ≡ true → Reached ps q
reached ps q h =
    let at = some_of (home_at 0 ps q) h in
    let home = home_found ps 0 at.0 q at.1 in
    let same : at.0 ≡ home.place = omega (arith, home.number) in
    let p = got ps home.place home.within in
    let k = some_of (called_at q (owns 0 p.0.modules)) (home.there p.0 p.1) in record {
      number = at.0;
      place = k.0;
      part = p.0;
      there = ap (slice_get ps) same ∙ p.1;
      below = omega (arith, same, home.within);
      called = k.1;
      home = home.label p.0 p.1 ∙ ap (option_map (λ j. (at.0, 1 + j))) k.1;
    }

module _ (ps : List Part) (w : IsWhole ps) where
  -- a label is one, and leads somewhere
  unfoldable pub good : Part → Label → Bool
  good p l = is_label l && leads (program_words ps) (part_words (tables_of ps) p) l

  own_good : (p : Part) → Fits p → (o : Own) → below (sizes p.modules) o ≡ true → good p (own_label o) ≡ true
  unfolding good leads
  own_good p f o h =
      and_from _ _ (local_formed o.offset (omega (arith, ltb-true o.offset (sizes p.modules) h, f.words))) (local_in (tables_of ps) p f o.offset (ltb-true o.offset (sizes p.modules) h))

  external_good : (p : Part) (s k : ℕ) → s < 256 → k < 128 → is_external (program_words ps) s k ≡ true → good p (External s k) ≡ true
  unfolding good leads
  external_good p s k low few h = and_from _ _ (external_formed s k low few) h

  gate_good : (p : Part) (name : List ℕ) → nat_lt 0 (gate_of name) ≡ true → good p (External 255 (gate_of name)) ≡ true
  unfolding is_external
  gate_good p name h = external_good p 255 (gate_of name) (omega arith) (omega (arith, gate_few name)) (and_from _ _ h (le-leb (gate_of name) 8 (gate_few name)))

  home_good : (p : Part) (name : List ℕ) → is_some (home_at 0 ps name) ≡ true → good p (home_label (home_from 0 (tables_of ps) name)) ≡ true
  unfolding is_external
  home_good p name h =
      let r = reached ps name h in
      let f = fits_at ps r.number r.part w.fitting r.there in
      let within : r.place < length (owns 0 r.part.modules) = called_within (owns 0 r.part.modules) name r.place r.called in
      let entry : is_external (program_words ps) r.number (1 + r.place) ≡ true =
      rw (ne_eqb r.number 255 (λ e. absurd (omega (arith, e, r.below, w.count))), got_map (part_words (tables_of ps)) ps r.number r.part r.there) (local_entry (tables_of ps) r.part f r.place within) in
      ap (λ o. good p (home_label o)) r.home ∙ external_good p r.number (1 + r.place) (omega (arith, r.below, w.count)) (omega (arith, within, f.entries)) entry

  wanted_good : (p : Part) (v : Wanted) → is_resolved ps v ≡ true → good p (wanted_label (tables_of ps) v) ≡ true
  wanted_good p v h = by v.gate h where
    by : (b : Bool) → (if b then nat_lt 0 (gate_of v.name) else is_some (home_at 0 ps v.name)) ≡ true
        → good p (if b then External 255 (gate_of v.name) else home_label (home_from 0 (tables_of ps) v.name)) ≡ true
    by true g = gate_good p v.name g
    by false g = home_good p v.name g

  pub linked_at : (p : Part) (s : ℕ) → slice_get ps s ≡ Some p → (nat_lt 0 (length p.modules) ≡ true) × (list_all (is_resolved ps) (table_of p.modules).wanted ≡ true)
  linked_at p s h = and_parts (nat_lt 0 (length p.modules)) (list_all (is_resolved ps) (table_of p.modules).wanted) (got_passes (is_linked ps) ps s p w.linked h)

  pub labels_good : (p : Part) (s : ℕ) → slice_get ps s ≡ Some p → list_all (good p) (labels_of (tables_of ps) (table_of p.modules)) ≡ true
  labels_good p s h =
      let f = fits_at ps s p w.fitting h in
      all_append (good p) (map own_label (owns 0 p.modules)) (map (wanted_label (tables_of ps)) (table_of p.modules).wanted)
      (all_map (good p) (below (sizes p.modules)) own_label (owns 0 p.modules) (own_good p f) (owns_below p.modules 0 (sizes p.modules) f.formed (omega arith)))
      (all_map (good p) (is_resolved ps) (wanted_label (tables_of ps)) (table_of p.modules).wanted (wanted_good p) (linked_at p s h).1)

  labels_lead : (p : Part) (s : ℕ) → slice_get ps s ≡ Some p → (i : ℕ) → i < entries_in p → leads (program_words ps) (part_words (tables_of ps) p) (label (label_of (part_words (tables_of ps) p) (1 + i))) ≡ true
  unfolding good
  labels_lead p s h i lt =
      let f = fits_at ps s p w.fitting h in
      let ls : List Label = labels_of (tables_of ps) (table_of p.modules) in
      let many : length ls ≡ entries_in p = sym (length-map ls label_bits) ∙ label_count (tables_of ps) p in
      let both = and_parts (is_label (get_or ls i (Local 0))) (leads (program_words ps) (part_words (tables_of ps) p) (get_or ls i (Local 0))) (all_at (good p) ls i (Local 0) (labels_good p s h) (omega (arith, many, lt))) in
      ap (leads (program_words ps) (part_words (tables_of ps) p)) (label_here (tables_of ps) p f i (get_or ls i (Local 0)) lt refl both.0) ∙ both.1

-- where each label leads somewhere, none is bad
no_bad_label : (segments : List (List ℕ)) (s : ℕ) (words : List ℕ) (n left : ℕ) → ((j : ℕ) → j < left → leads segments words (label (label_of words (n + j))) ≡ true) → bad_label segments s words n left ≡ None
unfolding bad_label
no_bad_label segments s words n zero h = refl
no_bad_label segments s words n (suc left) h =
    let here : leads segments words (label (label_of words n)) ≡ true = ap (λ k. leads segments words (label (label_of words k))) (omega arith) ∙ h 0 (omega arith) in
    rw here (no_bad_label segments s words (n + 1) left (λ j lt. ap (λ k. leads segments words (label (label_of words k))) (omega arith) ∙ h (suc j) (omega (arith, lt))))

no_bad_table : (segments : List (List ℕ)) (s : ℕ) (rest : List (List ℕ)) → ((i : ℕ) (words : List ℕ) → slice_get rest i ≡ Some words → (j : ℕ) → j < entries_of words → leads segments words (label (label_of words (1 + j))) ≡ true) → bad_table segments s rest ≡ None
unfolding bad_table
no_bad_table segments s [] h = refl
no_bad_table segments s (words ∷ rest) h = rw (no_bad_label segments s words 1 (entries_of words) (h 0 words refl)) (no_bad_table segments (s + 1) rest (λ i v g. h (suc i) v g))

no_bad_segment : (s : ℕ) (rest : List (List ℕ)) → ((i : ℕ) (words : List ℕ) → slice_get rest i ≡ Some words → is_well_sized words ≡ true) → bad_segment s rest ≡ None
unfolding bad_segment
no_bad_segment s [] h = refl
no_bad_segment s (words ∷ rest) h = rw (h 0 words refl) (no_bad_segment (s + 1) rest (λ i v g. h (suc i) v g))

-- what is at an index of what a function makes of a list
from_map : {A B : Type 0} (f : A → B) (xs : List A) (i : ℕ) (y : B) → slice_get (map f xs) i ≡ Some y → (x : A) × (slice_get xs i ≡ Some x) × (f x ≡ y)
from_map f [] i y h = cc
from_map f (x ∷ xs) zero y h = (x, refl, (cc))
from_map f (x ∷ xs) (suc i) y h = from_map f xs i y h

-- the main body's entry is an own one
main_own : (ms : List Module) (first e : ℕ) → main_at first ms ≡ Some e → (first ≤ e) × (e < first + owned ms)
main_own [] first e h = cc
main_own (m ∷ ms) first e h = by (is_some m.main) h (λ g. main_own ms (first + own_count m) e g) where
  some_is : (a b : ℕ) → Some a ≡ Some b → a ≡ b
  some_is a b g = cc

  by : (b : Bool) → (if b then Some (first + length m.defines.items) else main_at (first + (length m.defines.items + (if b then 1 else 0))) ms) ≡ Some e
      → (main_at (first + (length m.defines.items + (if b then 1 else 0))) ms ≡ Some e → (first + (length m.defines.items + (if b then 1 else 0)) ≤ e) × (e < (first + (length m.defines.items + (if b then 1 else 0))) + owned ms))
      → (first ≤ e) × (e < first + ((length m.defines.items + (if b then 1 else 0)) + owned ms))
  by true g rest = let is = some_is (first + length m.defines.items) e g in (omega (arith, is), omega (arith, is))
  by false g rest = let r = rest g in (omega (arith, r.0), omega (arith, r.1))

pair_is : (a b : ℕ × ℕ) → Some a ≡ Some b → a ≡ b
pair_is a b h = cc

-- the segment of the main body
pub main_found : (ps : List Part) (s n e : ℕ) → main_from s ps ≡ Some (n, e) → (i : ℕ) × (p : Part) × (n ≡ s + i) × (slice_get ps i ≡ Some p) × (main_at 1 p.modules ≡ Some e)
main_found [] s n e h = cc
main_found (p ∷ ps) s n e h = by (main_at 1 p.modules) refl h (λ g. main_found ps (s + 1) n e g) where
  by : (o : Option ℕ) → main_at 1 p.modules ≡ o → either (option_map (λ k. (s, k)) o) (main_from (s + 1) ps) ≡ Some (n, e) → (main_from (s + 1) ps ≡ Some (n, e) → (i : ℕ) × (q : Part) × (n ≡ (s + 1) + i) × (slice_get ps i ≡ Some q) × (main_at 1 q.modules ≡ Some e))
      → (i : ℕ) × (q : Part) × (n ≡ s + i) × (slice_get (p ∷ ps) i ≡ Some q) × (main_at 1 q.modules ≡ Some e)
  by None g k rest = let r = rest k in (suc r.0, r.1, omega (arith, r.2), r.3, r.4)
  by (Some j) g k rest =
      let pair : ◌≡◌ {A = ℕ × ℕ} (s, j) (n, e) = pair_is (s, j) (n, e) k in
      let here : s ≡ n = ap (λ (x : ℕ × ℕ). x.0) pair in
      let entry : j ≡ e = ap (λ (x : ℕ × ℕ). x.1) pair in
      (0, p, omega (arith, here), refl, g ∙ ap Some entry)

some_sizes : (ms : List Module) → nat_lt 0 (length ms) ≡ true → list_all is_well_formed ms ≡ true → 0 < sizes ms
some_sizes [] h g = cc
some_sizes (m ∷ ms) h g = omega (arith, (formed m (and_parts (is_well_formed m) (list_all is_well_formed ms) g).0).size)

got_below : {A : Type 0} (xs : List A) (i : ℕ) (x : A) → slice_get xs i ≡ Some x → i < length xs
got_below [] i x h = cc
got_below (y ∷ xs) zero x h = omega arith
got_below (y ∷ xs) (suc i) x h = omega (arith, got_below xs i x h)

-- the program of whole segments is valid
pub valid : (ps : List Part) (main entry : ℕ) (globals : List ℕ) → IsWhole ps → length globals ≤ 32000 → main_from 0 ps ≡ Some (main, entry) → first_defect (program_words ps) main entry globals ≡ None
unfolding first_defect is_head
valid ps main entry globals w data_words at =
    let ts : List Table = tables_of ps in
    let segments : List (List ℕ) = program_words ps in
    let found = main_found ps 0 main entry at in
    let p : Part = found.1 in
    let place : found.0 ≡ main = omega (arith, found.2) in
    let f = fits_at ps found.0 p w.fitting found.3 in
    let own = main_own p.modules 1 entry found.4 in
    let back : 1 + (entry - 1) ≡ entry = omega (arith, own.0) in
    let many : length segments ≡ length ps = length-map ps (part_words ts) in
    let there : slice_get segments main ≡ Some (part_words ts p) = ap (slice_get segments) (sym place) ∙ got_map (part_words ts) ps found.0 p found.3 in
    let less : main < length segments = got_below segments main (part_words ts p) there in
    let head : (nat_lt 0 (length segments) && nat_le (length segments) 62 && nat_lt main (length segments) && nat_le (length globals) 32000) ≡ true =
    and_from _ _ (and_from _ _ (and_from _ _ (lt-ltb 0 (length segments) (omega (arith, less))) (le-leb (length segments) 62 (omega (arith, many, w.count)))) (lt-ltb main (length segments) less)) (le-leb (length globals) 32000 data_words) in
    let sized : bad_segment 0 segments ≡ None = no_bad_segment 0 segments (λ i words g.
    let from = from_map (part_words ts) ps i words g in
    ap is_well_sized (sym from.2) ∙ well_sized ts from.0 (fits_at ps i from.0 w.fitting from.1) (some_sizes from.0.modules (linked_at ps w from.0 i from.1).0 (fits_at ps i from.0 w.fitting from.1).formed)) in
    let enters : is_local_entry (slice_get segments main) entry ≡ true =
    ap (λ o. is_local_entry o entry) there ∙ ap (is_local_entry (Some (part_words ts p))) (sym back) ∙ local_entry ts p f (entry - 1) (omega (arith, length-owns p.modules 0, own.1, own.0)) in
    let tables : bad_table segments 0 segments ≡ None = no_bad_table segments 0 segments (λ i words g j lt.
    let from = from_map (part_words ts) ps i words g in
    let few : j < entries_in from.0 = omega (arith, ap entries_of from.2, words_count ts from.0 (fits_at ps i from.0 w.fitting from.1), lt) in
    ap (λ v. leads segments v (label (label_of v (1 + j)))) (sym from.2) ∙ labels_lead ps w from.0 i from.1 j few) in
    rw (head, sized, enters) tables
