-- The program of whole segments is valid.
-- 1. the own entries of a segment lead to its words        (owns_below, local_entry)
-- 2. each label leads somewhere                            (own_leads, wanted_leads, labels_lead)
-- 3. so no segment, no label and no main entry is bad      (valid)
use Rattle.std.proofs.Common.{◌≡◌, ℕ, zero, suc, ◌+◌, ◌-◌, ◌<◌, ◌≤◌, Bool, true, false, nat_lt, List, [], ◌∷◌, ◌++◌, map, length, get_or, reverse, Option, Some, None, refl, sym, ap, ◌∙◌, arith}
use Rattle.std.specs.Prelude.{◌&&◌, not}
use Rattle.std.specs.List.{list_all}
use Rattle.std.proofs.lemmas.List.{length-append, length-map, length-reverse, get_or-map, get_or_append_left}
use Rattle.std.proofs.lemmas.Bool.{and_parts, and_from, ltb-true, lt-ltb, le-leb, ne_eqb}
use Rattle.hp_program.specs.Valid.{entries_of, label_of, is_well_sized, is_local, is_local_entry}
use Rattle.hp_instr.specs.declared.labels.Label.{Label}
use Rattle.hp_instr.specs.declared.labels.Label.TheVariants.{Local}
use Rattle.hp_instr.specs.Labels.{label, label_bits, is_label}
use Rattle.hp_instr.proofs.LabelLaws.{label-label_bits}
use Rattle.spl_branch.specs.declared.modules.Define.{Define}
use Rattle.spl_branch.specs.declared.modules.Module.{Module}
use Rattle.mpe_segmenter.specs.Names.{Part}
use Rattle.mpe_segmenter.specs.Entries.{Own, own_of, main_of, owns, Table, table_of, entry_of}
use Rattle.mpe_segmenter.specs.Segments.{own_label, wanted_label, labels_of, table_words, body_from}
use Rattle.mpe_segmenter.specs.Counts.{entries_in, sizes, is_below, is_gate_or_name, is_well_formed}
use Rattle.mpe_segmenter.specs.Programs.{label_words, part_words}
use Rattle.mpe_segmenter.proofs.CountLemmas.{size_is}
use Rattle.mpe_segmenter.proofs.FitLemmas.{Fits, local_formed}
use Rattle.mpe_segmenter.proofs.LayLemmas.{label_count}
use Rattle.mpe_segmenter.proofs.SegmentLaws.{AllSized, length-body, count_in, label_in}

-- tests of lists
pub all_append : {A : Type 0} (P : A → Bool) (xs ys : List A) → list_all P xs ≡ true → list_all P ys ≡ true → list_all P (xs ++ ys) ≡ true
all_append P [] ys h g = g
all_append P (x ∷ xs) ys h g = let both = and_parts (P x) (list_all P xs) h in and_from _ _ both.0 (all_append P xs ys both.1 g)

pub all_map : {A B : Type 0} (P : B → Bool) (Q : A → Bool) (f : A → B) (xs : List A) → ((x : A) → Q x ≡ true → P (f x) ≡ true) → list_all Q xs ≡ true → list_all P (map f xs) ≡ true
all_map P Q f [] h g = refl
all_map P Q f (x ∷ xs) h g = let both = and_parts (Q x) (list_all Q xs) g in and_from _ _ (h x both.0) (all_map P Q f xs h both.1)

pub all_at : {A : Type 0} (P : A → Bool) (xs : List A) (i : ℕ) (d : A) → list_all P xs ≡ true → i < length xs → P (get_or xs i d) ≡ true
all_at P [] i d h lt = absurd (omega (arith, lt))
all_at P (x ∷ xs) zero d h lt = (and_parts (P x) (list_all P xs) h).0
all_at P (x ∷ xs) (suc i) d h lt = all_at P xs i d (and_parts (P x) (list_all P xs) h).1 (omega (arith, lt))

-- the parts of a test of a module
pub record Formed (m : Module) : Type 0 where
  pub size : 0 < m.size
  pub defines : list_all (λ (d : Define). nat_lt d.offset m.size) m.defines.items ≡ true
  pub main : is_below m.size m.main ≡ true
  pub gates : list_all is_gate_or_name m.wants.items ≡ true

pub formed : (m : Module) → is_well_formed m ≡ true → Formed m
formed m h =
    let a = and_parts (nat_lt 0 m.size && list_all (λ (d : Define). nat_lt d.offset m.size) m.defines.items && is_below m.size m.main) (list_all is_gate_or_name m.wants.items) h in
    let b = and_parts (nat_lt 0 m.size && list_all (λ (d : Define). nat_lt d.offset m.size) m.defines.items) (is_below m.size m.main) a.0 in
    let e = and_parts (nat_lt 0 m.size) (list_all (λ (d : Define). nat_lt d.offset m.size) m.defines.items) b.0 in
    record { size = ltb-true 0 m.size e.0; defines = e.1; main = b.1; gates = a.1 }

-- an own entry stands below an offset
abbrev pub below : ℕ → Own → Bool
below n o = nat_lt o.offset n

main_below : (o : Option ℕ) (base size n : ℕ) → is_below size o ≡ true → base + size ≤ n → list_all (below n) (main_of base o) ≡ true
main_below None base size n h le = refl
main_below (Some k) base size n h le = and_from _ _ (lt-ltb (base + k) n (omega (arith, ltb-true k size h, le))) refl

-- the own entries of modules stand at their words
pub owns_below : (ms : List Module) (base n : ℕ) → list_all is_well_formed ms ≡ true → base + sizes ms ≤ n → list_all (below n) (owns base ms) ≡ true
owns_below [] base n h le = refl
owns_below (m ∷ ms) base n h le =
    let both = and_parts (is_well_formed m) (list_all is_well_formed ms) h in
    let here = formed m both.0 in
    all_append (below n) (map (own_of base) m.defines.items ++ main_of base m.main) (owns (base + m.size) ms)
    (all_append (below n) (map (own_of base) m.defines.items) (main_of base m.main)
    (all_map (below n) (λ (d : Define). nat_lt d.offset m.size) (own_of base) m.defines.items (λ d g. lt-ltb (base + d.offset) n (omega (arith, ltb-true d.offset m.size g, le))) here.defines)
    (main_below m.main base m.size n here.main (omega (arith, le))))
    (owns_below ms (base + m.size) n both.1 (omega (arith, le)))

pub all_sized : (ms : List Module) → sizes ms ≤ 16383 → AllSized ms
all_sized [] le = tt
all_sized (m ∷ ms) le = (size_is m.size (length m.words.items) m.sized (omega (arith, le)), all_sized ms (omega (arith, le)))

-- the words of a segment's modules
abbrev pub body_of : Part → List ℕ
body_of p = body_from (entry_of (table_of p.modules)) 0 1 p.modules

pub body_length : (p : Part) → Fits p → length (body_of p) ≡ sizes p.modules
body_length p f = length-body p.modules (entry_of (table_of p.modules)) 0 1 (all_sized p.modules (omega (arith, f.words)))

module _ (ts : List Table) (p : Part) (f : Fits p) where
  pub words_length : length (part_words ts p) ≡ sizes p.modules + entries_in p + 1
  words_length = omega (arith, body_length p f, label_count ts p, length-append (body_of p) (table_words (label_words ts p)), length-append (reverse (label_words ts p)) (length (label_words ts p) ∷ []), length-reverse (label_words ts p))

  pub words_count : entries_of (part_words ts p) ≡ entries_in p
  words_count = count_in (body_of p) (label_words ts p) ∙ label_count ts p

  -- a label of the table
  pub label_here : (i : ℕ) (l : Label) → i < entries_in p → get_or (labels_of ts (table_of p.modules)) i (Local 0) ≡ l → is_label l ≡ true → label (label_of (part_words ts p) (1 + i)) ≡ l
  label_here i l lt is good =
      let count = label_count ts p in
      let many : length (labels_of ts (table_of p.modules)) ≡ entries_in p = sym (length-map (labels_of ts (table_of p.modules)) label_bits) ∙ count in
      let place : (1 + i) - 1 ≡ i = omega arith in
      ap label (label_in (body_of p) (label_words ts p) (1 + i) (omega arith) (omega (arith, count, lt))
      ∙ ap (λ k. get_or (label_words ts p) k 0) place
      ∙ get_or-map label_bits (labels_of ts (table_of p.modules)) i (Local 0) 0 (omega (arith, many, lt))
      ∙ ap label_bits is)
      ∙ label-label_bits l good

  -- a local label leads to a word of the modules
  pub local_in : (offset : ℕ) → offset < sizes p.modules → is_local (part_words ts p) (Local offset) ≡ true
  unfolding is_local
  local_in offset lt = lt-ltb offset (length (part_words ts p) - 1 - entries_of (part_words ts p)) (omega (arith, words_length, words_count, lt))

  -- an own entry has a local label
  pub own_local : (i : ℕ) → i < length (owns 0 p.modules) → label (label_of (part_words ts p) (1 + i)) ≡ Local (get_or (owns 0 p.modules) i (record { name = []; callable = false; offset = 0 })).offset
  own_local i lt =
      let o : Own = get_or (owns 0 p.modules) i (record { name = []; callable = false; offset = 0 }) in
      let offset : o.offset < sizes p.modules = ltb-true o.offset (sizes p.modules) (all_at (below (sizes p.modules)) (owns 0 p.modules) i (record { name = []; callable = false; offset = 0 }) (owns_below p.modules 0 (sizes p.modules) f.formed (omega arith)) lt) in
      label_here i (Local o.offset) (omega (arith, lt))
      (get_or_append_left (map own_label (owns 0 p.modules)) (map (wanted_label ts) (table_of p.modules).wanted) (Local 0) i (omega (arith, length-map (owns 0 p.modules) own_label, lt))
      ∙ get_or-map own_label (owns 0 p.modules) i (record { name = []; callable = false; offset = 0 }) (Local 0) lt)
      (local_formed o.offset (omega (arith, offset, f.words)))

  -- so it is a local entry
  pub local_entry : (i : ℕ) → i < length (owns 0 p.modules) → is_local_entry (Some (part_words ts p)) (1 + i) ≡ true
  unfolding is_local_entry
  local_entry i lt =
      let o : Own = get_or (owns 0 p.modules) i (record { name = []; callable = false; offset = 0 }) in
      let offset : o.offset < sizes p.modules = ltb-true o.offset (sizes p.modules) (all_at (below (sizes p.modules)) (owns 0 p.modules) i (record { name = []; callable = false; offset = 0 }) (owns_below p.modules 0 (sizes p.modules) f.formed (omega arith)) lt) in
      and_from _ _ (and_from _ _ (ap not (ne_eqb (1 + i) 0 (λ e. absurd (omega (arith, e))))) (le-leb (1 + i) (entries_of (part_words ts p)) (omega (arith, words_count, lt))))
      (ap (is_local (part_words ts p)) (own_local i lt) ∙ local_in o.offset offset)

  -- a segment is well sized
  pub well_sized : 0 < sizes p.modules → is_well_sized (part_words ts p) ≡ true
  unfolding is_well_sized
  well_sized some =
      and_from _ _ (and_from _ _ (and_from _ _ (le-leb 2 (length (part_words ts p)) (omega (arith, words_length, some))) (le-leb (length (part_words ts p)) 16383 (omega (arith, words_length, f.words))))
      (le-leb (entries_of (part_words ts p)) 127 (omega (arith, words_count, f.entries))))
      (le-leb (entries_of (part_words ts p)) (length (part_words ts p) - 1) (omega (arith, words_length, words_count)))
