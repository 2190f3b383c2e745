-- The words of whole segments: each module lies where its base is, and its entries lead to what they name.
use Rattle.std.proofs.Common.{◌≡◌, ℕ, zero, suc, ◌+◌, ◌<◌, ◌≤◌, Bool, true, false, nat_lt, List, [], ◌∷◌, ◌++◌, map, length, get_or, slice_index, Option, Some, None, is_some, slice_get, refl, sym, ap, subst, ◌∙◌, arith, zero-add, add-zero}
use Rattle.std.specs.Prelude.{◌&&◌, ◌||◌, not, if◌then◌else◌, unwrap_or}
use Rattle.std.specs.Bool.{beq}
use Rattle.std.specs.Str.{bytes_eq}
use Rattle.std.proofs.lemmas.List.{length-append, length-map, get_or-map, get_or_append_left, get_or-append-add}
use Rattle.std.proofs.lemmas.Bool.{and_parts, ltb-true, lt-ltb, ne_eqb}
use Rattle.hp_program.specs.Programs.{words_of}
use Rattle.hp_program.specs.Valid.{label_of}
use Rattle.hp_instr.specs.declared.labels.Label.{Label}
use Rattle.hp_instr.specs.declared.labels.Label.TheVariants.{Local, External}
use Rattle.hp_instr.specs.Labels.{label, is_label}
use Rattle.spl_branch.specs.declared.modules.Define.{Define}
use Rattle.spl_branch.specs.declared.modules.Want.{Want}
use Rattle.spl_branch.specs.declared.modules.Module.{Module}
use Rattle.spl_branch.specs.Modules.{LiesAt}
use Rattle.mpe_segmenter.specs.Names.{Part}
use Rattle.mpe_segmenter.specs.Entries.{Own, own_of, main_of, owns, called_at, Wanted, wanted_of, is_same, is_wanted, is_met, with_want, wants_from, all_wants, want_at, Table, table_of, entry_of, entry_count, own_count, owned, home_from, gate_of}
use Rattle.mpe_segmenter.specs.Segments.{own_label, wanted_label, home_label, labels_of, table_words, body_from}
use Rattle.mpe_segmenter.specs.Counts.{entries_in, table_size, sizes}
use Rattle.mpe_segmenter.specs.Programs.{tables_of, label_words, part_words, program_words}
use Rattle.mpe_segmenter.specs.Homes.{home_at}
use Rattle.mpe_segmenter.proofs.CountLemmas.{size_is}
use Rattle.mpe_segmenter.specs.Whole.{is_resolved, IsWhole}
use Rattle.mpe_segmenter.specs.Sites.{Site, At, Gate, label_at, local_site, label_site, site_of, no_entry, IsDefinition, IsModule, module_entries, Links}
use Rattle.mpe_segmenter.proofs.PartLemmas.{equal_is}
use Rattle.mpe_segmenter.proofs.NameLemmas.{same_self}
use Rattle.mpe_segmenter.proofs.PlaceLemmas.{want_within}
use Rattle.mpe_segmenter.proofs.EntryLemmas.{length-owns}
use Rattle.mpe_segmenter.proofs.HomeLemmas.{called_within}
use Rattle.mpe_segmenter.proofs.FitLemmas.{fits_at}
use Rattle.mpe_segmenter.proofs.SegmentLaws.{AllSized, get_behind, module_lies}
use Rattle.mpe_segmenter.proofs.WholeLemmas.{all_at, words_length, label_here, own_local}
use Rattle.mpe_segmenter.proofs.ValidLemmas.{got_map, reached, good, labels_good, linked_at}

-- a want that is the same is equal
same_is : (v w : Wanted) → is_same v w ≡ true → v ≡ w
same_is v w h = let both = and_parts (bytes_eq v.name w.name) (beq v.gate w.gate) h in rw (equal_is v.name w.name both.0, gates v.gate w.gate both.1) refl where
  gates : (a b : Bool) → beq a b ≡ true → a ≡ b
  gates true true h = refl
  gates true false h = cc
  gates false true h = cc
  gates false false h = refl

self_same : (w : Wanted) → is_same w w ≡ true
self_same w = rw (same_self w.name) (gates w.gate) where
  gates : (a : Bool) → beq a a ≡ true
  gates true = refl
  gates false = refl

-- one that is wanted stays wanted
wanted_push : (vs : List Wanted) (v w : Wanted) → is_wanted w vs ≡ true → is_wanted w (vs ++ v ∷ []) ≡ true
wanted_push [] v w h = cc
wanted_push (x ∷ vs) v w h = by (is_same w x) h (λ g. wanted_push vs v w g) where
  by : (b : Bool) → (b || is_wanted w vs) ≡ true → (is_wanted w vs ≡ true → is_wanted w (vs ++ v ∷ []) ≡ true) → (b || is_wanted w (vs ++ v ∷ [])) ≡ true
  by true h rest = refl
  by false h rest = rest h

wanted_self : (vs : List Wanted) (w : Wanted) → is_wanted w (vs ++ w ∷ []) ≡ true
wanted_self [] w = rw (self_same w) refl
wanted_self (x ∷ vs) w = by (is_same w x) (wanted_self vs w) where
  by : (b : Bool) → is_wanted w (vs ++ w ∷ []) ≡ true → (b || is_wanted w (vs ++ w ∷ [])) ≡ true
  by true h = refl
  by false h = h

stays_wanted : (vs : List Wanted) (v w : Wanted) (b : Bool) → is_wanted w vs ≡ true → is_wanted w (if b then vs else with_want vs v) ≡ true
stays_wanted vs v w true h = h
stays_wanted vs v w false h = by (is_wanted v vs) where
  by : (c : Bool) → is_wanted w (if c then vs else vs ++ v ∷ []) ≡ true
  by true = h
  by false = wanted_push vs v w h

kept_wanted : (ws : List Wanted) (os : List Own) (vs : List Wanted) (w : Wanted) → is_wanted w vs ≡ true → is_wanted w (wants_from os vs ws) ≡ true
kept_wanted [] os vs w h = h
kept_wanted (v ∷ ws) os vs w h = kept_wanted ws os (if is_met os v then vs else with_want vs v) w (stays_wanted vs v w (is_met os v) h)

-- what no procedure of the segment meets is wanted
pub found_wanted : (ws : List Wanted) (os : List Own) (vs : List Wanted) (i : ℕ) (w : Wanted) → slice_get ws i ≡ Some w → is_met os w ≡ false → is_wanted w (wants_from os vs ws) ≡ true
found_wanted [] os vs i w h n = cc
found_wanted (v ∷ ws) os vs zero w h n =
    let is : v ≡ w = cc in
    kept_wanted ws os (if is_met os v then vs else with_want vs v) w (ap (λ x. is_wanted w (if is_met os x then vs else with_want vs x)) is ∙ rw n (by (is_wanted w vs) refl)) where
      by : (c : Bool) → is_wanted w vs ≡ c → is_wanted w (if c then vs else vs ++ w ∷ []) ≡ true
      by true e = e
      by false e = wanted_self vs w
found_wanted (v ∷ ws) os vs (suc i) w h n = found_wanted ws os (if is_met os v then vs else with_want vs v) i w h n

-- it is at its place
pub at_place : (ws : List Wanted) (w d : Wanted) → is_wanted w ws ≡ true → (want_at w ws < length ws) × (get_or ws (want_at w ws) d ≡ w)
at_place [] w d h = cc
at_place (v ∷ ws) w d h = by (is_same w v) refl h (λ g. at_place ws w d g) where
  by : (b : Bool) → is_same w v ≡ b → (b || is_wanted w ws) ≡ true → (is_wanted w ws ≡ true → (want_at w ws < length ws) × (get_or ws (want_at w ws) d ≡ w))
      → ((if b then 0 else want_at w ws + 1) < suc (length ws)) × (get_or (v ∷ ws) (if b then 0 else want_at w ws + 1) d ≡ w)
  by true e h rest = (omega arith, sym (same_is w v e))
  by false e h rest =
      let r = rest h in
      let more : want_at w ws + 1 ≡ suc (want_at w ws) = omega arith in
      (omega (arith, r.0), ap (λ k. get_or (v ∷ ws) k d) more ∙ r.1)

-- an element of a list, in a longer one, and what a function makes of it
got_left : {A : Type 0} (xs ys : List A) (i : ℕ) (x : A) → slice_get xs i ≡ Some x → slice_get (xs ++ ys) i ≡ Some x
got_left [] ys i x h = cc
got_left (y ∷ xs) ys zero x h = h
got_left (y ∷ xs) ys (suc i) x h = got_left xs ys i x h

pub index_map : {A : Type 0} (f : A → ℕ) (xs : List A) (i : ℕ) (x : A) → slice_get xs i ≡ Some x → slice_index (map f xs) i ≡ f x
index_map f [] i x h = cc
index_map f (y ∷ xs) zero x h = let is : y ≡ x = cc in ap f is
index_map f (y ∷ xs) (suc i) x h = index_map f xs i x h

pub got_within : {A : Type 0} (xs : List A) (i : ℕ) (x : A) → slice_get xs i ≡ Some x → i < length xs
got_within [] i x h = cc
got_within (y ∷ xs) zero x h = omega arith
got_within (y ∷ xs) (suc i) x h = omega (arith, got_within xs i x h)

all_index : {A : Type 0} (f : A → ℕ) (n : ℕ) (xs : List A) (i : ℕ) → 0 < n → ((x : A) → f x < n) → slice_index (map f xs) i < n
all_index f n [] i some h = some
all_index f n (x ∷ xs) zero some h = h x
all_index f n (x ∷ xs) (suc i) some h = all_index f n xs i some h

-- a module's want is one of its segment's
pub want_in : (front : List Module) (m : Module) (back : List Module) (i : ℕ) (w : Want) → slice_get m.wants.items i ≡ Some w → (j : ℕ) × (slice_get (all_wants (front ++ m ∷ back)) j ≡ Some (wanted_of w))
want_in [] m back i w h = (i, got_left (map wanted_of m.wants.items) (all_wants back) i (wanted_of w) (got_map wanted_of m.wants.items i w h))
want_in (x ∷ front) m back i w h =
    let r = want_in front m back i w h in
    (length (map wanted_of x.wants.items) + r.0, get_behind (map wanted_of x.wants.items) (all_wants (front ++ m ∷ back)) r.0 ∙ r.1)

main_length : (o : Option ℕ) (base : ℕ) → length (main_of base o) ≡ (if is_some o then 1 else 0)
main_length None base = refl
main_length (Some k) base = refl

-- the own entry of a module's define
pub own_in : (front : List Module) (m : Module) (back : List Module) (base i : ℕ) (d : Define) → slice_get m.defines.items i ≡ Some d → get_or (owns base (front ++ m ∷ back)) (owned front + i) no_entry ≡ own_of (base + sizes front) d
own_in [] m back base i d h =
    let here : List Own = map (own_of base) m.defines.items in
    let lt : i < length here = omega (arith, length-map m.defines.items (own_of base), got_within m.defines.items i d h) in
    ap (λ k. get_or (owns base (m ∷ back)) k no_entry) (zero-add i)
    ∙ get_or_append_left (here ++ main_of base m.main) (owns (base + m.size) back) no_entry i (omega (arith, length-append here (main_of base m.main), lt))
    ∙ get_or_append_left here (main_of base m.main) no_entry i lt
    ∙ by m.defines.items i h
    ∙ ap (λ b. own_of b d) (sym (add-zero base)) where
      by : (ds : List Define) (i : ℕ) → slice_get ds i ≡ Some d → get_or (map (own_of base) ds) i no_entry ≡ own_of base d
      by [] i h = cc
      by (x ∷ ds) zero h = let is : x ≡ d = cc in ap (own_of base) is
      by (x ∷ ds) (suc i) h = by ds i h
own_in (x ∷ front) m back base i d h =
    let here : List Own = map (own_of base) x.defines.items ++ main_of base x.main in
    let size : length here ≡ own_count x = omega (arith, length-append (map (own_of base) x.defines.items) (main_of base x.main), length-map x.defines.items (own_of base), main_length x.main base) in
    let place : (own_count x + owned front) + i ≡ length here + (owned front + i) = omega (arith, size) in
    let start : (base + x.size) + sizes front ≡ base + (x.size + sizes front) = omega arith in
    ap (λ k. get_or (owns base (x ∷ (front ++ m ∷ back))) k no_entry) place
    ∙ get_or-append-add here (owns (base + x.size) (front ++ m ∷ back)) (owned front + i) no_entry
    ∙ own_in front m back (base + x.size) i d h
    ∙ ap (λ b. own_of b d) start

pub owned_append : (front : List Module) (m : Module) (back : List Module) → owned (front ++ m ∷ back) ≡ owned front + (own_count m + owned back)
owned_append [] m back = omega arith
owned_append (x ∷ front) m back = omega (arith, owned_append front m back)

-- an entry is one of a segment's, or just behind them
entry_few : (ms : List Module) (v : Wanted) → entry_count (table_of ms) ≤ 127 → entry_of (table_of ms) v < 256
entry_few ms v few = by v.gate (called_at v.name (owns 0 ms)) refl where
  by : (b : Bool) (o : Option ℕ) → called_at v.name (owns 0 ms) ≡ o → 1 + unwrap_or (if b then None else o) (length (owns 0 ms) + want_at v (table_of ms).wanted) < 256
  by true o e = omega (arith, few, want_within v (table_of ms).wanted)
  by false None e = omega (arith, few, want_within v (table_of ms).wanted)
  by false (Some k) e = omega (arith, few, called_within (owns 0 ms) v.name k e)

module _ (ps : List Part) (w : IsWhole ps) where
  -- the words of a segment
  words_at : (s : ℕ) (p : Part) → slice_get ps s ≡ Some p → words_of (program_words ps) s ≡ part_words (tables_of ps) p
  words_at s p h = ap (λ o. unwrap_or o []) (got_map (part_words (tables_of ps)) ps s p h)

  -- the label of an own entry
  own_at : (s : ℕ) (p : Part) (i : ℕ) → slice_get ps s ≡ Some p → i < length (owns 0 p.modules) → label_at (program_words ps) s (1 + i) ≡ Local (get_or (owns 0 p.modules) i no_entry).offset
  own_at s p i h lt = ap (λ ws. label (label_of ws (1 + i))) (words_at s p h) ∙ own_local (tables_of ps) p (fits_at ps s p w.fitting h) i lt

  own_site : (s : ℕ) (p : Part) (i : ℕ) → slice_get ps s ≡ Some p → i < length (owns 0 p.modules) → site_of (program_words ps) s (1 + i) ≡ Some (At s (get_or (owns 0 p.modules) i no_entry).offset)
  own_site s p i h lt = ap (label_site (program_words ps) s) (own_at s p i h lt)

  -- the label of a name that is wanted
  pub wanted_at : (s : ℕ) (p : Part) (v : Wanted) → slice_get ps s ≡ Some p → is_wanted v (table_of p.modules).wanted ≡ true
      → label_at (program_words ps) s (1 + (length (owns 0 p.modules) + want_at v (table_of p.modules).wanted)) ≡ wanted_label (tables_of ps) v
  unfolding good
  wanted_at s p v h there =
      let ts : List Table = tables_of ps in
      let at = at_place (table_of p.modules).wanted v v there in
      let i : ℕ = length (owns 0 p.modules) + want_at v (table_of p.modules).wanted in
      let ls : List Label = labels_of ts (table_of p.modules) in
      let lt : i < entries_in p = omega (arith, at.0) in
      let many : length ls ≡ entries_in p = omega (arith, length-append (map own_label (owns 0 p.modules)) (map (wanted_label ts) (table_of p.modules).wanted), length-map (owns 0 p.modules) own_label, length-map (table_of p.modules).wanted (wanted_label ts)) in
      let here : get_or ls i (Local 0) ≡ wanted_label ts v =
      ap (λ k. get_or ls (k + want_at v (table_of p.modules).wanted) (Local 0)) (sym (length-map (owns 0 p.modules) own_label))
      ∙ get_or-append-add (map own_label (owns 0 p.modules)) (map (wanted_label ts) (table_of p.modules).wanted) (want_at v (table_of p.modules).wanted) (Local 0)
      ∙ get_or-map (wanted_label ts) (table_of p.modules).wanted (want_at v (table_of p.modules).wanted) v (Local 0) at.0
      ∙ ap (wanted_label ts) at.1 in
      let formed = (and_parts (is_label (get_or ls i (Local 0))) _ (all_at (good ps w p) ls i (Local 0) (labels_good ps w p s h) (omega (arith, many, lt)))).0 in
      ap (λ ws. label (label_of ws (1 + i))) (words_at s p h) ∙ label_here ts p (fits_at ps s p w.fitting h) i (wanted_label ts v) lt here (ap is_label (sym here) ∙ formed)

  -- a procedure of the segment meets the want, or it is wanted
  want_site : (s : ℕ) (p : Part) (i : ℕ) (v : Wanted) → slice_get ps s ≡ Some p → slice_get (all_wants p.modules) i ≡ Some v → v.gate ≡ false
      → (site : Site) × (site_of (program_words ps) s (entry_of (table_of p.modules) v) ≡ Some site) × IsDefinition ps v.name site
  want_site s p i v h there g = by (called_at v.name (owns 0 p.modules)) refl where
    entry : (o : Option ℕ) → called_at v.name (owns 0 p.modules) ≡ o → entry_of (table_of p.modules) v ≡ 1 + unwrap_or o (length (owns 0 p.modules) + want_at v (table_of p.modules).wanted)
    entry o e = ap (λ b. 1 + unwrap_or (if b then None else called_at v.name (owns 0 p.modules)) (length (owns 0 p.modules) + want_at v (table_of p.modules).wanted)) g
        ∙ ap (λ r. 1 + unwrap_or r (length (owns 0 p.modules) + want_at v (table_of p.modules).wanted)) e

    by : (o : Option ℕ) → called_at v.name (owns 0 p.modules) ≡ o → (site : Site) × (site_of (program_words ps) s (entry_of (table_of p.modules) v) ≡ Some site) × IsDefinition ps v.name site
    by (Some k) e = (
      At s (get_or (owns 0 p.modules) k no_entry).offset,
      ap (site_of (program_words ps) s) (entry (Some k) e) ∙ own_site s p k h (called_within (owns 0 p.modules) v.name k e),
      record { segment = s; part = p; place = k; there = h; called = e; is = refl },
    )
    by None e =
        let unmet : is_met (owns 0 p.modules) v ≡ false = ap (λ b. not b && is_some (called_at v.name (owns 0 p.modules))) g ∙ ap is_some e in
        let wanted : is_wanted v (table_of p.modules).wanted ≡ true = found_wanted (all_wants p.modules) (owns 0 p.modules) [] i v there unmet in
        let at = at_place (table_of p.modules).wanted v v wanted in
        let resolved : is_resolved ps v ≡ true = ap (is_resolved ps) (sym at.1) ∙ all_at (is_resolved ps) (table_of p.modules).wanted (want_at v (table_of p.modules).wanted) v (linked_at ps w p s h).1 at.0 in
        let home : is_some (home_at 0 ps v.name) ≡ true = ap (λ b. if b then nat_lt 0 (gate_of v.name) else is_some (home_at 0 ps v.name)) (sym g) ∙ resolved in
        let r = reached ps v.name home in
        let label : label_at (program_words ps) s (entry_of (table_of p.modules) v) ≡ External r.number (1 + r.place) =
        ap (label_at (program_words ps) s) (entry None e) ∙ wanted_at s p v h wanted ∙ ap (λ b. if b then External 255 (gate_of v.name) else home_label (home_from 0 (tables_of ps) v.name)) g ∙ ap home_label r.home in (
          At r.number (get_or (owns 0 r.part.modules) r.place no_entry).offset,
          ap (label_site (program_words ps) s) label
              ∙ ap (λ b. if b then Some (Gate (1 + r.place)) else local_site r.number (label_at (program_words ps) r.number (1 + r.place))) (ne_eqb r.number 255 (λ x. absurd (omega (arith, x, r.below, w.count))))
              ∙ ap (local_site r.number) (own_at r.number r.part r.place r.there (called_within (owns 0 r.part.modules) v.name r.place r.called)),
          record { segment = r.number; part = r.part; place = r.place; there = r.there; called = r.called; is = refl },
        )

  -- an intrinsic is always wanted
  gate_site : (s : ℕ) (p : Part) (i : ℕ) (v : Wanted) → slice_get ps s ≡ Some p → slice_get (all_wants p.modules) i ≡ Some v → v.gate ≡ true → site_of (program_words ps) s (entry_of (table_of p.modules) v) ≡ Some (Gate (gate_of v.name))
  gate_site s p i v h there g =
      let unmet : is_met (owns 0 p.modules) v ≡ false = ap (λ b. not b && is_some (called_at v.name (owns 0 p.modules))) g in
      let wanted : is_wanted v (table_of p.modules).wanted ≡ true = found_wanted (all_wants p.modules) (owns 0 p.modules) [] i v there unmet in
      let entry : entry_of (table_of p.modules) v ≡ 1 + (length (owns 0 p.modules) + want_at v (table_of p.modules).wanted) = ap (λ b. 1 + unwrap_or (if b then None else called_at v.name (owns 0 p.modules)) (length (owns 0 p.modules) + want_at v (table_of p.modules).wanted)) g in
      ap (label_site (program_words ps) s) (ap (label_at (program_words ps) s) entry ∙ wanted_at s p v h wanted ∙ ap (λ b. if b then External 255 (gate_of v.name) else home_label (home_from 0 (tables_of ps) v.name)) g)

  size_law : (s : ℕ) (p : Part) → slice_get ps s ≡ Some p → length (words_of (program_words ps) s) ≡ table_size p + sizes p.modules
  size_law s p h = ap length (words_at s p h) ∙ omega (arith, words_length (tables_of ps) p (fits_at ps s p w.fitting h))

  -- the sizes of the modules of a segment
  sized_front : (front : List Module) (m : Module) (back : List Module) → sizes (front ++ m ∷ back) ≤ 16383 → AllSized front
  sized_front [] m back le = tt
  sized_front (x ∷ front) m back le = (size_is x.size (length x.words.items) x.sized (omega (arith, le)), sized_front front m back (omega (arith, le)))

  lies_law : (s : ℕ) (front : List Module) (m : Module) (back : List Module) → IsModule ps s front m back → LiesAt (words_of (program_words ps) s) (sizes front) (module_entries front m back) m.words.items m.fixes.items
  lies_law s front m back i =
      let f = fits_at ps s i.part w.fitting i.there in
      let e : Wanted → ℕ = entry_of (table_of (front ++ m ∷ back)) in
      let P : List ℕ → Type 0 = λ ws. LiesAt ws (sizes front) (module_entries front m back) m.words.items m.fixes.items in
      let words : words_of (program_words ps) s ≡ body_from e 0 1 (front ++ m ∷ back) ++ table_words (label_words (tables_of ps) i.part) =
      words_at s i.part i.there ∙ ap (λ ms. body_from (entry_of (table_of ms)) 0 1 ms ++ table_words (label_words (tables_of ps) i.part)) i.among in
      let Q : ℕ → Type 0 = λ b. LiesAt (body_from e 0 1 (front ++ m ∷ back) ++ table_words (label_words (tables_of ps) i.part)) b (module_entries front m back) m.words.items m.fixes.items in
      subst P (sym words) (subst Q (zero-add (sizes front)) (module_lies front m back e 0 1 [] (table_words (label_words (tables_of ps) i.part)) (sized_front front m back (omega (arith, ap sizes (sym i.among), f.words))) refl))

  few_law : (s : ℕ) (front : List Module) (m : Module) (back : List Module) → IsModule ps s front m back → (wanted : Bool) (index : ℕ) → module_entries front m back wanted index < 256
  few_law s front m back i wanted index = by wanted (nat_lt index (length m.defines.items)) refl where
    few : entry_count (table_of (front ++ m ∷ back)) ≤ 127
    few = omega (arith, ap (λ ms. entry_count (table_of ms)) (sym i.among), (fits_at ps s i.part w.fitting i.there).entries)

    by : (a b : Bool) → nat_lt index (length m.defines.items) ≡ b → (if a then slice_index (map (λ v. entry_of (table_of (front ++ m ∷ back)) (wanted_of v)) m.wants.items) index else if b then (1 + owned front) + index else 0) < 256
    by true b e = all_index (λ v. entry_of (table_of (front ++ m ∷ back)) (wanted_of v)) 256 m.wants.items index (omega arith) (λ v. entry_few (front ++ m ∷ back) (wanted_of v) few)
    by false true e = omega (arith, few, length-owns (front ++ m ∷ back) 0, owned_append front m back, ltb-true index (length m.defines.items) e)
    by false false e = omega arith

  define_law : (s : ℕ) (front : List Module) (m : Module) (back : List Module) → IsModule ps s front m back → (index : ℕ) (d : Define) → slice_get m.defines.items index ≡ Some d
      → site_of (program_words ps) s (module_entries front m back false index) ≡ Some (At s (sizes front + d.offset))
  define_law s front m back i index d h =
      let lt : index < length m.defines.items = got_within m.defines.items index d h in
      let entry : module_entries front m back false index ≡ 1 + (owned front + index) = rw (lt-ltb index (length m.defines.items) lt) (omega arith) in
      let own : get_or (owns 0 i.part.modules) (owned front + index) no_entry ≡ own_of (0 + sizes front) d = ap (λ ms. get_or (owns 0 ms) (owned front + index) no_entry) i.among ∙ own_in front m back 0 index d h in
      let within : owned front + index < length (owns 0 i.part.modules) = omega (arith, length-owns i.part.modules 0, ap owned i.among, owned_append front m back, lt) in
      ap (site_of (program_words ps) s) entry ∙ own_site s i.part (owned front + index) i.there within ∙ ap (λ (o : Own). Some (At s o.offset)) own ∙ ap (λ b. Some (At s (b + d.offset))) (zero-add (sizes front))

  want_law : (s : ℕ) (front : List Module) (m : Module) (back : List Module) → IsModule ps s front m back → (index : ℕ) (v : Want) → slice_get m.wants.items index ≡ Some v → v.gate ≡ false
      → (site : Site) × (site_of (program_words ps) s (module_entries front m back true index) ≡ Some site) × IsDefinition ps v.name.text.items site
  want_law s front m back i index v h g =
      let among = want_in front m back index v h in
      let there : slice_get (all_wants i.part.modules) among.0 ≡ Some (wanted_of v) = ap (λ ms. slice_get (all_wants ms) among.0) i.among ∙ among.1 in
      let entry : module_entries front m back true index ≡ entry_of (table_of i.part.modules) (wanted_of v) =
      index_map (λ x. entry_of (table_of (front ++ m ∷ back)) (wanted_of x)) m.wants.items index v h ∙ ap (λ ms. entry_of (table_of ms) (wanted_of v)) (sym i.among) in
      let found = want_site s i.part among.0 (wanted_of v) i.there there g in
      (found.0, ap (site_of (program_words ps) s) entry ∙ found.1, found.2)

  gate_law : (s : ℕ) (front : List Module) (m : Module) (back : List Module) → IsModule ps s front m back → (index : ℕ) (v : Want) → slice_get m.wants.items index ≡ Some v → v.gate ≡ true
      → site_of (program_words ps) s (module_entries front m back true index) ≡ Some (Gate (gate_of v.name.text.items))
  gate_law s front m back i index v h g =
      let among = want_in front m back index v h in
      let there : slice_get (all_wants i.part.modules) among.0 ≡ Some (wanted_of v) = ap (λ ms. slice_get (all_wants ms) among.0) i.among ∙ among.1 in
      let entry : module_entries front m back true index ≡ entry_of (table_of i.part.modules) (wanted_of v) =
      index_map (λ x. entry_of (table_of (front ++ m ∷ back)) (wanted_of x)) m.wants.items index v h ∙ ap (λ ms. entry_of (table_of ms) (wanted_of v)) (sym i.among) in
      ap (site_of (program_words ps) s) entry ∙ gate_site s i.part among.0 (wanted_of v) i.there there g

  -- so whole segments are linked
  pub links : Links ps (program_words ps)
  links = record { size = size_law; lies = lies_law; few = few_law; defines = define_law; wants = want_law; gates = gate_law }
