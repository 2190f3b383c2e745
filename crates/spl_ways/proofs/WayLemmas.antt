-- Where entries lead.
-- 1. an entry among those of its table, by its label                     (by_label, leads_somewhere, gate_way)
-- 2. own entries, and names that are wanted                              (own_at, entry_within)
-- 3. so the calls of a module                                            (define_leads, want_leads, calls_lead)
use Rattle.std.proofs.Common.{◌≡◌, ℕ, ◌+◌, ◌<◌, ◌≤◌, ◌==◌, Bool, true, false, nat_lt, List, [], ◌∷◌, ◌++◌, length, get_or, Option, Some, None, is_some, slice_get, refl, sym, ap, ◌∙◌, inl, inr, arith}
use Rattle.std.specs.Prelude.{◌&&◌, ◌||◌, not, if◌then◌else◌, unwrap_or}
use Rattle.std.specs.List.{list_all}
use Rattle.std.proofs.lemmas.Bool.{and_parts, ltb-true, lt-ltb, le-ltb, ne_eqb, eqb-true}
use Rattle.spl_sites.specs.hp_instr.declared.instruction.Instr.{Instr}
use Rattle.spl_sites.specs.hp_instr.declared.instruction.Instr.TheVariants as i
use Rattle.spl_sites.specs.hp_instr.declared.labels.Label.{Label}
use Rattle.spl_sites.specs.hp_instr.declared.labels.Label.TheVariants.{Local, External, Bad}
use Rattle.spl_sites.specs.hp_instr.Labels.{label}
use Rattle.spl_sites.specs.hp_program.Programs.{words_of}
use Rattle.spl_sites.specs.hp_program.Valid.{entries_of, label_of}
use Rattle.spl_sites.specs.spl_branch.declared.pieces.Piece.{Piece}
use Rattle.spl_sites.specs.spl_branch.declared.pieces.Piece.TheVariants.{Do, Literal, Place, Branch, Mark, Call, Begin}
use Rattle.spl_sites.specs.spl_branch.declared.modules.Define.{Define}
use Rattle.spl_sites.specs.spl_branch.declared.modules.Want.{Want}
use Rattle.spl_sites.specs.spl_branch.declared.modules.Module.{Module}
use Rattle.spl_sites.specs.spl_branch.Pieces.{is_indexed}
use Rattle.spl_sites.specs.spl_branch.Modules.{sites}
use Rattle.spl_sites.specs.mpe_segmenter.Names.{Part}
use Rattle.spl_sites.specs.mpe_segmenter.Entries.{Own, own_of, owns, called_at, Wanted, wanted_of, is_met, all_wants, want_at, table_of, entry_of, entry_count, owned, gate_of}
use Rattle.spl_sites.specs.mpe_segmenter.Counts.{entries_in, sizes}
use Rattle.spl_sites.specs.mpe_segmenter.Programs.{tables_of, part_words, program_words}
use Rattle.spl_sites.specs.mpe_segmenter.Whole.{IsWhole}
use Rattle.spl_sites.specs.mpe_segmenter.Sites.{Site, Gate, label_at, local_site, label_site, site_of, no_entry, IsModule, module_entries}
use Rattle.spl_sites.proofs.mpe_segmenter_proofs.EntryLemmas.{length-owns}
use Rattle.spl_sites.proofs.mpe_segmenter_proofs.HomeLemmas.{called_within}
use Rattle.spl_sites.proofs.mpe_segmenter_proofs.FitLemmas.{fits_at}
use Rattle.spl_sites.proofs.mpe_segmenter_proofs.WholeLemmas.{words_count, own_local}
use Rattle.spl_sites.proofs.mpe_segmenter_proofs.ValidLemmas.{got, got_map}
use Rattle.spl_sites.proofs.mpe_segmenter_proofs.SiteLaws as site_laws
use Rattle.spl_sites.proofs.mpe_segmenter_proofs.SiteLaws.{found_wanted, at_place, index_map, got_within, want_in, owned_append, own_in}
use Rattle.spl_sites.specs.hp_leads.Words.{way_of, entry_way, local_way, subroutine_way}
use Rattle.spl_sites.specs.spl_follow.Doing.{Way, gate, body}
use Rattle.spl_sites.specs.spl_stands.Fitting.{CallLeads}
use Rattle.spl_sites.specs.Beginnings.{is_of_kind, is_call_of}
use Rattle.spl_sites.specs.Grounds.{LeadsIfCall, AllCallsLead}
use Rattle.spl_ways.specs.Ways.{word_of, way_of_entry, module_sites}

-- ---- 1. labels

-- an entry that is among those of its table
IsAmong : List (List ℕ) → ℕ → ℕ → Type 0
IsAmong segments seg n = (0 < n) × (n ≤ entries_of (words_of segments seg))

no_other : (segments : List (List ℕ)) (seg n : ℕ) → 0 < n → n ≤ entries_of (words_of segments seg)
    → ((n == 0) || nat_lt (entries_of (words_of segments seg)) n) ≡ false
no_other segments seg n some few =
    ap (λ b. b || nat_lt (entries_of (words_of segments seg)) n) (ne_eqb n 0 (λ e. absurd (omega (arith, e, some))))
    ∙ le-ltb (entries_of (words_of segments seg)) n few

by_label : (segments : List (List ℕ)) (seg n : ℕ) → 0 < n → n ≤ entries_of (words_of segments seg)
    → (entry_way segments seg n ≡ way_of segments seg (label_at segments seg n)) × (subroutine_way segments seg n ≡ local_way seg (label_at segments seg n))
by_label segments seg n some few =
    let in_table = no_other segments seg n some few in (
      ap (λ b. if b then None else way_of segments seg (label_at segments seg n)) in_table,
      ap (λ b. if b then None else local_way seg (label_at segments seg n)) in_table,
    )

-- a label that leads to a site leads somewhere
leads_somewhere : (segments : List (List ℕ)) (seg : ℕ) (l : Label) (x : Site) → label_site segments seg l ≡ Some x
    → (way : Way) × (way_of segments seg l ≡ Some way)
leads_somewhere segments seg (Local offset) x is = (body (word_of seg offset), refl)
leads_somewhere segments seg (External s entry) x is = by (s == 255) where
  by : (c : Bool) → (way : Way) × ((if c then Some (gate entry) else Some (body (word_of s (label_of (words_of segments s) entry)))) ≡ Some way)
  by true = (gate entry, refl)
  by false = (body (word_of s (label_of (words_of segments s) entry)), refl)
leads_somewhere segments seg (Bad w) x is = cc

-- a label that leads to the gate leads to that entry of it
gate_way : (segments : List (List ℕ)) (seg : ℕ) (l : Label) (entry : ℕ) → label_site segments seg l ≡ Some (Gate entry)
    → way_of segments seg l ≡ Some (gate entry)
gate_way segments seg (Local offset) entry is = cc
gate_way segments seg (External s k) entry is = by (s == 255) is where
  none : (l : Label) → local_site s l ≡ Some (Gate entry) → ⊥
  none (Local offset) is = cc
  none (External t k) is = cc
  none (Bad w) is = cc

  by : (c : Bool) → (if c then Some (Gate k) else local_site s (label_at segments s k)) ≡ Some (Gate entry)
      → (if c then Some (gate k) else Some (body (word_of s (label_of (words_of segments s) k)))) ≡ Some (gate entry)
  by true is = let same : k ≡ entry = cc in ap (λ (n : ℕ). Some (gate n)) same
  by false is = absurd (none (label_at segments s k) is)
gate_way segments seg (Bad w) entry is = cc

-- ---- 2. entries

-- the entry of a name that modules want is one of their segment's
entry_within : (ms : List Module) (i : ℕ) (v : Wanted) → slice_get (all_wants ms) i ≡ Some v → entry_of (table_of ms) v ≤ entry_count (table_of ms)
entry_within ms i v there = by v.gate (called_at v.name (owns 0 ms)) refl refl where
  among : is_met (owns 0 ms) v ≡ false → want_at v (table_of ms).wanted < length (table_of ms).wanted
  among unmet = (at_place (table_of ms).wanted v v (found_wanted (all_wants ms) (owns 0 ms) [] i v there unmet)).0

  by : (b : Bool) (o : Option ℕ) → v.gate ≡ b → called_at v.name (owns 0 ms) ≡ o
      → 1 + unwrap_or (if b then None else o) (length (owns 0 ms) + want_at v (table_of ms).wanted) ≤ length (owns 0 ms) + length (table_of ms).wanted
  by false (Some k) g e = omega (arith, called_within (owns 0 ms) v.name k e)
  by false None g e =
      omega (arith, among (ap (λ b. not b && is_some (called_at v.name (owns 0 ms))) g ∙ ap is_some e))
  by true o g e = omega (arith, among (ap (λ b. not b && is_some (called_at v.name (owns 0 ms))) g))

-- ---- 3. calls

module _ (ps : List Part) (w : IsWhole ps) (seg : ℕ) (front : List Module) (m : Module) (back : List Module) (is : IsModule ps seg front m back) where
  count_at : entries_of (words_of (program_words ps) seg) ≡ entries_in is.part
  count_at =
      ap (λ (o : Option (List ℕ)). entries_of (unwrap_or o [])) (got_map (part_words (tables_of ps)) ps seg is.part is.there)
      ∙ words_count (tables_of ps) is.part (fits_at ps seg is.part w.fitting is.there)

  own_at : (i : ℕ) → i < length (owns 0 is.part.modules)
      → label_at (program_words ps) seg (1 + i) ≡ Local (get_or (owns 0 is.part.modules) i no_entry).offset
  own_at i lt =
      ap (λ (o : Option (List ℕ)). label (label_of (unwrap_or o []) (1 + i))) (got_map (part_words (tables_of ps)) ps seg is.part is.there)
      ∙ own_local (tables_of ps) is.part (fits_at ps seg is.part w.fitting is.there) i lt

  pub define_leads : (index : ℕ) (d : Define) → slice_get m.defines.items index ≡ Some d
      → (entry_way (program_words ps) seg (module_entries front m back false index) ≡ Some (body (word_of seg (sizes front + d.offset))))
      × (subroutine_way (program_words ps) seg (module_entries front m back false index) ≡ Some (body (word_of seg (sizes front + d.offset))))
  define_leads index d there =
      let lt : index < length m.defines.items = got_within m.defines.items index d there in
      let entry : module_entries front m back false index ≡ 1 + (owned front + index) = rw (lt-ltb index (length m.defines.items) lt) (omega arith) in
      let own : get_or (owns 0 is.part.modules) (owned front + index) no_entry ≡ own_of (0 + sizes front) d =
      ap (λ ms. get_or (owns 0 ms) (owned front + index) no_entry) is.among ∙ own_in front m back 0 index d there in
      let within : owned front + index < length (owns 0 is.part.modules) =
      omega (arith, length-owns is.part.modules 0, ap owned is.among, owned_append front m back, lt) in
      let local : label_at (program_words ps) seg (1 + (owned front + index)) ≡ Local (sizes front + d.offset) =
      own_at (owned front + index) within ∙ ap (λ (o : Own). Local o.offset) own ∙ ap (λ (b : ℕ). Local (b + d.offset)) (omega arith) in
      let by = by_label (program_words ps) seg (1 + (owned front + index)) (omega arith) (omega (arith, count_at, within)) in (
        ap (λ (n : ℕ). entry_way (program_words ps) seg n) entry ∙ by.0 ∙ ap (λ (l : Label). way_of (program_words ps) seg l) local,
        ap (λ (n : ℕ). subroutine_way (program_words ps) seg n) entry ∙ by.1 ∙ ap (λ (l : Label). local_way seg l) local,
      )

  site_there : (index : ℕ) (v : Want) → slice_get m.wants.items index ≡ Some v
      → (x : Site) × (site_of (program_words ps) seg (module_entries front m back true index) ≡ Some x)
  site_there index v there = by v.gate refl where
    by : (b : Bool) → v.gate ≡ b → (x : Site) × (site_of (program_words ps) seg (module_entries front m back true index) ≡ Some x)
    by false g = let found = (site_laws.links ps w).wants seg front m back is index v there g in (found.0, found.1)
    by true g = (Gate (gate_of v.name.text.items), (site_laws.links ps w).gates seg front m back is index v there g)

  -- the entry of a want is one of its segment's, so it leads where its label does
  pub want_way : (index : ℕ) (v : Want) → slice_get m.wants.items index ≡ Some v
      → entry_way (program_words ps) seg (module_entries front m back true index)
      ≡ way_of (program_words ps) seg (label_at (program_words ps) seg (module_entries front m back true index))
  want_way index v there =
      let among = want_in front m back index v there in
      let wanted : slice_get (all_wants is.part.modules) among.0 ≡ Some (wanted_of v) = ap (λ ms. slice_get (all_wants ms) among.0) is.among ∙ among.1 in
      let entry : module_entries front m back true index ≡ entry_of (table_of is.part.modules) (wanted_of v) =
      index_map (λ x. entry_of (table_of (front ++ m ∷ back)) (wanted_of x)) m.wants.items index v there ∙ ap (λ ms. entry_of (table_of ms) (wanted_of v)) (sym is.among) in
      let within = entry_within is.part.modules among.0 (wanted_of v) wanted in
      let some : 0 < entry_of (table_of is.part.modules) (wanted_of v) = omega arith in
      (by_label (program_words ps) seg (module_entries front m back true index) (omega (arith, entry, some)) (omega (arith, entry, count_at, within))).0

  want_leads : (index : ℕ) (v : Want) → slice_get m.wants.items index ≡ Some v
      → (way : Way) × (entry_way (program_words ps) seg (module_entries front m back true index) ≡ Some way)
  want_leads index v there =
      let site = site_there index v there in
      let way = leads_somewhere (program_words ps) seg (label_at (program_words ps) seg (module_entries front m back true index)) site.0 site.1 in
      (way.0, want_way index v there ∙ way.1)

  -- that of an intrinsic leads to the gate
  pub gate_leads : (index : ℕ) (v : Want) → slice_get m.wants.items index ≡ Some v → v.gate ≡ true
      → entry_way (program_words ps) seg (module_entries front m back true index) ≡ Some (gate (gate_of v.name.text.items))
  gate_leads index v there g =
      want_way index v there
      ∙ gate_way (program_words ps) seg (label_at (program_words ps) seg (module_entries front m back true index)) (gate_of v.name.text.items)
      ((site_laws.links ps w).gates seg front m back is index v there g)

  -- what leads somewhere leads where it is said to
  said : (o p : Option Way) (way : Way) → o ≡ Some way → p ≡ Some way → p ≡ Some (unwrap_or o (gate 0))
  said o p way first second = second ∙ ap (λ (q : Option Way). Some (unwrap_or q (gate 0))) (sym first)

  call_by : (which n index : ℕ) (wanted a b : Bool) → (which == 0) ≡ a → (which == 3) ≡ b → (a || (b && not wanted)) ≡ true
      → nat_lt index (if wanted then length m.wants.items else length m.defines.items) ≡ true
      → CallLeads (program_words ps) seg (i.Control which n) (module_entries front m back wanted index) (way_of_entry (program_words ps) seg (module_entries front m back wanted index))
  call_by which n index true true b zero three kind low =
      let v = got m.wants.items index (ltb-true index (length m.wants.items) low) in
      let to = want_leads index v.0 v.1 in
      inl (eqb-true which 0 zero, said _ _ to.0 to.1 to.1)
  call_by which n index true false true zero three kind low = cc
  call_by which n index true false false zero three kind low = cc
  call_by which n index false true b zero three kind low =
      let d = got m.defines.items index (ltb-true index (length m.defines.items) low) in
      let to = define_leads index d.0 d.1 in
      inl (eqb-true which 0 zero, said _ _ _ to.0 to.0)
  call_by which n index false false true zero three kind low =
      let d = got m.defines.items index (ltb-true index (length m.defines.items) low) in
      let to = define_leads index d.0 d.1 in
      inr (eqb-true which 3 three, said _ _ _ to.0 to.1)
  call_by which n index false false false zero three kind low = cc

  call_leads : (by : Instr) (wanted : Bool) (index : ℕ) → is_call_of by wanted ≡ true
      → nat_lt index (if wanted then length m.wants.items else length m.defines.items) ≡ true
      → CallLeads (program_words ps) seg by (module_entries front m back wanted index) (way_of_entry (program_words ps) seg (module_entries front m back wanted index))
  call_leads (i.Control which n) wanted index kind low = call_by which n index wanted (which == 0) (which == 3) refl refl kind low
  call_leads (i.Pair left right) wanted index kind low = cc
  call_leads (i.Shifted k count) wanted index kind low = cc
  call_leads (i.Short test back d) wanted index kind low = cc
  call_leads (i.Immediate which n) wanted index kind low = cc
  call_leads (i.Memory major second x indirect mode) wanted index kind low = cc
  call_leads (i.LoadCode back d) wanted index kind low = cc
  call_leads (i.Branch indirect back d) wanted index kind low = cc
  call_leads (i.OnCode mask back d) wanted index kind low = cc
  call_leads (i.Loop modify back d) wanted index kind low = cc
  call_leads (i.Illegal w) wanted index kind low = cc

  pub calls_lead : (marks : ℕ → ℕ) (xs : List Piece) → list_all is_of_kind xs ≡ true
      → list_all (is_indexed (length m.wants.items) (length m.defines.items)) xs ≡ true
      → AllCallsLead (program_words ps) seg (sites (sizes front) marks (module_entries front m back))
      (module_sites (program_words ps) seg (sizes front) marks (module_entries front m back)) xs
  calls_lead marks [] kinds indexed = tt
  calls_lead marks (x ∷ xs) kinds indexed =
      let kind = and_parts (is_of_kind x) (list_all is_of_kind xs) kinds in
      let low = and_parts (is_indexed (length m.wants.items) (length m.defines.items) x) (list_all (is_indexed (length m.wants.items) (length m.defines.items)) xs) indexed in
      (one x kind.0 low.0, calls_lead marks xs kind.1 low.1) where
        one : (x : Piece) → is_of_kind x ≡ true → is_indexed (length m.wants.items) (length m.defines.items) x ≡ true
            → LeadsIfCall (program_words ps) seg (sites (sizes front) marks (module_entries front m back))
            (module_sites (program_words ps) seg (sizes front) marks (module_entries front m back)) x
        one (Call by wanted index) kind low = call_leads by wanted index kind low
        one (Do by) kind low = tt
        one (Literal v) kind low = tt
        one (Place l) kind low = tt
        one (Branch by l) kind low = tt
        one (Mark l) kind low = tt
        one (Begin at) kind low = tt
