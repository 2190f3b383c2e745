-- Where the names lead that modules want.
-- 1. the procedure that may be called by a name is a define of a module     (Home, home_of)
-- 2. its entry leads there, from each segment                               (WantLeads, want_leads)
-- 3. so it leads to the procedure of that name                              (want_finds)
use Rattle.std.proofs.Common.{◌≡◌, ℕ, zero, suc, ◌+◌, Bool, true, false, nat_lt, List, [], ◌∷◌, ◌++◌, map, length, get_or, Option, Some, None, is_some, refl, sym, ap, subst, ◌∙◌, arith}
use Rattle.std.specs.Prelude.{◌&&◌, not, slice_get, option_map, unwrap_or, if◌then◌else◌}
use Rattle.std.proofs.lemmas.Bool.{and_parts, false≢true, ne_eqb}
use Rattle.std.proofs.lemmas.Option.{get_or_from_slice_get}
use Rattle.spl_routines.specs.hp_instr.declared.labels.Label.{Label}
use Rattle.spl_routines.specs.hp_instr.declared.labels.Label.TheVariants.{Local, External}
use Rattle.spl_routines.specs.hp_instr.Labels.{label}
use Rattle.spl_routines.specs.hp_program.declared.program.Program.{Program}
use Rattle.spl_routines.specs.hp_program.Programs.{words_of}
use Rattle.spl_routines.specs.hp_program.Valid.{label_of}
use Rattle.spl_routines.specs.hp_leads.Words.{way_of, entry_way}
use Rattle.spl_routines.specs.hp_steady.Laws.{WordsAreNear}
use Rattle.spl_routines.specs.spl_meaning.Tables.{Source}
use Rattle.spl_routines.specs.spl_branch.declared.modules.Define.{Define}
use Rattle.spl_routines.specs.spl_branch.declared.modules.Want.{Want}
use Rattle.spl_routines.specs.spl_branch.declared.modules.Module.{Module}
use Rattle.spl_routines.specs.spl_code.Parts.{wanted_of as written_of}
use Rattle.spl_routines.specs.spl_code.Parts.{Wanted as Written}
use Rattle.spl_routines.specs.spl_scopes.Scopes.{Placed, first_reached, placed_units}
use Rattle.spl_routines.specs.spl_module_code.Modules.{program_uses}
use Rattle.spl_routines.specs.mpe_segmenter.Names.{Part, parts}
use Rattle.spl_routines.specs.mpe_segmenter.Entries.{Own, own_of, main_of, owns, is_called, called_at, Wanted, wanted_of, is_wanted, is_met, all_wants, want_at, table_of, entry_of, home_from, gate_of}
use Rattle.spl_routines.specs.mpe_segmenter.Segments.{home_label}
use Rattle.spl_routines.specs.mpe_segmenter.Counts.{sizes}
use Rattle.spl_routines.specs.mpe_segmenter.Programs.{tables_of, part_words, program_words}
use Rattle.spl_routines.specs.mpe_segmenter.Homes.{home_at}
use Rattle.spl_routines.specs.mpe_segmenter.Sites.{label_at, no_entry, IsModule, module_entries}
use Rattle.spl_routines.specs.mpe_segmenter.Whole.{is_resolved, IsWhole}
use Rattle.spl_routines.proofs.mpe_segmenter_proofs.FitLemmas.{fits_at}
use Rattle.spl_routines.proofs.mpe_segmenter_proofs.HomeLemmas.{called_within}
use Rattle.spl_routines.proofs.mpe_segmenter_proofs.PartLemmas.{equal_is}
use Rattle.spl_routines.proofs.mpe_segmenter_proofs.SiteLaws.{found_wanted, at_place, index_map, want_in, wanted_at}
use Rattle.spl_routines.proofs.mpe_segmenter_proofs.ValidLemmas.{got_map, linked_at, reached}
use Rattle.spl_routines.proofs.mpe_segmenter_proofs.WholeLemmas.{all_at, own_local}
use Rattle.spl_routines.specs.spl_follow.Doing.{Way, gate, body}
use Rattle.spl_routines.specs.spl_ways.Ways.{word_of}
use Rattle.spl_routines.proofs.spl_ways_proofs.MainLemmas.{own_word}
use Rattle.spl_routines.proofs.spl_ways_proofs.WayLemmas.{want_way}
use Rattle.spl_routines.specs.Among.{IsIn}
use Rattle.spl_routines.specs.Located.{MadeOf, Located, sites_at, wants_at}
use Rattle.spl_routes.specs.Found.{Finds}
use Rattle.spl_routines.proofs.ListLemmas.{in_middle, of_map, one_there, at_parts, AtEither, before, beyond}
use Rattle.spl_routines.proofs.ModuleLemmas.{in_program, modules_of_units}
use Rattle.spl_routines.proofs.StandLemmas.{module_fits}
use Rattle.spl_routes.proofs.FindLemmas.{define_finds}

-- ---- 1. definitions

-- what is called by a name is at this place
abbrev CalledOwn : List ℕ → List Own → ℕ → Type 0
CalledOwn x os k = (o : Own) × (slice_get os k ≡ Some o) × (is_called x o ≡ true)

called_there : (x : List ℕ) (os : List Own) (k : ℕ) → called_at x os ≡ Some k → CalledOwn x os k
called_there x [] k is = cc
called_there x (o ∷ os) k is = by (is_called x o) refl k is (λ j f. called_there x os j f) where
  behind : (o' : Option ℕ) (j : ℕ) → called_at x os ≡ o' → option_map (λ i. 1 + i) o' ≡ Some j
      → ((i : ℕ) → called_at x os ≡ Some i → CalledOwn x os i) → CalledOwn x (o ∷ os) j
  behind None j f g rest = cc
  behind (Some i) j f g rest =
      let r = rest i f in
      let next = one_there (1 + i) j g in
      let place : suc i ≡ j = omega (arith, next) in
      (r.0, ap (λ (k : ℕ). slice_get (o ∷ os) k) (sym place) ∙ r.1, r.2)

  by : (b : Bool) → is_called x o ≡ b → (j : ℕ) → (if b then Some 0 else option_map (λ i. 1 + i) (called_at x os)) ≡ Some j
      → ((i : ℕ) → called_at x os ≡ Some i → CalledOwn x os i) → CalledOwn x (o ∷ os) j
  by true here j f rest = (o, ap (λ (k : ℕ). slice_get (o ∷ os) k) (sym (one_there 0 j f)), here)
  by false here j f rest = behind (called_at x os) j refl f rest

-- an entry that may be called is the define of a module among some, whose words begin at `base`
pub record Home (base : ℕ) (ms : List Module) (o : Own) : Type 0 where
  pub front : List Module
  pub here : Module
  pub back : List Module
  pub is : ms ≡ front ++ here ∷ back
  pub index : ℕ
  pub define : Define
  pub there : slice_get here.defines.items index ≡ Some define
  pub own : own_of (base + sizes front) define ≡ o

home_of : (base : ℕ) (ms : List Module) (k : ℕ) (o : Own) → slice_get (owns base ms) k ≡ Some o → o.callable ≡ true → Home base ms o
home_of base [] k o is called = cc
home_of base (m ∷ ms) k o is called =
    first (at_parts o (map (own_of base) m.defines.items ++ main_of base m.main) (owns (base + m.size) ms) k is)
    (λ j f. home_of (base + m.size) ms j o f called) where
      never : (c : Option ℕ) (j : ℕ) → slice_get (main_of base c) j ≡ Some o → ⊥
      never None j f = cc
      never (Some offset) zero f =
          let same = one_there (record { name = []; callable = false; offset = base + offset }) o f in false≢true (ap (λ (x : Own). x.callable) same ∙ called)
      never (Some offset) (suc j) f = cc

      own : AtEither o (map (own_of base) m.defines.items) (main_of base m.main) k → Home base (m ∷ ms) o
      own (before f) =
          let d = of_map (own_of base) m.defines.items k o f in
          let start : base + 0 ≡ base = omega arith in
          record {
            front = [];
            here = m;
            back = ms;
            is = refl;
            index = k;
            define = d.0;
            there = d.1;
            own = ap (λ (b : ℕ). own_of b d.0) start ∙ d.2;
          }
      own (beyond j is f) = absurd (never m.main j f)

      first : AtEither o (map (own_of base) m.defines.items ++ main_of base m.main) (owns (base + m.size) ms) k
          → ((j : ℕ) → slice_get (owns (base + m.size) ms) j ≡ Some o → Home (base + m.size) ms o) → Home base (m ∷ ms) o
      first (before f) rest = own (at_parts o (map (own_of base) m.defines.items) (main_of base m.main) k f)
      first (beyond j is f) rest =
          let r = rest j f in
          let start : base + (m.size + sizes r.front) ≡ (base + m.size) + sizes r.front = omega arith in
          record {
            front = m ∷ r.front;
            here = r.here;
            back = r.back;
            is = ap (λ (xs : List Module). m ∷ xs) r.is;
            index = r.index;
            define = r.define;
            there = r.there;
            own = ap (λ (b : ℕ). own_of b r.define) start ∙ r.own;
          }

-- ---- 2. entries

-- the entry of a name that is wanted leads to the procedure that may be called by it, in some segment
pub record WantLeads (ps : List Part) (way : Option Way) (x : List ℕ) : Type 0 where
  pub segment : ℕ
  pub part : Part
  pub place : ℕ
  pub there : slice_get ps segment ≡ Some part
  pub called : called_at x (owns 0 part.modules) ≡ Some place
  pub leads : way ≡ Some (body (word_of segment (get_or (owns 0 part.modules) place no_entry).offset))

module _ (ps : List Part) (w : IsWhole ps) where
  -- the words of a segment
  words_are : (s : ℕ) (p : Part) → slice_get ps s ≡ Some p → words_of (program_words ps) s ≡ part_words (tables_of ps) p
  words_are s p h = ap (λ (o : Option (List ℕ)). unwrap_or o []) (got_map (part_words (tables_of ps)) ps s p h)

  -- a procedure of the segment meets the want, or it is wanted and another segment has it
  label_leads : (s : ℕ) (p : Part) (i : ℕ) (v : Wanted) → slice_get ps s ≡ Some p → slice_get (all_wants p.modules) i ≡ Some v → v.gate ≡ false
      → WantLeads ps (way_of (program_words ps) s (label_at (program_words ps) s (entry_of (table_of p.modules) v))) v.name
  label_leads s p i v there wants gated = by (called_at v.name (owns 0 p.modules)) refl where
    entry : (o : Option ℕ) → called_at v.name (owns 0 p.modules) ≡ o
        → entry_of (table_of p.modules) v ≡ 1 + unwrap_or o (length (owns 0 p.modules) + want_at v (table_of p.modules).wanted)
    entry o e =
        ap (λ (b : Bool). 1 + unwrap_or (if b then None else called_at v.name (owns 0 p.modules))
        (length (owns 0 p.modules) + want_at v (table_of p.modules).wanted)) gated
        ∙ ap (λ (r : Option ℕ). 1 + unwrap_or r (length (owns 0 p.modules) + want_at v (table_of p.modules).wanted)) e

    by : (o : Option ℕ) → called_at v.name (owns 0 p.modules) ≡ o
        → WantLeads ps (way_of (program_words ps) s (label_at (program_words ps) s (entry_of (table_of p.modules) v))) v.name
    by (Some k) e =
        let within = called_within (owns 0 p.modules) v.name k e in
        let own : label_at (program_words ps) s (1 + k) ≡ Local (get_or (owns 0 p.modules) k no_entry).offset =
        ap (λ (ws : List ℕ). label (label_of ws (1 + k))) (words_are s p there) ∙ own_local (tables_of ps) p (fits_at ps s p w.fitting there) k within in
        record {
          segment = s;
          part = p;
          place = k;
          there = there;
          called = e;
          leads = ap (λ (n : ℕ). way_of (program_words ps) s (label_at (program_words ps) s n)) (entry (Some k) e)
              ∙ ap (λ (l : Label). way_of (program_words ps) s l) own;
        }
    by None e =
        let unmet : is_met (owns 0 p.modules) v ≡ false =
        ap (λ (b : Bool). not b && is_some (called_at v.name (owns 0 p.modules))) gated ∙ ap (λ (o : Option ℕ). is_some o) e in
        let wanted : is_wanted v (table_of p.modules).wanted ≡ true = found_wanted (all_wants p.modules) (owns 0 p.modules) [] i v wants unmet in
        let at = at_place (table_of p.modules).wanted v v wanted in
        let resolved : is_resolved ps v ≡ true =
        ap (λ (x : Wanted). is_resolved ps x) (sym at.1)
        ∙ all_at (is_resolved ps) (table_of p.modules).wanted (want_at v (table_of p.modules).wanted) v (linked_at ps w p s there).1 at.0 in
        let home : is_some (home_at 0 ps v.name) ≡ true =
        ap (λ (b : Bool). if b then nat_lt 0 (gate_of v.name) else is_some (home_at 0 ps v.name)) (sym gated) ∙ resolved in
        let r = reached ps v.name home in
        let label_is : label_at (program_words ps) s (entry_of (table_of p.modules) v) ≡ External r.number (1 + r.place) =
        ap (λ (n : ℕ). label_at (program_words ps) s n) (entry None e) ∙ wanted_at ps w s p v there wanted
        ∙ ap (λ (b : Bool). if b then External 255 (gate_of v.name) else home_label (home_from 0 (tables_of ps) v.name)) gated ∙ ap home_label r.home in
        let below = r.below in
        let count = w.count in
        let within = called_within (owns 0 r.part.modules) v.name r.place r.called in
        let offset : label_of (words_of (program_words ps) r.number) (1 + r.place) ≡ (get_or (owns 0 r.part.modules) r.place no_entry).offset =
        ap (λ (ws : List ℕ). label_of ws (1 + r.place)) (words_are r.number r.part r.there)
        ∙ own_word (tables_of ps) r.part (fits_at ps r.number r.part w.fitting r.there) r.place within in
        record {
          segment = r.number;
          part = r.part;
          place = r.place;
          there = r.there;
          called = r.called;
          leads = ap (λ (l : Label). way_of (program_words ps) s l) label_is
              ∙ ap (λ (b : Bool). if b then Some (gate (1 + r.place))
              else Some (body (word_of r.number (label_of (words_of (program_words ps) r.number) (1 + r.place)))))
              (ne_eqb r.number 255 (λ y. absurd (omega (arith, y, below, count))))
              ∙ ap (λ (n : ℕ). Some (body (word_of r.number n))) offset;
        }

  -- the entry of a module's want
  pub want_leads : (seg : ℕ) (front : List Module) (m : Module) (back : List Module) → IsModule ps seg front m back → (index : ℕ) (v : Want)
      → slice_get m.wants.items index ≡ Some v → v.gate ≡ false
      → WantLeads ps (entry_way (program_words ps) seg (module_entries front m back true index)) v.name.text.items
  want_leads seg front m back is index v there gated =
      let among = want_in front m back index v there in
      let wanted : slice_get (all_wants is.part.modules) among.0 ≡ Some (wanted_of v) =
      ap (λ (xs : List Module). slice_get (all_wants xs) among.0) is.among ∙ among.1 in
      let entry : module_entries front m back true index ≡ entry_of (table_of is.part.modules) (wanted_of v) =
      index_map (λ x. entry_of (table_of (front ++ m ∷ back)) (wanted_of x)) m.wants.items index v there
      ∙ ap (λ (xs : List Module). entry_of (table_of xs) (wanted_of v)) (sym is.among) in
      let l = label_leads seg is.part among.0 (wanted_of v) is.there wanted gated in
      record {
        segment = l.segment;
        part = l.part;
        place = l.place;
        there = l.there;
        called = l.called;
        leads = want_way ps w seg front m back is index v there
            ∙ ap (λ (n : ℕ). way_of (program_words ps) seg (label_at (program_words ps) seg n)) entry ∙ l.leads;
      }

-- ---- 3. procedures

module _ (us : List Source) (p : Program) (near : WordsAreNear p) (ms : List Module) (f : MadeOf us p ms) where
  -- a way to the procedure that may be called by a name, in a segment, leads to the unit's procedure of that name
  called_finds : (seg : ℕ) (part : Part) (k : ℕ) (x : List ℕ) → slice_get (parts ms) seg ≡ Some part → called_at x (owns 0 part.modules) ≡ Some k
      → (way : Way) → way ≡ body (word_of seg (get_or (owns 0 part.modules) k no_entry).offset) → Finds us p near ms way x
  called_finds seg part k x there called way leads =
      let o = called_there x (owns 0 part.modules) k called in
      let two = and_parts o.0.callable _ o.2 in
      let h = home_of 0 part.modules k o.0 o.1 two.0 in
      let is : IsModule (parts ms) seg h.front h.here h.back = record { part = part; there = there; among = h.is } in
      let among : IsIn h.here part.modules = subst (λ (xs : List Module). IsIn h.here xs) (sym h.is) (in_middle h.here h.front h.back) in
      let of = modules_of_units (program_uses us) (placed_units (first_reached us) us) ms h.here f.are (in_program ms seg part h.here there among) in
      let at : Located ms of.unit of.number = record {
        name = of.name;
        seg = seg;
        front = h.front;
        here = h.here;
        back = h.back;
        is = is;
        of = of.is;
        finished = of.is.finished (module_fits (parts ms) f.whole seg h.front h.here h.back is);
      } in
      let start : 0 + sizes h.front ≡ sizes h.front = omega arith in
      define_finds us p near ms f of.unit of.there of.number at h.index h.define h.there (ap (λ (y : Own). y.callable) h.own ∙ two.0) x
      (ap (λ (y : Own). y.name) h.own ∙ sym (equal_is x o.0.name two.1)) way
      (leads ∙ ap (λ (y : Own). body (word_of seg y.offset)) (get_or_from_slice_get (owns 0 part.modules) k o.0 no_entry o.1 ∙ sym h.own)
      ∙ ap (λ (b : ℕ). body (word_of seg (b + h.define.offset))) start)

  -- so does a name that a module wants
  pub want_finds : (q : Placed) (g : ℕ) (at : Located ms q g) (x : List ℕ) (index : ℕ)
      → slice_get (wants_at at) index ≡ Some (record { name = x; gate = false }) → Finds us p near ms ((sites_at at).ways true index) x
  want_finds q g at x index is =
      let v = of_map written_of at.of.code.wants.items index (record { name = x; gate = false }) is in
      let there : slice_get at.here.wants.items index ≡ Some v.0 = ap (λ ws. slice_get ws.items index) at.of.wants ∙ v.1 in
      let l = want_leads (parts ms) f.whole at.seg at.front at.here at.back at.is index v.0 there (ap (λ (y : Written). y.gate) v.2) in
      let named : v.0.name.text.items ≡ x = ap (λ (y : Written). y.name) v.2 in
      called_finds l.segment l.part l.place x l.there (subst (λ (y : List ℕ). called_at y (owns 0 l.part.modules) ≡ Some l.place) named l.called)
      ((sites_at at).ways true index) (ap (λ (o : Option Way). unwrap_or o (gate 0)) l.leads)
