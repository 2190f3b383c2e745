-- The words of a segment, module by module.
use Rattle.std.proofs.Common.{◌≡◌, ℕ, zero, suc, ◌+◌, ◌<◌, ◌≤◌, Bool, true, false, nat_lt, nat_le, List, [], ◌∷◌, ◌++◌, map, length, get_or, take, Option, Some, None, slice_index, refl, sym, ap, ◌∙◌, arith, append_assoc}
use Rattle.std.specs.Prelude.{◌==◌, ◌&&◌, if◌then◌else◌, unwrap_or}
use Rattle.std.specs.List.{list_all}
use Rattle.std.specs.Global.{Vec}
use Rattle.std.proofs.Math.ListN.{get_or-map}
use Rattle.std.proofs.lemmas.List.{length-append, length-map, map_push}
use Rattle.hp_instr.specs.Labels.{label_bits}
use Rattle.std.proofs.lemmas.Bool.{and_parts, and_from, ltb-true, leb-true, lt-ltb, ne_eqb}
use Rattle.spl_branch.specs.declared.modules.Fix.{Fix}
use Rattle.spl_branch.specs.declared.modules.FixKind.{FixKind}
use Rattle.spl_branch.specs.declared.modules.FixKind.TheVariants as kind
use Rattle.spl_branch.specs.declared.modules.Module.{Module}
use Rattle.spl_branch.specs.Kept.{rises, has_aim}
use Rattle.spl_branch.specs.Modules.{fix_at, with_entry, put_in}
use Rattle.mpe_segmenter.specs.Entries.{owns, called_at, Wanted, wanted_of, want_at, Table, table_of, entry_count, entry_of, own_count}
use Rattle.mpe_segmenter.specs.declared.segments.Segment.{Segment}
use Rattle.mpe_segmenter.specs.Names.{Part}
use Rattle.mpe_segmenter.specs.Entered.{IsEntered, HasRoom, entry_by}
use Rattle.mpe_segmenter.specs.Segments.{own_label, wanted_label, labels_of, table_words, laid_from, entries_for, entries_by, body_from, is_layable, IsApart}
use Rattle.mpe_segmenter.specs.Programs.{label_words, part_words}
use Rattle.mpe_segmenter.specs.SegmentViews.{segment_in, segments_in}
use Rattle.mpe_segmenter.specs.Counts.{entries_in}
use Rattle.mpe_segmenter.proofs.CountLemmas.{size_is}
use Rattle.mpe_segmenter.proofs.HomeLemmas.{called_within}
use Rattle.mpe_segmenter.proofs.LaidLemmas.{length-laid_from}

-- no fix stands before the place from where fixes stand
before_fixes : (fs : List Fix) (from size k : ℕ) → rises from size fs ≡ true → k < from → fix_at fs k ≡ None
before_fixes [] from size k h lt = refl
before_fixes (f ∷ fs) from size k h lt =
    let all = and_parts (nat_le from f.offset && nat_lt f.offset size) (rises (f.offset + 1) size fs) h in
    let here = and_parts (nat_le from f.offset) (nat_lt f.offset size) all.0 in
    rw (ne_eqb f.offset k (λ e. absurd (omega (arith, leb-true from f.offset here.0)))) (before_fixes fs (f.offset + 1) size k all.1 (omega (arith, leb-true from f.offset here.0)))

-- fixes that rise stand each at a word of its own
apart_from : (fs : List Fix) (from size : ℕ) → rises from size fs ≡ true → (i : ℕ) (d : Fix) → i < length fs → (from ≤ (get_or fs i d).offset) × ((get_or fs i d).offset < size) × (fix_at (take i fs) (get_or fs i d).offset ≡ None)
apart_from [] from size h i d lt = absurd (omega (arith, lt))
apart_from (f ∷ fs) from size h zero d lt =
    let all = and_parts (nat_le from f.offset && nat_lt f.offset size) (rises (f.offset + 1) size fs) h in
    let here = and_parts (nat_le from f.offset) (nat_lt f.offset size) all.0 in
    (leb-true from f.offset here.0, ltb-true f.offset size here.1, refl)
apart_from (f ∷ fs) from size h (suc i) d lt =
    let all = and_parts (nat_le from f.offset && nat_lt f.offset size) (rises (f.offset + 1) size fs) h in
    let here = and_parts (nat_le from f.offset) (nat_lt f.offset size) all.0 in
    let rest = apart_from fs (f.offset + 1) size all.1 i d (omega (arith, lt)) in
    (omega (arith, rest.0, leb-true from f.offset here.0), rest.1, rw (ne_eqb f.offset (get_or fs i d).offset (λ e. absurd (omega (arith, rest.0)))) rest.2)

pub apart : (fs : List Fix) (size : ℕ) → rises 0 size fs ≡ true → IsApart size fs
apart fs size h i d lt = let at = apart_from fs 0 size h i d lt in (at.1, at.2)

-- what a fix asks for fits its word
layable_one : (f : Fix) (defines wants base first : ℕ) → has_aim defines wants f ≡ true → first + defines ≤ 255 → base ≤ 16383 → is_layable base first f ≡ true
layable_one f defines wants base first h few low = by f.kind h where
  by : (k : FixKind) → (elim k [ kind.Define ↦ nat_lt f.index defines | kind.Want ↦ nat_lt f.index wants | kind.Place ↦ nat_le f.index 16383 ]) ≡ true
      → (elim k [ kind.Define ↦ nat_lt (first + f.index) 256 | kind.Want ↦ true | kind.Place ↦ nat_lt (base + f.index) 65536 ]) ≡ true
  by kind.Define g = lt-ltb (first + f.index) 256 (omega (arith, ltb-true f.index defines g))
  by kind.Want g = refl
  by kind.Place g = lt-ltb (base + f.index) 65536 (omega (arith, leb-true f.index 16383 g))

pub layable : (fs : List Fix) (defines wants base first : ℕ) → list_all (has_aim defines wants) fs ≡ true → first + defines ≤ 255 → base ≤ 16383 → list_all (is_layable base first) fs ≡ true
layable [] defines wants base first h few low = refl
layable (f ∷ fs) defines wants base first h few low =
    let both = and_parts (has_aim defines wants f) (list_all (has_aim defines wants) fs) h in
    and_from _ _ (layable_one f defines wants base first both.0 few low) (layable fs defines wants base first both.1 few low)

-- the fix at a word has an aim
aim_at : (fs : List Fix) (defines wants k : ℕ) (f : Fix) → list_all (has_aim defines wants) fs ≡ true → fix_at fs k ≡ Some f → has_aim defines wants f ≡ true
aim_at [] defines wants k f h g = cc
aim_at (x ∷ fs) defines wants k f h g = by (x.offset == k) g (λ e. aim_at fs defines wants k f (and_parts (has_aim defines wants x) (list_all (has_aim defines wants) fs) h).1 e) where
  both : (has_aim defines wants x ≡ true) × (list_all (has_aim defines wants) fs ≡ true)
  both = and_parts (has_aim defines wants x) (list_all (has_aim defines wants) fs) h

  is_part : (a b : Fix) → Some a ≡ Some b → a ≡ b
  is_part a b e = cc

  by : (b : Bool) → (if b then Some x else fix_at fs k) ≡ Some f → (fix_at fs k ≡ Some f → has_aim defines wants f ≡ true) → has_aim defines wants f ≡ true
  by true g rest = ap (has_aim defines wants) (sym (is_part x f g)) ∙ both.0
  by false g rest = rest g

-- a module's entries are asked for within its defines alone
put_same : (m : Module) (e : Wanted → ℕ) (base first w : ℕ) (o : Option Fix) → ((f : Fix) → o ≡ Some f → has_aim (length m.defines.items) (length m.wants.items) f ≡ true)
    → put_in base (entries_by first (map (λ v. e (wanted_of v)) m.wants.items)) o w ≡ put_in base (entries_for e first m) o w
put_same m e base first w None h = refl
put_same m e base first w (Some f) h = by f.kind (h f refl) where
  by : (k : FixKind) → (elim k [ kind.Define ↦ nat_lt f.index (length m.defines.items) | kind.Want ↦ nat_lt f.index (length m.wants.items) | kind.Place ↦ nat_le f.index 16383 ]) ≡ true
      → ◌≡◌ {A = ℕ} (elim k [ kind.Define ↦ with_entry w (first + f.index) | kind.Want ↦ with_entry w (slice_index (map (λ v. e (wanted_of v)) m.wants.items) f.index) | kind.Place ↦ base + f.index ])
      (elim k [ kind.Define ↦ with_entry w (if nat_lt f.index (length m.defines.items) then first + f.index else 0) | kind.Want ↦ with_entry w (slice_index (map (λ v. e (wanted_of v)) m.wants.items) f.index) | kind.Place ↦ base + f.index ])
  by kind.Define g = rw g refl
  by kind.Want g = refl
  by kind.Place g = refl

pub laid_same : (ws : List ℕ) (m : Module) (e : Wanted → ℕ) (base first k : ℕ)
    → laid_from base (entries_by first (map (λ v. e (wanted_of v)) m.wants.items)) m.fixes.items k ws ≡ laid_from base (entries_for e first m) m.fixes.items k ws
laid_same [] m e base first k = refl
laid_same (w ∷ ws) m e base first k =
    let here = put_same m e base first w (fix_at m.fixes.items k) (λ f g. aim_at m.fixes.items (length m.defines.items) (length m.wants.items) k f m.aimed g) in
    ap (λ v. v ∷ laid_from base (entries_by first (map (λ v. e (wanted_of v)) m.wants.items)) m.fixes.items (k + 1) ws) here
    ∙ ap (λ vs. put_in base (entries_for e first m) (fix_at m.fixes.items k) w ∷ vs) (laid_same ws m e base first (k + 1))

-- the entries found are the table's
pub entry_is : (ms : List Module) (own : ℕ) (called : List (List ℕ × ℕ)) (wanted : List Wanted) (w : Wanted) → IsEntered ms own called wanted → entry_by own called wanted w ≡ entry_of (table_of ms) w
entry_is ms own called wanted w i =
    ap (λ o. 1 + unwrap_or (if w.gate then None else o) (own + want_at w wanted)) (i.called_by.finds w.name)
    ∙ ap (λ n. 1 + unwrap_or (if w.gate then None else called_at w.name (owns 0 ms)) (n + want_at w wanted)) i.own_count
    ∙ ap (λ vs. 1 + unwrap_or (if w.gate then None else called_at w.name (owns 0 ms)) (length (owns 0 ms) + want_at w vs)) i.wants

pub body_is : (ms : List Module) (own : ℕ) (called : List (List ℕ × ℕ)) (wanted : List Wanted) → IsEntered ms own called wanted → body_from (entry_by own called wanted) 0 1 ms ≡ body_from (entry_of (table_of ms)) 0 1 ms
body_is ms own called wanted i = ap (λ (e : Wanted → ℕ). body_from e 0 1 ms) (λ j w. entry_is ms own called wanted w i j)

pub has_room : (ms : List Module) (own : ℕ) (called : List (List ℕ × ℕ)) (wanted : List Wanted) → IsEntered ms own called wanted → entry_count (table_of ms) ≤ 127 → HasRoom own called wanted
has_room ms own called wanted i few = record {
  few = omega (arith, i.own_count, ap length i.wants, few);
  within = λ q k h. omega (arith, i.own_count, called_within (owns 0 ms) q k (sym (i.called_by.finds q) ∙ h));
}

-- one module more
pub lay_step : (e : Wanted → ℕ) (words new : List ℕ) (first first' : ℕ) (m : Module) (rest : List Module) → m.size ≤ 16383 → new ≡ words ++ laid_from (length words) (entries_for e first m) m.fixes.items 0 m.words.items → first' ≡ first + own_count m
    → (length new ≡ length words + m.size) × (new ++ body_from e (length new) first' rest ≡ words ++ body_from e (length words) first (m ∷ rest))
lay_step e words new first first' m rest low is next =
    let laid : List ℕ = laid_from (length words) (entries_for e first m) m.fixes.items 0 m.words.items in
    let size : length new ≡ length words + m.size = omega (arith, ap length is, length-append words laid, length-laid_from m.words.items (length words) (entries_for e first m) m.fixes.items 0, size_is m.size (length m.words.items) m.sized low) in (
      size,
      ap (λ (ws : List ℕ). ws ++ body_from e (length new) first' rest) is
          ∙ ap (λ n. (words ++ laid) ++ body_from e n first' rest) size
          ∙ ap (λ k. (words ++ laid) ++ body_from e (length words + m.size) k rest) next
          ∙ append_assoc words laid (body_from e (length words + m.size) (first + own_count m) rest),
    )

-- the element between others
middle : {A : Type 0} (f : Segment → A) (ys : List Segment) (s : Segment) (rest : List Segment) (d : A) → get_or (map f (ys ++ s ∷ rest)) (length ys) d ≡ f s
middle f [] s rest d = refl
middle f (y ∷ ys) s rest d = middle f ys s rest d

-- the labels of the next segment
pub labels_at : (ts : List Table) (labels : List (Vec ℕ)) (ss ys : List Segment) (s : Segment) (rest : List Segment) (n : ℕ) (l : Vec ℕ) → map (λ v. v.items) labels ≡ map (label_words ts) (segments_in ss) → ys ++ s ∷ rest ≡ ss → n ≡ length ys → l ≡ get_or labels n l → l.items ≡ label_words ts (segment_in s)
labels_at ts labels ss ys s rest n l e all is at =
    ap (λ (v : Vec ℕ). v.items) at
    ∙ sym (get_or-map (λ (v : Vec ℕ). v.items) labels n l)
    ∙ ap (λ (vs : List (List ℕ)). get_or vs n l.items) (e ∙ along ss ∙ ap (map (λ x. label_words ts (segment_in x))) (sym all))
    ∙ ap (λ k. get_or (map (λ x. label_words ts (segment_in x)) (ys ++ s ∷ rest)) k l.items) is
    ∙ middle (λ x. label_words ts (segment_in x)) ys s rest l.items where
      along : (ss : List Segment) → map (label_words ts) (segments_in ss) ≡ map (λ x. label_words ts (segment_in x)) ss
      along [] = refl
      along (x ∷ ss) = ap (λ vs. label_words ts (segment_in x) ∷ vs) (along ss)

-- there are as many labels as entries
pub label_count : (ts : List Table) (p : Part) → length (label_words ts p) ≡ entries_in p
label_count ts p =
    length-map (labels_of ts (table_of p.modules)) label_bits
    ∙ length-append (map own_label (owns 0 p.modules)) (map (wanted_label ts) (table_of p.modules).wanted)
    ∙ omega (arith, length-map (owns 0 p.modules) own_label, length-map (table_of p.modules).wanted (wanted_label ts))

pub labels_within : (ts : List Table) (labels : List (Vec ℕ)) (ss ys : List Segment) (s : Segment) (rest : List Segment) → map (λ v. v.items) labels ≡ map (label_words ts) (segments_in ss) → ys ++ s ∷ rest ≡ ss → length ys < length labels
labels_within ts labels ss ys s rest e all =
    omega (arith, sym (length-map labels (λ v. v.items)) ∙ ap length e ∙ length-map (segments_in ss) (label_words ts) ∙ length-map ss segment_in ∙ ap length (sym all) ∙ length-append ys (s ∷ rest))

pub as_many : (ts : List Table) (all : List (Vec ℕ)) (ys : List Segment) → map (λ v. v.items) all ≡ map (part_words ts) (segments_in ys) → length all ≡ length ys
as_many ts all ys e = sym (length-map all (λ v. v.items)) ∙ ap length e ∙ length-map (segments_in ys) (part_words ts) ∙ length-map ys segment_in

pub part_step : (ts : List Table) (all new : List (Vec ℕ)) (ys : List Segment) (s : Segment) (w : Vec ℕ) (labels : List ℕ) → new ≡ all ++ w ∷ [] → map (λ v. v.items) all ≡ map (part_words ts) (segments_in ys)
    → w.items ≡ body_from (entry_of (table_of s.modules.items)) 0 1 s.modules.items ++ table_words labels → labels ≡ label_words ts (segment_in s) → map (λ v. v.items) new ≡ map (part_words ts) (segments_in (ys ++ s ∷ []))
part_step ts all new ys s w labels e was made given =
    ap (map (λ v. v.items)) e ∙ map_push (λ (v : Vec ℕ). v.items) all w
    ∙ ap (λ (vs : List (List ℕ)). vs ++ w.items ∷ []) was
    ∙ ap (λ (v : List ℕ). map (part_words ts) (segments_in ys) ++ v ∷ []) (made ∙ ap (λ ls. body_from (entry_of (table_of s.modules.items)) 0 1 s.modules.items ++ table_words ls) given)
    ∙ sym (ap (map (part_words ts)) (map_push segment_in ys s) ∙ map_push (part_words ts) (segments_in ys) (segment_in s))
