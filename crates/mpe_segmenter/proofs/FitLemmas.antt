-- What a segment that fits has, and that each of those that fit does.
use Rattle.std.proofs.Common.{◌≡◌, ℕ, zero, suc, ◌+◌, ◌<◌, ◌≤◌, true, List, [], ◌∷◌, length, get_or, drop, Some, slice_get, refl, sym, ap, ◌∙◌, arith}
use Rattle.std.specs.List.{list_all}
use Rattle.std.specs.Prelude.{nat_le, ◌&&◌, option_map}
use Rattle.std.proofs.lemmas.Bool.{and_parts, and_from, leb-true, lt-ltb}
use Rattle.hp_instr.specs.declared.labels.Label.TheVariants.{Local, External}
use Rattle.hp_instr.specs.Labels.{is_label}
use Rattle.spl_branch.specs.declared.modules.Module.{Module}
use Rattle.mpe_segmenter.specs.declared.segments.Segment.{Segment}
use Rattle.mpe_segmenter.specs.Names.{Part}
use Rattle.mpe_segmenter.specs.Entries.{owns, called_at, table_of, entry_count, home_from}
use Rattle.mpe_segmenter.specs.Counts.{entries_in, table_size, sizes, is_well_formed, is_fitting}
use Rattle.mpe_segmenter.specs.Homes.{home_at}
use Rattle.mpe_segmenter.specs.Programs.{tables_of}
use Rattle.mpe_segmenter.specs.SegmentViews.{segment_in, segments_in}
use Rattle.mpe_segmenter.proofs.CountLemmas.{segments_step}
use Rattle.mpe_segmenter.proofs.HomeLemmas.{home_found, called_within}

-- the counts of a segment that fits
pub record Fits (p : Part) : Type 0 where
  pub entries : entries_in p ≤ 127
  pub words : table_size p + sizes p.modules ≤ 16383
  pub formed : list_all is_well_formed p.modules ≡ true

pub fits : (p : Part) → is_fitting p ≡ true → Fits p
fits p h =
    let all = and_parts (nat_le (entries_in p) 127 && nat_le (table_size p + sizes p.modules) 16383) (list_all is_well_formed p.modules) h in
    let counts = and_parts (nat_le (entries_in p) 127) (nat_le (table_size p + sizes p.modules) 16383) all.0 in
    record { entries = leb-true (entries_in p) 127 counts.0; words = leb-true (table_size p + sizes p.modules) 16383 counts.1; formed = all.1 }

-- the segment at an index
pub segment_at : (ss : List Segment) (n : ℕ) (s : Segment) → n < length ss → s ≡ get_or ss n s → slice_get (segments_in ss) n ≡ Some (segment_in s)
segment_at [] n s lt is = absurd (omega (arith, lt))
segment_at (x ∷ ss) zero s lt is = ap (λ (y : Segment). Some (segment_in y)) (sym is)
segment_at (x ∷ ss) (suc n) s lt is = segment_at ss n s (omega (arith, lt)) is

-- each segment fits
pub fits_at : (ps : List Part) (n : ℕ) (p : Part) → list_all is_fitting ps ≡ true → slice_get ps n ≡ Some p → Fits p
fits_at [] n p h g = cc
fits_at (x ∷ ps) zero p h g = let is : x ≡ p = cc in fits p (ap is_fitting (sym is) ∙ (and_parts (is_fitting x) (list_all is_fitting ps) h).0)
fits_at (x ∷ ps) (suc n) p h g = fits_at ps n p (and_parts (is_fitting x) (list_all is_fitting ps) h).1 g

-- an own entry is one of a segment's
pub own_few : (ms : List Module) (q : List ℕ) (k : ℕ) → called_at q (owns 0 ms) ≡ Some k → entry_count (table_of ms) ≤ 127 → 1 + k ≤ 127
own_few ms q k h few = omega (arith, called_within (owns 0 ms) q k h, few)

pub nowhere_formed : is_label (External 0 0) ≡ true
unfolding is_label
nowhere_formed = refl

pub external_formed : (s k : ℕ) → s < 256 → k < 128 → is_label (External s k) ≡ true
unfolding is_label
external_formed s k low few = and_from _ _ (lt-ltb s 256 low) (lt-ltb k 128 few)

pub local_formed : (offset : ℕ) → offset < 16384 → is_label (Local offset) ≡ true
unfolding is_label
local_formed offset low = lt-ltb offset 16384 low

-- the number of a name is that of a segment
pub home_within : (ss : List Segment) (q : List ℕ) (n : ℕ) → home_at 0 (segments_in ss) q ≡ Some n → n < length ss
home_within ss q n h = let home = home_found (segments_in ss) 0 n q h in omega (arith, home.number, home.within, length_in ss) where
  length_in : (ss : List Segment) → length (segments_in ss) ≡ length ss
  length_in [] = refl
  length_in (s ∷ ss) = ap suc (length_in ss)

-- the look-up through tables goes to the segment with the number of a name
pub home_is : (ss : List Segment) (q : List ℕ) (n : ℕ) (s : Segment) → home_at 0 (segments_in ss) q ≡ Some n → n < length ss → s ≡ get_or ss n s
    → home_from 0 (tables_of (segments_in ss)) q ≡ option_map (λ k. (n, 1 + k)) (called_at q (owns 0 s.modules.items))
home_is ss q n s h lt is =
    let home = home_found (segments_in ss) 0 n q h in
    let place : home.place ≡ n = omega (arith, home.number) in
    home.label (segment_in s) (ap (slice_get (segments_in ss)) place ∙ segment_at ss n s lt is)

-- the next of the segments left fits
pub next_fits : (ss : List Segment) (i : ℕ) (s : Segment) → i < length ss → s ≡ get_or ss i s → list_all is_fitting (segments_in (drop i ss)) ≡ true → Fits (segment_in s)
next_fits ss i s lt is h =
    fits (segment_in s) (and_parts (is_fitting (segment_in s)) (list_all is_fitting (segments_in (drop (i + 1) ss))) (sym (ap (list_all is_fitting) (segments_step ss i s lt is)) ∙ h)).0
