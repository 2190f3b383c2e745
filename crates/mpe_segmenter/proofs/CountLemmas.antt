-- The counts of entries and words, segment by segment.
use Rattle.std.proofs.Common.{◌≡◌, ℕ, ◌+◌, ◌<◌, ◌≤◌, Bool, true, false, nat_lt, nat_le, List, [], ◌∷◌, ◌++◌, map, length, get_or, drop, Option, Some, None, is_some, refl, sym, ap, ◌∙◌, arith}
use Rattle.std.specs.Prelude.{◌&&◌, ◌==◌, if◌then◌else◌}
use Rattle.std.proofs.lemmas.List.{drop_more, length-append, length-map, length_push}
use Rattle.std.proofs.lemmas.Bool.{leb-true, ltb-false, le-ltb, lt-ltb, le-leb, and_parts, eqb-true}
use Rattle.spl_branch.specs.Kept.{is_sized}
use Rattle.spl_branch.specs.declared.modules.Module.{Module}
use Rattle.mpe_segmenter.specs.declared.segments.Segment.{Segment}
use Rattle.mpe_segmenter.specs.Entries.{Own, owns, Wanted, wanted_of, is_met, is_wanted, with_want, wants_from, all_wants, owned, table_of, entry_count}
use Rattle.mpe_segmenter.specs.Entered.{total}
use Rattle.mpe_segmenter.specs.Counts.{entries_in, entries_full, passed_by, table_size, segment_full}
use Rattle.mpe_segmenter.specs.SegmentViews.{segment_in, segments_in}
use Rattle.mpe_segmenter.proofs.EntryLemmas.{length-owns}

-- a size is at most 16,384
pub size_most : (size words : ℕ) → is_sized size words ≡ true → size ≤ 16384
size_most size words h = by (nat_le size 16383) refl h where
  by : (b : Bool) → nat_le size 16383 ≡ b → (if b then size == words else size == 16384 && words == 0) ≡ true → size ≤ 16384
  by true e h = omega (arith, leb-true size 16383 e)
  by false e h = omega (arith, eqb-true size 16384 (and_parts (size == 16384) (words == 0) h).0)

-- one that is not above 16,383 is the number of words
pub size_is : (size words : ℕ) → is_sized size words ≡ true → size ≤ 16383 → size ≡ words
size_is size words h low = by (nat_le size 16383) (le-leb size 16383 low) h where
  by : (b : Bool) → b ≡ true → (if b then size == words else size == 16384 && words == 0) ≡ true → size ≡ words
  by true e h = eqb-true size words h
  by false e h = cc

with_one : (vs : List Wanted) (w : Wanted) (b : Bool) → length (if b then vs else with_want vs w) ≤ length vs + 1
with_one vs w true = omega arith
with_one vs w false = by (is_wanted w vs) where
  by : (b : Bool) → length (if b then vs else vs ++ w ∷ []) ≤ length vs + 1
  by true = omega arith
  by false = omega (arith, length_push vs w)

-- a segment wants at most as many names as its modules
wants_most : (ws : List Wanted) (os : List Own) (vs : List Wanted) → length (wants_from os vs ws) ≤ length vs + length ws
wants_most [] os vs = omega arith
wants_most (w ∷ ws) os vs = omega (arith, wants_most ws os (if is_met os w then vs else with_want vs w), with_one vs w (is_met os w))

main_most : (m : Option ℕ) → (if is_some m then 1 else 0) ≤ 1
main_most None = omega arith
main_most (Some k) = omega arith

all_most : (ms : List Module) → owned ms + length (all_wants ms) ≤ total ms
all_most [] = omega arith
all_most (m ∷ ms) = omega (arith, all_most ms, main_most m.main, length-append (map wanted_of m.wants.items) (all_wants ms), length-map m.wants.items wanted_of)

-- a segment has at most as many entries as modules, defines and wants
pub entries_most : (ms : List Module) → entry_count (table_of ms) ≤ total ms
entries_most ms = omega (arith, all_most ms, length-owns ms 0, wants_most (all_wants ms) (owns 0 ms) [])

-- the loops, step by step
pub segments_step : (ss : List Segment) (i : ℕ) (s : Segment) → i < length ss → s ≡ get_or ss i s → segments_in (drop i ss) ≡ segment_in s ∷ segments_in (drop (i + 1) ss)
segments_step ss i s lt is = ap segments_in (drop_more ss i s lt ∙ ap (λ (x : Segment). x ∷ drop (i + 1) ss) (sym is))

pub entries_here : (ss : List Segment) (i : ℕ) (s : Segment) (count : ℕ) → i < length ss → s ≡ get_or ss i s → count ≡ entries_in (segment_in s) → 127 < count
    → entries_full (segments_in (drop i ss)) ≡ Some (s.name.text.items, count)
entries_here ss i s count lt is e high = ap entries_full (segments_step ss i s lt is) ∙ rw (sym e, lt-ltb 127 count high) refl

pub entries_next : (ss : List Segment) (i : ℕ) (s : Segment) (count : ℕ) → i < length ss → s ≡ get_or ss i s → count ≡ entries_in (segment_in s) → count ≤ 127
    → entries_full (segments_in (drop i ss)) ≡ entries_full (segments_in (drop (i + 1) ss))
entries_next ss i s count lt is e low = ap entries_full (segments_step ss i s lt is) ∙ rw (sym e, le-ltb 127 count low) refl

-- where no segment has too many entries, this one has not, nor any behind it
pub entries_few : (ss : List Segment) (i : ℕ) (s : Segment) → i < length ss → s ≡ get_or ss i s → entries_full (segments_in (drop i ss)) ≡ None → (entries_in (segment_in s) ≤ 127) × (entries_full (segments_in (drop (i + 1) ss)) ≡ None)
entries_few ss i s lt is h = by (nat_lt 127 (entries_in (segment_in s))) refl (sym (ap entries_full (segments_step ss i s lt is)) ∙ h) where
  by : (b : Bool) → nat_lt 127 (entries_in (segment_in s)) ≡ b → (if b then Some (s.name.text.items, entries_in (segment_in s)) else entries_full (segments_in (drop (i + 1) ss))) ≡ None
      → (entries_in (segment_in s) ≤ 127) × (entries_full (segments_in (drop (i + 1) ss)) ≡ None)
  by true e h = cc
  by false e h = (omega (arith, ltb-false 127 (entries_in (segment_in s)) e), h)

pub words_here : (ss : List Segment) (i : ℕ) (s : Segment) (words : ℕ) → i < length ss → s ≡ get_or ss i s → passed_by (table_size (segment_in s)) s.modules.items ≡ Some words
    → segment_full (segments_in (drop i ss)) ≡ Some (s.name.text.items, words)
words_here ss i s words lt is e = ap segment_full (segments_step ss i s lt is) ∙ rw e refl

pub words_next : (ss : List Segment) (i : ℕ) (s : Segment) → i < length ss → s ≡ get_or ss i s → passed_by (table_size (segment_in s)) s.modules.items ≡ None
    → segment_full (segments_in (drop i ss)) ≡ segment_full (segments_in (drop (i + 1) ss))
words_next ss i s lt is e = ap segment_full (segments_step ss i s lt is) ∙ rw e refl
