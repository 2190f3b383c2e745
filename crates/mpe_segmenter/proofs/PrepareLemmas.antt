-- Modules without faults make whole segments, and the first fault is that of the first test that fails.
use Rattle.std.proofs.Common.{◌≡◌, ℕ, zero, suc, ◌+◌, ◌<◌, ◌≤◌, Bool, true, false, nat_lt, List, [], ◌∷◌, ◌++◌, map, length, Option, Some, None, is_some, refl, sym, ap, ◌∙◌, arith}
use Rattle.std.specs.Prelude.{◌&&◌, ◌||◌, if◌then◌else◌, option_map}
use Rattle.std.specs.List.{list_all, list_any}
use Rattle.std.proofs.lemmas.List.{length-map}
use Rattle.std.proofs.lemmas.Bool.{and_parts, and_from, ltb-false, lt-ltb, le-leb, ne_eqb}
use Rattle.spl_branch.specs.declared.modules.Want.{Want}
use Rattle.spl_branch.specs.declared.modules.Module.{Module}
use Rattle.mpe_segmenter.specs.declared.faults.PrepFault.{PrepFault}
use Rattle.mpe_segmenter.specs.declared.faults.PrepFault.TheVariants as f
use Rattle.mpe_segmenter.specs.Names.{is_among, segment_names, Part, part_from, parts}
use Rattle.mpe_segmenter.specs.Entries.{Own, owns, Wanted, wanted_of, is_met, is_wanted, with_want, wants_from, all_wants, own_count, gate_of, either}
use Rattle.mpe_segmenter.specs.Counts.{entries_in, entries_full, passed_by, table_size, segment_full, sizes, is_gate_or_name, is_well_formed, is_fitting}
use Rattle.mpe_segmenter.specs.Faults.{mains, MainBodies, define_names, callables, doubled, first_unmet, or_name, unmet_from, unresolved, Fault, TwoMains, Doubled, Unresolved, EntriesFull, SegmentFull, fault_of, main_faults, name_faults, segment_faults, size_faults, first_fault, Faults}
use Rattle.mpe_segmenter.specs.Homes.{home_at}
use Rattle.mpe_segmenter.specs.Programs.{main_at, main_from}
use Rattle.mpe_segmenter.specs.Whole.{is_resolved, is_linked, IsWhole}
use Rattle.mpe_segmenter.proofs.GatherLemmas.{has_one, has_all, any_in_parts, all_in_parts, has_module, all_have_modules}
use Rattle.mpe_segmenter.proofs.WholeLemmas.{formed, all_append}
use Rattle.mpe_segmenter.proofs.PartLemmas.{equal}

-- the fault of the number of main bodies
pub main_told : (n : ℕ) (o : Option PrepFault) → MainBodies n o → option_map fault_of o ≡ option_map Some (main_faults n)
main_told n None h = rw h refl
main_told n (Some f.NoMain) h = rw h refl
main_told n (Some f.TwoMains) h = rw (ne_eqb n 0 (λ e. absurd (omega (arith, e, h))), lt-ltb 1 n (omega (arith, h))) refl
main_told n (Some (f.Doubled m)) h = absurd h
main_told n (Some (f.Unresolved m)) h = absurd h
main_told n (Some (f.SegmentsFull c)) h = absurd h
main_told n (Some (f.EntriesFull m c)) h = absurd h
main_told n (Some (f.SegmentFull m c)) h = absurd h
main_told n (Some f.NoMemory) h = absurd h

-- where no fault is told there is none
pub none_told : (o : Option Fault) → None ≡ option_map {U = Option Fault} Some o → o ≡ None
none_told None h = refl
none_told (Some x) h = cc

-- a fault that is told is the first
pub told : (ms : List Module) (g : PrepFault) (o : Option Fault) → Some (fault_of g) ≡ option_map Some o → ((x : Fault) → o ≡ Some x → first_fault ms ≡ Some x) → Faults ms g
told ms g o h first = as_fault g (by o h first) where
  by : (o : Option Fault) → Some (fault_of g) ≡ option_map Some o → ((x : Fault) → o ≡ Some x → first_fault ms ≡ Some x) → first_fault ms ≡ fault_of g
  by None h first = cc
  by (Some x) h first = let is : fault_of g ≡ Some x = cc in first x refl ∙ sym is

  as_fault : (g : PrepFault) → first_fault ms ≡ fault_of g → Faults ms g
  as_fault f.NoMain e = e
  as_fault f.TwoMains e = e
  as_fault (f.Doubled m) e = e
  as_fault (f.Unresolved m) e = e
  as_fault (f.SegmentsFull c) e = e
  as_fault (f.EntriesFull m c) e = e
  as_fault (f.SegmentFull m c) e = e
  as_fault f.NoMemory e = tt

-- the first of several
pub early_first : (ms : List Module) (x : Fault) → either (main_faults (mains ms)) (name_faults ms) ≡ Some x → first_fault ms ≡ Some x
early_first ms x h = by (main_faults (mains ms)) (name_faults ms) h where
  by : (a b : Option Fault) → either a b ≡ Some x → either a (either b (either (segment_faults (length (segment_names ms))) (size_faults (parts ms)))) ≡ Some x
  by (Some y) b h = h
  by None (Some y) h = h
  by None None h = cc

pub early_none : (ms : List Module) → either (main_faults (mains ms)) (name_faults ms) ≡ None → (main_faults (mains ms) ≡ None) × (name_faults ms ≡ None)
early_none ms h = by (main_faults (mains ms)) (name_faults ms) h where
  by : (a b : Option Fault) → either a b ≡ None → (a ≡ None) × (b ≡ None)
  by None None h = (refl, refl)
  by (Some y) b h = cc
  by None (Some y) h = cc

-- behind the faults of main bodies and names
pub late_first : (ms : List Module) → either (main_faults (mains ms)) (name_faults ms) ≡ None → first_fault ms ≡ either (segment_faults (length (segment_names ms))) (size_faults (parts ms))
late_first ms h = let none = early_none ms h in rw (none.0, none.1) refl

-- a number of main bodies without fault is one
pub one_main : (n : ℕ) → main_faults n ≡ None → n ≡ 1
one_main zero h = cc
one_main (suc zero) h = refl
one_main (suc (suc n)) h = absurd (wrong (rw (ne_eqb (suc (suc n)) 0 (λ e. absurd (omega (arith, e))), lt-ltb 1 (suc (suc n)) (omega arith)) at h)) where
  wrong : Some TwoMains ≡ None → ⊥
  wrong e = cc

-- then some segment has it
mains_some : (ms : List Module) → 0 < mains ms → list_any (λ m. is_some m.main) ms ≡ true
mains_some [] h = absurd (omega (arith, h))
mains_some (m ∷ ms) h = by (is_some m.main) h (λ g. mains_some ms g) where
  by : (b : Bool) → 0 < (if b then 1 else 0) + mains ms → (0 < mains ms → list_any (λ m. is_some m.main) ms ≡ true) → (b || list_any (λ m. is_some m.main) ms) ≡ true
  by true h rest = refl
  by false h rest = rest (omega (arith, h))

at_some : (ms : List Module) (first : ℕ) → is_some (main_at first ms) ≡ list_any (λ m. is_some m.main) ms
at_some [] first = refl
at_some (m ∷ ms) first = by (is_some m.main) (at_some ms (first + own_count m)) where
  by : (b : Bool) → is_some (main_at (first + own_count m) ms) ≡ list_any (λ m. is_some m.main) ms → is_some (if b then Some (first + length m.defines.items) else main_at (first + own_count m) ms) ≡ (b || list_any (λ m. is_some m.main) ms)
  by true h = refl
  by false h = h

from_some : (ps : List Part) (s : ℕ) → is_some (main_from s ps) ≡ list_any (has_one (λ m. is_some m.main)) ps
from_some [] s = refl
from_some (p ∷ ps) s = by (main_at 1 p.modules) (at_some p.modules 1) (from_some ps (s + 1)) where
  by : (o : Option ℕ) → is_some o ≡ list_any (λ m. is_some m.main) p.modules → is_some (main_from (s + 1) ps) ≡ list_any (has_one (λ m. is_some m.main)) ps
      → is_some (either (option_map (λ k. (s, k)) o) (main_from (s + 1) ps)) ≡ (list_any (λ m. is_some m.main) p.modules || list_any (has_one (λ m. is_some m.main)) ps)
  by None e h = rw (← e) h
  by (Some k) e h = rw (← e) refl

main_there : (ms : List Module) → mains ms ≡ 1 → is_some (main_from 0 (parts ms)) ≡ true
main_there ms h = from_some (parts ms) 0 ∙ any_in_parts (λ m. is_some m.main) ms ∙ mains_some ms (omega (arith, h))

-- where the words of modules do not pass, they are few
not_passed : (ms : List Module) (before : ℕ) → before ≤ 16383 → passed_by before ms ≡ None → before + sizes ms ≤ 16383
not_passed [] before low h = omega (arith, low)
not_passed (m ∷ ms) before low h = by (nat_lt 16383 (before + m.size)) refl h (λ l g. not_passed ms (before + m.size) l g) where
  by : (b : Bool) → nat_lt 16383 (before + m.size) ≡ b → (if b then Some (before + m.size) else passed_by (before + m.size) ms) ≡ None → (before + m.size ≤ 16383 → passed_by (before + m.size) ms ≡ None → (before + m.size) + sizes ms ≤ 16383) → before + (m.size + sizes ms) ≤ 16383
  by true e h rest = cc
  by false e h rest = omega (arith, rest (ltb-false 16383 (before + m.size) e) h)

-- segments without faults fit
all_fit : (ps : List Part) → entries_full ps ≡ None → segment_full ps ≡ None → list_all (has_all is_well_formed) ps ≡ true → list_all is_fitting ps ≡ true
all_fit [] e w h = refl
all_fit (p ∷ ps) e w h = by (nat_lt 127 (entries_in p)) refl e (passed_by (table_size p) p.modules) refl w (and_parts (has_all is_well_formed p) (list_all (has_all is_well_formed) ps) h) (λ a b c. all_fit ps a b c) where
  by : (b : Bool) → nat_lt 127 (entries_in p) ≡ b → (if b then Some (p.name, entries_in p) else entries_full ps) ≡ None → (o : Option ℕ) → passed_by (table_size p) p.modules ≡ o → either (option_map (λ v. (p.name, v)) o) (segment_full ps) ≡ None
      → (has_all is_well_formed p ≡ true) × (list_all (has_all is_well_formed) ps ≡ true) → (entries_full ps ≡ None → segment_full ps ≡ None → list_all (has_all is_well_formed) ps ≡ true → list_all is_fitting ps ≡ true)
      → (is_fitting p && list_all is_fitting ps) ≡ true
  by true q e o r w both rest = cc
  by false q e (Some v) r w both rest = cc
  by false q e None r w both rest =
      let few : entries_in p ≤ 127 = ltb-false 127 (entries_in p) q in
      and_from _ _ (and_from _ _ (and_from _ _ (le-leb (entries_in p) 127 few) (le-leb (table_size p + sizes p.modules) 16383 (not_passed p.modules (table_size p) (omega (arith, few)) r))) both.0) (rest e w both.1)

-- a name has a home where it is among those of procedures
home_among : (ps : List Part) (s : ℕ) (q : List ℕ) → is_some (home_at s ps q) ≡ list_any (λ p. is_among q (callables p.modules)) ps
home_among [] s q = refl
home_among (p ∷ ps) s q = by (is_among q (callables p.modules)) (home_among ps (s + 1) q) where
  by : (b : Bool) → is_some (home_at (s + 1) ps q) ≡ list_any (λ p. is_among q (callables p.modules)) ps → is_some (if b then Some s else home_at (s + 1) ps q) ≡ (b || list_any (λ p. is_among q (callables p.modules)) ps)
  by true h = refl
  by false h = h

among_append : (q : List ℕ) (ns ms : List (List ℕ)) → is_among q (ns ++ ms) ≡ (is_among q ns || is_among q ms)
among_append q [] ms = refl
among_append q (n ∷ ns) ms = ap (λ b. equal q n || b) (among_append q ns ms) ∙ by (equal q n) (is_among q ns) (is_among q ms) where
  by : (a b c : Bool) → (a || (b || c)) ≡ ((a || b) || c)
  by true b c = refl
  by false b c = refl

-- a module has a procedure that may be called by this name
abbrev calls : List ℕ → Module → Bool
calls q m = is_among q (define_names m.defines.items)

calls_any : (q : List ℕ) (ms : List Module) → is_among q (callables ms) ≡ list_any (calls q) ms
calls_any q [] = refl
calls_any q (m ∷ ms) = among_append q (define_names m.defines.items) (callables ms) ∙ ap (λ b. calls q m || b) (calls_any q ms)

any_same : (q : List ℕ) (ps : List Part) → list_any (λ p. is_among q (callables p.modules)) ps ≡ list_any (has_one (calls q)) ps
any_same q [] = refl
any_same q (p ∷ ps) = rw (calls_any q p.modules, any_same q ps) refl

pub home_there : (ms : List Module) (q : List ℕ) → is_some (home_at 0 (parts ms) q) ≡ is_among q (callables ms)
home_there ms q = home_among (parts ms) 0 q ∙ any_same q (parts ms) ∙ any_in_parts (calls q) ms ∙ sym (calls_any q ms)

-- what modules want is there
abbrev meets : List Part → Module → Bool
meets ps m = list_all (λ (w : Want). is_resolved ps (wanted_of w)) m.wants.items

met : (ws : List Want) (names : List (List ℕ)) (ps : List Part) → ((q : List ℕ) → is_some (home_at 0 ps q) ≡ is_among q names) → list_all is_gate_or_name ws ≡ true → first_unmet names ws ≡ None → list_all (λ (w : Want). is_resolved ps (wanted_of w)) ws ≡ true
met [] names ps homes g h = refl
met (w ∷ ws) names ps homes g h = by w.gate (is_among w.name.text.items names) refl (and_parts (is_gate_or_name w) (list_all is_gate_or_name ws) g).0 h (λ k. met ws names ps homes (and_parts (is_gate_or_name w) (list_all is_gate_or_name ws) g).1 k) where
  by : (b c : Bool) → is_among w.name.text.items names ≡ c → (if b then nat_lt 0 (gate_of w.name.text.items) else true) ≡ true → (if b || c then first_unmet names ws else Some w.name.text.items) ≡ None → (first_unmet names ws ≡ None → list_all (λ (w : Want). is_resolved ps (wanted_of w)) ws ≡ true)
      → ((if b then nat_lt 0 (gate_of w.name.text.items) else is_some (home_at 0 ps w.name.text.items)) && list_all (λ (w : Want). is_resolved ps (wanted_of w)) ws) ≡ true
  by true c e g h rest = and_from _ _ g (rest h)
  by false true e g h rest = and_from _ _ (homes w.name.text.items ∙ e) (rest h)
  by false false e g h rest = cc

all_met : (ms : List Module) (names : List (List ℕ)) (ps : List Part) → ((q : List ℕ) → is_some (home_at 0 ps q) ≡ is_among q names) → list_all is_well_formed ms ≡ true → unmet_from names ms ≡ None → list_all (meets ps) ms ≡ true
all_met [] names ps homes g h = refl
all_met (m ∷ ms) names ps homes g h = by (first_unmet names m.wants.items) refl h (λ k. all_met ms names ps homes both.1 k) where
  both : (is_well_formed m ≡ true) × (list_all is_well_formed ms ≡ true)
  both = and_parts (is_well_formed m) (list_all is_well_formed ms) g

  by : (o : Option (List ℕ)) → first_unmet names m.wants.items ≡ o → or_name o (unmet_from names ms) ≡ None → (unmet_from names ms ≡ None → list_all (meets ps) ms ≡ true) → (meets ps m && list_all (meets ps) ms) ≡ true
  by None e h rest = and_from _ _ (met m.wants.items names ps homes (formed m both.0).gates e) (rest h)
  by (Some n) e h rest = cc

-- so is what a segment wants
map_all : (ws : List Want) (ps : List Part) → list_all (λ (w : Want). is_resolved ps (wanted_of w)) ws ≡ true → list_all (is_resolved ps) (map wanted_of ws) ≡ true
map_all [] ps h = refl
map_all (w ∷ ws) ps h = let both = and_parts (is_resolved ps (wanted_of w)) (list_all (λ (w : Want). is_resolved ps (wanted_of w)) ws) h in and_from _ _ both.0 (map_all ws ps both.1)

wants_all : (ms : List Module) (ps : List Part) → list_all (meets ps) ms ≡ true → list_all (is_resolved ps) (all_wants ms) ≡ true
wants_all [] ps h = refl
wants_all (m ∷ ms) ps h = let both = and_parts (meets ps m) (list_all (meets ps) ms) h in all_append (is_resolved ps) (map wanted_of m.wants.items) (all_wants ms) (map_all m.wants.items ps both.0) (wants_all ms ps both.1)

from_all : (ws : List Wanted) (os : List Own) (vs : List Wanted) (ps : List Part) → list_all (is_resolved ps) vs ≡ true → list_all (is_resolved ps) ws ≡ true → list_all (is_resolved ps) (wants_from os vs ws) ≡ true
from_all [] os vs ps h g = h
from_all (w ∷ ws) os vs ps h g =
    let both = and_parts (is_resolved ps w) (list_all (is_resolved ps) ws) g in
    from_all ws os (if is_met os w then vs else with_want vs w) ps (one (is_met os w) both.0) both.1 where
      two : (c : Bool) → is_resolved ps w ≡ true → list_all (is_resolved ps) (if c then vs else vs ++ w ∷ []) ≡ true
      two true r = h
      two false r = all_append (is_resolved ps) vs (w ∷ []) h (and_from _ _ r refl)

      one : (b : Bool) → is_resolved ps w ≡ true → list_all (is_resolved ps) (if b then vs else with_want vs w) ≡ true
      one true r = h
      one false r = two (is_wanted w vs) r

all_linked : (qs ps : List Part) → list_all has_module qs ≡ true → list_all (has_all (meets ps)) qs ≡ true → list_all (is_linked ps) qs ≡ true
all_linked [] ps h g = refl
all_linked (p ∷ qs) ps h g =
    let some = and_parts (has_module p) (list_all has_module qs) h in
    let there = and_parts (has_all (meets ps) p) (list_all (has_all (meets ps)) qs) g in
    and_from _ _ (and_from _ _ some.0 (from_all (all_wants p.modules) (owns 0 p.modules) [] ps refl (wants_all p.modules ps there.0))) (all_linked qs ps some.1 there.1)

-- modules without faults make whole segments
pub whole : (ms : List Module) → list_all is_well_formed ms ≡ true → mains ms ≡ 1 → unresolved ms ≡ None → length (parts ms) ≤ 62 → entries_full (parts ms) ≡ None → segment_full (parts ms) ≡ None → IsWhole (parts ms)
whole ms h one there count entries words = record {
  count = count;
  fitting = all_fit (parts ms) entries words (all_in_parts is_well_formed ms ∙ h);
  linked = all_linked (parts ms) (parts ms) (all_have_modules ms) (all_in_parts (meets (parts ms)) ms ∙ all_met ms (callables ms) (parts ms) (home_there ms) h there);
  main = main_there ms one;
}

-- where no fault of names is found, each name that is wanted is there
pub names_none : (ms : List Module) → name_faults ms ≡ None → unresolved ms ≡ None
names_none ms h = by (doubled ms) (unresolved ms) h where
  by : (a b : Option (List ℕ)) → either (option_map Doubled a) (option_map Unresolved b) ≡ None → b ≡ None
  by None None h = refl
  by None (Some n) h = cc
  by (Some n) b h = cc

-- where no size is passed
pub sizes_none : (ps : List Part) → size_faults ps ≡ None → (entries_full ps ≡ None) × (segment_full ps ≡ None)
sizes_none ps h = by (entries_full ps) (segment_full ps) h where
  by : (a b : Option (List ℕ × ℕ)) → either (option_map (λ p. EntriesFull p.0 p.1) a) (option_map (λ p. SegmentFull p.0 p.1) b) ≡ None → (a ≡ None) × (b ≡ None)
  by None None h = (refl, refl)
  by None (Some n) h = cc
  by (Some n) b h = cc

-- there are as many segments as names, and fewer than 2 to the power 32
pub part_count : (ms : List Module) → length (parts ms) ≡ length (segment_names ms)
part_count ms = length-map (segment_names ms) (part_from ms)

-- there is none where it is none that there is
pub none_unless : {A : Type 0} (o : Option A) → ((x : A) → o ≡ Some x → ⊥) → o ≡ None
none_unless None h = refl
none_unless (Some x) h = absurd (h x refl)

-- where nothing is told there is no fault
pub quiet : (o : Option PrepFault) (r : Option Fault) → o ≡ None → option_map fault_of o ≡ option_map Some r → r ≡ None
quiet o r e h = none_told r (ap (option_map fault_of) (sym e) ∙ h)
