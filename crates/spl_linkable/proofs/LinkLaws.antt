-- Segments keep within what stands there weighs, so modules of linkable units have no fault.
-- 1. the modules of a segment have the words that are counted of its name     (part_few)
-- 2. segments are low of all modules of units if of some                      (low_same)
-- 3. low segments do not have too many words                                  (all_within)
use Rattle.std.proofs.Common.{◌≡◌, ◌≤◌, ℕ, zero, suc, ◌+◌, nat_eq, nat_le, Bool, true, false, if◌then◌else◌, ◌&&◌, List, [], ◌∷◌, map, Option, Some, None, slice_get, refl, sym, ap, subst, ◌∙◌, arith}
use Rattle.std.specs.List.{list_all}
use Rattle.std.specs.Prelude.{option_map}
use Rattle.std.proofs.lemmas.Bool.{and_parts, and_from, eq-eqb, leb-true, le-ltb}
use Rattle.spl_module_names.specs.spl_meaning.Names.{same_name}
use Rattle.spl_module_names.specs.spl_meaning.Tables.{Source}
use Rattle.spl_module_names.specs.spl_meaning.Places.{sum}
use Rattle.spl_module_names.specs.spl_meaning.Bound.{unit_weight}
use Rattle.spl_module_names.specs.spl_branch.declared.modules.Module.{Module}
use Rattle.spl_module_words.specs.spl_module_code.Modules.{AreModules}
use Rattle.spl_module_names.specs.mpe_segmenter.Names.{segment_of, segment_names, modules_of, Part, part_from, parts}
use Rattle.spl_module_names.specs.mpe_segmenter.Entries.{either}
use Rattle.spl_module_names.specs.mpe_segmenter.Counts.{passed_by, table_size, segment_full, sizes}
use Rattle.spl_module_names.specs.mpe_segmenter.Faults.{Fault, first_fault}
use Rattle.spl_module_words.proofs.spl_wanted_names_proofs.Intrinsics.{same_letters}
use Rattle.spl_module_words.specs.Words.{words_in}
use Rattle.spl_module_words.proofs.Segments.{few_words}
use Rattle.spl_module_names.specs.Outlines.{counted}
use Rattle.spl_module_names.specs.Faults.{counts_words}
use Rattle.spl_module_names.proofs.Through.{one_count}
use Rattle.spl_module_names.proofs.FaultLaws.{faults_agree, counts_none}
use Rattle.spl_linkable.specs.Linkable.{part_bound, is_low, KeepRules, NoModulesFail, NoFaultIsTold, SegmentsKeepBounds}

-- ---- 1. the words of a segment

same_self : (x : List ℕ) → same_name x x ≡ true
same_self [] = refl
same_self (a ∷ x) = and_from (nat_eq a a) (same_name x x) (eq-eqb a a refl) (same_self x)

turned : (x y : List ℕ) → same_name x y ≡ true → same_name y x ≡ true
turned x y is = ap (λ z. same_name y z) (same_letters x y is) ∙ same_self y

few_there : (x : List ℕ) (ms : List Module) → sizes (modules_of x ms) ≤ words_in x ms
few_there x [] = omega arith
few_there x (m ∷ ms) = by (same_name x (segment_of m)) (same_name (segment_of m) x) (turned x (segment_of m)) (few_there x ms)
  where
    by : (b c : Bool) → (b ≡ true → c ≡ true) → sizes (modules_of x ms) ≤ words_in x ms
        → sizes (if b then m ∷ modules_of x ms else modules_of x ms) ≤ (if c then m.size else 0) + words_in x ms
    by true true h rest = omega (arith, rest)
    by true false h rest = let e = h refl in cc
    by false true h rest = omega (arith, rest)
    by false false h rest = omega (arith, rest)

part_few : (ms : List Module) (names : List (List ℕ)) (s : ℕ) (q : Part) → slice_get (map (part_from ms) names) s ≡ Some q → sizes q.modules ≤ words_in q.name ms
part_few ms [] s q is = cc
part_few ms (x ∷ names) zero q is = let same : part_from ms x ≡ q = cc in subst (λ (p : Part). sizes p.modules ≤ words_in p.name ms) same (few_there x ms)
part_few ms (x ∷ names) (suc s) q is = part_few ms names s q is

-- ---- 2. low segments

low_by : List Source → List ℕ × ℕ → Bool
low_by us c = nat_le (sum (unit_weight c.0) us + (c.1 + 1)) 16383

low_counted : (us : List Source) (ps : List Part) → list_all (is_low us) ps ≡ list_all (low_by us) (map counted ps)
unfolding low_by
low_counted us [] = refl
low_counted us (p ∷ ps) = ap (λ b. is_low us p && b) (low_counted us ps)

low_same : (us : List Source) (ms ns : List Module) → AreModules us ms → AreModules us ns → list_all (is_low us) (parts ms) ≡ true → list_all (is_low us) (parts ns) ≡ true
low_same us ms ns are others low =
    low_counted us (parts ns) ∙ ap (list_all (low_by us)) (sym (one_count us ms ns are others)) ∙ sym (low_counted us (parts ms)) ∙ low

-- ---- 3. no segment has too many words

not_passed : (before : ℕ) (ms : List Module) → before + sizes ms ≤ 16383 → passed_by before ms ≡ None
not_passed before [] le = refl
not_passed before (m ∷ ms) le =
    ap (λ (b : Bool). if b then Some (before + m.size) else passed_by (before + m.size) ms) (le-ltb 16383 (before + m.size) (first before m.size (sizes ms) le))
    ∙ not_passed (before + m.size) ms (grouped before m.size (sizes ms) le)
  where
    first : (a b c : ℕ) → a + (b + c) ≤ 16383 → a + b ≤ 16383
    first a b c le = omega (arith, le)

    grouped : (a b c : ℕ) → a + (b + c) ≤ 16383 → (a + b) + c ≤ 16383
    grouped a b c le = omega (arith, le)

within_weight : (w s t : ℕ) → s ≤ w → w + t ≤ 16383 → t + s ≤ 16383
within_weight w s t few low = omega (arith, few, low)

all_within : (us : List Source) (ms : List Module) (names : List (List ℕ)) → ((x : List ℕ) → words_in x ms ≤ sum (unit_weight x) us)
    → list_all (is_low us) (map (part_from ms) names) ≡ true → segment_full (map (part_from ms) names) ≡ None
all_within us ms [] few low = refl
all_within us ms (x ∷ names) few low =
    let p : Part = part_from ms x in
    let both = and_parts (is_low us p) (list_all (is_low us) (map (part_from ms) names)) low in
    let sized = at_most (sizes p.modules) (words_in x ms) (sum (unit_weight x) us) (few_there x ms) (few x) in
    let fits = within_weight (sum (unit_weight x) us) (sizes p.modules) (table_size p) sized (leb-true (part_bound us p) 16383 both.0) in
    ap (λ (o : Option ℕ). either (option_map (λ w. (p.name, w)) o) (segment_full (map (part_from ms) names))) (not_passed (table_size p) p.modules fits)
    ∙ all_within us ms names few both.1
  where
    at_most : (a b c : ℕ) → a ≤ b → b ≤ c → a ≤ c
    at_most a b c le more = omega (arith, le, more)

words_few : (us : List Source) (ms : List Module) → KeepRules us → AreModules us ms → (x : List ℕ) → words_in x ms ≤ sum (unit_weight x) us
words_few us ms w are x = few_words us ms x w.sound w.spelled w.limits are

pub none_fail : NoModulesFail
none_fail us ms w l are = by (first_fault ms) refl
  where
    within : segment_full (parts ms) ≡ None
    within = all_within us ms (segment_names ms) (words_few us ms w are) (low_same us l.modules ms l.are_modules are l.low)

    clash : (b : Bool) {A : Type 0} → b ≡ true → b ≡ false → A
    clash true is other = cc
    clash false is other = cc

    by : (o : Option Fault) → first_fault ms ≡ o → o ≡ None
    by None is = refl
    by (Some x) is =
        let other = counts_none ms x within is in
        clash (counts_words x) (l.named x (faults_agree us ms l.modules x are l.are_modules is other)) other

pub none_told : NoFaultIsTold
none_told us f w l u = clash u.fails.fault (sym (none_fail us u.modules w l u.are_modules) ∙ u.fails.first)
  where
    clash : (x : Fault) → None ≡ Some x → ⊥
    clash x e = cc

pub keep_bounds : SegmentsKeepBounds
keep_bounds us p b s q w there =
    let size = b.linked.links.size s q there in
    let few = part_few b.modules (segment_names b.modules) s q there in
    let most = words_few us b.modules w b.are_modules q.name in
    omega (arith, size, few, most)
