-- The words of a segment: those of its modules, which are within what stands there weighs, and its table, within its entries.
use Rattle.std.proofs.Common.{◌≡◌, ◌≤◌, ℕ, ◌+◌, Bool, true, false, if◌then◌else◌, List, [], ◌∷◌, refl, subst, arith}
use Rattle.spl_carries.specs.spl_meaning.Names.{same_name}
use Rattle.spl_carries.specs.spl_meaning.Places.{sum}
use Rattle.spl_carries.specs.spl_meaning.Bound.{unit_weight, entries}
use Rattle.spl_module_words.specs.spl_branch.declared.modules.Module.{Module}
use Rattle.spl_module_words.specs.Words.{words_in}
use Rattle.spl_module_words.proofs.Segments.{few_words}
use Rattle.spl_module_words.specs.mpe_segmenter.Names.{segment_of, segment_names, modules_of, Part}
use Rattle.spl_module_words.specs.mpe_segmenter.Counts.{entries_in, sizes}
use Rattle.spl_module_words.proofs.mpe_segmenter_proofs.PartLemmas.{equal_is}
use Rattle.spl_module_words.proofs.mpe_segmenter_proofs.NameLemmas.{same_self}
use Rattle.spl_bounds.specs.Bounds.{PartsKeepBounds}
use Rattle.spl_bounds.proofs.Entries.{few_entries, part_named}

turned : (x y : List ℕ) → same_name x y ≡ true → same_name y x ≡ true
turned x y is = subst (λ (z : List ℕ). same_name z x ≡ true) (equal_is x y is) (same_self x)

few_there : (x : List ℕ) (ms : List Module) → sizes (modules_of x ms) ≤ words_in x ms
few_there x [] = omega arith
few_there x (m ∷ ms) = by (same_name x (segment_of m)) (same_name (segment_of m) x) (turned x (segment_of m)) (few_there x ms)
  where
    by : (b c : Bool) → (b ≡ true → c ≡ true) → sizes (modules_of x ms) ≤ words_in x ms
        → sizes (if b then m ∷ modules_of x ms else modules_of x ms) ≤ (if c then m.size else 0) + words_in x ms
    by true true h rest = omega (arith, rest)
    by true false h rest = let e = h refl in cc
    by false true h rest = omega (arith, rest)
    by false false h rest = omega (arith, rest)

pub keep_bounds : PartsKeepBounds
keep_bounds us ms s q sound spelled within are there =
    let words = few_words us ms q.name sound spelled within are in
    let few = subst (λ (p : Part). sizes p.modules ≤ words_in q.name ms) (part_named ms (segment_names ms) s q there) (few_there q.name ms) in
    let entered = few_entries us ms s q sound are there in
    together (entries_in q) (sizes q.modules) (words_in q.name ms) (sum (unit_weight q.name) us) (entries us q.name) entered few words
  where
    together : (e s w u n : ℕ) → e ≤ n → s ≤ w → w ≤ u → (e + 1) + s ≤ (u + n) + 1
    together e s w u n h1 h2 h3 = omega (arith, h1, h2, h3)
