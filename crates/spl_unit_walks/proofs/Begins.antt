-- Before the first declaration of a unit the marks of all entries may be set.
use Rattle.std.proofs.Common.{◌≡◌, ℕ, suc, ◌+◌, Bool, true, false, if◌then◌else◌, nat_eq, List, [], ◌∷◌, ◌++◌, length, replicate, refl, sym, ap, ◌∙◌, arith}
use Rattle.std.specs.Prelude.{not, ◌&&◌}
use Rattle.std.proofs.lemmas.List.{append-nil}
use Rattle.spl_tree.specs.DeclarationTrees as decl
use Rattle.spl_tree.specs.DeclarationTrees.{Declaration, Declarations, declarations}
use Rattle.spl_sound.specs.spl_meaning.Tables.{Source}
use Rattle.spl_unit_laws.specs.spl_scopes.Entries.{Entry, Owner, main, routine, inner_entry, inner_entries, declared_entries, routines_behind, entries_among, in_segment, module_entries}
use Rattle.spl_unit_laws.specs.spl_modules.Entered.{Walk}
use Rattle.spl_unit_laws.specs.spl_modules.Made.{made_from}
use Rattle.spl_unit_laws.specs.spl_modules.UnitModules.{IsUnitModules}
use Rattle.spl_unit_laws.specs.spl_routine_code.Routines.{inner_count, inners_among}
use Rattle.spl_unit_laws.specs.spl_unit_codes.declared.growing.Growing.{Growing}
use Rattle.spl_unit_laws.specs.spl_unit_codes.Begun.{AreBegun}
use Rattle.spl_unit_laws.specs.Steps.{entry_count, entries_count, main_count, AreFree}

-- ---- how many entries there are in a segment

one_first : (b : Bool) (x : Entry) (es fs : List Entry) (n : ℕ) → length fs ≡ length es + n → length (if b then x ∷ fs else fs) ≡ length (if b then x ∷ es else es) + n
one_first true x es fs n is = omega (arith, is)
one_first false x es fs n is = is

count_append : (g : ℕ) (xs ys : List Entry) → length (in_segment g (xs ++ ys)) ≡ length (in_segment g xs) + length (in_segment g ys)
count_append g [] ys = omega arith
count_append g (x ∷ xs) ys = one_first (nat_eq x.segment g) x (in_segment g xs) (in_segment g (xs ++ ys)) (length (in_segment g ys)) (count_append g xs ys)

none_there : (b : Bool) → ◌≡◌ {A = ℕ} 0 (if b then 0 else 0)
none_there true = refl
none_there false = refl

one_there : (b : Bool) (e : Entry) → length (if b then e ∷ [] else []) ≡ (if b then 1 else 0)
one_there true e = refl
one_there false e = refl

inner_one : (g seg : ℕ) (o : Owner) (d : Declaration) → length (in_segment g (inner_entry seg o d)) ≡ (if nat_eq seg g then inner_count d else 0)
inner_one g seg o (decl.Declaration.subroutine h s) = one_there (nat_eq seg g) _
inner_one g seg o (decl.Declaration.data_items own k items) = none_there (nat_eq seg g)
inner_one g seg o (decl.Declaration.equate es) = none_there (nat_eq seg g)
inner_one g seg o (decl.Declaration.intrinsic xs) = none_there (nat_eq seg g)
inner_one g seg o (decl.Declaration.label xs) = none_there (nat_eq seg g)
inner_one g seg o (decl.Declaration.forward h) = none_there (nat_eq seg g)
inner_one g seg o (decl.Declaration.external h) = none_there (nat_eq seg g)
inner_one g seg o (decl.Declaration.procedure h items ss) = none_there (nat_eq seg g)

both_there : (b : Bool) (a c m n : ℕ) → m ≡ (if b then a else 0) → n ≡ (if b then c else 0) → m + n ≡ (if b then a + c else 0)
both_there true a c m n x y = omega (arith, x, y)
both_there false a c m n x y = omega (arith, x, y)

inner_all : (g seg : ℕ) (o : Owner) (ds : Declarations) → length (in_segment g (inner_entries seg o ds)) ≡ (if nat_eq seg g then inners_among ds else 0)
inner_all g seg o decl.none = none_there (nat_eq seg g)
inner_all g seg o (decl.and d ds) =
    count_append g (inner_entry seg o d) (inner_entries seg o ds)
    ∙ both_there (nat_eq seg g) (inner_count d) (inners_among ds) (length (in_segment g (inner_entry seg o d))) (length (in_segment g (inner_entries seg o ds)))
    (inner_one g seg o d) (inner_all g seg o ds)

first_there : (b : Bool) (e : Entry) (es : List Entry) (n : ℕ) → length es ≡ (if b then n else 0) → length (if b then e ∷ es else es) ≡ (if b then 1 + n else 0)
first_there true e es n is = omega (arith, is)
first_there false e es n is = is

declared_count : (seg g n : ℕ) (d : Declaration) → length (in_segment g (declared_entries seg n d)) ≡ entry_count seg g d
declared_count seg g n (decl.Declaration.procedure h items ss) =
    first_there (nat_eq h.segment g) _ (in_segment g (inner_entries h.segment (routine n) items)) (inners_among items) (inner_all g h.segment (routine n) items)
declared_count seg g n (decl.Declaration.subroutine h s) = inner_one g seg main (decl.Declaration.subroutine h s)
declared_count seg g n (decl.Declaration.data_items own k items) = refl
declared_count seg g n (decl.Declaration.equate es) = refl
declared_count seg g n (decl.Declaration.intrinsic xs) = refl
declared_count seg g n (decl.Declaration.label xs) = refl
declared_count seg g n (decl.Declaration.forward h) = refl
declared_count seg g n (decl.Declaration.external h) = refl

among_count : (seg g n : ℕ) (ds : Declarations) → length (in_segment g (entries_among seg n ds)) ≡ entries_count seg g ds
among_count seg g n decl.none = refl
among_count seg g n (decl.and d ds) =
    count_append g (declared_entries seg n d) (entries_among seg (routines_behind n d) ds)
    ∙ ap (λ k. k + length (in_segment g (entries_among seg (routines_behind n d) ds))) (declared_count seg g n d)
    ∙ ap (λ k. entry_count seg g d + k) (among_count seg g (routines_behind n d) ds)

made_count : (k : ℕ) (es : List Entry) → length (made_from k es) ≡ length es
made_count k [] = refl
made_count k (e ∷ es) = ap suc (made_count (suc k) es)

main_same : (s b : Bool) → ◌≡◌ {A = ℕ} (if not s && b then 1 else 0) (if s then 0 else if b then 1 else 0)
main_same true true = refl
main_same true false = refl
main_same false true = refl
main_same false false = refl

-- ---- the marks

pub free_begun : (u : Source) (w : Walk) (parts : List Growing) → IsUnitModules u w → AreBegun u w.entered.made parts
    → AreFree u.subprogram u.tree.segment (declarations u.tree.items) parts
free_begun u w parts modules begun g x at =
    let b = (begun.each g x at).2 in
    let n : ℕ = entries_count u.tree.segment g (declarations u.tree.items) + main_count u.subprogram u.tree.segment g in
    let count : length (w.entered.made g) ≡ entries_count u.tree.segment g (declarations u.tree.items) =
    ap length (modules.made g) ∙ made_count 0 (module_entries u g) ∙ among_count u.tree.segment g 0 (declarations u.tree.items) in
    let marks : x.code.marks.items ≡ replicate n false =
    b.marks ∙ ap (λ k. replicate (k + (if not u.subprogram && nat_eq u.tree.segment g then 1 else 0)) false) count
    ∙ ap (λ k. replicate (entries_count u.tree.segment g (declarations u.tree.items) + k) false) (main_same u.subprogram (nat_eq u.tree.segment g)) in
    record {
      others = 0;
      is = marks ∙ sym (append-nil (replicate n false)) ∙ ap (λ k. replicate k true ++ (replicate n false ++ replicate 0 true)) (sym b.done);
    }
