-- What a unit defines and wants in a segment: no more than the calls and entries of what it declares there.
use Rattle.std.proofs.Common.{◌≡◌, ◌≤◌, ℕ, suc, ◌+◌, ◌||◌, nat_eq, Bool, true, false, if◌then◌else◌, List, [], ◌∷◌, ◌++◌, length, refl, sym, ap, ◌∙◌, arith}
use Rattle.std.proofs.lemmas.Bool.{eqb-true}
use Rattle.mpe_segmenter.specs.spl_tree.DeclarationTrees as decl
use Rattle.mpe_segmenter.specs.spl_tree.DeclarationTrees.{Declaration, Declarations, declarations}
use Rattle.mpe_segmenter.specs.spl_tree.StatementTrees.{statements}
use Rattle.spl_wanted_names.specs.spl_meaning.Tables.{Source}
use Rattle.spl_wanted_names.specs.spl_scopes.Entries.{Owner, routine, Entry, inner_entry, inner_entries, declared_entries, entries_among, routines_behind, in_segment, module_entries}
use Rattle.spl_wanted_names.specs.spl_module_code.Modules.{is_taken}
use Rattle.spl_wanted_names.specs.spl_few_calls.Calls.{calls_in, calls_within, declared_calls, all_declared_calls, unit_calls}
use Rattle.spl_wanted_names.specs.Counts.{all_inner_calls, calls_at, all_calls_at, main_calls_at, module_calls}

-- ---- of a segment

-- the calls and entries of a declaration, where it stands there
abbrev weight_at : ℕ → ℕ → Declaration → ℕ
weight_at seg g (decl.Declaration.procedure h items ss) = if nat_eq h.segment g then declared_calls (decl.Declaration.procedure h items ss) else 0
weight_at seg g (decl.Declaration.subroutine h s) = if nat_eq seg g then declared_calls (decl.Declaration.subroutine h s) else 0
weight_at seg g d = 0

abbrev all_weight_at : ℕ → ℕ → Declarations → ℕ
all_weight_at seg g decl.none = 0
all_weight_at seg g (decl.and d ds) = weight_at seg g d + all_weight_at seg g ds

-- of a unit
abbrev pub unit_weight_at : Source → ℕ → ℕ
unit_weight_at u g = all_weight_at u.tree.segment g (declarations u.tree.items) + main_calls_at g u

-- entries in order
in_both : (g : ℕ) (xs ys : List Entry) → length (in_segment g (xs ++ ys)) ≡ length (in_segment g xs) + length (in_segment g ys)
in_both g [] ys = omega arith
in_both g (e ∷ xs) ys = by (nat_eq e.segment g) (in_both g xs ys)
  where
    by : (b : Bool) → length (in_segment g (xs ++ ys)) ≡ length (in_segment g xs) + length (in_segment g ys)
        → length (if b then e ∷ in_segment g (xs ++ ys) else in_segment g (xs ++ ys)) ≡ length (if b then e ∷ in_segment g xs else in_segment g xs) + length (in_segment g ys)
    by true x = omega (arith, x)
    by false x = x

-- so many where a test holds
abbrev when : Bool → ℕ → ℕ
when b n = if b then n else 0

one_more : (g h : ℕ) (b : Bool) (e : Entry) (es : List Entry) → e.segment ≡ h → nat_eq h g ≡ b → length (in_segment g (e ∷ es)) ≡ when b 1 + length (in_segment g es)
one_more g h true e es at is = ap (λ k. length (if nat_eq k g then e ∷ in_segment g es else in_segment g es)) at ∙ ap (λ (b : Bool). length (if b then e ∷ in_segment g es else in_segment g es)) is ∙ counted (length (in_segment g es))
  where
    counted : (n : ℕ) → suc n ≡ 1 + n
    counted n = omega arith
one_more g h false e es at is = ap (λ k. length (if nat_eq k g then e ∷ in_segment g es else in_segment g es)) at ∙ ap (λ (b : Bool). length (if b then e ∷ in_segment g es else in_segment g es)) is ∙ counted (length (in_segment g es))
  where
    counted : (n : ℕ) → n ≡ 0 + n
    counted n = omega arith

-- a step of the count of subroutines
inner_step : (b : Bool) (n m k calls all : ℕ) → m ≡ when b 1 + n → n + when b k ≤ when b all → m + when b (calls + k) ≤ when b (suc calls + all)
inner_step true n m k calls all is le = omega (arith, is, le)
inner_step false n m k calls all is le = omega (arith, is, le)

inner_more : (b : Bool) (n k more all : ℕ) → n + when b k ≤ when b all → n + when b (0 + k) ≤ when b (more + all)
inner_more true n k more all le = omega (arith, le)
inner_more false n k more all le = omega (arith, le)

inner_first : (b : Bool) → 0 + when b 0 ≤ when b 0
inner_first true = omega arith
inner_first false = omega arith

inner_weight : (g h : ℕ) (o : Owner) (b : Bool) (ds : Declarations) → nat_eq h g ≡ b
    → length (in_segment g (inner_entries h o ds)) + when b (all_inner_calls ds) ≤ when b (all_declared_calls ds)
inner_weight g h o b decl.none is = inner_first b
inner_weight g h o b (decl.and (decl.Declaration.subroutine k s) ds) is =
    inner_step b (length (in_segment g (inner_entries h o ds))) (length (in_segment g (inner_entry h o (decl.Declaration.subroutine k s) ++ inner_entries h o ds)))
    (all_inner_calls ds) (calls_in s) (all_declared_calls ds) (one_more g h b _ (inner_entries h o ds) refl is) (inner_weight g h o b ds is)
inner_weight g h o b (decl.and (decl.Declaration.procedure k items ss) ds) is =
    inner_more b (length (in_segment g (inner_entries h o ds))) (all_inner_calls ds) (declared_calls (decl.Declaration.procedure k items ss)) (all_declared_calls ds)
    (inner_weight g h o b ds is)
inner_weight g h o b (decl.and (decl.Declaration.data_items own k items) ds) is =
    inner_more b (length (in_segment g (inner_entries h o ds))) (all_inner_calls ds) 0 (all_declared_calls ds) (inner_weight g h o b ds is)
inner_weight g h o b (decl.and (decl.Declaration.equate xs) ds) is =
    inner_more b (length (in_segment g (inner_entries h o ds))) (all_inner_calls ds) 0 (all_declared_calls ds) (inner_weight g h o b ds is)
inner_weight g h o b (decl.and (decl.Declaration.intrinsic xs) ds) is =
    inner_more b (length (in_segment g (inner_entries h o ds))) (all_inner_calls ds) 0 (all_declared_calls ds) (inner_weight g h o b ds is)
inner_weight g h o b (decl.and (decl.Declaration.label xs) ds) is =
    inner_more b (length (in_segment g (inner_entries h o ds))) (all_inner_calls ds) 0 (all_declared_calls ds) (inner_weight g h o b ds is)
inner_weight g h o b (decl.and (decl.Declaration.forward k) ds) is =
    inner_more b (length (in_segment g (inner_entries h o ds))) (all_inner_calls ds) 0 (all_declared_calls ds) (inner_weight g h o b ds is)
inner_weight g h o b (decl.and (decl.Declaration.external k) ds) is =
    inner_more b (length (in_segment g (inner_entries h o ds))) (all_inner_calls ds) 0 (all_declared_calls ds) (inner_weight g h o b ds is)

routine_step : (b : Bool) (n m k all within : ℕ) → m ≡ when b 1 + n → n + when b k ≤ when b all → m + when b (k + within) ≤ when b (suc (all + within))
routine_step true n m k all within is le = omega (arith, is, le)
routine_step false n m k all within is le = omega (arith, is, le)

single_step : (b : Bool) (m calls : ℕ) → m ≡ when b 1 + 0 → m + when b calls ≤ when b (suc calls)
single_step true m calls is = omega (arith, is)
single_step false m calls is = omega (arith, is)

-- a declaration of a unit
declared_weight : (seg g n : ℕ) (d : Declaration) → length (in_segment g (declared_entries seg n d)) + calls_at seg g d ≤ weight_at seg g d
declared_weight seg g n (decl.Declaration.procedure h items ss) =
    routine_step (nat_eq h.segment g) (length (in_segment g (inner_entries h.segment (routine n) items)))
    (length (in_segment g (declared_entries seg n (decl.Declaration.procedure h items ss)))) (all_inner_calls items) (all_declared_calls items)
    (calls_within (statements ss)) (one_more g h.segment (nat_eq h.segment g) _ (inner_entries h.segment (routine n) items) refl refl)
    (inner_weight g h.segment (routine n) (nat_eq h.segment g) items refl)
declared_weight seg g n (decl.Declaration.subroutine h s) =
    single_step (nat_eq seg g) (length (in_segment g (declared_entries seg n (decl.Declaration.subroutine h s)))) (calls_in s)
    (one_more g seg (nat_eq seg g) _ [] refl refl)
declared_weight seg g n (decl.Declaration.data_items own k items) = omega arith
declared_weight seg g n (decl.Declaration.equate es) = omega arith
declared_weight seg g n (decl.Declaration.intrinsic xs) = omega arith
declared_weight seg g n (decl.Declaration.label xs) = omega arith
declared_weight seg g n (decl.Declaration.forward h) = omega arith
declared_weight seg g n (decl.Declaration.external h) = omega arith

declarations_weight : (seg g n : ℕ) (ds : Declarations) → length (in_segment g (entries_among seg n ds)) + all_calls_at seg g ds ≤ all_weight_at seg g ds
declarations_weight seg g n decl.none = omega arith
declarations_weight seg g n (decl.and d ds) =
    let split = in_both g (declared_entries seg n d) (entries_among seg (routines_behind n d) ds) in
    let one = declared_weight seg g n d in
    let rest = declarations_weight seg g (routines_behind n d) ds in
    omega (arith, split, one, rest)

-- of a unit in a segment
pub module_weight : (u : Source) (g : ℕ) → length (module_entries u g) + module_calls u g ≤ unit_weight_at u g
module_weight u g = let ds = declarations_weight u.tree.segment g 0 (declarations u.tree.items) in omega (arith, ds)

-- ---- of the segments that are left

abbrev left_of : ℕ → List ℕ → Declaration → ℕ
left_of seg taken (decl.Declaration.procedure h items ss) = if is_taken h.segment taken then 0 else declared_calls (decl.Declaration.procedure h items ss)
left_of seg taken (decl.Declaration.subroutine h s) = if is_taken seg taken then 0 else declared_calls (decl.Declaration.subroutine h s)
left_of seg taken d = 0

abbrev all_left_of : ℕ → List ℕ → Declarations → ℕ
all_left_of seg taken decl.none = 0
all_left_of seg taken (decl.and d ds) = left_of seg taken d + all_left_of seg taken ds

-- the calls of the main body
abbrev main_weight : Source → ℕ
main_weight u = suc (calls_within (statements u.tree.statements))

abbrev pub unit_left : Source → List ℕ → ℕ
unit_left u taken = all_left_of u.tree.segment taken (declarations u.tree.items) + (if is_taken u.tree.segment taken then 0 else main_weight u)

-- a segment that is taken, too, has its part of what was left
split_one : (x g w : ℕ) (taken : List ℕ) → is_taken g taken ≡ false
    → (if is_taken x taken then 0 else w) ≡ (if nat_eq x g then w else 0) + (if is_taken x (g ∷ taken) then 0 else w)
split_one x g w taken free = by (nat_eq x g) refl (is_taken x taken) refl
  where
    by : (b : Bool) → nat_eq x g ≡ b → (t : Bool) → is_taken x taken ≡ t → (if t then 0 else w) ≡ (if b then w else 0) + (if b || t then 0 else w)
    by true same true there =
        let e : is_taken x taken ≡ false = ap (λ k. is_taken k taken) (eqb-true x g same) ∙ free in
        let clash = sym there ∙ e in cc
    by true same false there = omega arith
    by false other true there = omega arith
    by false other false there = omega arith

split_declared : (seg g : ℕ) (taken : List ℕ) (d : Declaration) → is_taken g taken ≡ false → left_of seg taken d ≡ weight_at seg g d + left_of seg (g ∷ taken) d
split_declared seg g taken (decl.Declaration.procedure h items ss) free = split_one h.segment g (declared_calls (decl.Declaration.procedure h items ss)) taken free
split_declared seg g taken (decl.Declaration.subroutine h s) free = split_one seg g (declared_calls (decl.Declaration.subroutine h s)) taken free
split_declared seg g taken (decl.Declaration.data_items own k items) free = omega arith
split_declared seg g taken (decl.Declaration.equate es) free = omega arith
split_declared seg g taken (decl.Declaration.intrinsic xs) free = omega arith
split_declared seg g taken (decl.Declaration.label xs) free = omega arith
split_declared seg g taken (decl.Declaration.forward h) free = omega arith
split_declared seg g taken (decl.Declaration.external h) free = omega arith

split_declarations : (seg g : ℕ) (taken : List ℕ) (ds : Declarations) → is_taken g taken ≡ false → all_left_of seg taken ds ≡ all_weight_at seg g ds + all_left_of seg (g ∷ taken) ds
split_declarations seg g taken decl.none free = omega arith
split_declarations seg g taken (decl.and d ds) free =
    let one = split_declared seg g taken d free in let rest = split_declarations seg g taken ds free in omega (arith, one, rest)

pub split_unit : (u : Source) (g : ℕ) (taken : List ℕ) → is_taken g taken ≡ false → unit_left u taken ≡ unit_weight_at u g + unit_left u (g ∷ taken)
split_unit u g taken free =
    let ds = split_declarations u.tree.segment g taken (declarations u.tree.items) free in
    let one = split_one u.tree.segment g (main_weight u) taken free in
    omega (arith, ds, one)

-- at first all is left
declared_first : (seg : ℕ) (d : Declaration) → left_of seg [] d ≡ declared_calls d
declared_first seg (decl.Declaration.procedure h items ss) = refl
declared_first seg (decl.Declaration.subroutine h s) = refl
declared_first seg (decl.Declaration.data_items own k items) = refl
declared_first seg (decl.Declaration.equate es) = refl
declared_first seg (decl.Declaration.intrinsic xs) = refl
declared_first seg (decl.Declaration.label xs) = refl
declared_first seg (decl.Declaration.forward h) = refl
declared_first seg (decl.Declaration.external h) = refl

all_first : (seg : ℕ) (ds : Declarations) → all_left_of seg [] ds ≡ all_declared_calls ds
all_first seg decl.none = refl
all_first seg (decl.and d ds) = let one = declared_first seg d in let rest = all_first seg ds in omega (arith, one, rest)

pub left_first : (u : Source) → unit_left u [] ≡ unit_calls u.tree
left_first u = ap (λ n. n + main_weight u) (all_first u.tree.segment (declarations u.tree.items))
