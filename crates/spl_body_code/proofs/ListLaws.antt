-- The cells and initial values of a list of declarations are paid by its items, and the zeros of arrays by the items of arrays.
-- 1. a name more adds its own words at most, and none where it was there   (declared_cells, declared_arrays)
-- 2. so with items, and with the names of other declarations              (items_cells, items_arrays)
-- 3. an item pays for its cell and its value, and a declaration in which an array stands 88 words besides (declaration_pays)
use Rattle.std.proofs.Common.{◌≡◌, ◌≤◌, ℕ, ◌+◌, Bool, true, false, if◌then◌else◌, List, [], ◌∷◌, ◌++◌, map, is_some, Option, Some, None, refl, sym, ◌∙◌, arith}
use Rattle.std.proofs.lemmas.Bool.{false≢true}
use Rattle.spl_code.specs.hp_word.declared.intrinsics.Intrinsic.{Intrinsic}
use Rattle.spl_code.specs.spl_tree.declared.expressions.Kind.{Kind}
use Rattle.spl_code.specs.spl_tree.Trees as tree
use Rattle.spl_code.specs.spl_tree.Trees.{Constant}
use Rattle.spl_code.specs.spl_tree.DeclarationTrees as decl
use Rattle.spl_code.specs.spl_tree.DeclarationTrees.{Placed, Equal, Item, Declaration, Declarations}
use Rattle.spl_code.specs.spl_meaning.Names as n
use Rattle.spl_code.specs.spl_meaning.Names.{Names, Sort, Table, Formal, find, within, same_flag, parameters, sort_by, profile_of, constant_or_zero, sum_value, kept_value, intrinsic_named}
use Rattle.spl_code.specs.spl_meaning.Tables.{Subroutine, declared, shaped, with_items, with_equates, with_intrinsics, with_labels, with_declaration, with_declarations, intrinsic_sort, subroutine_in, subroutines_among}
use Rattle.spl_code.specs.spl_meaning.Stops.{declaration_stops}
use Rattle.spl_code.specs.spl_meaning.Places.{Place, Array, Initial, array_words, where_own, sum, list_array_words, start_of, initial_at, item_initials, declaration_initials, initials_among}
use Rattle.spl_code.specs.spl_meaning.Bound.{constant_weight, shape_weight, item_weight, declaration_weight, declarations_weight, subroutine_weight, subroutines_weight}
use Rattle.spl_code.specs.spl_branch.Pieces.{count_of}
use Rattle.spl_code.proofs.CountLemmas.{count_append}
use Rattle.spl_body_code.specs.Cells.{initial_set, initials_set}
use Rattle.spl_body_code.proofs.CountLemmas.{cell_most, cells_most, few_first}

-- ---- sums along lists

sum_append : {A : Type 0} (f : A → ℕ) (xs ys : List A) → sum f (xs ++ ys) ≡ sum f xs + sum f ys
sum_append f [] ys = omega arith
sum_append f (x ∷ xs) ys = omega (arith, sum_append f xs ys)

-- a table with a name more, or not
sum_if : (f : List ℕ × Sort → ℕ) (b : Bool) (t : Table Sort) (e : List ℕ × Sort) → sum f (if b then t else t ++ e ∷ []) ≤ sum f t + f e
sum_if f true t e = omega arith
sum_if f false t e = omega (arith, sum_append f t (e ∷ []))

-- the same without a name that adds nothing
sum_same : (f : List ℕ × Sort → ℕ) (b : Bool) (t : Table Sort) (e : List ℕ × Sort) → f e ≡ 0 → sum f (if b then t else t ++ e ∷ []) ≡ sum f t
sum_same f true t e none = refl
sum_same f false t e none = omega (arith, sum_append f t (e ∷ []))

declared_cells : (t : Table Sort) (x : List ℕ) (s : Sort) → cells_most (declared t x s) ≤ cells_most t + cell_most s
declared_cells t x s = sum_if (λ e. cell_most e.1) (is_some (find t x)) t (x, s)

declared_no_cell : (t : Table Sort) (x : List ℕ) (s : Sort) → cell_most s ≡ 0 → cells_most (declared t x s) ≡ cells_most t
declared_no_cell t x s none = sum_same (λ e. cell_most e.1) (is_some (find t x)) t (x, s) none

declared_no_array : (t : Table Sort) (x : List ℕ) (s : Sort) → where_own false array_words s ≡ 0
    → list_array_words false (declared t x s) ≡ list_array_words false t
declared_no_array t x s none = sum_same (λ e. where_own false array_words e.1) (is_some (find t x)) t (x, s) none

-- ---- shapes

-- the words of the cell that an item of a shape may have
abbrev shape_most : decl.Shape → ℕ
shape_most decl.Shape.simple = 0
shape_most (decl.Shape.array low high) = 8
shape_most (decl.Shape.view base) = 8
shape_most decl.Shape.pointer = 0

-- whether a shape is that of an array
abbrev is_array : decl.Shape → Bool
is_array decl.Shape.simple = false
is_array (decl.Shape.array low high) = true
is_array (decl.Shape.view base) = false
is_array decl.Shape.pointer = false

shaped_cell : (names : Names) (own : Bool) (k : Kind) (s : decl.Shape) → cell_most (shaped names own k s) ≡ shape_most s
shaped_cell names own k decl.Shape.simple = refl
shaped_cell names own k (decl.Shape.array low high) = refl
shaped_cell names own k (decl.Shape.view base) = refl
shaped_cell names own k decl.Shape.pointer = refl

-- of an item that is no array, OWN or not
none_where : (b : Bool) → let n : ℕ = if b then 0 else 0 in n ≡ 0
none_where true = refl
none_where false = refl

shaped_no_array : (names : Names) (own : Bool) (k : Kind) (s : decl.Shape) → is_array s ≡ false → where_own false array_words (shaped names own k s) ≡ 0
shaped_no_array names own k decl.Shape.simple is = none_where own
shaped_no_array names own k (decl.Shape.array low high) is = absurd (false≢true (sym is))
shaped_no_array names own k (decl.Shape.view base) is = none_where own
shaped_no_array names own k decl.Shape.pointer is = none_where own

-- ---- items

-- the words of cells and of initial values that items may have
abbrev shapes_most : List Item → ℕ
shapes_most is = sum (λ i. shape_most i.shape) is

abbrev values_most : List Item → ℕ
values_most is = sum (λ i. sum constant_weight i.first) is

-- whether an array is among items
abbrev any_array : List Item → Bool
any_array [] = false
any_array (i ∷ is) = if is_array i.shape then true else any_array is

items_cells : (outer : Names) (own : Bool) (k : Kind) (t : Table Sort) (is : List Item) → cells_most (with_items outer own k t is) ≤ cells_most t + shapes_most is
items_cells outer own k t [] = omega arith
items_cells outer own k t (i ∷ is) =
    let s : Sort = shaped (within t outer) own k i.shape in
    let rest = items_cells outer own k (declared t i.name s) is in
    let one = declared_cells t i.name s in
    let same = shaped_cell (within t outer) own k i.shape in
    omega arith

-- no array in the first, nor among the others
not_first : (a b : Bool) → (if a then true else b) ≡ false → a ≡ false
not_first true b is = absurd (false≢true (sym is))
not_first false b is = refl

not_others : (a b : Bool) → (if a then true else b) ≡ false → b ≡ false
not_others true b is = absurd (false≢true (sym is))
not_others false b is = is

items_arrays : (outer : Names) (own : Bool) (k : Kind) (t : Table Sort) (is : List Item) → any_array is ≡ false
    → list_array_words false (with_items outer own k t is) ≡ list_array_words false t
items_arrays outer own k t [] none = refl
items_arrays outer own k t (i ∷ is) none =
    let s : Sort = shaped (within t outer) own k i.shape in
    items_arrays outer own k (declared t i.name s) is (not_others (is_array i.shape) (any_array is) none)
    ∙ declared_no_array t i.name s (shaped_no_array (within t outer) own k i.shape (not_first (is_array i.shape) (any_array is) none))

constant_least : (c : Constant) → 24 ≤ constant_weight c
constant_least (tree.Constant.number minus v) = omega arith
constant_least (tree.Constant.wide minus v) = omega arith
constant_least (tree.Constant.text bytes) = omega arith
constant_least (tree.Constant.truth b) = omega arith
constant_least (tree.Constant.name x at) = omega arith

-- the values of an item are paid by its constants
few_values : (place : Option Place) (k : Kind) (names : Names) (cs : List Constant)
    → count_of (initials_set (initial_at place k (map (constant_or_zero names) cs))) ≤ sum constant_weight cs
few_values None k names cs = omega arith
few_values (Some x) k names [] = omega arith
few_values (Some x) k names (c ∷ cs) =
    let few = few_first x k (constant_or_zero names c) (map (constant_or_zero names) cs) in
    let least = constant_least c in
    let both = count_append (initial_set (record { from = x; kind = k; values = map (constant_or_zero names) (c ∷ cs) })) [] in
    omega arith

initials_append : (xs ys : List Initial) → count_of (initials_set (xs ++ ys)) ≡ count_of (initials_set xs) + count_of (initials_set ys)
initials_append [] ys = omega arith
initials_append (x ∷ xs) ys =
    omega (arith, initials_append xs ys, count_append (initial_set x) (initials_set xs), count_append (initial_set x) (initials_set (xs ++ ys)))

items_values : (outer : Names) (own : Bool) (k : Kind) (places : Table Place) (arrays : Table Array) (t : Table Sort) (is : List Item)
    → count_of (initials_set (item_initials outer own k places arrays t is)) ≤ values_most is
items_values outer own k places arrays t [] = omega arith
items_values outer own k places arrays t (i ∷ is) =
    let s : Sort = shaped (within t outer) own k i.shape in
    let place = start_of (find places i.name) (find arrays i.name) in
    let one = few_values place k (within t outer) i.first in
    let rest = items_values outer own k places arrays (declared t i.name s) is in
    let both = initials_append (initial_at place k (map (constant_or_zero (within t outer)) i.first)) (item_initials outer own k places arrays (declared t i.name s) is) in
    omega arith

-- an item pays for its cell and for its value, and one of an array 64 words besides
shape_pays : (s : decl.Shape) → shape_most s + (if is_array s then 64 else 0) ≤ 24 + shape_weight s
shape_pays decl.Shape.simple = omega arith
shape_pays (decl.Shape.array low high) = omega (arith, constant_least low, constant_least high)
shape_pays (decl.Shape.view base) = omega arith
shape_pays decl.Shape.pointer = omega arith

either_pays : (a b : Bool) (x y m n : ℕ) → x + (if a then 64 else 0) ≤ m → y + (if b then 64 else 0) ≤ n
    → x + y + (if (if a then true else b) then 64 else 0) ≤ m + n
either_pays true true x y m n p q = omega arith
either_pays true false x y m n p q = omega arith
either_pays false b x y m n p q = omega arith

items_pay : (is : List Item) → shapes_most is + values_most is + (if any_array is then 64 else 0) ≤ sum item_weight is
items_pay [] = omega arith
items_pay (i ∷ is) =
    let first = shape_pays i.shape in
    let all = either_pays (is_array i.shape) (any_array is) (shape_most i.shape) (shapes_most is + values_most is) (24 + shape_weight i.shape) (sum item_weight is) first (items_pay is) in
    omega arith

-- ---- declarations

equates_cells : (outer : Names) (t : Table Sort) (es : List Equal) → cells_most (with_equates outer t es) ≡ cells_most t
equates_cells outer t [] = refl
equates_cells outer t (e ∷ es) =
    let s : Sort = n.equate (kept_value (sum_value (within t outer) e.terms)) in
    equates_cells outer (declared t e.name s) es ∙ declared_no_cell t e.name s refl

intrinsic_cell : (i : Option Intrinsic) → cell_most (intrinsic_sort i) ≡ 0
intrinsic_cell (Some i) = refl
intrinsic_cell None = refl

intrinsics_cells : (t : Table Sort) (xs : List Placed) → cells_most (with_intrinsics t xs) ≡ cells_most t
intrinsics_cells t [] = refl
intrinsics_cells t (x ∷ xs) =
    let s : Sort = intrinsic_sort (intrinsic_named x.letters) in
    intrinsics_cells (declared t x.letters s) xs ∙ declared_no_cell t x.letters s (intrinsic_cell (intrinsic_named x.letters))

labels_cells : (t : Table Sort) (xs : List Placed) → cells_most (with_labels t xs) ≡ cells_most t
labels_cells t [] = refl
labels_cells t (x ∷ xs) = labels_cells (declared t x.letters n.label) xs ∙ declared_no_cell t x.letters n.label refl

equates_arrays : (outer : Names) (t : Table Sort) (es : List Equal) → list_array_words false (with_equates outer t es) ≡ list_array_words false t
equates_arrays outer t [] = refl
equates_arrays outer t (e ∷ es) =
    let s : Sort = n.equate (kept_value (sum_value (within t outer) e.terms)) in
    equates_arrays outer (declared t e.name s) es ∙ declared_no_array t e.name s refl

intrinsic_array : (i : Option Intrinsic) → where_own false array_words (intrinsic_sort i) ≡ 0
intrinsic_array (Some i) = refl
intrinsic_array None = refl

intrinsics_arrays : (t : Table Sort) (xs : List Placed) → list_array_words false (with_intrinsics t xs) ≡ list_array_words false t
intrinsics_arrays t [] = refl
intrinsics_arrays t (x ∷ xs) =
    let s : Sort = intrinsic_sort (intrinsic_named x.letters) in
    intrinsics_arrays (declared t x.letters s) xs ∙ declared_no_array t x.letters s (intrinsic_array (intrinsic_named x.letters))

labels_arrays : (t : Table Sort) (xs : List Placed) → list_array_words false (with_labels t xs) ≡ list_array_words false t
labels_arrays t [] = refl
labels_arrays t (x ∷ xs) = labels_arrays (declared t x.letters n.label) xs ∙ declared_no_array t x.letters n.label refl

-- the words of cells and of initial values that a declaration may have, and whether an array is among its items
abbrev cells_in : Declaration → ℕ
cells_in (decl.Declaration.data_items own k is) = shapes_most is
cells_in _ = 0

abbrev values_in : Declaration → ℕ
values_in (decl.Declaration.data_items own k is) = values_most is
values_in _ = 0

abbrev array_in : Declaration → Bool
array_in (decl.Declaration.data_items own k is) = any_array is
array_in _ = false

declaration_cells : (outer : Names) (t : Table Sort) (d : Declaration) → cells_most (with_declaration outer t d) ≤ cells_most t + cells_in d
declaration_cells outer t (decl.Declaration.data_items own k is) = items_cells outer own k t is
declaration_cells outer t (decl.Declaration.equate es) = omega (arith, equates_cells outer t es)
declaration_cells outer t (decl.Declaration.intrinsic xs) = omega (arith, intrinsics_cells t xs)
declaration_cells outer t (decl.Declaration.label xs) = omega (arith, labels_cells t xs)
declaration_cells outer t (decl.Declaration.forward h) = omega (arith, declared_no_cell t h.name (n.procedure (profile_of h)) refl)
declaration_cells outer t (decl.Declaration.external h) = omega (arith, declared_no_cell t h.name (n.procedure (profile_of h)) refl)
declaration_cells outer t (decl.Declaration.procedure h is ss) = omega (arith, declared_no_cell t h.name (n.procedure (profile_of h)) refl)
declaration_cells outer t (decl.Declaration.subroutine h s) = omega (arith, declared_no_cell t h.name (n.subroutine (profile_of h)) refl)

declaration_arrays : (outer : Names) (t : Table Sort) (d : Declaration) → array_in d ≡ false
    → list_array_words false (with_declaration outer t d) ≡ list_array_words false t
declaration_arrays outer t (decl.Declaration.data_items own k is) none = items_arrays outer own k t is none
declaration_arrays outer t (decl.Declaration.equate es) none = equates_arrays outer t es
declaration_arrays outer t (decl.Declaration.intrinsic xs) none = intrinsics_arrays t xs
declaration_arrays outer t (decl.Declaration.label xs) none = labels_arrays t xs
declaration_arrays outer t (decl.Declaration.forward h) none = declared_no_array t h.name (n.procedure (profile_of h)) refl
declaration_arrays outer t (decl.Declaration.external h) none = declared_no_array t h.name (n.procedure (profile_of h)) refl
declaration_arrays outer t (decl.Declaration.procedure h is ss) none = declared_no_array t h.name (n.procedure (profile_of h)) refl
declaration_arrays outer t (decl.Declaration.subroutine h s) none = declared_no_array t h.name (n.subroutine (profile_of h)) refl

-- initial values of items that are OWN, or of those that are not
values_where : (b : Bool) (outer : Names) (own : Bool) (k : Kind) (places : Table Place) (arrays : Table Array) (t : Table Sort) (is : List Item)
    → count_of (initials_set (if b then item_initials outer own k places arrays t is else [])) ≤ values_most is
values_where true outer own k places arrays t is = items_values outer own k places arrays t is
values_where false outer own k places arrays t is = omega arith

declaration_values : (own : Bool) (outer : Names) (places : Table Place) (arrays : Table Array) (t : Table Sort) (d : Declaration)
    → count_of (initials_set (declaration_initials own outer places arrays t d)) ≤ values_in d
declaration_values own outer places arrays t (decl.Declaration.data_items kept k is) = values_where (same_flag own kept) outer kept k places arrays t is
declaration_values own outer places arrays t (decl.Declaration.equate es) = omega arith
declaration_values own outer places arrays t (decl.Declaration.intrinsic xs) = omega arith
declaration_values own outer places arrays t (decl.Declaration.label xs) = omega arith
declaration_values own outer places arrays t (decl.Declaration.forward h) = omega arith
declaration_values own outer places arrays t (decl.Declaration.external h) = omega arith
declaration_values own outer places arrays t (decl.Declaration.procedure h is ss) = omega arith
declaration_values own outer places arrays t (decl.Declaration.subroutine h s) = omega arith

more_paid : (b : Bool) (m n : ℕ) → m + (if b then 64 else 0) ≤ n → m + (if b then 88 else 0) ≤ 24 + n
more_paid true m n h = omega arith
more_paid false m n h = omega arith

declaration_pays : (n : ℕ) (d : Declaration)
    → cells_in d + values_in d + (if array_in d then 88 else 0) + subroutines_weight (subroutine_in n d) ≤ declaration_weight d
declaration_pays n (decl.Declaration.data_items own k is) =
    let paid = more_paid (any_array is) (shapes_most is + values_most is) (sum item_weight is) (items_pay is) in omega arith
declaration_pays n (decl.Declaration.equate es) = omega arith
declaration_pays n (decl.Declaration.intrinsic xs) = omega arith
declaration_pays n (decl.Declaration.label xs) = omega arith
declaration_pays n (decl.Declaration.forward h) = omega arith
declaration_pays n (decl.Declaration.external h) = omega arith
declaration_pays n (decl.Declaration.procedure h is ss) = omega arith
declaration_pays n (decl.Declaration.subroutine h s) = omega arith

-- ---- lists

abbrev pub all_cells : Declarations → ℕ
all_cells decl.none = 0
all_cells (decl.and d ds) = cells_in d + all_cells ds

abbrev pub all_values : Declarations → ℕ
all_values decl.none = 0
all_values (decl.and d ds) = values_in d + all_values ds

abbrev pub any_array_in : Declarations → Bool
any_array_in decl.none = false
any_array_in (decl.and d ds) = if array_in d then true else any_array_in ds

pub list_cells : (outer : Names) (t : Table Sort) (ds : Declarations) → cells_most (with_declarations outer t ds) ≤ cells_most t + all_cells ds
list_cells outer t decl.none = omega arith
list_cells outer t (decl.and d ds) =
    omega (arith, declaration_cells outer t d, list_cells outer (with_declaration outer t d) ds)

pub list_arrays : (outer : Names) (t : Table Sort) (ds : Declarations) → any_array_in ds ≡ false
    → list_array_words false (with_declarations outer t ds) ≡ list_array_words false t
list_arrays outer t decl.none none = refl
list_arrays outer t (decl.and d ds) none =
    list_arrays outer (with_declaration outer t d) ds (not_others (array_in d) (any_array_in ds) none)
    ∙ declaration_arrays outer t d (not_first (array_in d) (any_array_in ds) none)

pub list_values : (own : Bool) (outer : Names) (places : Table Place) (arrays : Table Array) (t : Table Sort) (ds : Declarations)
    → count_of (initials_set (initials_among own outer places arrays t ds)) ≤ all_values ds
list_values own outer places arrays t decl.none = omega arith
list_values own outer places arrays t (decl.and d ds) =
    let one = declaration_values own outer places arrays t d in
    let rest = list_values own outer places arrays (with_declaration outer t d) ds in
    let both = initials_append (declaration_initials own outer places arrays t d) (initials_among own outer places arrays (with_declaration outer t d) ds) in
    omega arith

one_pays : (a b : Bool) (x y m n : ℕ) → x + (if a then 88 else 0) ≤ m → y + (if b then 88 else 0) ≤ n
    → x + y + (if (if a then true else b) then 88 else 0) ≤ m + n
one_pays true true x y m n p q = omega arith
one_pays true false x y m n p q = omega arith
one_pays false b x y m n p q = omega arith

subroutines_append : (xs ys : List Subroutine) → subroutines_weight (xs ++ ys) ≡ subroutines_weight xs + subroutines_weight ys
subroutines_append xs ys = sum_append (λ s. subroutine_weight s.heading s.statement) xs ys

-- a list of declarations pays for its cells, its values and its subroutines, and for an array 88 words besides
pub list_pays : (n : ℕ) (ds : Declarations)
    → all_cells ds + all_values ds + (if any_array_in ds then 88 else 0) + subroutines_weight (subroutines_among n ds) ≤ declarations_weight ds
list_pays n decl.none = omega arith
list_pays n (decl.and d ds) =
    let here : ℕ = cells_in d + values_in d + subroutines_weight (subroutine_in n d) in
    let behind : ℕ = all_cells ds + all_values ds + subroutines_weight (subroutines_among (n + declaration_stops d) ds) in
    let first = declaration_pays n d in
    let others = list_pays (n + declaration_stops d) ds in
    let both = subroutines_append (subroutine_in n d) (subroutines_among (n + declaration_stops d) ds) in
    let all = one_pays (array_in d) (any_array_in ds) here behind (declaration_weight d) (declarations_weight ds) (omega arith) (omega arith) in
    omega arith

-- ---- parameters have neither cells nor arrays

parameter_cell : (k : Option Kind) (a v : Bool) → cell_most (sort_by k a v) ≡ 0
parameter_cell None a v = refl
parameter_cell (Some k) true v = refl
parameter_cell (Some k) false true = refl
parameter_cell (Some k) false false = refl

pub parameters_cells : (fs : List Formal) → cells_most (parameters fs) ≡ 0
parameters_cells [] = refl
parameters_cells (f ∷ fs) = omega (arith, parameter_cell f.kind f.array f.value, parameters_cells fs)

parameter_array : (k : Option Kind) (a v : Bool) → where_own false array_words (sort_by k a v) ≡ 0
parameter_array None a v = refl
parameter_array (Some k) true v = refl
parameter_array (Some k) false true = refl
parameter_array (Some k) false false = refl

pub parameters_arrays : (fs : List Formal) → list_array_words false (parameters fs) ≡ 0
parameters_arrays [] = refl
parameters_arrays (f ∷ fs) = omega (arith, parameter_array f.kind f.array f.value, parameters_arrays fs)
