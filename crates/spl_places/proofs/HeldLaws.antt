-- The items of a list are what it holds of data, where no name stands twice.
use Rattle.std.proofs.Common.{ℕ, ◌≡◌, Bool, true, false, List, [], ◌∷◌, ◌++◌, map, Option, Some, None, refl, sym, ap, ◌∙◌, is_some, append_assoc, append-nil}
use Rattle.std.specs.Prelude.{if◌then◌else◌}
use Rattle.spl_tree.specs.declared.names_and_places.At.{At}
use Rattle.spl_tree.specs.declared.expressions.Kind.{Kind}
use Rattle.spl_tree.specs.DeclarationTrees as decl
use Rattle.spl_tree.specs.DeclarationTrees.{Placed, Item, Equal, Declaration, Declarations}
use Rattle.spl_sorts.specs.spl_meaning.Names as n
use Rattle.spl_sorts.specs.spl_meaning.Names.{Names, Sort, Table, find, within, profile_of, intrinsic_named, sum_value}
use Rattle.spl_sorts.specs.spl_meaning.Tables.{declared, shaped, intrinsic_sort, with_items, with_equates, with_intrinsics, with_labels, with_declaration, with_declarations}
use Rattle.spl_sorts.specs.spl_meaning.Places.{only}
use Rattle.spl_sorts.specs.spl_meaning.Limits.{sorted_items, data_of, all_data}
use Rattle.spl_spots.proofs.spl_found_proofs.OwnNames.{find_declared, find_declaration}
use Rattle.spl_places.specs.ListedData.{items_data, declaration_data, list_data}
use Rattle.spl_places.specs.Counters.{entry}
use Rattle.spl_places.specs.Held.{is_data, held, named, NewItems, NewIn, NewNames}

-- ---- items with their places

items_placed : (outer : Names) (own : Bool) (k : Kind) (t : Table Sort) (is : List Item)
    → map entry (items_data outer own k (find t) is) ≡ sorted_items outer own k t is
items_placed outer own k t [] = refl
items_placed outer own k t (i ∷ is) =
    let s = shaped (within t outer) own k i.shape in
    ap (λ (here : Names). (i.at, s) ∷ map entry (items_data outer own k here is)) (sym (find_declared t i.name s))
    ∙ ap (λ (xs : List (At × Sort)). (i.at, s) ∷ xs) (items_placed outer own k (declared t i.name s) is)

declaration_placed : (outer : Names) (t : Table Sort) (d : Declaration) → map entry (declaration_data outer (find t) d) ≡ data_of outer t d
declaration_placed outer t (decl.Declaration.data_items own k items) = items_placed outer own k t items
declaration_placed outer t (decl.Declaration.equate es) = refl
declaration_placed outer t (decl.Declaration.intrinsic xs) = refl
declaration_placed outer t (decl.Declaration.label xs) = refl
declaration_placed outer t (decl.Declaration.forward h) = refl
declaration_placed outer t (decl.Declaration.external h) = refl
declaration_placed outer t (decl.Declaration.procedure h items ss) = refl
declaration_placed outer t (decl.Declaration.subroutine h s) = refl

pub map_both : {A B : Type 0} (f : A → B) (xs ys : List A) → map f (xs ++ ys) ≡ map f xs ++ map f ys
map_both f [] ys = refl
map_both f (x ∷ xs) ys = ap (λ zs. f x ∷ zs) (map_both f xs ys)

-- the items of declarations are all their data
pub all_placed : (outer : Names) (t : Table Sort) (ds : Declarations) → map entry (list_data outer (find t) ds) ≡ all_data outer t ds
all_placed outer t decl.none = refl
all_placed outer t (decl.and d ds) =
    let here = with_declaration outer t d in
    ap (λ (h : Names). map entry (declaration_data outer (find t) d ++ list_data outer h ds)) (sym (find_declaration outer t d))
    ∙ map_both entry (declaration_data outer (find t) d) (list_data outer (find here) ds)
    ∙ ap (λ (xs : List (At × Sort)). xs ++ map entry (list_data outer (find here) ds)) (declaration_placed outer t d)
    ∙ ap (λ (xs : List (At × Sort)). data_of outer t d ++ xs) (all_placed outer here ds)

-- ---- what a list holds

held_both : (xs ys : Table Sort) → held (xs ++ ys) ≡ held xs ++ held ys
held_both [] ys = refl
held_both (x ∷ xs) ys = ap (λ (zs : Table Sort). only (is_data x.1) x ++ zs) (held_both xs ys) ∙ sym (append_assoc (only (is_data x.1) x) (held xs) (held ys))

-- a name that is no item of data changes nothing
held_same : (t : Table Sort) (x : List ℕ) (s : Sort) → is_data s ≡ false → held (declared t x s) ≡ held t
held_same t x s other = by (is_some (find t x))
  where
    none : (b : Bool) → b ≡ false → held t ++ (only b (x, s) ++ []) ≡ held t
    none true is = cc
    none false is = append-nil (held t)

    by : (b : Bool) → held (if b then t else t ++ (x, s) ∷ []) ≡ held t
    by true = refl
    by false = held_both t ((x, s) ∷ []) ∙ none (is_data s) other

-- an item of a new name stands last
held_more : (t : Table Sort) (x : List ℕ) (s : Sort) → is_data s ≡ true → find t x ≡ None → held (declared t x s) ≡ held t ++ (x, s) ∷ []
held_more t x s is new = by (is_some (find t x)) (ap is_some new)
  where
    one : (b : Bool) → b ≡ true → held t ++ (only b (x, s) ++ []) ≡ held t ++ (x, s) ∷ []
    one true is = refl
    one false is = cc

    by : (b : Bool) → b ≡ false → held (if b then t else t ++ (x, s) ∷ []) ≡ held t ++ (x, s) ∷ []
    by true is_there = cc
    by false is_there = held_both t ((x, s) ∷ []) ∙ one (is_data s) is

shaped_data : (names : Names) (own : Bool) (k : Kind) (shape : decl.Shape) → is_data (shaped names own k shape) ≡ true
shaped_data names own k decl.Shape.simple = refl
shaped_data names own k (decl.Shape.array low high) = refl
shaped_data names own k (decl.Shape.view base) = refl
shaped_data names own k decl.Shape.pointer = refl

held_items : (outer : Names) (own : Bool) (k : Kind) (t : Table Sort) (is : List Item) → NewItems outer own k t is
    → held (with_items outer own k t is) ≡ held t ++ map named (items_data outer own k (find t) is)
held_items outer own k t [] new = sym (append-nil (held t))
held_items outer own k t (i ∷ is) new =
    let s = shaped (within t outer) own k i.shape in
    let more = declared t i.name s in
    held_items outer own k more is new.1
    ∙ ap (λ (h : Table Sort). h ++ map named (items_data outer own k (find more) is)) (held_more t i.name s (shaped_data (within t outer) own k i.shape) new.0)
    ∙ append_assoc (held t) ((i.name, s) ∷ []) (map named (items_data outer own k (find more) is))
    ∙ ap (λ (here : Names). held t ++ (i.name, s) ∷ map named (items_data outer own k here is)) (find_declared t i.name s)

held_equates : (outer : Names) (t : Table Sort) (es : List Equal) → held (with_equates outer t es) ≡ held t
held_equates outer t [] = refl
held_equates outer t (e ∷ es) =
    let s = n.equate (n.kept_value (sum_value (within t outer) e.terms)) in
    held_equates outer (declared t e.name s) es ∙ held_same t e.name s refl

intrinsic_no_data : (o : Option _) → is_data (intrinsic_sort o) ≡ false
intrinsic_no_data None = refl
intrinsic_no_data (Some g) = refl

held_intrinsics : (t : Table Sort) (xs : List Placed) → held (with_intrinsics t xs) ≡ held t
held_intrinsics t [] = refl
held_intrinsics t (x ∷ xs) =
    let s = intrinsic_sort (intrinsic_named x.letters) in
    held_intrinsics (declared t x.letters s) xs ∙ held_same t x.letters s (intrinsic_no_data (intrinsic_named x.letters))

held_labels : (t : Table Sort) (xs : List Placed) → held (with_labels t xs) ≡ held t
held_labels t [] = refl
held_labels t (x ∷ xs) = held_labels (declared t x.letters n.label) xs ∙ held_same t x.letters n.label refl

-- behind a declaration
held_declaration : (outer : Names) (t : Table Sort) (d : Declaration) → NewIn outer t d
    → held (with_declaration outer t d) ≡ held t ++ map named (declaration_data outer (find t) d)
held_declaration outer t (decl.Declaration.data_items own k items) new = held_items outer own k t items new
held_declaration outer t (decl.Declaration.equate es) new = held_equates outer t es ∙ sym (append-nil (held t))
held_declaration outer t (decl.Declaration.intrinsic xs) new = held_intrinsics t xs ∙ sym (append-nil (held t))
held_declaration outer t (decl.Declaration.label xs) new = held_labels t xs ∙ sym (append-nil (held t))
held_declaration outer t (decl.Declaration.forward h) new = held_same t h.name (n.procedure (profile_of h)) refl ∙ sym (append-nil (held t))
held_declaration outer t (decl.Declaration.external h) new = held_same t h.name (n.procedure (profile_of h)) refl ∙ sym (append-nil (held t))
held_declaration outer t (decl.Declaration.procedure h items ss) new = held_same t h.name (n.procedure (profile_of h)) refl ∙ sym (append-nil (held t))
held_declaration outer t (decl.Declaration.subroutine h s) new = held_same t h.name (n.subroutine (profile_of h)) refl ∙ sym (append-nil (held t))

-- Behind declarations a list holds what it held, and their items.
pub held_declarations : (outer : Names) (t : Table Sort) (ds : Declarations) → NewNames outer t ds
    → held (with_declarations outer t ds) ≡ held t ++ map named (list_data outer (find t) ds)
held_declarations outer t decl.none new = sym (append-nil (held t))
held_declarations outer t (decl.and d ds) new =
    let here = with_declaration outer t d in
    let of_d = declaration_data outer (find t) d in
    held_declarations outer here ds new.1
    ∙ ap (λ (h : Table Sort). h ++ map named (list_data outer (find here) ds)) (held_declaration outer t d new.0)
    ∙ append_assoc (held t) (map named of_d) (map named (list_data outer (find here) ds))
    ∙ ap (λ (xs : Table Sort). held t ++ xs) (sym (map_both named of_d (list_data outer (find here) ds)))
    ∙ ap (λ (h : Names). held t ++ map named (of_d ++ list_data outer h ds)) (find_declaration outer t d)
