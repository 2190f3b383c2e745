-- What names stand for in a table of declarations is what they stand for behind these declarations.
use Rattle.std.proofs.Common.{ℕ, ◌≡◌, Bool, true, false, List, [], ◌∷◌, ◌++◌, Option, Some, None, refl, sym, ap, ◌∙◌, is_some}
use Rattle.std.specs.Prelude.{if◌then◌else◌}
use Rattle.std.specs.Cmp.Lexicographic.{same_text}
use Rattle.spl_meaning.specs.spl_tree.declared.expressions.Kind.{Kind}
use Rattle.spl_meaning.specs.spl_tree.DeclarationTrees as decl
use Rattle.spl_meaning.specs.spl_tree.DeclarationTrees.{Placed, Heading, Item, Equal, Declaration, Declarations}
use Rattle.spl_meaning.specs.Names as n
use Rattle.spl_meaning.specs.Names.{Names, Sort, Table, find, or_else, same_name, within, nothing_declared, parameters, formals_of, profile_of, intrinsic_named, sum_value}
use Rattle.spl_meaning.specs.Tables.{declared, shaped, intrinsic_sort, with_items, with_equates, with_intrinsics, with_labels, with_declaration, with_declarations}
use Rattle.spl_meaning.specs.ExpressionRules.{Scope}
use Rattle.spl_meaning.specs.DeclarationRules.{procedure_scope}
use Rattle.spl_found.specs.OwnNames.{over, with_name, behind_items, behind_equates, behind_intrinsics, behind_labels, behind_declaration, behind_declarations}
use Rattle.spl_found.specs.FoundDeclarations.{scope_in_procedure}

-- a name in a table with one entry more
find_last : {A : Type 0} (t : Table A) (x : List ℕ) (a : A) (y : List ℕ)
    → find (t ++ (x, a) ∷ []) y ≡ or_else (find t y) (if same_name y x then Some a else None)
find_last [] x a y = refl
find_last (e ∷ t) x a y = by (same_name y e.0) (find_last t x a y)
  where
    by : (b : Bool) → find (t ++ (x, a) ∷ []) y ≡ or_else (find t y) (if same_name y x then Some a else None)
        → (if b then Some e.1 else find (t ++ (x, a) ∷ []) y) ≡ or_else (if b then Some e.1 else find t y) (if same_name y x then Some a else None)
    by true h = refl
    by false h = h

-- a name that is there hides another declaration of it
hides : {A : Type 0} (o p : Option A) (b : Bool) (s : A) → is_some o ≡ true → (b ≡ true → p ≡ o) → p ≡ or_else p (if b then Some s else None)
hides o (Some q) b s there same = refl
hides o None false s there same = refl
hides (Some q) None true s there same = cc (same refl)
hides None None true s there same = cc

-- nothing changes where a name is declared again
pub still : {A : Type 0} (t : Table A) (x : List ℕ) (s : A) → is_some (find t x) ≡ true → find t ≡ with_name (find t) x s
unfolding with_name
still t x s there i y = hides (find t x) (find t y) (same_name y x) s there (λ same. ap (find t) (same_text y x (sym same))) i

-- and a name that was not declared stands last
pub find_pushed : {A : Type 0} (t : Table A) (x : List ℕ) (s : A) → find (t ++ (x, s) ∷ []) ≡ with_name (find t) x s
unfolding with_name
find_pushed t x s i y = find_last t x s y i

-- the names of a table with a declaration more
pub find_declared : (t : Table Sort) (x : List ℕ) (s : Sort) → find (declared t x s) ≡ with_name (find t) x s
find_declared t x s = by (is_some (find t x)) refl
  where
    by : (b : Bool) → is_some (find t x) ≡ b → find (if b then t else t ++ (x, s) ∷ []) ≡ with_name (find t) x s
    by true there = still t x s there
    by false there = find_pushed t x s

pub find_items : (outer : Names) (own : Bool) (k : Kind) (t : Table Sort) (is : List Item)
    → find (with_items outer own k t is) ≡ behind_items outer own k (find t) is
find_items outer own k t [] = refl
find_items outer own k t (i ∷ is) =
    find_items outer own k (declared t i.name (shaped (within t outer) own k i.shape)) is
    ∙ ap (λ (here : Names). behind_items outer own k here is) (find_declared t i.name (shaped (within t outer) own k i.shape))

pub find_equates : (outer : Names) (t : Table Sort) (es : List Equal) → find (with_equates outer t es) ≡ behind_equates outer (find t) es
find_equates outer t [] = refl
find_equates outer t (e ∷ es) =
    find_equates outer (declared t e.name (n.equate (n.kept_value (sum_value (within t outer) e.terms)))) es
    ∙ ap (λ (here : Names). behind_equates outer here es) (find_declared t e.name (n.equate (n.kept_value (sum_value (within t outer) e.terms))))

pub find_intrinsics : (t : Table Sort) (xs : List Placed) → find (with_intrinsics t xs) ≡ behind_intrinsics (find t) xs
find_intrinsics t [] = refl
find_intrinsics t (x ∷ xs) =
    find_intrinsics (declared t x.letters (intrinsic_sort (intrinsic_named x.letters))) xs
    ∙ ap (λ (here : Names). behind_intrinsics here xs) (find_declared t x.letters (intrinsic_sort (intrinsic_named x.letters)))

pub find_labels : (t : Table Sort) (xs : List Placed) → find (with_labels t xs) ≡ behind_labels (find t) xs
find_labels t [] = refl
find_labels t (x ∷ xs) =
    find_labels (declared t x.letters n.label) xs ∙ ap (λ (here : Names). behind_labels here xs) (find_declared t x.letters n.label)

pub find_declaration : (outer : Names) (t : Table Sort) (d : Declaration) → find (with_declaration outer t d) ≡ behind_declaration outer (find t) d
find_declaration outer t (decl.Declaration.data_items own k items) = find_items outer own k t items
find_declaration outer t (decl.Declaration.equate es) = find_equates outer t es
find_declaration outer t (decl.Declaration.intrinsic xs) = find_intrinsics t xs
find_declaration outer t (decl.Declaration.label xs) = find_labels t xs
find_declaration outer t (decl.Declaration.forward h) = find_declared t h.name (n.procedure (profile_of h))
find_declaration outer t (decl.Declaration.external h) = find_declared t h.name (n.procedure (profile_of h))
find_declaration outer t (decl.Declaration.procedure h items ss) = find_declared t h.name (n.procedure (profile_of h))
find_declaration outer t (decl.Declaration.subroutine h s) = find_declared t h.name (n.subroutine (profile_of h))

pub find_declarations : (outer : Names) (t : Table Sort) (ds : Declarations)
    → find (with_declarations outer t ds) ≡ behind_declarations outer (find t) ds
find_declarations outer t decl.none = refl
find_declarations outer t (decl.and d ds) =
    find_declarations outer (with_declaration outer t d) ds ∙ ap (λ (here : Names). behind_declarations outer here ds) (find_declaration outer t d)

-- a scope by what names stand for in its list
abbrev scope_of_names : Names → Names → Heading → Scope
scope_of_names globals here h = record {
  names = over here globals;
  is_local = λ x. is_some (here x);
  results = if is_some (here h.name) then [] else h.name ∷ [];
  split = h.split;
  is_main = false;
}

-- the scope in a procedure
pub scope_is : (globals : Table Sort) (h : Heading) (items : Declarations) → scope_in_procedure (find globals) h items ≡ procedure_scope globals h items
scope_is globals h items = sym (ap (λ (here : Names). scope_of_names (find globals) here h) (find_declarations (find globals) (parameters (formals_of h)) items))
