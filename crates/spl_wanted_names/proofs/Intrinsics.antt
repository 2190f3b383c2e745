-- A name that stands for an intrinsic is one's.
-- 1. a declaration makes no other name stand for an intrinsic     (known_behind)
-- 2. so it is in the lists of units, procedures and subroutines   (known_unit, known_routine, known_inner)
use Rattle.std.proofs.Common.{◌≡◌, ℕ, nat_eq, ℤ, Bool, true, false, if◌then◌else◌, List, [], ◌∷◌, Option, Some, None, refl, sym, ap, subst, ◌∙◌}
use Rattle.std.specs.Prelude.{unwrap_or, is_some}
use Rattle.std.proofs.lemmas.Bool.{and_parts, eqb-true}
use Rattle.spl_module_code.specs.hp_word.declared.intrinsics.Intrinsic.{Intrinsic}
use Rattle.spl_module_code.specs.spl_tree.declared.expressions.Kind.{Kind}
use Rattle.spl_module_code.specs.spl_tree.DeclarationTrees as decl
use Rattle.spl_module_code.specs.spl_tree.DeclarationTrees.{Placed, Item, Equal, Heading, Declaration, Declarations, declarations}
use Rattle.spl_module_code.specs.spl_meaning.Names as n
use Rattle.spl_module_code.specs.spl_meaning.Names.{Names, Sort, Table, Formal, find, or_else, same_name, within, nothing_declared, parameters, sort_by, formals_of, profile_of, intrinsic_named, kept_value, sum_value}
use Rattle.spl_module_code.specs.spl_meaning.Tables.{Source, Routine, Subroutine, shaped, intrinsic_sort, with_declaration, with_declarations, unit_table, outer_names, routine_table, routine_names, subroutine_names}
use Rattle.spl_module_code.specs.spl_found.OwnNames.{over, with_name, behind_items, behind_equates, behind_intrinsics, behind_labels, behind_declaration, behind_declarations}
use Rattle.spl_module_code.proofs.spl_found_proofs.OwnNames.{find_declaration, find_declarations}

-- each name that stands for an intrinsic is one's
abbrev pub Known : Names → Type 0
Known names = (x : List ℕ) (i : Intrinsic) → names x ≡ Some (n.intrinsic i) → is_some (intrinsic_named x) ≡ true

pub same_letters : (x y : List ℕ) → same_name x y ≡ true → x ≡ y
same_letters [] [] is = refl
same_letters [] (b ∷ y) is = cc
same_letters (a ∷ x) [] is = cc
same_letters (a ∷ x) (b ∷ y) is = let parts = and_parts (nat_eq a b) (same_name x y) is in (λ i. eqb-true a b parts.0 i ∷ same_letters x y parts.1 i)

-- ---- 1. declarations

sort_inside : (d s t : Sort) → Some s ≡ Some t → s ≡ t
sort_inside d s t is = ap (λ o. unwrap_or o d) is

-- one name more
known_with : (here : Names) (x : List ℕ) (s : Sort) → Known here → ((i : Intrinsic) → s ≡ n.intrinsic i → is_some (intrinsic_named x) ≡ true) → Known (with_name here x s)
unfolding with_name
known_with here x s known new y i is = by (here y) refl (same_name y x) refl is
  where
    by : (o : Option Sort) → here y ≡ o → (b : Bool) → same_name y x ≡ b → or_else o (if b then Some s else None) ≡ Some (n.intrinsic i) → is_some (intrinsic_named y) ≡ true
    by (Some t) there b same at = known y i (there ∙ at)
    by None there true same at = ap (λ z. is_some (intrinsic_named z)) (same_letters y x same) ∙ new i (sort_inside s s (n.intrinsic i) at)
    by None there false same at = cc

shaped_else : (names : Names) (own : Bool) (k : Kind) (shape : decl.Shape) (i : Intrinsic) {A : Type 0} → shaped names own k shape ≡ n.intrinsic i → A
shaped_else names own k decl.Shape.simple i is = cc
shaped_else names own k (decl.Shape.array low high) i is = cc
shaped_else names own k (decl.Shape.view base) i is = cc
shaped_else names own k decl.Shape.pointer i is = cc

known_items : (outer : Names) (own : Bool) (k : Kind) (here : Names) (is : List Item) → Known here → Known (behind_items outer own k here is)
known_items outer own k here [] known = known
known_items outer own k here (t ∷ ts) known =
    known_items outer own k (with_name here t.name (shaped (over here outer) own k t.shape)) ts
    (known_with here t.name (shaped (over here outer) own k t.shape) known (λ i is. shaped_else (over here outer) own k t.shape i is))

equate_else : (v : Option ℤ) (i : Intrinsic) {A : Type 0} → n.equate v ≡ n.intrinsic i → A
equate_else v i is = cc

known_equates : (outer here : Names) (es : List Equal) → Known here → Known (behind_equates outer here es)
known_equates outer here [] known = known
known_equates outer here (e ∷ es) known =
    known_equates outer (with_name here e.name (n.equate (kept_value (sum_value (over here outer) e.terms)))) es
    (known_with here e.name (n.equate (kept_value (sum_value (over here outer) e.terms))) known (λ i is. equate_else (kept_value (sum_value (over here outer) e.terms)) i is))

-- a name in a list of intrinsics is one, or unknown
listed_known : (x : List ℕ) (o : Option Intrinsic) → intrinsic_named x ≡ o → (i : Intrinsic) → intrinsic_sort o ≡ n.intrinsic i → is_some (intrinsic_named x) ≡ true
listed_known x (Some j) named i is = ap is_some named
listed_known x None named i is = cc

known_intrinsics : (here : Names) (xs : List Placed) → Known here → Known (behind_intrinsics here xs)
known_intrinsics here [] known = known
known_intrinsics here (x ∷ xs) known =
    known_intrinsics (with_name here x.letters (intrinsic_sort (intrinsic_named x.letters))) xs
    (known_with here x.letters (intrinsic_sort (intrinsic_named x.letters)) known (λ i is. listed_known x.letters (intrinsic_named x.letters) refl i is))

label_else : (i : Intrinsic) {A : Type 0} → n.label ≡ n.intrinsic i → A
label_else i is = cc

known_labels : (here : Names) (xs : List Placed) → Known here → Known (behind_labels here xs)
known_labels here [] known = known
known_labels here (x ∷ xs) known = known_labels (with_name here x.letters n.label) xs (known_with here x.letters n.label known (λ i is. label_else i is))

procedure_else : (h : Heading) (i : Intrinsic) {A : Type 0} → n.procedure (profile_of h) ≡ n.intrinsic i → A
procedure_else h i is = cc

subroutine_else : (h : Heading) (i : Intrinsic) {A : Type 0} → n.subroutine (profile_of h) ≡ n.intrinsic i → A
subroutine_else h i is = cc

known_procedure : (here : Names) (h : Heading) → Known here → Known (with_name here h.name (n.procedure (profile_of h)))
known_procedure here h known = known_with here h.name (n.procedure (profile_of h)) known (λ i is. procedure_else h i is)

pub known_behind : (outer here : Names) (d : Declaration) → Known here → Known (behind_declaration outer here d)
known_behind outer here (decl.Declaration.data_items own k items) known = known_items outer own k here items known
known_behind outer here (decl.Declaration.equate es) known = known_equates outer here es known
known_behind outer here (decl.Declaration.intrinsic xs) known = known_intrinsics here xs known
known_behind outer here (decl.Declaration.label xs) known = known_labels here xs known
known_behind outer here (decl.Declaration.forward h) known = known_procedure here h known
known_behind outer here (decl.Declaration.external h) known = known_procedure here h known
known_behind outer here (decl.Declaration.procedure h items ss) known = known_procedure here h known
known_behind outer here (decl.Declaration.subroutine h s) known =
    known_with here h.name (n.subroutine (profile_of h)) known (λ i is. subroutine_else h i is)

known_all_behind : (outer here : Names) (ds : Declarations) → Known here → Known (behind_declarations outer here ds)
known_all_behind outer here decl.none known = known
known_all_behind outer here (decl.and d ds) known =
    known_all_behind outer (behind_declaration outer here d) ds (known_behind outer here d known)

-- ---- 2. lists

pub known_first : Known (find [])
known_first x i is = cc

pub known_next : (t : Table Sort) (d : Declaration) → Known (find t) → Known (find (with_declaration nothing_declared t d))
known_next t d known = subst Known (sym (find_declaration nothing_declared t d)) (known_behind nothing_declared (find t) d known)

known_list : (outer : Names) (t : Table Sort) (ds : Declarations) → Known (find t) → Known (find (with_declarations outer t ds))
known_list outer t ds known = subst Known (sym (find_declarations outer t ds)) (known_all_behind outer (find t) ds known)

pub known_unit : (u : Source) → Known (find (unit_table u))
known_unit u = known_list nothing_declared [] (declarations u.tree.items) known_first

parameter_else : (k : Option Kind) (array value : Bool) (i : Intrinsic) {A : Type 0} → Some (sort_by k array value) ≡ Some (n.intrinsic i) → A
parameter_else None array value i is = cc
parameter_else (Some k) true value i is = cc
parameter_else (Some k) false true i is = cc
parameter_else (Some k) false false i is = cc

known_parameters : (fs : List Formal) → Known (find (parameters fs))
known_parameters [] x i is = cc
known_parameters (f ∷ fs) x i is = by (same_name x f.name) (λ at. known_parameters fs x i at) is
  where
    by : (b : Bool) → (find (parameters fs) x ≡ Some (n.intrinsic i) → is_some (intrinsic_named x) ≡ true)
        → (if b then Some (sort_by f.kind f.array f.value) else find (parameters fs) x) ≡ Some (n.intrinsic i) → is_some (intrinsic_named x) ≡ true
    by true rest at = parameter_else f.kind f.array f.value i at
    by false rest at = rest at

known_within : (t : Table Sort) (outer : Names) → Known (find t) → Known outer → Known (within t outer)
known_within t outer here around x i is = by (find t x) refl is
  where
    by : (o : Option Sort) → find t x ≡ o → or_else o (outer x) ≡ Some (n.intrinsic i) → is_some (intrinsic_named x) ≡ true
    by (Some s) there at = here x i (there ∙ at)
    by None there at = around x i at

-- a procedure behind its heading
pub known_routine : (r : Routine) → Known (outer_names r) → Known (routine_names r)
known_routine r known =
    known_within (routine_table r) (outer_names r)
    (known_list (outer_names r) (parameters (formals_of r.heading)) r.items (known_parameters (formals_of r.heading))) known

pub known_inner : (around : Names) (s : Subroutine) → Known around → Known (subroutine_names around s)
known_inner around s known = known_within (parameters (formals_of s.heading)) around (known_parameters (formals_of s.heading)) known
