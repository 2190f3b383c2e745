-- What a name stands for behind one declaration more.
use Rattle.std.proofs.Common.{◌≡◌, ℕ, ◌==◌, ◌&&◌, not, Bool, true, false, if◌then◌else◌, List, [], ◌∷◌, Option, Some, None, is_some, refl, sym, ap, ◌∙◌, rules}
use Rattle.std.specs.Cmp.Lexicographic.{same_text}
use Rattle.std.proofs.lemmas.Bool.{and_from}
use Rattle.spl_ruled_bodies.specs.spl_tree.declared.names_and_places.At.{At}
use Rattle.spl_ruled_bodies.specs.spl_tree.declared.expressions.Kind.{Kind}
use Rattle.spl_ruled_bodies.specs.spl_tree.DeclarationTrees as decl
use Rattle.spl_ruled_bodies.specs.spl_tree.DeclarationTrees.{Declaration}
use Rattle.spl_ruled_bodies.specs.spl_meaning.Names as n
use Rattle.spl_ruled_bodies.specs.spl_meaning.Names.{Names, Sort, Table, Profile, Formal, find, or_else, same_name, same_flag, intrinsic_named}
use Rattle.spl_ruled_bodies.specs.spl_meaning.Tables.{declared, shaped, intrinsic_sort, with_declaration}
use Rattle.spl_ruled_bodies.specs.spl_meaning.DeclarationRules.{Waiting, without, twice, kind_number, same_formals, same_profile}
use Rattle.spl_ruled_bodies.specs.spl_found.OwnNames.{with_name}
use Rattle.spl_ruled_bodies.proofs.spl_found_proofs.OwnNames.{find_declared}
use Rattle.spl_ruled_bodies.proofs.spl_sound_names_proofs.Tables.{never, unless_none, kept_declarations}
use Rattle.spl_ruled_bodies.proofs.Fit.{All, all_items, all_equates, all_intrinsics, all_labels_of}

-- ---- names

pub sort_same : (a b : Sort) → Some a ≡ Some b → a ≡ b
sort_same a b is = cc

-- a name is found where it was, or else as it is declared
declared_is : (t : Table Sort) (y : List ℕ) (s : Sort) (x : List ℕ) → find (declared t y s) x ≡ or_else (find t x) (if same_name x y then Some s else None)
unfolding with_name
declared_is t y s x = ap (λ (names : Names). names x) (find_declared t y s)

-- a name that was new, of the declared one or of another
pub declared_new : (t : Table Sort) (y : List ℕ) (s : Sort) (x : List ℕ) → find t x ≡ None → same_name x y ≡ true → find (declared t y s) x ≡ Some s
declared_new t y s x none same =
    declared_is t y s x ∙ ap (λ (o : Option Sort). or_else o (if same_name x y then Some s else None)) none ∙ ap (λ (b : Bool). if b then Some s else None) same

pub declared_other : (t : Table Sort) (y : List ℕ) (s : Sort) (x : List ℕ) → find t x ≡ None → same_name x y ≡ false → find (declared t y s) x ≡ None
declared_other t y s x none other =
    declared_is t y s x ∙ ap (λ (o : Option Sort). or_else o (if same_name x y then Some s else None)) none ∙ ap (λ (b : Bool). if b then Some s else None) other

-- a name keeps what it stands for
pub kept_one : (outer : Names) (t : Table Sort) (d : Declaration) (x : List ℕ) (s : Sort) → find t x ≡ Some s → find (with_declaration outer t d) x ≡ Some s
kept_one outer t d x s is = kept_declarations outer t (decl.and d decl.none) x s is

-- a name that is declared is new
pub twice_none : (t : Table Sort) (y : List ℕ) (at : At) → twice t y at ≡ [] → find t y ≡ None
twice_none t y at none = by (find t y) (unless_none (not (is_some (find t y))) 2 at none)
  where
    by : (o : Option Sort) → not (is_some o) ≡ true → o ≡ None
    by None is = refl
    by (Some s) is = never is

-- so it is no other that was there
pub clash_twice : {A : Type 0} (t : Table Sort) (y : List ℕ) (at : At) (x : List ℕ) (s : Sort) → twice t y at ≡ [] → find t x ≡ Some s → same_name x y ≡ true → A
clash_twice t y at x s none there same =
    none_some (sym (twice_none t y at none) ∙ ap (find t) (sym (same_text x y (sym same))) ∙ there)
  where
    none_some : {A : Type 0} → None ≡ Some s → A
    none_some is = cc

-- ---- no procedure is declared by what declares none

-- whether it is a procedure
abbrev pub is_procedure : Sort → Bool
is_procedure (n.procedure p) = true
is_procedure s = false

-- what a name that was new stands for
abbrev Other : Table Sort → List ℕ → Sort → Type 0
Other t y s = find t y ≡ None → is_procedure s ≡ false

-- no name that is there was new
others_there : (t : Table Sort) → All (Other t) t
others_there t y s is none = none_some (sym none ∙ is)
  where
    none_some : {A : Type 0} → None ≡ Some s → A
    none_some e = cc

-- items and intrinsics are no procedures
shaped_other : (names : Names) (own : Bool) (k : Kind) (shape : decl.Shape) → is_procedure (shaped names own k shape) ≡ false
shaped_other names own k decl.Shape.simple = refl
shaped_other names own k (decl.Shape.array low high) = refl
shaped_other names own k (decl.Shape.view base) = refl
shaped_other names own k decl.Shape.pointer = refl

intrinsic_other : (x : List ℕ) → is_procedure (intrinsic_sort (intrinsic_named x)) ≡ false
intrinsic_other x = by (intrinsic_named x)
  where
    by : (o : Option _) → is_procedure (intrinsic_sort o) ≡ false
    by (Some i) = refl
    by None = refl

-- what declares neither procedures nor subroutines
abbrev pub is_other : Declaration → Bool
is_other (decl.Declaration.data_items own k items) = true
is_other (decl.Declaration.equate es) = true
is_other (decl.Declaration.intrinsic xs) = true
is_other (decl.Declaration.label xs) = true
is_other d = false

-- so a name that was new stands for no procedure behind such a declaration
pub no_procedure : (outer : Names) (t : Table Sort) (d : Declaration) → is_other d ≡ true → (x : List ℕ) (s : Sort) → find t x ≡ None
    → find (with_declaration outer t d) x ≡ Some s → is_procedure s ≡ false
no_procedure outer t (decl.Declaration.data_items own k items) other x s none is =
    all_items (Other t) outer own k t items (λ y names shape. λ new. shaped_other names own k shape) (others_there t) x s is none
no_procedure outer t (decl.Declaration.equate es) other x s none is = all_equates (Other t) outer t es (λ y v. λ new. refl) (others_there t) x s is none
no_procedure outer t (decl.Declaration.intrinsic xs) other x s none is = all_intrinsics (Other t) t xs (λ y. λ new. intrinsic_other y) (others_there t) x s is none
no_procedure outer t (decl.Declaration.label xs) other x s none is = all_labels_of (Other t) t xs (λ y. λ new. refl) (others_there t) x s is none
no_procedure outer t (decl.Declaration.forward h) other x s none is = never other
no_procedure outer t (decl.Declaration.external h) other x s none is = never other
no_procedure outer t (decl.Declaration.procedure h items ss) other x s none is = never other
no_procedure outer t (decl.Declaration.subroutine h b) other x s none is = never other

-- ---- what waits

-- a name of two that are not the same
pub find_without : (w : Waiting) (y x : List ℕ) → same_name x y ≡ false → find (without w y) x ≡ find w x
find_without [] y x other = refl
find_without (e ∷ w) y x other = by (same_name y e.0) refl (find_without w y x other)
  where
    first : (b : Bool) → same_name x e.0 ≡ b → same_name y e.0 ≡ true → find w x ≡ (if b then Some e.1 else find w x)
    first true here there =
        never (sym other ∙ ap (λ (z : List ℕ). same_name x z) (same_text y e.0 (sym there)) ∙ here)
    first false here there = refl

    by : (b : Bool) → same_name y e.0 ≡ b → find (without w y) x ≡ find w x
        → find (if b then without w y else e ∷ without w y) x ≡ find (e ∷ w) x
    by true same rest = rest ∙ first (same_name x e.0) refl same
    by false same rest = ap (λ (o : Option Profile). if same_name x e.0 then Some e.1 else o) rest

-- ---- profiles

-- flags, kinds and parameters are like themselves
flag_self : (b : Bool) → same_flag b b ≡ true
flag_self true = refl
flag_self false = refl

kind_self : (o : Option Kind) → (kind_number o == kind_number o) ≡ true
kind_self o = search rules

formals_self : (fs : List Formal) → same_formals fs fs ≡ true
formals_self [] = refl
formals_self (f ∷ fs) =
    and_from (kind_number f.kind == kind_number f.kind && same_flag f.array f.array && same_flag f.value f.value) (same_formals fs fs)
    (and_from (kind_number f.kind == kind_number f.kind && same_flag f.array f.array) (same_flag f.value f.value)
    (and_from (kind_number f.kind == kind_number f.kind) (same_flag f.array f.array) (kind_self f.kind) (flag_self f.array)) (flag_self f.value)) (formals_self fs)

-- a profile is like itself
pub profile_self : (p : Profile) → same_profile p p ≡ true
profile_self p =
    and_from (kind_number p.result == kind_number p.result && same_flag p.split p.split) (same_formals p.formals p.formals)
    (and_from (kind_number p.result == kind_number p.result) (same_flag p.split p.split) (kind_self p.result) (flag_self p.split)) (formals_self p.formals)
