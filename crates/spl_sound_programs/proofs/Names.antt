-- All names of procedures and of subroutines, and lists of which each is so.
use Rattle.std.proofs.Common.{◌≡◌, ℕ, zero, suc, ◌||◌, Bool, true, false, if◌then◌else◌, List, [], ◌∷◌, ◌++◌, Option, Some, None, refl, sym, ap, ◌∙◌}
use Rattle.std.specs.List.{list_all, slice_get}
use Rattle.std.proofs.lemmas.Bool.{and_from}
use Rattle.spl_sound_bodies.specs.spl_tree.declared.expressions.Kind.{Kind}
use Rattle.spl_sound_bodies.specs.spl_tree.DeclarationTrees as decl
use Rattle.spl_sound_bodies.specs.spl_tree.DeclarationTrees.{Declaration, Declarations}
use Rattle.spl_linked_names.specs.spl_meaning.Names as n
use Rattle.spl_linked_names.specs.spl_meaning.Names.{Names, Sort, Table, Formal, Profile, find, same_name, parameters, profile_of, intrinsic_named, sort_by}
use Rattle.spl_linked_names.specs.spl_meaning.Tables.{intrinsic_sort, shaped, with_declaration, with_declarations}
use Rattle.spl_linked_names.specs.spl_meaning.Limits.{joined}
use Rattle.spl_linked_names.specs.spl_callable.Callable.{is_among}
use Rattle.spl_sound_bodies.specs.spl_shapes.Shapes.{is_local, are_local}
use Rattle.std.proofs.lemmas.Bool.{and_parts}
use Rattle.spl_sound_bodies.proofs.spl_sound_names_proofs.Tables.{never, all_declared}
use Rattle.spl_sound_bodies.proofs.spl_sound_names_proofs.Levels.{some_same}
use Rattle.spl_sound_bodies.proofs.spl_ruled_bodies_proofs.Fit.{All, all_items, all_equates, all_intrinsics, all_labels_of}
use Rattle.spl_linked_names.proofs.spl_sound_headings_proofs.Declared.{is_procedure}
use Rattle.spl_sound_programs.specs.Called.{procedures_in, subroutines_in}

-- ---- names among some

pub among_left : (x : List ℕ) (xs ys : List (List ℕ)) → is_among xs x ≡ true → is_among (xs ++ ys) x ≡ true
among_left x [] ys is = never is
among_left x (z ∷ xs) ys is = by (same_name x z) (λ e. among_left x xs ys e) is
  where
    by : (b : Bool) → (is_among xs x ≡ true → is_among (xs ++ ys) x ≡ true) → (b || is_among xs x) ≡ true → (b || is_among (xs ++ ys) x) ≡ true
    by true rest e = refl
    by false rest e = rest e

pub among_right : (x : List ℕ) (xs ys : List (List ℕ)) → is_among ys x ≡ true → is_among (xs ++ ys) x ≡ true
among_right x [] ys is = is
among_right x (z ∷ xs) ys is = by (same_name x z) (among_right x xs ys is)
  where
    by : (b : Bool) → is_among (xs ++ ys) x ≡ true → (b || is_among (xs ++ ys) x) ≡ true
    by true rest = refl
    by false rest = rest

pub among_joined : {A : Type 0} (f : A → List (List ℕ)) (as' : List A) (i : ℕ) (a : A) (x : List ℕ) → slice_get as' i ≡ Some a → is_among (f a) x ≡ true
    → is_among (joined f as') x ≡ true
among_joined f [] i a x at is = cc
among_joined f (b ∷ bs) zero a x at is = among_left x (f b) (joined f bs) (ap (λ c. is_among (f c) x) (same b a at) ∙ is)
  where
    same : {A : Type 0} (b a : A) → Some b ≡ Some a → b ≡ a
    same b a e = cc
among_joined f (b ∷ bs) (suc i) a x at is = among_right x (f b) (joined f bs) (among_joined f bs i a x at is)

-- ---- what names stand for

in_front : (b : Bool) (later : Bool) → (b ≡ false → later ≡ true) → (b || later) ≡ true
in_front true later rest = refl
in_front false later rest = rest refl

-- a name that stands for a procedure is among those of its list
pub procedure_among : (t : Table Sort) (x : List ℕ) (p : Profile) → find t x ≡ Some (n.procedure p) → is_among (procedures_in t) x ≡ true
procedure_among [] x p is = cc
procedure_among ((y, s) ∷ t) x p is = by s (same_name x y) refl is (λ e. procedure_among t x p e)
  where
    passed : (u : Sort) → is_procedure u ≡ false → (if true then Some u else find t x) ≡ Some (n.procedure p) → false ≡ true
    passed u other e = sym other ∙ ap is_procedure (some_same u (n.procedure p) e)

    other : (u : Sort) (b : Bool) → is_procedure u ≡ false → (if b then Some u else find t x) ≡ Some (n.procedure p)
        → (find t x ≡ Some (n.procedure p) → is_among (procedures_in t) x ≡ true) → is_among (procedures_in t) x ≡ true
    other u true no_one e rest = never (passed u no_one e)
    other u false no_one e rest = rest e

    by : (u : Sort) (b : Bool) → same_name x y ≡ b → (if b then Some u else find t x) ≡ Some (n.procedure p)
        → (find t x ≡ Some (n.procedure p) → is_among (procedures_in t) x ≡ true) → is_among (procedures_in ((y, u) ∷ t)) x ≡ true
    by (n.procedure q) b same e rest =
        in_front (same_name x y) (is_among (procedures_in t) x) (λ no_one. rest (sym (ap (λ (c : Bool). if c then Some (n.procedure q) else find t x) (sym same ∙ no_one)) ∙ e))
    by (n.subroutine q) b same e rest = other (n.subroutine q) b refl e rest
    by (n.simple k own) b same e rest = other (n.simple k own) b refl e rest
    by (n.array k own low high) b same e rest = other (n.array k own low high) b refl e rest
    by (n.view k own base) b same e rest = other (n.view k own base) b refl e rest
    by (n.pointer k own) b same e rest = other (n.pointer k own) b refl e rest
    by (n.value k) b same e rest = other (n.value k) b refl e rest
    by (n.by_reference k) b same e rest = other (n.by_reference k) b refl e rest
    by (n.array_parameter k) b same e rest = other (n.array_parameter k) b refl e rest
    by (n.equate v) b same e rest = other (n.equate v) b refl e rest
    by n.label b same e rest = other n.label b refl e rest
    by (n.intrinsic i) b same e rest = other (n.intrinsic i) b refl e rest
    by n.unknown b same e rest = other n.unknown b refl e rest

abbrev is_subroutine : Sort → Bool
is_subroutine (n.subroutine p) = true
is_subroutine s = false

-- and so it is with a subroutine
pub subroutine_among : (t : Table Sort) (x : List ℕ) (p : Profile) → find t x ≡ Some (n.subroutine p) → is_among (subroutines_in t) x ≡ true
subroutine_among [] x p is = cc
subroutine_among ((y, s) ∷ t) x p is = by s (same_name x y) refl is (λ e. subroutine_among t x p e)
  where
    other : (u : Sort) (b : Bool) → is_subroutine u ≡ false → (if b then Some u else find t x) ≡ Some (n.subroutine p)
        → (find t x ≡ Some (n.subroutine p) → is_among (subroutines_in t) x ≡ true) → is_among (subroutines_in t) x ≡ true
    other u true no_one e rest = never (sym no_one ∙ ap is_subroutine (some_same u (n.subroutine p) e))
    other u false no_one e rest = rest e

    by : (u : Sort) (b : Bool) → same_name x y ≡ b → (if b then Some u else find t x) ≡ Some (n.subroutine p)
        → (find t x ≡ Some (n.subroutine p) → is_among (subroutines_in t) x ≡ true) → is_among (subroutines_in ((y, u) ∷ t)) x ≡ true
    by (n.subroutine q) b same e rest =
        in_front (same_name x y) (is_among (subroutines_in t) x) (λ no_one. rest (sym (ap (λ (c : Bool). if c then Some (n.subroutine q) else find t x) (sym same ∙ no_one)) ∙ e))
    by (n.procedure q) b same e rest = other (n.procedure q) b refl e rest
    by (n.simple k own) b same e rest = other (n.simple k own) b refl e rest
    by (n.array k own low high) b same e rest = other (n.array k own low high) b refl e rest
    by (n.view k own base) b same e rest = other (n.view k own base) b refl e rest
    by (n.pointer k own) b same e rest = other (n.pointer k own) b refl e rest
    by (n.value k) b same e rest = other (n.value k) b refl e rest
    by (n.by_reference k) b same e rest = other (n.by_reference k) b refl e rest
    by (n.array_parameter k) b same e rest = other (n.array_parameter k) b refl e rest
    by (n.equate v) b same e rest = other (n.equate v) b refl e rest
    by n.label b same e rest = other n.label b refl e rest
    by (n.intrinsic i) b same e rest = other (n.intrinsic i) b refl e rest
    by n.unknown b same e rest = other n.unknown b refl e rest

-- ---- no procedure stands in the list of another

abbrev NoProcedure : List ℕ → Sort → Type 0
NoProcedure x s = is_procedure s ≡ false

shaped_other : (names : Names) (own : Bool) (k : Kind) (shape : decl.Shape) → is_procedure (shaped names own k shape) ≡ false
shaped_other names own k decl.Shape.simple = refl
shaped_other names own k (decl.Shape.array low high) = refl
shaped_other names own k (decl.Shape.view base) = refl
shaped_other names own k decl.Shape.pointer = refl

intrinsic_other : (x : List ℕ) → is_procedure (intrinsic_sort (intrinsic_named x)) ≡ false
intrinsic_other x = by (intrinsic_named x)
  where
    by : (o : Option _) → is_procedure (intrinsic_sort o) ≡ false
    by (Some i) = refl
    by None = refl

local_other : (outer : Names) (t : Table Sort) (d : Declaration) → is_local d ≡ true → All NoProcedure t → All NoProcedure (with_declaration outer t d)
local_other outer t (decl.Declaration.data_items own k items) local all = all_items NoProcedure outer own k t items (λ x names shape. shaped_other names own k shape) all
local_other outer t (decl.Declaration.equate es) local all = all_equates NoProcedure outer t es (λ x v. refl) all
local_other outer t (decl.Declaration.intrinsic xs) local all = all_intrinsics NoProcedure t xs intrinsic_other all
local_other outer t (decl.Declaration.label xs) local all = all_labels_of NoProcedure t xs (λ x. refl) all
local_other outer t (decl.Declaration.forward h) local all = never local
local_other outer t (decl.Declaration.external h) local all = never local
local_other outer t (decl.Declaration.procedure h items ss) local all = never local
local_other outer t (decl.Declaration.subroutine h s) local all = all_declared NoProcedure t h.name (n.subroutine (profile_of h)) all refl

locals_other : (outer : Names) (t : Table Sort) (ds : Declarations) → are_local ds ≡ true → All NoProcedure t → All NoProcedure (with_declarations outer t ds)
locals_other outer t decl.none local all = all
locals_other outer t (decl.and d ds) local all =
    let two = and_parts (is_local d) (are_local ds) local in
    locals_other outer (with_declaration outer t d) ds two.1 (local_other outer t d two.0 all)

sorted_other : (k : Option Kind) (array value : Bool) → is_procedure (sort_by k array value) ≡ false
sorted_other None array value = refl
sorted_other (Some k) true value = refl
sorted_other (Some k) false true = refl
sorted_other (Some k) false false = refl

parameters_other : (fs : List Formal) → All NoProcedure (parameters fs)
parameters_other [] x s is = cc
parameters_other (f ∷ fs) x s is = by (same_name x f.name) (λ e. parameters_other fs x s e) is
  where
    by : (b : Bool) → (find (parameters fs) x ≡ Some s → is_procedure s ≡ false) → (if b then Some (sort_by f.kind f.array f.value) else find (parameters fs) x) ≡ Some s
        → is_procedure s ≡ false
    by true rest e = ap is_procedure (sym (some_same (sort_by f.kind f.array f.value) s e)) ∙ sorted_other f.kind f.array f.value
    by false rest e = rest e

pub list_other : (outer : Names) (fs : List Formal) (ds : Declarations) → are_local ds ≡ true → (x : List ℕ) (s : Sort) → find (with_declarations outer (parameters fs) ds) x ≡ Some s
    → is_procedure s ≡ false
list_other outer fs ds local = locals_other outer (parameters fs) ds local (parameters_other fs)

-- ---- lists of which each is so

pub all_each : {A : Type 0} (f : A → Bool) (as' : List A) → ((i : ℕ) (a : A) → slice_get as' i ≡ Some a → f a ≡ true) → list_all f as' ≡ true
all_each f [] each = refl
all_each f (a ∷ as') each = and_from (f a) (list_all f as') (each 0 a refl) (all_each f as' (λ i b is. each (suc i) b is))

pub all_whatever : {A : Type 0} (f : A → Bool) (as' : List A) → ((a : A) → f a ≡ true) → list_all f as' ≡ true
all_whatever f [] each = refl
all_whatever f (a ∷ as') each = and_from (f a) (list_all f as') (each a) (all_whatever f as' each)

pub all_at : {A : Type 0} (f : A → Bool) (as' : List A) → list_all f as' ≡ true → (i : ℕ) (a : A) → slice_get as' i ≡ Some a → f a ≡ true
all_at f [] all i a is = cc
all_at f (b ∷ bs) all zero a is = ap f (sym (same b a is)) ∙ (and_parts (f b) (list_all f bs) all).0
  where
    same : {A : Type 0} (b a : A) → Some b ≡ Some a → b ≡ a
    same b a e = cc
all_at f (b ∷ bs) all (suc i) a is = all_at f bs (and_parts (f b) (list_all f bs) all).1 i a is
