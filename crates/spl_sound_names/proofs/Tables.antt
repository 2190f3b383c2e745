-- What names stand for in a table is known, declaration by declaration, where these break no rule.
-- 1. a name more                                                      (known_declared)
-- 2. items, EQUATEs, INTRINSICs and LABELs                             (known_items ..)
-- 3. a name keeps what it stands for behind further declarations       (kept_declarations)
use Rattle.std.proofs.Common.{◌≡◌, ◌⊎◌, inl, inr, ℕ, Bool, true, false, if◌then◌else◌, ℤ, List, [], ◌∷◌, ◌++◌, Option, Some, None, is_some, refl, sym, subst, ap, ◌∙◌}
use Rattle.std.proofs.lemmas.Bool.{false≢true}
use Rattle.std.specs.Cmp.Lexicographic.{same_text}
use Rattle.spl_sound.specs.hp_word.declared.intrinsics.Intrinsic.{Intrinsic}
use Rattle.spl_sound.specs.spl_tree.declared.names_and_places.At.{At}
use Rattle.spl_sound.specs.spl_tree.declared.expressions.Kind.{Kind}
use Rattle.spl_sound.specs.spl_tree.Trees as tree
use Rattle.spl_sound.specs.spl_tree.Trees.{Constant}
use Rattle.spl_sound.specs.spl_tree.DeclarationTrees as decl
use Rattle.spl_sound.specs.spl_tree.DeclarationTrees.{Placed, Item, Equal, Term, Declaration, Declarations}
use Rattle.spl_sound.specs.spl_meaning.Names as n
use Rattle.spl_sound.specs.spl_meaning.Names.{Names, Sort, Table, find, within, or_else, same_name, text_value, whole_number, constant_value, sum_with, sum_from, sum_value, kept_value, intrinsic_named}
use Rattle.spl_sound.specs.spl_meaning.Tables.{declared, shaped, intrinsic_sort, with_items, with_equates, with_intrinsics, with_labels, with_declaration, with_declarations}
use Rattle.spl_sound.specs.spl_meaning.Faults.{fault, unless}
use Rattle.spl_sound.specs.spl_meaning.ExpressionRules.{constant_name, constant_faults}
use Rattle.spl_sound.specs.spl_meaning.DeclarationRules.{Around, twice, terms_faults, equate_faults, equates_faults, intrinsics_faults}
use Rattle.spl_found.specs.OwnNames.{with_name}
use Rattle.spl_found.proofs.OwnNames.{find_declared}
use Rattle.spl_sound_names.specs.Known.{is_known, is_passed, is_inner, AreKnown}

-- ---- lists of faults that are empty

pub left_none : {A : Type 0} (xs ys : List A) → xs ++ ys ≡ [] → xs ≡ []
left_none [] ys is = refl
left_none (x ∷ xs) ys is = cc

pub right_none : {A : Type 0} (xs ys : List A) → xs ++ ys ≡ [] → ys ≡ []
right_none [] ys is = is
right_none (x ∷ xs) ys is = cc

pub clash : {A B : Type 0} (x : A) (xs : List A) → x ∷ xs ≡ [] → B
clash x xs is = cc

pub unless_none : (b : Bool) (rule : ℕ) (at : At) → unless b rule at ≡ [] → b ≡ true
unless_none true rule at is = refl
unless_none false rule at is = clash (fault rule at) [] is

-- ---- 1. a name more

-- what stands behind a name more: what stood there, or that name's
behind : (o : Option Sort) (same : Bool) (s u : Sort) → or_else o (if same then Some s else None) ≡ Some u → (o ≡ Some u) ⊎ ((same ≡ true) × (s ≡ u))
behind (Some v) same s u is = inl is
behind None true s u is = inr (refl, cc)
behind None false s u is = cc

-- a fact on names holds of a table with a name more, where it holds of the table and of that name
pub all_declared : (P : List ℕ → Sort → Type 0) (t : Table Sort) (y : List ℕ) (s : Sort) → ((x : List ℕ) (u : Sort) → find t x ≡ Some u → P x u) → P y s
    → (x : List ℕ) (u : Sort) → find (declared t y s) x ≡ Some u → P x u
unfolding with_name
all_declared P t y s all one x u is = by (behind (find t x) (same_name x y) s u (sym (ap (λ (names : Names). names x) (find_declared t y s)) ∙ is))
  where
    by : (find t x ≡ Some u) ⊎ ((same_name x y ≡ true) × (s ≡ u)) → P x u
    by (inl there) = all x u there
    by (inr (same, sorts)) = subst (λ (z : List ℕ). P z u) (sym (same_text x y (sym same))) (subst (P y) sorts one)

-- so it is with what is known of each
pub known_declared : (passed inner : List ℕ → Bool) (t : Table Sort) (y : List ℕ) (s : Sort) → AreKnown passed inner (find t)
    → is_known s ≡ true → (is_passed s ≡ true → passed y ≡ true) → (is_inner s ≡ true → inner y ≡ true) → AreKnown passed inner (find (declared t y s))
known_declared passed inner t y s are known is_one of_inner = record {
  known = all_declared (λ x u. is_known u ≡ true) t y s are.known known;
  passed = all_declared (λ x u. is_passed u ≡ true → passed x ≡ true) t y s are.passed is_one;
  inner = all_declared (λ x u. is_inner u ≡ true → inner x ≡ true) t y s are.inner of_inner;
}

pub never : {A : Type 0} → false ≡ true → A
never is = absurd (false≢true is)

-- ---- 2. declarations

known_shaped : (passed inner : List ℕ → Bool) (names : Names) (own : Bool) (k : Kind) (shape : decl.Shape) (t : Table Sort) (y : List ℕ) → AreKnown passed inner (find t)
    → AreKnown passed inner (find (declared t y (shaped names own k shape)))
known_shaped passed inner names own k decl.Shape.simple t y are = known_declared passed inner t y _ are refl never never
known_shaped passed inner names own k (decl.Shape.array low high) t y are = known_declared passed inner t y _ are refl never never
known_shaped passed inner names own k (decl.Shape.view base) t y are = known_declared passed inner t y _ are refl never never
known_shaped passed inner names own k decl.Shape.pointer t y are = known_declared passed inner t y _ are refl never never

pub known_items : (passed inner : List ℕ → Bool) (outer : Names) (own : Bool) (k : Kind) (t : Table Sort) (is : List Item) → AreKnown passed inner (find t)
    → AreKnown passed inner (find (with_items outer own k t is))
known_items passed inner outer own k t [] are = are
known_items passed inner outer own k t (i ∷ is) are =
    known_items passed inner outer own k (declared t i.name (shaped (within t outer) own k i.shape)) is
    (known_shaped passed inner (within t outer) own k i.shape t i.name are)

-- the names in a list and around it are known
abbrev pub Known : Names → Type 0
Known names = (x : List ℕ) (s : Sort) → names x ≡ Some s → is_known s ≡ true

known_within : (t : Table Sort) (outer : Names) → Known (find t) → Known outer → Known (within t outer)
known_within t outer here around x s is = by (find t x) refl is
  where
    by : (o : Option Sort) → find t x ≡ o → or_else o (outer x) ≡ Some s → is_known s ≡ true
    by (Some u) there is_one = here x s (there ∙ is_one)
    by None there is_one = around x s is_one

-- a constant that breaks no rule has a value
pub constant_known : (names : Names) → Known names → (at : At) (c : Constant) → constant_faults names at c ≡ [] → is_some (constant_value names c) ≡ true
constant_known names known at (tree.Constant.number minus v) none = refl
constant_known names known at (tree.Constant.wide minus v) none = refl
constant_known names known at (tree.Constant.text bytes) none = by (text_value bytes) (unless_none (is_some (text_value bytes)) 14 at none)
  where
    by : (o : Option ℕ) → is_some o ≡ true → is_some (whole_number o) ≡ true
    by (Some v) is = refl
    by None is = never is
constant_known names known at (tree.Constant.truth b) none = refl
constant_known names known at (tree.Constant.name x a) none = by (names x) refl none
  where
    by : (o : Option Sort) → names x ≡ o → constant_name o a ≡ [] → is_some (n.equate_value o) ≡ true
    by None is some = clash (fault 1 a) [] some
    by (Some (n.equate v)) is some = known x (n.equate v) is
    by (Some n.unknown) is some = never (known x n.unknown is)
    by (Some (n.simple k own)) is some = clash (fault 3 a) [] some
    by (Some (n.array k own low high)) is some = clash (fault 3 a) [] some
    by (Some (n.view k own base)) is some = clash (fault 3 a) [] some
    by (Some (n.pointer k own)) is some = clash (fault 3 a) [] some
    by (Some (n.value k)) is some = clash (fault 3 a) [] some
    by (Some (n.by_reference k)) is some = clash (fault 3 a) [] some
    by (Some (n.array_parameter k)) is some = clash (fault 3 a) [] some
    by (Some n.label) is some = clash (fault 3 a) [] some
    by (Some (n.intrinsic i)) is some = clash (fault 3 a) [] some
    by (Some (n.procedure p)) is some = clash (fault 3 a) [] some
    by (Some (n.subroutine p)) is some = clash (fault 3 a) [] some

-- and so has a sum of such constants
sum_known : (names : Names) → Known names → (at : At) (ts : List Term) (sum : Option ℤ) → is_some sum ≡ true → terms_faults names at ts ≡ []
    → is_some (sum_from names sum ts) ≡ true
sum_known names known at [] sum is none = is
sum_known names known at (t ∷ ts) sum is none =
    sum_known names known at ts (sum_with sum t.minus (constant_value names t.value))
    (by sum (constant_value names t.value) is (constant_known names known at t.value (left_none (constant_faults names at t.value) (terms_faults names at ts) none)))
    (right_none (constant_faults names at t.value) (terms_faults names at ts) none)
  where
    by : (o p : Option ℤ) → is_some o ≡ true → is_some p ≡ true → is_some (sum_with o t.minus p) ≡ true
    by (Some a) (Some b) first second = refl
    by (Some a) None first second = never second
    by None p first second = never first

kept_known : (o : Option ℤ) → is_some o ≡ true → is_some (kept_value o) ≡ true
kept_known (Some v) is = refl
kept_known None is = never is

pub known_equates : (passed inner : List ℕ → Bool) (a : Around) (t : Table Sort) (es : List Equal) → Known a.names → AreKnown passed inner (find t)
    → equates_faults a t es ≡ [] → AreKnown passed inner (find (with_equates a.names t es))
known_equates passed inner a t [] around are none = are
known_equates passed inner a t (e ∷ es) around are none =
    let value = sum_value (within t a.names) e.terms in
    let behind = declared t e.name (n.equate (kept_value value)) in
    let first = left_none (equate_faults (within t a.names) t e) (equates_faults a behind es) none in
    let twice_and_terms = twice t e.name e.at ++ terms_faults (within t a.names) e.at e.terms in
    let terms = right_none (twice t e.name e.at) (terms_faults (within t a.names) e.at e.terms) (left_none twice_and_terms _ first) in
    let there = sum_known (within t a.names) (known_within t a.names are.known around) e.at e.terms _ refl terms in
    known_equates passed inner a behind es around (known_declared passed inner t e.name _ are (kept_known value there) never never)
    (right_none (equate_faults (within t a.names) t e) (equates_faults a behind es) none)

known_intrinsic : (passed inner : List ℕ → Bool) (t : Table Sort) (y : List ℕ) (o : Option Intrinsic) → is_some o ≡ true → AreKnown passed inner (find t)
    → AreKnown passed inner (find (declared t y (intrinsic_sort o)))
known_intrinsic passed inner t y (Some i) is are = known_declared passed inner t y _ are refl never never
known_intrinsic passed inner t y None is are = never is

pub known_intrinsics : (passed inner : List ℕ → Bool) (t : Table Sort) (xs : List Placed) → AreKnown passed inner (find t) → intrinsics_faults t xs ≡ []
    → AreKnown passed inner (find (with_intrinsics t xs))
known_intrinsics passed inner t [] are none = are
known_intrinsics passed inner t (x ∷ xs) are none =
    let behind = declared t x.letters (intrinsic_sort (intrinsic_named x.letters)) in
    let head = twice t x.letters x.at in
    let is_one = unless (is_some (intrinsic_named x.letters)) 26 x.at in
    let there = right_none head is_one (left_none (head ++ is_one) (intrinsics_faults behind xs) none) in
    known_intrinsics passed inner behind xs
    (known_intrinsic passed inner t x.letters (intrinsic_named x.letters) (unless_none (is_some (intrinsic_named x.letters)) 26 x.at there) are)
    (right_none (head ++ is_one) (intrinsics_faults behind xs) none)

pub known_labels : (passed inner : List ℕ → Bool) (t : Table Sort) (xs : List Placed) → AreKnown passed inner (find t) → AreKnown passed inner (find (with_labels t xs))
known_labels passed inner t [] are = are
known_labels passed inner t (x ∷ xs) are =
    known_labels passed inner (declared t x.letters n.label) xs (known_declared passed inner t x.letters n.label are refl never never)

-- ---- 3. names that stay

kept_one : (t : Table Sort) (y : List ℕ) (s : Sort) (x : List ℕ) (u : Sort) → find t x ≡ Some u → find (declared t y s) x ≡ Some u
unfolding with_name
kept_one t y s x u is =
    ap (λ (names : Names). names x) (find_declared t y s) ∙ ap (λ (o : Option Sort). or_else o (if same_name x y then Some s else None)) is

kept_items : (outer : Names) (own : Bool) (k : Kind) (t : Table Sort) (is : List Item) (x : List ℕ) (u : Sort) → find t x ≡ Some u
    → find (with_items outer own k t is) x ≡ Some u
kept_items outer own k t [] x u is = is
kept_items outer own k t (i ∷ more) x u is =
    kept_items outer own k (declared t i.name (shaped (within t outer) own k i.shape)) more x u (kept_one t i.name _ x u is)

kept_equates : (outer : Names) (t : Table Sort) (es : List Equal) (x : List ℕ) (u : Sort) → find t x ≡ Some u → find (with_equates outer t es) x ≡ Some u
kept_equates outer t [] x u is = is
kept_equates outer t (e ∷ es) x u is =
    kept_equates outer (declared t e.name (n.equate (kept_value (sum_value (within t outer) e.terms)))) es x u (kept_one t e.name _ x u is)

kept_intrinsics : (t : Table Sort) (xs : List Placed) (x : List ℕ) (u : Sort) → find t x ≡ Some u → find (with_intrinsics t xs) x ≡ Some u
kept_intrinsics t [] x u is = is
kept_intrinsics t (y ∷ ys) x u is =
    kept_intrinsics (declared t y.letters (intrinsic_sort (intrinsic_named y.letters))) ys x u (kept_one t y.letters _ x u is)

kept_labels : (t : Table Sort) (xs : List Placed) (x : List ℕ) (u : Sort) → find t x ≡ Some u → find (with_labels t xs) x ≡ Some u
kept_labels t [] x u is = is
kept_labels t (y ∷ ys) x u is = kept_labels (declared t y.letters n.label) ys x u (kept_one t y.letters n.label x u is)

kept_declaration : (outer : Names) (t : Table Sort) (d : Declaration) (x : List ℕ) (u : Sort) → find t x ≡ Some u → find (with_declaration outer t d) x ≡ Some u
kept_declaration outer t (decl.Declaration.data_items own k items) x u is = kept_items outer own k t items x u is
kept_declaration outer t (decl.Declaration.equate es) x u is = kept_equates outer t es x u is
kept_declaration outer t (decl.Declaration.intrinsic xs) x u is = kept_intrinsics t xs x u is
kept_declaration outer t (decl.Declaration.label xs) x u is = kept_labels t xs x u is
kept_declaration outer t (decl.Declaration.forward h) x u is = kept_one t h.name _ x u is
kept_declaration outer t (decl.Declaration.external h) x u is = kept_one t h.name _ x u is
kept_declaration outer t (decl.Declaration.procedure h items ss) x u is = kept_one t h.name _ x u is
kept_declaration outer t (decl.Declaration.subroutine h s) x u is = kept_one t h.name _ x u is

pub kept_declarations : (outer : Names) (t : Table Sort) (ds : Declarations) (x : List ℕ) (u : Sort) → find t x ≡ Some u
    → find (with_declarations outer t ds) x ≡ Some u
kept_declarations outer t decl.none x u is = is
kept_declarations outer t (decl.and d ds) x u is = kept_declarations outer (with_declaration outer t d) ds x u (kept_declaration outer t d x u is)
