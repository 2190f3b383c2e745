-- The index of a subroutine of a body, by its name.
-- 1. indexes of entries one behind the other             (indexes_append, indexes_none)
-- 2. a body's subroutines in order as entries            (own_entries, own_found)
use Rattle.std.proofs.Common.{◌≡◌, ℕ, zero, suc, ◌+◌, Bool, true, false, nat_eq, List, [], ◌∷◌, ◌++◌, length, Some, refl, sym, ap, ◌∙◌, arith, append_assoc}
use Rattle.std.specs.Prelude.{slice_get, if◌then◌else◌}
use Rattle.std.proofs.lemmas.Bool.{eq-eqb}
use Rattle.spl_routes.specs.spl_tree.DeclarationTrees as decl
use Rattle.spl_routes.specs.spl_tree.DeclarationTrees.{Declaration, Declarations}
use Rattle.spl_routes.specs.spl_meaning.Names.{Table, find, same_name}
use Rattle.spl_routes.specs.spl_meaning.Places.{only}
use Rattle.spl_routes.specs.spl_meaning.Stops.{declaration_stops}
use Rattle.spl_routes.specs.spl_meaning.Tables.{Subroutine, subroutine_in, subroutines_among, subroutine_named}
use Rattle.spl_routes.specs.spl_scopes.Entries.{Owner, main, routine, Callee, subroutine, Entry, same_owner, is_inner, indexes, inner_entry, inner_entries, in_segment}
use Rattle.spl_routes.proofs.spl_routines_proofs.ListLemmas.{one_there}

-- ---- 1. indexes

pub indexes_append : (passes : Callee → Bool) (k : ℕ) (es fs : List Entry)
    → indexes passes k (es ++ fs) ≡ indexes passes k es ++ indexes passes (k + length es) fs
indexes_append passes k [] fs = let same : k ≡ k + 0 = omega arith in ap (λ (n : ℕ). indexes passes n fs) same
indexes_append passes k (e ∷ es) fs =
    let own : Table ℕ = only (passes e.callee) (e.name, k) in
    let next : suc k + length es ≡ k + suc (length es) = omega arith in
    ap (λ (t : Table ℕ). own ++ t)
    (indexes_append passes (suc k) es fs ∙ ap (λ (n : ℕ). indexes passes (suc k) es ++ indexes passes n fs) next)
    ∙ sym (append_assoc own (indexes passes (suc k) es) (indexes passes (k + suc (length es)) fs))

-- no entry among these is of a subroutine of that body
abbrev pub AreOthers : Owner → List Entry → Type 0
AreOthers o [] = Unit {0}
AreOthers o (e ∷ es) = (is_inner o e.callee ≡ false) × AreOthers o es

pub indexes_none : (o : Owner) (k : ℕ) (es : List Entry) → AreOthers o es → indexes (is_inner o) k es ≡ []
indexes_none o k [] others = refl
indexes_none o k (e ∷ es) others =
    ap (λ (b : Bool). only b (e.name, k) ++ indexes (is_inner o) (suc k) es) others.0 ∙ indexes_none o (suc k) es others.1

pub others_both : (o : Owner) (es fs : List Entry) → AreOthers o es → AreOthers o fs → AreOthers o (es ++ fs)
others_both o [] fs one two = two
others_both o (e ∷ es) fs one two = (one.0, others_both o es fs one.1 two)

-- nor among those of a segment
pub others_in : (o : Owner) (g : ℕ) (es : List Entry) → AreOthers o es → AreOthers o (in_segment g es)
others_in o g [] others = tt
others_in o g (e ∷ es) others = by (nat_eq e.segment g) (others_in o g es others.1) where
  by : (b : Bool) → AreOthers o (in_segment g es) → AreOthers o (if b then e ∷ in_segment g es else in_segment g es)
  by true rest = (others.0, rest)
  by false rest = rest

-- ---- 2. a body's subroutines

abbrev pub own_entry : ℕ → Owner → Subroutine → Entry
own_entry g o s = record { name = s.heading.name; segment = g; callee = subroutine o }

-- in order, as entries
abbrev pub own_entries : ℕ → Owner → List Subroutine → List Entry
own_entries g o [] = []
own_entries g o (s ∷ ss) = own_entry g o s ∷ own_entries g o ss

own_one : (g : ℕ) (o : Owner) (m : ℕ) (d : Declaration) → inner_entry g o d ≡ own_entries g o (subroutine_in m d)
own_one g o m (decl.Declaration.subroutine h s) = refl
own_one g o m (decl.Declaration.procedure h items ss) = refl
own_one g o m (decl.Declaration.data_items own k items) = refl
own_one g o m (decl.Declaration.equate es) = refl
own_one g o m (decl.Declaration.intrinsic xs) = refl
own_one g o m (decl.Declaration.label xs) = refl
own_one g o m (decl.Declaration.forward h) = refl
own_one g o m (decl.Declaration.external h) = refl

own_both : (g : ℕ) (o : Owner) (ss us : List Subroutine) → own_entries g o (ss ++ us) ≡ own_entries g o ss ++ own_entries g o us
own_both g o [] us = refl
own_both g o (s ∷ ss) us = ap (λ (es : List Entry). own_entry g o s ∷ es) (own_both g o ss us)

-- the subroutines in a list of declarations are its entries
pub own_are : (g : ℕ) (o : Owner) (m : ℕ) (ds : Declarations) → inner_entries g o ds ≡ own_entries g o (subroutines_among m ds)
own_are g o m decl.none = refl
own_are g o m (decl.and d ds) =
    ap (λ (es : List Entry). es ++ inner_entries g o ds) (own_one g o m d)
    ∙ ap (λ (es : List Entry). own_entries g o (subroutine_in m d) ++ es) (own_are g o (m + declaration_stops d) ds)
    ∙ sym (own_both g o (subroutine_in m d) (subroutines_among (m + declaration_stops d) ds))

-- all of one segment
pub own_all : (g : ℕ) (o : Owner) (ss : List Subroutine) → in_segment g (own_entries g o ss) ≡ own_entries g o ss
own_all g o [] = refl
own_all g o (s ∷ ss) =
    ap (λ (b : Bool). if b then own_entry g o s ∷ in_segment g (own_entries g o ss) else in_segment g (own_entries g o ss)) (eq-eqb g g refl)
    ∙ ap (λ (es : List Entry). own_entry g o s ∷ es) (own_all g o ss)

pub own_at : (g : ℕ) (o : Owner) (ss : List Subroutine) (k : ℕ) (s : Subroutine) → slice_get ss k ≡ Some s → slice_get (own_entries g o ss) k ≡ Some (own_entry g o s)
own_at g o [] k s is = cc
own_at g o (y ∷ ss) zero s is = ap (λ (z : Subroutine). Some (own_entry g o z)) (one_there y s is)
own_at g o (y ∷ ss) (suc k) s is = own_at g o ss k s is

-- they are that body's
pub owns : (o : Owner) → same_owner o o ≡ true
owns main = refl
owns (routine i) = eq-eqb i i refl

-- those of another are not
pub own_others : (g : ℕ) (o p : Owner) (ss : List Subroutine) → same_owner o p ≡ false → AreOthers o (own_entries g p ss)
own_others g o p [] other = tt
own_others g o p (s ∷ ss) other = (other, own_others g o p ss other)

-- the subroutine that a list means by a name, at its place, and the index of that place from k on
pub record OwnFound (k : ℕ) (ss : List Subroutine) (x : List ℕ) (index : ℕ) : Type 0 where
  pub place : ℕ
  pub number : index ≡ k + place
  pub is : Subroutine
  pub there : slice_get ss place ≡ Some is
  pub means : subroutine_named ss x ≡ Some is

pub own_found : (g : ℕ) (o : Owner) (k : ℕ) (ss : List Subroutine) (x : List ℕ) (index : ℕ)
    → find (indexes (is_inner o) k (own_entries g o ss)) x ≡ Some index → OwnFound k ss x index
own_found g o k [] x index is = cc
own_found g o k (s ∷ ss) x index is =
    by (same_name x s.heading.name) refl
    (sym (ap (λ (b : Bool). find (only b (s.heading.name, k) ++ indexes (is_inner o) (suc k) (own_entries g o ss)) x) (owns o)) ∙ is)
    (λ f. own_found g o (suc k) ss x index f) where
      by : (b : Bool) → same_name x s.heading.name ≡ b → (if b then Some k else find (indexes (is_inner o) (suc k) (own_entries g o ss)) x) ≡ Some index
          → (find (indexes (is_inner o) (suc k) (own_entries g o ss)) x ≡ Some index → OwnFound (suc k) ss x index) → OwnFound k (s ∷ ss) x index
      by true same f rest =
          let here = one_there k index f in
          record {
            place = 0;
            number = omega (arith, here);
            is = s;
            there = refl;
            means = ap (λ (b : Bool). if b then Some s else subroutine_named ss x) same;
          }
      by false same f rest =
          let r = rest f in
          let number = r.number in
          record {
            place = suc r.place;
            number = omega (arith, number);
            is = r.is;
            there = r.there;
            means = ap (λ (b : Bool). if b then Some s else subroutine_named ss x) same ∙ r.means;
          }
