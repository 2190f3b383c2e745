-- Parts that tell something, put together.
use Rattle.std.proofs.Common.{◌≡◌, ◌⊎◌, inl, inr, ℕ, suc, ◌+◌, ◌<◌, ◌||◌, Bool, true, false, if◌then◌else◌, List, [], ◌∷◌, ◌++◌, length, get_or, is_some, position, Option, Some, None, refl, sym, subst, ◌∙◌}
use Rattle.std.specs.List.{list_all}
use Rattle.std.specs.Bool.{beq}
use Rattle.std.specs.Str.{bytes_eq}
use Rattle.std.proofs.lemmas.Bool.{and_parts}
use Rattle.std.proofs.lemmas.List.Folds.{list_all-append, list_all_at}
use Rattle.std.proofs.lemmas.List.Quantifiers.{position-Some}
use lib.Pointwise.{bytes_decides}
use Rattle.spl_covered.specs.spl_branch.declared.pieces.Piece.{Piece}
use Rattle.spl_covered.specs.spl_code.Parts.{Part, Wanted, is_wanted, pieces, ◌⨟◌, with_fresh, call_wanted}
use Rattle.spl_linked_values.specs.Linked.{Tells}

-- ---- tests

pub never : {A : Type 0} → false ≡ true → A
never e = cc

pub either : (a b : Bool) → (a || b) ≡ true → (a ≡ true) ⊎ (b ≡ true)
either true b e = inl refl
either false b e = inr e

-- ---- parts

pub tell_pieces : {t : Wanted → Bool} {P : Type 0} (ps : List Piece) → P → Tells t P (pieces ps)
tell_pieces ps p = record { back = λ l ws h. h; tells = λ l ws h. p }

pub tell_then : {t : Wanted → Bool} {P Q : Type 0} {a b : Part} → Tells t P a → Tells t Q b → Tells t (P × Q) (a ⨟ b)
tell_then {a = a} u v = record {
  back = λ l ws h. u.back l ws (v.back (l + (a l ws).marks) (a l ws).wants h);
  tells = λ l ws h. (u.tells l ws (v.back (l + (a l ws).marks) (a l ws).wants h), v.tells (l + (a l ws).marks) (a l ws).wants h);
}

pub tell_behind : {t : Wanted → Bool} {P : Type 0} {a : Part} (ps : List Piece) → Tells t P a → Tells t P (a ⨟ pieces ps)
tell_behind ps u = record { back = u.back; tells = u.tells }

pub tell_before : {t : Wanted → Bool} {P : Type 0} {a : Part} (ps : List Piece) → Tells t P a → Tells t P (pieces ps ⨟ a)
tell_before ps u = record { back = λ l ws h. u.back (l + 0) ws h; tells = λ l ws h. u.tells (l + 0) ws h }

pub tell_fresh : {t : Wanted → Bool} {P : Type 0} (f : ℕ → Part) → ((x : ℕ) → Tells t P (f x)) → Tells t P (with_fresh f)
tell_fresh f u = record { back = λ l ws h. (u l).back (suc l) ws h; tells = λ l ws h. (u l).tells (suc l) ws h }

pub tell_as : {t : Wanted → Bool} {P Q : Type 0} {a : Part} → (P → Q) → Tells t P a → Tells t Q a
tell_as f u = record { back = u.back; tells = λ l ws h. f (u.tells l ws h) }

pub tell_if : {t : Wanted → Bool} {P : Type 0} (b : Bool) (p q : Part) → (b ≡ true → Tells t P p) → (b ≡ false → Tells t P q) → Tells t P (if b then p else q)
tell_if true p q u v = u refl
tell_if false p q u v = v refl

-- ---- what is wanted

-- a want with this name, and of the gate or not, is this want
want_is : (name : List ℕ) (gate : Bool) (w : Wanted) → is_wanted name gate w ≡ true → w ≡ record { name = name; gate = gate }
want_is name gate w e = let two = and_parts (bytes_eq w.name name) (beq w.gate gate) e in rw ((bytes_decides w.name name).0 two.0, gates w.gate gate two.1) refl
  where
    gates : (a b : Bool) → beq a b ≡ true → a ≡ b
    gates true true h = refl
    gates true false h = cc
    gates false true h = cc
    gates false false h = refl

-- one that is among some passes with them
first_there : (t : Wanted → Bool) (x : List ℕ) (gate : Bool) (ws : List Wanted) → is_some (position (is_wanted x gate) ws) ≡ true → list_all t ws ≡ true
    → t (record { name = x; gate = gate }) ≡ true
first_there t x gate ws e h = by (position (is_wanted x gate) ws) refl e
  where
    it : Wanted
    it = record { name = x; gate = gate }

    passes : (i : ℕ) → i < length ws → (b : Bool) → t (get_or ws i it) ≡ b → b ≡ true
    passes i less true is = refl
    passes i less false is = never (sym (list_all_at t ws i it less is) ∙ h)

    by : (o : Option ℕ) → position (is_wanted x gate) ws ≡ o → is_some o ≡ true → t it ≡ true
    by None is some = never some
    by (Some i) is some =
        let p = position-Some (is_wanted x gate) ws i it is in
        subst (λ (w : Wanted). t w ≡ true) (want_is x gate (get_or ws i it) p.1) (passes i p.0 (t (get_or ws i it)) refl)

-- a name of another module, or of the system
pub tell_want : (t : Wanted → Bool) (x : List ℕ) (gate : Bool) → Tells t (t (record { name = x; gate = gate }) ≡ true) (call_wanted x gate)
tell_want t x gate = record { back = λ l ws h. back ws (position (is_wanted x gate) ws) h; tells = λ l ws h. tells ws (is_some (position (is_wanted x gate) ws)) refl h }
  where
    it : Wanted
    it = record { name = x; gate = gate }

    back : (ws : List Wanted) (o : Option ℕ) → list_all t (if is_some o then ws else ws ++ it ∷ []) ≡ true → list_all t ws ≡ true
    back ws (Some i) h = h
    back ws None h = (and_parts (list_all t ws) (list_all t (it ∷ [])) (sym (list_all-append t ws (it ∷ [])) ∙ h)).0

    tells : (ws : List Wanted) (b : Bool) → is_some (position (is_wanted x gate) ws) ≡ b → list_all t (if b then ws else ws ++ it ∷ []) ≡ true → t it ≡ true
    tells ws true e h = first_there t x gate ws e h
    tells ws false e h =
        (and_parts (t it) true (and_parts (list_all t ws) (list_all t (it ∷ [])) (sym (list_all-append t ws (it ∷ [])) ∙ h)).1).0
