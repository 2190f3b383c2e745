-- Headings that are alike: a third that is like one of two that are alike is like the other.
use Rattle.std.proofs.Common.{ℕ, ◌≡◌, Bool, true, false, List, [], ◌∷◌, map, refl, sym, ap, ◌∙◌}
use Rattle.std.proofs.lemmas.Bool.{eq-eqb, eqb-true}
use Rattle.std.specs.Prelude.{◌&&◌, ◌==◌}
use Rattle.spl_sound.specs.spl_meaning.Names.{Formal, Profile, same_flag}
use Rattle.spl_sound.specs.spl_meaning.DeclarationRules.{kind_number, same_formals, same_profile}

-- what is compared of a parameter
pub record Shape : Type 0 where
  pub kind : ℕ
  pub array : Bool
  pub value : Bool

shape_of : Formal → Shape
shape_of f = record { kind = kind_number f.kind; array = f.array; value = f.value }

-- what is compared of a heading
pub record Outline : Type 0 where
  pub result : ℕ
  pub split : Bool
  pub formals : List Shape

pub outline : Profile → Outline
outline p = record { result = kind_number p.result; split = p.split; formals = map shape_of p.formals }

flags_are : (a b : Bool) → same_flag a b ≡ true → a ≡ b
flags_are true true e = refl
flags_are true false e = cc e
flags_are false true e = cc e
flags_are false false e = refl

flag_itself : (a : Bool) → same_flag a a ≡ true
flag_itself true = refl
flag_itself false = refl

-- all of three tests hold
all_three : (a b c d : Bool) → (a && b && c && d) ≡ true → (a ≡ true) × ((b ≡ true) × ((c ≡ true) × (d ≡ true)))
all_three true true true true e = (refl, (refl, (refl, refl)))
all_three true true true false e = cc e
all_three true true false d e = cc e
all_three true false c d e = cc e
all_three false b c d e = cc e

formals_are : (fs gs : List Formal) → same_formals fs gs ≡ true → map shape_of fs ≡ map shape_of gs
unfolding shape_of
formals_are [] [] e = refl
formals_are [] (g ∷ gs) e = cc e
formals_are (f ∷ fs) [] e = cc e
formals_are (f ∷ fs) (g ∷ gs) e =
    let t = all_three (kind_number f.kind == kind_number g.kind) (same_flag f.array g.array) (same_flag f.value g.value) (same_formals fs gs) e in
    let k : kind_number f.kind ≡ kind_number g.kind = eqb-true (kind_number f.kind) (kind_number g.kind) t.0 in
    let a = flags_are f.array g.array t.1.0 in
    let v = flags_are f.value g.value t.1.1.0 in
    let rest = formals_are fs gs t.1.1.1 in
    λ i. record { kind = k i; array = a i; value = v i } ∷ rest i

profiles_are : (p q : Profile) → same_profile p q ≡ true → outline p ≡ outline q
unfolding outline
profiles_are p q e =
    let t = all_three (kind_number p.result == kind_number q.result) (same_flag p.split q.split) (same_formals p.formals q.formals) true (whole e) in
    let r = eqb-true (kind_number p.result) (kind_number q.result) t.0 in
    let s = flags_are p.split q.split t.1.0 in
    let fs = formals_are p.formals q.formals t.1.1.0 in
    λ i. record { result = r i; split = s i; formals = fs i }
  where
    whole : same_profile p q ≡ true → ((kind_number p.result == kind_number q.result) && same_flag p.split q.split && same_formals p.formals q.formals && true) ≡ true
    whole e = by (kind_number p.result == kind_number q.result) (same_flag p.split q.split) (same_formals p.formals q.formals) e
      where
        by : (a b c : Bool) → (a && b && c) ≡ true → (a && b && c && true) ≡ true
        by true true true e = refl
        by true true false e = e
        by true false c e = e
        by false b c e = e

-- the same test of outlines
same_shapes : List Shape → List Shape → Bool
same_shapes [] [] = true
same_shapes (f ∷ fs) (g ∷ gs) = f.kind == g.kind && same_flag f.array g.array && same_flag f.value g.value && same_shapes fs gs
same_shapes _ _ = false

same_outline : Outline → Outline → Bool
same_outline a b = a.result == b.result && same_flag a.split b.split && same_shapes a.formals b.formals

by_shapes : (fs gs : List Formal) → same_formals fs gs ≡ same_shapes (map shape_of fs) (map shape_of gs)
unfolding shape_of same_shapes
by_shapes [] [] = refl
by_shapes [] (g ∷ gs) = refl
by_shapes (f ∷ fs) [] = refl
by_shapes (f ∷ fs) (g ∷ gs) = ap (λ (b : Bool). kind_number f.kind == kind_number g.kind && same_flag f.array g.array && same_flag f.value g.value && b) (by_shapes fs gs)

by_outline : (p q : Profile) → same_profile p q ≡ same_outline (outline p) (outline q)
unfolding outline same_outline
by_outline p q = ap (λ (b : Bool). kind_number p.result == kind_number q.result && same_flag p.split q.split && b) (by_shapes p.formals q.formals)

formals_themselves : (fs : List Formal) → same_formals fs fs ≡ true
formals_themselves [] = refl
formals_themselves (f ∷ fs) = rw (eq-eqb (kind_number f.kind) (kind_number f.kind) refl, flag_itself f.array, flag_itself f.value, formals_themselves fs) refl

profile_itself : (p : Profile) → same_profile p p ≡ true
profile_itself p = rw (eq-eqb (kind_number p.result) (kind_number p.result) refl, flag_itself p.split, formals_themselves p.formals) refl

-- a third is like both or like neither of two that are alike
pub as_one : (p q r : Profile) → same_profile q r ≡ true → same_profile p q ≡ same_profile p r
as_one p q r e = by_outline p q ∙ ap (same_outline (outline p)) (profiles_are q r e) ∙ sym (by_outline p r)

-- and two that a third is like are alike
pub both_alike : (p q r : Profile) → same_profile p q ≡ true → same_profile p r ≡ true → same_profile q r ≡ true
both_alike p q r e f = by_outline q r ∙ ap (same_outline (outline q)) (sym (profiles_are p r f) ∙ profiles_are p q e) ∙ sym (by_outline q q) ∙ profile_itself q
