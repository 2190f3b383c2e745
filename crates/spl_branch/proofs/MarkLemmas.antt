-- What a code keeps of its pieces and marks, over lists: when a mark is made, and when a piece is put.
use Rattle.std.proofs.Common.{◌≡◌, ℕ, zero, suc, ◌+◌, ◌<◌, ◌≤◌, Bool, true, false, not, nat_lt, if◌then◌else◌, List, [], ◌∷◌, ◌++◌, length, get_or, Option, Some, None, refl, sym, ap, ◌∙◌, arith, length-append}
use Rattle.std.proofs.lemmas.List.{length-set}
use Rattle.std.specs.List.{list_all}
use Rattle.std.proofs.lemmas.List.Folds.{list_all-append}
use Rattle.std.proofs.lemmas.Bool.{and_parts, and_from, ltb-true, lt-ltb}
use Rattle.std.proofs.lemmas.Bool.Decides.{nat_tests}
use Rattle.std.proofs.lemmas.Grind.{common_steps}
use Rattle.spl_branch.specs.declared.pieces.Piece.{Piece}
use Rattle.spl_branch.specs.declared.pieces.Piece.TheVariants.{Do, Literal, Place, Branch, Mark, Call, Begin}
use Rattle.spl_branch.specs.Pieces.{is_made, named, is_settable, with_mark, is_set, sets_once, sets, once, InStep}

-- a mark of so many is one of more
made_more_one : (n m : ℕ) (o : Option ℕ) → n ≤ m → is_made n o ≡ true → is_made m o ≡ true
made_more_one n m None h e = refl
made_more_one n m (Some l) h e = lt-ltb l m (omega (arith, ltb-true l n e))

pub made_more : (n m : ℕ) (ps : List Piece) → n ≤ m → list_all (λ x. is_made n (named x)) ps ≡ true → list_all (λ x. is_made m (named x)) ps ≡ true
made_more n m [] h e = refl
made_more n m (x ∷ ps) h e =
    let both = and_parts (is_made n (named x)) (list_all (λ x. is_made n (named x)) ps) e in
    and_from _ _ (made_more_one n m (named x) h both.0) (made_more n m ps h both.1)

-- a test passes one piece more
pub all_more : (test : Piece → Bool) (ps : List Piece) (x : Piece) → list_all test ps ≡ true → test x ≡ true → list_all test (ps ++ x ∷ []) ≡ true
all_more test ps x h e = rw (list_all-append test ps (x ∷ []), h, e) refl

-- a mark is set as often as by both parts
pub sets-append : (l : ℕ) (ps qs : List Piece) → sets l (ps ++ qs) ≡ sets l ps + sets l qs
sets-append l [] qs = omega arith
sets-append l (x ∷ ps) qs = omega (arith, sets-append l ps qs)

-- a fresh mark is not set
fresh_set : (marks : List Bool) (l : ℕ) → is_set (marks ++ false ∷ []) l ≡ is_set marks l
fresh_set [] zero = refl
fresh_set [] (suc l) = refl
fresh_set (m ∷ marks) zero = refl
fresh_set (m ∷ marks) (suc l) = fresh_set marks l

pub in_step_fresh : (ps : List Piece) (marks : List Bool) → InStep ps marks → InStep ps (marks ++ false ∷ [])
in_step_fresh ps marks h l = h l ∙ ap once (sym (fresh_set marks l))

-- behind a piece one mark more is set
once_more : (marks : List Bool) (x : Piece) (l : ℕ) → is_settable marks x ≡ true → once (is_set (with_mark marks x) l) ≡ once (is_set marks l) + sets_once l x
once_more marks (Do by) l h = omega arith
once_more marks (Literal w) l h = omega arith
once_more marks (Place k) l h = omega arith
once_more marks (Branch by k) l h = omega arith
once_more marks (Mark k) l h =
    let both = and_parts (nat_lt k (length marks)) (not (get_or marks k false)) h in
    let low : k < length marks = ltb-true k (length marks) both.0 in
    grind (arith, common_steps, nat_tests)
once_more marks (Call by wanted index) l h = omega arith
once_more marks (Begin at) l h = omega arith

pub in_step_put : (ps : List Piece) (marks : List Bool) (x : Piece) → is_settable marks x ≡ true → InStep ps marks → InStep (ps ++ x ∷ []) (with_mark marks x)
in_step_put ps marks x s h l = omega (arith, sets-append l ps (x ∷ []), h l, once_more marks x l s)

-- what holds of pieces and marks holds where a mark was made, or could not be
pub record Kept (ps : List Piece) (marks : List Bool) : Type 0 where
  pub made : list_all (λ x. is_made (length marks) (named x)) ps ≡ true
  pub in_step : InStep ps marks

pub kept_fresh : (ps : List Piece) (marks new : List Bool) (r : Bool) → new ≡ (if r then marks ++ false ∷ [] else marks) → list_all (λ x. is_made (length marks) (named x)) ps ≡ true → InStep ps marks → Kept ps new
kept_fresh ps marks new true e h k = rw e (record {
  made = made_more (length marks) (length (marks ++ false ∷ [])) ps (omega (arith, length-append marks (false ∷ []))) h;
  in_step = in_step_fresh ps marks k;
})
kept_fresh ps marks new false e h k = rw e (record { made = h; in_step = k })

-- the same where a piece was put
length_with : (marks : List Bool) (x : Piece) → length (with_mark marks x) ≡ length marks
length_with marks (Do by) = refl
length_with marks (Literal w) = refl
length_with marks (Place k) = refl
length_with marks (Branch by k) = refl
length_with marks (Mark k) = length-set marks k true
length_with marks (Call by wanted index) = refl
length_with marks (Begin at) = refl

pub kept_put : (ps : List Piece) (marks : List Bool) (x : Piece) (new : List Piece) (marks' : List Bool) → new ≡ ps ++ x ∷ [] → marks' ≡ with_mark marks x → is_made (length marks) (named x) ≡ true → is_settable marks x ≡ true
    → list_all (λ x. is_made (length marks) (named x)) ps ≡ true → InStep ps marks → Kept new marks'
kept_put ps marks x new marks' e e' m s h k = rw (e, e') (record {
  made = rw (length_with marks x) (all_more (λ x. is_made (length marks) (named x)) ps x h m);
  in_step = in_step_put ps marks x s k;
})

-- a piece that is no mark sets none
pub with_other : (marks : List Bool) (x : Piece) → ((k : ℕ) → x ≡ Mark k → ⊥) → marks ≡ with_mark marks x
with_other marks (Do by) h = refl
with_other marks (Literal w) h = refl
with_other marks (Place k) h = refl
with_other marks (Branch by k) h = refl
with_other marks (Mark k) h = absurd (h k refl)
with_other marks (Call by wanted index) h = refl
with_other marks (Begin at) h = refl
