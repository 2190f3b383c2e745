-- Names without a repeat have none in common with those behind them.
use Rattle.std.proofs.Common.{◌≡◌, ℕ, ◌||◌, nat_eq, Bool, true, false, if◌then◌else◌, List, [], ◌∷◌, ◌++◌, Some, None, refl, sym, ap, ◌∙◌}
use Rattle.std.specs.Cmp.Lexicographic.{pointwise, same_text}
use Rattle.std.proofs.lemmas.Bool.{false≢true}
use Rattle.spl_carried.specs.mpe_segmenter.Names.{is_among}
use Rattle.spl_carried.specs.mpe_segmenter.Faults.{first_repeat}
use Rattle.spl_carried.proofs.mpe_segmenter_proofs.NameLemmas.{same_self}

pub among_left : (x : List ℕ) (ns ms : List (List ℕ)) → is_among x ns ≡ true → is_among x (ns ++ ms) ≡ true
among_left x [] ms is = absurd (false≢true is)
among_left x (n ∷ ns) ms is = by (pointwise nat_eq x n) (λ e. among_left x ns ms e) is
  where
    by : (b : Bool) → (is_among x ns ≡ true → is_among x (ns ++ ms) ≡ true) → (b || is_among x ns) ≡ true → (b || is_among x (ns ++ ms)) ≡ true
    by true rest e = refl
    by false rest e = rest e

pub among_right : (x : List ℕ) (ns ms : List (List ℕ)) → is_among x ms ≡ true → is_among x (ns ++ ms) ≡ true
among_right x [] ms is = is
among_right x (n ∷ ns) ms is = by (pointwise nat_eq x n) (among_right x ns ms is)
  where
    by : (b : Bool) → is_among x (ns ++ ms) ≡ true → (b || is_among x (ns ++ ms)) ≡ true
    by true rest = refl
    by false rest = rest

pub among_self : (x : List ℕ) (ns : List (List ℕ)) → is_among x (x ∷ ns) ≡ true
among_self x ns = ap (λ (b : Bool). b || is_among x ns) (same_self x)

-- a name that was seen stands among no further ones
pub none_again : (seen ns : List (List ℕ)) → first_repeat seen ns ≡ None → (x : List ℕ) → is_among x seen ≡ true → is_among x ns ≡ false
none_again seen [] none x was = refl
none_again seen (n ∷ ns) none x was = by (is_among n seen) refl none (pointwise nat_eq x n) refl (λ e. none_again (seen ++ n ∷ []) ns e x (among_left x seen (n ∷ []) was))
  where
    by : (b : Bool) → is_among n seen ≡ b → (if b then Some n else first_repeat (seen ++ n ∷ []) ns) ≡ None
        → (c : Bool) → pointwise nat_eq x n ≡ c → (first_repeat (seen ++ n ∷ []) ns ≡ None → is_among x ns ≡ false) → (c || is_among x ns) ≡ false
    by true is e c same rest = cc
    by false is e true same rest = absurd (false≢true (sym is ∙ ap (λ (y : List ℕ). is_among y seen) (sym (same_text x n (sym same))) ∙ was))
    by false is e false same rest = rest e

-- a name of the first of two lists stands in the second no more
pub apart_lists : (seen ns ms : List (List ℕ)) → first_repeat seen (ns ++ ms) ≡ None → (x : List ℕ) → is_among x ns ≡ true → is_among x ms ≡ false
apart_lists seen [] ms none x is = absurd (false≢true is)
apart_lists seen (n ∷ ns) ms none x is =
    by (is_among n seen) none (pointwise nat_eq x n) refl is (λ e f. apart_lists (seen ++ n ∷ []) ns ms e x f)
    (λ e same. right_false (none_again (seen ++ n ∷ []) (ns ++ ms) e x (among_right x seen (n ∷ []) (ap (λ (y : List ℕ). is_among y (n ∷ [])) (same_text x n (sym same)) ∙ among_self n []))))
  where
    right_false : is_among x (ns ++ ms) ≡ false → is_among x ms ≡ false
    right_false not_there = each (is_among x ms) refl
      where
        each : (b : Bool) → is_among x ms ≡ b → b ≡ false
        each true there = absurd (false≢true (sym not_there ∙ among_right x ns ms there))
        each false there = refl

    by : (b : Bool) → (if b then Some n else first_repeat (seen ++ n ∷ []) (ns ++ ms)) ≡ None → (c : Bool) → pointwise nat_eq x n ≡ c → (c || is_among x ns) ≡ true
        → (first_repeat (seen ++ n ∷ []) (ns ++ ms) ≡ None → is_among x ns ≡ true → is_among x ms ≡ false)
        → (first_repeat (seen ++ n ∷ []) (ns ++ ms) ≡ None → pointwise nat_eq x n ≡ true → is_among x ms ≡ false) → is_among x ms ≡ false
    by true e c same there rest own = cc
    by false e true same there rest own = own e same
    by false e false same there rest own = rest e there

-- so it is with what stands behind some
pub later_none : (seen ns ms : List (List ℕ)) → first_repeat seen (ns ++ ms) ≡ None → (seen' : List (List ℕ)) × (first_repeat seen' ms ≡ None)
later_none seen [] ms none = (seen, none)
later_none seen (n ∷ ns) ms none = by (is_among n seen) none (λ e. later_none (seen ++ n ∷ []) ns ms e)
  where
    by : (b : Bool) → (if b then Some n else first_repeat (seen ++ n ∷ []) (ns ++ ms)) ≡ None
        → (first_repeat (seen ++ n ∷ []) (ns ++ ms) ≡ None → (seen' : List (List ℕ)) × (first_repeat seen' ms ≡ None)) → (seen' : List (List ℕ)) × (first_repeat seen' ms ≡ None)
    by true e rest = cc
    by false e rest = rest e
