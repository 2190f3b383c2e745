-- The loops that put a module's words and a table into a segment, step by step.
use Rattle.std.proofs.Common.{◌≡◌, ℕ, zero, suc, ◌+◌, ◌-◌, ◌<◌, ◌==◌, ◌⊎◌, inl, inr, Bool, true, false, if◌then◌else◌, List, [], ◌∷◌, ◌++◌, length, get_or, set, take, reverse, Option, None, Some, refl, sym, ap, ◌∙◌, arith, add-zero, append_assoc, get_or-set_same, get_or-set_other}
use Rattle.std.proofs.lemmas.List.{length-set, take_more, ext_get_or, get_or-reverse, length-reverse}
use Rattle.std.proofs.lemmas.Bool.{cases_eq, eq-eqb, ne_eqb}
use Rattle.spl_branch.specs.declared.modules.Fix.{Fix}
use Rattle.spl_branch.specs.Modules.{fix_at, put_in}
use Rattle.mpe_segmenter.specs.Segments.{laid_from, IsApart}

-- where there is no fix, the words are the module's
pub laid_none : (ws : List ℕ) (base : ℕ) (entries : Bool → ℕ → ℕ) (k : ℕ) → laid_from base entries [] k ws ≡ ws
laid_none [] base entries k = refl
laid_none (w ∷ ws) base entries k = ap (λ vs. w ∷ vs) (laid_none ws base entries (k + 1))

pub length-laid_from : (ws : List ℕ) (base : ℕ) (entries : Bool → ℕ → ℕ) (fs : List Fix) (k : ℕ) → length (laid_from base entries fs k ws) ≡ length ws
length-laid_from [] base entries fs k = refl
length-laid_from (w ∷ ws) base entries fs k = ap suc (length-laid_from ws base entries fs (k + 1))

-- each word has what its fix asks for
pub laid_at : (ws : List ℕ) (base : ℕ) (entries : Bool → ℕ → ℕ) (fs : List Fix) (k j : ℕ) → j < length ws → get_or (laid_from base entries fs k ws) j 0 ≡ put_in base entries (fix_at fs (k + j)) (get_or ws j 0)
laid_at [] base entries fs k j h = absurd (omega arith)
laid_at (w ∷ ws) base entries fs k zero h = ap (λ i. put_in base entries (fix_at fs i) w) (sym (add-zero k))
laid_at (w ∷ ws) base entries fs k (suc j) h = laid_at ws base entries fs (k + 1) j (omega arith) ∙ ap (λ i. put_in base entries (fix_at fs i) (get_or ws j 0)) (omega arith)

-- the fix at an offset, with one fix more
fix_more_here : (fs : List Fix) (f : Fix) (k : ℕ) → fix_at fs k ≡ None → f.offset ≡ k → fix_at (fs ++ f ∷ []) k ≡ Some f
fix_more_here [] f k h e = rw (eq-eqb f.offset k e) refl
fix_more_here (g ∷ fs) f k h e = go (g.offset == k) h (λ n. fix_more_here fs f k n e) where
  go : (b : Bool) → (if b then Some g else fix_at fs k) ≡ None → (fix_at fs k ≡ None → fix_at (fs ++ f ∷ []) k ≡ Some f) → (if b then Some g else fix_at (fs ++ f ∷ []) k) ≡ Some f
  go true n rest = cc
  go false n rest = rest n

fix_more_other : (fs : List Fix) (f : Fix) (k : ℕ) → (f.offset ≡ k → ⊥) → fix_at (fs ++ f ∷ []) k ≡ fix_at fs k
fix_more_other [] f k e = rw (ne_eqb f.offset k e) refl
fix_more_other (g ∷ fs) f k e = ap (λ (o : Option Fix). if g.offset == k then Some g else o) (fix_more_other fs f k e)

-- one fix more
pub laid_more : (ws : List ℕ) (base : ℕ) (entries : Bool → ℕ → ℕ) (fs : List Fix) (i : ℕ) (d : Fix) (now : List ℕ) (v : ℕ) → IsApart (length ws) fs → i < length fs → now ≡ laid_from base entries (take i fs) 0 ws
    → v ≡ put_in base entries (Some (get_or fs i d)) (get_or now (get_or fs i d).offset 0) → set now (get_or fs i d).offset v ≡ laid_from base entries (take (i + 1) fs) 0 ws
laid_more ws base entries fs i d now v apart lt e h =
    ext_get_or 0 (set now f.offset v) (laid_from base entries (take (i + 1) fs) 0 ws)
    (length-set now f.offset v ∙ ap length e ∙ length-laid_from ws base entries (take i fs) 0 ∙ sym (length-laid_from ws base entries (take (i + 1) fs) 0))
    (λ j low. go j low (cases_eq f.offset j)) where
      f : Fix
      f = get_or fs i d

      size : length now ≡ length ws
      size = ap length e ∙ length-laid_from ws base entries (take i fs) 0

      here : get_or now f.offset 0 ≡ get_or ws f.offset 0
      here = ap (λ (vs : List ℕ). get_or vs f.offset 0) e ∙ laid_at ws base entries (take i fs) 0 f.offset (apart i d lt).0 ∙ ap (λ k. put_in base entries (fix_at (take i fs) k) (get_or ws f.offset 0)) (omega arith) ∙ ap (λ o. put_in base entries o (get_or ws f.offset 0)) (apart i d lt).1

      after : (j : ℕ) → j < length ws → get_or (laid_from base entries (take (i + 1) fs) 0 ws) j 0 ≡ put_in base entries (fix_at (take i fs ++ f ∷ []) j) (get_or ws j 0)
      after j low = laid_at ws base entries (take (i + 1) fs) 0 j low ∙ ap (λ k. put_in base entries (fix_at (take (i + 1) fs) k) (get_or ws j 0)) (omega arith) ∙ ap (λ gs. put_in base entries (fix_at gs j) (get_or ws j 0)) (take_more fs i d lt)

      before : (j : ℕ) → j < length ws → get_or now j 0 ≡ put_in base entries (fix_at (take i fs) j) (get_or ws j 0)
      before j low = ap (λ (vs : List ℕ). get_or vs j 0) e ∙ laid_at ws base entries (take i fs) 0 j low ∙ ap (λ k. put_in base entries (fix_at (take i fs) k) (get_or ws j 0)) (omega arith)

      go : (j : ℕ) → j < length (set now f.offset v) → (f.offset ≡ j) ⊎ (f.offset ≡ j → ⊥) → get_or (set now f.offset v) j 0 ≡ get_or (laid_from base entries (take (i + 1) fs) 0 ws) j 0
      go j low (inl s) =
          let within : j < length ws = omega (arith, length-set now f.offset v, size) in
          rw (← s) (get_or-set_same now f.offset v 0 (omega (arith, s, within, size)) ∙ h ∙ ap (λ w. put_in base entries (Some f) w) here ∙ sym (after f.offset (apart i d lt).0 ∙ ap (λ o. put_in base entries o (get_or ws f.offset 0)) (fix_more_here (take i fs) f f.offset (apart i d lt).1 refl)))
      go j low (inr s) =
          let within : j < length ws = omega (arith, length-set now f.offset v, size) in
          get_or-set_other now f.offset j v 0 (λ t. s (sym t)) ∙ before j within ∙ sym (after j within ∙ ap (λ o. put_in base entries o (get_or ws j 0)) (fix_more_other (take i fs) f j s))

-- one label more
pub labels_more : (labels : List ℕ) (k : ℕ) (made new : List ℕ) → k < length labels → new ≡ (made ++ take k (reverse labels)) ++ get_or labels (length labels - 1 - k) 0 ∷ [] → new ≡ made ++ take (k + 1) (reverse labels)
labels_more labels k made new lt e =
    e ∙ append_assoc made (take k (reverse labels)) (get_or labels (length labels - 1 - k) 0 ∷ [])
    ∙ ap (λ (xs : List ℕ). made ++ xs) (ap (λ v. take k (reverse labels) ++ v ∷ []) (sym (get_or-reverse labels k 0 lt)) ∙ sym (take_more (reverse labels) k 0 (omega (arith, length-reverse labels))))
