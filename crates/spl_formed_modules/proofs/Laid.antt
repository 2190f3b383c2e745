-- A segment in which a module's words lie, from its first word on.
use Rattle.std.proofs.Common.{◌≡◌, ◌≤◌, ℕ, zero, suc, ◌+◌, Bool, List, [], ◌∷◌, length, Option, Some, refl, ap, ◌∙◌, arith}
use Rattle.std.specs.List.{slice_get}
use Rattle.std.specs.Prelude.{option_map}
use Rattle.mpe_segmenter.specs.spl_branch.declared.modules.Fix.{Fix}
use Rattle.mpe_segmenter.specs.spl_branch.Modules.{fix_at, put_in, LiesAt}

-- no entry has a number
abbrev pub no_entries : Bool → ℕ → ℕ
no_entries wanted index = 0

-- words from an offset on, with what their fixes ask for
pub laid : ℕ → List Fix → List ℕ → List ℕ
laid k fs [] = []
laid k fs (w ∷ ws) = put_in 0 no_entries (fix_at fs k) w ∷ laid (suc k) fs ws

pub length-laid : (k : ℕ) (fs : List Fix) (ws : List ℕ) → length (laid k fs ws) ≡ length ws
unfolding laid
length-laid k fs [] = refl
length-laid k fs (w ∷ ws) = ap suc (length-laid (suc k) fs ws)

shift : (k j : ℕ) → suc k + j ≡ k + suc j
shift k j = omega arith

here : (k : ℕ) → k ≡ k + 0
here k = omega arith

word_laid : (k : ℕ) (fs : List Fix) (ws : List ℕ) (j w : ℕ) → slice_get ws j ≡ Some w → slice_get (laid k fs ws) j ≡ Some (put_in 0 no_entries (fix_at fs (k + j)) w)
unfolding laid
word_laid k fs [] j w is = cc
word_laid k fs (v ∷ ws) zero w is = ap (λ (o : Option ℕ). option_map (put_in 0 no_entries (fix_at fs k)) o) is ∙ ap (λ n. Some (put_in 0 no_entries (fix_at fs n) w)) (here k)
word_laid k fs (v ∷ ws) (suc j) w is = word_laid (suc k) fs ws j w is ∙ ap (λ n. Some (put_in 0 no_entries (fix_at fs n) w)) (shift k j)

none_first : (n : ℕ) → 0 + n ≡ n
none_first n = omega arith

as_many : (m n : ℕ) → m ≡ n → 0 + n ≤ m
as_many m n is = omega (arith, is)

pub lies : (fs : List Fix) (ws : List ℕ) → LiesAt (laid 0 fs ws) 0 no_entries ws fs
lies fs ws = record {
  within = as_many (length (laid 0 fs ws)) (length ws) (length-laid 0 fs ws);
  word = λ k w is.
      ap (λ n. slice_get (laid 0 fs ws) n) (none_first k) ∙ word_laid 0 fs ws k w is ∙ ap (λ n. Some (put_in 0 no_entries (fix_at fs n) w)) (none_first k);
}
