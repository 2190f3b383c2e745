-- Words of a list by their addresses.
use Rattle.std.proofs.Common.{◌≡◌, ◌<◌, ◌≤◌, ℕ, zero, suc, Bool, true, false, nat_eq, List, [], ◌∷◌, length, set, get_or, Some, None, refl, sym, ap, ◌∙◌, arith}
use Rattle.std.specs.Prelude.{if◌then◌else◌}
use Rattle.std.specs.List.{slice_get}
use Rattle.std.proofs.lemmas.Bool.Decides.{nat_tests}
use Rattle.std.proofs.lemmas.List.{set_past}
use Rattle.std.proofs.lemmas.Option.{slice_get_past, slice_get-get_or}
use Rattle.spl_sorts.specs.spl_meaning.Places.{stored, changed, word_or_zero}
use Rattle.spl_initials.specs.Memory.{memory_of}

same_zero : nat_eq 0 0 ≡ true
same_zero = refl

zero_suc : (b : ℕ) → nat_eq 0 (suc b) ≡ false
zero_suc b = grind (arith, nat_tests)

suc_zero : (a : ℕ) → nat_eq (suc a) 0 ≡ false
suc_zero a = grind (arith, nat_tests)

suc_suc : (a b : ℕ) → nat_eq (suc a) (suc b) ≡ nat_eq a b
suc_suc a b = grind (arith, nat_tests)

none_changed : (b : Bool) (v : ℕ) → None ≡ (if b then changed None v else None)
none_changed true v = refl
none_changed false v = refl

at_set : (ws : List ℕ) (a v b : ℕ) → slice_get (set ws a v) b ≡ stored a v (slice_get ws) b
at_set [] a v b = none_changed (nat_eq a b) v
at_set (w ∷ ws) zero v zero = refl
at_set (w ∷ ws) zero v (suc b) = ap (λ (s : Bool). if s then changed (slice_get ws b) v else slice_get ws b) (sym (zero_suc b))
at_set (w ∷ ws) (suc a) v zero = ap (λ (s : Bool). if s then changed (Some w) v else Some w) (sym (suc_zero a))
at_set (w ∷ ws) (suc a) v (suc b) = at_set ws a v b ∙ ap (λ (s : Bool). if s then changed (slice_get ws b) v else slice_get ws b) (sym (suc_suc a b))

-- a word stored
pub memory_set : (ws : List ℕ) (a v : ℕ) → memory_of (set ws a v) ≡ stored a v (memory_of ws)
unfolding memory_of
memory_set ws a v i b = at_set ws a v b i

-- and where there is none
pub memory_past : (ws : List ℕ) (a v : ℕ) → length ws ≤ a → memory_of ws ≡ stored a v (memory_of ws)
memory_past ws a v le = ap memory_of (sym (set_past ws a v le)) ∙ memory_set ws a v

-- a word read
pub read_within : (ws : List ℕ) (a d : ℕ) → a < length ws → get_or ws a d ≡ word_or_zero (memory_of ws a)
unfolding memory_of
read_within ws a d lt = ap word_or_zero (sym (slice_get-get_or ws a d lt))

-- and where there is none
pub read_past : (ws : List ℕ) (a : ℕ) → length ws ≤ a → 0 ≡ word_or_zero (memory_of ws a)
unfolding memory_of
read_past ws a le = ap word_or_zero (sym (slice_get_past ws a le))
