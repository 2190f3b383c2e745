-- Data words by their addresses, and as a list.
use Rattle.std.proofs.Common.{◌≡◌, ◌<◌, ◌≤◌, ◌⊎◌, inl, inr, ℕ, zero, suc, ◌+◌, ◌*◌, ◌/◌, nat_eq, ℤ, Bool, true, false, List, [], ◌∷◌, length, Option, Some, None, is_some, refl, sym, ap, ◌∙◌, arith}
use Rattle.std.specs.Prelude.{nat_lt, if◌then◌else◌}
use Rattle.std.specs.List.{slice_get}
use Rattle.std.proofs.lemmas.Bool.{lt-ltb, le-ltb, cases_lt}
use Rattle.spl_carries.specs.spl_tree.declared.expressions.Kind.{Kind}
use Rattle.spl_carries.specs.spl_tree.declared.expressions.Kind.TheVariants as kind
use Rattle.spl_carries.specs.spl_meaning.Tables.{Source}
use Rattle.spl_carries.specs.spl_meaning.Places.{Place, Cell, Initial, stored, changed, put_value, put_values, word_or_zero, put_cells, put_initials}
use Rattle.spl_carries.specs.spl_meaning.Bodies.{Reached, reached_behind, data_words, program_from, program_of}
use Rattle.spl_carries.specs.spl_meaning.Runs.{Seat, global_address, zeros, opening}
use Rattle.spl_module_words.specs.spl_initials.Memory.{memory_of}
use Rattle.spl_carries.specs.Segments.{words_from}
use Rattle.spl_bounds.specs.Programs.{DataWordsAreInitial}

-- ---- values that are put into words are put where words are

changed_same : (b : Bool) (o : Option ℕ) (v : ℕ) → is_some (if b then changed o v else o) ≡ is_some o
changed_same true None v = refl
changed_same true (Some w) v = refl
changed_same false o v = refl

value_same : (k : Kind) (a j : ℕ) (v : ℤ) (mem : ℕ → Option ℕ) (b : ℕ) → is_some (put_value k a j v mem b) ≡ is_some (mem b)
value_same kind.Double a j v mem b =
    changed_same (nat_eq (a + 2 * j) b) (stored (a + 2 * j + 1) _ mem b) _ ∙ changed_same (nat_eq (a + 2 * j + 1) b) (mem b) _
value_same kind.Byte a j v mem b = changed_same (nat_eq ((2 * a + j) / 2) b) (mem b) _
value_same kind.Integer a j v mem b = changed_same (nat_eq (a + j) b) (mem b) _
value_same kind.Logical a j v mem b = changed_same (nat_eq (a + j) b) (mem b) _

values_same : (k : Kind) (a j : ℕ) (vs : List ℤ) (mem : ℕ → Option ℕ) (b : ℕ) → is_some (put_values k a j vs mem b) ≡ is_some (mem b)
values_same k a j [] mem b = refl
values_same k a j (v ∷ vs) mem b = values_same k a (suc j) vs (put_value k a j v mem) b ∙ value_same k a j v mem b

cells_same : (address : Place → ℕ) (cs : List Cell) (mem : ℕ → Option ℕ) (b : ℕ) → is_some (put_cells address cs mem b) ≡ is_some (mem b)
cells_same address [] mem b = refl
cells_same address (c ∷ cs) mem b = cells_same address cs (stored (address c.place) _ mem) b ∙ changed_same (nat_eq (address c.place) b) (mem b) _

initials_same : (address : Place → ℕ) (is : List Initial) (mem : ℕ → Option ℕ) (b : ℕ) → is_some (put_initials address is mem b) ≡ is_some (mem b)
initials_same address [] mem b = refl
initials_same address (i ∷ is) mem b =
    initials_same address is (put_values i.kind (address i.from) 0 i.values mem) b ∙ values_same i.kind (address i.from) 0 i.values mem b

zeros_are : (n a : ℕ) → is_some {T = ℕ} (zeros n a) ≡ nat_lt a n
zeros_are n a = by (nat_lt a n)
  where
    by : (b : Bool) → is_some {T = ℕ} (if b then Some 0 else None) ≡ b
    by true = refl
    by false = refl

-- ---- lists

program_words : (words : ℕ) (at : Reached) (us : List Source) → (program_from words at us).words ≡ words
program_words words at [] = refl
program_words words at (u ∷ us) = program_words words (reached_behind u at) us

no_seat : Seat
no_seat = record { stack = 0; extra = 0; room = 0; lines = [] }

-- a list that has a word at each address below a number, and at no other, has so many
both_more : (a n : ℕ) → nat_lt (suc a) (suc n) ≡ nat_lt a n
both_more a n = by (cases_lt a n)
  where
    by : (a < n) ⊎ (n ≤ a) → nat_lt (suc a) (suc n) ≡ nat_lt a n
    by (inl lt) = lt-ltb (suc a) (suc n) (omega (arith, lt)) ∙ sym (lt-ltb a n lt)
    by (inr le) = le-ltb (suc a) (suc n) (omega (arith, le)) ∙ sym (le-ltb a n le)

as_long : (ws : List ℕ) (n : ℕ) → ((a : ℕ) → is_some (slice_get ws a) ≡ nat_lt a n) → length ws ≡ n
as_long [] zero h = refl
as_long [] (suc n) h = clash (h 0 ∙ lt-ltb 0 (suc n) (omega arith))
  where
    clash : {A : Type 0} → false ≡ true → A
    clash e = cc
as_long (w ∷ ws) zero h = clash (h 0 ∙ le-ltb 0 0 (omega arith))
  where
    clash : {A : Type 0} → true ≡ false → A
    clash e = cc
as_long (w ∷ ws) (suc n) h = ap suc (as_long ws n (λ a. h (suc a) ∙ both_more a n))

-- it is the list of the words at these addresses
are_words : (f : ℕ → ℕ) (k n : ℕ) (ws : List ℕ) → length ws ≡ n → ((i : ℕ) → i < n → slice_get ws i ≡ Some (f (k + i))) → ws ≡ words_from f k n
are_words f k zero [] is h = refl
are_words f k zero (w ∷ ws) is h = cc
are_words f k (suc n) [] is h = cc
are_words f k (suc n) (w ∷ ws) is h = both (first (h 0 (omega arith))) (are_words f (suc k) n ws (fewer (length ws) n is) (λ i lt. h (suc i) (omega (arith, lt)) ∙ ap (λ (j : ℕ). Some (f j)) (shift k i)))
  where
    fewer : (a b : ℕ) → suc a ≡ suc b → a ≡ b
    fewer a b e = omega (arith, e)

    shift : (a b : ℕ) → a + suc b ≡ suc a + b
    shift a b = omega arith

    none : (a : ℕ) → a + 0 ≡ a
    none a = omega arith

    first : Some w ≡ Some (f (k + 0)) → w ≡ f k
    first e = ap word_or_zero e ∙ ap f (none k)

    both : w ≡ f k → ws ≡ words_from f (suc k) n → w ∷ ws ≡ f k ∷ words_from f (suc k) n
    both e es = λ i. e i ∷ es i

there : (o : Option ℕ) → is_some o ≡ true → o ≡ Some (word_or_zero o)
there None is = cc
there (Some w) is = refl

their_words : (us : List Source) (ws : List ℕ) (mem : ℕ → Option ℕ) (n : ℕ) → memory_of ws ≡ mem → ((a : ℕ) → is_some (mem a) ≡ nat_lt a n)
    → (length ws ≡ n) × (ws ≡ words_from (λ a. word_or_zero (mem a)) 0 n)
unfolding memory_of
their_words us ws mem n is has =
    let same : (a : ℕ) → slice_get ws a ≡ mem a = λ a. ap (λ (m : ℕ → Option ℕ). m a) is in
    let count = as_long ws n (λ a. ap is_some (same a) ∙ has a) in
    (count, are_words (λ a. word_or_zero (mem a)) 0 n ws count (λ i lt. same i ∙ there (mem i) (has i ∙ lt-ltb i n lt) ∙ ap (λ (j : ℕ). Some (word_or_zero (mem j))) (zero_first i)))
  where
    zero_first : (i : ℕ) → i ≡ 0 + i
    zero_first i = omega arith

pub initial_data : DataWordsAreInitial
initial_data us ws is =
    let q = program_of us in
    let count : q.words ≡ data_words us = program_words (data_words us) _ us in
    let mem = (opening q no_seat 0).now.mem in
    let same : memory_of ws ≡ mem = is ∙ ap (λ (n : ℕ). put_initials global_address q.initials (put_cells global_address q.cells (zeros n))) (sym count) in
    let words = their_words us ws mem q.words same (λ a. initials_same global_address q.initials (put_cells global_address q.cells (zeros q.words)) a
    ∙ cells_same global_address q.cells (zeros q.words) a ∙ zeros_are q.words a) in
    (words.0 ∙ count, words.1)
