-- Loops over a file, one turn at a time.
use Rattle.std.proofs.Common.{ℕ, suc, ◌≡◌, ◌+◌, ◌-◌, ◌<◌, ◌≤◌, List, [], ◌∷◌, ◌++◌, refl, sym, ap, ◌∙◌, arith}
use Rattle.std.specs.Prelude.{Result, Ok, Err, map}
use Rattle.std.proofs.lemmas.List.{append-nil, append_assoc}
use Rattle.mpe_progfile.specs.declared.faults.FileFault.{FileFault}
use Rattle.mpe_progfile.specs.declared.faults.FileFault.TheVariants as fault
use Rattle.mpe_progfile.specs.Reading.{Cursor, with_read, times}
use Rattle.mpe_progfile.specs.Views.{Fails}

-- what was read before, in front of what is read
abbrev pub behind : {A : Type 0} → List A → Result (List A × Cursor) FileFault → Result (List A × Cursor) FileFault
behind front (Ok r) = Ok (front ++ r.0, r.1)
behind front (Err f) = Err f

pub behind_nothing : {A : Type 0} (r : Result (List A × Cursor) FileFault) → behind [] r ≡ r
behind_nothing (Ok r) = refl
behind_nothing (Err f) = refl

one_more : {A : Type 0} (front : List A) (a : A) (r : Result (List A × Cursor) FileFault)
    → behind front (with_read r (λ as' last. Ok (a ∷ as', last))) ≡ behind (front ++ a ∷ []) r
unfolding with_read
one_more front a (Ok r) = ap (λ x. Ok (x, r.1)) (sym (append_assoc front (a ∷ []) r.0))
one_more front a (Err f) = refl

turned : {A : Type 0} (read : Cursor → Result (A × Cursor) FileFault) (front : List A) (n : ℕ) (c next : Cursor) (a : A) → read c ≡ Ok (a, next)
    → behind front (times read (suc n) c) ≡ behind (front ++ a ∷ []) (times read n next)
unfolding times with_read
turned read front n c next a e =
    ap (λ x. behind front (with_read x (λ a next. with_read (times read n next) (λ as' last. Ok (a ∷ as', last))))) e ∙ one_more front a (times read n next)

failed : {A : Type 0} (read : Cursor → Result (A × Cursor) FileFault) (front : List A) (n : ℕ) (c : Cursor) (f : FileFault) → read c ≡ Err f
    → behind front (times read (suc n) c) ≡ Err f
unfolding times with_read
failed read front n c f e = ap (λ x. behind front (with_read x (λ a next. with_read (times read n next) (λ as' last. Ok (a ∷ as', last))))) e

-- one more is read
pub goes_on : {A : Type 0} (read : Cursor → Result (A × Cursor) FileFault) (front : List A) (count i : ℕ) (c next : Cursor) (a : A) → i < count
    → read c ≡ Ok (a, next) → behind front (times read (count - i) c) ≡ behind (front ++ a ∷ []) (times read (count - (i + 1)) next)
goes_on read front count i c next a l e =
    let m : count - i ≡ suc (count - (i + 1)) = omega (arith, l) in
    ap (λ n. behind front (times read n c)) m ∙ turned read front (count - (i + 1)) c next a e

-- one is at fault
pub fails : {A : Type 0} (read : Cursor → Result (A × Cursor) FileFault) (front : List A) (count i : ℕ) (c : Cursor) (f : FileFault) → i < count
    → read c ≡ Err f → behind front (times read (count - i) c) ≡ Err f
fails read front count i c f l e =
    let m : count - i ≡ suc (count - (i + 1)) = omega (arith, l) in
    ap (λ n. behind front (times read n c)) m ∙ failed read front (count - (i + 1)) c f e

-- all are read
pub ends : {A : Type 0} (read : Cursor → Result (A × Cursor) FileFault) (front : List A) (count i : ℕ) (c : Cursor) → count ≤ i
    → behind front (times read (count - i) c) ≡ Ok (front, c)
unfolding times
ends read front count i c l =
    let m : count - i ≡ 0 = omega (arith, l) in
    ap (λ n. behind front (times read n c)) m ∙ ap (λ x. Ok (x, c)) (append-nil front)

-- the fault of one is the fault of all
pub fails_all : {A : Type 0} (read : Cursor → Result (A × Cursor) FileFault) (front : List A) (count i : ℕ) (c : Cursor) (f : FileFault)
    (all : Result (List A × Cursor) FileFault) → i < count → behind front (times read (count - i) c) ≡ all → Fails f (read c) → Fails f all
fails_all read front count i c fault.NoMemory all l e h = tt
fails_all read front count i c (fault.Truncated n) all l e h = sym e ∙ fails read front count i c (fault.Truncated n) l h
fails_all read front count i c (fault.BadHead n) all l e h = sym e ∙ fails read front count i c (fault.BadHead n) l h
fails_all read front count i c (fault.BadSegment n) all l e h = sym e ∙ fails read front count i c (fault.BadSegment n) l h
fails_all read front count i c (fault.Trailing n) all l e h = sym e ∙ fails read front count i c (fault.Trailing n) l h
fails_all read front count i c (fault.BadLabel n) all l e h = sym e ∙ fails read front count i c (fault.BadLabel n) l h

-- one more behind a list that is seen through a function
pub map_push : {A B : Type 0} (f : A → B) (xs : List A) (a : A) → map f (xs ++ a ∷ []) ≡ map f xs ++ f a ∷ []
map_push f [] a = refl
map_push f (x ∷ xs) a = ap (λ ys. f x ∷ ys) (map_push f xs a)
