-- Parts whose calls have their indexes, put together.
use Rattle.std.proofs.Common.{◌≡◌, ◌≤◌, ℕ, zero, suc, ◌+◌, ◌&&◌, nat_lt, Bool, true, false, if◌then◌else◌, List, [], ◌∷◌, ◌++◌, length, replicate, is_some, unwrap_or, position, Option, Some, None, refl, sym, ap, ◌∙◌, arith}
use Rattle.std.specs.List.{list_all}
use Rattle.std.proofs.lemmas.Bool.{lt-ltb, ltb-true, false≢true, and_from}
use Rattle.std.proofs.lemmas.List.{append-nil, append_assoc}
use Rattle.std.proofs.lemmas.List.Folds.{list_all-append}
use Rattle.std.proofs.lemmas.List.Quantifiers.{position-Some}
use Rattle.spl_module_code.specs.spl_meaning.Laws.{IsFront}
use Rattle.spl_module_code.specs.spl_branch.declared.pieces.Piece.{Piece}
use Rattle.spl_module_code.specs.spl_branch.declared.pieces.Piece.TheVariants.{Do, Literal, Place, Branch, Mark, Call, Begin}
use Rattle.spl_module_code.specs.spl_branch.Pieces.{is_indexed}
use Rattle.spl_module_code.specs.spl_code.Parts.{Part, Wanted, is_wanted, pieces, ◌⨟◌, with_fresh, call_wanted}
use Rattle.spl_call_indexes.specs.Indexes.{IsIndexedPart}

-- ---- pieces none of which is a call

abbrev pub Plain : List Piece → Type 0
Plain ps = (m n : ℕ) → list_all (is_indexed m n) ps ≡ true

pub plain_both : (ps qs : List Piece) → Plain ps → Plain qs → Plain (ps ++ qs)
plain_both ps qs a b m n =
    list_all-append (is_indexed m n) ps qs ∙ and_from (list_all (is_indexed m n) ps) (list_all (is_indexed m n) qs) (a m n) (b m n)

pub plain_if : (b : Bool) (ps qs : List Piece) → Plain ps → Plain qs → Plain (if b then ps else qs)
plain_if true ps qs p q = p
plain_if false ps qs p q = q

pub plain_rows : (k : ℕ) (x : Piece) → Plain (x ∷ []) → Plain (replicate k x)
plain_rows zero x one = λ m n. refl
plain_rows (suc k) x one = plain_both (x ∷ []) (replicate k x) one (plain_rows k x one)

-- ---- more names wanted

left_of : (a b : Bool) → (a && b) ≡ true → a ≡ true
left_of true b is = refl
left_of false b is = is

right_of : (a b : Bool) → (a && b) ≡ true → b ≡ true
right_of true b is = is
right_of false b is = absurd (false≢true is)

-- an index below a number is below a greater one
below_more : (m k i : ℕ) → m ≤ k → nat_lt i m ≡ true → nat_lt i k ≡ true
below_more m k i le is = let lt = ltb-true i m is in lt-ltb i k (omega arith)

more_one : (m k n : ℕ) → m ≤ k → (x : Piece) → is_indexed m n x ≡ true → is_indexed k n x ≡ true
more_one m k n le (Do by) is = refl
more_one m k n le (Literal w) is = refl
more_one m k n le (Place mark) is = refl
more_one m k n le (Branch by mark) is = refl
more_one m k n le (Mark mark) is = refl
more_one m k n le (Call by true index) is = below_more m k index le is
more_one m k n le (Call by false index) is = is
more_one m k n le (Begin at) is = refl

more : (m k n : ℕ) → m ≤ k → (ps : List Piece) → list_all (is_indexed m n) ps ≡ true → list_all (is_indexed k n) ps ≡ true
more m k n le [] is = refl
more m k n le (x ∷ ps) is =
    and_from (is_indexed k n x) (list_all (is_indexed k n) ps)
    (more_one m k n le x (left_of (is_indexed m n x) (list_all (is_indexed m n) ps) is))
    (more m k n le ps (right_of (is_indexed m n x) (list_all (is_indexed m n) ps) is))

-- ---- parts

same : (n : ℕ) → n ≤ n
same n = omega arith

further : (a b c : ℕ) → a ≤ b → b ≤ c → a ≤ c
further a b c first second = omega arith

pub front_same : (ws : List Wanted) → IsFront ws ws
front_same ws = record { rest = []; is = sym (append-nil ws) }

front_on : (xs ys zs : List Wanted) → IsFront xs ys → IsFront ys zs → IsFront xs zs
front_on xs ys zs a b = record {
  rest = a.rest ++ b.rest;
  is = b.is ∙ ap (λ (ws : List Wanted). ws ++ b.rest) a.is ∙ append_assoc xs a.rest b.rest;
}

pub indexed_pieces : {n : ℕ} (ps : List Piece) → Plain ps → IsIndexedPart n (pieces ps)
indexed_pieces {n} ps plain = record { grows = λ l ws. same (length ws); keeps = λ l ws. front_same ws; calls = λ l ws. plain (length ws) n }

pub indexed_then : {n : ℕ} {p q : Part} → IsIndexedPart n p → IsIndexedPart n q → IsIndexedPart n (p ⨟ q)
indexed_then {n} {p} {q} a b = record { grows = grows; keeps = keeps; calls = calls }
  where
    keeps : (l : ℕ) (ws : List Wanted) → IsFront ws ((p ⨟ q) l ws).wants
    keeps l ws = front_on ws (p l ws).wants ((p ⨟ q) l ws).wants (a.keeps l ws) (b.keeps (l + (p l ws).marks) (p l ws).wants)

    grows : (l : ℕ) (ws : List Wanted) → length ws ≤ length ((p ⨟ q) l ws).wants
    grows l ws = further (length ws) (length (p l ws).wants) (length ((p ⨟ q) l ws).wants) (a.grows l ws) (b.grows (l + (p l ws).marks) (p l ws).wants)

    calls : (l : ℕ) (ws : List Wanted) → list_all (is_indexed (length ((p ⨟ q) l ws).wants) n) ((p ⨟ q) l ws).pieces ≡ true
    calls l ws =
        let m = length (p l ws).wants in
        let k = length ((p ⨟ q) l ws).wants in
        let ps = (p l ws).pieces in
        let qs = (q (l + (p l ws).marks) (p l ws).wants).pieces in
        list_all-append (is_indexed k n) ps qs
        ∙ and_from (list_all (is_indexed k n) ps) (list_all (is_indexed k n) qs)
        (more m k n (b.grows (l + (p l ws).marks) (p l ws).wants) ps (a.calls l ws)) (b.calls (l + (p l ws).marks) (p l ws).wants)

pub indexed_fresh : {n : ℕ} (f : ℕ → Part) → ((x : ℕ) → IsIndexedPart n (f x)) → IsIndexedPart n (with_fresh f)
indexed_fresh f h = record { grows = λ l ws. (h l).grows (suc l) ws; keeps = λ l ws. (h l).keeps (suc l) ws; calls = λ l ws. (h l).calls (suc l) ws }

pub indexed_if : {n : ℕ} (b : Bool) (p q : Part) → IsIndexedPart n p → IsIndexedPart n q → IsIndexedPart n (if b then p else q)
indexed_if true p q a b = a
indexed_if false p q a b = b

-- ---- calls

length_one_more : (ws : List Wanted) (w : Wanted) → length (ws ++ w ∷ []) ≡ suc (length ws)
length_one_more [] w = refl
length_one_more (x ∷ ws) w = ap suc (length_one_more ws w)

no_want : Wanted
no_want = record { name = []; gate = false }

-- of a name of another module or of the system
pub indexed_want : {n : ℕ} (x : List ℕ) (gate : Bool) → IsIndexedPart n (call_wanted x gate)
indexed_want {n} x gate = record {
  grows = λ l ws. grows ws (position (is_wanted x gate) ws);
  keeps = λ l ws. keeps ws (position (is_wanted x gate) ws);
  calls = λ l ws. calls ws (position (is_wanted x gate) ws) refl;
}
  where
    keeps : (ws : List Wanted) (o : Option ℕ) → IsFront ws (if is_some o then ws else ws ++ record { name = x; gate = gate } ∷ [])
    keeps ws (Some i) = front_same ws
    keeps ws None = record { rest = record { name = x; gate = gate } ∷ []; is = refl }

    wanted : Wanted
    wanted = record { name = x; gate = gate }

    grows : (ws : List Wanted) (o : Option ℕ) → length ws ≤ length (if is_some o then ws else ws ++ record { name = x; gate = gate } ∷ [])
    grows ws (Some i) = same (length ws)
    grows ws None = let one = length_one_more ws (record { name = x; gate = gate }) in omega arith

    calls : (ws : List Wanted) (o : Option ℕ) → position (is_wanted x gate) ws ≡ o
        → (nat_lt (unwrap_or o (length ws)) (length (if is_some o then ws else ws ++ record { name = x; gate = gate } ∷ [])) && true) ≡ true
    calls ws (Some i) is =
        let at = (position-Some (is_wanted x gate) ws i no_want is).0 in and_from (nat_lt i (length ws)) true (lt-ltb i (length ws) at) refl
    calls ws None is =
        let all = ws ++ record { name = x; gate = gate } ∷ [] in
        let one = length_one_more ws (record { name = x; gate = gate }) in
        and_from (nat_lt (length ws) (length all)) true (lt-ltb (length ws) (length all) (omega arith)) refl
