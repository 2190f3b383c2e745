-- Parts whose pieces have instructions of their kinds, put together.
use Rattle.std.proofs.Common.{◌≡◌, ℕ, zero, suc, ◌+◌, ◌&&◌, Bool, true, false, if◌then◌else◌, List, [], ◌∷◌, ◌++◌, replicate, refl}
use Rattle.std.proofs.lemmas.Bool.{false≢true, and_from}
use Rattle.spl_module_code.specs.spl_branch.declared.pieces.Piece.{Piece}
use Rattle.spl_module_code.specs.spl_code.Parts.{Part, pieces, ◌⨟◌, with_fresh, call_wanted}
use Rattle.spl_piece_kinds.specs.Kinds.{have_kinds, HasKinds}

-- ---- pieces

abbrev pub Plain : List Piece → Type 0
Plain ps = have_kinds ps ≡ true

left_of : (a b : Bool) → (a && b) ≡ true → a ≡ true
left_of true b is = refl
left_of false b is = is

right_of : (a b : Bool) → (a && b) ≡ true → b ≡ true
right_of true b is = is
right_of false b is = absurd (false≢true is)

pub plain_both : (ps qs : List Piece) → Plain ps → Plain qs → Plain (ps ++ qs)
plain_both [] qs a b = b
plain_both (x ∷ ps) qs a b = and_from _ _ (left_of _ (have_kinds ps) a) (plain_both ps qs (right_of _ (have_kinds ps) a) b)

pub plain_if : (b : Bool) (ps qs : List Piece) → Plain ps → Plain qs → Plain (if b then ps else qs)
plain_if true ps qs p q = p
plain_if false ps qs p q = q

pub plain_rows : (k : ℕ) (x : Piece) → Plain (x ∷ []) → Plain (replicate k x)
plain_rows zero x one = refl
plain_rows (suc k) x one = plain_both (x ∷ []) (replicate k x) one (plain_rows k x one)

-- ---- parts

pub kinds_pieces : (ps : List Piece) → Plain ps → HasKinds (pieces ps)
kinds_pieces ps plain = record { kinds = λ l ws. plain }

pub kinds_then : {p q : Part} → HasKinds p → HasKinds q → HasKinds (p ⨟ q)
kinds_then {p} {q} a b = record {
  kinds = λ l ws. plain_both (p l ws).pieces (q (l + (p l ws).marks) (p l ws).wants).pieces (a.kinds l ws) (b.kinds (l + (p l ws).marks) (p l ws).wants);
}

pub kinds_fresh : (f : ℕ → Part) → ((x : ℕ) → HasKinds (f x)) → HasKinds (with_fresh f)
kinds_fresh f h = record { kinds = λ l ws. (h l).kinds (suc l) ws }

pub kinds_if : (b : Bool) (p q : Part) → HasKinds p → HasKinds q → HasKinds (if b then p else q)
kinds_if true p q a b = a
kinds_if false p q a b = b

-- a call of a name of another module or of the system
pub kinds_want : (x : List ℕ) (gate : Bool) → HasKinds (call_wanted x gate)
kinds_want x gate = record { kinds = λ l ws. refl }
