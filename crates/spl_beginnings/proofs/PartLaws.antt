-- Pieces and parts that begin well, put together.
use Rattle.std.proofs.Common.{◌≡◌, ℕ, zero, suc, ◌+◌, ◌&&◌, ◌||◌, not, Bool, true, false, if◌then◌else◌, List, [], ◌∷◌, ◌++◌, replicate, refl}
use Rattle.std.proofs.lemmas.Bool.{false≢true, and_from}
use Rattle.spl_statement_code.specs.spl_tree.declared.names_and_places.At.{At}
use Rattle.spl_statement_code.specs.spl_branch.declared.pieces.Piece.{Piece}
use Rattle.spl_statement_code.specs.spl_branch.declared.pieces.Piece.TheVariants.{Mark, Begin}
use Rattle.spl_statement_code.specs.spl_code.Parts.{Part, pieces, piece, ◌⨟◌, with_fresh, call_wanted}
use Rattle.spl_sites.specs.Beginnings.{is_run, is_beginning, begins_well}
use Rattle.spl_beginnings.specs.Opens.{opens_if_any, BeginsWell, Opens, MayOpen}

-- ---- two truths

pub left_of : (a b : Bool) → (a && b) ≡ true → a ≡ true
left_of true b is = refl
left_of false b is = is

pub right_of : (a b : Bool) → (a && b) ≡ true → b ≡ true
right_of true b is = is
right_of false b is = absurd (false≢true is)

-- ---- pieces

-- pieces behind others that begin well: nothing is due between them
pub both_well : (due : Bool) (ps qs : List Piece) → begins_well due ps ≡ true → begins_well false qs ≡ true → begins_well due (ps ++ qs) ≡ true
both_well true [] qs a b = absurd (false≢true a)
both_well false [] qs a b = b
both_well due (x ∷ ps) qs a b =
    let run = left_of (is_run x || not due) (begins_well (is_beginning x) ps) a in
    let rest = right_of (is_run x || not due) (begins_well (is_beginning x) ps) a in
    and_from (is_run x || not due) (begins_well (is_beginning x) (ps ++ qs)) run (both_well (is_beginning x) ps qs rest b)

-- a piece that begins well where a statement is due begins well where none is
none_due : (a : Bool) → (a || not true) ≡ true → (a || not false) ≡ true
none_due true is = refl
none_due false is = refl

pub well_of_open : (ps : List Piece) → begins_well true ps ≡ true → begins_well false ps ≡ true
well_of_open [] is = refl
well_of_open (x ∷ ps) is =
    and_from (is_run x || not false) (begins_well (is_beginning x) ps)
    (none_due (is_run x) (left_of (is_run x || not true) (begins_well (is_beginning x) ps) is))
    (right_of (is_run x || not true) (begins_well (is_beginning x) ps) is)

pub well_of_may : (ps : List Piece) → opens_if_any ps ≡ true → begins_well false ps ≡ true
well_of_may [] is = refl
well_of_may (x ∷ ps) is = well_of_open (x ∷ ps) is

pub may_of_open : (ps : List Piece) → begins_well true ps ≡ true → opens_if_any ps ≡ true
may_of_open [] is = refl
may_of_open (x ∷ ps) is = is

-- pieces that may be none, and begin well behind the beginning of a statement
abbrev pub Front : List Piece → Type 0
Front ps = opens_if_any ps ≡ true

-- such pieces, and others that are not none
pub front_open : (ps qs : List Piece) → opens_if_any ps ≡ true → begins_well true qs ≡ true → begins_well true (ps ++ qs) ≡ true
front_open [] qs a b = b
front_open (x ∷ ps) qs a b = both_well true (x ∷ ps) qs a (well_of_open qs b)

pub front_both : (ps qs : List Piece) → opens_if_any ps ≡ true → opens_if_any qs ≡ true → opens_if_any (ps ++ qs) ≡ true
front_both [] qs a b = b
front_both (x ∷ ps) qs a b = both_well true (x ∷ ps) qs a (well_of_may qs b)

pub front_if : (b : Bool) (ps qs : List Piece) → opens_if_any ps ≡ true → opens_if_any qs ≡ true → opens_if_any (if b then ps else qs) ≡ true
front_if true ps qs p q = p
front_if false ps qs p q = q

pub front_rows : (k : ℕ) (x : Piece) → opens_if_any (x ∷ []) ≡ true → opens_if_any (replicate k x) ≡ true
front_rows zero x one = refl
front_rows (suc k) x one = front_both (x ∷ []) (replicate k x) one (front_rows k x one)

-- ---- parts

pub well_pieces : (ps : List Piece) → begins_well false ps ≡ true → BeginsWell (pieces ps)
well_pieces ps is = record { well = λ l ws. is }

pub opens_pieces : (ps : List Piece) → begins_well true ps ≡ true → Opens (pieces ps)
opens_pieces ps is = record { opens = λ l ws. is }

pub may_pieces : (ps : List Piece) → opens_if_any ps ≡ true → MayOpen (pieces ps)
may_pieces ps is = record { opens = λ l ws. is }

pub may_well : {p : Part} → MayOpen p → BeginsWell p
may_well {p} h = record { well = λ l ws. well_of_may (p l ws).pieces (h.opens l ws) }

pub open_may : {p : Part} → Opens p → MayOpen p
open_may {p} h = record { opens = λ l ws. may_of_open (p l ws).pieces (h.opens l ws) }

pub open_well : {p : Part} → Opens p → BeginsWell p
open_well {p} h = record { well = λ l ws. well_of_open (p l ws).pieces (h.opens l ws) }

pub well_then : {p q : Part} → BeginsWell p → BeginsWell q → BeginsWell (p ⨟ q)
well_then {p} {q} a b = record {
  well = λ l ws. both_well false (p l ws).pieces (q (l + (p l ws).marks) (p l ws).wants).pieces (a.well l ws) (b.well (l + (p l ws).marks) (p l ws).wants);
}

pub opens_then : {p q : Part} → Opens p → BeginsWell q → Opens (p ⨟ q)
opens_then {p} {q} a b = record {
  opens = λ l ws. both_well true (p l ws).pieces (q (l + (p l ws).marks) (p l ws).wants).pieces (a.opens l ws) (b.well (l + (p l ws).marks) (p l ws).wants);
}

pub may_opens : {p q : Part} → MayOpen p → Opens q → Opens (p ⨟ q)
may_opens {p} {q} a b = record {
  opens = λ l ws. front_open (p l ws).pieces (q (l + (p l ws).marks) (p l ws).wants).pieces (a.opens l ws) (b.opens (l + (p l ws).marks) (p l ws).wants);
}

pub may_then : {p q : Part} → MayOpen p → MayOpen q → MayOpen (p ⨟ q)
may_then {p} {q} a b = record {
  opens = λ l ws. front_both (p l ws).pieces (q (l + (p l ws).marks) (p l ws).wants).pieces (a.opens l ws) (b.opens (l + (p l ws).marks) (p l ws).wants);
}

-- with a mark of its own
pub well_fresh : (f : ℕ → Part) → ((x : ℕ) → BeginsWell (f x)) → BeginsWell (with_fresh f)
well_fresh f h = record { well = λ l ws. (h l).well (suc l) ws }

pub opens_fresh : (f : ℕ → Part) → ((x : ℕ) → Opens (f x)) → Opens (with_fresh f)
opens_fresh f h = record { opens = λ l ws. (h l).opens (suc l) ws }

pub well_if : (b : Bool) (p q : Part) → BeginsWell p → BeginsWell q → BeginsWell (if b then p else q)
well_if true p q a b = a
well_if false p q a b = b

-- the beginning of a statement, and what opens behind it
pub well_begun : {p : Part} (at : At) → Opens p → BeginsWell (piece (Begin at) ⨟ p)
well_begun at h = record { well = λ l ws. h.opens (l + 0) ws }

-- in two parts, the first of which may be none
pub well_begun_in_two : {p q : Part} (at : At) → MayOpen p → Opens q → BeginsWell (piece (Begin at) ⨟ p ⨟ q)
well_begun_in_two {p} {q} at a b = record {
  well = λ l ws. front_open (p (l + 0) ws).pieces (q (l + (0 + (p (l + 0) ws).marks)) (p (l + 0) ws).wants).pieces (a.opens (l + 0) ws)
      (b.opens (l + (0 + (p (l + 0) ws).marks)) (p (l + 0) ws).wants);
}

-- a call of a name of another module or of the system
pub opens_want : (x : List ℕ) (gate : Bool) → Opens (call_wanted x gate)
opens_want x gate = record { opens = λ l ws. refl }

-- a mark, and a place that names one
pub well_mark : (l : ℕ) → BeginsWell (piece (Mark l))
well_mark l = well_pieces (Mark l ∷ []) refl
