-- Places and starts of pieces one behind the other.
-- 1. each piece goes on no earlier, and one with words behind the word where it stands      (forth, instr_past)
-- 2. no start is before pieces                                                              (none_before)
-- 3. a mark that is set is at most where they end                                           (marks_low)
-- 4. moved by a base they have the same starts, moved by it                                 (moved_starts)
use Rattle.std.proofs.Common.{◌≡◌, ℕ, ◌==◌, ◌+◌, ◌<◌, ◌≤◌, nat_lt, Bool, true, false, List, [], ◌∷◌, None, Some, refl, sym, ap, ◌∙◌, subst, arith}
use Rattle.std.specs.Prelude.{if◌then◌else◌}
use Rattle.std.proofs.lemmas.Bool.{eqb-true, ne_eqb}
use Rattle.mpe_segmenter.specs.hp_instr.declared.instruction.Instr.{Instr}
use Rattle.mpe_segmenter.specs.hp_instr.declared.instruction.Instr.TheVariants as i
use Rattle.mpe_segmenter.specs.hp_instr.declared.instruction.Op.{Op}
use Rattle.mpe_segmenter.specs.spl_branch.declared.pieces.Piece.{Piece}
use Rattle.mpe_segmenter.specs.spl_branch.declared.pieces.Piece.TheVariants.{Do, Literal, Place, Branch, Mark, Call, Begin}
use Rattle.mpe_segmenter.specs.spl_branch.declared.spots.Spot.{Spot}
use Rattle.mpe_segmenter.specs.spl_branch.Branches.{reach, gap, is_far, more, branch_size}
use Rattle.mpe_segmenter.specs.spl_branch.Pieces.{sets}
use Rattle.mpe_segmenter.specs.spl_branch.Fixes.{starts_of}
use Rattle.mpe_segmenter.specs.spl_branch.Stands.{Sites, at_left, at_right, past_instr, ahead, after, Stands}
use Rattle.spl_sites.specs.Grounds.{started}

-- ---- 1. going on

-- the first left half at a place or behind it
abbrev pub first_left : Spot → ℕ
first_left p = p.offset + (if p.right then 1 else 0)

half_low : (n : ℕ) (b : Bool) → n + (if b then 1 else 0) ≤ n + 1
half_low n true = omega arith
half_low n false = omega arith

half_high : (n : ℕ) (b : Bool) → n ≤ n + (if b then 1 else 0)
half_high n true = omega arith
half_high n false = omega arith

pub left_low : (p : Spot) → first_left p ≤ p.offset + 1
left_low p = half_low p.offset p.right

pub here_low : (p : Spot) → p.offset ≤ first_left p
here_low p = half_high p.offset p.right

pair_past : (n : ℕ) (c d : Bool) → first_left (if c then at_left (n + 1) else if d then at_left (n + 1) else at_right n) ≡ n + 1
pair_past n true d = omega arith
pair_past n false true = omega arith
pair_past n false false = refl

pub instr_past : (p : Spot) (by : Instr) (next : Op) → first_left (past_instr p by next) ≡ p.offset + 1
instr_past p (i.Pair left right) next = pair_past p.offset p.right (next.code == 0)
instr_past p (i.Shifted kind count) next = omega arith
instr_past p (i.Short test back d) next = omega arith
instr_past p (i.Immediate which n) next = omega arith
instr_past p (i.Control which n) next = omega arith
instr_past p (i.Memory major second x indirect mode) next = omega arith
instr_past p (i.LoadCode back d) next = omega arith
instr_past p (i.Branch indirect back d) next = omega arith
instr_past p (i.OnCode mask back d) next = omega arith
instr_past p (i.Loop modify back d) next = omega arith
instr_past p (i.Illegal w) next = omega arith

pub size_some : (by : Instr) (p t : ℕ) → 1 ≤ branch_size by p t
size_some by p t = go (is_far by p t) where
  go : (b : Bool) → 1 ≤ (if b then 1 + more by else 1)
  go true = omega arith
  go false = omega arith

pub forth : (marks : ℕ → ℕ) (p : Spot) (x : Piece) (next : Op) → first_left p ≤ first_left (after marks p x next)
forth marks p (Do by) next = omega (arith, instr_past p by next, half_low p.offset p.right)
forth marks p (Literal v) next = omega (arith, half_low p.offset p.right)
forth marks p (Place l) next = omega (arith, half_low p.offset p.right)
forth marks p (Branch by l) next = omega (arith, half_low p.offset p.right, size_some by p.offset (marks l))
forth marks p (Mark l) next = omega arith
forth marks p (Call by wanted index) next = omega (arith, half_low p.offset p.right)
forth marks p (Begin at) next = omega arith

pub all_forth : (words : List ℕ) (s : Sites) (ps : List Piece) (p q : Spot) → Stands words s p ps q → first_left p ≤ first_left q
all_forth words s [] p q stands = subst (λ (r : Spot). first_left p ≤ first_left r) stands (omega arith)
all_forth words s (x ∷ ps) p q stands =
    omega (arith, forth s.marks p x (ahead ps), all_forth words s ps (after s.marks p x (ahead ps)) q stands.1)

-- ---- 2. starts

at_left_half : (n : ℕ) (b : Bool) → b ≡ false → n + (if b then 1 else 0) ≡ n
at_left_half n true e = cc
at_left_half n false e = omega arith

pub none_before : (words : List ℕ) (s : Sites) (ps : List Piece) (p q : Spot) (k : ℕ) → Stands words s p ps q → k < first_left p
    → started 0 (starts_of s.marks p ps) k ≡ None
none_before words s [] p q k stands low = refl
none_before words s (Do by ∷ ps) p q k stands low =
    none_before words s ps (after s.marks p (Do by) (ahead ps)) q k stands.1 (omega (arith, low, forth s.marks p (Do by) (ahead ps)))
none_before words s (Literal v ∷ ps) p q k stands low =
    none_before words s ps (after s.marks p (Literal v) (ahead ps)) q k stands.1 (omega (arith, low, forth s.marks p (Literal v) (ahead ps)))
none_before words s (Place l ∷ ps) p q k stands low =
    none_before words s ps (after s.marks p (Place l) (ahead ps)) q k stands.1 (omega (arith, low, forth s.marks p (Place l) (ahead ps)))
none_before words s (Branch by l ∷ ps) p q k stands low =
    none_before words s ps (after s.marks p (Branch by l) (ahead ps)) q k stands.1 (omega (arith, low, forth s.marks p (Branch by l) (ahead ps)))
none_before words s (Mark l ∷ ps) p q k stands low = none_before words s ps p q k stands.1 low
none_before words s (Call by wanted index ∷ ps) p q k stands low =
    none_before words s ps (after s.marks p (Call by wanted index) (ahead ps)) q k stands.1 (omega (arith, low, forth s.marks p (Call by wanted index) (ahead ps)))
none_before words s (Begin at ∷ ps) p q k stands low =
    let apart : (0 + p.offset == k) ≡ false = ne_eqb (0 + p.offset) k (λ x. absurd (omega (arith, x, low, at_left_half p.offset p.right stands.0))) in
    ap (λ b. if b then Some at else started 0 (starts_of s.marks p ps) k) apart ∙ none_before words s ps p q k stands.1 low

-- ---- 3. marks

-- this mark, or one behind it
mark_low : (words : List ℕ) (s : Sites) (ps : List Piece) (p : Spot) (to m l : ℕ) → p ≡ at_left (s.marks m) → Stands words s p ps (at_left to)
    → (b : Bool) → (m == l) ≡ b → (0 < sets l ps → s.marks l ≤ to) → 0 < (if b then 1 else 0) + sets l ps → s.marks l ≤ to
mark_low words s ps p to m l here stands true e behind some =
    let at : p.offset ≡ s.marks m = ap (λ (r : Spot). r.offset) here in
    omega (arith, at, ap s.marks (eqb-true m l e), here_low p, all_forth words s ps p (at_left to) stands)
mark_low words s ps p to m l here stands false e behind some = behind (omega (arith, some))

pub marks_low : (words : List ℕ) (s : Sites) (ps : List Piece) (p : Spot) (to l : ℕ) → Stands words s p ps (at_left to) → 0 < sets l ps
    → s.marks l ≤ to
marks_low words s [] p to l stands some = absurd (omega (arith, some))
marks_low words s (Do by ∷ ps) p to l stands some = marks_low words s ps (after s.marks p (Do by) (ahead ps)) to l stands.1 (omega (arith, some))
marks_low words s (Literal v ∷ ps) p to l stands some = marks_low words s ps (after s.marks p (Literal v) (ahead ps)) to l stands.1 (omega (arith, some))
marks_low words s (Place m ∷ ps) p to l stands some = marks_low words s ps (after s.marks p (Place m) (ahead ps)) to l stands.1 (omega (arith, some))
marks_low words s (Branch by m ∷ ps) p to l stands some = marks_low words s ps (after s.marks p (Branch by m) (ahead ps)) to l stands.1 (omega (arith, some))
marks_low words s (Mark m ∷ ps) p to l stands some =
    mark_low words s ps p to m l stands.0 stands.1 (m == l) refl (λ more. marks_low words s ps p to l stands.1 more) some
marks_low words s (Call by wanted index ∷ ps) p to l stands some =
    marks_low words s ps (after s.marks p (Call by wanted index) (ahead ps)) to l stands.1 (omega (arith, some))
marks_low words s (Begin at ∷ ps) p to l stands some = marks_low words s ps p to l stands.1 (omega (arith, some))

-- ---- 4. moved by a base

abbrev pub moved_by : ℕ → Spot → Spot
moved_by base p = record { offset = base + p.offset; right = p.right }

pair_moved : (base n : ℕ) (c d : Bool)
    → (if c then at_left ((base + n) + 1) else if d then at_left ((base + n) + 1) else at_right (base + n))
    ≡ moved_by base (if c then at_left (n + 1) else if d then at_left (n + 1) else at_right n)
pair_moved base n true d = ap at_left (omega arith)
pair_moved base n false true = ap at_left (omega arith)
pair_moved base n false false = refl

word_moved : (base n : ℕ) → at_left ((base + n) + 1) ≡ moved_by base (at_left (n + 1))
word_moved base n = ap at_left (omega arith)

instr_moved : (base : ℕ) (p : Spot) (by : Instr) (next : Op) → past_instr (moved_by base p) by next ≡ moved_by base (past_instr p by next)
instr_moved base p (i.Pair left right) next = pair_moved base p.offset p.right (next.code == 0)
instr_moved base p (i.Shifted kind count) next = word_moved base p.offset
instr_moved base p (i.Short test back d) next = word_moved base p.offset
instr_moved base p (i.Immediate which n) next = word_moved base p.offset
instr_moved base p (i.Control which n) next = word_moved base p.offset
instr_moved base p (i.Memory major second x indirect mode) next = word_moved base p.offset
instr_moved base p (i.LoadCode back d) next = word_moved base p.offset
instr_moved base p (i.Branch indirect back d) next = word_moved base p.offset
instr_moved base p (i.OnCode mask back d) next = word_moved base p.offset
instr_moved base p (i.Loop modify back d) next = word_moved base p.offset
instr_moved base p (i.Illegal w) next = word_moved base p.offset

gap_moved : (base p t : ℕ) → gap (base + p) (base + t) ≡ gap p t
gap_moved base p t = omega arith

size_moved : (by : Instr) (base p t : ℕ) → branch_size by (base + p) (base + t) ≡ branch_size by p t
size_moved by base p t = ap (λ d. if nat_lt (reach by) d then 1 + more by else 1) (gap_moved base p t)

after_moved : (base : ℕ) (marks : ℕ → ℕ) (p : Spot) (x : Piece) (next : Op)
    → after (λ l. base + marks l) (moved_by base p) x next ≡ moved_by base (after marks p x next)
after_moved base marks p (Do by) next = instr_moved base p by next
after_moved base marks p (Literal v) next = word_moved base p.offset
after_moved base marks p (Place l) next = word_moved base p.offset
after_moved base marks p (Branch by l) next = ap at_left (omega (arith, size_moved by base p.offset (marks l)))
after_moved base marks p (Mark l) next = refl
after_moved base marks p (Call by wanted index) next = word_moved base p.offset
after_moved base marks p (Begin at) next = refl

zero_front : (base n k : ℕ) → (base + n == k) ≡ (0 + (base + n) == k)
zero_front base n k = ap (λ (j : ℕ). j == k) (omega arith)

-- behind a piece that begins no statement
behind : (base : ℕ) (marks : ℕ → ℕ) (x : Piece) (ps : List Piece) (p : Spot) (k : ℕ)
    → started base (starts_of marks (after marks p x (ahead ps)) ps) k
    ≡ started 0 (starts_of (λ l. base + marks l) (moved_by base (after marks p x (ahead ps))) ps) k
    → started base (starts_of marks (after marks p x (ahead ps)) ps) k
    ≡ started 0 (starts_of (λ l. base + marks l) (after (λ l. base + marks l) (moved_by base p) x (ahead ps)) ps) k
behind base marks x ps p k is =
    is ∙ ap (λ (r : Spot). started 0 (starts_of (λ l. base + marks l) r ps) k) (sym (after_moved base marks p x (ahead ps)))

pub moved_starts : (base : ℕ) (marks : ℕ → ℕ) (ps : List Piece) (p : Spot) (k : ℕ)
    → started base (starts_of marks p ps) k ≡ started 0 (starts_of (λ l. base + marks l) (moved_by base p) ps) k
moved_starts base marks [] p k = refl
moved_starts base marks (Do by ∷ ps) p k = behind base marks (Do by) ps p k (moved_starts base marks ps (after marks p (Do by) (ahead ps)) k)
moved_starts base marks (Literal v ∷ ps) p k = behind base marks (Literal v) ps p k (moved_starts base marks ps (after marks p (Literal v) (ahead ps)) k)
moved_starts base marks (Place l ∷ ps) p k = behind base marks (Place l) ps p k (moved_starts base marks ps (after marks p (Place l) (ahead ps)) k)
moved_starts base marks (Branch by l ∷ ps) p k = behind base marks (Branch by l) ps p k (moved_starts base marks ps (after marks p (Branch by l) (ahead ps)) k)
moved_starts base marks (Mark l ∷ ps) p k = moved_starts base marks ps p k
moved_starts base marks (Call by wanted index ∷ ps) p k =
    behind base marks (Call by wanted index) ps p k (moved_starts base marks ps (after marks p (Call by wanted index) (ahead ps)) k)
moved_starts base marks (Begin at ∷ ps) p k =
    ap (λ b. if b then Some at else started base (starts_of marks p ps) k) (zero_front base p.offset k)
    ∙ ap (λ o. if 0 + (base + p.offset) == k then Some at else o) (moved_starts base marks ps p k)
