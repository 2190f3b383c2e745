-- Marks of entries that may be set: the first of them, what is behind it when it is set, and bodies one behind the other.
use Rattle.std.proofs.Common.{◌≡◌, ◌<◌, ◌≤◌, ℕ, suc, ◌+◌, ◌++◌, ◌∷◌, [], List, Bool, true, false, not, length, get_or, replicate, set, refl, sym, ap, ◌∙◌, add-zero, arith}
use Rattle.std.proofs.lemmas.Bool.{and_from, lt-ltb}
use Rattle.std.proofs.lemmas.List.{append_assoc, append-nil, length-append, length-replicate, length-set, replicate-append-replicate}
use Rattle.std.proofs.Math.Seq.{set-append_seam, get_or-append_seam}
use Rattle.spl_branch.specs.Pieces.{is_settable}
use Rattle.spl_branch.specs.declared.buffer.Code.{Code}
use Rattle.spl_branch.specs.declared.pieces.Piece.TheVariants.{Mark}
use Rattle.spl_label_marks.specs.spl_code.Parts.{Part, Written, wants_of, nothing, ◌⨟◌}
use Rattle.spl_label_marks.specs.spl_code.Appends.{behind}
use Rattle.spl_module_code.proofs.spl_body_code_proofs.spl_code_proofs.AppendLaws.{same_then, same_none}
use Rattle.spl_routine_code.specs.Generates.{Generates, AreOpen, GeneratesFrom}

pub one_more : (n : ℕ) → 1 + n ≡ suc n
one_more n = omega arith

-- the first of some, apart
first_apart : (before : List Bool) (n : ℕ) (others : List Bool) → before ++ (replicate (suc n) false ++ others) ≡ before ++ (false ∷ (replicate n false ++ others))
first_apart before n others = refl

-- the first may be set
pub first_open : (first count : ℕ) (marks : List Bool) → AreOpen first (suc count) marks → is_settable marks (Mark first) ≡ true
first_open first count marks o =
    let rest : List Bool = replicate count false ++ o.behind in
    let is : marks ≡ o.before ++ (false ∷ rest) = o.is ∙ first_apart o.before count o.behind in
    let lt : first < length marks =
    let a = ap length is in
    let b = length-append o.before (false ∷ rest) in
    let c = o.first_is in
    omega (arith, a, b, c) in
    and_from _ _ (lt-ltb _ _ lt)
    (ap not (ap (λ xs. get_or xs first false) is ∙ ap (λ n. get_or (o.before ++ (false ∷ rest)) n false) (sym o.first_is) ∙ get_or-append_seam o.before false rest false))

-- they are among the marks
pub open_within : (first count : ℕ) (marks : List Bool) → AreOpen first count marks → first + count ≤ length marks
open_within first count marks o =
    let a = ap length o.is in
    let b = length-append o.before (replicate count false ++ o.behind) in
    let c = length-append (replicate count false) o.behind in
    let d = length-replicate count false in
    let e = o.first_is in
    omega (arith, a, b, c, d, e)

-- ---- one body

-- the marks behind a body that is generated where some may be set
one_set : (entry : ℕ) (part : Part) (c d : Code) → Generates entry part c d → (before others : List Bool) (more : ℕ) → length before ≡ entry
    → c.marks.items ≡ before ++ (replicate (1 + more) false ++ others)
    → d.marks.items ≡ (before ++ replicate 1 true) ++ (replicate more false ++ (others ++ replicate (behind part c).marks true))
one_set entry part c d g before others more count is =
    let n : ℕ = (behind part c).marks in
    let rest : List Bool = replicate more false ++ others in
    let apart : c.marks.items ≡ before ++ (false ∷ rest) = is ∙ ap (λ k. before ++ (replicate k false ++ others)) (one_more more) ∙ first_apart before more others in
    g.marks
    ∙ ap (λ xs. set xs entry true ++ replicate n true) apart
    ∙ ap (λ k. set (before ++ (false ∷ rest)) k true ++ replicate n true) (sym count)
    ∙ ap (λ xs. xs ++ replicate n true) (set-append_seam before false rest true)
    ∙ ap (λ xs. xs ++ replicate n true) (sym (append_assoc before (true ∷ []) rest))
    ∙ append_assoc (before ++ (true ∷ [])) rest (replicate n true)
    ∙ ap (λ xs. (before ++ (true ∷ [])) ++ xs) (append_assoc (replicate more false) others (replicate n true))

-- how many marks there are then
set_number : (entry : ℕ) (part : Part) (c d : Code) → Generates entry part c d → length d.marks.items ≡ length c.marks.items + (behind part c).marks
set_number entry part c d g =
    ap length g.marks ∙ length-append (set c.marks.items entry true) (replicate (behind part c).marks true)
    ∙ ap (λ k. k + length (replicate (behind part c).marks true)) (set_length c.marks.items entry)
    ∙ ap (λ k. length c.marks.items + k) (length-replicate (behind part c).marks true)
  where
    set_length : (xs : List Bool) (i : ℕ) → length (set xs i true) ≡ length xs
    set_length xs i = length-set xs i true

pub one_generated : (entry : ℕ) (part : Part) (c d : Code) → Generates entry part c d → GeneratesFrom entry 1 part c d
one_generated entry part c d g = record {
  pieces = g.pieces;
  number = set_number entry part c d g;
  marks = one_set entry part c d g;
  wants = g.wants;
  same = g.same;
}

-- ---- none

none_more : (n : ℕ) → 0 + n ≡ n
none_more n = omega arith

pub none_generated : (first : ℕ) (c : Code) → GeneratesFrom first 0 nothing c c
none_generated first c = record {
  pieces = sym (append-nil c.pieces.items);
  number = omega arith;
  marks = λ before others more count is.
      is ∙ ap (λ k. before ++ (replicate k false ++ others)) (none_more more)
      ∙ ap (λ xs. xs ++ (replicate more false ++ others)) (sym (append-nil before))
      ∙ ap (λ xs. (before ++ []) ++ (replicate more false ++ xs)) (sym (append-nil others));
  wants = refl;
  same = same_none c;
}

-- ---- bodies one behind the other

-- what stands behind a part is written from its marks and wants
pub next_written : (first count : ℕ) (p q : Part) (c d : Code) → GeneratesFrom first count p c d
    → behind q d ≡ q (length c.marks.items + (behind p c).marks) (behind p c).wants
next_written first count p q c d g = ap (λ l. q l (wants_of d.wants.items)) g.number ∙ ap (q (length c.marks.items + (behind p c).marks)) g.wants

sums : (a b c : ℕ) → (a + b) + c ≡ a + (b + c)
sums a b c = omega arith

pub then_generated : (first count : ℕ) (p : Part) (after more : ℕ) (q : Part) (c d e : Code) → GeneratesFrom first count p c d → after ≡ first + count
    → GeneratesFrom after more q d e → GeneratesFrom first (count + more) (p ⨟ q) c e
then_generated first count p after more q c d e a at b =
    let next : Written = q (length c.marks.items + (behind p c).marks) (behind p c).wants in
    let is : behind q d ≡ next = next_written first count p q c d a in
    record {
      pieces = b.pieces ∙ ap (λ (w : Written). d.pieces.items ++ w.pieces) is ∙ ap (λ ps. ps ++ next.pieces) a.pieces ∙ append_assoc c.pieces.items (behind p c).pieces next.pieces;
      number = let one = a.number in let two = b.number ∙ ap (λ (w : Written). length d.marks.items + w.marks) is in omega (arith, one, two);
      marks = λ before others rest count_is free.
          let n : ℕ = (behind p c).marks in
          let mid = a.marks before others (more + rest) count_is (free ∙ ap (λ k. before ++ (replicate k false ++ others)) (sums count more rest)) in
          let long : length (before ++ replicate count true) ≡ after =
          length-append before (replicate count true) ∙ ap (λ k. length before + k) (length-replicate count true) ∙ ap (λ k. k + count) count_is ∙ sym at in
          b.marks (before ++ replicate count true) (others ++ replicate n true) rest long mid
          ∙ ap (λ xs. xs ++ (replicate rest false ++ ((others ++ replicate n true) ++ replicate (behind q d).marks true)))
          (append_assoc before (replicate count true) (replicate more true) ∙ ap (λ xs. before ++ xs) (replicate-append-replicate count more true))
          ∙ ap (λ xs. (before ++ replicate (count + more) true) ++ (replicate rest false ++ xs))
          (append_assoc others (replicate n true) (replicate (behind q d).marks true)
          ∙ ap (λ xs. others ++ xs) (replicate-append-replicate n (behind q d).marks true)
          ∙ ap (λ (w : Written). others ++ replicate (n + w.marks) true) is);
      wants = b.wants ∙ ap (λ (w : Written). w.wants) is;
      same = same_then a.same b.same;
    }

-- ---- an entry that is set behind those that follow it

-- marks of which the first is not set yet
pub behind_first : (before : List Bool) (n : ℕ) (others : List Bool) → before ++ (replicate (suc n) false ++ others) ≡ (before ++ (false ∷ [])) ++ (replicate n false ++ others)
behind_first before n others = first_apart before n others ∙ sym (append_assoc before (false ∷ []) (replicate n false ++ others))

-- what those behind it leave
first_left : (before ones tail : List Bool) → ((before ++ (false ∷ [])) ++ ones) ++ tail ≡ before ++ (false ∷ (ones ++ tail))
first_left before ones tail = append_assoc (before ++ (false ∷ [])) ones tail ∙ append_assoc before (false ∷ []) (ones ++ tail)

-- and with the first
all_ones : (before : List Bool) (n : ℕ) (tail : List Bool) → before ++ (true ∷ (replicate n true ++ tail)) ≡ (before ++ replicate (suc n) true) ++ tail
all_ones before n tail = sym (append_assoc before (replicate (suc n) true) tail)

pub over_generated : (entry count : ℕ) (p q : Part) (c d e : Code) → GeneratesFrom (entry + 1) count p c d → Generates entry q d e
    → GeneratesFrom entry (1 + count) (p ⨟ q) c e
over_generated entry count p q c d e a b =
    let next : Written = q (length c.marks.items + (behind p c).marks) (behind p c).wants in
    let is : behind q d ≡ next = next_written (entry + 1) count p q c d a in
    let n : ℕ = (behind p c).marks in
    record {
      pieces = b.pieces ∙ ap (λ (w : Written). d.pieces.items ++ w.pieces) is ∙ ap (λ ps. ps ++ next.pieces) a.pieces ∙ append_assoc c.pieces.items (behind p c).pieces next.pieces;
      number =
          let one = a.number in
          let two = set_number entry q d e b ∙ ap (λ (w : Written). length d.marks.items + w.marks) is in
          omega (arith, one, two);
      marks = λ before others rest count_is free.
          let front : List Bool = before ++ (false ∷ []) in
          let k : ℕ = (behind q d).marks in
          let tail : List Bool = replicate rest false ++ (others ++ replicate n true) in
          let long : length front ≡ entry + 1 = length-append before (false ∷ []) ∙ ap (λ j. j + 1) count_is in
          let mid = a.marks front others rest long (free ∙ ap (λ j. before ++ (replicate j false ++ others)) (sums 1 count rest ∙ one_more (count + rest)) ∙ behind_first before (count + rest) others) in
          let seen : d.marks.items ≡ before ++ (false ∷ (replicate count true ++ tail)) = mid ∙ first_left before (replicate count true) tail in
          b.marks
          ∙ ap (λ xs. set xs entry true ++ replicate k true) seen
          ∙ ap (λ j. set (before ++ (false ∷ (replicate count true ++ tail))) j true ++ replicate k true) (sym count_is)
          ∙ ap (λ xs. xs ++ replicate k true) (set-append_seam before false (replicate count true ++ tail) true ∙ all_ones before count tail)
          ∙ append_assoc (before ++ replicate (suc count) true) tail (replicate k true)
          ∙ ap (λ xs. (before ++ replicate (suc count) true) ++ xs)
          (append_assoc (replicate rest false) (others ++ replicate n true) (replicate k true)
          ∙ ap (λ xs. replicate rest false ++ xs) (append_assoc others (replicate n true) (replicate k true)
          ∙ ap (λ xs. others ++ xs) (replicate-append-replicate n k true)
          ∙ ap (λ (w : Written). others ++ replicate (n + w.marks) true) is))
          ∙ ap (λ j. (before ++ replicate j true) ++ (replicate rest false ++ (others ++ replicate (n + next.marks) true))) (sym (one_more count));
      wants = b.wants ∙ ap (λ (w : Written). w.wants) is;
      same = same_then a.same b.same;
    }

-- the entry may still be set behind them
pub still_open : (entry count : ℕ) (p : Part) (c d : Code) → GeneratesFrom (entry + 1) count p c d → AreOpen entry (1 + count) c.marks.items
    → is_settable d.marks.items (Mark entry) ≡ true
still_open entry count p c d a o =
    let front : List Bool = o.before ++ (false ∷ []) in
    let tail : List Bool = replicate 0 false ++ (o.behind ++ replicate (behind p c).marks true) in
    let long : length front ≡ entry + 1 = length-append o.before (false ∷ []) ∙ ap (λ k. k + 1) o.first_is in
    let free : c.marks.items ≡ front ++ (replicate (count + 0) false ++ o.behind) =
    o.is ∙ ap (λ k. o.before ++ (replicate k false ++ o.behind)) (one_more count) ∙ behind_first o.before count o.behind
    ∙ ap (λ k. front ++ (replicate k false ++ o.behind)) (sym (add-zero count)) in
    let mid = a.marks front o.behind 0 long free in
    first_open entry 0 d.marks.items (record {
      before = o.before;
      behind = replicate count true ++ tail;
      first_is = o.first_is;
      is = mid ∙ first_left o.before (replicate count true) tail ∙ sym (first_apart o.before 0 (replicate count true ++ tail));
    })

-- those behind bodies may still be set
pub rest_open : (first count more : ℕ) (p : Part) (c d : Code) → GeneratesFrom first count p c d → AreOpen first (count + more) c.marks.items
    → AreOpen (first + count) more d.marks.items
rest_open first count more p c d a o = record {
  before = o.before ++ replicate count true;
  behind = o.behind ++ replicate (behind p c).marks true;
  first_is = length-append o.before (replicate count true) ∙ ap (λ k. length o.before + k) (length-replicate count true) ∙ ap (λ k. k + count) o.first_is;
  is = a.marks o.before o.behind more o.first_is o.is;
}
