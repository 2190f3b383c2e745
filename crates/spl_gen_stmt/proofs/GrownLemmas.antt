-- A code grows by one part, and then by another; marks are made, led to and set.
use Rattle.std.proofs.Common.{◌≡◌, ℕ, zero, suc, ◌+◌, ◌<◌, ◌≤◌, ◌++◌, ◌∷◌, [], List, Bool, true, false, not, nat_lt, length, replicate, slice_set, slice_index_or, refl, subst, sym, ◌∙◌, ap, arith}
use Rattle.std.proofs.Math.Seq.{set-append_seam, get_or-append_seam}
use Rattle.std.proofs.lemmas.Bool.{and_from, and_parts, lt-ltb, ltb-true}
use Rattle.std.proofs.lemmas.List.{append_assoc, append-nil, length-append, length-replicate, replicate-append-replicate, set-append_left, length-set}
use Rattle.spl_branch.specs.declared.buffer.Code.{Code}
use Rattle.spl_branch.specs.declared.pieces.Piece.TheVariants.{Mark}
use Rattle.spl_branch.specs.Pieces.{is_settable}
use Rattle.spl_statement_code.specs.spl_code.Parts.{Part, Written, wants_of, piece, nothing, ◌⨟◌, with_fresh}
use Rattle.spl_statement_code.specs.spl_code.Appends.{Appends, behind}
use Rattle.spl_statement_code.proofs.spl_code_proofs.AppendLaws.{same_then}
use Rattle.spl_gen_expr.specs.Marks.{Within, Sets}
use Rattle.spl_gen_expr.proofs.MarkLemmas.{second_settable}
use Rattle.spl_statement_code.specs.Landings.{Context, IsMade}
use Rattle.spl_statement_code.specs.Labels.{AppendsSetting, CanBeSet, all_set}
use Rattle.spl_stored.specs.Grown.{Grown, with_new, behind_new}

-- ---- marks as lists

at_left : (xs ys : List Bool) (i : ℕ) (d : Bool) → i < length xs → slice_index_or (xs ++ ys) i d ≡ slice_index_or xs i d
at_left [] ys i d lt = absurd (omega arith)
at_left (x ∷ xs) ys zero d lt = refl
at_left (x ∷ xs) ys (suc i) d lt = at_left xs ys i d (omega arith)

settable_made : (xs : List Bool) (m : ℕ) → is_settable xs (Mark m) ≡ true → m < length xs
settable_made xs m h = ltb-true m (length xs) (and_parts (nat_lt m (length xs)) (not (slice_index_or xs m false)) h).0

settable_left : (xs ys : List Bool) (m : ℕ) → is_settable xs (Mark m) ≡ true → is_settable (xs ++ ys) (Mark m) ≡ true
settable_left xs ys m h =
    let lt : m < length xs = settable_made xs m h in
    let all = length-append xs ys in
    let free = (and_parts (nat_lt m (length xs)) (not (slice_index_or xs m false)) h).1 in
    and_from _ _ (lt-ltb m (length (xs ++ ys)) (omega arith)) (ap not (at_left xs ys m false lt) ∙ free)

settable_seam : (xs ys ms : List Bool) → ms ≡ xs ++ false ∷ ys → is_settable ms (Mark (length xs)) ≡ true
settable_seam xs ys ms is =
    let all = length-append xs (false ∷ ys) in
    rw is (and_from _ _ (lt-ltb (length xs) (length (xs ++ false ∷ ys)) (omega arith)) (ap not (get_or-append_seam xs false ys false)))

pub all_set-append : (ms : List ℕ) (xs ys : List Bool) → CanBeSet xs ms → all_set (xs ++ ys) ms ≡ all_set xs ms ++ ys
all_set-append [] xs ys can = refl
all_set-append (m ∷ ms) xs ys can =
    ap (λ zs. all_set zs ms) (set-append_left xs ys m true (settable_made xs m can.0)) ∙ all_set-append ms (slice_set xs m true) ys can.1

can_left : (ms : List ℕ) (xs ys : List Bool) → CanBeSet xs ms → CanBeSet (xs ++ ys) ms
can_left [] xs ys can = tt
can_left (m ∷ ms) xs ys can = (
  settable_left xs ys m can.0,
  subst (λ zs. CanBeSet zs ms) (sym (set-append_left xs ys m true (settable_made xs m can.0))) (can_left ms (slice_set xs m true) ys can.1),
)

all_set-both : (ms ns : List ℕ) (xs : List Bool) → all_set xs (ms ++ ns) ≡ all_set (all_set xs ms) ns
all_set-both [] ns xs = refl
all_set-both (m ∷ ms) ns xs = all_set-both ms ns (slice_set xs m true)

pub can_first : (ms ns : List ℕ) (xs : List Bool) → CanBeSet xs (ms ++ ns) → CanBeSet xs ms
can_first [] ns xs can = tt
can_first (m ∷ ms) ns xs can = (can.0, can_first ms ns (slice_set xs m true) can.1)

pub can_rest : (ms ns : List ℕ) (xs : List Bool) → CanBeSet xs (ms ++ ns) → CanBeSet (all_set xs ms) ns
can_rest [] ns xs can = can
can_rest (m ∷ ms) ns xs can = can_rest ms ns (slice_set xs m true) can.1

length-all_set : (ms : List ℕ) (xs : List Bool) → length (all_set xs ms) ≡ length xs
length-all_set [] xs = refl
length-all_set (m ∷ ms) xs = length-all_set ms (slice_set xs m true) ∙ length-set xs m true

length-new : (new : List Bool) (n m : ℕ) → n + (length new + m) ≡ with_new new n + m
length-new [] n m = omega arith
length-new (b ∷ bs) n m = let all = length-new bs n m in omega arith

-- ---- how many marks there are then

pub marks_grown : {new : List Bool} {sets : List ℕ} {p : Part} {c d : Code} → Grown new sets p c d
    → length d.marks.items ≡ with_new new (length c.marks.items) + (behind_new new p c).marks
marks_grown {new} {sets} {p} {c} {d} h =
    let a = ap length h.marks ∙ length-append (all_set c.marks.items sets) (new ++ replicate (behind_new new p c).marks true) in
    let b = length-append new (replicate (behind_new new p c).marks true) in
    let e = length-replicate (behind_new new p c).marks true in
    let f = length-all_set sets c.marks.items in
    let g = length-new new (length c.marks.items) (behind_new new p c).marks in
    omega arith

some_new : (new : List Bool) (n : ℕ) → n ≤ with_new new n
some_new [] n = omega arith
some_new (b ∷ bs) n = let all = some_new bs n in omega arith

pub more_marks : {new : List Bool} {sets : List ℕ} {p : Part} {c d : Code} → Grown new sets p c d → length c.marks.items ≤ length d.marks.items
more_marks {new} {sets} {p} {c} {d} h =
    let a = marks_grown h in
    let b = some_new new (length c.marks.items) in
    omega arith

-- ---- one part more

-- what is written next
next_written : {new : List Bool} {sets : List ℕ} {p : Part} {c d : Code} (q : Part) → Grown new sets p c d
    → behind q d ≡ q (with_new new (length c.marks.items) + (behind_new new p c).marks) (behind_new new p c).wants
next_written {new} {sets} {p} {c} {d} q h =
    ap (λ l. q l (wants_of d.wants.items)) (marks_grown h) ∙ ap (q (with_new new (length c.marks.items) + (behind_new new p c).marks)) h.wants

-- marks of the labels in it are set
pub grown_setting : {new : List Bool} {sets more : List ℕ} {p q : Part} {c d e : Code} → Grown new sets p c d → AppendsSetting more q d e
    → CanBeSet c.marks.items (sets ++ more) → Grown new (sets ++ more) (p ⨟ q) c e
grown_setting {new} {sets} {more} {p} {q} {c} {d} {e} h k can =
    let n : ℕ = (behind_new new p c).marks in
    let next : Written = q (with_new new (length c.marks.items) + n) (behind_new new p c).wants in
    let is : behind q d ≡ next = next_written q h in
    record {
      pieces = k.pieces ∙ ap (λ w. d.pieces.items ++ w.pieces) is ∙ ap (λ ps. ps ++ next.pieces) h.pieces
          ∙ append_assoc c.pieces.items (behind_new new p c).pieces next.pieces;
      marks = k.marks ∙ ap (λ w. all_set d.marks.items more ++ replicate w.marks true) is
          ∙ ap (λ ms. all_set ms more ++ replicate next.marks true) h.marks
          ∙ ap (λ ms. ms ++ replicate next.marks true)
          (all_set-append more (all_set c.marks.items sets) (new ++ replicate n true) (can_rest sets more c.marks.items can))
          ∙ ap (λ ms. (ms ++ (new ++ replicate n true)) ++ replicate next.marks true) (sym (all_set-both sets more c.marks.items))
          ∙ append_assoc (all_set c.marks.items (sets ++ more)) (new ++ replicate n true) (replicate next.marks true)
          ∙ ap (λ ms. all_set c.marks.items (sets ++ more) ++ ms) (append_assoc new (replicate n true) (replicate next.marks true)
          ∙ ap (λ ms. new ++ ms) (replicate-append-replicate n next.marks true));
      wants = k.wants ∙ ap (λ w. w.wants) is;
      same = same_then h.same k.same;
    }

-- a part that sets none of the old ones
pub plain : {p : Part} {c d : Code} → Appends p c d → AppendsSetting [] p c d
plain a = record { pieces = a.pieces; marks = a.marks; wants = a.wants; same = a.same }

pub grown_more : {new : List Bool} {sets : List ℕ} {p q : Part} {c d e : Code} → Grown new sets p c d → Appends q d e → Grown new sets (p ⨟ q) c e
grown_more {new} {sets} {p} {q} {c} {d} {e} h k =
    let n : ℕ = (behind_new new p c).marks in
    let next : Written = q (with_new new (length c.marks.items) + n) (behind_new new p c).wants in
    let is : behind q d ≡ next = next_written q h in
    record {
      pieces = k.pieces ∙ ap (λ w. d.pieces.items ++ w.pieces) is ∙ ap (λ ps. ps ++ next.pieces) h.pieces
          ∙ append_assoc c.pieces.items (behind_new new p c).pieces next.pieces;
      marks = k.marks ∙ ap (λ w. d.marks.items ++ replicate w.marks true) is ∙ ap (λ ms. ms ++ replicate next.marks true) h.marks
          ∙ append_assoc (all_set c.marks.items sets) (new ++ replicate n true) (replicate next.marks true)
          ∙ ap (λ ms. all_set c.marks.items sets ++ ms) (append_assoc new (replicate n true) (replicate next.marks true)
          ∙ ap (λ ms. new ++ ms) (replicate-append-replicate n next.marks true));
      wants = k.wants ∙ ap (λ w. w.wants) is;
      same = same_then h.same k.same;
    }

-- ---- the first part behind new marks

with_new-zero : (new : List Bool) (n : ℕ) → with_new new n + 0 ≡ with_new new n
with_new-zero new n = omega arith

pub grown_start : {new : List Bool} {q : Part} {c d e : Code} → Grown new [] nothing c d → Appends q d e → Grown new [] q c e
grown_start {new} {q} {c} {d} {e} h k =
    let is : behind q d ≡ behind_new new q c =
    next_written q h ∙ ap (λ l. q l (wants_of c.wants.items)) (with_new-zero new (length c.marks.items)) in
    record {
      pieces = k.pieces ∙ ap (λ w. d.pieces.items ++ w.pieces) is
          ∙ ap (λ ps. ps ++ (behind_new new q c).pieces) (h.pieces ∙ append-nil c.pieces.items);
      marks = k.marks ∙ ap (λ w. d.marks.items ++ replicate w.marks true) is
          ∙ ap (λ ms. ms ++ replicate (behind_new new q c).marks true) (h.marks ∙ ap (λ ms. c.marks.items ++ ms) (append-nil new))
          ∙ append_assoc c.marks.items new (replicate (behind_new new q c).marks true);
      wants = k.wants ∙ ap (λ w. w.wants) is;
      same = same_then h.same k.same;
    }

-- ---- new marks

-- two at once
pub grown_two : {a b : Bool} {p : Part} {c d : Code} → Within a b p c d → Grown (a ∷ b ∷ []) [] p c d
grown_two h = record { pieces = h.pieces; marks = h.marks; wants = h.wants; same = h.same }

-- none
pub grown_none : {sets : List ℕ} {p : Part} {c d : Code} → AppendsSetting sets p c d → Grown [] sets p c d
grown_none h = record { pieces = h.pieces; marks = h.marks; wants = h.wants; same = h.same }

pub setting_none : {sets : List ℕ} {p : Part} {c d : Code} → Grown [] sets p c d → AppendsSetting sets p c d
setting_none h = record { pieces = h.pieces; marks = h.marks; wants = h.wants; same = h.same }

-- they were made
pub first_made : {b : Bool} {bs : List Bool} {sets : List ℕ} {p : Part} {c d : Code} (l : ℕ) → Grown (b ∷ bs) sets p c d → l ≡ length c.marks.items
    → l < length d.marks.items
first_made {b} {bs} {sets} {p} {c} {d} l h is =
    let a = marks_grown h in
    let e = some_new bs (length c.marks.items) in
    omega arith

pub second_made : {a b : Bool} {bs : List Bool} {sets : List ℕ} {p : Part} {c d : Code} (l : ℕ) → Grown (a ∷ b ∷ bs) sets p c d
    → l ≡ suc (length c.marks.items) → l < length d.marks.items
second_made {a} {b} {bs} {sets} {p} {c} {d} l h is =
    let f = marks_grown h in
    let e = some_new bs (length c.marks.items) in
    omega arith

-- the first may be set where it is not, and so may the second
pub first_open : {bs : List Bool} {sets : List ℕ} {p : Part} {c d : Code} (l : ℕ) → Grown (false ∷ bs) sets p c d → l ≡ length c.marks.items
    → is_settable d.marks.items (Mark l) ≡ true
first_open {bs} {sets} {p} {c} {d} l h is =
    rw (is ∙ sym (length-all_set sets c.marks.items))
    (settable_seam (all_set c.marks.items sets) (bs ++ replicate (behind_new (false ∷ bs) p c).marks true) d.marks.items h.marks)

pub second_open : {a : Bool} {sets : List ℕ} {p : Part} {c d : Code} (l : ℕ) → Grown (a ∷ false ∷ []) sets p c d → l ≡ suc (length c.marks.items)
    → is_settable d.marks.items (Mark l) ≡ true
second_open {a} {sets} {p} {c} {d} l h is =
    rw (is ∙ ap (λ n. suc n) (sym (length-all_set sets c.marks.items)))
    (second_settable (all_set c.marks.items sets) a (replicate (behind_new (a ∷ false ∷ []) p c).marks true) d.marks.items h.marks)

-- they are set
pub first_set : {bs : List Bool} {sets : List ℕ} {p : Part} {c d e : Code} {l : ℕ} → Grown (false ∷ bs) sets p c d → Sets l d e → l ≡ length c.marks.items
    → Grown (true ∷ bs) sets (p ⨟ piece (Mark l)) c e
first_set {bs} {sets} {p} {c} {d} {e} {l} h k is = record {
  pieces = k.pieces ∙ ap (λ ps. ps ++ Mark l ∷ []) h.pieces ∙ append_assoc c.pieces.items (behind_new (false ∷ bs) p c).pieces (Mark l ∷ []);
  marks = k.marks ∙ ap (λ n. slice_set d.marks.items n true) (is ∙ sym (length-all_set sets c.marks.items))
      ∙ ap (λ ms. slice_set ms (length (all_set c.marks.items sets)) true) h.marks
      ∙ set-append_seam (all_set c.marks.items sets) false (bs ++ replicate (behind_new (false ∷ bs) p c).marks true) true
      ∙ ap (λ n. all_set c.marks.items sets ++ true ∷ (bs ++ replicate n true)) (omega arith);
  wants = k.wants ∙ h.wants;
  same = same_then h.same k.same;
}

set_second : (xs : List Bool) (a b c : Bool) (ys : List Bool) → slice_set (xs ++ a ∷ b ∷ ys) (suc (length xs)) c ≡ xs ++ a ∷ c ∷ ys
set_second [] a b c ys = refl
set_second (x ∷ xs) a b c ys = ap (λ l. x ∷ l) (set_second xs a b c ys)

pub second_set : {a : Bool} {sets : List ℕ} {p : Part} {c d e : Code} {l : ℕ} → Grown (a ∷ false ∷ []) sets p c d → Sets l d e → l ≡ suc (length c.marks.items)
    → Grown (a ∷ true ∷ []) sets (p ⨟ piece (Mark l)) c e
second_set {a} {sets} {p} {c} {d} {e} {l} h k is = record {
  pieces = k.pieces ∙ ap (λ ps. ps ++ Mark l ∷ []) h.pieces ∙ append_assoc c.pieces.items (behind_new (a ∷ false ∷ []) p c).pieces (Mark l ∷ []);
  marks = k.marks ∙ ap (λ n. slice_set d.marks.items n true) (is ∙ ap (λ n. suc n) (sym (length-all_set sets c.marks.items)))
      ∙ ap (λ ms. slice_set ms (suc (length (all_set c.marks.items sets))) true) h.marks
      ∙ set_second (all_set c.marks.items sets) a false true (replicate (behind_new (a ∷ false ∷ []) p c).marks true)
      ∙ ap (λ n. all_set c.marks.items sets ++ a ∷ true ∷ replicate n true) (omega arith);
  wants = k.wants ∙ h.wants;
  same = same_then h.same k.same;
}

-- the first is set directly behind them
pub first_set_here : {bs : List Bool} {c d e : Code} {l : ℕ} → Grown (false ∷ bs) [] nothing c d → Sets l d e → l ≡ length c.marks.items
    → Grown (true ∷ bs) [] (piece (Mark l)) c e
first_set_here {bs} {c} {d} {e} {l} h k is =
    let all = first_set h k is in record { pieces = all.pieces; marks = all.marks; wants = all.wants; same = all.same }

-- all are set: a part with marks of its own
pub closed_one : (F : ℕ → Part) {sets : List ℕ} {c d : Code} {l : ℕ} → l ≡ length c.marks.items → Grown (true ∷ []) sets (F l) c d
    → AppendsSetting sets (with_fresh F) c d
closed_one F {sets} {c} {d} {l} is h =
    let h : Grown (true ∷ []) sets (F (length c.marks.items)) c d = subst (λ n. Grown (true ∷ []) sets (F n) c d) is h in
    record { pieces = h.pieces; marks = h.marks; wants = h.wants; same = h.same }

pub closed_two : (F : ℕ → ℕ → Part) {sets : List ℕ} {c d : Code} {l m : ℕ} → l ≡ length c.marks.items → m ≡ suc (length c.marks.items)
    → Grown (true ∷ true ∷ []) sets (F l m) c d → AppendsSetting sets (with_fresh (λ x. with_fresh (λ y. F x y))) c d
closed_two F {sets} {c} {d} {l} {m} is also h =
    let h : Grown (true ∷ true ∷ []) sets (F (length c.marks.items) (suc (length c.marks.items))) c d =
    subst (λ n. Grown (true ∷ true ∷ []) sets (F n (suc (length c.marks.items))) c d) is (subst (λ n. Grown (true ∷ true ∷ []) sets (F l n) c d) also h) in
    record { pieces = h.pieces; marks = h.marks; wants = h.wants; same = h.same }

-- ---- what a statement inside needs

-- the marks of the labels behind may be set
pub grown_can : {new : List Bool} {sets : List ℕ} {p : Part} {c d : Code} (more : List ℕ) → Grown new sets p c d → CanBeSet c.marks.items (sets ++ more)
    → CanBeSet d.marks.items more
grown_can {new} {sets} {p} {c} {d} more h can =
    subst (λ ms. CanBeSet ms more) (sym h.marks) (can_left more (all_set c.marks.items sets) (new ++ replicate (behind_new new p c).marks true) (can_rest sets more c.marks.items can))

-- the marks of a context were made
pub made_more : {c : Context} {n m : ℕ} → IsMade c n → n ≤ m → IsMade c m
made_more {c} {n} {m} made le = record {
  leave = let lt : c.leave < n = made.leave in omega arith;
  landings = λ x l is. let lt : l.mark < n = made.landings x l is in omega arith;
}

pub grown_still : {ctx : Context} {new : List Bool} {sets : List ℕ} {p : Part} {c d : Code} → IsMade ctx (length c.marks.items) → Grown new sets p c d
    → IsMade ctx (length d.marks.items)
grown_still made h = made_more made (more_marks h)

-- ---- without new marks

pub setting_then : {sets more : List ℕ} {p q : Part} {c d e : Code} → AppendsSetting sets p c d → AppendsSetting more q d e → CanBeSet c.marks.items (sets ++ more)
    → AppendsSetting (sets ++ more) (p ⨟ q) c e
setting_then a b can = setting_none (grown_setting (grown_none a) b can)

pub plain_then : {more : List ℕ} {p q : Part} {c d e : Code} → Appends p c d → AppendsSetting more q d e → CanBeSet c.marks.items more
    → AppendsSetting more (p ⨟ q) c e
plain_then a b can = setting_then (plain a) b can

pub setting_plain : {sets : List ℕ} {p q : Part} {c d e : Code} → AppendsSetting sets p c d → Appends q d e → AppendsSetting sets (p ⨟ q) c e
setting_plain a b = setting_none (grown_more (grown_none a) b)
