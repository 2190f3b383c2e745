-- Two marks, made before a part and set in it or behind it.
use Rattle.std.proofs.Common.{◌≡◌, ℕ, suc, ◌+◌, ◌<◌, ◌++◌, ◌∷◌, [], List, Bool, true, false, not, length, replicate, slice_set, slice_index_or, Some, refl, subst, sym, ◌∙◌, ap, arith}
use Rattle.std.proofs.Math.Seq.{set-append_seam}
use Rattle.std.proofs.lemmas.Bool.{and_from, lt-ltb}
use Rattle.std.proofs.lemmas.List.{append_assoc, append-nil, length-append, length-replicate, replicate-append-replicate}
use Rattle.spl_branch.specs.declared.buffer.Code.{Code}
use Rattle.spl_branch.specs.declared.pieces.Piece.TheVariants.{Mark}
use Rattle.spl_branch.specs.Pieces.{is_settable}
use Rattle.spl_branch.specs.Codes.{SameFrame}
use Rattle.spl_operations.specs.spl_code.Parts.{Part, Written, wants_of, piece, nothing, ◌⨟◌, with_fresh}
use Rattle.spl_operations.specs.spl_code.Appends.{Appends, behind}
use Rattle.spl_operations.proofs.spl_code_proofs.AppendLaws.{same_then, same_none, still_made}
use Rattle.spl_operations.specs.spl_code.Instructions.{LDNI, BR, ZERO}
use Rattle.spl_operations.specs.spl_code.Code.{Aim, as_value, as_test, condition}
use Rattle.spl_gen_expr.specs.declared.marks.Opening.{Opening}
use Rattle.spl_gen_expr.specs.declared.marks.Aim as code
use Rattle.spl_gen_expr.specs.declared.marks.Aim.TheVariants as aim
use Rattle.spl_gen_expr.specs.Marks.{Within, Sets, inside, Opened, Pending, Ended, Known, aim_view}

-- ---- marks as lists

set_second : (xs : List Bool) (a b c : Bool) (ys : List Bool) → slice_set (xs ++ a ∷ b ∷ ys) (suc (length xs)) c ≡ xs ++ a ∷ c ∷ ys
set_second [] a b c ys = refl
set_second (x ∷ xs) a b c ys = ap (λ l. x ∷ l) (set_second xs a b c ys)

at_first : (xs : List Bool) (a : Bool) (ys : List Bool) (d : Bool) → slice_index_or (xs ++ a ∷ ys) (length xs) d ≡ a
at_first [] a ys d = refl
at_first (x ∷ xs) a ys d = at_first xs a ys d

at_second : (xs : List Bool) (a b : Bool) (ys : List Bool) (d : Bool) → slice_index_or (xs ++ a ∷ b ∷ ys) (suc (length xs)) d ≡ b
at_second [] a b ys d = refl
at_second (x ∷ xs) a b ys d = at_second xs a b ys d

two_more : (xs : List Bool) (a b : Bool) (ys : List Bool) → suc (length xs) < length (xs ++ a ∷ b ∷ ys)
two_more xs a b ys = let is = length-append xs (a ∷ b ∷ ys) in omega arith

one_more : (xs : List Bool) (a b : Bool) (ys : List Bool) → length xs < length (xs ++ a ∷ b ∷ ys)
one_more xs a b ys = let is = length-append xs (a ∷ b ∷ ys) in omega arith

-- the first is settable where it is not set, and so is the second
pub first_settable : (xs : List Bool) (b : Bool) (ys ms : List Bool) → ms ≡ xs ++ false ∷ b ∷ ys → is_settable ms (Mark (length xs)) ≡ true
first_settable xs b ys ms is = rw is (and_from _ _ (lt-ltb _ _ (one_more xs false b ys)) (ap not (at_first xs false (b ∷ ys) false)))

pub second_settable : (xs : List Bool) (a : Bool) (ys ms : List Bool) → ms ≡ xs ++ a ∷ false ∷ ys → is_settable ms (Mark (suc (length xs))) ≡ true
second_settable xs a ys ms is = rw is (and_from _ _ (lt-ltb _ _ (two_more xs a false ys)) (ap not (at_second xs a false ys false)))

-- ---- two marks are made

pub fresh_twice : (c d e : Code) → d.marks.items ≡ c.marks.items ++ false ∷ [] → d.pieces ≡ c.pieces → d.wants ≡ c.wants → SameFrame c d
    → e.marks.items ≡ d.marks.items ++ false ∷ [] → e.pieces ≡ d.pieces → e.wants ≡ d.wants → SameFrame d e → Within false false nothing c e
fresh_twice c d e m1 p1 w1 s1 m2 p2 w2 s2 = record {
  pieces = ap (λ v. v.items) (p2 ∙ p1) ∙ sym (append-nil c.pieces.items);
  marks = m2 ∙ ap (λ ms. ms ++ false ∷ []) m1 ∙ append_assoc c.marks.items (false ∷ []) (false ∷ []);
  wants = ap (λ v. wants_of v.items) (w2 ∙ w1);
  same = same_then s1 s2;
}

-- ---- parts behind them

-- how many marks there are then
marks_inside : {a b : Bool} {p : Part} {c d : Code} → Within a b p c d → length d.marks.items ≡ suc (suc (length c.marks.items)) + (inside p c).marks
marks_inside {a} {b} {p} {c} {d} h =
    let all = ap length h.marks ∙ length-append c.marks.items (a ∷ b ∷ replicate (inside p c).marks true) in
    let more = length-replicate (inside p c).marks true in
    omega arith

-- a part, and then another
pub within_then : {a b : Bool} {p q : Part} {c d e : Code} → Within a b p c d → Appends q d e → Within a b (p ⨟ q) c e
within_then {a} {b} {p} {q} {c} {d} {e} h k =
    let next : Written = q (suc (suc (length c.marks.items)) + (inside p c).marks) (inside p c).wants in
    let is : behind q d ≡ next =
    ap (λ l. q l (wants_of d.wants.items)) (marks_inside h) ∙ ap (q (suc (suc (length c.marks.items)) + (inside p c).marks)) h.wants in
    record {
      pieces = k.pieces ∙ ap (λ w. d.pieces.items ++ w.pieces) is ∙ ap (λ ps. ps ++ next.pieces) h.pieces
          ∙ append_assoc c.pieces.items (inside p c).pieces next.pieces;
      marks = k.marks ∙ ap (λ w. d.marks.items ++ replicate w.marks true) is ∙ ap (λ ms. ms ++ replicate next.marks true) h.marks
          ∙ append_assoc c.marks.items (a ∷ b ∷ replicate (inside p c).marks true) (replicate next.marks true)
          ∙ ap (λ ms. c.marks.items ++ a ∷ b ∷ ms) (replicate-append-replicate (inside p c).marks next.marks true);
      wants = k.wants ∙ ap (λ w. w.wants) is;
      same = same_then h.same k.same;
    }

-- the first is set, or the second
pub within_first : {b : Bool} {p : Part} {c d e : Code} {l : ℕ} → Within false b p c d → Sets l d e → l ≡ length c.marks.items → Within true b (p ⨟ piece (Mark l)) c e
within_first {b} {p} {c} {d} {e} {l} h k is = record {
  pieces = k.pieces ∙ ap (λ ps. ps ++ Mark l ∷ []) h.pieces ∙ append_assoc c.pieces.items (inside p c).pieces (Mark l ∷ []);
  marks = k.marks ∙ ap (λ n. slice_set d.marks.items n true) is ∙ ap (λ ms. slice_set ms (length c.marks.items) true) h.marks
      ∙ set-append_seam c.marks.items false (b ∷ replicate (inside p c).marks true) true
      ∙ ap (λ n. c.marks.items ++ true ∷ b ∷ replicate n true) (omega arith);
  wants = k.wants ∙ h.wants;
  same = same_then h.same k.same;
}

pub within_second : {a : Bool} {p : Part} {c d e : Code} {l : ℕ} → Within a false p c d → Sets l d e → l ≡ suc (length c.marks.items) → Within a true (p ⨟ piece (Mark l)) c e
within_second {a} {p} {c} {d} {e} {l} h k is = record {
  pieces = k.pieces ∙ ap (λ ps. ps ++ Mark l ∷ []) h.pieces ∙ append_assoc c.pieces.items (inside p c).pieces (Mark l ∷ []);
  marks = k.marks ∙ ap (λ n. slice_set d.marks.items n true) is ∙ ap (λ ms. slice_set ms (suc (length c.marks.items)) true) h.marks
      ∙ set_second c.marks.items a false true (replicate (inside p c).marks true)
      ∙ ap (λ n. c.marks.items ++ a ∷ true ∷ replicate n true) (omega arith);
  wants = k.wants ∙ h.wants;
  same = same_then h.same k.same;
}

-- both are set: a part with two marks of its own
pub within_closed : (F : ℕ → ℕ → Part) {c d : Code} → Within true true (F (length c.marks.items) (suc (length c.marks.items))) c d
    → Appends (with_fresh (λ x. with_fresh (λ y. F x y))) c d
within_closed F h = record { pieces = h.pieces; marks = h.marks; wants = h.wants; same = h.same }

-- they may be set
pub first_open : {b : Bool} {p : Part} {c d : Code} (l : ℕ) → Within false b p c d → l ≡ length c.marks.items → is_settable d.marks.items (Mark l) ≡ true
first_open {b} {p} {c} {d} l h is = rw is (first_settable c.marks.items b (replicate (inside p c).marks true) d.marks.items h.marks)

pub second_open : {a : Bool} {p : Part} {c d : Code} (l : ℕ) → Within a false p c d → l ≡ suc (length c.marks.items) → is_settable d.marks.items (Mark l) ≡ true
second_open {a} {p} {c} {d} l h is = rw is (second_settable c.marks.items a (replicate (inside p c).marks true) d.marks.items h.marks)

-- they were made
pub first_made : {a b : Bool} {p : Part} {c d : Code} (l : ℕ) → Within a b p c d → l ≡ length c.marks.items → l < length d.marks.items
first_made l h is = let all = marks_inside h in omega arith

pub second_made : {a b : Bool} {p : Part} {c d : Code} (l : ℕ) → Within a b p c d → l ≡ suc (length c.marks.items) → l < length d.marks.items
second_made l h is = let all = marks_inside h in omega arith

-- a part directly behind them
pub within_start : {q : Part} {c d e : Code} → Within false false nothing c d → Appends q d e → Within false false q c e
within_start {q} {c} {d} {e} h k =
    let l : length d.marks.items ≡ suc (suc (length c.marks.items)) = let all = marks_inside h in omega arith in
    let is : behind q d ≡ inside q c = ap (λ l. q l (wants_of d.wants.items)) l ∙ ap (q (suc (suc (length c.marks.items)))) h.wants in
    record {
      pieces = k.pieces ∙ ap (λ w. d.pieces.items ++ w.pieces) is ∙ ap (λ ps. ps ++ (inside q c).pieces) (h.pieces ∙ append-nil c.pieces.items);
      marks = k.marks ∙ ap (λ w. d.marks.items ++ replicate w.marks true) is ∙ ap (λ ms. ms ++ replicate (inside q c).marks true) h.marks
          ∙ append_assoc c.marks.items (false ∷ false ∷ []) (replicate (inside q c).marks true);
      wants = k.wants ∙ ap (λ w. w.wants) is;
      same = same_then h.same k.same;
    }

-- ---- the end of a condition

-- what ends the value of a condition
pub ended : (l m : ℕ) {d e1 e2 e3 e4 e5 : Code} → Appends (piece (LDNI 1)) d e1 → Appends (piece (BR m)) e1 e2 → Sets l e2 e3
    → Appends (piece ZERO) e3 e4 → Sets m e4 e5 → Ended (Some m) l d e5
ended l m a1 a2 s1 a3 s2 c part h isl ism = within_second (within_then (within_first (within_then (within_then h a1) a2) s1 isl) a3) s2 ism

-- behind its test, the end of a condition is due
pub pending : (q : Part) (c d e : Code) (aim : Aim) (o : Opening) → Opened aim o c d → Appends q d e → Pending o.end o.fail e
pending q c d e (as_test fail) o op a = subst (λ x. Pending x o.fail e) (sym op.1) tt
pending q c d e as_value o op a = subst (λ x. Pending x o.fail e) (sym op.1) (c, q, within_start op.2 a, op.0, refl)

-- a condition as a value, by its two marks
abbrev conditioned : (ℕ → Part) → ℕ → ℕ → Part
conditioned test l m = test l ⨟ piece (LDNI 1) ⨟ piece (BR m) ⨟ piece (Mark l) ⨟ piece ZERO ⨟ piece (Mark m)

-- a condition: begun, tested and ended
pub condition_appends : (aim : Aim) (o : Opening) (test : ℕ → Part) (c d e f : Code) → Opened aim o c d → Appends (test o.fail) d e → Ended o.end o.fail e f
    → Appends (condition aim test) c f
condition_appends (as_test fail) o test c d e f op a z =
    let same : f ≡ e = subst (λ x. Ended x o.fail e f) op.1 z in
    subst (λ x. Appends (test fail) c x) (sym same) (subst (λ x. Appends (test fail) x e) op.2 (subst (λ l. Appends (test l) d e) op.0 a))
condition_appends as_value o test c d e f op a z =
    let m : ℕ = suc (length c.marks.items) in
    let all : Ended (Some m) o.fail e f = subst (λ x. Ended x o.fail e f) op.1 z in
    let w : Within true true (conditioned test o.fail m) c f = all c (test o.fail) (within_start op.2 a) op.0 refl in
    within_closed (conditioned test) (subst (λ l. Within true true (conditioned test l m) c f) op.0 w)

-- ---- the mark of a test

-- a mark that was made is there behind a part
pub known_still : {p : Part} {c d : Code} (aim : code.Aim) → Appends p c d → Known aim c → Known aim d
known_still aim.Value a k = tt
known_still (aim.Test fail) a k = still_made fail a k

-- the mark to which a condition leads was made
pub open_made : (aim : code.Aim) (o : Opening) (c d : Code) → Opened (aim_view aim) o c d → Known aim c → o.fail < length d.marks.items
open_made aim.Value o c d op k = first_made o.fail op.2 op.0
open_made (aim.Test fail) o c d op k = subst (λ l. l < length d.marks.items) (sym op.0) (subst (λ x. fail < length x.marks.items) (sym op.2) k)

pub ruleset made = (still_made, known_still, open_made)
