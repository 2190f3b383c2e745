-- The code of a body is appended in three steps.
-- 1. an entry leaves one mark more than there were, as the statements find it            (marks_after)
-- 2. what stands behind a mark is written from the same marks and wants as before it      (around_joined)
-- 3. a main body has no mark of its own, and its last call is wanted behind its statements (main_joined)
use Rattle.std.proofs.Common.{◌≡◌, ℕ, suc, ◌+◌, ◌++◌, ◌∷◌, [], List, true, false, length, sym, ap, ◌∙◌, arith}
use Rattle.std.proofs.lemmas.List.{append_assoc, length-append, length-set}
use Rattle.spl_code.specs.spl_meaning.Pending.{formals_words}
use Rattle.spl_code.specs.spl_meaning.Bodies.{Body}
use Rattle.spl_code.specs.spl_branch.declared.buffer.Code.{Code}
use Rattle.spl_code.specs.spl_branch.declared.pieces.Piece.{Piece}
use Rattle.spl_code.specs.spl_branch.declared.pieces.Piece.TheVariants.{Mark}
use Rattle.spl_code.specs.Parts.{Part, Written, wants_of, pieces, piece, ◌⨟◌, with_fresh}
use Rattle.spl_code.specs.Appends.{Appends, behind}
use Rattle.spl_code.proofs.AppendLaws.{same_then, marks_behind}
use Rattle.spl_body_code.specs.Frames.{granted}
use Rattle.spl_body_code.specs.Bodies.{frame_of, procedure_entered, procedure_left, procedure_code, subroutine_left, subroutine_code, main_left, main_code}
use Rattle.spl_body_code.specs.Marked.{Marked}
use Rattle.spl_body_code.specs.Joined.{StandsBehind, WithMark}

-- setting a mark leaves their number
marks_after : {mark : ℕ} {ps : List Piece} {c d : Code} → Marked mark ps c d → length d.marks.items ≡ length c.marks.items
marks_after {mark} {ps} {c} {d} m = ap length m.marks ∙ length-set c.marks.items mark true

-- pieces one behind the other
rearranged : (c a w m q : List Piece) → (c ++ a ++ w) ++ (m ++ q) ≡ c ++ (a ++ w ++ m ++ q)
rearranged c a w m q =
    ap (λ xs. xs ++ (m ++ q)) (append_assoc c a w) ∙ append_assoc c (a ++ w) (m ++ q) ∙ ap (λ xs. c ++ xs) (sym (append_assoc (a ++ w) m q))

-- statements behind an entry are written from one mark more than there were before the body, and from the same wants
written_so : (p : Part) {mark : ℕ} {ps : List Piece} {c made d : Code} → WithMark c made → Marked mark ps made d
    → behind p d ≡ p (suc (length c.marks.items) + 0) (wants_of c.wants.items)
written_so p {mark} {ps} {c} {made} {d} new m =
    let one : length made.marks.items ≡ length c.marks.items + 1 = ap length new.marks ∙ length-append c.marks.items (false ∷ []) in
    let count : length d.marks.items ≡ suc (length c.marks.items) + 0 = omega (arith, marks_after m, one) in
    ap (λ l. p l (wants_of d.wants.items)) count
    ∙ ap (p (suc (length c.marks.items) + 0)) (m.wants ∙ ap (λ v. wants_of v.items) new.wants)

-- an entry, statements and a way out, of which the mark was made first
pub around_joined : (ps qs : List Piece) (entry : ℕ) (ss : ℕ → Part) (c made d e f : Code) → WithMark c made → Marked entry ps made d
    → StandsBehind (ss (length c.marks.items)) d e → Marked (length c.marks.items) qs e f
    → StandsBehind (with_fresh (λ leave. piece (Mark entry) ⨟ pieces ps ⨟ ss leave ⨟ piece (Mark leave) ⨟ pieces qs)) c f
around_joined ps qs entry ss c made d e f new entered stated left =
    let n : ℕ = length c.marks.items in
    let w : Written = ss n (suc n + 0) (wants_of c.wants.items) in
    let is : behind (ss n) d ≡ w = written_so (ss n) new entered in
    let one : length made.marks.items ≡ n + 1 = ap length new.marks ∙ length-append c.marks.items (false ∷ []) in
    let made_of : length e.marks.items ≡ length d.marks.items + w.marks = stated.marks ∙ ap (λ (x : Written). length d.marks.items + x.marks) is in
    record {
      pieces = left.pieces
          ∙ ap (λ (xs : List Piece). xs ++ Mark n ∷ qs)
          (stated.pieces ∙ ap (λ (x : Written). d.pieces.items ++ x.pieces) is
          ∙ ap (λ (xs : List Piece). xs ++ w.pieces) (entered.pieces ∙ ap (λ v. v.items ++ Mark entry ∷ ps) new.pieces))
          ∙ rearranged c.pieces.items (Mark entry ∷ ps) w.pieces (Mark n ∷ []) qs;
      marks = omega (arith, marks_after left, marks_after entered, one, made_of);
      wants = left.wants ∙ stated.wants ∙ ap (λ (x : Written). x.wants) is;
      same = same_then (same_then new.same entered.same) (same_then stated.same left.same);
    }

pub procedure_joined : (b : Body) (entry : ℕ) (ss : ℕ → Part) (c made d e f : Code) → WithMark c made → Marked entry (procedure_entered (frame_of b)) made d
    → StandsBehind (ss (length c.marks.items)) d e
    → Marked (length c.marks.items) (procedure_left b.here.setting.split (formals_words b.profile.formals)) e f
    → StandsBehind (procedure_code b entry ss) c f
procedure_joined b entry ss c made d e f new entered stated left =
    around_joined (procedure_entered (frame_of b)) (procedure_left b.here.setting.split (formals_words b.profile.formals)) entry ss c made d e f new entered stated left

pub subroutine_joined : (b : Body) (entry : ℕ) (ss : ℕ → Part) (c made d e f : Code) → WithMark c made → Marked entry (granted b.depth') made d
    → StandsBehind (ss (length c.marks.items)) d e → Marked (length c.marks.items) (subroutine_left (formals_words b.profile.formals)) e f
    → StandsBehind (subroutine_code b entry ss) c f
subroutine_joined b entry ss c made d e f new entered stated left =
    around_joined (granted b.depth') (subroutine_left (formals_words b.profile.formals)) entry ss c made d e f new entered stated left

-- ---- main bodies

-- two parts one behind the other
then_stands : (p q : Part) {c d e : Code} → StandsBehind p c d → StandsBehind q d e → StandsBehind (p ⨟ q) c e
then_stands p q {c} {d} {e} a b =
    let l : ℕ = length c.marks.items + (behind p c).marks in
    let next : Written = q l (behind p c).wants in
    let is : behind q d ≡ next = ap (λ n. q n (wants_of d.wants.items)) a.marks ∙ ap (q l) a.wants in
    let more : length e.marks.items ≡ length d.marks.items + next.marks = b.marks ∙ ap (λ (x : Written). length d.marks.items + x.marks) is in
    record {
      pieces = b.pieces ∙ ap (λ (x : Written). d.pieces.items ++ x.pieces) is ∙ ap (λ (xs : List Piece). xs ++ next.pieces) a.pieces
          ∙ append_assoc c.pieces.items (behind p c).pieces next.pieces;
      marks = omega (arith, more, a.marks);
      wants = b.wants ∙ ap (λ (x : Written). x.wants) is;
      same = same_then a.same b.same;
    }

-- an entry by itself
entry_stands : (entry : ℕ) (ps : List Piece) {c d : Code} → Marked entry ps c d → StandsBehind (piece (Mark entry) ⨟ pieces ps) c d
entry_stands entry ps m = record { pieces = m.pieces; marks = omega (arith, marks_after m); wants = m.wants; same = m.same }

-- what is appended stands behind
pub appended_stands : (p : Part) {c d : Code} → Appends p c d → StandsBehind p c d
appended_stands p a = record { pieces = a.pieces; marks = marks_behind a; wants = a.wants; same = a.same }

pub main_stands : (ps : List Piece) (entry : ℕ) (ss : Part) (c d e f : Code) → Marked entry ps c d → StandsBehind ss d e → Appends main_left e f
    → StandsBehind (piece (Mark entry) ⨟ pieces ps ⨟ ss ⨟ main_left) c f
main_stands ps entry ss c d e f entered stated left =
    then_stands (piece (Mark entry) ⨟ pieces ps ⨟ ss) main_left
    (then_stands (piece (Mark entry) ⨟ pieces ps) ss (entry_stands entry ps entered) stated) (appended_stands main_left left)

pub main_joined : (b : Body) (entry : ℕ) (ss : Part) (c d e f : Code) → Marked entry (granted b.depth') c d → StandsBehind ss d e → Appends main_left e f
    → StandsBehind (main_code b entry ss) c f
main_joined b entry ss c d e f entered stated left = main_stands (granted b.depth') entry ss c d e f entered stated left
