-- A body whose entry, statements and way out were appended one behind the other is generated.
use Rattle.std.proofs.Common.{◌≡◌, ◌<◌, ℕ, suc, ◌+◌, ◌++◌, ◌∷◌, [], List, true, false, length, replicate, set, sym, ap, subst, ◌∙◌, arith}
use Rattle.std.proofs.lemmas.List.{append-nil, length-append, length-set}
use Rattle.spl_branch.specs.declared.buffer.Code.{Code}
use Rattle.spl_branch.specs.declared.pieces.Piece.{Piece}
use Rattle.spl_branch.specs.declared.pieces.Piece.TheVariants.{Mark}
use Rattle.spl_branch.specs.Pieces.{is_settable}
use Rattle.spl_branch.specs.Codes.{SameFrame}
use Rattle.spl_label_marks.specs.spl_code.Parts.{Part, pieces, piece, ◌⨟◌, with_fresh}
use Rattle.spl_label_marks.specs.spl_code.Appends.{Appends, behind}
use Rattle.spl_module_code.proofs.spl_body_code_proofs.spl_code_proofs.AppendLaws.{marks_behind}
use Rattle.spl_label_marks.specs.spl_body_code.Marked.{Marked}
use Rattle.spl_label_marks.specs.spl_body_code.Joined.{StandsBehind, WithMark}
use Rattle.spl_label_marks.specs.spl_body_code.Bodies.{main_left}
use Rattle.spl_module_code.proofs.spl_body_code_proofs.JoinLaws.{appended_stands, around_joined, main_stands}
use Rattle.spl_routine_code.specs.Generates.{Generates}
use Rattle.spl_routine_code.proofs.SetMarks.{settable_made, settable_more, entered, leave_settable, left}

-- the marks behind the entry
entered_marks : {entry : ℕ} {ps : List Piece} {c made d : Code} → is_settable c.marks.items (Mark entry) ≡ true → WithMark c made → Marked entry ps made d
    → d.marks.items ≡ set c.marks.items entry true ++ false ∷ []
entered_marks {entry} {ps} {c} {made} {d} free new m = m.marks ∙ ap (λ xs. set xs entry true) new.marks ∙ entered c.marks.items entry free

-- and behind the statements
stated_marks : {entry : ℕ} {ps : List Piece} {p : Part} {c made d e : Code} → is_settable c.marks.items (Mark entry) ≡ true → WithMark c made
    → Marked entry ps made d → Appends p d e
    → e.marks.items ≡ (set c.marks.items entry true ++ false ∷ []) ++ replicate (behind p d).marks true
stated_marks {entry} {ps} {p} {c} {made} {d} {e} free new m a =
    a.marks ∙ ap (λ xs. xs ++ replicate (behind p d).marks true) (entered_marks free new m)

-- a new mark
pub with_mark : {c made : Code} → made.pieces ≡ c.pieces → made.marks.items ≡ c.marks.items ++ false ∷ [] → made.wants ≡ c.wants → SameFrame c made → WithMark c made
with_mark p m w s = record { pieces = p; marks = m; wants = w; same = s }

-- the entry's mark may be set when that of the way out has been made
pub free_to_enter : (entry : ℕ) {c made : Code} → is_settable c.marks.items (Mark entry) ≡ true → WithMark c made → is_settable made.marks.items (Mark entry) ≡ true
free_to_enter entry {c} {made} free new =
    ap (λ xs. is_settable xs (Mark entry)) new.marks ∙ settable_more c.marks.items (false ∷ []) entry free

-- that of the way out was made before the statements
pub made_to_leave : {entry leave : ℕ} {ps : List Piece} {c made d : Code} → is_settable c.marks.items (Mark entry) ≡ true → leave ≡ length c.marks.items
    → WithMark c made → Marked entry ps made d → leave < length d.marks.items
made_to_leave {entry} {leave} {ps} {c} {made} {d} free named new m =
    let is = ap length (entered_marks free new m) in
    let parts = length-append (set c.marks.items entry true) (false ∷ []) in
    let count = length-set c.marks.items entry true in
    omega (arith, is, parts, count, named)

-- and may be set behind them
pub free_to_leave : {entry leave : ℕ} {ps : List Piece} {p : Part} {c made d e : Code} → is_settable c.marks.items (Mark entry) ≡ true
    → leave ≡ length c.marks.items → WithMark c made → Marked entry ps made d → Appends p d e → is_settable e.marks.items (Mark leave) ≡ true
free_to_leave {entry} {leave} {ps} {p} {c} {made} {d} {e} free named new m a =
    ap (λ l. is_settable e.marks.items (Mark l)) named ∙ ap (λ xs. is_settable xs (Mark (length c.marks.items))) (stated_marks free new m a) ∙ leave_settable c.marks.items entry (behind p d).marks

-- the marks of the whole body, where it stands behind: its own are as many as those of its labels and one more
pub body_marks : {entry : ℕ} {ps qs : List Piece} {p part : Part} {c made d e f : Code} → is_settable c.marks.items (Mark entry) ≡ true → WithMark c made
    → Marked entry ps made d → Appends p d e → Marked (length c.marks.items) qs e f → StandsBehind part c f
    → f.marks.items ≡ set c.marks.items entry true ++ replicate (behind part c).marks true
body_marks {entry} {ps} {qs} {p} {part} {c} {made} {d} {e} {f} free new m a out whole =
    let k : ℕ = (behind p d).marks in
    let is : f.marks.items ≡ set c.marks.items entry true ++ replicate (suc k) true =
    out.marks ∙ ap (λ xs. set xs (length c.marks.items) true) (stated_marks free new m a) ∙ left c.marks.items entry k in
    let count : (behind part c).marks ≡ suc k =
    let one = length-set e.marks.items (length c.marks.items) true in
    let two = ap length out.marks in
    let three = marks_behind a in
    let four = ap length (entered_marks free new m) in
    let five = length-append (set c.marks.items entry true) (false ∷ []) in
    let six = length-set c.marks.items entry true in
    let seven = whole.marks in
    omega (arith, one, two, three, four, five, six, seven) in
    is ∙ ap (λ n. set c.marks.items entry true ++ replicate n true) (sym count)

-- a part around statements, the mark of whose way out is the next
abbrev pub around_part : List Piece → List Piece → ℕ → (ℕ → Part) → Part
around_part ps qs entry ss = with_fresh (λ leave. piece (Mark entry) ⨟ pieces ps ⨟ ss leave ⨟ piece (Mark leave) ⨟ pieces qs)

-- so the body is generated
pub body_generated : (ps qs : List Piece) (entry : ℕ) (ss : ℕ → Part) (c made d e f : Code) → is_settable c.marks.items (Mark entry) ≡ true → WithMark c made
    → Marked entry ps made d → Appends (ss (length c.marks.items)) d e → Marked (length c.marks.items) qs e f → Generates entry (around_part ps qs entry ss) c f
body_generated ps qs entry ss c made d e f free new m a out =
    let whole = around_joined ps qs entry ss c made d e f new m (appended_stands (ss (length c.marks.items)) a) out in
    record {
      pieces = whole.pieces;
      marks = body_marks {p = ss (length c.marks.items)} {part = around_part ps qs entry ss} free new m a out whole;
      wants = whole.wants;
      same = whole.same;
    }

-- the same, where the mark of the way out has a name
pub body_done : (ps qs : List Piece) (entry leave : ℕ) (ss : ℕ → Part) (c made d e f : Code) → is_settable c.marks.items (Mark entry) ≡ true → leave ≡ length c.marks.items
    → WithMark c made → Marked entry ps made d → Appends (ss leave) d e → Marked leave qs e f → Generates entry (around_part ps qs entry ss) c f
body_done ps qs entry leave ss c made d e f free is new m a out =
    body_generated ps qs entry ss c made d e f free new m (subst (λ l. Appends (ss l) d e) is a) (subst (λ l. Marked l qs e f) is out)

-- ---- main bodies

-- a main body has the marks of its labels alone
main_marks : {entry : ℕ} {ps : List Piece} {p part : Part} {c d e f : Code} → Marked entry ps c d → Appends p d e → Appends main_left e f
    → StandsBehind part c f → f.marks.items ≡ set c.marks.items entry true ++ replicate (behind part c).marks true
main_marks {entry} {ps} {p} {part} {c} {d} {e} {f} m a out whole =
    let k : ℕ = (behind p d).marks in
    let is : f.marks.items ≡ set c.marks.items entry true ++ replicate k true =
    out.marks ∙ append-nil e.marks.items ∙ a.marks ∙ ap (λ xs. xs ++ replicate k true) m.marks in
    let count : (behind part c).marks ≡ k =
    let one = marks_behind out in
    let two = marks_behind a in
    let three = ap length m.marks in
    let four = length-set c.marks.items entry true in
    let five = whole.marks in
    omega (arith, one, two, three, four, five) in
    is ∙ ap (λ n. set c.marks.items entry true ++ replicate n true) (sym count)

pub main_done : (ps : List Piece) (entry : ℕ) (ss : Part) (c d e f : Code) → Marked entry ps c d → Appends ss d e → Appends main_left e f
    → Generates entry (piece (Mark entry) ⨟ pieces ps ⨟ ss ⨟ main_left) c f
main_done ps entry ss c d e f m a out =
    let whole = main_stands ps entry ss c d e f m (appended_stands ss a) out in
    record {
      pieces = whole.pieces;
      marks = main_marks {p = ss} {part = piece (Mark entry) ⨟ pieces ps ⨟ ss ⨟ main_left} m a out whole;
      wants = whole.wants;
      same = whole.same;
    }

-- its first mark was made before its statements
pub made_in_main : {entry : ℕ} {ps : List Piece} {c d : Code} → is_settable c.marks.items (Mark entry) ≡ true → Marked entry ps c d → entry < length d.marks.items
made_in_main {entry} {ps} {c} {d} free m =
    let lt = settable_made c.marks.items entry free in
    let is = ap length m.marks in
    let count = length-set c.marks.items entry true in
    omega (arith, lt, is, count)
