-- New marks for labels, all of which the statements behind them set, are a part's own.
use Rattle.std.proofs.Common.{◌≡◌, ℕ, zero, suc, ◌+◌, ◌*◌, ◌<◌, ◌≤◌, not, Bool, true, false, List, [], ◌∷◌, ◌++◌, length, replicate, slice_set, Option, Some, refl, sym, ap, subst, ◌∙◌, arith}
use Rattle.std.specs.Prelude.{if◌then◌else◌}
use Rattle.std.proofs.Math.Seq.{set-append_seam, get_or-append_seam}
use Rattle.std.proofs.lemmas.Bool.{and_from, lt-ltb}
use Rattle.std.proofs.lemmas.List.{append_assoc, length-append, length-replicate, replicate-append-replicate}
use Rattle.spl_tree.specs.StatementTrees.{Statements}
use Rattle.spl_sorts.specs.spl_meaning.Names.{Table, find, same_name}
use Rattle.spl_sorts.specs.spl_meaning.Bound.{statements_weight}
use Rattle.spl_sorts.specs.spl_meaning.StatementRules.{label_faults}
use Rattle.spl_branch.specs.declared.buffer.Code.{Code}
use Rattle.spl_branch.specs.declared.pieces.Piece.TheVariants.{Mark}
use Rattle.spl_branch.specs.Pieces.{is_settable, count_of}
use Rattle.spl_branch.specs.Codes.{SameFrame}
use Rattle.spl_label_marks.specs.spl_code.Parts.{Part, Written, Wanted, wants_of}
use Rattle.spl_label_marks.specs.spl_code.Appends.{Appends, behind}
use Rattle.spl_label_marks.specs.spl_code.Calls.{Scope}
use Rattle.spl_module_code.proofs.spl_body_code_proofs.spl_code_proofs.AppendLaws.{same_then}
use Rattle.spl_label_marks.specs.spl_statement_code.Landings.{Landing, Context, IsMade}
use Rattle.spl_label_marks.specs.spl_statement_code.Statements.{listed}
use Rattle.spl_label_marks.specs.spl_statement_code.Labels.{AppendsSetting, CanBeSet, all_set, marks_within}
use Rattle.spl_label_marks.specs.spl_statement_code.FewWords.{nested_among}
use Rattle.spl_label_marks.specs.spl_module_code.LabelsOfBodies.{Label, labels_among, landed_from}
use Rattle.spl_routine_code.specs.Bodies.{context_with, statements_part}
use Rattle.spl_label_marks.specs.Laws.{with_more}
use Rattle.spl_label_marks.proofs.LabelNames.{from_on, marks_are}
use Rattle.spl_label_marks.proofs.LabelParts.{landed_part}

-- ---- new marks can be set, and then all are

settable_seam : (xs ys : List Bool) → is_settable (xs ++ false ∷ ys) (Mark (length xs)) ≡ true
settable_seam xs ys =
    let all = length-append xs (false ∷ ys) in
    and_from _ _ (lt-ltb (length xs) (length (xs ++ false ∷ ys)) (omega arith)) (ap not (get_or-append_seam xs false ys false))

-- the first of them is set
first_set : (xs ys : List Bool) → slice_set (xs ++ false ∷ ys) (length xs) true ≡ (xs ++ true ∷ []) ++ ys
first_set xs ys = set-append_seam xs false ys true ∙ sym (append_assoc xs (true ∷ []) ys)

one_longer : (xs : List Bool) (b : Bool) → length (xs ++ b ∷ []) ≡ suc (length xs)
one_longer [] b = refl
one_longer (x ∷ xs) b = ap suc (one_longer xs b)

can_be_set : (xs : List Bool) (n : ℕ) → CanBeSet (xs ++ replicate n false) (from_on (length xs) n)
can_be_set xs zero = tt
can_be_set xs (suc n) = (
  settable_seam xs (replicate n false),
  subst (λ ys. CanBeSet ys (from_on (suc (length xs)) n)) (sym (first_set xs (replicate n false)))
      (subst (λ m. CanBeSet ((xs ++ true ∷ []) ++ replicate n false) (from_on m n)) (one_longer xs true) (can_be_set (xs ++ true ∷ []) n)),
)

all_are_set : (xs : List Bool) (n : ℕ) → all_set (xs ++ replicate n false) (from_on (length xs) n) ≡ xs ++ replicate n true
all_are_set xs zero = refl
all_are_set xs (suc n) =
    ap (λ ys. all_set ys (from_on (suc (length xs)) n)) (first_set xs (replicate n false))
    ∙ ap (λ m. all_set ((xs ++ true ∷ []) ++ replicate n false) (from_on m n)) (sym (one_longer xs true))
    ∙ all_are_set (xs ++ true ∷ []) n ∙ append_assoc xs (true ∷ []) (replicate n true)

-- ---- before the statements

more_marks : (xs ys : List Bool) (n : ℕ) → ys ≡ xs ++ replicate n false → length ys ≡ length xs + n
more_marks xs ys n is = ap length is ∙ length-append xs (replicate n false) ∙ ap (λ m. length xs + m) (length-replicate n false)

found_below : (b : Bool) (mark n : ℕ) (l v : Landing) (o : Option Landing) → (if b then Some l else o) ≡ Some v → l.mark < n → (o ≡ Some v → v.mark < n) → v.mark < n
found_below true mark n l v o e here rest = let same : l ≡ v = cc e in subst (λ (w : Landing). w.mark < n) same here
found_below false mark n l v o e here rest = rest e

leads_below : (mark : ℕ) (xs : List Label) (x : List ℕ) (v : Landing) → find (landed_from mark xs) x ≡ Some v → v.mark < mark + length xs
leads_below mark [] x v e = cc e
leads_below mark (y ∷ ys) x v e =
    found_below (same_name x y.name) mark (mark + suc (length ys)) (record { mark = mark; pending = y.pending }) v (find (landed_from (suc mark) ys) x) e (omega arith)
    (λ f. let h = leads_below (suc mark) ys x v f in omega arith)

-- all marks were made
pub marks_made : (ctx : Context) (from now : List Bool) (ls : List Label) → ctx.landings ≡ find (landed_from (length from) ls) → ctx.leave < length from
    → now ≡ from ++ replicate (length ls) false → IsMade ctx (length now)
marks_made ctx from now ls is out marks =
    let more = more_marks from now (length ls) marks in
    record {
      leave = omega arith;
      landings = λ x l e.
          let h = leads_below (length from) ls x l (ap (λ (f : List ℕ → Option Landing). f x) (sym is) ∙ e) in
          omega arith;
    }

-- those of the labels can be set
pub marks_free : (ctx : Context) (from now : List Bool) (ss : Statements) → ctx.landings ≡ find (landed_from (length from) (labels_among ss 0))
    → label_faults ss ≡ [] → now ≡ from ++ replicate (length (labels_among ss 0)) false → CanBeSet now (marks_within ctx ss)
marks_free ctx from now ss is once marks =
    subst (λ ms. CanBeSet now ms) (sym (marks_are ctx (length from) ss 0 is once))
    (subst (λ (ys : List Bool). CanBeSet ys (from_on (length from) (length (labels_among ss 0)))) (sym marks) (can_be_set from (length (labels_among ss 0))))

-- ---- behind the statements

abbrev at_leave : Scope → ℕ → (List ℕ → Option Landing) → Context
at_leave scope leave h = record { scope = scope; landings = h; leave = leave }

pub body_done : (scope : Scope) (has : List ℕ → Option Landing) (leave : ℕ) (ss : Statements) (c d e : Code)
    → has ≡ find (landed_from (length c.marks.items) (labels_among ss 0)) → label_faults ss ≡ []
    → d.marks.items ≡ c.marks.items ++ replicate (length (labels_among ss 0)) false → d.pieces ≡ c.pieces → d.wants ≡ c.wants → SameFrame c d
    → AppendsSetting (marks_within (at_leave scope leave has) ss) (listed (at_leave scope leave has) ss 0) d e
    → Appends (statements_part scope ss leave) c e
body_done scope has leave ss c d e is once marks pieces wants same a =
    let ls : List Label = labels_among ss 0 in
    let l : ℕ = length c.marks.items in
    let n : ℕ = length ls in
    let part : Table Landing → Part = λ t. listed (context_with scope t leave) ss 0 in
    let w : Written = part (landed_from l ls) (l + n) (wants_of c.wants.items) in
    let written : behind (listed (at_leave scope leave has) ss 0) d ≡ w =
    ap (λ h. listed (at_leave scope leave h) ss 0 (length d.marks.items) (wants_of d.wants.items)) is
    ∙ ap (λ m. part (landed_from l ls) m (wants_of d.wants.items)) (more_marks c.marks.items d.marks.items n marks)
    ∙ ap (λ v. part (landed_from l ls) (l + n) (wants_of v.items)) wants in
    let all : behind (statements_part scope ss leave) c ≡ with_more n w = landed_part ls part l (wants_of c.wants.items) in
    record {
      pieces = a.pieces ∙ ap (λ (v : Written). d.pieces.items ++ v.pieces) written ∙ ap (λ v. v.items ++ w.pieces) pieces
          ∙ ap (λ (v : Written). c.pieces.items ++ v.pieces) (sym all);
      marks = a.marks ∙ ap (λ (v : Written). all_set d.marks.items (marks_within (at_leave scope leave has) ss) ++ replicate v.marks true) written
          ∙ ap (λ ms. all_set d.marks.items ms ++ replicate w.marks true) (marks_are (at_leave scope leave has) l ss 0 is once)
          ∙ ap (λ ms. all_set ms (from_on l n) ++ replicate w.marks true) marks
          ∙ ap (λ ms. ms ++ replicate w.marks true) (all_are_set c.marks.items n)
          ∙ append_assoc c.marks.items (replicate n true) (replicate w.marks true)
          ∙ ap (λ ms. c.marks.items ++ ms) (replicate-append-replicate n w.marks true)
          ∙ ap (λ (v : Written). c.marks.items ++ replicate v.marks true) (sym all);
      wants = a.wants ∙ ap (λ (v : Written). v.wants) written ∙ ap (λ (v : Written). v.wants) (sym all);
      same = same_then same a.same;
    }

-- the new marks have no words
pub words_more : (ss : Statements) (c d e : Code) → d.pieces ≡ c.pieces
    → (0 + 3 * nested_among ss ≤ 255 → count_of e.pieces.items ≤ count_of d.pieces.items + statements_weight ss)
    → 3 * nested_among ss ≤ 255 → count_of e.pieces.items ≤ count_of c.pieces.items + statements_weight ss
words_more ss c d e same few le =
    let before = ap (λ v. count_of v.items) same in
    let h = few (omega arith) in
    omega arith
