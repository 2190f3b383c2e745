-- Parts one behind the other: what is appended in two steps is appended in one.
use Rattle.std.proofs.Common.{◌≡◌, ◌++◌, ◌∷◌, ℕ, ◌+◌, ◌<◌, List, true, length, replicate, refl, sym, ◌∙◌, ap, arith}
use Rattle.std.proofs.lemmas.List.{append_assoc, append-nil, length-append, length-replicate, replicate-append-replicate}
use Rattle.spl_branch.specs.declared.buffer.Code.{Code}
use Rattle.spl_branch.specs.declared.pieces.Piece.{Piece}
use Rattle.spl_branch.specs.Codes.{SameFrame}
use Rattle.spl_code.specs.Parts.{Part, Written, wants_of, pieces, piece, nothing, ◌⨟◌}
use Rattle.spl_code.specs.Appends.{Appends, behind}

-- frames stay the same over two steps
pub same_then : {c d e : Code} → SameFrame c d → SameFrame d e → SameFrame c e
same_then s t = record { segment = t.segment ∙ s.segment; entries = t.entries ∙ s.entries; main = t.main ∙ s.main }

pub same_none : (c : Code) → SameFrame c c
same_none c = record { segment = refl; entries = refl; main = refl }

-- how many marks there are behind a part
pub marks_behind : {p : Part} {c d : Code} → Appends p c d → length d.marks.items ≡ length c.marks.items + (behind p c).marks
marks_behind {p} {c} {d} a =
    ap length a.marks ∙ length-append c.marks.items (replicate (behind p c).marks true)
    ∙ ap (λ n. length c.marks.items + n) (length-replicate (behind p c).marks true)

-- what stands behind a part is written from its marks and wants
pub written_next : {p : Part} {c d : Code} (q : Part) → Appends p c d → behind q d ≡ q (length c.marks.items + (behind p c).marks) (behind p c).wants
written_next {p} {c} {d} q a = ap (λ l. q l (wants_of d.wants.items)) (marks_behind a) ∙ ap (q (length c.marks.items + (behind p c).marks)) a.wants

-- one part, and then another
pub then_appends : {p q : Part} {c d e : Code} → Appends p c d → Appends q d e → Appends (p ⨟ q) c e
then_appends {p} {q} {c} {d} {e} a b =
    let next : Written = q (length c.marks.items + (behind p c).marks) (behind p c).wants in
    let is : behind q d ≡ next = written_next q a in
    record {
      pieces = b.pieces ∙ ap (λ w. d.pieces.items ++ w.pieces) is ∙ ap (λ ps. ps ++ next.pieces) a.pieces
          ∙ append_assoc c.pieces.items (behind p c).pieces next.pieces;
      marks = b.marks ∙ ap (λ w. d.marks.items ++ replicate w.marks true) is ∙ ap (λ ms. ms ++ replicate next.marks true) a.marks
          ∙ append_assoc c.marks.items (replicate (behind p c).marks true) (replicate next.marks true)
          ∙ ap (λ ms. c.marks.items ++ ms) (replicate-append-replicate (behind p c).marks next.marks true);
      wants = b.wants ∙ ap (λ w. w.wants) is;
      same = same_then a.same b.same;
    }

-- nothing is appended where nothing has changed
pub none_appends : {c d : Code} → d ≡ c → Appends nothing c d
none_appends {c} {d} is = record {
  pieces = ap (λ x. x.pieces.items) is ∙ sym (append-nil c.pieces.items);
  marks = ap (λ x. x.marks.items) is ∙ sym (append-nil c.marks.items);
  wants = ap (λ x. wants_of x.wants.items) is;
  same = record { segment = ap (λ x. x.segment) is; entries = ap (λ x. x.entries) is; main = ap (λ x. x.main) is };
}

-- a mark that was made before a part was made before what follows
pub still_made : {p : Part} {c d : Code} (l : ℕ) → Appends p c d → l < length c.marks.items → l < length d.marks.items
still_made {p} {c} {d} l a lt = let is = marks_behind a in omega arith

-- pieces, and one more in front
pub more_pieces : {x : Piece} {xs : List Piece} {c d e : Code} → Appends (piece x) c d → Appends (pieces xs) d e → Appends (pieces (x ∷ xs)) c e
more_pieces {x} {xs} a b = then_appends {p = piece x} {q = pieces xs} a b
