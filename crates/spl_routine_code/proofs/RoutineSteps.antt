-- A procedure behind its subroutines.
use Rattle.std.proofs.Common.{◌≡◌, ℕ, ◌+◌, List, ap, subst, sym, ◌∙◌, ◌++◌, ◌∷◌, [], true, false, Bool, replicate}
use Rattle.std.proofs.lemmas.List.{length-append}
use Rattle.spl_tree.specs.DeclarationTrees.{Heading, Declarations}
use Rattle.spl_tree.specs.StatementTrees.{Statement}
use Rattle.spl_sorts.specs.spl_meaning.Names.{Names}
use Rattle.spl_rooms.specs.declared.room_type.Room.{Room}
use Rattle.spl_branch.specs.declared.buffer.Code.{Code}
use Rattle.spl_branch.specs.declared.pieces.Piece.TheVariants.{Mark}
use Rattle.spl_branch.specs.Pieces.{is_settable}
use Rattle.spl_routine_code.specs.Generates.{AreOpen}
use Rattle.spl_routine_code.specs.Routines.{Around, inners_among, room_at, InnersStand, ProcedureStands, RoutineStands}
use Rattle.spl_routine_code.proofs.OpenMarks.{one_more, behind_first, still_open}
use Rattle.spl_routine_code.proofs.InnerWalks.{SomePart, list_part}

-- the entries behind the first may be set
pub others_open : (entry count n : ℕ) (marks : List Bool) → AreOpen entry (1 + count) marks → n ≡ entry + 1 → AreOpen n count marks
others_open entry count n marks o is = record {
  before = o.before ++ (false ∷ []);
  behind = o.behind;
  first_is = length-append o.before (false ∷ []) ∙ ap (λ k. k + 1) o.first_is ∙ sym is;
  is = o.is ∙ ap (λ k. o.before ++ (replicate k false ++ o.behind)) (one_more count) ∙ behind_first o.before count o.behind;
}

-- and the first behind them
pub first_free : (a : Around) (rooms : List Room) (ds : Declarations) (k n entry : ℕ) (c d : Code) → InnersStand a rooms ds k n c d → n ≡ entry + 1
    → AreOpen entry (1 + inners_among ds) c.marks.items → is_settable d.marks.items (Mark entry) ≡ true
first_free a rooms ds k n entry c d stand is free =
    let p : SomePart (entry + 1) (inners_among ds) c d = subst (λ i. SomePart i (inners_among ds) c d) is (list_part a rooms ds k n c d stand) in
    still_open entry (inners_among ds) p.part c d p.made free

pub routine_stands : (a b : Around) (rooms : List Room) (k : ℕ) (outer : Names) (own arrays : ℕ) (h : Heading) (ds items : Declarations) (room : Room)
    (ss : List Statement) (entry k1 e1 : ℕ) (c m d : Code) → a ≡ b → ds ≡ items → k1 ≡ k + 1 → e1 ≡ entry + 1 → room ≡ room_at rooms k
    → InnersStand a rooms ds k1 e1 c m → ProcedureStands a outer own arrays h items room ss entry m d
    → RoutineStands b rooms k outer own arrays h items ss entry c d
routine_stands a b rooms k outer own arrays h ds items room ss entry k1 e1 c m d same listed at by has inners stands = record {
  middle = m;
  inners = subst (λ x. InnersStand x rooms items (k + 1) (entry + 1) c m) same
      (subst (λ xs. InnersStand a rooms xs (k + 1) (entry + 1) c m) listed
      (subst (λ i. InnersStand a rooms ds i (entry + 1) c m) at (subst (λ i. InnersStand a rooms ds k1 i c m) by inners)));
  stands = subst (λ x. ProcedureStands x outer own arrays h items (room_at rooms k) ss entry m d) same
      (subst (λ r. ProcedureStands a outer own arrays h items r ss entry m d) has stands);
}
