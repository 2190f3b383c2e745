-- The code of a unit in a segment that is on its way to that of its module: what it has, and the part that is left, make the whole.
use Rattle.std.proofs.Common.{◌≡◌, ℕ, ◌+◌, Bool, true, false, if◌then◌else◌, nat_eq, List, [], ◌∷◌, ◌++◌, map, length, sym, ap, subst, ◌∙◌, append_assoc, arith}
use Rattle.std.specs.List.{slice_get}
use Rattle.std.specs.Prelude.{Some}
use Rattle.spl_sound_labels.specs.spl_tree.Views.{letters}
use Rattle.spl_sound_labels.specs.spl_tree.DeclarationTrees as decl
use Rattle.spl_sound_labels.specs.spl_tree.DeclarationTrees.{Declaration, Declarations, declarations}
use Rattle.spl_routine_code.specs.spl_branch.declared.buffer.Code.{Code}
use Rattle.spl_routine_code.specs.spl_branch.Codes.{SameFrame}
use Rattle.spl_routine_code.specs.spl_code.Parts.{Part, Written, nothing, ◌⨟◌}
use Rattle.spl_routine_code.specs.spl_code.Appends.{behind}
use Rattle.spl_routine_code.specs.spl_scopes.Entries.{Entry, main, module_entries, in_segment, declared_entries, entries_among, routines_behind}
use Rattle.spl_routine_code.specs.spl_scopes.Scopes.{Placed, outer_body}
use Rattle.spl_unit_codes.specs.spl_modules.Made.{made_of, made_from}
use Rattle.spl_unit_codes.specs.spl_module_code.Modules.{declared_part, declared_parts, entries_behind, inner_behind, holds_main, main_at, module_part, module_written, marks_before, main_mark}
use Rattle.spl_routine_code.specs.Generates.{GeneratesFrom}
use Rattle.spl_routine_code.proofs.OpenMarks.{next_written}
use Rattle.spl_unit_codes.specs.declared.growing.Growing.{Growing}
use Rattle.spl_unit_laws.proofs.Sequences.{nothing_first, assoc}

-- the main body, where it stands in the segment
abbrev pub main_or_nothing : Placed → ℕ → Part
main_or_nothing p g = if holds_main p g then main_at (module_entries p.unit g) (outer_body p main) else nothing

-- what is left of a module before these declarations
abbrev pub left_part : Placed → ℕ → ℕ → ℕ → ℕ → Declarations → Part
left_part p g n j entry decl.none = main_or_nothing p g
left_part p g n j entry (decl.and d ds) = declared_part p g n j entry d ⨟ left_part p g (routines_behind n d) (inner_behind j d) (entries_behind p g n entry d) ds

all_left : (p : Placed) (g n j entry : ℕ) (ds : Declarations) → declared_parts p g n j entry ds ⨟ main_or_nothing p g ≡ left_part p g n j entry ds
all_left p g n j entry decl.none = nothing_first (main_or_nothing p g)
all_left p g n j entry (decl.and d ds) =
    assoc (declared_part p g n j entry d) (declared_parts p g (routines_behind n d) (inner_behind j d) (entries_behind p g n entry d) ds) (main_or_nothing p g)
    ∙ ap (λ (q : Part). declared_part p g n j entry d ⨟ q) (all_left p g (routines_behind n d) (inner_behind j d) (entries_behind p g n entry d) ds)

-- at first all of a module is left
pub module_left : (p : Placed) (g : ℕ) → module_part p g ≡ left_part p g 0 0 0 (declarations p.unit.tree.items)
module_left p g = all_left p g 0 0 0 (declarations p.unit.tree.items)

-- name, entries and main body of the code of a segment
pub record IsFrame (p : Placed) (g : ℕ) (c : Code) : Type 0 where
  pub name : List ℕ
  pub named : slice_get p.unit.segments g ≡ Some name
  pub segment : letters c.segment ≡ name
  pub entries : map made_of c.entries.items ≡ made_from 0 (module_entries p.unit g)
  pub main_is : c.main ≡ main_mark p g

pub frame_kept : (p : Placed) (g : ℕ) (c d : Code) → IsFrame p g c → SameFrame c d → IsFrame p g d
frame_kept p g c d f s = record {
  name = f.name;
  named = f.named;
  segment = ap letters s.segment ∙ f.segment;
  entries = ap (λ v. map made_of v.items) s.entries ∙ f.entries;
  main_is = s.main ∙ f.main_is;
}

-- a code and a part that is left make a module's
pub record Makes (p : Placed) (g : ℕ) (part : Part) (c : Code) : Type 0 where
  pub pieces : c.pieces.items ++ (behind part c).pieces ≡ (module_written p g).pieces
  pub marks : length c.marks.items + (behind part c).marks ≡ marks_before p g + (module_written p g).marks
  pub wants : (behind part c).wants ≡ (module_written p g).wants

-- so many entries of the segment have their code, and these declarations are left
pub record Reaches (p : Placed) (g n j : ℕ) (ds : Declarations) (x : Growing) : Type 0 where
  pub makes : Makes p g (left_part p g n j x.done ds) x.code
  pub entries : x.done + length (in_segment g (entries_among p.unit.tree.segment n ds)) ≡ length (module_entries p.unit g)
  pub frame : IsFrame p g x.code

-- behind a part that was appended the next is left
pub makes_next : (p : Placed) (g : ℕ) (first count : ℕ) (a b : Part) (c d : Code) → Makes p g (a ⨟ b) c → GeneratesFrom first count a c d → Makes p g b d
makes_next p g first count a b c d m made =
    let here : Written = behind a c in
    let is : behind b d ≡ b (length c.marks.items + here.marks) here.wants = next_written first count a b c d made in
    let next : Written = b (length c.marks.items + here.marks) here.wants in
    record {
      pieces = ap (λ xs. xs ++ (behind b d).pieces) made.pieces ∙ ap (λ (w : Written). (c.pieces.items ++ here.pieces) ++ w.pieces) is
          ∙ append_assoc c.pieces.items here.pieces next.pieces ∙ m.pieces;
      marks =
          let one = made.number in
          let two = ap (λ (w : Written). w.marks) is in
          let three = m.marks in
          omega (arith, one, two, three);
      wants = ap (λ (w : Written). w.wants) is ∙ m.wants;
    }

-- in the segment of a declaration, how many entries more there are
pub in_both : (g : ℕ) (xs ys : List Entry) → length (in_segment g (xs ++ ys)) ≡ length (in_segment g xs) + length (in_segment g ys)
in_both g [] ys = none_first (length (in_segment g ys))
  where
    none_first : (n : ℕ) → n ≡ 0 + n
    none_first n = omega arith
in_both g (e ∷ xs) ys = by (nat_eq e.segment g) (in_both g xs ys)
  where
    by : (b : Bool) → length (in_segment g (xs ++ ys)) ≡ length (in_segment g xs) + length (in_segment g ys)
        → length (if b then e ∷ in_segment g (xs ++ ys) else in_segment g (xs ++ ys)) ≡ length (if b then e ∷ in_segment g xs else in_segment g xs) + length (in_segment g ys)
    by true x = omega (arith, x)
    by false x = x

-- a declaration was appended
pub reaches_next : (p : Placed) (g n j count : ℕ) (d : Declaration) (ds : Declarations) (x y : Growing) → Reaches p g n j (decl.and d ds) x
    → GeneratesFrom x.done count (declared_part p g n j x.done d) x.code y.code → y.done ≡ x.done + count
    → count ≡ length (in_segment g (declared_entries p.unit.tree.segment n d)) → Reaches p g (routines_behind n d) (inner_behind j d) ds y
reaches_next p g n j count d ds x y reach made done is =
    let seg = p.unit.tree.segment in
    let at : y.done ≡ entries_behind p g n x.done d = done ∙ ap (λ k. x.done + k) is in
    let rest = left_part p g (routines_behind n d) (inner_behind j d) (entries_behind p g n x.done d) ds in
    record {
      makes = subst (λ k. Makes p g (left_part p g (routines_behind n d) (inner_behind j d) k ds) y.code) (sym at)
          (makes_next p g x.done count (declared_part p g n j x.done d) rest x.code y.code reach.makes made);
      entries =
          let one = in_both g (declared_entries seg n d) (entries_among seg (routines_behind n d) ds) in
          let two = reach.entries in
          omega (arith, one, two, done, is);
      frame = frame_kept p g x.code y.code reach.frame made.same;
    }
