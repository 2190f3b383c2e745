-- The code of a segment that there is, and the main body in it.
use Rattle.std.proofs.Common.{◌≡◌, ◌<◌, ℕ, ◌+◌, Bool, true, false, if◌then◌else◌, nat_eq, List, length, get_or, Some, refl, sym, ap, ◌∙◌}
use Rattle.std.specs.List.{slice_get}
use Rattle.std.proofs.lemmas.Bool.{eq-eqb}
use Rattle.std.proofs.lemmas.Option.{slice_get-get_or}
use Rattle.spl_tree.specs.DeclarationTrees as decl
use Rattle.spl_branch.specs.declared.pieces.Piece.TheVariants.{Mark}
use Rattle.spl_branch.specs.Pieces.{is_settable}
use Rattle.spl_unit_laws.proofs.spl_routine_code_proofs.OpenMarks.{first_open}
use Rattle.spl_unit_laws.specs.spl_unit_codes.declared.growing.Growing.{Growing}
use Rattle.spl_unit_laws.specs.Steps.{AreFree, main_count}
use Rattle.spl_unit_walks.proofs.Frees.{open_first}

pub found_at : (g k : ℕ) (xs : List Growing) (x : Growing) → k ≡ g → k < length xs → x ≡ get_or xs k x → slice_get xs g ≡ Some x
found_at g k xs x same lt is = ap (λ i. slice_get xs i) (sym same) ∙ slice_get-get_or xs k x lt ∙ ap Some (sym is)

-- the mark of the main body may be set behind all declarations
pub main_free : (s : Bool) (main : ℕ) (parts : List Growing) (x : Growing) → AreFree s main decl.none parts → s ≡ false → slice_get parts main ≡ Some x
    → is_settable x.code.marks.items (Mark x.done) ≡ true
main_free s main parts x free is at =
    let one : 0 + main_count s main main ≡ 1 + 0 =
    ap (λ (b : Bool). 0 + (if b then 0 else if nat_eq main main then 1 else 0)) is ∙ ap (λ (b : Bool). 0 + (if b then 1 else 0)) (eq-eqb main main refl) in
    first_open x.done 0 x.code.marks.items (open_first x.done 1 0 (0 + main_count s main main) x.code.marks.items (free main x at) one)
