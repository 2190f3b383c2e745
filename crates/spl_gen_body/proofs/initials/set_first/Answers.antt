-- The first constant is the one that is stored.
use Rattle.std.proofs.Common.{rules, ◌≡◌, [], ◌∷◌, List, ap, subst, ◌∙◌, to_z, of_z, arith, w64}
use Rattle.std.proofs.lemmas.Int.{ints}
use Rattle.std.specs.Prelude.{ℤ}
use mir.Val.{SFits}
use Rattle.spl_initials.specs.spl_places.Spots.{spot_of}
use Rattle.spl_sorts.specs.Tables.{names_of}
use Rattle.spl_branch.specs.declared.pieces.Piece.{Piece}
use Rattle.spl_body_code.specs.spl_code.Parts.{pieces}
use Rattle.spl_body_code.specs.spl_code.Appends.{Appends}
use Rattle.spl_operations.proofs.PutLemmas.{ok_then}
use Rattle.spl_body_code.specs.Cells.{first_set}
use Rattle.spl_gen_body.proofs.InitialLemmas.{first_is}
use Rattle.spl_gen_body.proofs.initials.set_first.Goals as goal

pub returns-in-len1-up : goal.returns-in-len1-up
returns-in-len1-up c =
    let from = spot_of c.args.place in
    let k = c.args.kind in
    let fits : SFits w64 c.constant_or_zero.result = search rules in
    let same : to_z w64 (of_z w64 c.constant_or_zero.result) ≡ c.constant_or_zero.result = omega (arith, ints) in
    let is = ap (λ (v : ℤ). first_set from k (v ∷ [])) (same ∙ c.constant_or_zero.ensures)
    ∙ first_is from k (names_of c.args.names.now) c.args.values.now c.first-item.result c.in-len1-up.len_at_least c.first-item.is in
    ok_then c.set_value.result (λ a. subst (λ (ps : List Piece). Appends (pieces ps) c.args.code.now c.set_value.new.code) is a) c.set_value.ensures
