-- The value, and its store behind it.
use Rattle.std.proofs.Common.{rules, ◌≡◌, [], ◌∷◌, false, subst, to_z, of_z, arith, w64}
use Rattle.std.proofs.lemmas.Int.{ints}
use Rattle.std.specs.Prelude.{ℤ}
use mir.Val.{SFits}
use Rattle.spl_initials.specs.spl_places.Spots.{spot_of}
use Rattle.spl_body_code.specs.spl_code.Parts.{pieces}
use Rattle.spl_body_code.specs.spl_code.Appends.{Appends}
use Rattle.spl_body_code.specs.spl_code.Operands.{mode_of}
use Rattle.spl_body_code.specs.spl_code.Stores.{store}
use Rattle.spl_operations.proofs.PutLemmas.{pieces_then, ok_then}
use Rattle.spl_body_code.specs.Cells.{value_pushed}
use Rattle.spl_gen_body.proofs.initials.set_value.Goals as goal

pub returns : goal.returns
returns c =
    let fits : SFits w64 c.args.value = search rules in
    let same : to_z w64 (of_z w64 c.args.value) ≡ c.args.value = omega (arith, ints) in
    let pushed = subst (λ (v : ℤ). Appends (pieces (value_pushed c.args.kind v)) c.args.code.now c.push_value.new.code) same c.in_ok-push_value.ensures in
    ok_then c.store.result
    (λ a. pieces_then {xs = value_pushed c.args.kind c.args.value} {ys = store c.args.kind false false (mode_of 0 (spot_of c.args.place)) ∷ []} pushed a)
    c.store.ensures
