-- No chain over a unit's tokens has more open than may be, so few parts wait at any point of it.
use Rattle.std.proofs.Common.{◌+◌, arith}
use Rattle.std.proofs.Math.Logic.{∥∥₁_elim}
use Rattle.std.proofs.Math.Bridge.{le_prop}
use Rattle.spl_sound.specs.spl_grammar.Verdicts.{spelled}
use Rattle.spl_sound.specs.Spelled.{Spelled}
use Rattle.spl_nesting.specs.HeightLaws.{FewPartsWait, FewPartsWaitInUnits}
use Rattle.spl_nesting.proofs.HighChains.{unit_high}

-- where 64 constructs, or groups of 8 operators, are open, 967 parts may wait on the way, and two more at its end
pub few_parts : FewPartsWait
few_parts ts u (spelled w calm) =
    let r = unit_high w in
    let e = r.enough in
    let few = calm r.part r.constructs r.operators r.rest r.chain (omega arith) in
    omega arith

-- whichever tokens spell the unit
pub few_parts_in_units : FewPartsWaitInUnits
few_parts_in_units us i u are e = ∥∥₁_elim (are i u e) le_prop (λ (s : Spelled (i + 1) u). few_parts _ u.tree s.spelled)
