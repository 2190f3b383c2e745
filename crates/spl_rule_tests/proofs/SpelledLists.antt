-- Lists of one and of two units that tokens spell.
use Rattle.std.proofs.Common.{ℕ, ◌≡◌, zero, suc, List, [], ◌∷◌, map, Option, Some, None, Result, Ok, Err, sym, ap, subst}
use Rattle.std.specs.Prelude.{IfOk}
use Rattle.spl_tree.specs.declared.units.SplUnit.{SplUnit}
use Rattle.spl_front.proofs.spl_cuts_proofs.WholeLemmas.{cut_whole}
use Rattle.spl_types.specs.spl_meaning.Tables.{Source}
use Rattle.spl_types.specs.spl_sound.Spelled.{Spelled, AreSpelled, source_of}
use Rattle.spl_front.specs.declared.faults.UnitFault.{UnitFault}
use Rattle.spl_front.specs.Fronts as front

-- a text that spells a unit has tokens that do
pub by_tokens : (number : ℕ) (text : List ℕ) (u : SplUnit) → front.Spells number text (front.source_of u) → Spelled number (source_of u)
by_tokens number text u v = record {
  listed = v.listed;
  whole = cut_whole number 262144 text v.listed v.cut;
  subprogram = v.subprogram;
  segments = v.segments;
  spelled = v.spelled;
}

-- what stands under Some
abbrev inner : (u : Source) → Option Source → Source
inner u None = u
inner u (Some v) = v

same : (u v : Source) → Some u ≡ Some v → u ≡ v
same u v e = ap (inner u) e

pub one_spelled : (u : Source) → Spelled 1 u → AreSpelled (u ∷ [])
one_spelled u s zero v e = ∣ subst (Spelled 1) (same u v e) s ∣₁
one_spelled u s (suc i) v e = cc e

pub two_spelled : (u v : Source) → Spelled 1 u → Spelled 2 v → AreSpelled (u ∷ v ∷ [])
two_spelled u v s t zero w e = ∣ subst (Spelled 1) (same u w e) s ∣₁
two_spelled u v s t (suc zero) w e = ∣ subst (Spelled 2) (same v w e) t ∣₁
two_spelled u v s t (suc (suc i)) w e = cc e

-- as lists of units
pub one_list : (us : List SplUnit) (u : SplUnit) → us ≡ u ∷ [] → Spelled 1 (source_of u) → AreSpelled (map source_of us)
one_list us u e s = subst (λ (vs : List SplUnit). AreSpelled (map source_of vs)) (sym e) (one_spelled (source_of u) s)

pub two_list : (us : List SplUnit) (u v : SplUnit) → us ≡ u ∷ v ∷ [] → Spelled 1 (source_of u) → Spelled 2 (source_of v) → AreSpelled (map source_of us)
two_list us u v e s t = subst (λ (vs : List SplUnit). AreSpelled (map source_of vs)) (sym e) (two_spelled (source_of u) (source_of v) s t)

-- what was read is spelled
pub read_spelled : (number : ℕ) (text : List ℕ) (r : Result SplUnit UnitFault) → IfOk r (λ u. front.Spells number text (front.source_of u))
    → IfOk r (λ u. Spelled number (source_of u))
read_spelled number text (Ok u) v = by_tokens number text u v
read_spelled number text (Err f) v = tt

pub ruleset spelled_lists = (one_list, two_list)
