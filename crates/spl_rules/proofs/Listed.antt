-- Rules that parts break are those of the list of all faults.
use Rattle.std.proofs.Common.{ℕ, ◌≡◌, false, List, [], ◌∷◌, Some, inl, inr, refl, sym, subst}
use Rattle.std.specs.Prelude.{◌↔◌}
use Rattle.spl_meaning.specs.spl_tree.declared.names_and_places.At.{At}
use Rattle.spl_meaning.specs.Tables.{Source}
use Rattle.spl_meaning.specs.Faults.{Fault, fault, is_before, IsAmong}
use Rattle.spl_meaning.specs.Sound as list
use Rattle.spl_meaning.specs.Sound.{IsSound, first_broken}
use Rattle.spl_meaning.specs.Laws.{FirstRulesAreBroken}
use Rattle.spl_rules.specs.Parts.{Part}
use Rattle.spl_rules.specs.DeclarationParts.{all_parts}
use Rattle.spl_rules.specs.Breaking.{BreaksHere}
use Rattle.spl_rules.specs.Laws.{Breaks, IsPart}
use Rattle.spl_rules.proofs.Here.{here, gather, in_left, in_right, in_both}
use Rattle.spl_rules.proofs.Cases.{here_broken, broken_here}
use Rattle.spl_rules.proofs.Gathered.{all_gathered}

-- a rule that some part breaks
record Found (f : Fault) (ps : List Part) : Type 0 where
  pub part : Part
  pub stands : IsPart part ps
  pub broken : BreaksHere f.rule part f.at

found : (f : Fault) (ps : List Part) → IsAmong f (gather ps) → Found f ps
found f [] m = absurd m
found f (p ∷ ps) m =
    in_both f (here p) (gather ps) (λ h. record { part = p; stands = inl refl; broken = here_broken p f h })
    (λ k. let i = found f ps k in record { part = i.part; stands = inr i.stands; broken = i.broken }) m

kept : (r : ℕ) (at : At) (p : Part) (ps : List Part) → IsPart p ps → BreaksHere r p at → IsAmong (fault r at) (gather ps)
kept r at p [] m b = absurd m
kept r at p (q ∷ ps) (inl e) b = in_left (fault r at) (here q) (gather ps) (broken_here r q at (subst (λ s. BreaksHere r s at) e b))
kept r at p (q ∷ ps) (inr m) b = in_right (fault r at) (here q) (gather ps) (kept r at p ps m b)

pub listed : (rule : ℕ) (us : List Source) (at : At) → Breaks rule us at ↔ list.Breaks rule us at
listed rule us at = (
  (λ b. subst (λ fs. IsAmong (fault rule at) fs) (sym (all_gathered us)) (kept rule at b.part (all_parts us) b.stands b.broken)),
  (λ m. let i = found (fault rule at) (all_parts us) (subst (λ fs. IsAmong (fault rule at) fs) (all_gathered us) m) in
      record { part = i.part; stands = i.stands; broken = i.broken }),
)

-- the first of the list is the first of what parts break
pub first_are_first : FirstRulesAreBroken → (us : List Source) (f : Fault) → first_broken us ≡ Some f
    → Breaks f.rule us f.at × ((rule : ℕ) (at : At) → Breaks rule us at → is_before (fault rule at) f ≡ false)
first_are_first law us f e =
    let i = law us f e in ((listed f.rule us f.at).1 i.0, λ rule at b. i.1 rule at ((listed rule us at).0 b))

pub sound_keep_all : (us : List Source) → IsSound us ↔ ((rule : ℕ) (at : At) → Breaks rule us at → ⊥)
sound_keep_all us =
    ((λ s rule at b. s rule at ((listed rule us at).0 b)), (λ h rule at m. h rule at ((listed rule us at).1 m)))
