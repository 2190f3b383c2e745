-- Rules as cases, held against the list of all faults.
use Rattle.std.specs.Prelude.{ℕ, ◌≡◌, ◌⊎◌, ◌↔◌, List, [], ◌∷◌, Some, true, false}
use Rattle.spl_meaning.specs.spl_tree.declared.names_and_places.At.{At}
use Rattle.spl_meaning.specs.Tables.{Source}
use Rattle.spl_meaning.specs.Faults.{Fault, fault, is_before}
use Rattle.spl_meaning.specs.Sound as list
use Rattle.spl_meaning.specs.Sound.{IsSound, first_broken}
use Rattle.spl_meaning.specs.ExpressionRules.{Scope, is_misused}
use Rattle.spl_rules.specs.Parts as part
use Rattle.spl_rules.specs.Parts.{Part}
use Rattle.spl_rules.specs.DeclarationParts.{all_parts}
use Rattle.spl_rules.specs.Breaking.{BreaksHere}

-- a part is one of these
abbrev pub IsPart : Part → List Part → Type 0
IsPart p [] = ⊥
IsPart p (q ∷ qs) = (p ≡ q) ⊎ IsPart p qs

-- Some units break a rule at a place: a part of theirs does.
pub record Breaks (rule : ℕ) (us : List Source) (at : At) : Type 0 where
  pub part : Part
  pub stands : IsPart part (all_parts us)
  pub broken : BreaksHere rule part at

-- a rule is broken at a place exactly where it is among all faults
abbrev pub RulesAreListed : Type 0
RulesAreListed = (rule : ℕ) (us : List Source) (at : At) → Breaks rule us at ↔ list.Breaks rule us at

-- The first rule that units break is broken at its place; none is broken at an earlier place, nor a lower one there.
abbrev pub FirstRulesAreFirst : Type 0
FirstRulesAreFirst = (us : List Source) (f : Fault) → first_broken us ≡ Some f
    → Breaks f.rule us f.at × ((rule : ℕ) (at : At) → Breaks rule us at → is_before (fault rule at) f ≡ false)

-- units are sound exactly where they break no rule at any place
abbrev pub SoundUnitsKeepAll : Type 0
SoundUnitsKeepAll = (us : List Source) → IsSound us ↔ ((rule : ℕ) (at : At) → Breaks rule us at → ⊥)

-- a name is misused exactly where it breaks 1 or 3 in an expression
abbrev pub MisusedNamesBreak : Type 0
MisusedNamesBreak = (sc : Scope) (x : List ℕ) (given : ℕ) (at : At)
    → (is_misused (sc.names x) given ≡ true)
    ↔ (BreaksHere 1 (part.name part.operand sc x given at) at ⊎ BreaksHere 3 (part.name part.operand sc x given at) at)
