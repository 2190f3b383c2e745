-- Faults: which rule is broken and where, and the first of them.
use Rattle.std.specs.Prelude.{ℕ, ◌≡◌, ◌⊎◌, ◌==◌, ◌&&◌, ◌||◌, Bool, true, false, nat_lt, if◌then◌else◌, List, [], ◌∷◌, Option, Some, None}
use Rattle.spl_tree.specs.declared.names_and_places.At.{At}

-- a rule that is broken at a place
pub record Fault : Type 0 where
  pub rule : ℕ
  pub at : At

-- a rule and a place
abbrev pub fault : ℕ → At → Fault
fault rule at = record { rule = rule; at = at }

-- what is broken where a test fails
abbrev pub unless : Bool → ℕ → At → List Fault
unless true rule at = []
unless false rule at = fault rule at ∷ []

-- whether one number is lower than another; where they are the same the answer is given
abbrev pub is_lower : ℕ → ℕ → Bool → Bool
is_lower a b if_same = nat_lt a b || (a == b && if_same)

-- whether one fault comes before another: by unit, line and column, and at one place by the lower rule
abbrev pub is_before : Fault → Fault → Bool
is_before f g =
    is_lower f.at.unit g.at.unit (is_lower f.at.line g.at.line (is_lower f.at.column g.at.column (nat_lt f.rule g.rule)))

-- the earlier of two faults
abbrev pub sooner : Option Fault → Fault → Option Fault
sooner None f = Some f
sooner (Some g) f = if is_before f g then Some f else Some g

-- the first of some faults, with one that is known before
abbrev pub first_fault : Option Fault → List Fault → Option Fault
first_fault known [] = known
first_fault known (f ∷ fs) = first_fault (sooner known f) fs

-- a fault is one of these
abbrev pub IsAmong : Fault → List Fault → Type 0
IsAmong f [] = ⊥
IsAmong f (g ∷ gs) = (f ≡ g) ⊎ IsAmong f gs
