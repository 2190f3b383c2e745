-- Units that break no rule, and the first rule that units break.
use Rattle.std.specs.Prelude.{ℕ, List, [], ◌∷◌, ◌++◌, Option, None}
use Rattle.spl_tree.specs.declared.names_and_places.At.{At}
use Rattle.spl_meaning.specs.Tables.{Source}
use Rattle.spl_meaning.specs.Bodies.{all_routines}
use Rattle.spl_meaning.specs.Faults.{Fault, fault, first_fault, IsAmong}
use Rattle.spl_meaning.specs.DeclarationRules.{unit_faults}

-- the faults of units behind others
abbrev pub faults_behind : List Source → List Source → List Fault
faults_behind before [] = []
faults_behind before (u ∷ us) = unit_faults (all_routines before ++ all_routines us) u ++ faults_behind (before ++ u ∷ []) us

-- all faults of some units
abbrev pub all_faults : List Source → List Fault
all_faults us = faults_behind [] us

-- Some units break a rule at a place.
abbrev pub Breaks : ℕ → List Source → At → Type 0
Breaks rule us at = IsAmong (fault rule at) (all_faults us)

-- They break no rule at any place.
abbrev pub IsSound : List Source → Type 0
IsSound us = (rule : ℕ) (at : At) → Breaks rule us at → ⊥

-- the first rule that they break: the first by its place, and there the lowest
abbrev pub first_broken : List Source → Option Fault
first_broken us = first_fault None (all_faults us)
