-- The modules that the codes of a unit become, and their order.
use Rattle.std.specs.Prelude.{◌≡◌, ℕ, ◌+◌, ◌≤◌, ◌<◌, ◌||◌, Bool, true, false, nat_lt, List, [], ◌∷◌, ◌++◌, length, slice_set, Option, Some, None, is_some}
use Rattle.std.specs.List.{slice_get}
use Rattle.spl_branch.specs.declared.buffer.Code.{Code}
use Rattle.spl_branch.specs.declared.modules.Module.{Module}
use Rattle.spl_branch.specs.Codes.{IsComplete}
use Rattle.spl_branch.specs.Modules.{Finished, Oversized}
use Rattle.spl_unit_codes.specs.declared.growing.Growing.{Growing}

-- each code may be finished
abbrev pub AreComplete : List Growing → Type 0
AreComplete parts = (g : ℕ) (x : Growing) → slice_get parts g ≡ Some x → IsComplete x.code

-- a module is what a code becomes
pub record IsFinish (c : Code) (m : Module) : Type 0 where
  pub segment : m.segment ≡ c.segment
  pub wants : m.wants ≡ c.wants
  pub finished : m.size ≤ 16383 → Finished c m
  pub oversized : 16383 < m.size → Oversized c m

-- a unit has a body in the segment of a code
abbrev pub is_used : Code → Bool
is_used c = nat_lt 0 (length c.entries.items) || is_some c.main

-- what a code becomes: a module, or nothing where the unit has no body in its segment
abbrev pub IsSlot : Code → Option Module → Type 0
IsSlot c None = is_used c ≡ false
IsSlot c (Some m) = (is_used c ≡ true) × IsFinish c m

-- and the codes of all segments
pub record AreSlots (parts : List Growing) (slots : List (Option Module)) : Type 0 where
  pub number : length slots ≡ length parts
  pub each : (g : ℕ) (x : Growing) → slice_get parts g ≡ Some x → (o : Option Module) × (slice_get slots g ≡ Some o) × IsSlot x.code o

-- what stands in a slot, if it is there, is taken out, and follows other modules
pub data TakenAt (g : ℕ) : Option (Option Module) → List (Option Module) → List (Option Module) → List Module → Type 0 where
  none : {slots : List (Option Module)} → TakenAt g None slots slots []
  empty : {slots : List (Option Module)} → TakenAt g (Some None) slots slots []
  some : {m : Module} {slots : List (Option Module)} → TakenAt g (Some (Some m)) slots (slice_set slots g None) (m ∷ [])

abbrev pub Taken : Option ℕ → List (Option Module) → List (Option Module) → List Module → Type 0
Taken None old new ms = (new ≡ old) × (ms ≡ [])
Taken (Some g) old new ms = TakenAt g (slice_get old g) old new ms

-- behind modules
abbrev pub TakenFrom : Option ℕ → List (Option Module) → List (Option Module) → List Module → List Module → Type 0
TakenFrom number old new before all = (ms : List Module) × (all ≡ before ++ ms) × Taken number old new ms

-- modules are taken out along names of segments, by their numbers
pub data Picked (numbers : List ℕ → Option ℕ) : List (Option Module) → List (List ℕ) → List Module → Type 0 where
  none : {slots : List (Option Module)} → Picked numbers slots [] []
  more : {slots left : List (Option Module)} {name : List ℕ} {names : List (List ℕ)} {ns : List Module} → (ms : List Module) → Taken (numbers name) slots left ms
      → Picked numbers left names ns → Picked numbers slots (name ∷ names) (ms ++ ns)

abbrev pub PickedFrom : (List ℕ → Option ℕ) → List (Option Module) → List (List ℕ) → List Module → List Module → Type 0
PickedFrom numbers slots names before all = (ms : List Module) × (all ≡ before ++ ms) × Picked numbers slots names ms
