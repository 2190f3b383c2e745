-- Where the names of intrinsics lead that a module wants.
use Rattle.std.specs.Prelude.{◌≡◌, ℕ, true, List, Some, slice_get}
use Rattle.hp_call_yields.specs.hp_word.declared.intrinsics.Intrinsic.{Intrinsic}
use Rattle.hp_call_yields.specs.hp_call_rows.GateRows.{intrinsic}
use Rattle.hp_call_yields.specs.spl_meaning.Names.{intrinsic_named}
use Rattle.hp_call_yields.specs.spl_code.Parts.{Wanted}
use Rattle.hp_call_yields.specs.spl_follow.Doing.{Way, gate}
use Rattle.hp_call_yields.specs.spl_follow.Standing.{Sites}

-- a way leads to the entry of the gate at which an intrinsic is served
pub record Served (way : Way) (i : Intrinsic) : Type 0 where
  pub entry : ℕ
  pub leads : way ≡ gate entry
  pub serves : intrinsic entry ≡ Some i

-- each name of an intrinsic that is wanted leads to where that one is served
abbrev pub GatesLead : Sites → List Wanted → Type 0
GatesLead sites wants =
    (index : ℕ) (name : List ℕ) (i : Intrinsic) → slice_get wants index ≡ Some (record { name = name; gate = true }) → intrinsic_named name ≡ Some i
    → Served (sites.ways true index) i
