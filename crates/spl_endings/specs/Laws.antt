-- The laws of this crate.
use Rattle.std.specs.Prelude.{◌≡◌, ℕ, false, true, List, [], Some}
use Rattle.hp_call_yields.specs.hp_word.declared.endings.Ending.TheVariants.{Running, Terminated}
use Rattle.hp_call_yields.specs.hp_word.declared.intrinsics.Intrinsic.{Intrinsic}
use Rattle.hp_call_yields.specs.hp_word.declared.intrinsics.Intrinsic.TheVariants as gate
use Rattle.hp_call_yields.specs.hp_instr.declared.instruction.Instr.TheVariants as i
use Rattle.hp_call_yields.specs.hp_session.State.{Machine}
use Rattle.hp_call_yields.specs.spl_tree.declared.names_and_places.At.{At}
use Rattle.hp_call_yields.specs.spl_tree.declared.expressions.Kind.TheVariants as kind
use Rattle.hp_call_yields.specs.spl_branch.declared.pieces.Piece.TheVariants.{Begin}
use Rattle.hp_call_yields.specs.spl_meaning.Names.{intrinsic_named, intrinsic_profile}
use Rattle.hp_call_yields.specs.spl_meaning.Operations.{passed}
use Rattle.hp_call_yields.specs.spl_meaning.Serving.{served}
use Rattle.hp_call_yields.specs.spl_meaning.States.{State, Outcome, then_go, stopping}
use Rattle.hp_call_yields.specs.spl_meaning.Statements.{value_dropped}
use Rattle.hp_call_yields.specs.spl_code.Code as code
use Rattle.hp_call_yields.specs.spl_code.Code.{as_value}
use Rattle.hp_call_yields.specs.spl_code.Parts.{Part, pieces, piece, nothing, ◌⨟◌, call_wanted}
use Rattle.hp_call_yields.specs.spl_follow.Spots.{Spot}
use Rattle.hp_call_yields.specs.spl_follow.Doing.{Way, calling}
use Rattle.hp_call_yields.specs.spl_follow.Simulating.{Surroundings, Simulates, Performs}
use Rattle.spl_values.specs.Reached.{IsWhole}
use Rattle.spl_endings.specs.Gates.{Served, GatesLead}

-- a call of an intrinsic as a statement, behind the code of its arguments: it has no result, so no word is made or deleted for one
abbrev pub called : At → Intrinsic → List ℕ → Part → Part
called at i x arguments = piece (Begin at) ⨟ (code.calling (intrinsic_profile i) arguments (call_wanted x true) ⨟ nothing ⨟ pieces [])

-- TERMINATE as a statement, by its name, in no split mode
abbrev pub TerminatePerforms : Type 0
TerminatePerforms = (z : Surroundings) (d k need number : ℕ) (at : At) (x : List ℕ) → GatesLead z.sites z.wants → intrinsic_named x ≡ Some gate.Terminate
    → z.setting.split ≡ false
    → Performs z d k need (called at gate.Terminate x nothing) (λ s. stopping number at s (λ u. value_dropped (served gate.Terminate [] u)))

-- QUIT as a statement, with a value of one word, which is passed as an INTEGER
abbrev pub QuitPerforms : Type 0
QuitPerforms = (z : Surroundings) (d k need number : ℕ) (at : At) (x : List ℕ) (a : Part) (value : State → Outcome (List ℕ)) → GatesLead z.sites z.wants
    → intrinsic_named x ≡ Some gate.Quit → z.setting.split ≡ false → IsWhole a → Simulates z d as_value 1 k need a value
    → Performs z d k need (called at gate.Quit x (a ⨟ pieces [] ⨟ nothing))
    (λ s. stopping number at s (λ u. value_dropped (then_go (then_go (value u) (λ vs t. passed (Some kind.Integer) vs t)) (λ vs t. served gate.Quit vs t))))

-- the call of TERMINATE ends a machine that is in no split mode, with nothing printed
abbrev pub LastCallsEnd : Type 0
LastCallsEnd = (way : Way) (r : Spot) (m : Machine) → Served way gate.Terminate → m.split ≡ false → m.ending ≡ Running
    → ((calling (i.Control 0 0) way r m).ending ≡ Terminated) × ((calling (i.Control 0 0) way r m).printed ≡ m.printed)
