-- No chain of a declaration or of a unit goes further than its reader.
use Rattle.std.proofs.Common.{ℕ, Bool, [], ◌∷◌, refl, inr}
use Rattle.spl_reading.specs.spl_tree.Parts as part
use Rattle.spl_reading.specs.ReadDeclarations.{unit}
use Rattle.spl_grammar.specs.Answers.{ChainsReach}
use Rattle.spl_reading.specs.ReadDeclarations.{bodies, declaration_of}
use Rattle.spl_grammar.proofs.LocalDeclarations.{local_declaration, local_unit}
use Rattle.spl_grammar.proofs.CompleteUnits.{unit_read}
use Rattle.spl_grammar.proofs.CompletedUnits.{a_declaration, a_unit, all_completed}
use Rattle.spl_grammar.proofs.ReachLaws.{a_semicolon, no_further, reach_of}
use Rattle.spl_grammar.proofs.DeepDeclarations.{local_bodies, one_declaration}
use Rattle.spl_grammar.proofs.DeepDeclarationSteps.{declared_sinks}

-- a declaration is completed with a semicolon behind it
pub declarations_reach : (u after : Bool) (segment : ℕ)
    → ChainsReach (part.declaration u after) (declaration_of u after segment)
declarations_reach u after segment room d q j k ts mid sum c = reach_of j k mid (declaration_of u after segment room ts)
    (no_further (a_semicolon ∷ []) (local_declaration room (bodies room u) u (local_bodies room u) after segment)
    (all_completed (inr a_declaration) c) (λ us x. let y = x segment in y.tree)
    (λ us x. let y = x segment in one_declaration room segment u after y.spelled y.fits refl))
    (λ w. ((declared_sinks a_declaration c refl w).claim room segment sum).sinks)

-- a unit is completed with nothing behind it
pub units_reach : ChainsReach part.unit unit
units_reach room d q j k ts mid sum c = reach_of j k mid (unit room ts)
    (no_further [] (local_unit room) (all_completed (inr a_unit) c) (λ us x. let y = x refl in y.tree)
    (λ us x. let y = x refl in unit_read y.spelled room))
    (λ w. ((declared_sinks a_unit c refl w).claim room sum).sinks)
