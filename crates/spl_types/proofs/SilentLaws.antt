-- The statements of subprograms, one after the other.
use Rattle.std.proofs.Common.{ℕ, ◌≡◌, ◌<◌, ◌≤◌, ◌+◌, suc, List, ◌∷◌, map, length, get_or, drop, add-one, Option, refl, sym, ap, ◌∙◌}
use Rattle.std.proofs.Math.Seq.{drop-cons}
use Rattle.std.proofs.lemmas.List.{drop_all}
use Rattle.spl_tree.specs.declared.names_and_places.At.{At}
use Rattle.spl_tree.specs.declared.statements.Stmt.{Stmt}
use Rattle.spl_tree.specs.Views as view
use Rattle.spl_sound.specs.spl_meaning.Faults.{Fault, unless, first_fault}
use Rattle.spl_sound.specs.spl_meaning.DeclarationRules.{is_empty_statement, statement_place}
use Rattle.spl_uses.specs.spl_found.FoundDeclarations.{found_silent}

-- a list from one of its elements on
pub front : {X : Type 0} (xs : List X) (i : ℕ) (x : X) → i < length xs → x ≡ get_or xs i x → drop i xs ≡ x ∷ drop (i + 1) xs
front xs i x lt is = drop-cons xs i x lt ∙ ap (λ y. y ∷ drop (suc i) xs) (sym is) ∙ rw (add-one i) refl

pub silent_step : (unit : At) (ss : List Stmt) (i : ℕ) (s : Stmt) (f : Option Fault) → i < length ss → s ≡ get_or ss i s
    → found_silent unit (map view.statement (drop i ss)) f
    ≡ found_silent unit (map view.statement (drop (i + 1) ss))
    (first_fault f (unless (is_empty_statement (view.statement s)) 28 (statement_place unit (view.statement s))))
silent_step unit ss i s f lt is = ap (λ (rest : List Stmt). found_silent unit (map view.statement rest) f) (front ss i s lt is)

pub silent_end : (unit : At) (ss : List Stmt) (i : ℕ) (f : Option Fault) → length ss ≤ i → found_silent unit (map view.statement (drop i ss)) f ≡ f
silent_end unit ss i f le = ap (λ (rest : List Stmt). found_silent unit (map view.statement rest) f) (drop_all i ss le)

pub ruleset silent_steps = (silent_step, silent_end)
