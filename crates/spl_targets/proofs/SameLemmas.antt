-- Meanings that are the same, and what follows for their code.
use Rattle.std.proofs.Common.{◌≡◌, ℕ, zero, suc, List, [], ◌∷◌, refl, sym, subst}
use Rattle.spl_covered.specs.spl_tree.declared.names_and_places.At.{At}
use Rattle.spl_covered.specs.spl_meaning.Elements.{with_one}
use Rattle.spl_covered.specs.spl_meaning.Laws.{IsFront}
use Rattle.spl_covered.specs.spl_meaning.States.{State, Outcome, step_of, without_code, noted, stopping}
use Rattle.spl_covered.specs.spl_code.Parts.{Part}
use Rattle.spl_top_fields.specs.spl_follow.Spots.{on}
use Rattle.spl_top_fields.specs.spl_follow.Standing.{Stands}
use Rattle.spl_top_fields.specs.spl_follow.Parts.{Runs}
use Rattle.spl_top_fields.specs.spl_follow.Simulating.{Surroundings, Performs}

-- what is done with one word
pub one_same : {A : Type 0} (vs : List ℕ) (s : State) (f g : ℕ → State → Outcome A) → ((v : ℕ) (u : State) → f v u ≡ g v u) → with_one vs s f ≡ with_one vs s g
one_same [] s f g same = refl
one_same (v ∷ []) s f g same = same v s
one_same (v ∷ u ∷ vs) s f g same = refl

-- what comes behind a statement's beginning
pub stopping_same : (i : ℕ) (at : At) (s : State) (f g : State → Outcome (Unit {0})) → ((u : State) → f u ≡ g u) → stopping i at s f ≡ stopping i at s g
stopping_same i at s f g same = by s.left where
  by : (j : ℕ) → step_of j s (λ u. f (without_code (noted i at u))) ≡ step_of j s (λ u. g (without_code (noted i at u)))
  by zero = refl
  by (suc j) = same (without_code (noted i at (record s { left = j })))

-- what is the same is performed the same
pub same_performs : (z : Surroundings) (d k need : ℕ) (a b : Part) (f g : State → Outcome (Unit {0})) → a ≡ b → ((s : State) → f s ≡ g s)
    → Performs z d k need b g → Performs z d k need a f
same_performs z d k need a b f g code same x = record {
  does = λ h ws p q s m stands front pays begins.
      subst (λ (o : Outcome (Unit {0})). Runs z.ground z.rate z.setting z.exits q k s m o) (sym (same s))
      (x.does h ws p q s m (subst (λ (c : Part). Stands z.ground z.sites (on p) (c h ws).pieces q) code stands)
      (subst (λ (c : Part). IsFront (c h ws).wants z.wants) code front) pays begins);
}
