-- A list from each of its labels on, and one that takes the jumps to them, wherever its code stands.
use Rattle.std.proofs.Common.{◌≡◌, ℕ, ◌+◌, ◌-◌, ◌≤◌, Bool, true, false, List, [], ◌∷◌, refl, sym, subst, arith}
use Rattle.std.specs.Prelude.{Option, min, if◌then◌else◌}
use Rattle.std.proofs.lemmas.Bool.{false≢true}
use Rattle.spl_choices.specs.hp_word.declared.arithmetic.Code.{Code}
use Rattle.spl_choices.specs.hp_instr.declared.instruction.Instr.TheVariants as i
use Rattle.spl_choices.specs.hp_session.State.{Machine}
use Rattle.spl_choices.specs.spl_branch.declared.pieces.Piece.TheVariants.{Do}
use Rattle.spl_choices.specs.spl_meaning.Laws.{IsFront}
use Rattle.spl_choices.specs.spl_meaning.States.{State, Outcome, to_label, then_go, code_dropped}
use Rattle.spl_choices.specs.spl_meaning.Statements.{landing}
use Rattle.spl_choices.specs.spl_code.Parts.{Part, Wanted}
use Rattle.spl_choices.specs.spl_follow.Spots.{Spot, pos, on}
use Rattle.spl_choices.specs.spl_follow.Matching.{Coded}
use Rattle.spl_choices.specs.spl_follow.Following.{tally, Follows}
use Rattle.spl_choices.specs.spl_follow.Standing.{Stands}
use Rattle.spl_choices.specs.spl_follow.Parts.{Ready, Begins, RunsAll, Completes, Leaving}
use Rattle.spl_choices.specs.spl_follow.Simulating.{Surroundings, PerformsAll}
use Rattle.spl_choices.proofs.spl_follow_proofs.FollowLemmas.{then_follows, weaken, dropped_follows}
use Rattle.spl_choices.proofs.spl_follow_proofs.KeepLemmas.{kept_same, arrives_after, arrives_begins}
use Rattle.spl_choices.proofs.spl_follow_proofs.RowLemmas.{row_idle}
use Rattle.spl_choices.proofs.spl_follow_proofs.PartLemmas.{stand_in_order, stand_from_place, statements_begin_plain, statements_follow}
use Rattle.spl_choices.specs.spl_control.Laws.{bearing}
use Rattle.spl_choices.proofs.spl_control_proofs.ControlLemmas.{leaves_below, leaves_sooner, landings}
use Rattle.spl_choices.proofs.spl_values_proofs.GiveLemmas.{last_leads}
use Rattle.spl_choices.proofs.spl_values_proofs.SumLemmas.{front_on}
use Rattle.spl_jumps.specs.Laws.{PerformsAt, PerformsFrom, NothingPerformsFrom, ListsPerformFrom, ListsLand, BlocksPerform}
use Rattle.spl_jumps.proofs.LabelLemmas.{stays}

-- ---- from labels on

pub nothing_from : NothingPerformsFrom
nothing_from z d k need a from = record { does = λ h ws p q y s m stands front pays is b. absurd (false≢true is) }

-- from a label of the first statement, or of the others
from_by : (z : Surroundings) (d k need h j : ℕ) (vs ws : List Wanted) (a b : Part) (has more : List ℕ → Bool) (at from : List ℕ → State → Outcome (Unit {0}))
    (others : State → Outcome (Unit {0})) (p r q : Spot) (y : List ℕ) (s : State) (m : Machine) → PerformsAt z d k need a has at
    → PerformsAll z d k need b others → PerformsFrom z d k need b more from → Stands z.ground z.sites (on p) (a h vs).pieces r
    → Stands z.ground z.sites (on r) (b j ws).pieces q → IsFront (a h vs).wants z.wants → IsFront (b j ws).wants z.wants → pos r ≤ pos q → pos q ≤ z.rate.step
    → Begins z.setting d (z.exits.target (to_label y)) k need s m → (c : Bool) → has y ≡ c → (if c then true else more y) ≡ true
    → RunsAll z.ground z.rate z.setting z.exits q k s m (if c then then_go (at y s) (λ _ t. others t) else from y s)
from_by z d k need h j vs ws a b has more at from others p r q y s m one all rest first behind wants front far pays begins true at' is =
    let room = begins.room in
    let fuel = begins.fuel in
    statements_follow z.ground z.rate z.setting z.exits r q k s m (at y s) others
    (one.does h vs p r r 0 y s m first wants (omega (arith, far, pays)) (stays z k r) at' begins)
    (λ t n arrived less. all.does j ws r q t n behind front pays (arrives_begins z.setting d r k k need need s m t n room fuel arrived less (omega arith)))
from_by z d k need h j vs ws a b has more at from others p r q y s m one all rest first behind wants front far pays begins false at' is =
    rest.does j ws r q y s m behind front pays is begins

pub lists_from : ListsPerformFrom
lists_from z d k need a b has more at from others clear keeps one all rest = record {
  does = λ h ws p q y s m stands front pays is begins.
      let x = a h ws in
      let v = b (h + x.marks) x.wants in
      let cut = stand_from_place z.ground z.sites x.pieces v.pieces p q (clear h ws) stands in
      from_by z d k need h (h + x.marks) ws x.wants a b has more at from others p cut.0 q y s m one all rest cut.1 cut.2
      (front_on x.wants v.wants z.wants (keeps (h + x.marks) x.wants) front) front cut.4 pays begins (has y) refl is;
}

-- ---- lists that take jumps

-- what is followed from a label on is measured from the list's beginning
pub lists_land : ListsLand
lists_land z d k need fuel a has from all bound list labels = record {
  does = λ h ws p q s m stands front pays b.
      let room = b.room in
      let few = b.fuel in
      let many = z.rate.enough in
      let inside = bearing has k z.exits in
      let first = list.does h ws p q s m stands front pays b in
      landings z.ground z.rate z.setting z.exits q k (tally s) m s.now m has from
      (λ y t n is x less.
      weaken z.ground z.rate 0 3 0 (tally t) n (Completes z.setting q k t.now n) (Completes z.setting q k s.now m) (Leaving z.setting inside k t.now n)
      (Leaving z.setting inside k s.now m) (from y t)
      (labels.does h ws p q y t n stands front pays is
      (arrives_begins z.setting d (z.exits.target (to_label y)) k k need need s m t n room few x less (omega arith)))
      (λ u t1 n1 c less1. arrives_after z.setting q k k s.now m t.now n t1 n1 (omega arith) x.kept c)
      (λ e t1 n1 c. arrives_after z.setting (z.exits.target e) k (min (inside.held e) k) s.now m t.now n t1 n1 (omega arith) x.kept c))
      fuel (all s)
      (leaves_below s.left fuel (all s) (omega (arith, few, bound))
      (leaves_sooner z.ground z.rate 3 0 (tally s) m (Completes z.setting q k s.now m) (Leaving z.setting inside k s.now m) (all s) (omega (arith, many)) first))
      first;
}

-- ---- blocks

-- Behind the block's beginning: its word, and then the list; what that leaves is measured from the block's beginning.
block_inside : (z : Surroundings) (d k need h : ℕ) (ws : List Wanted) (a : Part) (all : State → Outcome (Unit {0})) (p q : Spot) (t : State) (m : Machine)
    → PerformsAll z d k need a all → Stands z.ground z.sites (on p) (Do (i.Control 8 0) ∷ (a h ws).pieces) q → IsFront (a h ws).wants z.wants
    → pos q ≤ z.rate.step → Ready z.setting d (on p) k need t t.begun m
    → Follows z.ground z.rate z.rate.step 2 3 (tally t) m (Completes z.setting q k t.now m) (Leaving z.setting z.exits k t.now m) (code_dropped (all t))
block_inside z d k need h ws a all p q t m list stands front pays ready =
    let many = z.rate.enough in
    let cut = stand_in_order z.ground z.sites (Do (i.Control 8 0) ∷ []) (a h ws).pieces (on p) q refl stands in
    let rise = cut.3 in
    let last = cut.4 in
    let leads = last_leads z.ground z.sites (on p) (i.Control 8 0) cut.0 cut.1 in
    let first = row_idle z.ground z.rate (on p) cut.0 z.setting t.begun t m t.now m k leads ready.at refl ready.matches (kept_same (t.now.top + k) t.now m.stack)
    (subst (λ (c : Option Code). Coded c m.regs.code) (sym ready.silent) tt) in
    let room = ready.room in
    let fuel' = ready.fuel in
    let begins = arrives_begins z.setting d cut.0 k k need need t m t first.0 room fuel' first.2 (omega arith) (omega arith) in
    let rest = list.does h ws cut.0 q t first.0 cut.2 front pays begins in
    dropped_follows z.ground z.rate z.rate.step 2 3 (tally t) m (Completes z.setting q k t.now m) (Completes z.setting q k t.now m)
    (Leaving z.setting z.exits k t.now m) (all t)
    (then_follows z.ground z.rate (pos cut.0 - pos p) 0 z.rate.reach 0 3 0 z.rate.step 2 3 (tally t) m (tally t) first.0
    (Completes z.setting q k t.now m) (Leaving z.setting z.exits k t.now m) (all t) first.1
    (weaken z.ground z.rate 0 3 0 (tally t) first.0 (Completes z.setting q k t.now first.0) (Completes z.setting q k t.now m)
    (Leaving z.setting z.exits k t.now first.0) (Leaving z.setting z.exits k t.now m) (all t) rest
    (λ u s1 n b less. arrives_after z.setting q k k t.now m t.now first.0 s1 n (omega arith) first.2.kept b)
    (λ e s1 n b. arrives_after z.setting (z.exits.target e) k (min (z.exits.held e) k) t.now m t.now first.0 s1 n (omega arith) first.2.kept b))
    (omega (arith, rise, last, pays)) (omega (arith, many)) (omega (arith, many)))
    (λ u s1 n b. record { at = b.at; matches = b.matches; kept = b.kept; coded = tt })

pub blocks : BlocksPerform
blocks z d k need a has from all list labels = record {
  does = λ h ws p q s m stands front pays b.
      statements_begin_plain z.ground z.rate z.setting z.exits d p q k need s m (λ u. code_dropped (landing d has from (all u))) b
      (λ t same fewer ready. block_inside z d k need (h + 0) ws a (λ u. landing d has from (all u)) p q t m
      (lists_land z d k need d a has from all (omega arith) list labels) stands front pays ready);
}
