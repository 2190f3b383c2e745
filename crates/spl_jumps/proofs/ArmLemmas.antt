-- The arms of a CASE: from each of their labels on, and as they take the jumps to them.
use Rattle.std.proofs.Common.{◌≡◌, ℕ, zero, suc, ◌+◌, ◌-◌, ◌≤◌, Bool, true, false, List, [], ◌∷◌, ◌++◌, refl, sym, subst, arith}
use Rattle.std.specs.Prelude.{if◌then◌else◌}
use Rattle.std.proofs.lemmas.Bool.{false≢true}
use Rattle.spl_choices.specs.hp_instr.declared.instruction.Instr.TheVariants as i
use Rattle.spl_choices.specs.hp_session.State.{Machine}
use Rattle.spl_choices.specs.spl_branch.declared.pieces.Piece.{Piece}
use Rattle.spl_choices.specs.spl_branch.declared.pieces.Piece.TheVariants.{Mark}
use Rattle.spl_choices.specs.spl_meaning.Laws.{IsFront}
use Rattle.spl_choices.specs.spl_meaning.States.{State, Outcome, to_label, back, done, leaves, spent, ends, strays, code_dropped}
use Rattle.spl_choices.specs.spl_meaning.Statements.{landing}
use Rattle.spl_choices.specs.spl_code.Instructions.{LDI, DEL, BR}
use Rattle.spl_choices.specs.spl_code.Parts.{Part, Wanted}
use Rattle.spl_choices.specs.spl_statement_code.Instructions.{LSUB}
use Rattle.spl_choices.specs.spl_follow.Spots.{Spot, pos, on}
use Rattle.spl_choices.specs.spl_follow.Matching.{Arrives}
use Rattle.spl_choices.specs.spl_follow.Following.{tally, Follows}
use Rattle.spl_choices.specs.spl_follow.Leading.{Leads}
use Rattle.spl_choices.specs.spl_follow.Doing.{turning}
use Rattle.spl_choices.specs.spl_follow.Standing.{Stands}
use Rattle.spl_choices.specs.spl_follow.Parts.{Begins, Runs, Completes, Leaving}
use Rattle.spl_choices.specs.spl_follow.Simulating.{Surroundings}
use Rattle.spl_choices.proofs.spl_follow_proofs.FollowLemmas.{dropped_follows}
use Rattle.spl_choices.proofs.spl_follow_proofs.KeepLemmas.{arrives_begins}
use Rattle.spl_choices.proofs.spl_follow_proofs.PartLemmas.{stand_in_order}
use Rattle.spl_choices.proofs.spl_follow_proofs.RowLemmas.{row_branches}
use Rattle.spl_choices.proofs.spl_follow_proofs.StandLemmas.{stands_le}
use Rattle.spl_choices.proofs.spl_follow_proofs.WayLemmas.{goes_wider}
use Rattle.spl_choices.specs.spl_control.Laws.{Settles, bearing}
use Rattle.spl_choices.proofs.spl_control_proofs.ControlLemmas.{landings_by, leaves_within, own_label, other_label}
use Rattle.spl_choices.proofs.spl_values_proofs.SumLemmas.{front_on}
use Rattle.spl_choices.proofs.PartLemmas.{settles_after}
use Rattle.spl_choices.proofs.CaseLemmas.{arm_joined}
use Rattle.spl_jumps.specs.Laws.{LeadsOn, PerformsAt, listing, ChoosesAt, NoArmChoosesAt, ArmsChooseAt, ArmsLand}

-- ---- from labels on

pub no_arm_at : NoArmChoosesAt
no_arm_at z d k need arms from = record { does = λ end h ws p q y s m stands there front pays is b. absurd (false≢true is) }

-- behind an arm a branch leads to the end of the CASE
over_others : (z : Surroundings) (k end : ℕ) (r c q : Spot) → Leads z.ground (on r) c (turning (i.Branch false false 0) (z.sites.marks end) c)
    → z.sites.marks end ≡ q → LeadsOn z k (pos c - pos r) r q
over_others z k end r c q leads there d0 m0 t n a =
    let branch = row_branches z.ground z.rate r c (z.sites.marks end) false 0 z.setting t n d0 m0 k leads a in (
      branch.0,
      goes_wider z.ground z.rate (pos c - pos r) 0 z.rate.reach (pos c - pos r) 0 0 (tally t) n (tally t) branch.0 branch.1 (omega arith) (omega arith),
      subst (λ (y : Spot). Arrives z.setting y k d0 m0 t branch.0) there branch.2,
    )

-- from a label of the first arm, or of the others
arm_by : (z : Surroundings) (d k need end h j : ℕ) (vs ws : List Wanted) (a : Part) (arms : ℕ → Part) (has more : List ℕ → Bool)
    (at from : List ℕ → State → Outcome (Unit {0})) (p r c e q : Spot) (y : List ℕ) (s : State) (m : Machine) → PerformsAt z d k need a has at
    → ChoosesAt z d k need arms more from → Stands z.ground z.sites (on p) (a h vs).pieces r
    → Leads z.ground (on r) c (turning (i.Branch false false 0) (z.sites.marks end) c) → Stands z.ground z.sites (on e) ((arms end j ws).pieces ++ DEL ∷ []) q
    → z.sites.marks end ≡ q → IsFront (a h vs).wants z.wants → IsFront (arms end j ws).wants z.wants → pos c ≤ pos q → pos q ≤ z.rate.step
    → Begins z.setting d (z.exits.target (to_label y)) k need s m → (b : Bool) → has y ≡ b → (if b then true else more y) ≡ true
    → Runs z.ground z.rate z.setting z.exits q k s m (if b then at y s else from y s)
arm_by z d k need end h j vs ws a arms has more at from p r c e q y s m one others inside over behind there wants front far pays begins true at' is =
    let rise = over.rise in
    one.does h vs p r q (pos c - pos r) y s m inside wants (omega (arith, rise, far, pays)) (over_others z k end r c q over there) at' begins
arm_by z d k need end h j vs ws a arms has more at from p r c e q y s m one others inside over behind there wants front far pays begins false at' is =
    others.does end j ws e q y s m behind there front pays is begins

pub arm_at : ArmsChooseAt
arm_at z d k need a arms has more at from whole keeps one others = record {
  does = λ end h ws p q y s m stands there front pays is begins.
      let g = z.ground in
      let inner = a (suc h + (0 + 0 + 0)) ws in
      let j = h + suc (0 + 0 + 0 + inner.marks + 0 + 0 + 0 + 0) in
      let others' = arms end j inner.wants in
      let branch = stands.2.2 in
      let cut = stand_in_order g z.sites inner.pieces (BR end ∷ Mark h ∷ LDI 1 ∷ LSUB ∷ (others'.pieces ++ DEL ∷ [])) (on branch.0) q
      (whole.closed (suc h + (0 + 0 + 0)) ws)
      (subst (λ (ps : List Piece). Stands g z.sites (on branch.0) ps q) (arm_joined inner.pieces others'.pieces (DEL ∷ []) (BR end) (Mark h) (LDI 1) LSUB) branch.2) in
      let over = cut.2 in
      let push = over.2.2 in
      let less = push.2 in
      let rise = push.1.rise in
      let more' = less.1.rise in
      let last = stands_le g z.sites (others'.pieces ++ DEL ∷ []) (on less.0) q less.2 in
      arm_by z d k need end (suc h + (0 + 0 + 0)) j ws inner.wants a arms has more at from branch.0 cut.0 over.0 less.0 q y s m one others cut.1 over.1 less.2 there
      (front_on inner.wants others'.wants z.wants (keeps end j inner.wants) front) front (omega (arith, rise, more', last)) pays begins (has y) refl is;
}

-- ---- arms that take jumps

-- what is done drops its code, whether jumps were taken or not
dropped_lands : (fuel : ℕ) (has : List ℕ → Bool) (from : List ℕ → State → Outcome (Unit {0})) (o : Outcome (Unit {0}))
    → code_dropped (landing fuel has from o) ≡ landing fuel has (λ y s. code_dropped (from y s)) (code_dropped o)
dropped_lands zero has from (done u s) = refl
dropped_lands (suc d) has from (done u s) = refl
dropped_lands zero has from (spent s) = refl
dropped_lands (suc d) has from (spent s) = refl
dropped_lands zero has from (ends e s) = refl
dropped_lands (suc d) has from (ends e s) = refl
dropped_lands zero has from (strays s) = refl
dropped_lands (suc d) has from (strays s) = refl
dropped_lands zero has from (leaves back s) = refl
dropped_lands (suc d) has from (leaves back s) = refl
dropped_lands zero has from (leaves (to_label y) s) = by (has y) where
  by : (b : Bool) → code_dropped {A = Unit {0}} (if b then spent s else leaves (to_label y) s) ≡ (if b then spent s else leaves (to_label y) s)
  by true = refl
  by false = refl
dropped_lands (suc d) has from (leaves (to_label y) s) = by (has y) (dropped_lands d has from (from y s)) where
  by : (b : Bool) → code_dropped (landing d has from (from y s)) ≡ landing d has (λ y s. code_dropped (from y s)) (code_dropped (from y s))
      → code_dropped (if b then landing d has from (from y s) else leaves (to_label y) s)
      ≡ (if b then landing d has (λ y s. code_dropped (from y s)) (code_dropped (from y s)) else leaves (to_label y) s)
  by true rest = rest
  by false rest = refl

-- An arm from a label on, measured from where the CASE began.
arm_lands : (z : Surroundings) (d k need : ℕ) (arms : ℕ → Part) (has : List ℕ → Bool) (from : List ℕ → State → Outcome (Unit {0})) (end h : ℕ) (ws : List Wanted)
    (p q : Spot) (t : State) (m : Machine) → ChoosesAt z d k need arms has from → Stands z.ground z.sites (on p) ((arms end h ws).pieces ++ DEL ∷ []) q
    → z.sites.marks end ≡ q → IsFront (arms end h ws).wants z.wants → pos q ≤ z.rate.step → t.now.top + k + need ≤ t.now.stack → t.left ≤ d
    → (y : List ℕ) (s : State) (n : Machine) → has y ≡ true → Arrives z.setting (z.exits.target (to_label y)) k t.now m s n → s.left ≤ t.left
    → Follows z.ground z.rate 0 3 3 (tally s) n (Settles z.setting q k t.now m) (Leaving z.setting z.exits k t.now m) (code_dropped (from y s))
arm_lands z d k need arms has from end h ws p q t m labels stands there front pays room fuel y s n is x less =
    settles_after z 0 3 3 k q t.now m s n (code_dropped (from y s)) x.kept
    (dropped_follows z.ground z.rate 0 3 3 (tally s) n (Completes z.setting q k s.now n) (Settles z.setting q k s.now n) (Leaving z.setting z.exits k s.now n) (from y s)
    (labels.does end h ws p q y s n stands there front pays is
    (arrives_begins z.setting d (z.exits.target (to_label y)) k k need need t m s n room fuel x less (omega arith)))
    (λ u s1 n1 c. (record { at = c.at; matches = c.matches; kept = c.kept; coded = tt }, refl)))

pub arms_land : ArmsLand
arms_land z d k need arms has meaning from c labels = record {
  keeps = c.keeps;
  chooses = λ end h ws p q v t s m n stands there front pays room fuel less x.
      let inside = bearing has k z.exits in
      let first = c.chooses end h ws p q v t s m n stands there front pays room fuel less x in
      subst (λ (o : Outcome (Unit {0})). Follows z.ground z.rate (pos q - pos p) 0 3 (tally s) n (Settles z.setting q k t.now m) (Leaving z.setting z.exits k t.now m) o)
      (sym (dropped_lands d has from (meaning v s)))
      (landings_by z.ground z.rate 3 (Settles z.setting q k t.now m) (Leaving z.setting inside k t.now m) (Leaving z.setting z.exits k t.now m) has
      (λ y u. code_dropped (from y u)) (λ y u n1 is a. other_label z.setting z.exits has k t.now m y u n1 is a) (λ u n1 a. a) d (pos q - pos p) 0 (tally s) n
      (code_dropped (meaning v s))
      (λ y u n1 is a fewer. arm_lands (listing has k z) d k need arms has from end h ws p q t m labels stands there front pays room (omega (arith, fuel)) y u n1 is
      (own_label z.setting z.exits has k t.now m y u n1 is a) (omega (arith, fewer, less)))
      (leaves_within z.ground z.rate (pos q - pos p) 0 3 (tally s) n (Settles z.setting q k t.now m) (Leaving z.setting inside k t.now m) d (code_dropped (meaning v s))
      (omega (arith, fuel, less)) first)
      first);
}
