-- IF: a statement is noted, tested, and one of its sides follows from where the test leads.
use Rattle.std.proofs.Common.{◌≡◌, ℕ, suc, ◌+◌, ◌-◌, ◌≤◌, Bool, true, false, List, [], ◌∷◌, ◌++◌, refl, sym, ap, subst, arith}
use Rattle.std.specs.Prelude.{Some, if◌then◌else◌}
use Rattle.spl_statement_code.specs.hp_instr.declared.instruction.Instr.TheVariants as i
use Rattle.spl_control.specs.hp_session.State.{Machine}
use Rattle.spl_statement_code.specs.spl_tree.declared.names_and_places.At.{At}
use Rattle.spl_statement_code.specs.spl_branch.declared.pieces.Piece.{Piece}
use Rattle.spl_statement_code.specs.spl_branch.declared.pieces.Piece.TheVariants.{Mark}
use Rattle.spl_statement_code.specs.spl_meaning.Laws.{IsFront}
use Rattle.spl_statement_code.specs.spl_meaning.States.{State, Begun, Outcome, done, then_go, code_dropped}
use Rattle.spl_statement_code.specs.spl_code.Instructions.{BR}
use Rattle.spl_statement_code.specs.spl_code.Parts.{Part, Wanted}
use Rattle.spl_statement_code.specs.Statements.{chosen, chosen_or}
use Rattle.spl_control.specs.spl_follow.Spots.{Spot, pos, Point, on}
use Rattle.spl_control.specs.spl_follow.Matching.{Arrives}
use Rattle.spl_control.specs.spl_follow.Leading.{Leads}
use Rattle.spl_control.specs.spl_follow.Doing.{turning}
use Rattle.spl_control.specs.spl_follow.Following.{tally, tally_with, Follows, NoExit}
use Rattle.spl_control.specs.spl_follow.Standing.{Stands}
use Rattle.spl_control.specs.spl_follow.Parts.{Ready, Truth, Completes, Leaving}
use Rattle.spl_control.specs.spl_follow.Simulating.{Surroundings, Performs}
use Rattle.spl_control.proofs.spl_follow_proofs.FollowLemmas.{widen, tail_follows}
use Rattle.spl_control.proofs.spl_follow_proofs.KeepLemmas.{arrives_begins}
use Rattle.spl_control.proofs.spl_follow_proofs.PartLemmas.{stand_in_order, statements_begin_noted}
use Rattle.spl_control.proofs.spl_follow_proofs.RowLemmas.{row_branches}
use Rattle.spl_control.proofs.spl_follow_proofs.StandLemmas.{closed_last, stands_le}
use Rattle.spl_control.proofs.spl_follow_proofs.WayLemmas.{goes_none}
use Rattle.spl_control.specs.Laws.{Settles}
use Rattle.spl_control.proofs.ControlLemmas as control
use Rattle.spl_conditions.specs.spl_values.Reached.{IsWhole}
use Rattle.spl_conditions.proofs.spl_values_proofs.SumLemmas.{front_on}
use Rattle.spl_conditions.proofs.spl_values_proofs.WholeLemmas.{then_same}
use Rattle.spl_choices.specs.Laws.{decided, Decides, ChoicesPerform, EitherPerforms}
use Rattle.spl_choices.proofs.PartLemmas.{mark_ends, test_follows, body_follows, settles_after, settles_completes}

-- ---- sides

-- A side, from where the test leads to it to its own end.
side_follows : (z : Surroundings) (d k need h : ℕ) (ws : List Wanted) (a : Part) (meaning : State → Outcome (Unit {0})) (r b : Spot) (t : State) (m : Machine)
    → Performs z d k need a meaning → Stands z.ground z.sites (on r) (a h ws).pieces b → IsFront (a h ws).wants z.wants → pos b ≤ z.rate.step
    → t.now.top + k + need ≤ t.now.stack → t.left ≤ d → (s : State) (n : Machine) → Arrives z.setting r k t.now m s n → s.left ≤ t.left
    → Follows z.ground z.rate 0 3 3 (tally s) n (Settles z.setting b k t.now m) (Leaving z.setting z.exits k t.now m) (code_dropped (meaning s))
side_follows z d k need h ws a meaning r b t m x stands front pays room fuel s n arrived less =
    settles_after z 0 3 3 k b t.now m s n (code_dropped (meaning s)) arrived.kept
    (body_follows z d k need h ws a meaning r b s n x stands front pays (arrives_begins z.setting d r k k need need t m s n room fuel arrived less (omega arith)))

-- which of two sides follows drops its code
sides_same : (o : Outcome Bool) (yes' no' : State → Outcome (Unit {0}))
    → then_go o (λ b v. code_dropped (if b then yes' v else no' v)) ≡ then_go o (λ b v. if b then code_dropped (yes' v) else code_dropped (no' v))
sides_same o yes' no' =
    then_same o (λ b v. code_dropped (if b then yes' v else no' v)) (λ b v. if b then code_dropped (yes' v) else code_dropped (no' v)) by where
      by : (b : Bool) (v : State) → code_dropped (if b then yes' v else no' v) ≡ (if b then code_dropped (yes' v) else code_dropped (no' v))
      by true v = refl
      by false v = refl

-- ---- without ELSE

-- Code of a test is whole, whatever its mark is, and from its first word it leads behind it or to its mark, by the outcome of a test.
pub record Tests (z : Surroundings) (k : ℕ) (test : ℕ → Part) (p : Point) (t : State) (l : List Begun) (m : Machine) (o : Outcome Bool) : Type 0 where
  pub whole : (fail : ℕ) → IsWhole (test fail)
  pub follows : (fail h : ℕ) (ws : List Wanted) (r : Spot) → Stands z.ground z.sites p (test fail h ws).pieces r → IsFront (test fail h ws).wants z.wants
      → Follows z.ground z.rate (pos r - pos p.at) 1 z.rate.reach (tally_with l t) m (Truth z.setting r (z.sites.marks fail) k t.now m) NoExit o

-- so does a condition's
decides_tests : (z : Surroundings) (d k need : ℕ) (test : ℕ → Part) (value : State → Outcome (List ℕ)) (p : Point) (t : State) (l : List Begun) (m : Machine)
    → Decides z d k need test value → Ready z.setting d p k need t l m → Tests z k test p t l m (decided value t)
decides_tests z d k need test value p t l m tests ready = record {
  whole = tests.whole;
  follows = λ fail h ws r stands front. test_follows z d k need fail h ws test value p r t l m tests stands front ready;
}

-- Behind the beginning: the test, and then the statement inside or its end.
pub choice_inside : (z : Surroundings) (d k need h : ℕ) (ws : List Wanted) (at : At) (test : ℕ → Part) (a : Part) (o : Outcome Bool)
    (yes' : State → Outcome (Unit {0})) (p q : Spot) (t : State) (l : List Begun) (m : Machine)
    → Tests z k test (record { at = p; due = Some at }) t l m o → IsWhole a
    → Performs z d k need a yes' → Stands z.ground z.sites (record { at = p; due = Some at }) (chosen test a h ws).pieces q
    → IsFront (chosen test a h ws).wants z.wants → pos q ≤ z.rate.step → t.now.top + k + need ≤ t.now.stack → t.left ≤ d
    → Follows z.ground z.rate z.rate.step 2 3 (tally_with l t) m (Completes z.setting q k t.now m) (Leaving z.setting z.exits k t.now m)
    (then_go o (λ b v. code_dropped (if b then yes' v else done tt v)))
choice_inside z d k need h ws at test a o yes' p q t l m tests whole x stands front pays room fuel =
    let g = z.ground in
    let w = z.rate in
    let st = z.setting in
    let tested = test h (suc h) ws in
    let inner = a (suc h + tested.marks) tested.wants in
    let first : Point = record { at = p; due = Some at } in
    let end = mark_ends g z.sites (tested.pieces ++ inner.pieces) h first q
    (closed_last tested.pieces inner.pieces (whole.closed (suc h + tested.marks) tested.wants)) stands in
    let cut = stand_in_order g z.sites tested.pieces inner.pieces first q ((tests.whole h).closed (suc h) ws) end.0 in
    let before = cut.3 in
    let behind = cut.4 in
    let condition = subst (λ (y : Spot). Follows g w (pos cut.0 - pos p) 1 w.reach (tally_with l t) m (Truth st cut.0 y k t.now m) NoExit o) end.1
    (tests.follows h (suc h) ws cut.0 cut.1 (front_on tested.wants inner.wants z.wants (whole.keeps (suc h + tested.marks) tested.wants) front)) in
    settles_completes z w.step 2 3 k q t l m (then_go o (λ b v. code_dropped (if b then yes' v else done tt v)))
    (subst (λ (y : Outcome (Unit {0})). Follows g w w.step 2 3 (tally_with l t) m (Settles st q k t.now m) (Leaving st z.exits k t.now m) y)
    (sym (sides_same o yes' (λ v. done tt v)))
    (widen g w (pos cut.0 - pos p + 0) 1 3 w.step 2 3 (tally_with l t) m (Settles st q k t.now m) (Leaving st z.exits k t.now m)
    (then_go o (λ b v. if b then code_dropped (yes' v) else code_dropped (done tt v)))
    (control.choices g w st z.exits (pos cut.0 - pos p) 0 cut.0 q q k (tally_with l t) m t.now m o (λ v. code_dropped (yes' v))
    (λ v. code_dropped (done tt v)) condition
    (λ s n truth less. widen g w 0 3 3 0 3 0 (tally s) n (Settles st q k t.now m) (Leaving st z.exits k t.now m) (code_dropped (yes' s))
    (side_follows z d k need (suc h + tested.marks) tested.wants a yes' cut.0 q t m x cut.2 front pays room fuel s n truth.0 less)
    (omega arith) (omega arith) (omega arith))
    (λ s n truth less. (
      n,
      goes_none g w 0 3 (tally s) n,
      (record { at = truth.0.at; matches = truth.0.matches; kept = truth.0.kept; coded = tt }, refl),
    )))
    (omega (arith, before, behind, pays)) (omega arith) (omega arith)))

pub choices : ChoicesPerform
choices z d k need number at test a value yes' tests whole x = record {
  does = λ h ws p q s m stands front pays b.
      statements_begin_noted z.ground z.rate z.setting z.exits d number at p q k need s m
      (λ u. then_go (decided value u) (λ c v. code_dropped (if c then yes' v else done tt v))) b
      (λ t same fewer ready. choice_inside z d k need (h + 0) ws at test a (decided value t) yes' p q t s.begun m
      (decides_tests z d k need test value (record { at = p; due = Some at }) t s.begun m tests ready) whole x stands.1 front pays ready.room ready.fuel);
}

-- ---- with ELSE

-- the pieces of both sides and what stands between them
either_joined : (ts as' bs : List Piece) (x y e : Piece)
    → (((((ts ++ as') ++ (x ∷ [])) ++ (y ∷ [])) ++ bs) ++ (e ∷ [])) ≡ ts ++ (as' ++ (x ∷ y ∷ (bs ++ (e ∷ []))))
either_joined [] [] bs x y e = refl
either_joined [] (a ∷ as') bs x y e = ap (λ (ps : List Piece). a ∷ ps) (either_joined [] as' bs x y e)
either_joined (t ∷ ts) as' bs x y e = ap (λ (ps : List Piece). t ∷ ps) (either_joined ts as' bs x y e)

-- the first side, and the branch over the second
pub first_side : (z : Surroundings) (d k need h : ℕ) (ws : List Wanted) (a : Part) (yes' : State → Outcome (Unit {0})) (r b c q : Spot) (l : ℕ) (t : State) (m : Machine)
    → Performs z d k need a yes' → Stands z.ground z.sites (on r) (a h ws).pieces b → IsFront (a h ws).wants z.wants → pos b ≤ z.rate.step
    → Leads z.ground (on b) c (turning (i.Branch false false 0) (z.sites.marks l) c) → z.sites.marks l ≡ q
    → t.now.top + k + need ≤ t.now.stack → t.left ≤ d → (s : State) (n : Machine) → Arrives z.setting r k t.now m s n → s.left ≤ t.left
    → Follows z.ground z.rate (pos c - pos b) 3 0 (tally s) n (Settles z.setting q k t.now m) (Leaving z.setting z.exits k t.now m) (code_dropped (yes' s))
first_side z d k need h ws a yes' r b c q l t m x stands front pays leads end room fuel s n arrived less =
    let g = z.ground in
    let w = z.rate in
    let st = z.setting in
    let many = w.enough in
    tail_follows g w 0 3 3 (pos c - pos b) 0 w.reach (pos c - pos b) 3 0 (tally s) n (Settles st b k t.now m) (Settles st q k t.now m)
    (Leaving st z.exits k t.now m) (code_dropped (yes' s)) (side_follows z d k need h ws a yes' r b t m x stands front pays room fuel s n arrived less)
    (λ u s1 n1 settled fewer. let branch = row_branches g w b c (z.sites.marks l) false 0 st s1 n1 t.now m k leads settled.0 in
    (branch.0, branch.1, (subst (λ (y : Spot). Arrives st y k t.now m s1 branch.0) end branch.2, settled.1)))
    (omega arith) (omega arith) (omega arith) (omega (arith, many))

-- Behind the beginning: the test, and then the one side or the other.
pub either_inside : (z : Surroundings) (d k need h : ℕ) (ws : List Wanted) (at : At) (test : ℕ → Part) (a b : Part) (o : Outcome Bool)
    (yes' no' : State → Outcome (Unit {0})) (p q : Spot) (t : State) (l : List Begun) (m : Machine)
    → Tests z k test (record { at = p; due = Some at }) t l m o → IsWhole a → IsWhole b
    → Performs z d k need a yes' → Performs z d k need b no' → Stands z.ground z.sites (record { at = p; due = Some at }) (chosen_or test a b h ws).pieces q
    → IsFront (chosen_or test a b h ws).wants z.wants → pos q ≤ z.rate.step → t.now.top + k + need ≤ t.now.stack → t.left ≤ d
    → Follows z.ground z.rate z.rate.step 2 3 (tally_with l t) m (Completes z.setting q k t.now m) (Leaving z.setting z.exits k t.now m)
    (then_go o (λ c v. code_dropped (if c then yes' v else no' v)))
either_inside z d k need h ws at test a b o yes' no' p q t l m tests wa wb xa xb stands front pays room fuel =
    let g = z.ground in
    let w = z.rate in
    let st = z.setting in
    let i1 = suc (suc h) in
    let tested = test h i1 ws in
    let i2 = i1 + tested.marks in
    let one = a i2 tested.wants in
    let i3 = i1 + (tested.marks + one.marks + 0 + 0) in
    let two = b i3 one.wants in
    let first : Point = record { at = p; due = Some at } in
    let cut = stand_in_order g z.sites tested.pieces (one.pieces ++ (BR (suc h) ∷ Mark h ∷ (two.pieces ++ Mark (suc h) ∷ []))) first q ((tests.whole h).closed i1 ws)
    (subst (λ (ps : List Piece). Stands g z.sites first ps q) (either_joined tested.pieces one.pieces two.pieces (BR (suc h)) (Mark h) (Mark (suc h))) stands) in
    let side = stand_in_order g z.sites one.pieces (BR (suc h) ∷ Mark h ∷ (two.pieces ++ Mark (suc h) ∷ [])) (on cut.0) q (wa.closed i2 tested.wants) cut.2 in
    let branch = side.2 in
    let other = mark_ends g z.sites two.pieces (suc h) (on branch.0) q (wb.closed i3 one.wants) branch.2.2 in
    let before = cut.3 in
    let upto = side.3 in
    let rise = branch.1.rise in
    let behind = stands_le g z.sites two.pieces (on branch.0) q other.0 in
    let wants_one = front_on one.wants two.wants z.wants (wb.keeps i3 one.wants) front in
    let wants_test = front_on tested.wants one.wants z.wants (wa.keeps i2 tested.wants) wants_one in
    let condition = tests.follows h i1 ws cut.0 cut.1 wants_test in
    settles_completes z w.step 2 3 k q t l m (then_go o (λ c v. code_dropped (if c then yes' v else no' v)))
    (subst (λ (y : Outcome (Unit {0})). Follows g w w.step 2 3 (tally_with l t) m (Settles st q k t.now m) (Leaving st z.exits k t.now m) y)
    (sym (sides_same o yes' no'))
    (widen g w (pos cut.0 - pos p + (pos branch.0 - pos side.0)) 1 3 w.step 2 3 (tally_with l t) m (Settles st q k t.now m) (Leaving st z.exits k t.now m)
    (then_go o (λ c v. if c then code_dropped (yes' v) else code_dropped (no' v)))
    (control.choices g w st z.exits (pos cut.0 - pos p) (pos branch.0 - pos side.0) cut.0 (z.sites.marks h) q k (tally_with l t) m t.now m o
    (λ v. code_dropped (yes' v)) (λ v. code_dropped (no' v)) condition
    (λ s n truth less. first_side z d k need i2 tested.wants a yes' cut.0 side.0 branch.0 q (suc h) t m xa side.1 wants_one
    (omega (arith, rise, behind, pays)) branch.1 other.1 room fuel s n truth.0 less)
    (λ s n truth less. widen g w 0 3 3 (pos branch.0 - pos side.0) 3 0 (tally s) n (Settles st q k t.now m) (Leaving st z.exits k t.now m) (code_dropped (no' s))
    (side_follows z d k need i3 one.wants b no' branch.0 q t m xb other.0 front pays room fuel s n
    (subst (λ (y : Spot). Arrives st y k t.now m s n) branch.2.0 truth.0) less)
    (omega arith) (omega arith) (omega arith)))
    (omega (arith, before, upto, rise, behind, pays)) (omega arith) (omega arith)))

pub eithers : EitherPerforms
eithers z d k need number at test a b value yes' no' tests wa wb xa xb = record {
  does = λ h ws p q s m stands front pays begins.
      statements_begin_noted z.ground z.rate z.setting z.exits d number at p q k need s m
      (λ u. then_go (decided value u) (λ c v. code_dropped (if c then yes' v else no' v))) begins
      (λ t same fewer ready. either_inside z d k need (h + 0) ws at test a b (decided value t) yes' no' p q t s.begun m
      (decides_tests z d k need test value (record { at = p; due = Some at }) t s.begun m tests ready) wa wb xa xb stands.1 front pays ready.room ready.fuel);
}
