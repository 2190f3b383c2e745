-- WHILE and DO: a statement begins, and each turn of its loop is followed; the step of a turn pays for its test and the branch back.
use Rattle.std.proofs.Common.{◌≡◌, ℕ, suc, ◌+◌, ◌-◌, ◌≤◌, false, List, [], ◌∷◌, ◌++◌, refl, sym, ap, subst, arith}
use Rattle.std.specs.Prelude.{Option}
use Rattle.spl_statement_code.specs.hp_word.declared.arithmetic.Code.{Code}
use Rattle.spl_control.specs.hp_session.State.{Machine}
use Rattle.spl_statement_code.specs.spl_branch.declared.pieces.Piece.{Piece}
use Rattle.spl_statement_code.specs.spl_branch.declared.pieces.Piece.TheVariants.{Mark}
use Rattle.spl_statement_code.specs.spl_meaning.Laws.{IsFront}
use Rattle.spl_statement_code.specs.spl_meaning.States.{State, Outcome, code_dropped}
use Rattle.spl_statement_code.specs.spl_meaning.Statements.{looping, repeating}
use Rattle.spl_statement_code.specs.spl_code.Instructions.{BR}
use Rattle.spl_statement_code.specs.spl_code.Parts.{Part, Wanted}
use Rattle.spl_statement_code.specs.Statements.{repeated_while, repeated_until}
use Rattle.spl_control.specs.spl_follow.Spots.{Spot, pos, on}
use Rattle.spl_control.specs.spl_follow.Matching.{Coded}
use Rattle.spl_control.specs.spl_follow.Following.{tally, Follows, NoExit}
use Rattle.spl_control.specs.spl_follow.Standing.{Stands}
use Rattle.spl_control.specs.spl_follow.Parts.{Ready, Truth, Completes, Leaving}
use Rattle.spl_control.specs.spl_follow.Simulating.{Surroundings, Performs}
use Rattle.spl_control.proofs.spl_follow_proofs.FollowLemmas.{widen, then_follows}
use Rattle.spl_control.proofs.spl_follow_proofs.KeepLemmas.{kept_same, arrives_begins}
use Rattle.spl_control.proofs.spl_follow_proofs.PartLemmas.{stand_in_order, statements_begin_plain}
use Rattle.spl_control.proofs.spl_follow_proofs.RowLemmas.{row_idle}
use Rattle.spl_control.specs.Laws.{Settles}
use Rattle.spl_control.proofs.ControlLemmas as control
use Rattle.spl_conditions.specs.spl_values.Reached.{IsWhole}
use Rattle.spl_conditions.proofs.spl_values_proofs.SumLemmas.{front_on}
use Rattle.spl_choices.specs.Laws.{decided, Decides, WhilePerforms, UntilPerforms}
use Rattle.spl_choices.proofs.PartLemmas.{branch_ends, test_follows, body_follows, settles_after, settles_completes}

-- ---- WHILE

-- the test, the body, and what stands behind both
while_joined : (ts bs : List Piece) (x y : Piece) → (((ts ++ bs) ++ (x ∷ [])) ++ (y ∷ [])) ≡ ts ++ (bs ++ (x ∷ y ∷ []))
while_joined [] [] x y = refl
while_joined [] (b ∷ bs) x y = ap (λ (ps : List Piece). b ∷ ps) (while_joined [] bs x y)
while_joined (t ∷ ts) bs x y = ap (λ (ps : List Piece). t ∷ ps) (while_joined ts bs x y)

-- Behind the beginning: the loop from its mark on, which stands where the statement does.
while_inside : (z : Surroundings) (d k need h : ℕ) (ws : List Wanted) (test : ℕ → Part) (a : Part) (value : State → Outcome (List ℕ))
    (body : State → Outcome (Unit {0})) (p q : Spot) (t : State) (m : Machine) → Decides z d k need test value → IsWhole a → Performs z d k need a body
    → Stands z.ground z.sites (on p) (repeated_while test a h ws).pieces q → IsFront (repeated_while test a h ws).wants z.wants → pos q ≤ z.rate.step
    → Ready z.setting d (on p) k need t t.begun m
    → Follows z.ground z.rate z.rate.step 2 3 (tally t) m (Completes z.setting q k t.now m) (Leaving z.setting z.exits k t.now m)
    (looping (suc d) (λ v. decided value v) (λ v. code_dropped (body v)) t)
while_inside z d k need h ws test a value body p q t m tests whole x stands front pays ready =
    let g = z.ground in
    let w = z.rate in
    let st = z.setting in
    let i1 = suc (suc h) + 0 in
    let tested = test (suc h) i1 ws in
    let i2 = suc (suc h) + (0 + tested.marks) in
    let inner = a i2 tested.wants in
    let cut = stand_in_order g z.sites tested.pieces (inner.pieces ++ (BR h ∷ Mark (suc h) ∷ [])) (on p) q ((tests.whole (suc h)).closed i1 ws)
    (subst (λ (ps : List Piece). Stands g z.sites (on p) ps q) (while_joined tested.pieces inner.pieces (BR h) (Mark (suc h))) stands.2) in
    let side = stand_in_order g z.sites inner.pieces (BR h ∷ Mark (suc h) ∷ []) (on cut.0) q (whole.closed i2 tested.wants) cut.2 in
    let end = branch_ends g z.sites side.0 q p h (suc h) stands.0 side.2 in
    let before = cut.3 in
    let upto = side.3 in
    let last = side.4 in
    let fuel = ready.fuel in
    let wants_test = front_on tested.wants inner.wants z.wants (whole.keeps i2 tested.wants) front in
    let inner_pays : pos side.0 ≤ w.step = omega (arith, last, pays) in
    settles_completes z w.step 2 3 k q t t.begun m (looping (suc d) (λ v. decided value v) (λ v. code_dropped (body v)) t)
    (widen g w 0 2 3 w.step 2 3 (tally t) m (Settles st q k t.now m) (Leaving st z.exits k t.now m)
    (looping (suc d) (λ v. decided value v) (λ v. code_dropped (body v)) t)
    (control.loops g w st z.exits d need k p cut.0 side.0 q false 0 (λ v. decided value v) (λ v. code_dropped (body v)) end.0
    (omega (arith, before, upto, last, pays))
    (λ s n r. subst (λ (y : Spot). Follows g w (pos cut.0 - pos p) 1 w.reach (tally s) n (Truth st cut.0 y k s.now n) NoExit (decided value s)) end.1
    (test_follows z d k need (suc h) i1 ws test value (on p) cut.0 s s.begun n tests cut.1 wants_test r))
    (λ s n b. body_follows z d k need i2 tested.wants a body cut.0 side.0 s n x side.1 front inner_pays b)
    (suc d) t m (omega (arith, fuel)) ready)
    (omega arith) (omega arith) (omega arith))

pub whiles : WhilePerforms
whiles z d k need test a value body tests whole x = record {
  does = λ h ws p q s m stands front pays b.
      statements_begin_plain z.ground z.rate z.setting z.exits d p q k need s m (λ u. looping (suc d) (λ v. decided value v) (λ v. code_dropped (body v)) u) b
      (λ t same fewer ready. while_inside z d k need h ws test a value body p q t m tests whole x stands front pays ready);
}

-- ---- DO

-- Behind the beginning: the word of the statement, and then the loop from its mark on.
until_inside : (z : Surroundings) (d k need h : ℕ) (ws : List Wanted) (test : ℕ → Part) (a : Part) (value : State → Outcome (List ℕ))
    (body : State → Outcome (Unit {0})) (p q : Spot) (t : State) (m : Machine) → Decides z d k need test value → IsWhole a → Performs z d k need a body
    → Stands z.ground z.sites (on p) (repeated_until a test h ws).pieces q → IsFront (repeated_until a test h ws).wants z.wants → pos q ≤ z.rate.step
    → Ready z.setting d (on p) k need t t.begun m
    → Follows z.ground z.rate z.rate.step 2 3 (tally t) m (Completes z.setting q k t.now m) (Leaving z.setting z.exits k t.now m)
    (repeating (suc d) (λ v. decided value v) (λ v. code_dropped (body v)) t)
until_inside z d k need h ws test a value body p q t m tests whole x stands front pays ready =
    let g = z.ground in
    let w = z.rate in
    let st = z.setting in
    let many = w.enough in
    let i1 = suc h + (0 + 0) in
    let inner = a i1 ws in
    let i2 = suc h + (0 + 0 + inner.marks) in
    let tested = test h i2 inner.wants in
    let top : Spot = stands.0 in
    let cut = stand_in_order g z.sites inner.pieces tested.pieces (on top) q (whole.closed i1 ws) stands.2.2 in
    let again : z.sites.marks h ≡ top = stands.2.0 in
    let rise = stands.1.rise in
    let upto = cut.3 in
    let last = cut.4 in
    let room = ready.room in
    let fuel = ready.fuel in
    let first = row_idle g w (on p) top st t.begun t m t.now m k stands.1 ready.at refl ready.matches (kept_same (t.now.top + k) t.now m.stack)
    (subst (λ (c : Option Code). Coded c m.regs.code) (sym ready.silent) tt) in
    let begins = arrives_begins st d top k k need need t m t first.0 room fuel first.2 (omega arith) (omega arith) in
    let wants_body = front_on inner.wants tested.wants z.wants ((tests.whole h).keeps i2 inner.wants) front in
    let inner_pays : pos cut.0 ≤ w.step = omega (arith, last, pays) in
    let turns = control.repeats g w st z.exits d need k top cut.0 q (λ v. decided value v) (λ v. code_dropped (body v)) (omega (arith, pays))
    (λ s n b. body_follows z d k need i1 ws a body top cut.0 s n x cut.1 wants_body inner_pays b)
    (λ s n r. subst (λ (y : Spot). Follows g w (pos q - pos cut.0) 1 w.reach (tally s) n (Truth st q y k s.now n) NoExit (decided value s)) again
    (test_follows z d k need h i2 inner.wants test value (on cut.0) q s s.begun n tests cut.2 front r))
    (suc d) t first.0 (omega (arith, fuel)) begins in
    settles_completes z w.step 2 3 k q t t.begun m (repeating (suc d) (λ v. decided value v) (λ v. code_dropped (body v)) t)
    (then_follows g w (pos top - pos p) 0 w.reach 0 3 3 w.step 2 3 (tally t) m (tally t) first.0 (Settles st q k t.now m) (Leaving st z.exits k t.now m)
    (repeating (suc d) (λ v. decided value v) (λ v. code_dropped (body v)) t) first.1
    (settles_after z 0 3 3 k q t.now m t first.0 (repeating (suc d) (λ v. decided value v) (λ v. code_dropped (body v)) t) first.2.kept turns)
    (omega (arith, rise, upto, last, pays)) (omega (arith, many)) (omega (arith, many)))

pub untils : UntilPerforms
untils z d k need test a value body tests whole x = record {
  does = λ h ws p q s m stands front pays b.
      statements_begin_plain z.ground z.rate z.setting z.exits d p q k need s m (λ u. repeating (suc d) (λ v. decided value v) (λ v. code_dropped (body v)) u) b
      (λ t same fewer ready. until_inside z d k need h ws test a value body p q t m tests whole x stands front pays ready);
}
