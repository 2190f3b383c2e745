-- FOR: behind the head, step and limit are put on top of the address, and the turns follow.
use Rattle.std.proofs.Common.{◌≡◌, ℕ, suc, ◌+◌, ◌-◌, ◌≤◌, true, false, List, [], ◌∷◌, ◌++◌, length, refl, subst, arith}
use Rattle.std.specs.Prelude.{Some}
use Rattle.spl_choices.specs.hp_instr.declared.instruction.Instr.TheVariants as i
use Rattle.spl_choices.specs.hp_session.State.{Machine}
use Rattle.spl_choices.specs.spl_tree.declared.names_and_places.At.{At}
use Rattle.spl_choices.specs.spl_branch.declared.pieces.Piece.{Piece}
use Rattle.spl_choices.specs.spl_branch.declared.pieces.Piece.TheVariants.{Begin, Mark}
use Rattle.spl_choices.specs.spl_meaning.Elements.{with_one}
use Rattle.spl_choices.specs.spl_meaning.Laws.{IsFront}
use Rattle.spl_choices.specs.spl_meaning.References.{Setting}
use Rattle.spl_choices.specs.spl_meaning.States.{State, Begun, Outcome, then_go, code_dropped}
use Rattle.spl_choices.specs.spl_meaning.Statements.{counting}
use Rattle.spl_choices.specs.spl_code.Code.{as_value}
use Rattle.spl_choices.specs.spl_code.Instructions.{BR}
use Rattle.spl_choices.specs.spl_code.Parts.{Part, Wanted, pieces, piece, ◌⨟◌, with_fresh}
use Rattle.spl_choices.specs.spl_statement_code.Instructions.{TBA, MTBA}
use Rattle.spl_choices.specs.spl_statement_code.Statements.{turns}
use Rattle.spl_choices.specs.spl_follow.Spots.{Spot, pos, Point, on, Ground}
use Rattle.spl_choices.specs.spl_follow.Leading.{Leads}
use Rattle.spl_choices.specs.spl_follow.Matching.{IsValue}
use Rattle.spl_choices.specs.spl_follow.Following.{Rate, tally, tally_with, Follows, NoExit}
use Rattle.spl_choices.specs.spl_follow.Doing.{turning}
use Rattle.spl_choices.specs.spl_follow.Standing.{Sites, Stands, IsClosed}
use Rattle.spl_choices.specs.spl_follow.Parts.{Ready, Exits, Gives, Completes, Leaving}
use Rattle.spl_choices.specs.spl_follow.Simulating.{Surroundings, Simulates, Performs}
use Rattle.spl_choices.proofs.spl_follow_proofs.FollowLemmas.{bind_follows, no_exit}
use Rattle.spl_choices.proofs.spl_follow_proofs.KeepLemmas.{values_join, value_ready}
use Rattle.spl_choices.proofs.spl_follow_proofs.PartLemmas.{stand_in_order, statements_begin_noted}
use Rattle.spl_choices.proofs.spl_follow_proofs.StandLemmas.{closed_last}
use Rattle.spl_choices.specs.spl_control.Laws.{Settles}
use Rattle.spl_tops.specs.spl_values.Reached.{IsWhole}
use Rattle.spl_tops.proofs.spl_values_proofs.SumLemmas.{front_on}
use Rattle.spl_tops.proofs.spl_values_proofs.WholeLemmas.{whole_pieces, whole_then, whole_mark, whole_fresh, whole_behind}
use Rattle.spl_choices.proofs.spl_conditions_proofs.BranchLemmas.{branch_leads}
use Rattle.spl_choices.proofs.PartLemmas.{mark_ends, body_follows, settles_completes, begun_whole}
use Rattle.spl_counts.specs.Laws.{leaving_at_most, Addressed, Heads, CountsPerform}
use Rattle.spl_counts.proofs.TestLemmas.{counter}
use Rattle.spl_counts.proofs.TurnLemmas.{first_follows}

-- ---- what stands before the turns

-- what is meant behind limit, step and store
abbrev behind_limit : ℕ → (State → Outcome (Unit {0})) → ℕ → List ℕ → List ℕ → State → Outcome (Unit {0})
behind_limit d body a us ws s = with_one us s (λ by t. with_one ws t (λ to v. counting (suc d) (counter a) by to body v))

abbrev behind_step : ℕ → (State → Outcome (List ℕ)) → (State → Outcome (Unit {0})) → ℕ → List ℕ → State → Outcome (Unit {0})
behind_step d last body a us s = then_go (last s) (λ ws t. behind_limit d body a us ws t)

abbrev behind_store : ℕ → (State → Outcome (List ℕ)) → (State → Outcome (List ℕ)) → (State → Outcome (Unit {0})) → ℕ → State → Outcome (Unit {0})
behind_store d step last body a s = then_go (step s) (λ us t. behind_step d last body a us t)

abbrev behind_first : ℕ → (List ℕ → State → Outcome ℕ) → (State → Outcome (List ℕ)) → (State → Outcome (List ℕ)) → (State → Outcome (Unit {0})) → List ℕ → State
    → Outcome (Unit {0})
behind_first d head step last body vs s = then_go (head vs s) (λ a t. behind_store d step last body a t)

-- The parts one after another, where they stand and are followed; t and m are where the FOR began.
module _ (g : Ground) (w : Rate) (sites : Sites) (st : Setting) (x : Exits) (d k need one two : ℕ) (head : List ℕ → State → Outcome ℕ)
    (enough1 : one + 1 ≤ need) (enough2 : two + 2 ≤ need) (first step last : State → Outcome (List ℕ)) (body : State → Outcome (Unit {0}))
    (p : Point) (r1 r3 r4 r5 q : Spot) (up1 : pos p.at ≤ pos r1) (up3 : pos r1 ≤ pos r3) (up4 : pos r3 ≤ pos r4) (up5 : pos r4 ≤ pos r5) (pays : pos r5 ≤ w.step)
    (t : State) (l : List Begun) (m : Machine)
    (heads : (vs : List ℕ) (s : State) (n : Machine) → IsValue st r1 1 k t.now m vs s n
    → Follows g w (pos r3 - pos r1) 0 w.reach (tally s) n (Addressed st r3 k t.now m) NoExit (head vs s)) (ready : Ready st d p k need t l m) (value : Gives g w st sites.marks as_value 1 p r1 k t l m (first t))
    (steps : (s : State) (n : Machine) → Ready st d (on r3) (k + 1) one s s.begun n → Gives g w st sites.marks as_value 1 (on r3) r4 (k + 1) s s.begun n (step s))
    (lasts : (s : State) (n : Machine) → Ready st d (on r4) (k + 2) two s s.begun n → Gives g w st sites.marks as_value 1 (on r4) r5 (k + 2) s s.begun n (last s))
    (counts : (a by to : ℕ) (s : State) (n : Machine) → s.left ≤ d → IsValue st r5 3 k t.now m (a ∷ by ∷ to ∷ []) s n
    → Follows g w 0 1 3 (tally s) n (Settles st q k t.now m) (Leaving st x k t.now m) (counting (suc d) (counter a) by to body s)) where
  -- what is promised of each part
  abbrev Ends : ℕ → ℕ → State → Machine → Outcome (Unit {0}) → Type 0
  Ends c lag s n o = Follows g w c lag 3 (tally s) n (Settles st q k t.now m) (Leaving st x k t.now m) o

  limit_behind : (a : ℕ) (us ws : List ℕ) → length us ≡ 1 → length ws ≡ 1 → (s : State) (n : Machine) → s.left ≤ d
      → IsValue st r5 3 k t.now m (a ∷ (us ++ ws)) s n → Ends 0 1 s n (behind_limit d body a us ws s)
  limit_behind a (u ∷ []) (v ∷ []) e f s n fuel y = counts a u v s n fuel y
  limit_behind a [] ws e f s n fuel y = absurd (omega (arith, e))
  limit_behind a (u ∷ u' ∷ us) ws e f s n fuel y = absurd (omega (arith, e))
  limit_behind a (u ∷ []) [] e f s n fuel y = absurd (omega (arith, f))
  limit_behind a (u ∷ []) (v ∷ v' ∷ vs) e f s n fuel y = absurd (omega (arith, f))

  step_behind : (a : ℕ) (us : List ℕ) → length us ≡ 1 → (s : State) (n : Machine) → s.left ≤ t.left → IsValue st r4 2 k t.now m (a ∷ us) s n
      → Ends (pos r5 - pos r4) 1 s n (behind_step d last body a us s)
  step_behind a us e s n fewer y =
      let many = w.enough in
      let fuel = ready.fuel in
      bind_follows g w (pos r5 - pos r4) 1 w.reach 0 1 3 (pos r5 - pos r4) 1 3 (tally s) n (IsValue st r5 1 (k + 2) s.now n) (Settles st q k t.now m)
      (Leaving st x k t.now m) (last s) (λ ws v. behind_limit d body a us ws v)
      (no_exit g w (pos r5 - pos r4) 1 w.reach (tally s) n (IsValue st r5 1 (k + 2) s.now n) (Leaving st x k t.now m) (last s)
      (lasts s n (value_ready st d p r4 k need 2 two t l m (a ∷ us) s n ready y fewer (omega (arith, enough2)))))
      (λ ws v n1 z less. limit_behind a us ws e z.wide v n1 (omega (arith, fuel, fewer, less)) (values_join st r4 r5 2 1 k t.now m (a ∷ us) ws s n v n1 y z))
      (omega arith) (omega arith) (omega (arith, many)) (omega (arith, many))

  head_behind : (a : ℕ) (s : State) (n : Machine) → s.left ≤ t.left → IsValue st r3 1 k t.now m (a ∷ []) s n
      → Ends (pos r5 - pos r3) 1 s n (behind_store d step last body a s)
  head_behind a s n fewer y =
      let many = w.enough in
      bind_follows g w (pos r4 - pos r3) 1 w.reach (pos r5 - pos r4) 1 3 (pos r5 - pos r3) 1 3 (tally s) n (IsValue st r4 1 (k + 1) s.now n)
      (Settles st q k t.now m) (Leaving st x k t.now m) (step s) (λ us v. behind_step d last body a us v)
      (no_exit g w (pos r4 - pos r3) 1 w.reach (tally s) n (IsValue st r4 1 (k + 1) s.now n) (Leaving st x k t.now m) (step s)
      (steps s n (value_ready st d p r3 k need 1 one t l m (a ∷ []) s n ready y fewer (omega (arith, enough1)))))
      (λ us v n1 z less. step_behind a us z.wide v n1 (omega (arith, fewer, less)) (values_join st r3 r4 1 1 k t.now m (a ∷ []) us s n v n1 y z))
      (omega (arith, up4, up5)) (omega arith) (omega (arith, many)) (omega (arith, many))

  first_behind : (vs : List ℕ) (s : State) (n : Machine) → s.left ≤ t.left → IsValue st r1 1 k t.now m vs s n
      → Ends (pos r5 - pos r1) 0 s n (behind_first d head step last body vs s)
  first_behind vs s n fewer y =
      let many = w.enough in
      bind_follows g w (pos r3 - pos r1) 0 w.reach (pos r5 - pos r3) 1 3 (pos r5 - pos r1) 0 3 (tally s) n (Addressed st r3 k t.now m) (Settles st q k t.now m)
      (Leaving st x k t.now m) (head vs s) (λ a v. behind_store d step last body a v)
      (no_exit g w (pos r3 - pos r1) 0 w.reach (tally s) n (Addressed st r3 k t.now m) (Leaving st x k t.now m) (head vs s) (heads vs s n y))
      (λ a v n1 z less. head_behind a v n1 (omega (arith, fewer, less)) z)
      (omega (arith, up3, up4, up5)) (omega arith) (omega (arith, many)) (omega (arith, many))

  pub count_follows : Follows g w w.step 2 3 (tally_with l t) m (Settles st q k t.now m) (Leaving st x k t.now m)
      (then_go (first t) (λ vs s. behind_first d head step last body vs s))
  count_follows =
      let many = w.enough in
      bind_follows g w (pos r1 - pos p.at) 1 w.reach (pos r5 - pos r1) 0 3 w.step 2 3 (tally_with l t) m (IsValue st r1 1 k t.now m) (Settles st q k t.now m)
      (Leaving st x k t.now m) (first t) (λ vs s. behind_first d head step last body vs s)
      (no_exit g w (pos r1 - pos p.at) 1 w.reach (tally_with l t) m (IsValue st r1 1 k t.now m) (Leaving st x k t.now m) (first t) value)
      (λ vs s n y less. first_behind vs s n less y)
      (omega (arith, up1, up3, up4, up5, pays)) (omega arith) (omega (arith, many)) (omega (arith, many))

-- ---- where the parts stand

-- the whole code
abbrev pub code_of : List Piece → Part → Part → Part → Part → At → Part
code_of ps a b c e at = piece (Begin at) ⨟ (a ⨟ pieces ps ⨟ b ⨟ c) ⨟ turns e

-- Behind the beginning: the parts are where the code has them, and the turns behind them.
count_inside : (z : Surroundings) (d k need one two three h : ℕ) (ws : List Wanted) (at : At) (ps : List Piece) (head : List ℕ → State → Outcome ℕ) (a b c e : Part)
    (first step last : State → Outcome (List ℕ)) (body : State → Outcome (Unit {0})) (p q : Spot) (t : State) (l : List Begun) (m : Machine)
    → Heads z k ps head → one + 1 ≤ need → two + 2 ≤ need → three + 3 ≤ need → IsWhole a → IsWhole b → IsWhole c → IsWhole e
    → Simulates z d as_value 1 k need a first → Simulates z d as_value 1 (k + 1) one b step → Simulates z d as_value 1 (k + 2) two c last
    → Performs (leaving_at_most k z) d (k + 3) three e body
    → Stands z.ground z.sites (on p) (code_of ps a b c e at h ws).pieces q
    → IsFront (code_of ps a b c e at h ws).wants z.wants
    → pos q ≤ z.rate.step → Ready z.setting d (record { at = p; due = Some at }) k need t l m
    → Follows z.ground z.rate z.rate.step 2 3 (tally_with l t) m (Completes z.setting q k t.now m) (Leaving z.setting z.exits k t.now m)
    (then_go (first t) (λ vs s. behind_first d head step last (λ v. code_dropped (body v)) vs s))
count_inside z d k need one two three h ws at ps head a b c e first step last body p q t l m hd enough1 enough2 enough3 wa wb wc we sa sb sc performs stands front pays ready =
    let g = z.ground in
    let w = z.rate in
    let st = z.setting in
    let start : Point = record { at = p; due = Some at } in
    let i0 = h + 0 in
    let xa = a i0 ws in
    let ib = i0 + (xa.marks + 0) in
    let xb = b ib xa.wants in
    let ic = i0 + (xa.marks + 0 + xb.marks) in
    let xc = c ic xb.wants in
    let it = h + (0 + (xa.marks + 0 + xb.marks + xc.marks)) in
    let ie = suc (suc it) + (0 + 0 + 0) in
    let xe = e ie xc.wants in
    let c5 = stand_in_order g z.sites (((xa.pieces ++ ps) ++ xb.pieces) ++ xc.pieces) (turns e it xc.wants).pieces start q
    (closed_last ((xa.pieces ++ ps) ++ xb.pieces) xc.pieces (wc.closed ic xb.wants)) stands.1 in
    let c4 = stand_in_order g z.sites ((xa.pieces ++ ps) ++ xb.pieces) xc.pieces start c5.0
    (closed_last (xa.pieces ++ ps) xb.pieces (wb.closed ib xa.wants)) c5.1 in
    let c3 = stand_in_order g z.sites (xa.pieces ++ ps) xb.pieces start c4.0 (closed_last xa.pieces ps hd.closed) c4.1 in
    let c1 = stand_in_order g z.sites xa.pieces ps start c3.0 (wa.closed i0 ws) c3.1 in
    let up3 = hd.rise c1.0 c3.0 c1.2 in
    let test = c5.2 in
    let over = test.2 in
    let again : z.sites.marks it ≡ over.0 = over.2.0 in
    let end = mark_ends g z.sites (xe.pieces ++ MTBA it ∷ []) (suc it) (on over.0) q (closed_last xe.pieces (MTBA it ∷ []) refl) over.2.2 in
    let cb = stand_in_order g z.sites xe.pieces (MTBA it ∷ []) (on over.0) q (we.closed ie xc.wants) end.0 in
    let front_c = front_on xc.wants xe.wants z.wants (we.keeps ie xc.wants) front in
    let front_b = front_on xb.wants xc.wants z.wants (wc.keeps ic xb.wants) front_c in
    let front_a = front_on xa.wants xb.wants z.wants (wb.keeps ib xa.wants) front_b in
    let u1 = c1.3 in
    let u4 = c3.4 in
    let u5 = c4.4 in
    let uq = c5.4 in
    let ue = cb.3 in
    let uz = cb.4 in
    let ua = test.1.rise in
    let ub = over.1.rise in
    let room = ready.room in
    let fuel = ready.fuel in
    settles_completes z w.step 2 3 k q t l m (then_go (first t) (λ vs s. behind_first d head step last (λ v. code_dropped (body v)) vs s))
    (count_follows g w z.sites st z.exits d k need one two head enough1 enough2 first step last (λ v. code_dropped (body v)) start
    c1.0 c3.0 c4.0 c5.0 q u1 up3 u4 u5 (omega (arith, uq, pays)) t l m
    (λ vs s n y. hd.does c1.0 c3.0 vs s n t.now m c1.2 y (omega (arith, room, enough3))) ready
    (sa.does i0 ws start c1.0 t l m c1.1 front_a ready)
    (λ s n r. sb.does ib xa.wants (on c3.0) c4.0 s s.begun n c3.2 front_b r)
    (λ s n r. sc.does ic xb.wants (on c4.0) c5.0 s s.begun n c4.2 front_c r)
    (λ v by to s n less y. first_follows g w st z.exits d three k v by to over.0 cb.0 q t.now m (λ v. code_dropped (body v))
    (subst (λ (y : Spot). Leads g (on cb.0) q (turning (i.Loop true false 0) y q)) again (branch_leads g z.sites (on cb.0) (i.Loop true false 0) it q cb.2))
    (omega (arith, pays)) (omega (arith, room, enough3))
    (λ s n b. body_follows (leaving_at_most k z) d (k + 3) three ie xc.wants e body over.0 cb.0 s n performs cb.1 front (omega (arith, uz, pays)) b)
    c5.0 test.0 (subst (λ (y : Spot). Leads g (on c5.0) test.0 (turning (i.Loop false false 0) y test.0)) again test.1)
    (subst (λ (y : Spot). Leads g (on test.0) over.0 (turning (i.Branch false false 0) y over.0)) end.1 over.1)
    (omega (arith, ua, ub, ue, uz, pays)) s n less y))

pub counts : CountsPerform
counts z d k need one two three number at ps head a b c e first step last body hd enough1 enough2 enough3 wa wb wc we sa sb sc performs = record {
  does = λ h ws p q s m stands front pays begins.
      statements_begin_noted z.ground z.rate z.setting z.exits d number at p q k need s m
      (λ u. then_go (first u) (λ vs v. behind_first d head step last (λ t. code_dropped (body t)) vs v)) begins
      (λ t same fewer ready. count_inside z d k need one two three h ws at ps head a b c e first step last body p q t s.begun m hd enough1 enough2 enough3
      wa wb wc we sa sb sc performs stands front pays ready);
}

-- ---- whole code

turns_whole : (e : Part) → IsWhole e → IsWhole (turns e)
turns_whole e whole =
    whole_fresh (λ again. with_fresh (λ end. piece (TBA again) ⨟ piece (BR end) ⨟ piece (Mark again) ⨟ e ⨟ piece (MTBA again) ⨟ piece (Mark end))) (λ again.
    whole_fresh (λ end. piece (TBA again) ⨟ piece (BR end) ⨟ piece (Mark again) ⨟ e ⨟ piece (MTBA again) ⨟ piece (Mark end)) (λ end.
    whole_mark (piece (TBA again) ⨟ piece (BR end) ⨟ piece (Mark again) ⨟ e ⨟ piece (MTBA again)) end
    (whole_behind (piece (TBA again) ⨟ piece (BR end) ⨟ piece (Mark again) ⨟ e) (MTBA again ∷ [])
    (whole_then (piece (TBA again) ⨟ piece (BR end) ⨟ piece (Mark again)) e
    (whole_mark (piece (TBA again) ⨟ piece (BR end)) again
    (whole_behind (piece (TBA again)) (BR end ∷ []) (whole_pieces (TBA again ∷ []) refl) refl)) whole) refl)))

-- a FOR is whole where its parts are
pub count_whole : (ps : List Piece) (a b c e : Part) (at : At) → IsClosed ps → IsWhole a → IsWhole b → IsWhole c → IsWhole e → IsWhole (code_of ps a b c e at)
count_whole ps a b c e at closed wa wb wc we =
    whole_then (piece (Begin at) ⨟ (a ⨟ pieces ps ⨟ b ⨟ c)) (turns e)
    (begun_whole at (a ⨟ pieces ps ⨟ b ⨟ c)
    (whole_then (a ⨟ pieces ps ⨟ b) c (whole_then (a ⨟ pieces ps) b (whole_behind a ps wa closed) wb) wc)) (turns_whole e we)
