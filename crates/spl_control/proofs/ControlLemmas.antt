-- Choices, loops and jumps, by the outcomes of their parts.
use Rattle.std.proofs.Common.{◌≡◌, ℕ, zero, suc, ◌+◌, ◌-◌, ◌*◌, ◌≤◌, ◌<◌, Bool, true, false, List, refl, ap, subst, arith, inl}
use Rattle.std.specs.Prelude.{min, nat_lt, if◌then◌else◌}
use Rattle.std.proofs.lemmas.Bool.{ltb-true, ltb-false}
use Rattle.spl_follow.specs.hp_instr.declared.instruction.Instr.TheVariants as i
use Rattle.spl_follow.specs.hp_session.State.{Machine}
use Rattle.spl_follow.specs.spl_meaning.References.{Setting}
use Rattle.spl_follow.specs.spl_meaning.Statements.{looping, repeating, landing}
use Rattle.spl_follow.specs.spl_meaning.States.{Data, State, Exit, to_label, back, Outcome, done, leaves, spent, ends, strays, then_go, stepping}
use Rattle.spl_follow.specs.Spots.{Spot, pos, on, Ground}
use Rattle.spl_follow.specs.Leading.{Leads}
use Rattle.spl_follow.specs.Matching.{Kept, Arrives}
use Rattle.spl_follow.specs.Following.{Rate, Tally, tally, Follows, NoExit}
use Rattle.spl_follow.specs.Doing.{turning}
use Rattle.spl_follow.specs.Parts.{Ready, Begins, Truth, Exits, Completes, Leaving}
use Rattle.spl_follow.proofs.WayLemmas.{goes_none}
use Rattle.spl_follow.proofs.FollowLemmas.{then_follows, bind_follows, widen, weaken, no_exit, spend_follows}
use Rattle.spl_follow.proofs.KeepLemmas.{arrives_after, arrives_ready, arrives_begins}
use Rattle.spl_follow.proofs.RowLemmas.{shown, row_branches}
use Rattle.spl_control.specs.Laws.{Settles, ChoicesFollow, LoopsFollow, RepeatsFollow, LeavesBelow, bearing, LandingsFollow}

-- ---- choices

pub choices : ChoicesFollow
choices g w st x c a r fails q k t m d0 m0 test yes' no' f on_yes on_no =
    let many = w.enough in
    bind_follows g w c 1 w.reach a 3 0 (c + a) 1 3 t m (Truth st r fails k d0 m0) (Settles st q k d0 m0) (Leaving st x k d0 m0) test
    (λ b s. if b then yes' s else no' s) (no_exit g w c 1 w.reach t m (Truth st r fails k d0 m0) (Leaving st x k d0 m0) test f) side
    (omega arith) (omega arith) (omega (arith, many)) (omega (arith, many)) where
      side : (b : Bool) (s : State) (n : Machine) → Truth st r fails k d0 m0 b s n → s.left ≤ t.left
          → Follows g w a 3 0 (tally s) n (Settles st q k d0 m0) (Leaving st x k d0 m0) (if b then yes' s else no' s)
      side true s n h less = on_yes s n h less
      side false s n h less = on_no s n h less

-- ---- loops

-- what holds behind a part holds of what it began with
settled_after : (st : Setting) (q : Spot) (k : ℕ) (d : Data) (m : Machine) (e : Data) (m1 : Machine) (u : Unit {0}) (s : State) (n : Machine)
    → Kept (d.top + k) d m.stack e m1.stack → Settles st q k e m1 u s n → Settles st q k d m u s n
settled_after st q k d m e m1 u s n before h = (arrives_after st q k k d m e m1 s n (omega arith) before h.0, h.1)

left_after : (st : Setting) (x : Exits) (k : ℕ) (d : Data) (m : Machine) (e : Data) (m1 : Machine) (y : Exit) (s : State) (n : Machine)
    → Kept (d.top + k) d m.stack e m1.stack → Leaving st x k e m1 y s n → Leaving st x k d m y s n
left_after st x k d m e m1 y s n before h = arrives_after st (x.target y) k (min (x.held y) k) d m e m1 s n (omega arith) before h

-- One turn: the step, the test, the body, the branch, and then the loop again.
module _ (g : Ground) (w : Rate) (st : Setting) (x : Exits) (d need k : ℕ) (next r b q : Spot) (back' : Bool) (by : ℕ)
    (test : State → Outcome Bool) (body : State → Outcome (Unit {0})) (leads : Leads g (on b) q (turning (i.Branch false back' by) next q))
    (pays : (pos r - pos next) + (pos q - pos b) ≤ w.step)
    (tested : (s : State) (m : Machine) → Ready st d (on next) k need s s.begun m
    → Follows g w (pos r - pos next) 1 w.reach (tally s) m (Truth st r q k s.now m) NoExit (test s))
    (does : (s : State) (m : Machine) → Begins st d r k need s m
    → Follows g w 0 3 3 (tally s) m (Settles st b k s.now m) (Leaving st x k s.now m) (body s)) where
  -- what a loop of so many turns at most promises from its mark on
  abbrev Turns : ℕ → State → Machine → Type 0
  Turns fuel s m = Follows g w 0 2 3 (tally s) m (Settles st q k s.now m) (Leaving st x k s.now m) (looping fuel test body s)

  turn : (fuel : ℕ) (s : State) (m : Machine) → Ready st d (on next) k need s s.begun m
      → ((t : State) (n : Machine) → t.left < s.left → Ready st d (on next) k need t t.begun n → Turns fuel t n) → Turns (suc fuel) s m
  turn fuel s m ready again =
      spend_follows g w w.step 1 0 2 3 s s.begun m (Settles st q k s.now m) (Leaving st x k s.now m)
      (λ s1. then_go (test s1) (λ c s2. if c then then_go (body s2) (λ _ s3. looping fuel test body s3) else done tt s2))
      (shown st s m k ready.matches) (inl refl) (λ n is. inside n is) (omega arith) (omega arith) where
        room : s.now.top + k + need ≤ s.now.stack
        room = ready.room

        fuels : s.left ≤ d
        fuels = ready.fuel

        many : 8 ≤ w.reach
        many = w.enough

        -- behind the body: the branch, and the next turn
        behind : (s2 : State) (m2 : Machine) → Arrives st r k s.now m s2 m2 → s2.left < s.left → (u : Unit {0}) (s3 : State) (m3 : Machine)
            → Settles st b k s2.now m2 u s3 m3 → s3.left ≤ s2.left
            → Follows g w (pos q - pos b) 0 3 (tally s3) m3 (Settles st q k s.now m) (Leaving st x k s.now m) (looping fuel test body s3)
        behind s2 m2 a2 few u s3 m3 h fewer =
            let branch = row_branches g w b q next back' by st s3 m3 s2.now m2 k leads h.0 in
            let a3 = arrives_after st next k k s.now m s2.now m2 s3 branch.0 (omega arith) a2.kept branch.2 in
            let next_turn = again s3 branch.0 (omega (arith, few, fewer))
            (arrives_ready st d next k k need need s m s3 branch.0 room fuels a3 h.1 (omega (arith, few, fewer)) (omega arith)) in
            then_follows g w (pos q - pos b) 0 w.reach 0 2 3 (pos q - pos b) 0 3 (tally s3) m3 (tally s3) branch.0 (Settles st q k s.now m)
            (Leaving st x k s.now m) (looping fuel test body s3) branch.1
            (weaken g w 0 2 3 (tally s3) branch.0 (Settles st q k s3.now branch.0) (Settles st q k s.now m) (Leaving st x k s3.now branch.0)
            (Leaving st x k s.now m) (looping fuel test body s3) next_turn
            (λ v t n settled less. settled_after st q k s.now m s3.now branch.0 v t n a3.kept settled)
            (λ y t n left. left_after st x k s.now m s3.now branch.0 y t n a3.kept left))
            (omega arith) (omega (arith, many)) (omega (arith, many))

        -- where the test holds the body is done; else the loop is left
        side : (c : Bool) (s2 : State) (m2 : Machine) → Truth st r q k s.now m c s2 m2 → s2.left < s.left
            → Follows g w (pos q - pos b) 3 0 (tally s2) m2 (Settles st q k s.now m) (Leaving st x k s.now m)
            (if c then then_go (body s2) (λ _ s3. looping fuel test body s3) else done tt s2)
        side true s2 m2 h few =
            bind_follows g w 0 3 3 (pos q - pos b) 0 3 (pos q - pos b) 3 0 (tally s2) m2 (Settles st b k s2.now m2) (Settles st q k s.now m)
            (Leaving st x k s.now m) (body s2) (λ _ s3. looping fuel test body s3)
            (weaken g w 0 3 3 (tally s2) m2 (Settles st b k s2.now m2) (Settles st b k s2.now m2) (Leaving st x k s2.now m2) (Leaving st x k s.now m) (body s2)
            (does s2 m2 (arrives_begins st d r k k need need s m s2 m2 room fuels h.0 (omega (arith, few)) (omega arith)))
            (λ u t n settled less. settled) (λ y t n left. left_after st x k s.now m s2.now m2 y t n h.0.kept left))
            (λ u s3 m3 settled fewer. behind s2 m2 h.0 few u s3 m3 settled fewer)
            (omega arith) (omega arith) (omega arith) (omega arith)
        side false s2 m2 h few = (m2, goes_none g w (pos q - pos b) 3 (tally s2) m2, h)

        inside : (n : ℕ) → s.left ≡ suc n
            → Follows g w w.step 1 3 (tally (record s { left = n })) m (Settles st q k s.now m) (Leaving st x k s.now m)
            (then_go (test (record s { left = n })) (λ c s2. if c then then_go (body s2) (λ _ s3. looping fuel test body s3) else done tt s2))
        inside n is =
            bind_follows g w (pos r - pos next) 1 w.reach (pos q - pos b) 3 0 w.step 1 3 (tally (record s { left = n })) m (Truth st r q k s.now m)
            (Settles st q k s.now m) (Leaving st x k s.now m) (test (record s { left = n }))
            (λ c s2. if c then then_go (body s2) (λ _ s3. looping fuel test body s3) else done tt s2)
            (no_exit g w (pos r - pos next) 1 w.reach (tally (record s { left = n })) m (Truth st r q k s.now m) (Leaving st x k s.now m)
            (test (record s { left = n })) (tested (record s { left = n }) m (record {
              at = ready.at;
              owes = refl;
              matches = ready.matches;
              silent = ready.silent;
              room = ready.room;
              fuel = omega (arith, fuels, is);
            })))
            (λ c s2 m2 h less. side c s2 m2 h (omega (arith, less, is)))
            pays (omega arith) (omega (arith, many)) (omega (arith, many))

pub loops : LoopsFollow
loops g w st x d need k next r b q back' by test body leads pays tested does zero s m less ready = absurd (omega (arith, less))
loops g w st x d need k next r b q back' by test body leads pays tested does (suc fuel) s m less ready =
    turn g w st x d need k next r b q back' by test body leads pays tested does fuel s m ready
    (λ t n few ready'. loops g w st x d need k next r b q back' by test body leads pays tested does fuel t n (omega (arith, few, less)) ready')

-- One turn: the body, the step, the test, and then the loop again where it does not hold.
module _ (g : Ground) (w : Rate) (st : Setting) (x : Exits) (d need k : ℕ) (top b q : Spot) (test : State → Outcome Bool)
    (body : State → Outcome (Unit {0})) (pays : pos q - pos b ≤ w.step)
    (does : (s : State) (m : Machine) → Begins st d top k need s m
    → Follows g w 0 3 3 (tally s) m (Settles st b k s.now m) (Leaving st x k s.now m) (body s))
    (tested : (s : State) (m : Machine) → Ready st d (on b) k need s s.begun m
    → Follows g w (pos q - pos b) 1 w.reach (tally s) m (Truth st q top k s.now m) NoExit (test s)) where
  abbrev Repeats : ℕ → State → Machine → Type 0
  Repeats fuel s m = Follows g w 0 3 3 (tally s) m (Settles st q k s.now m) (Leaving st x k s.now m) (repeating fuel test body s)

  repeat_turn : (fuel : ℕ) (s : State) (m : Machine) → Begins st d top k need s m
      → ((t : State) (n : Machine) → t.left < s.left → Begins st d top k need t n → Repeats fuel t n) → Repeats (suc fuel) s m
  repeat_turn fuel s m ready again =
      bind_follows g w 0 3 3 0 2 3 0 3 3 (tally s) m (Settles st b k s.now m) (Settles st q k s.now m) (Leaving st x k s.now m) (body s)
      (λ _ s1. stepping s1 (λ s2. then_go (test s2) (λ c s3. if c then done tt s3 else repeating fuel test body s3)))
      (does s m ready) (λ u s1 m1 h less. behind s1 m1 h less) (omega arith) (omega arith) (omega arith) (omega arith) where
        room : s.now.top + k + need ≤ s.now.stack
        room = ready.room

        fuels : s.left ≤ d
        fuels = ready.fuel

        many : 8 ≤ w.reach
        many = w.enough

        -- the loop is left where the test holds, and goes on where it does not
        side : (s1 : State) (m1 : Machine) → Arrives st b k s.now m s1 m1 → (c : Bool) (s3 : State) (m3 : Machine) → Truth st q top k s1.now m1 c s3 m3
            → s3.left < s.left
            → Follows g w 0 3 0 (tally s3) m3 (Settles st q k s.now m) (Leaving st x k s.now m)
            (if c then done tt s3 else repeating fuel test body s3)
        side s1 m1 a1 true s3 m3 h few =
            (m3, goes_none g w 0 3 (tally s3) m3, settled_after st q k s.now m s1.now m1 tt s3 m3 a1.kept h)
        side s1 m1 a1 false s3 m3 h few =
            let a3 = arrives_after st top k k s.now m s1.now m1 s3 m3 (omega arith) a1.kept h.0 in
            widen g w 0 3 3 0 3 0 (tally s3) m3 (Settles st q k s.now m) (Leaving st x k s.now m) (repeating fuel test body s3)
            (weaken g w 0 3 3 (tally s3) m3 (Settles st q k s3.now m3) (Settles st q k s.now m) (Leaving st x k s3.now m3) (Leaving st x k s.now m)
            (repeating fuel test body s3)
            (again s3 m3 few (arrives_begins st d top k k need need s m s3 m3 room fuels a3 (omega (arith, few)) (omega arith)))
            (λ v t n settled less. settled_after st q k s.now m s3.now m3 v t n a3.kept settled)
            (λ y t n left. left_after st x k s.now m s3.now m3 y t n a3.kept left))
            (omega arith) (omega arith) (omega arith)

        behind : (s1 : State) (m1 : Machine) → Settles st b k s.now m tt s1 m1 → s1.left ≤ s.left
            → Follows g w 0 2 3 (tally s1) m1 (Settles st q k s.now m) (Leaving st x k s.now m)
            (stepping s1 (λ s2. then_go (test s2) (λ c s3. if c then done tt s3 else repeating fuel test body s3)))
        behind s1 m1 h less =
            spend_follows g w w.step 1 0 2 3 s1 s1.begun m1 (Settles st q k s.now m) (Leaving st x k s.now m)
            (λ s2. then_go (test s2) (λ c s3. if c then done tt s3 else repeating fuel test body s3)) (shown st s1 m1 k h.0.matches) (inl refl)
            (λ n is. bind_follows g w (pos q - pos b) 1 w.reach 0 3 0 w.step 1 3 (tally (record s1 { left = n })) m1 (Truth st q top k s1.now m1)
            (Settles st q k s.now m) (Leaving st x k s.now m) (test (record s1 { left = n })) (λ c s3. if c then done tt s3 else repeating fuel test body s3)
            (no_exit g w (pos q - pos b) 1 w.reach (tally (record s1 { left = n })) m1 (Truth st q top k s1.now m1) (Leaving st x k s.now m)
            (test (record s1 { left = n })) (tested (record s1 { left = n }) m1
            (arrives_ready st d b k k need need s m (record s1 { left = n }) m1 room fuels
            (record { at = h.0.at; matches = h.0.matches; kept = h.0.kept; coded = h.0.coded }) h.1 (omega (arith, is, less)) (omega arith))))
            (λ c s3 m3 truth fewer. side s1 m1 h.0 c s3 m3 truth (omega (arith, is, less, fewer)))
            (omega (arith, pays)) (omega arith) (omega (arith, many)) (omega (arith, many)))
            (omega arith) (omega arith)

pub repeats : RepeatsFollow
repeats g w st x d need k top b q test body pays does tested zero s m less ready = absurd (omega (arith, less))
repeats g w st x d need k top b q test body pays does tested (suc fuel) s m less ready =
    repeat_turn g w st x d need k top b q test body pays does tested fuel s m ready
    (λ t n few ready'. repeats g w st x d need k top b q test body pays does tested fuel t n (omega (arith, few, less)) ready')

-- ---- jumps

-- a bound may be higher
pub leaves_below : (a b : ℕ) (o : Outcome (Unit {0})) → a ≤ b → LeavesBelow a o → LeavesBelow b o
leaves_below a b (done u s) l h = tt
leaves_below a b (leaves x s) l h = omega (arith, l, h)
leaves_below a b (spent s) l h = tt
leaves_below a b (ends e s) l h = tt
leaves_below a b (strays s) l h = tt

-- what no charge pays takes a step of the run, where the machine takes one
step_taken : (n step reach lag a b : ℕ) → n + step * b ≤ step * a + 0 → a + reach ≤ b + reach * n + lag → b ≤ a → lag < reach → b < a
step_taken zero step reach lag a b cost gain less few = omega (arith, gain, few)
step_taken (suc n) step reach lag a b cost gain less few = by (nat_lt b a) refl where
  by : (c : Bool) → nat_lt b a ≡ c → b < a
  by true e = ltb-true b a e
  by false e =
      let high = ltb-false b a e in
      let same : a ≡ b = omega (arith, high, less) in
      let worth : step * a ≡ step * b = ap (λ (i : ℕ). step * i) same in
      absurd (omega (arith, cost, worth))

-- so who leaves what is not charged to others has spent a step
pub leaves_sooner : (g : Ground) (w : Rate) (lag e : ℕ) (t : Tally) (m : Machine) (P : Unit {0} → State → Machine → Type 0) (J : Exit → State → Machine → Type 0)
    (o : Outcome (Unit {0})) → lag < w.reach → Follows g w 0 lag e t m P J o → LeavesBelow t.left o
leaves_sooner g w lag e t m P J (done u s) few f = tt
leaves_sooner g w lag e t m P J (leaves x s) few f = step_taken f.1.n w.step w.reach lag t.left s.left f.1.cost f.1.gain f.1.less few
leaves_sooner g w lag e t m P J (spent s) few f = tt
leaves_sooner g w lag e t m P J (ends x s) few f = tt
leaves_sooner g w lag e t m P J (strays s) few f = tt

-- and who leaves has no more left than before
pub leaves_within : (g : Ground) (w : Rate) (c lag e : ℕ) (t : Tally) (m : Machine) (P : Unit {0} → State → Machine → Type 0) (J : Exit → State → Machine → Type 0)
    (bound : ℕ) (o : Outcome (Unit {0})) → t.left < bound → Follows g w c lag e t m P J o → LeavesBelow bound o
leaves_within g w c lag e t m P J bound (done u s) under f = tt
leaves_within g w c lag e t m P J bound (leaves x s) under f = let less = f.1.less in omega (arith, less, under)
leaves_within g w c lag e t m P J bound (spent s) under f = tt
leaves_within g w c lag e t m P J bound (ends x s) under f = tt
leaves_within g w c lag e t m P J bound (strays s) under f = tt

-- Where a list is left by a jump to a label of its own, it goes on there; what the jump has to spare pays for that. J holds where the list is left,
-- and K where what is around it is.
pub landings_by : (g : Ground) (w : Rate) (e : ℕ) (P : Unit {0} → State → Machine → Type 0) (J K : Exit → State → Machine → Type 0) (has : List ℕ → Bool)
    (from : List ℕ → State → Outcome (Unit {0})) → ((y : List ℕ) (s : State) (n : Machine) → has y ≡ false → J (to_label y) s n → K (to_label y) s n)
    → ((s : State) (n : Machine) → J back s n → K back s n) → (fuel c lag : ℕ) (t : Tally) (m : Machine) (o : Outcome (Unit {0}))
    → ((y : List ℕ) (s : State) (n : Machine) → has y ≡ true → J (to_label y) s n → s.left ≤ t.left → Follows g w 0 3 e (tally s) n P J (from y s))
    → LeavesBelow fuel o → Follows g w c lag e t m P J o → Follows g w c lag e t m P K (landing fuel has from o)
landings_by g w e P J K has from others returns zero c lag t m (done u s) land under f = f
landings_by g w e P J K has from others returns (suc fuel) c lag t m (done u s) land under f = f
landings_by g w e P J K has from others returns zero c lag t m (spent s) land under f = f
landings_by g w e P J K has from others returns (suc fuel) c lag t m (spent s) land under f = f
landings_by g w e P J K has from others returns zero c lag t m (ends x s) land under f = f
landings_by g w e P J K has from others returns (suc fuel) c lag t m (ends x s) land under f = f
landings_by g w e P J K has from others returns zero c lag t m (strays s) land under f = f
landings_by g w e P J K has from others returns (suc fuel) c lag t m (strays s) land under f = f
landings_by g w e P J K has from others returns zero c lag t m (leaves back s) land under f = (f.0, f.1, returns s f.0 f.2)
landings_by g w e P J K has from others returns (suc fuel) c lag t m (leaves back s) land under f = (f.0, f.1, returns s f.0 f.2)
landings_by g w e P J K has from others returns zero c lag t m (leaves (to_label y) s) land under f = absurd (omega (arith, under))
landings_by g w e P J K has from others returns (suc fuel) c lag t m (leaves (to_label y) s) land under f =
    landed_at (has y) refl
    (λ o below h. landings_by g w e P J K has from others returns fuel 0 3 (tally s) f.0 o
    (λ y' s' n' is at less. let before = f.1.less in land y' s' n' is at (omega (arith, less, before))) below h) where
      landed_at : (b : Bool) → has y ≡ b
          → ((o : Outcome (Unit {0})) → LeavesBelow fuel o → Follows g w 0 3 e (tally s) f.0 P J o
          → Follows g w 0 3 e (tally s) f.0 P K (landing fuel has from o))
          → Follows g w c lag e t m P K (if b then landing fuel has from (from y s) else leaves (to_label y) s)
      landed_at false is again = (f.0, f.1, others y s f.0 is f.2)
      landed_at true is again =
          let many = w.enough in
          let on = land y s f.0 is f.2 f.1.less in
          then_follows g w c lag w.reach 0 3 e c lag e t m (tally s) f.0 P K (landing fuel has from (from y s)) f.1
          (again (from y s)
          (leaves_below s.left fuel (from y s) (omega (arith, under)) (leaves_sooner g w 3 e (tally s) f.0 P J (from y s) (omega (arith, many)) on)) on)
          (omega arith) (omega (arith, many)) (omega (arith, many))

-- at a label of the list as many words wait as before it
pub own_label : (st : Setting) (x : Exits) (has : List ℕ → Bool) (k : ℕ) (d0 : Data) (m0 : Machine) (y : List ℕ) (s : State) (n : Machine) → has y ≡ true
    → Leaving st (bearing has k x) k d0 m0 (to_label y) s n → Arrives st (x.target (to_label y)) k d0 m0 s n
own_label st x has k d0 m0 y s n is a =
    let same : (bearing has k x).held (to_label y) ≡ k = ap (λ (b : Bool). if b then k else x.held (to_label y)) is in
    let waits : min ((bearing has k x).held (to_label y)) k ≡ k = omega (arith, same) in
    subst (λ (j : ℕ). Arrives st (x.target (to_label y)) j d0 m0 s n) waits a

-- and at another as many as around it
pub other_label : (st : Setting) (x : Exits) (has : List ℕ → Bool) (k : ℕ) (d0 : Data) (m0 : Machine) (y : List ℕ) (s : State) (n : Machine) → has y ≡ false
    → Leaving st (bearing has k x) k d0 m0 (to_label y) s n → Leaving st x k d0 m0 (to_label y) s n
other_label st x has k d0 m0 y s n is a =
    subst (λ (j : ℕ). Arrives st (x.target (to_label y)) (min j k) d0 m0 s n) (ap (λ (b : Bool). if b then k else x.held (to_label y)) is) a

pub landings : LandingsFollow
landings g w st x q k t m d0 m0 has from on_label fuel o under f =
    landings_by g w 0 (Completes st q k d0 m0) (Leaving st (bearing has k x) k d0 m0) (Leaving st x k d0 m0) has from
    (λ y s n is a. other_label st x has k d0 m0 y s n is a) (λ s n a. a) fuel 0 3 t m o
    (λ y s n is a less. on_label y s n is (own_label st x has k d0 m0 y s n is a) less) under f
