-- Parts of expressions and statements, put together.
use Rattle.std.proofs.Common.{ℕ, ◌+◌, ◌-◌, List, ◌++◌, refl, arith, inl, [], ◌∷◌, ap, subst, sym, ◌≡◌}
use Rattle.std.specs.Prelude.{min, Option}
use Rattle.hp_flat.specs.hp_word.declared.arithmetic.Code.{Code}
use Rattle.hp_flat.specs.hp_session.State.{Machine}
use Rattle.spl_code.specs.spl_meaning.States.{State, done, then_go, without_code, noted, leaves, spent, ends, strays}
use Rattle.spl_code.specs.Code.{as_value}
use Rattle.spl_follow.specs.Spots.{pos, on, Spot, Point}
use Rattle.spl_follow.specs.Matching.{IsValue, Coded}
use Rattle.spl_follow.specs.Following.{tally, tally_with, Follows, NoExit}
use Rattle.spl_follow.specs.Parts.{Tested, Gives, Completes, Leaving, Ready}
use Rattle.spl_follow.specs.Laws.{PiecesStandInOrder, PiecesStandFrom, RowsTrap, ValuesFollow, ValuesAreTested, TestsDecide, NotedStatementsBegin, PlainStatementsBegin, StatementsFollow, EmptyStatementsRun}
use Rattle.spl_follow.proofs.WayLemmas.{goes_none, goes_wider}
use Rattle.spl_follow.proofs.FollowLemmas.{bind_follows, tail_follows, weaken, spend_follows, widen, no_exit}
use Rattle.spl_follow.proofs.StandLemmas.{split_closed, split_on, stands_le}
use Rattle.spl_follow.proofs.KeepLemmas.{values_join, arrives_after, kept_same}
use Rattle.spl_follow.proofs.RowLemmas.{shown, row_trap, row_tests, row_idle}

-- ---- pieces

pub stand_in_order : PiecesStandInOrder
stand_in_order g w a b p q closed s =
    let x = split_closed g w a b p q closed s in (x.0, x.1, x.2, stands_le g w a p x.0 x.1, stands_le g w b (on x.0) q x.2)

pub stand_from_place : PiecesStandFrom
stand_from_place g w a b p q clear s =
    let x = split_on g w a b p q clear s in (x.0, x.1, x.2, stands_le g w a (on p) x.0 x.1, stands_le g w b (on x.0) q x.2)

-- ---- expressions

pub rows_trap : RowsTrap
rows_trap g w p r q F st l s m d0 m0 k j width o t leads is at owes x traps =
    row_trap g w w.reach p r F st l s m j o t (IsValue st q width k d0 m0) NoExit leads is at owes x traps

-- The second value's code is charged behind the first's, and what that has to spare pays for a step before it.
pub values_follow : ValuesFollow
values_follow g w st marks n o p r q k s l m first other before behind f rest =
    let many = w.enough in
    bind_follows g w (pos r - pos p.at) 1 w.reach (pos q - pos r) 1 w.reach (pos q - pos p.at) 1 w.reach (tally_with l s) m (IsValue st r n k s.now m)
    (IsValue st q (n + o) k s.now m) NoExit first (λ vs s1. then_go (other vs s1) (λ ws s2. done (vs ++ ws) s2)) f
    (λ vs s1 m1 v fewer. both vs s1 m1 v (rest vs s1 m1 v fewer)) (omega (arith, before, behind)) (omega arith) (omega (arith, many)) (omega (arith, many)) where
      both : (vs : List ℕ) (s1 : State) (m1 : Machine) → IsValue st r n k s.now m vs s1 m1
          → Gives g w st marks as_value o (on r) q (k + n) s1 s1.begun m1 (other vs s1)
          → Follows g w (pos q - pos r) 1 w.reach (tally s1) m1 (IsValue st q (n + o) k s.now m) NoExit (then_go (other vs s1) (λ ws s2. done (vs ++ ws) s2))
      both vs s1 m1 v f =
          bind_follows g w (pos q - pos r) 1 w.reach 0 0 0 (pos q - pos r) 1 w.reach (tally s1) m1 (IsValue st q o (k + n) s1.now m1)
          (IsValue st q (n + o) k s.now m) NoExit (other vs s1) (λ ws s2. done (vs ++ ws) s2) f
          (λ ws s2 m2 u fewer. (m2, goes_none g w 0 0 (tally s2) m2, values_join st r q n o k s.now m vs ws s1 m1 s2 m2 v u))
          (omega arith) (omega arith) (omega arith) (omega arith)

-- the value is deleted behind its own code
pub values_tested : ValuesAreTested
values_tested g w st marks fail back d n p r q k s l m o before leads f =
    let many = w.enough in
    let rise = leads.rise in
    tail_follows g w (pos r - pos p.at) 1 w.reach (pos q - pos r) 0 w.reach (pos q - pos p.at) 1 w.reach (tally_with l s) m (IsValue st r n k s.now m)
    (Tested st q (marks fail) k s.now m) NoExit o f (λ vs s1 m1 v fewer. row_tests g w r q (marks fail) back d st s1 m1 s.now m k n vs leads v)
    (omega (arith, before, rise)) (omega arith) (omega (arith, many)) (omega (arith, many))

-- by the words of the value
pub tests_decide : TestsDecide
tests_decide g w c lag e t m st q fails k d0 m0 (done [] s) f =
    (f.0, s.begun, goes_wider g w c lag e c lag 0 t m (tally s) f.0 f.1 (omega arith) (omega arith), f.2, inl refl)
tests_decide g w c lag e t m st q fails k d0 m0 (done (v ∷ []) s) f = f
tests_decide g w c lag e t m st q fails k d0 m0 (done (v ∷ u ∷ vs) s) f =
    (f.0, s.begun, goes_wider g w c lag e c lag 0 t m (tally s) f.0 f.1 (omega arith) (omega arith), f.2, inl refl)
tests_decide g w c lag e t m st q fails k d0 m0 (leaves x s) f = absurd f.2
tests_decide g w c lag e t m st q fails k d0 m0 (spent s) f = f
tests_decide g w c lag e t m st q fails k d0 m0 (ends x s) f = f
tests_decide g w c lag e t m st q fails k d0 m0 (strays s) f = f

-- ---- statements

-- a statement that begins is met with what the run notes of it
pub statements_begin_noted : NotedStatementsBegin
statements_begin_noted g w st x d number at p q k need s m go b rest =
    spend_follows g w w.step 2 0 3 3 s s.begun m (Completes st q k s.now m) (Leaving st x k s.now m) (λ s1. go (without_code (noted number at s1)))
    (shown st s m k b.matches) (inl refl)
    (λ n is. let fuel = b.fuel in rest (without_code (noted number at (record s { left = n }))) refl (omega (arith, is)) (record {
      at = b.at;
      owes = (
        record { number = number; at = at; data' = s.now; code = s.code },
        record { place = refl; setting = st; waiting = k; matches = b.matches; coded = b.coded },
        refl,
      );
      matches = b.matches;
      silent = refl;
      room = b.room;
      fuel = omega (arith, fuel, is);
    }))
    (omega arith) (omega arith)

pub statements_begin_plain : PlainStatementsBegin
statements_begin_plain g w st x d p q k need s m go b rest =
    spend_follows g w w.step 2 0 3 3 s s.begun m (Completes st q k s.now m) (Leaving st x k s.now m) (λ s1. go (without_code s1)) (shown st s m k b.matches) (inl refl)
    (λ n is. let fuel = b.fuel in rest (without_code (record s { left = n })) refl (omega (arith, is)) (record {
      at = b.at;
      owes = refl;
      matches = b.matches;
      silent = refl;
      room = b.room;
      fuel = omega (arith, fuel, is);
    }))
    (omega arith) (omega arith)

-- What a statement has to spare pays for the steps before the next one's first instruction. What that leaves is measured from the list's
-- beginning.
pub statements_follow : StatementsFollow
statements_follow g w st x r q k s m o others f rest =
    bind_follows g w 0 3 3 0 3 0 0 3 0 (tally s) m (Completes st r k s.now m) (Completes st q k s.now m) (Leaving st x k s.now m) o
    (λ u s1. others s1) f
    (λ u s1 m1 a fewer. weaken g w 0 3 0 (tally s1) m1 (Completes st q k s1.now m1) (Completes st q k s.now m) (Leaving st x k s1.now m1)
    (Leaving st x k s.now m) (others s1) (rest s1 m1 a fewer)
    (λ u t n b less. arrives_after st q k k s.now m s1.now m1 t n (omega arith) a.kept b)
    (λ e t n b. arrives_after st (x.target e) k (min (x.held e) k) s.now m s1.now m1 t n (omega arith) a.kept b))
    (omega arith) (omega arith) (omega arith) (omega arith)

-- its word is charged to its step
pub empty_runs : EmptyStatementsRun
empty_runs g w sites st x d p q k need s m stands pays b =
    statements_begin_plain g w st x d p q k need s m (λ t. done tt t) b (λ t same fewer r. there t r) where
      there : (t : State) → Ready st d (on p) k need t t.begun m
          → Follows g w w.step 2 3 (tally t) m (Completes st q k t.now m) (Leaving st x k t.now m) (done tt t)
      there t r =
          let many = w.enough in
          let end : stands.0 ≡ q = ap (λ (z : Point). z.at) stands.2 in
          let far : pos stands.0 ≡ pos q = ap pos end in
          let way = row_idle g w (on p) stands.0 st t.begun t m t.now m k stands.1 r.at refl r.matches (kept_same (t.now.top + k) t.now m.stack)
          (subst (λ (c : Option Code). Coded c m.regs.code) (sym r.silent) tt) in
          subst (λ (z : Spot). Follows g w w.step 2 3 (tally t) m (Completes st z k t.now m) (Leaving st x k t.now m) (done tt t)) end
          (no_exit g w w.step 2 3 (tally t) m (Completes st stands.0 k t.now m) (Leaving st x k t.now m) (done tt t)
          (widen g w (pos stands.0 - pos p) 0 w.reach w.step 2 3 (tally t) m (Completes st stands.0 k t.now m) NoExit (done tt t) way
          (omega (arith, far, pays)) (omega arith) (omega (arith, many))))
