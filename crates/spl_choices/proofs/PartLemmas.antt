-- The parts of choices and loops, where they stand: a test as a condition, and a statement inside whose condition code is dropped.
use Rattle.std.proofs.Common.{◌≡◌, ℕ, ◌+◌, ◌-◌, ◌≤◌, ◌<◌, false, List, [], ◌∷◌, ◌++◌, refl, ap, subst, ◌∙◌, arith, inl}
use Rattle.std.specs.Prelude.{min, Some}
use Rattle.spl_statement_code.specs.hp_instr.declared.instruction.Instr.TheVariants as i
use Rattle.spl_control.specs.hp_session.State.{Machine}
use Rattle.spl_statement_code.specs.spl_branch.declared.pieces.Piece.{Piece}
use Rattle.spl_statement_code.specs.spl_branch.declared.pieces.Piece.TheVariants.{Begin, Mark}
use Rattle.spl_statement_code.specs.spl_tree.declared.names_and_places.At.{At}
use Rattle.spl_statement_code.specs.spl_meaning.Laws.{IsFront}
use Rattle.spl_statement_code.specs.spl_meaning.States.{Data, State, Begun, Outcome, without_code, noted, stopping, code_dropped}
use Rattle.spl_statement_code.specs.spl_code.Instructions.{BR}
use Rattle.spl_statement_code.specs.spl_code.Parts.{Part, Wanted, piece, ◌⨟◌, with_fresh}
use Rattle.spl_statement_code.specs.Instructions.{SUBS}
use Rattle.spl_statement_code.specs.Statements.{idle, chosen, chosen_or, repeated_while, repeated_until}
use Rattle.spl_control.specs.spl_follow.Spots.{Spot, pos, Point, on, Ground}
use Rattle.spl_control.specs.spl_follow.Leading.{Leads}
use Rattle.spl_control.specs.spl_follow.Doing.{turning}
use Rattle.spl_control.specs.spl_follow.Matching.{Kept}
use Rattle.spl_control.specs.spl_follow.Following.{tally, tally_with, Follows, NoExit}
use Rattle.spl_control.specs.spl_follow.Standing.{Sites, Stands, IsClosed}
use Rattle.spl_control.specs.spl_follow.Parts.{Ready, Begins, Truth, Completes, Leaving, Runs}
use Rattle.spl_control.specs.spl_follow.Simulating.{Surroundings, Performs}
use Rattle.spl_control.proofs.spl_follow_proofs.FollowLemmas.{weaken, dropped_follows, spend_follows}
use Rattle.spl_control.proofs.spl_follow_proofs.KeepLemmas.{arrives_after}
use Rattle.spl_control.proofs.spl_follow_proofs.PartLemmas.{stand_in_order, tests_decide}
use Rattle.spl_control.proofs.spl_follow_proofs.RowLemmas.{shown}
use Rattle.spl_control.specs.Laws.{Settles}
use Rattle.spl_conditions.specs.spl_values.Reached.{IsWhole}
use Rattle.spl_conditions.proofs.spl_values_proofs.WholeLemmas.{whole_pieces, whole_then, whole_mark, whole_fresh, whole_behind}
use Rattle.spl_choices.specs.Laws.{decided, Decides}

-- ---- where parts end

-- a mark behind closed pieces is where they end
pub mark_ends : (g : Ground) (w : Sites) (ps : List Piece) (l : ℕ) (p : Point) (q : Spot) → IsClosed ps → Stands g w p (ps ++ Mark l ∷ []) q
    → Stands g w p ps q × (w.marks l ≡ q)
mark_ends g w ps l p q closed stands =
    let cut = stand_in_order g w ps (Mark l ∷ []) p q closed stands in
    let end : cut.0 ≡ q = ap (λ (y : Point). y.at) cut.2.2 in (subst (λ (y : Spot). Stands g w p ps y) end cut.1, cut.2.0 ∙ end)

-- a branch to a mark that is known, and the mark behind it
pub branch_ends : (g : Ground) (w : Sites) (p q to : Spot) (l n : ℕ) → w.marks l ≡ to → Stands g w (on p) (BR l ∷ Mark n ∷ []) q
    → Leads g (on p) q (turning (i.Branch false false 0) to q) × (w.marks n ≡ q)
branch_ends g w p q to l n is stands =
    let end : stands.0 ≡ q = ap (λ (y : Point). y.at) stands.2.2 in (
      subst (λ (y : Spot). Leads g (on p) y (turning (i.Branch false false 0) to y)) end
          (subst (λ (y : Spot). Leads g (on p) stands.0 (turning (i.Branch false false 0) y stands.0)) is stands.1),
      stands.2.0 ∙ end,
    )

-- ---- what they are

-- a test, from where it stands, is a condition
pub test_follows : (z : Surroundings) (d k need fail h : ℕ) (ws : List Wanted) (test : ℕ → Part) (value : State → Outcome (List ℕ)) (p : Point) (r : Spot)
    (s : State) (l : List Begun) (m : Machine) → Decides z d k need test value → Stands z.ground z.sites p (test fail h ws).pieces r
    → IsFront (test fail h ws).wants z.wants → Ready z.setting d p k need s l m
    → Follows z.ground z.rate (pos r - pos p.at) 1 z.rate.reach (tally_with l s) m (Truth z.setting r (z.sites.marks fail) k s.now m) NoExit (decided value s)
test_follows z d k need fail h ws test value p r s l m x stands front ready =
    tests_decide z.ground z.rate (pos r - pos p.at) 1 z.rate.reach (tally_with l s) m z.setting r (z.sites.marks fail) k s.now m (value s)
    ((x.decides fail).does h ws p r s l m stands front ready)

-- a statement inside, from where it stands: no condition code is known behind it
pub body_follows : (z : Surroundings) (d k need h : ℕ) (ws : List Wanted) (a : Part) (meaning : State → Outcome (Unit {0})) (r b : Spot) (s : State) (m : Machine)
    → Performs z d k need a meaning → Stands z.ground z.sites (on r) (a h ws).pieces b → IsFront (a h ws).wants z.wants → pos b ≤ z.rate.step
    → Begins z.setting d r k need s m
    → Follows z.ground z.rate 0 3 3 (tally s) m (Settles z.setting b k s.now m) (Leaving z.setting z.exits k s.now m) (code_dropped (meaning s))
body_follows z d k need h ws a meaning r b s m x stands front pays begins =
    dropped_follows z.ground z.rate 0 3 3 (tally s) m (Completes z.setting b k s.now m) (Settles z.setting b k s.now m) (Leaving z.setting z.exits k s.now m)
    (meaning s) (x.does h ws r b s m stands front pays begins)
    (λ u t n c. (record { at = c.at; matches = c.matches; kept = c.kept; coded = tt }, refl))

-- what is followed from behind a part is measured from before it
pub settles_after : (z : Surroundings) (c lag e k : ℕ) (q : Spot) (d : Data) (m : Machine) (s : State) (m1 : Machine) (o : Outcome (Unit {0}))
    → Kept (d.top + k) d m.stack s.now m1.stack
    → Follows z.ground z.rate c lag e (tally s) m1 (Settles z.setting q k s.now m1) (Leaving z.setting z.exits k s.now m1) o
    → Follows z.ground z.rate c lag e (tally s) m1 (Settles z.setting q k d m) (Leaving z.setting z.exits k d m) o
settles_after z c lag e k q d m s m1 o before f =
    weaken z.ground z.rate c lag e (tally s) m1 (Settles z.setting q k s.now m1) (Settles z.setting q k d m) (Leaving z.setting z.exits k s.now m1)
    (Leaving z.setting z.exits k d m) o f
    (λ u t n a less. (arrives_after z.setting q k k d m s.now m1 t n (omega arith) before a.0, a.1))
    (λ y t n a. arrives_after z.setting (z.exits.target y) k (min (z.exits.held y) k) d m s.now m1 t n (omega arith) before a)

-- a statement that is done is at its end
pub settles_completes : (z : Surroundings) (c lag e k : ℕ) (q : Spot) (s : State) (l : List Begun) (m : Machine) (o : Outcome (Unit {0}))
    → Follows z.ground z.rate c lag e (tally_with l s) m (Settles z.setting q k s.now m) (Leaving z.setting z.exits k s.now m) o
    → Follows z.ground z.rate c lag e (tally_with l s) m (Completes z.setting q k s.now m) (Leaving z.setting z.exits k s.now m) o
settles_completes z c lag e k q s l m o f =
    weaken z.ground z.rate c lag e (tally_with l s) m (Settles z.setting q k s.now m) (Completes z.setting q k s.now m) (Leaving z.setting z.exits k s.now m)
    (Leaving z.setting z.exits k s.now m) o f (λ u t n a less. a.0) (λ y t n a. a)

-- A statement that is noted begins with a step less left than the bound.
pub begins_sooner : (z : Surroundings) (d number : ℕ) (at : At) (p q : Spot) (k need : ℕ) (s : State) (m : Machine) (go : State → Outcome (Unit {0}))
    → Begins z.setting d p k need s m
    → ((t : State) → Ready z.setting d (record { at = p; due = Some at }) k need t s.begun m → t.left < d
    → Follows z.ground z.rate z.rate.step 2 3 (tally_with s.begun t) m (Completes z.setting q k t.now m) (Leaving z.setting z.exits k t.now m) (go t))
    → Runs z.ground z.rate z.setting z.exits q k s m (stopping number at s go)
begins_sooner z d number at p q k need s m go b rest =
    spend_follows z.ground z.rate z.rate.step 2 0 3 3 s s.begun m (Completes z.setting q k s.now m) (Leaving z.setting z.exits k s.now m)
    (λ s1. go (without_code (noted number at s1))) (shown z.setting s m k b.matches) (inl refl)
    (λ n is. let fuel = b.fuel in rest (without_code (noted number at (record s { left = n }))) (record {
      at = b.at;
      owes = (
        record { number = number; at = at; data' = s.now; code = s.code },
        record { place = refl; setting = z.setting; waiting = k; matches = b.matches; coded = b.coded },
        refl,
      );
      matches = b.matches;
      silent = refl;
      room = b.room;
      fuel = omega (arith, fuel, is);
    }) (omega (arith, fuel, is)))
    (omega arith) (omega arith)

-- ---- whole code

-- behind a beginning, or a mark, which nothing closes
pub begun_whole : (at : At) (a : Part) → IsWhole a → IsWhole (piece (Begin at) ⨟ a)
begun_whole at a x = record { closed = λ l ws. x.closed (l + 0) ws; keeps = λ l ws. x.keeps (l + 0) ws }

marked_whole : (h : ℕ) (a : Part) → IsWhole a → IsWhole (piece (Mark h) ⨟ a)
marked_whole h a x = record { closed = λ l ws. x.closed (l + 0) ws; keeps = λ l ws. x.keeps (l + 0) ws }

-- IF without ELSE
pub chosen_whole : (test : ℕ → Part) (a : Part) → ((fail : ℕ) → IsWhole (test fail)) → IsWhole a → IsWhole (chosen test a)
chosen_whole test a wt wa =
    whole_fresh (λ fail. test fail ⨟ a ⨟ piece (Mark fail)) (λ fail. whole_mark (test fail ⨟ a) fail (whole_then (test fail) a (wt fail) wa))

-- and with it
pub chosen_or_whole : (test : ℕ → Part) (a b : Part) → ((fail : ℕ) → IsWhole (test fail)) → IsWhole a → IsWhole b → IsWhole (chosen_or test a b)
chosen_or_whole test a b wt wa wb =
    whole_fresh (λ fail. with_fresh (λ end. test fail ⨟ a ⨟ piece (BR end) ⨟ piece (Mark fail) ⨟ b ⨟ piece (Mark end))) (λ fail.
    whole_fresh (λ end. test fail ⨟ a ⨟ piece (BR end) ⨟ piece (Mark fail) ⨟ b ⨟ piece (Mark end)) (λ end.
    whole_mark (test fail ⨟ a ⨟ piece (BR end) ⨟ piece (Mark fail) ⨟ b) end
    (whole_then (test fail ⨟ a ⨟ piece (BR end) ⨟ piece (Mark fail)) b
    (whole_mark (test fail ⨟ a ⨟ piece (BR end)) fail
    (whole_behind (test fail ⨟ a) (BR end ∷ []) (whole_then (test fail) a (wt fail) wa) refl)) wb)))

-- WHILE
pub while_whole : (test : ℕ → Part) (a : Part) → ((fail : ℕ) → IsWhole (test fail)) → IsWhole a → IsWhole (repeated_while test a)
while_whole test a wt wa =
    whole_fresh (λ next. with_fresh (λ end. piece (Mark next) ⨟ test end ⨟ a ⨟ piece (BR next) ⨟ piece (Mark end))) (λ next.
    whole_fresh (λ end. piece (Mark next) ⨟ test end ⨟ a ⨟ piece (BR next) ⨟ piece (Mark end)) (λ end.
    whole_mark (piece (Mark next) ⨟ test end ⨟ a ⨟ piece (BR next)) end
    (whole_behind (piece (Mark next) ⨟ test end ⨟ a) (BR next ∷ [])
    (whole_then (piece (Mark next) ⨟ test end) a (marked_whole next (test end) (wt end)) wa) refl)))

-- DO
pub until_whole : (test : ℕ → Part) (a : Part) → ((fail : ℕ) → IsWhole (test fail)) → IsWhole a → IsWhole (repeated_until a test)
until_whole test a wt wa =
    whole_fresh (λ again. idle ⨟ piece (Mark again) ⨟ a ⨟ test again) (λ again.
    whole_then (idle ⨟ piece (Mark again) ⨟ a) (test again)
    (whole_then (idle ⨟ piece (Mark again)) a (whole_mark idle again (whole_pieces (SUBS 0 ∷ []) refl)) wa) (wt again))
