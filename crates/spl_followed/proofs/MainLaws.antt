-- The main body's statements are followed, so its run is.
use Rattle.std.proofs.Common.{◌≡◌, inl, ℕ, ◌+◌, ◌-◌, ◌≤◌, ◌<◌, Bool, true, false, List, [], refl, sym, ap, subst, ◌∙◌, arith}
use Rattle.std.specs.Prelude.{Option, None, nat_lt, if◌then◌else◌}
use Rattle.std.proofs.lemmas.Bool.{ltb-true, ltb-false}
use Rattle.spl_carries.specs.hp_word.declared.arithmetic.Code.{Code}
use Rattle.spl_carries.specs.hp_word.declared.endings.Ending.TheVariants.{Running}
use Rattle.spl_carries.specs.hp_word.declared.endings.Trap.TheVariants.{StackOverflow}
use Rattle.spl_carries.specs.hp_session.State.{Machine}
use Rattle.spl_carries.specs.spl_meaning.Tables.{Source}
use Rattle.spl_carries.specs.spl_meaning.Bodies.{Body, program_of}
use Rattle.spl_carries.specs.spl_meaning.Statements.{run_body}
use Rattle.spl_carries.specs.spl_meaning.Runs.{calls, opening, returned, run_program}
use Rattle.spl_carries.specs.spl_meaning.States.{Data, State, terminated, trapped, Outcome, ends, then_go, stepping}
use Rattle.spl_follow.specs.Spots.{Spot, spot, pos, on, Ground}
use Rattle.spl_follow.specs.Matching.{Outer, outer, Matches, Matched, Shows, Arrives, Coded}
use Rattle.spl_follow.specs.Following.{Rate, tally, Follows, NoExit}
use Rattle.spl_follow.specs.Parts.{Completes}
use Rattle.spl_follow.specs.Programs.{NoValue}
use Rattle.spl_follow.proofs.WayLemmas.{goes_wider, lead}
use Rattle.spl_follow.proofs.FollowLemmas.{then_follows, bind_follows, spend_follows, returned_follows}
use Rattle.spl_follow.proofs.RowLemmas.{no_print, shown}
use Rattle.spl_followed.specs.Followed.{start}
use Rattle.spl_followed.specs.Mains.{main_setting, MainFramed, MainStatementsFollow, SessionsOpenAsRuns, MainBodiesFollow, FramedProgramsFollow}

module _ (g : Ground) (w : Rate) (us : List Source) (b : Body) (entry first leave : Spot) (framed : MainFramed g w b.depth' entry first leave)
    (statements : MainStatementsFollow g w us b first leave) where
  -- what comes of the statements, and of the program behind the test of its room
  abbrev statements_run : ℕ → State → Outcome (Unit {0})
  statements_run n s = run_body b.here (calls (program_of us).procedures n b) n b.number b.statements s

  abbrev rest : ℕ → State → Outcome (Unit {0})
  rest n s = then_go (returned (statements_run n s)) (λ _ t. stepping t (λ u. ends terminated u))

  -- behind the statements a step is spent, and the program ends
  ends_there : (d : Data) (m0 : Machine) (s : State) (m : Machine) → Arrives main_setting leave 0 d m0 s m
      → Follows g w 0 1 0 (tally s) m NoValue NoExit (stepping s (λ t. ends terminated t))
  ends_there d m0 s m x =
      let shows = shown main_setting s m 0 x.matches in
      let split : m.split ≡ false = ap (λ (u : Outer). u.split) x.matches.outer in
      let stop = framed.stops m split shows.ending in
      let last = framed.last in
      spend_follows g w (pos framed.behind - pos leave) 0 0 1 0 s s.begun m NoValue NoExit (λ t. ends terminated t) shows (inl refl)
      (λ n is. (
        framed.stop m,
        goes_wider g w (pos framed.behind - pos leave) 0 w.reach (pos framed.behind - pos leave) 0 0 (tally (record s { left = n })) m
            (tally (record s { left = n })) (framed.stop m)
            (lead g w (on leave) framed.behind framed.stop s.begun (record s { left = n }) m (framed.stop m) framed.ends x.at shows.ending refl refl
            (no_print m (framed.stop m) stop.1)) (omega arith) (omega arith),
        record { ending = stop.0; printed = stop.1 ∙ shows.printed },
      ))
      (omega (arith, last)) (omega arith)

  -- what stands behind the first step: the room is tested, and then the statements are run
  roomy : (n : ℕ) (s : State) (m : Machine) → s.left ≤ n → s.code ≡ None → spot m ≡ entry → Matched main_setting s.now m 0
      → Follows g w w.step 0 0 (tally s) m NoValue NoExit (
      if nat_lt s.now.stack (s.now.top + b.depth') then ends (trapped StackOverflow) s else rest n s)
  roomy n s m fuel silent at x = by (nat_lt s.now.stack (s.now.top + b.depth')) refl where
    shows : Shows Running s.now m
    shows = shown main_setting s m 0 x

    limit : m.stack_limit ≡ s.now.stack
    limit = ap (λ (u : Outer). u.limit) x.outer

    lacks : s.now.stack < s.now.top + b.depth' → Follows g w w.step 0 0 (tally s) m NoValue NoExit (ends (trapped StackOverflow) s)
    lacks less =
        let words = x.words in
        let paid = framed.paid in
        let least = x.lies.least in
        let way = framed.room.lacking m at shows.ending (omega (arith, least, limit)) (omega (arith, less, words, limit)) (tally s) in (
          way.0,
          goes_wider g w (pos first - pos entry) 0 0 w.step 0 0 (tally s) m (tally s) way.0 way.1 paid (omega arith),
          record { ending = way.2; printed = way.3 ∙ shows.printed },
        )

    has : s.now.top + b.depth' ≤ s.now.stack → Follows g w w.step 0 0 (tally s) m NoValue NoExit (rest n s)
    has enough =
        let words = x.words in
        let paid = framed.paid in
        let many = w.enough in
        let way = framed.room.enough m at shows.ending (omega (arith, enough, words, limit)) (tally s) in
        let matches : Matched main_setting s.now way.0 0 =
        subst (λ (u : Outer). Matches main_setting s.now way.0.stack u 0) (sym way.4)
        (subst (λ (xs : List ℕ). Matches main_setting s.now xs (outer m) 0) (sym way.3) x) in
        let body = statements n s way.0 (record {
          at = way.2;
          matches = matches;
          coded = subst (λ (c : Option Code). Coded c way.0.regs.code) (sym silent) tt;
          room = omega (arith, enough);
          fuel = fuel;
        }) in
        then_follows g w (pos first - pos entry) 0 w.reach 0 4 0 w.step 0 0 (tally s) m (tally s) way.0 NoValue NoExit (rest n s) way.1
        (bind_follows g w 0 3 0 0 1 0 0 4 0 (tally s) way.0 (Completes main_setting leave 0 s.now way.0) NoValue NoExit
        (returned (statements_run n s)) (λ _ t. stepping t (λ u. ends terminated u))
        (returned_follows g w 0 3 0 (tally s) way.0 main_setting leave 0 s.now way.0 (statements_run n s)
        (omega arith) body)
        (λ u t m1 a fewer. ends_there s.now way.0 t m1 a) (omega arith) (omega arith) (omega arith) (omega arith))
        (omega (arith, paid)) (omega (arith, many)) (omega (arith, many))

    by : (c : Bool) → nat_lt s.now.stack (s.now.top + b.depth') ≡ c → Follows g w w.step 0 0 (tally s) m NoValue NoExit (
        if c then ends (trapped StackOverflow) s else rest n s)
    by true is = lacks (ltb-true s.now.stack (s.now.top + b.depth') is)
    by false is = has (ltb-false s.now.stack (s.now.top + b.depth') is)

pub main_follows : MainBodiesFollow
main_follows g w us seat b entry first leave m main at x framed statements n =
    subst (λ (o : Option Body). Follows g w 0 1 0 (tally s) m NoValue NoExit (run_program (program_of us) o n s)) (sym main)
    (spend_follows g w w.step 0 0 1 0 s [] m NoValue NoExit _ (shown main_setting s m 0 (x n)) (inl refl)
    (λ k is. roomy g w us b entry first leave framed statements n (record s { left = k }) m (omega (arith, is)) refl at (x n)) (omega arith) (omega arith)) where
      s : State
      s = opening (program_of us) seat n

pub framed_follow : SessionsOpenAsRuns → FramedProgramsFollow
framed_follow opens p us seat g w b entry first leave segments light globals sits main at framed statements = record {
  ground = g;
  segments = segments;
  rate = w;
  charge = 0;
  lag = 1;
  light = omega (arith, light);
  follows = main_follows g w us seat b entry first leave (start p seat) main at (λ n. opens p us seat n globals sits) framed statements;
}
