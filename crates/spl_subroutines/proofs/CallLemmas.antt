-- A call of a subroutine: SCAL, the room granted at its entry, its statement, and SXIT.
-- 1. where its statement is done, the result is read and SXIT goes back    (way_out)
-- 2. before it, the frame is there                                        (frame_runs)
-- 3. and before that the room is granted, or lacks                        (entry_runs)
use Rattle.std.proofs.Common.{◌≡◌, inl, ℕ, ◌+◌, ◌-◌, ◌%◌, ◌≤◌, Bool, true, false, List, [], ◌∷◌, ◌++◌, length, refl, sym, ap, subst, ◌∙◌, arith}
use Rattle.std.specs.Prelude.{Option, None, nat_lt, if◌then◌else◌}
use Rattle.std.proofs.Math.Logic.{⊎_elim}
use Rattle.std.proofs.lemmas.Bool.{ltb-true, ltb-false}
use Rattle.std.proofs.lemmas.List.{length-append}
use Rattle.spl_procedures.specs.hp_word.declared.arithmetic.Code.{Code}
use Rattle.spl_procedures.specs.hp_word.declared.endings.Ending.TheVariants.{Running}
use Rattle.spl_procedures.specs.hp_word.declared.endings.Trap.TheVariants.{StackOverflow}
use Rattle.spl_procedures.specs.hp_instr.declared.instruction.Instr.{Instr}
use Rattle.spl_procedures.specs.hp_instr.declared.instruction.Instr.TheVariants as i
use Rattle.spl_procedures.specs.hp_session.State.{Machine, Outcome as Row}
use Rattle.spl_procedures.proofs.hp_call_yields_proofs.BranchYields as branches
use Rattle.spl_procedures.specs.hp_flat.Step.{at_left, ended}
use Rattle.spl_procedures.specs.spl_body_code.Frames.{granted}
use Rattle.spl_procedures.specs.spl_body_code.Bodies.{subroutine_left}
use Rattle.spl_procedures.specs.spl_meaning.Names.{Profile}
use Rattle.spl_procedures.specs.spl_meaning.Pending.{formals_words, result_words, return_words}
use Rattle.spl_procedures.specs.spl_meaning.References.{Setting}
use Rattle.spl_procedures.specs.spl_meaning.Bodies.{Body}
use Rattle.spl_procedures.specs.spl_meaning.Runs.{link_of, subroutine_framed, framed, returned, result_at, left_to, called_back, run_statement, enter_subroutine}
use Rattle.spl_procedures.specs.spl_meaning.States.{State, Begun, trapped, Outcome, done, ends, strays, then_go}
use Rattle.spl_procedures.specs.spl_meaning.Values.{Callee}
use Rattle.spl_procedures.specs.spl_follow.Spots.{Spot, spot, pos, landed, Point, on, Ground, next_word}
use Rattle.spl_procedures.specs.spl_follow.Leading.{Leads}
use Rattle.spl_procedures.specs.spl_follow.Matching.{Outer, outer, expected, Matches, Matched, Shows, Coded}
use Rattle.spl_procedures.specs.spl_follow.Following.{Rate, tally, tally_with, Follows, NoExit}
use Rattle.spl_procedures.specs.spl_follow.Doing.{body, calling, doing}
use Rattle.spl_procedures.specs.spl_follow.Standing.{Sites}
use Rattle.spl_procedures.specs.spl_follow.Parts.{Completes}
use Rattle.spl_procedures.specs.spl_follow.Rooms.{Grants}
use Rattle.spl_procedures.specs.spl_follow.Calling.{Link, Calling, IsResult}
use Rattle.spl_procedures.proofs.spl_follow_proofs.FollowLemmas.{then_follows, bind_follows, returned_follows}
use Rattle.spl_procedures.proofs.spl_follow_proofs.KeepLemmas.{kept_lower}
use Rattle.spl_procedures.proofs.spl_follow_proofs.RowLemmas.{no_print, shown}
use Rattle.spl_procedures.proofs.spl_follow_proofs.StandLemmas.{stands_le}
use Rattle.spl_procedures.proofs.spl_follow_proofs.WayLemmas.{goes_none, goes_wider, lead}
use Rattle.hp_near_calls.proofs.NearLemmas.{calls_near}
use Rattle.spl_procedures.proofs.spl_values_proofs.GiveLemmas.{last_leads}
use Rattle.spl_procedures.proofs.spl_grants_proofs.GrantLemmas.{pieces_grant}
use Rattle.spl_procedures.proofs.EntryLemmas.{Comes}
use Rattle.spl_procedures.proofs.LeaveLemmas.{Result, result_found}
use Rattle.spl_subroutines.specs.Subroutines.{SubroutineFramed, subroutine_setting, IsSubroutine, SubroutineStatementsFollow}
use Rattle.spl_subroutines.specs.Laws.{SubroutinesAreCalled}
use Rattle.spl_subroutines.proofs.FrameLemmas as frames
use Rattle.spl_subroutines.proofs.FrameLemmas.{Over, over_kept}
use Rattle.spl_subroutines.proofs.LeaveLemmas as leave

-- ---- one call

-- of a body whose code and statement are known, from a caller in whose frame it goes on
module _ (g : Ground) (w : Rate) (sites : Sites) (b : Body) (start first out end : Spot) (call : Callee) (d : ℕ)
    (code : SubroutineFramed g w sites b start first out end) (known : IsSubroutine b) (statement : SubroutineStatementsFollow g w b call d first out)
    (st : Setting) (around : b.here.setting ≡ subroutine_setting st b.profile) (p : Point) (beside : start.seg ≡ p.at.seg) (k : ℕ) (vs : List ℕ) (s : State)
    (l : List Begun) (m : Machine) (x : Link) (c : Calling g st (record x { profile = b.profile }) p k vs s l m) (fuel : s.left ≤ d) where
  -- what is left where the call is done
  abbrev Done : List ℕ → State → Machine → Type 0
  Done ws t n = IsResult st (next_word p.at) b.profile k s.now m ws t n

  abbrev setting : Setting
  setting = b.here.setting

  abbrev return : ℕ
  return = p.at.offset + 1

  -- the caller's words
  long : length m.stack ≡ link_of s.now.top k b
  long = let words = c.matches.words in let wide = c.wide in omega (arith, words, wide)

  low : s.now.top + k ≤ length m.stack
  low = omega (arith, long)

  -- the callee over the caller
  abbrev Above : State → Machine → Type 0
  Above t n = Over s.now m.stack (s.now.top + k) (length m.stack) return t.now n.stack

  -- ---- the way out

  abbrev result_read : State → Outcome (List ℕ)
  result_read t = then_go (result_at b.profile.result (s.now.top + k) t) (λ ws u. done ws (left_to s.now u))

  way_out : (t : State) (n : Machine) → spot n ≡ out → Matched setting t.now n 0 → Above t n
      → Follows g w (pos end - pos out) 0 w.reach (tally t) n Done NoExit (result_read t)
  way_out t n at matches over =
      ⊎_elim found lost (result_found setting 0 (s.now.top + k) b.profile.result t n matches (let top = over.top in omega (arith, top, long))) where
        shows : Shows Running t.now n
        shows = shown setting t n 0 matches

        lost : result_at b.profile.result (s.now.top + k) t ≡ strays t → Follows g w (pos end - pos out) 0 w.reach (tally t) n Done NoExit (result_read t)
        lost e =
            subst (λ (o : Outcome (List ℕ)). Follows g w (pos end - pos out) 0 w.reach (tally t) n Done NoExit
            (then_go o (λ ws u. done ws (left_to s.now u)))) (sym e)
            (n, t.begun, goes_none g w (pos end - pos out) 0 (tally t) n, shows, inl refl)

        inner : Matched (subroutine_setting st b.profile) t.now n 0
        inner = subst (λ (z : Setting). Matched z t.now n 0) around matches

        -- the subroutine is left in the caller's segment
        seg : n.regs.seg ≡ p.at.seg
        seg = ap (λ (z : Spot). z.seg) at ∙ code.beside ∙ beside

        -- the number of SXIT is that of the words of the parameters
        exits : Leads g (on out) end (doing g.segments (i.Control 2 (length vs)) end)
        exits =
            let few = known.few in
            let wide = c.wide in
            let same : formals_words b.profile.formals % 256 ≡ length vs = omega (arith, few, wide) in
            subst (λ (n : ℕ). Leads g (on out) end (doing g.segments (i.Control 2 n) end)) same
            (last_leads g sites (on out) (i.Control 2 (formals_words b.profile.formals % 256)) end code.left)

        found : Result b.profile.result (s.now.top + k) t n → Follows g w (pos end - pos out) 0 w.reach (tally t) n Done NoExit (result_read t)
        found f =
            subst (λ (o : Outcome (List ℕ)). Follows g w (pos end - pos out) 0 w.reach (tally t) n Done NoExit (then_go o (λ ws u. done ws (left_to s.now u))))
            (sym f.are) (
              leave.after_exit st p.at k (length vs) b.profile s.now m c.matches t n inner seg over,
              leave.exit_left st p.at k (length vs) b.profile s.now m c.matches t n inner seg over g w out end exits at,
              record {
                words = f.words;
                value = refl;
                stands = leave.left_value st p.at k (length vs) b.profile s.now m c.matches t n inner seg over f.words f.count f.stand f.small;
              },
            )

  -- ---- its statement

  -- from where it begins, and behind it
  statement_runs : (t : State) (n : Machine) → spot n ≡ first → Matched setting t.now n 0 → Above t n → t.now.top + b.depth' ≤ t.now.stack → t.code ≡ None
      → t.left ≤ d
      → Follows g w (pos end - pos out) 3 w.reach (tally t) n Done NoExit (called_back s.now b.profile (s.now.top + k) (run_statement b call d t))
  statement_runs t n at matches over room silent few =
      bind_follows g w 0 3 0 (pos end - pos out) 0 w.reach (pos end - pos out) 3 w.reach (tally t) n (Completes setting out 0 t.now n) Done NoExit
      (returned (run_statement b call d t)) (λ _ u. result_read u)
      (returned_follows g w 0 3 0 (tally t) n setting out 0 t.now n (run_statement b call d t) (omega arith)
      (statement t n (record {
        at = at;
        matches = matches;
        coded = subst (λ (z : Option Code). Coded z n.regs.code) (sym silent) tt;
        room = omega (arith, room);
        fuel = few;
      })))
      (λ u v n1 a fewer.
      let none : t.now.top ≤ t.now.top + 0 = omega arith in
      way_out v n1 a.at a.matches
      (over_kept s.now m.stack (s.now.top + k) (length m.stack) return t.now n.stack v.now n1.stack low over
      (kept_lower t.now.top (t.now.top + 0) t.now n.stack v.now n1.stack a.kept none)))
      (omega arith) (omega arith) (omega arith) (omega arith)

  -- ---- its frame

  -- the frame's rest is the caller's
  framed_expected : outer m ≡ expected (subroutine_setting st b.profile) (subroutine_framed k b vs s.now)
  framed_expected = c.matches.outer

  -- behind the grant the frame is there
  frame_runs : (n : Machine) → Comes first (m.stack ++ return ∷ []) (outer m) n → link_of s.now.top k b + return_words + b.depth' ≤ s.now.stack
      → Follows g w (pos end - pos out) 3 w.reach (tally s) n Done NoExit
      (called_back s.now b.profile (s.now.top + k) (run_statement b call d (framed (subroutine_framed k b vs s.now) s)))
  frame_runs n comes room =
      let t : State = framed (subroutine_framed k b vs s.now) s in
      let matches : Matched (subroutine_setting st b.profile) t.now n 0 =
      subst (λ (u : Outer). Matches (subroutine_setting st b.profile) t.now n.stack u 0) (sym comes.same)
      (subst (λ (ys : List ℕ). Matches (subroutine_setting st b.profile) t.now ys (outer m) 0) (sym comes.words)
      (frames.frame_matches st b k vs s.now m return c.matches c.wide c.stand c.small (outer m) framed_expected (omega (arith, room)))) in
      let over : Above t n =
      subst (λ (ys : List ℕ). Over s.now m.stack (s.now.top + k) (length m.stack) return t.now ys) (sym comes.words)
      (subst (λ (i : ℕ). Over s.now m.stack (s.now.top + k) i return t.now (m.stack ++ return ∷ [])) (sym long)
      (frames.frame_over st b k vs s.now m return c.matches c.wide c.stand c.small)) in
      statement_runs t n comes.at (subst (λ (z : Setting). Matched z t.now n 0) (sym around) matches) over room refl fuel

  -- ---- the call

  -- the machine behind SCAL
  abbrev called : Machine
  called = landed start (record (at_left m) { stack = m.stack ++ return ∷ [] })

  called_is : calling (i.Control 3 0) (body start) (next_word p.at) m ≡ called
  called_is =
      let limit : m.stack_limit ≡ s.now.stack = ap (λ (u : Outer). u.limit) c.matches.outer in
      let room = c.room in
      let wide = c.wide in
      ap (λ (o : Row). ended m o) (branches.subroutine_entered start (next_word p.at) (at_left m) (omega (arith, limit, room, long, wide)))

  -- from its entry on
  entry_runs : Follows g w (pos first - pos start + (pos end - pos out)) 0 w.reach (tally s) called Done NoExit (enter_subroutine call d b vs k s)
  entry_runs = by (nat_lt s.now.stack (link_of s.now.top k b + return_words + b.depth')) refl where
    shows : Shows Running s.now m
    shows = shown st s m (k + result_words b.profile + length vs) c.matches

    limit : m.stack_limit ≡ s.now.stack
    limit = ap (λ (u : Outer). u.limit) c.matches.outer

    one : length (m.stack ++ return ∷ []) ≡ length m.stack + 1
    one = length-append m.stack (return ∷ [])

    grants : Grants g w start first b.depth'
    grants = let deep = known.deep in pieces_grant g w sites start first b.depth' (omega (arith, deep)) code.entered

    by : (z : Bool) → nat_lt s.now.stack (link_of s.now.top k b + return_words + b.depth') ≡ z
        → Follows g w (pos first - pos start + (pos end - pos out)) 0 w.reach (tally s) called Done NoExit
        (if z then ends (trapped StackOverflow) s
        else called_back s.now b.profile (s.now.top + k) (run_statement b call d (framed (subroutine_framed k b vs s.now) s)))
    by true e =
        let less = ltb-true s.now.stack (link_of s.now.top k b + return_words + b.depth') e in
        let least = c.matches.lies.least in
        let way = grants.lacking called refl shows.ending (omega (arith, least, limit)) (omega (arith, less, limit, one, long)) (tally s) in (
          way.0,
          goes_wider g w (pos first - pos start) 0 0 (pos first - pos start + (pos end - pos out)) 0 0 (tally s) called (tally s) way.0 way.1
              (omega arith) (omega arith),
          record { ending = way.2; printed = way.3 ∙ shows.printed },
        )
    by false e =
        let enough = ltb-false s.now.stack (link_of s.now.top k b + return_words + b.depth') e in
        let many = w.enough in
        let way = grants.enough called refl shows.ending (omega (arith, enough, limit, one, long)) (tally s) in
        then_follows g w (pos first - pos start) 0 w.reach (pos end - pos out) 3 w.reach (pos first - pos start + (pos end - pos out)) 0 w.reach
        (tally s) called (tally s) way.0 Done NoExit _ way.1 (frame_runs way.0 (record { at = way.2; words = way.3; same = way.4 }) enough)
        (omega arith) (omega (arith, many)) (omega (arith, many))

  -- and with SCAL
  call_runs : Leads g p (next_word p.at) (calling (i.Control 3 0) (body start) (next_word p.at))
      → Follows g w (pos (next_word p.at) - pos p.at + w.step) 0 w.reach (tally_with l s) m Done NoExit (enter_subroutine call d b vs k s)
  call_runs leads =
      let shows = shown st s m (k + result_words b.profile + length vs) c.matches in
      let near = code.near in
      let order = code.order in
      let ahead = stands_le g sites (granted b.depth') (on start) first code.entered in
      let behind = stands_le g sites (subroutine_left (formals_words b.profile.formals)) (on out) end code.left in
      then_follows g w (pos (next_word p.at) - pos p.at) 0 w.reach (pos first - pos start + (pos end - pos out)) 0 w.reach
      (pos (next_word p.at) - pos p.at + w.step) 0 w.reach (tally_with l s) m (tally s) called Done NoExit _
      (lead g w p (next_word p.at) (calling (i.Control 3 0) (body start) (next_word p.at)) l s m called leads c.at shows.ending c.owes called_is
      (no_print m called refl))
      entry_runs (omega (arith, near, order, ahead, behind)) (omega arith) (omega arith)

-- a call by SCAL of a subroutine with this profile
pub subroutines_follow : SubroutinesAreCalled
subroutines_follow g w sites b start first out end call d code known statement st x p r k vs s l m around by_scal profile leads next c fuel =
    let by_name : Calling g st (record x { profile = b.profile }) p k vs s l m =
    subst (λ (z : Profile). Calling g st (record x { profile = z }) p k vs s l m) profile c in
    let scal : Leads g p r (calling (i.Control 3 0) (body start) r) = subst (λ (z : Instr). Leads g p r (calling z (body start) r)) by_scal leads in
    subst (λ (z : Spot). Follows g w (pos z - pos p.at + w.step) 0 w.reach (tally_with l s) m (IsResult st z b.profile k s.now m) NoExit
    (enter_subroutine call d b vs k s))
    (sym next)
    (call_runs g w sites b start first out end call d code known statement st around p (calls_near g p r start 0 scal) k vs s l m x by_name fuel
    (subst (λ (z : Spot). Leads g p z (calling (i.Control 3 0) (body start) z)) next scal))
