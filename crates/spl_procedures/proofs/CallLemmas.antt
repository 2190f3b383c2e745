-- A call of a procedure: PCAL, the code at its entry, its statements, and EXIT.
-- 1. where its statements are done, the result is read and EXIT goes back     (way_out)
-- 2. before them, cells are set and the mode is entered                      (body_runs)
-- 3. before that, the frame is made: its zeros are steps of the run          (frame_made)
-- 4. and before that the room is granted, or lacks                           (entry_runs)
use Rattle.std.proofs.Common.{◌≡◌, inl, ℕ, ◌+◌, ◌-◌, ◌%◌, ◌≤◌, Bool, true, false, List, [], ◌∷◌, ◌++◌, length, refl, sym, ap, subst, ◌∙◌, arith}
use Rattle.std.specs.Prelude.{Option, None, replicate, nat_lt, if◌then◌else◌, Err}
use Rattle.std.proofs.Math.Logic.{⊎_elim}
use Rattle.std.proofs.lemmas.Bool.{ltb-true, ltb-false}
use Rattle.std.proofs.lemmas.List.{append_assoc, length-append}
use Rattle.hp_call_yields.specs.hp_word.declared.arithmetic.Code.{Code}
use Rattle.hp_call_yields.specs.hp_word.declared.endings.Ending.TheVariants.{Running}
use Rattle.hp_call_yields.specs.hp_word.declared.endings.Trap.TheVariants.{StackOverflow, Mode}
use Rattle.hp_call_yields.specs.hp_instr.declared.instruction.Instr.{Instr}
use Rattle.hp_call_yields.specs.hp_instr.declared.instruction.Instr.TheVariants as i
use Rattle.hp_call_yields.specs.hp_session.State.{Machine, Outcome as Row}
use Rattle.hp_call_yields.specs.hp_call_rows.CallRows.{marker, entered}
use Rattle.hp_call_yields.proofs.CallYields as calls
use Rattle.hp_call_yields.specs.hp_flat.Step.{at_left, ended}
use Rattle.spl_grants.specs.spl_body_code.Frames.{EXIT, granted, zeroed}
use Rattle.spl_grants.specs.spl_branch.declared.pieces.Piece.{Piece}
use Rattle.spl_grants.specs.spl_body_code.Bodies.{frame_of, mode_entered, mode_left, procedure_entered, procedure_left}
use Rattle.spl_grants.specs.spl_body_code.Cells.{cells_set, initials_set}
use Rattle.spl_grants.specs.spl_meaning.Names.{Profile}
use Rattle.spl_grants.specs.spl_meaning.Pending.{formals_words, result_words}
use Rattle.spl_grants.specs.spl_meaning.References.{Setting}
use Rattle.spl_grants.specs.spl_meaning.Statements.{run_body}
use Rattle.spl_grants.specs.spl_meaning.Bodies.{Body}
use Rattle.spl_grants.specs.spl_meaning.Runs as run
use Rattle.spl_grants.specs.spl_meaning.Runs.{link_of, locals_of, procedure_framed, framed, returned, result_at, left_to, called_back}
use Rattle.spl_grants.specs.spl_meaning.States.{Data, State, Begun, trapped, Outcome, done, ends, strays, then_go}
use Rattle.spl_grants.specs.spl_meaning.Values.{Callee}
use Rattle.hp_call_yields.specs.spl_frames.Entries.{data_zeroed}
use Rattle.hp_call_yields.specs.spl_follow.Spots.{Spot, spot, pos, Point, on, Ground, next_word}
use Rattle.hp_call_yields.specs.spl_follow.Leading.{Leads}
use Rattle.hp_call_yields.specs.spl_follow.Matching.{Outer, outer, expected, Matches, Matched, Shows, Stand, Coded}
use Rattle.hp_call_yields.specs.spl_follow.Following.{Rate, tally, tally_with, Follows, NoExit}
use Rattle.hp_call_yields.specs.spl_follow.Doing.{body, calling, doing}
use Rattle.hp_call_yields.specs.spl_follow.Standing.{Sites, Stands}
use Rattle.hp_call_yields.specs.spl_follow.Parts.{Completes}
use Rattle.hp_call_yields.specs.spl_follow.Rooms.{Grants}
use Rattle.hp_call_yields.specs.spl_follow.Calling.{Link, Calling, IsResult}
use Rattle.hp_call_yields.proofs.spl_follow_proofs.FollowLemmas.{then_follows, bind_follows, returned_follows}
use Rattle.hp_call_yields.proofs.spl_follow_proofs.KeepLemmas.{kept_lower}
use Rattle.hp_call_yields.proofs.spl_follow_proofs.PartLemmas.{stand_from_place}
use Rattle.hp_call_yields.proofs.spl_follow_proofs.RowLemmas.{no_print, shown}
use Rattle.hp_call_yields.proofs.spl_follow_proofs.StandLemmas.{stands_le}
use Rattle.hp_call_yields.proofs.spl_follow_proofs.WayLemmas.{goes_none, goes_on, goes_wider, lead}
use Rattle.spl_grants.proofs.spl_values_proofs.GiveLemmas.{last_leads}
use Rattle.spl_grants.proofs.GrantLemmas.{pieces_grant}
use Rattle.spl_procedures.specs.Procedures.{ProcedureFramed, procedure_setting, IsProcedure, HasLocals, AreSet, ProcedureStatementsFollow}
use Rattle.spl_procedures.specs.Laws.{ProceduresAreCalled}
use Rattle.spl_procedures.proofs.ClearLemmas.{Clear, clear_both, clear_granted, clear_zeroed, clear_cells, clear_initials, clear_left}
use Rattle.spl_procedures.proofs.EntryLemmas.{Comes, zeros_there, zeros_follow, mode_enters, mode_leaves}
use Rattle.spl_procedures.proofs.FrameLemmas as frames
use Rattle.spl_procedures.proofs.FrameLemmas.{Over, over_kept}
use Rattle.spl_procedures.proofs.LeaveLemmas as leave
use Rattle.spl_procedures.proofs.LeaveLemmas.{Result, result_found, mode_matched, marker_four}

-- a machine that has come to a stack and a rest matches what they match
comes_matches : (st : Setting) (d : Data) (q : Spot) (xs : List ℕ) (u : Outer) (k : ℕ) (n : Machine) → Comes q xs u n → Matches st d xs u k → Matched st d n k
comes_matches st d q xs u k n c x =
    subst (λ (v : Outer). Matches st d n.stack v k) (sym c.same) (subst (λ (ys : List ℕ). Matches st d ys u k) (sym c.words) x)

-- ---- the stretches of the entry

-- where each of them ends
record Cuts (g : Ground) (sites : Sites) (b : Body) (start first : Spot) : Type 0 where
  granted_to : Spot
  zeroed_to : Spot
  set_to : Spot
  room : Stands g sites (on start) (granted (b.words + b.depth')) granted_to
  zeros : Stands g sites (on granted_to) (zeroed b.words) zeroed_to
  cells : Stands g sites (on zeroed_to) (cells_set b.cells ++ initials_set b.initials) set_to
  mode : Stands g sites (on set_to) (mode_entered b.here.setting.split) first

cuts_of : (g : Ground) (sites : Sites) (b : Body) (start first : Spot) → Stands g sites (on start) (procedure_entered (frame_of b)) first
    → Cuts g sites b start first
cuts_of g sites b start first stands =
    let room = granted (b.words + b.depth') in
    let zeros = zeroed b.words in
    let cells = cells_set b.cells in
    let initials = initials_set b.initials in
    let mode = mode_entered b.here.setting.split in
    let clear : Clear (cells ++ initials) = clear_both cells initials (clear_cells b.cells) (clear_initials b.initials) in
    let before : Clear (room ++ zeros) = clear_both room zeros (clear_granted (b.words + b.depth')) (clear_zeroed b.words) in
    let last =
    stand_from_place g sites ((room ++ zeros) ++ (cells ++ initials)) mode start first (clear_both (room ++ zeros) (cells ++ initials) before clear)
    (subst (λ (ps : List Piece). Stands g sites (on start) (ps ++ mode) first) (append_assoc (room ++ zeros) cells initials) stands) in
    let middle = stand_from_place g sites (room ++ zeros) (cells ++ initials) start last.0 before last.1 in
    let front = stand_from_place g sites room zeros start middle.0 (clear_granted (b.words + b.depth')) middle.1 in
    record {
      granted_to = front.0;
      zeroed_to = middle.0;
      set_to = last.0;
      room = front.1;
      zeros = front.2;
      cells = middle.2;
      mode = last.2;
    }

-- ---- one call

-- of a body whose code and statements are known, from a caller
module _ (g : Ground) (w : Rate) (sites : Sites) (b : Body) (start first out end : Spot) (call : Callee) (d : ℕ)
    (code : ProcedureFramed g w sites b start first out end) (known : IsProcedure b) (sets : AreSet g w sites b)
    (statements : ProcedureStatementsFollow g w b call d first out)
    (st : Setting) (whole : st.split ≡ false) (p : Point) (k : ℕ) (vs : List ℕ) (s : State) (l : List Begun) (m : Machine) (x : Link)
    (c : Calling g st (record x { profile = b.profile }) p k vs s l m) (fuel : s.left ≤ d) where
  -- what is left where the call is done
  abbrev Done : List ℕ → State → Machine → Type 0
  Done ws t n = IsResult st (next_word p.at) b.profile k s.now m ws t n

  abbrev setting : Setting
  setting = b.here.setting

  abbrev marked : List ℕ
  marked = marker (at_left m)

  -- the caller's words
  long : length m.stack ≡ link_of s.now.top k b
  long = let words = c.matches.words in let wide = c.wide in omega (arith, words, wide)

  -- ---- the way out

  abbrev result_read : State → Outcome (List ℕ)
  result_read t = then_go (result_at b.profile.result (s.now.top + k) t) (λ ws u. done ws (left_to s.now u))

  way_out : (t : State) (n : Machine) → spot n ≡ out → Matched setting t.now n 0
      → Over s.now m.stack (s.now.top + k) (length m.stack) marked t.now n.stack
      → Follows g w (pos end - pos out) 0 w.reach (tally t) n Done NoExit (result_read t)
  way_out t n at matches over =
      ⊎_elim found lost (result_found setting 0 (s.now.top + k) b.profile.result t n matches (let top = over.top in omega (arith, top, long))) where
        shows : Shows Running t.now n
        shows = shown setting t n 0 matches

        lost : result_at b.profile.result (s.now.top + k) t ≡ strays t → Follows g w (pos end - pos out) 0 w.reach (tally t) n Done NoExit (result_read t)
        lost e =
            subst (λ (o : Outcome (List ℕ)). Follows g w (pos end - pos out) 0 w.reach (tally t) n Done NoExit
            (then_go o (λ ws u. done ws (left_to s.now u)))) (sym e)
            (n, t.begun, goes_none g w (pos end - pos out) 0 (tally t) n, shows, inl refl)

        in_setting : Matched (procedure_setting setting.split b.profile) t.now n 0
        in_setting = subst (λ (z : Setting). Matched z t.now n 0) known.setting matches

        cut : (q : Spot) × Stands g sites (on out) (mode_left setting.split) q × Stands g sites (on q) (EXIT (formals_words b.profile.formals % 256) ∷ []) end
            × (pos out ≤ pos q) × (pos q ≤ pos end)
        cut =
            stand_from_place g sites (mode_left setting.split) (EXIT (formals_words b.profile.formals % 256) ∷ []) out end (clear_left setting.split) code.left

        -- the number of EXIT is that of the words of the parameters
        exits : Leads g (on cut.0) end (doing g.segments (i.Control 1 (length vs)) end)
        exits =
            let few = known.few in
            let wide = c.wide in
            let same : formals_words b.profile.formals % 256 ≡ length vs = omega (arith, few, wide) in
            subst (λ (n : ℕ). Leads g (on cut.0) end (doing g.segments (i.Control 1 n) end)) same
            (last_leads g sites (on cut.0) (i.Control 1 (formals_words b.profile.formals % 256)) end cut.2)

        found : Result b.profile.result (s.now.top + k) t n → Follows g w (pos end - pos out) 0 w.reach (tally t) n Done NoExit (result_read t)
        found f =
            let y = mode_leaves g w sites setting.split out cut.0 t n cut.1 at (ap (λ (u : Outer). u.split) matches.outer) shows.ending in
            let joined : Matched (procedure_setting false b.profile) t.now y.0 0 =
            comes_matches (procedure_setting false b.profile) t.now cut.0 n.stack (record (outer n) { split = false }) 0 y.0 y.2
            (mode_matched setting.split false b.profile t.now n.stack (outer n) 0 in_setting) in
            let over' = subst (λ (ys : List ℕ). Over s.now m.stack (s.now.top + k) (length m.stack) marked t.now ys) (sym y.2.words) over in
            let stand' = subst (λ (ys : List ℕ). Stand ys (s.now.top + k) f.words) (sym y.2.words) f.stand in
            let before = cut.3 in
            let after = cut.4 in
            subst (λ (o : Outcome (List ℕ)). Follows g w (pos end - pos out) 0 w.reach (tally t) n Done NoExit (then_go o (λ ws u. done ws (left_to s.now u))))
            (sym f.are) (
              leave.after_exit st whole g p.at k (length vs) b.profile s.now m c.at c.real c.matches t y.0 joined over',
              goes_on g w (pos cut.0 - pos out) 0 0 (pos end - pos cut.0) 0 w.reach (pos end - pos out) 0 w.reach (tally t) n (tally t) y.0 (tally t)
                  (leave.after_exit st whole g p.at k (length vs) b.profile s.now m c.at c.real c.matches t y.0 joined over') y.1
                  (leave.exit_left st whole g p.at k (length vs) b.profile s.now m c.at c.real c.matches t y.0 joined over' w cut.0 end exits y.2.at)
                  (omega (arith, before, after)) (omega arith),
              record {
                words = f.words;
                value = refl;
                stands =
                    leave.left_value st whole g p.at k (length vs) b.profile s.now m c.at c.real c.matches t y.0 joined over' f.words f.count stand' f.small;
              },
            )

  -- ---- its statements

  -- what comes of the frame that is made
  abbrev rest : State → Outcome (List ℕ)
  rest t =
      called_back s.now b.profile (s.now.top + k) (run_body b.here call d b.number b.statements (record t { now = run.cells_set b t.now }))

  -- the statements with their data
  abbrev statements_run : State → Outcome (Unit {0})
  statements_run t = run_body b.here call d b.number b.statements t

  low : s.now.top + k ≤ length m.stack
  low = omega (arith, long)

  -- where the statements begin, and behind them
  all_run : (t : State) (n : Machine) → spot n ≡ first → Matched setting t.now n 0
      → Over s.now m.stack (s.now.top + k) (length m.stack) marked t.now n.stack → t.now.top + b.depth' ≤ t.now.stack → t.code ≡ None → t.left ≤ d
      → Follows g w (pos end - pos out) 3 w.reach (tally t) n Done NoExit (called_back s.now b.profile (s.now.top + k) (statements_run t))
  all_run t n at matches over room silent few =
      bind_follows g w 0 3 0 (pos end - pos out) 0 w.reach (pos end - pos out) 3 w.reach (tally t) n (Completes setting out 0 t.now n) Done NoExit
      (returned (statements_run t)) (λ _ u. result_read u)
      (returned_follows g w 0 3 0 (tally t) n setting out 0 t.now n (statements_run t) (omega arith)
      (statements t n (record {
        at = at;
        matches = matches;
        coded = subst (λ (z : Option Code). Coded z n.regs.code) (sym silent) tt;
        room = omega (arith, room);
        fuel = few;
      })))
      (λ u v n1 a fewer.
      let none : t.now.top ≤ t.now.top + 0 = omega arith in
      way_out v n1 a.at a.matches
      (over_kept s.now m.stack (s.now.top + k) (length m.stack) marked t.now n.stack v.now n1.stack low over
      (kept_lower t.now.top (t.now.top + 0) t.now n.stack v.now n1.stack a.kept none)))
      (omega arith) (omega arith) (omega arith) (omega arith)

  -- from the end of the zeros, with the frame's data
  body_runs : (cuts : Cuts g sites b start first) (t : State) (n : Machine) → spot n ≡ cuts.zeroed_to → Matched (procedure_setting false b.profile) t.now n 0
      → HasLocals b t.now → Over s.now m.stack (s.now.top + k) (length m.stack) marked t.now n.stack → t.now.top + b.depth' ≤ t.now.stack → t.code ≡ None
      → t.left ≤ d
      → Follows g w (pos first - pos cuts.zeroed_to + (pos end - pos out)) 3 w.reach (tally t) n Done NoExit (rest t)
  body_runs cuts t n at matches locals over room silent few =
      let deep = known.deep in
      let set = sets cuts.zeroed_to cuts.set_to cuts.cells t n at matches locals (omega (arith, room, deep)) silent in
      let t1 : State = record t { now = run.cells_set b t.now } in
      let n1 : Machine = set.0 in
      let none : t.now.top ≤ t.now.top + 0 = omega arith in
      let over1 =
      over_kept s.now m.stack (s.now.top + k) (length m.stack) marked t.now n.stack t1.now n1.stack low over
      (kept_lower t.now.top (t.now.top + 0) t.now n.stack t1.now n1.stack set.2.kept none) in
      let shows = shown (procedure_setting false b.profile) t1 n1 0 set.2.matches in
      let y = mode_enters g w sites setting.split cuts.set_to first t1 n1 cuts.mode set.2.at (ap (λ (u : Outer). u.split) set.2.matches.outer) shows.ending in
      let in_mode : Matched (procedure_setting setting.split b.profile) t1.now y.0 0 =
      comes_matches (procedure_setting setting.split b.profile) t1.now first n1.stack (record (outer n1) { split = setting.split }) 0 y.0 y.2
      (mode_matched false setting.split b.profile t1.now n1.stack (outer n1) 0 set.2.matches) in
      let over2 = subst (λ (ys : List ℕ). Over s.now m.stack (s.now.top + k) (length m.stack) marked t1.now ys) (sym y.2.words) over1 in
      let one = stands_le g sites (cells_set b.cells ++ initials_set b.initials) (on cuts.zeroed_to) cuts.set_to cuts.cells in
      let two = stands_le g sites (mode_entered setting.split) (on cuts.set_to) first cuts.mode in
      then_follows g w (pos cuts.set_to - pos cuts.zeroed_to) 0 0 (pos first - pos cuts.set_to + (pos end - pos out)) 3 w.reach
      (pos first - pos cuts.zeroed_to + (pos end - pos out)) 3 w.reach (tally t) n (tally t1) n1 Done NoExit (rest t) set.1
      (then_follows g w (pos first - pos cuts.set_to) 0 0 (pos end - pos out) 3 w.reach (pos first - pos cuts.set_to + (pos end - pos out)) 3 w.reach
      (tally t1) n1 (tally t1) y.0 Done NoExit (rest t) y.1
      (all_run t1 y.0 y.2.at (subst (λ (z : Setting). Matched z t1.now y.0 0) (sym known.setting) in_mode) over2 room silent few)
      (omega arith) (omega arith) (omega arith))
      (omega (arith, one, two)) (omega arith) (omega arith)

  -- ---- its frame

  -- the rest of the machine behind PCAL
  abbrev entered_outer : Outer
  entered_outer = record (outer m) { q = length m.stack + 3 }

  entered_expected : entered_outer ≡ expected (procedure_setting false b.profile) (data_zeroed s.now k b vs)
  entered_expected =
      let base : length m.stack + 3 ≡ locals_of s.now.top k b - 1 = omega (arith, long) in
      ap (λ (u : Outer). record u { q = length m.stack + 3 }) c.matches.outer
      ∙ ap (λ (z : Bool). record (expected st s.now) { q = length m.stack + 3; split = z }) whole
      ∙ ap (λ (i : ℕ). record (expected (procedure_setting false b.profile) s.now) { q = i }) base

  -- behind the grant: the zeros, which are steps of the run too, and the rest
  frame_made : (cuts : Cuts g sites b start first) (n : Machine) → Comes cuts.granted_to (m.stack ++ marked) entered_outer n
      → locals_of s.now.top k b + b.words + b.depth' ≤ s.now.stack
      → Follows g w (pos first - pos cuts.granted_to + (pos end - pos out)) (3 + b.words) w.reach (tally s) n Done NoExit
      (run.zeroed b.words (locals_of s.now.top k b) (framed (procedure_framed k b vs s.now) s) rest)
  frame_made cuts n comes room =
      let shows = shown st s m (k + result_words b.profile + length vs) c.matches in
      let four = length-append m.stack marked ∙ ap (λ (i : ℕ). length m.stack + i) (marker_four (at_left m)) in
      let runs : n.ending ≡ Running = ap (λ (u : Outer). u.ending) comes.same ∙ shows.ending in
      let limit : n.stack_limit ≡ s.now.stack = ap (λ (u : Outer). u.limit) comes.same ∙ ap (λ (u : Outer). u.limit) c.matches.outer in
      let y = zeros_there g w sites b.words cuts.granted_to cuts.zeroed_to (tally s) n (m.stack ++ marked) entered_outer cuts.zeros comes runs
      (omega (arith, room, four, long, limit)) in
      let one = stands_le g sites (zeroed b.words) (on cuts.granted_to) cuts.zeroed_to cuts.zeros in
      let two = stands_le g sites (cells_set b.cells ++ initials_set b.initials) (on cuts.zeroed_to) cuts.set_to cuts.cells in
      let three = stands_le g sites (mode_entered setting.split) (on cuts.set_to) first cuts.mode in
      let matches =
      comes_matches (procedure_setting false b.profile) (data_zeroed s.now k b vs) cuts.zeroed_to ((m.stack ++ marked) ++ replicate b.words 0) entered_outer 0
      y.0 y.2
      (frames.frame_matches st b k vs s.now m marked (marker_four (at_left m)) c.matches c.wide c.stand c.small entered_outer entered_expected
      (omega (arith, room))) in
      let over =
      subst (λ (ys : List ℕ). Over s.now m.stack (s.now.top + k) (length m.stack) marked (data_zeroed s.now k b vs) ys) (sym y.2.words)
      (subst (λ (i : ℕ). Over s.now m.stack (s.now.top + k) i marked (data_zeroed s.now k b vs) ((m.stack ++ marked) ++ replicate b.words 0)) (sym long)
      (frames.frame_over st b k vs s.now m marked (marker_four (at_left m)) c.matches c.wide c.stand c.small)) in
      let locals = frames.frame_has_locals st b k vs s.now m marked (marker_four (at_left m)) c.matches c.wide c.stand c.small in
      then_follows g w (pos cuts.zeroed_to - pos cuts.granted_to) 0 0 (pos first - pos cuts.zeroed_to + (pos end - pos out)) (3 + b.words) w.reach
      (pos first - pos cuts.granted_to + (pos end - pos out)) (3 + b.words) w.reach (tally s) n (tally s) y.0 Done NoExit _ y.1
      (zeros_follow g w (pos first - pos cuts.zeroed_to + (pos end - pos out)) 3 w.reach (3 + b.words) b.words (locals_of s.now.top k b)
      (framed (procedure_framed k b vs s.now) s) y.0 Done NoExit rest
      (record { ending = ap (λ (u : Outer). u.ending) y.2.same ∙ shows.ending; printed = ap (λ (u : Outer). u.printed) y.2.same ∙ shows.printed })
      (λ j same. body_runs cuts (record (framed (procedure_framed k b vs s.now) s) { now = data_zeroed s.now k b vs; left = j }) y.0 y.2.at matches locals
      over room refl
      (omega (arith, fuel, same)))
      (omega arith))
      (omega (arith, one, two, three)) (omega arith) (omega arith)

  -- ---- the call

  -- the machine behind PCAL
  abbrev called : Machine
  called = record (at_left m) {
    stack = m.stack ++ marked;
    regs = record (at_left m).regs { q = length m.stack + 3; p = start.offset; seg = start.seg; right = false };
  }

  called_is : calling (i.Control 0 0) (body start) (next_word p.at) m ≡ called
  called_is =
      let shows = shown st s m (k + result_words b.profile + length vs) c.matches in
      let limit : m.stack_limit ≡ s.now.stack = ap (λ (u : Outer). u.limit) c.matches.outer in
      let room = c.room in
      let wide = c.wide in
      let split : m.split ≡ false = ap (λ (u : Outer). u.split) c.matches.outer ∙ whole in
      ap (λ (z : Bool). ended m (if z then Err Mode else entered start.seg start.offset (at_left m))) split
      ∙ ap (λ (o : Row). ended m o) (calls.procedure_entered start.seg start.offset (at_left m) (omega (arith, limit, room, long, wide)))

  -- from its entry on
  entry_runs : (cuts : Cuts g sites b start first)
      → Follows g w (pos first - pos start + (pos end - pos out)) 0 w.reach (tally s) called Done NoExit (run.enter_procedure call d b vs k s)
  entry_runs cuts = by (nat_lt s.now.stack (locals_of s.now.top k b + b.words + b.depth')) refl where
    shows : Shows Running s.now m
    shows = shown st s m (k + result_words b.profile + length vs) c.matches

    limit : m.stack_limit ≡ s.now.stack
    limit = ap (λ (u : Outer). u.limit) c.matches.outer

    four : length (m.stack ++ marked) ≡ length m.stack + 4
    four = length-append m.stack marked ∙ ap (λ (i : ℕ). length m.stack + i) (marker_four (at_left m))

    at : spot called ≡ start
    at = ap (λ (z : Bool). record start { right = z }) (sym code.whole)

    grants : Grants g w start cuts.granted_to (b.words + b.depth')
    grants = let deep = known.deep in pieces_grant g w sites start cuts.granted_to (b.words + b.depth') (omega (arith, deep)) cuts.room

    order : pos cuts.granted_to ≤ pos first
    order =
        let one = stands_le g sites (zeroed b.words) (on cuts.granted_to) cuts.zeroed_to cuts.zeros in
        let two = stands_le g sites (cells_set b.cells ++ initials_set b.initials) (on cuts.zeroed_to) cuts.set_to cuts.cells in
        let three = stands_le g sites (mode_entered setting.split) (on cuts.set_to) first cuts.mode in
        omega (arith, one, two, three)

    by : (z : Bool) → nat_lt s.now.stack (locals_of s.now.top k b + b.words + b.depth') ≡ z
        → Follows g w (pos first - pos start + (pos end - pos out)) 0 w.reach (tally s) called Done NoExit
        (if z then ends (trapped StackOverflow) s else run.zeroed b.words (locals_of s.now.top k b) (framed (procedure_framed k b vs s.now) s) rest)
    by true e =
        let less = ltb-true s.now.stack (locals_of s.now.top k b + b.words + b.depth') e in
        let least = c.matches.lies.least in
        let way = grants.lacking called at shows.ending (omega (arith, least, limit)) (omega (arith, less, limit, four, long)) (tally s) in (
          way.0,
          goes_wider g w (pos cuts.granted_to - pos start) 0 0 (pos first - pos start + (pos end - pos out)) 0 0 (tally s) called (tally s) way.0 way.1
              (omega (arith, order)) (omega arith),
          record { ending = way.2; printed = way.3 ∙ shows.printed },
        )
    by false e =
        let enough = ltb-false s.now.stack (locals_of s.now.top k b + b.words + b.depth') e in
        let reach = code.reach in
        let here = stands_le g sites (granted (b.words + b.depth')) (on start) cuts.granted_to cuts.room in
        let way = grants.enough called at shows.ending (omega (arith, enough, limit, four, long)) (tally s) in
        then_follows g w (pos cuts.granted_to - pos start) 0 w.reach (pos first - pos cuts.granted_to + (pos end - pos out)) (3 + b.words) w.reach
        (pos first - pos start + (pos end - pos out)) 0 w.reach (tally s) called (tally s) way.0 Done NoExit _ way.1
        (frame_made cuts way.0 (record { at = way.2; words = way.3; same = way.4 }) enough)
        (omega (arith, here, order)) (omega (arith, reach)) (omega (arith, reach))

  -- and with PCAL
  call_runs : (cuts : Cuts g sites b start first) → Leads g p (next_word p.at) (calling (i.Control 0 0) (body start) (next_word p.at))
      → Follows g w (pos (next_word p.at) - pos p.at + w.step) 0 w.reach (tally_with l s) m Done NoExit (run.enter_procedure call d b vs k s)
  call_runs cuts leads =
      let shows = shown st s m (k + result_words b.profile + length vs) c.matches in
      let near = code.near in
      let order = code.order in
      let ahead = stands_le g sites (procedure_entered (frame_of b)) (on start) first code.entered in
      let behind = stands_le g sites (procedure_left setting.split (formals_words b.profile.formals)) (on out) end code.left in
      let many = w.enough in
      then_follows g w (pos (next_word p.at) - pos p.at) 0 w.reach (pos first - pos start + (pos end - pos out)) 0 w.reach
      (pos (next_word p.at) - pos p.at + w.step) 0 w.reach (tally_with l s) m (tally s) called Done NoExit _
      (lead g w p (next_word p.at) (calling (i.Control 0 0) (body start) (next_word p.at)) l s m called leads c.at shows.ending c.owes called_is
      (no_print m called refl))
      (entry_runs cuts) (omega (arith, near, order, ahead, behind)) (omega arith) (omega arith)

-- a call by PCAL of a procedure with this profile
pub procedures_follow : ProceduresAreCalled
procedures_follow g w sites b start first out end call d code known sets statements st x p r k vs s l m whole by_pcal profile leads next c fuel =
    let by_name : Calling g st (record x { profile = b.profile }) p k vs s l m =
    subst (λ (z : Profile). Calling g st (record x { profile = z }) p k vs s l m) profile c in
    subst (λ (z : Spot). Follows g w (pos z - pos p.at + w.step) 0 w.reach (tally_with l s) m (IsResult st z b.profile k s.now m) NoExit
    (run.enter_procedure call d b vs k s))
    (sym next)
    (call_runs g w sites b start first out end call d code known sets statements st whole p k vs s l m x by_name fuel
    (cuts_of g sites b start first code.entered)
    (subst (λ (z : Spot). Leads g p z (calling (i.Control 0 0) (body start) z)) next
    (subst (λ (z : Instr). Leads g p r (calling z (body start) r)) by_pcal leads)))
