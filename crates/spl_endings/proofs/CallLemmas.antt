-- Calls that end the session, as statements.
use Rattle.std.proofs.Common.{◌≡◌, ℕ, ◌+◌, ◌-◌, true, false, List, [], ◌∷◌, ◌++◌, length, refl, sym, ap, subst, ◌∙◌, arith}
use Rattle.std.specs.Prelude.{Option, None, Some, slice_index}
use Rattle.std.proofs.lemmas.List.{append-nil}
use Rattle.hp_call_yields.specs.hp_word.Words.{signed}
use Rattle.hp_call_yields.specs.hp_word.declared.endings.Ending.TheVariants.{Running, Terminated, Quit}
use Rattle.hp_call_yields.specs.hp_word.declared.intrinsics.Intrinsic.{Intrinsic}
use Rattle.hp_call_yields.specs.hp_word.declared.intrinsics.Intrinsic.TheVariants as gate
use Rattle.hp_call_yields.specs.hp_word.Intrinsics as calls
use Rattle.hp_call_yields.specs.hp_instr.declared.instruction.Instr.TheVariants as i
use Rattle.hp_call_yields.specs.hp_session.State.{Machine}
use Rattle.hp_call_yields.specs.spl_tree.declared.names_and_places.At.{At}
use Rattle.hp_call_yields.specs.spl_tree.declared.expressions.Kind.TheVariants as kind
use Rattle.hp_call_yields.specs.spl_branch.declared.pieces.Piece.{Piece}
use Rattle.hp_call_yields.specs.spl_branch.declared.pieces.Piece.TheVariants.{Call}
use Rattle.hp_call_yields.specs.spl_meaning.Laws.{IsFront}
use Rattle.hp_call_yields.specs.spl_meaning.Names.{intrinsic_named}
use Rattle.hp_call_yields.specs.spl_meaning.Operations.{passed}
use Rattle.hp_call_yields.specs.spl_meaning.References.{Setting}
use Rattle.hp_call_yields.specs.spl_meaning.Runs.{ending_of}
use Rattle.hp_call_yields.specs.spl_meaning.Serving as run
use Rattle.hp_call_yields.specs.spl_meaning.Serving.{carried_out}
use Rattle.hp_call_yields.specs.spl_meaning.States.{Data, State, Begun, End, Exit, terminated, quit, Outcome, done, leaves, spent, ends, strays, then_go, stepping}
use Rattle.hp_call_yields.specs.spl_meaning.Statements.{value_dropped}
use Rattle.hp_call_yields.specs.spl_code.Parts.{Wanted, pieces, nothing, wanted_place, with_wanted}
use Rattle.hp_call_yields.specs.spl_follow.Spots.{Spot, spot, pos, Point, on, Ground}
use Rattle.hp_call_yields.specs.spl_follow.Leading.{Leads}
use Rattle.hp_call_yields.specs.spl_follow.Matching.{Outer, Matched, Shows, IsValue}
use Rattle.hp_call_yields.specs.spl_follow.Following.{Owes, Rate, Tally, tally, tally_with, Follows, NoExit}
use Rattle.hp_call_yields.specs.spl_follow.Doing.{Way, calling}
use Rattle.hp_call_yields.specs.spl_follow.Standing.{Sites, Stands}
use Rattle.hp_call_yields.specs.spl_follow.Parts.{Ready, Completes, Leaving}
use Rattle.hp_call_yields.specs.spl_follow.Simulating.{Surroundings}
use Rattle.hp_call_yields.proofs.spl_follow_proofs.FollowLemmas.{bind_follows, no_exit, spend_follows, widen}
use Rattle.hp_call_yields.proofs.spl_follow_proofs.KeepLemmas.{value_word}
use Rattle.hp_call_yields.proofs.spl_follow_proofs.PartLemmas.{stand_in_order, statements_begin_noted}
use Rattle.hp_call_yields.proofs.spl_follow_proofs.RowLemmas.{behind_here, no_print, shown}
use Rattle.hp_call_yields.proofs.spl_follow_proofs.WayLemmas.{goes_wider, lead}
use Rattle.spl_values.proofs.SumLemmas.{front_on}
use Rattle.spl_endings.specs.Gates.{Served, GatesLead}
use Rattle.spl_endings.specs.Laws.{TerminatePerforms, QuitPerforms}
use Rattle.spl_endings.proofs.WantLemmas.{wanted_there, wanted_keeps}
use Rattle.spl_endings.proofs.GateLemmas.{Ends, terminate_ends, quit_ends, terminate_run, quit_run}

-- ---- where it stands

-- no pieces behind others
without_none : (g : Ground) (w : Sites) (p : Point) (ps : List Piece) (q : Spot) → Stands g w p (ps ++ []) q → Stands g w p ps q
without_none g w p ps q stands = subst (λ (xs : List Piece). Stands g w p xs q) (append-nil ps) stands

-- the last call leads to the end
last_call : (g : Ground) (w : Sites) (p : Point) (index : ℕ) (q : Spot) → Stands g w p (Call (i.Control 0 0) true index ∷ []) q
    → Leads g p q (calling (i.Control 0 0) (w.ways true index) q)
last_call g w p index q stands =
    subst (λ (r : Spot). Leads g p r (calling (i.Control 0 0) (w.ways true index) r)) (ap (λ (x : Point). x.at) stands.4) stands.1

-- ---- what is followed

-- what is still to be met is told by the statements begun alone
owes_same : (o : Option At) (l : List Begun) (s t : State) (m : Machine) → s.begun ≡ t.begun → Owes o l s m → Owes o l t m
owes_same None l s t m same owes = owes ∙ same
owes_same (Some at) l s t m same owes = (owes.0, owes.1, owes.2 ∙ same)

-- a call that ends the run, behind its step: the machine ends so, with nothing printed
ends_follow : {A : Type 0} (g : Ground) (w : Rate) (e : ℕ) (p : Point) (r : Spot) (way : Way) (l : List Begun) (s : State) (m : Machine) (x : End)
    (P : A → State → Machine → Type 0) (J : Exit → State → Machine → Type 0) → Leads g p r (calling (i.Control 0 0) way r) → spot m ≡ p.at
    → Owes p.due l s m → Shows Running s.now m → Ends way r (ending_of x) m
    → Follows g w (pos r - pos p.at) 1 e (tally_with l s) m P J (stepping s (λ u. ends x u))
ends_follow g w e p r way l s m x P J leads at owes shows ended =
    let n = calling (i.Control 0 0) way r m in
    spend_follows g w (pos r - pos p.at) 0 (pos r - pos p.at) 1 e s l m P J (λ u. ends x u) shows (behind_here g p l s m leads.start at shows.ending owes)
    (λ k is.
    let t = record s { left = k } in
    let goes = lead g w p r (calling (i.Control 0 0) way r) l t m n leads at shows.ending (owes_same p.due l s t m refl owes) refl (no_print m n ended.printed) in (
      n,
      goes_wider g w (pos r - pos p.at) 0 w.reach (pos r - pos p.at) 0 0 (tally_with l t) m (tally t) n goes (omega arith) (omega arith),
      record { ending = ended.ending; printed = ended.printed ∙ shows.printed },
    ))
    (omega arith) (omega arith)

-- nothing is done behind it
abbrev NoValue : {A : Type 0} → A → State → Machine → Type 0
NoValue x s m = ⊥

-- what is dropped of a part that ends
dropped_ends : (g : Ground) (w : Rate) (a : ℕ) (t : Tally) (m : Machine) (P : Unit {0} → State → Machine → Type 0) (J : Exit → State → Machine → Type 0)
    (o : Outcome (List ℕ)) → Follows g w a 1 w.reach t m NoValue J o → Follows g w a 1 w.reach t m P J (value_dropped o)
dropped_ends g w a t m P J o f =
    bind_follows g w a 1 w.reach 0 0 0 a 1 w.reach t m NoValue P J o (λ vs s. done tt s) f (λ vs s n never fewer. absurd never) (omega arith) (omega arith)
    (omega arith) (omega arith)

-- the machine is in the mode of the run
mode_is : (st : Setting) (d : Data) (m : Machine) (k : ℕ) → Matched st d m k → m.split ≡ st.split
mode_is st d m k x = ap (λ (u : Outer). u.split) x.outer

-- TERMINATE, where the run is ready for it
terminate_follows : (g : Ground) (w : Rate) (sites : Sites) (st : Setting) (d : ℕ) (p : Point) (q : Spot) (k need index : ℕ) (s : State) (l : List Begun)
    (m : Machine) (P : Unit {0} → State → Machine → Type 0) (J : Exit → State → Machine → Type 0) → Served (sites.ways true index) gate.Terminate
    → st.split ≡ false → Stands g sites p (Call (i.Control 0 0) true index ∷ []) q → Ready st d p k need s l m
    → Follows g w (pos q - pos p.at) 1 w.reach (tally_with l s) m P J (value_dropped (run.served gate.Terminate [] s))
terminate_follows g w sites st d p q k need index s l m P J v whole stands ready =
    let c = carried_out (record calls.nothing { ending = Terminated }) s in
    let leads = last_call g sites p index q stands in
    let shows = shown st s m k ready.matches in
    dropped_ends g w (pos q - pos p.at) (tally_with l s) m P J (run.served gate.Terminate [] s)
    (subst (λ (o : Outcome (List ℕ)). Follows g w (pos q - pos p.at) 1 w.reach (tally_with l s) m NoValue J o) (sym (terminate_run s))
    (ends_follow g w w.reach p q (sites.ways true index) l c m terminated NoValue J leads ready.at (owes_same p.due l s c m refl ready.owes)
    (record { ending = shows.ending; printed = shows.printed }) (terminate_ends (sites.ways true index) q m v (mode_is st s.now m k ready.matches ∙ whole))))

-- QUIT, behind a word that is its value
quit_follows : (g : Ground) (w : Rate) (sites : Sites) (st : Setting) (r q : Spot) (k index v : ℕ) (d0 : Data) (m0 : Machine) (s : State) (m : Machine)
    (P : Unit {0} → State → Machine → Type 0) (J : Exit → State → Machine → Type 0) → Served (sites.ways true index) gate.Quit → st.split ≡ false
    → Stands g sites (on r) (Call (i.Control 0 0) true index ∷ []) q → IsValue st r 1 k d0 m0 (v ∷ []) s m
    → Follows g w (pos q - pos r) 1 w.reach (tally s) m P J (value_dropped (run.served gate.Quit (v ∷ []) s))
quit_follows g w sites st r q k index v d0 m0 s m P J serves whole stands x =
    let c = carried_out (record calls.nothing { ending = Quit (signed v) }) s in
    let leads = last_call g sites (on r) index q stands in
    let shows = shown st s m (k + 1) x.matches in
    let words = x.matches.words in
    let top : length m.stack - 1 ≡ length m.stack - 1 - 0 = omega arith in
    dropped_ends g w (pos q - pos r) (tally s) m P J (run.served gate.Quit (v ∷ []) s)
    (subst (λ (o : Outcome (List ℕ)). Follows g w (pos q - pos r) 1 w.reach (tally s) m NoValue J o) (sym (quit_run v s))
    (ends_follow g w w.reach (on r) q (sites.ways true index) s.begun c m (quit (signed v)) NoValue J leads x.at refl
    (record { ending = shows.ending; printed = shows.printed })
    (quit_ends (sites.ways true index) q m v serves (mode_is st s.now m (k + 1) x.matches ∙ whole) (omega (arith, words))
    (ap (λ (i : ℕ). slice_index m.stack i) top ∙ value_word st r 1 k 0 0 d0 m0 (v ∷ []) s m x refl))))

-- the same behind a value by its words, of which there is one
quit_passed : (g : Ground) (w : Rate) (sites : Sites) (st : Setting) (r q : Spot) (k index : ℕ) (vs : List ℕ) (d0 : Data) (m0 : Machine) (s : State) (m : Machine)
    (P : Unit {0} → State → Machine → Type 0) (J : Exit → State → Machine → Type 0) → Served (sites.ways true index) gate.Quit → st.split ≡ false
    → Stands g sites (on r) (Call (i.Control 0 0) true index ∷ []) q → IsValue st r 1 k d0 m0 vs s m
    → Follows g w (pos q - pos r) 1 w.reach (tally s) m P J
    (value_dropped (then_go (passed (Some kind.Integer) vs s) (λ us t. run.served gate.Quit us t)))
quit_passed g w sites st r q k index (v ∷ []) d0 m0 s m P J serves whole stands x = quit_follows g w sites st r q k index v d0 m0 s m P J serves whole stands x
quit_passed g w sites st r q k index [] d0 m0 s m P J serves whole stands x = let wide = x.wide in absurd (omega (arith, wide))
quit_passed g w sites st r q k index (v ∷ u ∷ vs) d0 m0 s m P J serves whole stands x = let wide = x.wide in absurd (omega (arith, wide))

-- a value that is passed on to what ends the run is passed on where it is made
dropped_in : (o : Outcome (List ℕ)) (f g : List ℕ → State → Outcome (List ℕ))
    → value_dropped (then_go (then_go o f) g) ≡ then_go o (λ vs t. value_dropped (then_go (f vs t) g))
dropped_in (done vs s) f g = refl
dropped_in (leaves x s) f g = refl
dropped_in (spent s) f g = refl
dropped_in (ends e s) f g = refl
dropped_in (strays s) f g = refl

-- ---- statements

-- the intrinsic of a want is served where its call leads
want_served : (z : Surroundings) (x : List ℕ) (n : Intrinsic) (ws : List Wanted) → GatesLead z.sites z.wants → intrinsic_named x ≡ Some n
    → IsFront (with_wanted x true ws) z.wants → Served (z.sites.ways true (wanted_place x true ws)) n
want_served z x n ws gates named front = gates (wanted_place x true ws) x n (wanted_there x true ws z.wants front) named

pub terminate_performs : TerminatePerforms
terminate_performs z d k need number at x gates named whole = record {
  does = λ h ws p q s m stands front pays b.
      let index = wanted_place x true ws in
      let call : List Piece = Call (i.Control 0 0) true index ∷ [] in
      statements_begin_noted z.ground z.rate z.setting z.exits d number at p q k need s m (λ u. value_dropped (run.served gate.Terminate [] u)) b
      (λ t same fewer ready.
      widen z.ground z.rate (pos q - pos p) 1 z.rate.reach z.rate.step 2 3 (tally_with s.begun t) m (Completes z.setting q k t.now m)
      (Leaving z.setting z.exits k t.now m) (value_dropped (run.served gate.Terminate [] t))
      (terminate_follows z.ground z.rate z.sites z.setting d (record { at = p; due = Some at }) q k need index t s.begun m (Completes z.setting q k t.now m)
      (Leaving z.setting z.exits k t.now m) (want_served z x gate.Terminate ws gates named front) whole stands.1 ready)
      (omega (arith, pays)) (omega arith) (let many = z.rate.enough in omega (arith, many)));
}

-- the value, and behind it the call
pub quit_performs : QuitPerforms
quit_performs z d k need number at x a value gates named whole closed sim = record {
  does = λ h ws p q s m stands front pays b.
      let part = a (h + 0 + 0) ws in
      let index = wanted_place x true part.wants in
      let call : List Piece = Call (i.Control 0 0) true index ∷ [] in
      let point : Point = record { at = p; due = Some at } in
      let bare : Stands z.ground z.sites point (((part.pieces ++ []) ++ []) ++ call) q =
      without_none z.ground z.sites point (((part.pieces ++ []) ++ []) ++ call) q
      (without_none z.ground z.sites point ((((part.pieces ++ []) ++ []) ++ call) ++ []) q
      (without_none z.ground z.sites point (((((part.pieces ++ []) ++ []) ++ call) ++ []) ++ []) q stands.1)) in
      let alone : Stands z.ground z.sites point (part.pieces ++ call) q =
      subst (λ (ps : List Piece). Stands z.ground z.sites point (ps ++ call) q) (append-nil (part.pieces ++ []) ∙ append-nil part.pieces) bare in
      let cut = stand_in_order z.ground z.sites part.pieces call point q (closed.closed (h + 0 + 0) ws) alone in
      let many = z.rate.enough in
      let rise = cut.3 in
      let last = cut.4 in
      let behind = front_on part.wants (with_wanted x true part.wants) z.wants (wanted_keeps x true part.wants) front in
      statements_begin_noted z.ground z.rate z.setting z.exits d number at p q k need s m
      (λ u. value_dropped (then_go (then_go (value u) (λ vs t. passed (Some kind.Integer) vs t)) (λ vs t. run.served gate.Quit vs t))) b
      (λ t same fewer ready. subst (λ (o : Outcome (Unit {0})). Follows z.ground z.rate z.rate.step 2 3 (tally_with s.begun t) m (Completes z.setting q k t.now m) (Leaving z.setting z.exits k t.now m) o)
      (sym (dropped_in (value t) (λ vs v. passed (Some kind.Integer) vs v) (λ vs v. run.served gate.Quit vs v)))
      (no_exit z.ground z.rate z.rate.step 2 3 (tally_with s.begun t) m (Completes z.setting q k t.now m) (Leaving z.setting z.exits k t.now m)
      (then_go (value t) (λ vs v. value_dropped (then_go (passed (Some kind.Integer) vs v) (λ us r. run.served gate.Quit us r))))
      (bind_follows z.ground z.rate (pos cut.0 - pos p) 1 z.rate.reach (pos q - pos cut.0) 1 z.rate.reach z.rate.step 2 3 (tally_with s.begun t) m
      (IsValue z.setting cut.0 1 k t.now m) (Completes z.setting q k t.now m) NoExit (value t)
      (λ vs v. value_dropped (then_go (passed (Some kind.Integer) vs v) (λ us r. run.served gate.Quit us r)))
      (sim.does (h + 0 + 0) ws point cut.0 t s.begun m cut.1 behind ready)
      (λ vs v m1 is less.
      quit_passed z.ground z.rate z.sites z.setting cut.0 q k index vs t.now m v m1 (Completes z.setting q k t.now m) NoExit
      (want_served z x gate.Quit part.wants gates named front) whole cut.2 is)
      (omega (arith, rise, last, pays)) (omega arith) (omega (arith, many)) (omega (arith, many)))));
}
