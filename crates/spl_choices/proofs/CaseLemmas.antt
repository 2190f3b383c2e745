-- CASE: the value waits on top; each arm tests it, and is done where it is zero; else the value is one less behind it.
use Rattle.std.proofs.Common.{◌≡◌, ℕ, zero, suc, ◌+◌, ◌-◌, ◌<◌, ◌≤◌, Bool, true, false, List, [], ◌∷◌, ◌++◌, length, refl, sym, ap, subst, ◌∙◌, arith}
use Rattle.std.specs.Prelude.{Some, Option, pos as integer, int_lt, if◌then◌else◌}
use Rattle.std.proofs.lemmas.Bool.Decides.{nat_tests}
use Rattle.std.proofs.lemmas.Int.{ints}
use Rattle.std.proofs.lemmas.List.{append_assoc, append-nil}
use Rattle.spl_statement_code.specs.hp_word.declared.arithmetic.Code.{Code}
use Rattle.spl_statement_code.specs.hp_word.declared.arithmetic.Code.TheVariants.{Greater, Less, Equal}
use Rattle.spl_statement_code.specs.hp_word.Words.{signed, word_of, compared, word_code, logically_subtracted, word_result}
use Rattle.spl_statement_code.specs.hp_instr.declared.instruction.Instr.TheVariants as i
use Rattle.spl_statement_code.specs.hp_instr.Instructions.{op}
use Rattle.spl_control.specs.hp_session.State.{Machine, word, with_code}
use Rattle.spl_control.specs.hp_stack_rows.StackRows.{operated}
use Rattle.spl_control.specs.hp_word_rows.WordRows.{immediate_row}
use Rattle.spl_control.specs.hp_memory_rows.MemoryRows.{is_named}
use Rattle.spl_control.specs.hp_flat.Step.{at_left}
use Rattle.spl_conditions.proofs.hp_yields_proofs.StackYields as stack
use Rattle.spl_conditions.proofs.hp_yields_proofs.WordYields as rows
use Rattle.spl_statement_code.specs.spl_tree.declared.names_and_places.At.{At}
use Rattle.spl_statement_code.specs.spl_branch.declared.pieces.Piece.{Piece}
use Rattle.spl_statement_code.specs.spl_branch.declared.pieces.Piece.TheVariants.{Mark}
use Rattle.spl_statement_code.specs.spl_meaning.Elements.{with_one}
use Rattle.spl_statement_code.specs.spl_meaning.Laws.{IsFront}
use Rattle.spl_statement_code.specs.spl_meaning.References.{Setting}
use Rattle.spl_statement_code.specs.spl_meaning.States.{Data, State, Begun, Outcome, done, then_go, code_dropped}
use Rattle.spl_statement_code.specs.spl_code.Code.{as_value}
use Rattle.spl_statement_code.specs.spl_code.Instructions.{LDI, DEL, BR}
use Rattle.spl_statement_code.specs.spl_code.Parts.{Part, Wanted, ◌⨟◌}
use Rattle.spl_statement_code.specs.Instructions.{LSUB}
use Rattle.spl_statement_code.specs.Statements.{arm, chosen_among}
use Rattle.spl_control.specs.spl_follow.Spots.{Spot, pos, landed, Point, on, Ground}
use Rattle.spl_control.specs.spl_follow.Leading.{Leads}
use Rattle.spl_control.specs.spl_follow.Matching.{Outer, Matched, IsValue, Coded}
use Rattle.spl_control.specs.spl_follow.Following.{Rate, tally, tally_with, Goes, Follows, NoExit}
use Rattle.spl_control.specs.spl_follow.Doing.{going, doing, turning}
use Rattle.spl_control.specs.spl_follow.Standing.{Stands}
use Rattle.spl_control.specs.spl_follow.Parts.{Ready, Completes, Leaving}
use Rattle.spl_control.specs.spl_follow.Simulating.{Surroundings, Simulates, Performs}
use Rattle.spl_control.proofs.spl_follow_proofs.FollowLemmas.{then_follows, bind_follows, no_exit}
use Rattle.spl_control.proofs.spl_follow_proofs.KeepLemmas.{kept_same, kept_top, kept_stack, value_word, values_join}
use Rattle.spl_control.proofs.spl_follow_proofs.PartLemmas.{stand_in_order}
use Rattle.spl_control.proofs.spl_follow_proofs.RowLemmas.{no_print, shown, row_value, row_drops}
use Rattle.spl_control.proofs.spl_follow_proofs.StandLemmas.{closed_last, stands_le}
use Rattle.spl_control.proofs.spl_follow_proofs.WayLemmas.{goes_wider, lead}
use Rattle.spl_control.specs.Laws.{Settles}
use Rattle.spl_conditions.specs.spl_values.Reached.{IsWhole}
use Rattle.spl_conditions.proofs.spl_values_proofs.GiveLemmas.{last_leads}
use Rattle.spl_conditions.proofs.spl_values_proofs.SumLemmas.{front_on, yielding, logically_subtracted_small}
use Rattle.spl_conditions.proofs.spl_values_proofs.WholeLemmas.{closed_mark}
use Rattle.spl_choices.specs.Laws.{Chooses, NoArmChooses, chosen_before, ArmsChoose, CasesPerform}
use Rattle.spl_choices.proofs.ChoiceLemmas.{first_side}
use Rattle.spl_choices.proofs.PartLemmas.{mark_ends, settles_completes, begins_sooner}

-- ---- codes

-- a word that is neither above zero nor below is zero
zero_between : (v : ℕ) → 0 < v → v < 65536 → int_lt (integer 0) (signed v) ≡ false → int_lt (signed v) (integer 0) ≡ false → ⊥
unfolding signed
zero_between v above fits a b = grind (arith, ints, nat_tests)

-- so a word that is not zero has another code
other_code : (v : ℕ) → 0 < v → v < 65536 → is_named 5 (word_code v) ≡ true
unfolding compared is_named
other_code v above fits = by (int_lt (integer 0) (signed v)) (int_lt (signed v) (integer 0)) (zero_between v above fits) where
  by : (a b : Bool) → (a ≡ false → b ≡ false → ⊥) → is_named 5 (if a then Greater else if b then Less else Equal) ≡ true
  by true b n = refl
  by false true n = refl
  by false false n = absurd (n refl refl)

-- zero is neither
zero_code : is_named 5 (word_code 0) ≡ false
unfolding compared is_named signed
zero_code = refl

-- a word less one
less_one : (v : ℕ) → suc v < 65536 → (logically_subtracted (suc v) 1).value ≡ v
unfolding logically_subtracted word_result word_of
less_one v fits = grind (arith, ints, nat_tests)

-- ---- rows

-- TEST leaves the value where it is, and its code
value_tested : (g : Ground) (w : Rate) (p r : Spot) (st : Setting) (k v : ℕ) (s : State) (m : Machine) (d0 : Data) (m0 : Machine)
    → Leads g (on p) r (doing g.segments (i.Pair (op 0o25) (op 0)) r) → IsValue st p 1 k d0 m0 (v ∷ []) s m
    → (n : Machine) × Goes g w (pos r - pos p) 0 w.reach (tally s) m (tally s) n × IsValue st r 1 k d0 m0 (v ∷ []) s n × (n.regs.code ≡ word_code v)
value_tested g w p r st k v s m d0 m0 leads x =
    let shows = shown st s m (k + 1) x.matches in
    let words = x.matches.words in
    let one : 1 ≤ length m.stack = omega (arith, words) in
    let n : Machine = landed r (with_code (word_code (word 0 m)) m) in (
      n,
      lead g w (on p) r (doing g.segments (i.Pair (op 0o25) (op 0)) r) s.begun s m n leads x.at shows.ending refl
          (ap (λ o. going r o m) (stack.top_tested m one)) (no_print m n refl),
      record { at = refl; wide = x.wide; matches = x.matches; stand = x.stand; small = x.small; kept = x.kept; silent = x.silent },
      ap word_code (value_word st p 1 k 0 0 d0 m0 (v ∷ []) s m x refl),
    )

-- BCC leads to its mark where its mask names the code, and the value waits there too
value_turned : (g : Ground) (w : Rate) (p r to : Spot) (mask k : ℕ) (st : Setting) (s : State) (m : Machine) (d0 : Data) (m0 : Machine) (vs : List ℕ)
    → Leads g (on p) r (turning (i.OnCode mask false 0) to r) → IsValue st p 1 k d0 m0 vs s m
    → (n : Machine) × Goes g w (pos r - pos p) 0 w.reach (tally s) m (tally s) n
    × IsValue st (if is_named mask m.regs.code then to else r) 1 k d0 m0 vs s n
value_turned g w p r to mask k st s m d0 m0 vs leads x =
    let shows = shown st s m (k + 1) x.matches in
    let n : Machine = landed (if is_named mask m.regs.code then to else r) m in (
      n,
      lead g w (on p) r (turning (i.OnCode mask false 0) to r) s.begun s m n leads x.at shows.ending refl refl (no_print m n refl),
      record { at = refl; wide = x.wide; matches = x.matches; stand = x.stand; small = x.small; kept = x.kept; silent = x.silent },
    )

-- DEL behind a value
value_dropped : (g : Ground) (w : Rate) (p r : Spot) (st : Setting) (k : ℕ) (vs : List ℕ) (s : State) (m : Machine) (d0 : Data) (m0 : Machine)
    → Leads g (on p) r (doing g.segments (i.Pair (op 0o40) (op 0)) r) → IsValue st p 1 k d0 m0 vs s m
    → Follows g w (pos r - pos p) 0 w.reach (tally s) m (Completes st r k d0 m0) NoExit (done tt s)
value_dropped g w p r st k vs s m d0 m0 leads x =
    let words = x.matches.words in
    let one : 1 ≤ length m.stack = omega (arith, words) in
    let y = (stack.top_deleted m one).words in
    row_drops g w (on p) r (doing g.segments (i.Pair (op 0o40) (op 0)) r) st s.begun s m d0 m0 k 1 (operated 0o40 m) y leads refl x.at refl x.matches x.kept
    (subst (λ (c : Option Code). Coded c y.left.regs.code) (sym x.silent) tt)

-- LDI 1 and LSUB behind a value that is not zero
value_lessened : (g : Ground) (w : Rate) (p r q : Spot) (st : Setting) (k v : ℕ) (s : State) (m : Machine) (d0 : Data) (m0 : Machine)
    → Leads g (on p) r (doing g.segments (i.Immediate 1 1) r) → Leads g (on r) q (doing g.segments (i.Pair (op 0o62) (op 0)) q)
    → d0.top + k + 2 ≤ d0.stack → IsValue st p 1 k d0 m0 (suc v ∷ []) s m
    → Follows g w (pos q - pos p) 0 w.reach (tally s) m (IsValue st q 1 k d0 m0) NoExit (done (v ∷ []) s)
value_lessened g w p r q st k v s m d0 m0 leads then_leads room x =
    let top = kept_top (d0.top + k) d0 m0.stack s.now m.stack x.kept in
    let deep = kept_stack (d0.top + k) d0 m0.stack s.now m.stack x.kept in
    let words = x.matches.words in
    let limit : m.stack_limit ≡ s.now.stack = ap (λ (u : Outer). u.limit) x.matches.outer in
    let free : length m.stack < m.stack_limit = omega (arith, top, deep, words, limit, room) in
    let none : k + 1 ≡ k + 1 + 0 = omega arith in
    let rise = leads.rise in
    let further = then_leads.rise in
    let many = w.enough in
    let one = row_value g w (on p) r (doing g.segments (i.Immediate 1 1) r) st s.begun s m s.now m (k + 1) 0 1 (1 ∷ []) (immediate_row 1 1 (at_left m)) leads refl x.at refl
    (rows.number_pushed 1 (at_left m) free).words (subst (λ (j : ℕ). Matched st s.now m j) none x.matches) (kept_same (s.now.top + (k + 1)) s.now m.stack) x.silent
    (omega arith, tt) refl in
    let two = values_join st p r 1 1 k d0 m0 (suc v ∷ []) (1 ∷ []) s m s one.0 x one.2 in
    subst (λ (u : ℕ). Follows g w (pos q - pos p) 0 w.reach (tally s) m (IsValue st q 1 k d0 m0) NoExit (done (u ∷ []) s)) (less_one v x.small.0)
    (then_follows g w (pos r - pos p) 0 w.reach (pos q - pos r) 0 w.reach (pos q - pos p) 0 w.reach (tally s) m (tally s) one.0 (IsValue st q 1 k d0 m0) NoExit
    (done ((logically_subtracted (suc v) 1).value ∷ []) s) one.1
    (yielding 0o62 (λ a b. (logically_subtracted a b).value) stack.logical_subtract logically_subtracted_small g w r q st s one.0 d0 m0 k (suc v) 1 then_leads two)
    (omega (arith, rise, further)) (omega arith) (omega (arith, many)))

-- ---- arms

-- behind no arm the value is deleted
pub no_arm : NoArmChooses
no_arm z d k need = record {
  keeps = λ end l ws. record { rest = []; is = sym (append-nil ws) };
  chooses = λ end h ws p q v t s m n stands ends front pays room fuel less x.
      let g = z.ground in
      let w = z.rate in
      let many = w.enough in
      let f = value_dropped g w p q z.setting k (v ∷ []) s n t.now m (last_leads g z.sites (on p) (i.Pair (op 0o40) (op 0)) q stands) x in (
        f.0,
        goes_wider g w (pos q - pos p) 0 w.reach (pos q - pos p) 0 3 (tally s) n (tally s) f.0 f.1 (omega arith) (omega (arith, many)),
        (record { at = f.2.at; matches = f.2.matches; kept = f.2.kept; coded = tt }, refl),
      );
}

-- the pieces of an arm, of others and of what stands behind them
pub arm_joined : (bs rs ts : List Piece) (a b c e : Piece)
    → ((((((bs ++ (a ∷ [])) ++ (b ∷ [])) ++ (c ∷ [])) ++ (e ∷ [])) ++ rs) ++ ts) ≡ bs ++ (a ∷ b ∷ c ∷ e ∷ (rs ++ ts))
arm_joined [] rs ts a b c e = refl
arm_joined (x ∷ bs) rs ts a b c e = ap (λ (ps : List Piece). x ∷ ps) (arm_joined bs rs ts a b c e)

-- An arm whose pieces stand, by the value: it is done for 0, and else the others follow.
module _ (z : Surroundings) (d k need : ℕ) (a : Part) (one : State → Outcome (Unit {0})) (others : ℕ → State → Outcome (Unit {0})) (enough : 2 ≤ need)
    (performs : Performs z d k need a one) (p r1 r2 r3 r4 r5 r6 r7 q : Spot) (end next h : ℕ) (ws : List Wanted)
    (test : Leads z.ground (on p) r1 (doing z.ground.segments (i.Pair (op 0o25) (op 0)) r1))
    (branch : Leads z.ground (on r1) r2 (turning (i.OnCode 5 false 0) (z.sites.marks next) r2))
    (drop : Leads z.ground (on r2) r3 (doing z.ground.segments (i.Pair (op 0o40) (op 0)) r3))
    (inside : Stands z.ground z.sites (on r3) (a h ws).pieces r4) (front : IsFront (a h ws).wants z.wants) (falls : pos r3 ≤ pos r4)
    (over : Leads z.ground (on r4) r5 (turning (i.Branch false false 0) (z.sites.marks end) r5)) (ends : z.sites.marks end ≡ q)
    (there : z.sites.marks next ≡ r5) (push : Leads z.ground (on r5) r6 (doing z.ground.segments (i.Immediate 1 1) r6))
    (less' : Leads z.ground (on r6) r7 (doing z.ground.segments (i.Pair (op 0o62) (op 0)) r7)) (last : pos r7 ≤ pos q) (pays : pos q ≤ z.rate.step)
    (t : State) (m : Machine) (room : t.now.top + k + need ≤ t.now.stack) (fuel : t.left ≤ d)
    (rest : (v : ℕ) (s : State) (n : Machine) → s.left ≤ t.left → IsValue z.setting r7 1 k t.now m (v ∷ []) s n
    → Follows z.ground z.rate (pos q - pos r7) 0 3 (tally s) n (Settles z.setting q k t.now m) (Leaving z.setting z.exits k t.now m) (code_dropped (others v s)))
  where
    arm_taken : (v : ℕ) (s : State) (n : Machine) → s.left ≤ t.left → IsValue z.setting p 1 k t.now m (v ∷ []) s n
        → Follows z.ground z.rate (pos q - pos p) 0 3 (tally s) n (Settles z.setting q k t.now m) (Leaving z.setting z.exits k t.now m)
        (code_dropped (chosen_before one others v s))
    arm_taken v s n less x =
        let g = z.ground in
        let w = z.rate in
        let st = z.setting in
        let many = w.enough in
        let u1 = test.rise in
        let u2 = branch.rise in
        let u3 = drop.rise in
        let u5 = over.rise in
        let u6 = push.rise in
        let u7 = less'.rise in
        let tested = value_tested g w p r1 st k v s n t.now m test x in
        let turned = value_turned g w r1 r2 (z.sites.marks next) 5 k st s tested.0 t.now m (v ∷ []) branch tested.2 in
        then_follows g w (pos r1 - pos p) 0 w.reach (pos q - pos r1) 0 3 (pos q - pos p) 0 3 (tally s) n (tally s) tested.0 (Settles st q k t.now m)
        (Leaving st z.exits k t.now m) (code_dropped (chosen_before one others v s)) tested.1
        (then_follows g w (pos r2 - pos r1) 0 w.reach (pos q - pos r2) 0 3 (pos q - pos r1) 0 3 (tally s) tested.0 (tally s) turned.0 (Settles st q k t.now m)
        (Leaving st z.exits k t.now m) (code_dropped (chosen_before one others v s)) turned.1
        (by v x.small.0 tested.0.regs.code tested.3 turned.0 turned.2)
        (omega (arith, u2, u3, falls, u5, u6, u7, last)) (omega arith) (omega (arith, many)))
        (omega (arith, u1, u2, u3, falls, u5, u6, u7, last)) (omega arith) (omega (arith, many)) where
          -- behind the branch: where the value is zero, and where it is not
          by : (v : ℕ) → v < 65536 → (c : Code) → c ≡ word_code v → (n2 : Machine)
              → IsValue z.setting (if is_named 5 c then z.sites.marks next else r2) 1 k t.now m (v ∷ []) s n2
              → Follows z.ground z.rate (pos q - pos r2) 0 3 (tally s) n2 (Settles z.setting q k t.now m) (Leaving z.setting z.exits k t.now m)
              (code_dropped (chosen_before one others v s))
          by zero fits c code n2 x =
              let g = z.ground in
              let w = z.rate in
              let st = z.setting in
              let many = w.enough in
              let u3 = drop.rise in
              let u5 = over.rise in
              let u6 = push.rise in
              let u7 = less'.rise in
              let here : (if is_named 5 c then z.sites.marks next else r2) ≡ r2 =
              ap (λ (b : Code). if is_named 5 b then z.sites.marks next else r2) code ∙ ap (λ (b : Bool). if b then z.sites.marks next else r2) zero_code in
              let dropped = value_dropped g w r2 r3 st k (zero ∷ []) s n2 t.now m drop (subst (λ (y : Spot). IsValue st y 1 k t.now m (zero ∷ []) s n2) here x) in
              then_follows g w (pos r3 - pos r2) 0 w.reach (pos r5 - pos r4) 3 0 (pos q - pos r2) 0 3 (tally s) n2 (tally s) dropped.0 (Settles st q k t.now m)
              (Leaving st z.exits k t.now m) (code_dropped (one s)) dropped.1
              (first_side z d k need h ws a one r3 r4 r5 q end t m performs inside front (omega (arith, u5, u6, u7, last, pays)) over ends room fuel s dropped.0 dropped.2 less)
              (omega (arith, u3, falls, u5, u6, u7, last)) (omega (arith, many)) (omega (arith, many))
          by (suc v) fits c code n2 x =
              let g = z.ground in
              let w = z.rate in
              let st = z.setting in
              let many = w.enough in
              let u3 = drop.rise in
              let u5 = over.rise in
              let u6 = push.rise in
              let u7 = less'.rise in
              let here : (if is_named 5 c then z.sites.marks next else r2) ≡ r5 =
              ap (λ (b : Code). if is_named 5 b then z.sites.marks next else r2) code
              ∙ ap (λ (b : Bool). if b then z.sites.marks next else r2) (other_code (suc v) (omega arith) fits) ∙ there in
              let fewer = value_lessened g w r5 r6 r7 st k v s n2 t.now m push less' (omega (arith, room, enough))
              (subst (λ (y : Spot). IsValue st y 1 k t.now m (suc v ∷ []) s n2) here x) in
              then_follows g w (pos r7 - pos r5) 0 w.reach (pos q - pos r7) 0 3 (pos q - pos r2) 0 3 (tally s) n2 (tally s) fewer.0 (Settles st q k t.now m)
              (Leaving st z.exits k t.now m) (code_dropped (others v s)) fewer.1 (rest v s fewer.0 less fewer.2)
              (omega (arith, u3, falls, u5, u6, u7, last)) (omega arith) (omega (arith, many))

-- an arm before others keeps the names that are wanted
pub arm_keeps : (a : Part) (arms : ℕ → Part) → IsWhole a → ((end l : ℕ) (ws : List Wanted) → IsFront ws (arms end l ws).wants) → (end l : ℕ) (ws : List Wanted)
    → IsFront ws ((arm a end ⨟ arms end) l ws).wants
arm_keeps a arms whole keeps end l ws =
    let inner = a (suc l + (0 + 0 + 0)) ws in
    let j = l + suc (0 + 0 + 0 + inner.marks + 0 + 0 + 0 + 0) in
    front_on ws inner.wants (arms end j inner.wants).wants (whole.keeps (suc l + (0 + 0 + 0)) ws) (keeps end j inner.wants)

pub arm_before : ArmsChoose
arm_before z d k need a one arms others enough whole performs more = record {
  keeps = λ end l ws. arm_keeps a arms whole more.keeps end l ws;
  chooses = λ end h ws p q v t s m n stands ends front pays room fuel less x.
      let g = z.ground in
      let inner = a (suc h + (0 + 0 + 0)) ws in
      let j = h + suc (0 + 0 + 0 + inner.marks + 0 + 0 + 0 + 0) in
      let others' = arms end j inner.wants in
      let test = stands.2 in
      let branch = test.2 in
      let cut = stand_in_order g z.sites inner.pieces (BR end ∷ Mark h ∷ LDI 1 ∷ LSUB ∷ (others'.pieces ++ DEL ∷ [])) (on branch.0) q
      (whole.closed (suc h + (0 + 0 + 0)) ws)
      (subst (λ (ps : List Piece). Stands g z.sites (on branch.0) ps q) (arm_joined inner.pieces others'.pieces (DEL ∷ []) (BR end) (Mark h) (LDI 1) LSUB) branch.2) in
      let over = cut.2 in
      let push = over.2.2 in
      let less' = push.2 in
      arm_taken z d k need a one others enough performs p stands.0 test.0 branch.0 cut.0 over.0 push.0 less'.0 q end h (suc h + (0 + 0 + 0)) ws stands.1 test.1
      branch.1 cut.1 (front_on inner.wants others'.wants z.wants (more.keeps end j inner.wants) front) cut.3 over.1 ends over.2.0 push.1 less'.1
      (stands_le g z.sites (others'.pieces ++ DEL ∷ []) (on less'.0) q less'.2) pays t m room (omega (arith, fuel))
      (λ v s n less x. more.chooses end j inner.wants less'.0 q v t s m n less'.2 ends front pays room fuel less x) v s n less x;
}

-- ---- the whole

-- by the list of a value's words, of which there is one
by_list : (z : Surroundings) (d k need : ℕ) (arms : ℕ → Part) (meaning : ℕ → State → Outcome (Unit {0})) (end h : ℕ) (ws : List Wanted) (p q : Spot)
    (t s : State) (m n : Machine) → Chooses z d k need arms meaning → Stands z.ground z.sites (on p) ((arms end h ws).pieces ++ DEL ∷ []) q
    → z.sites.marks end ≡ q → IsFront (arms end h ws).wants z.wants → pos q ≤ z.rate.step → t.now.top + k + need ≤ t.now.stack → t.left < d
    → s.left ≤ t.left → (vs : List ℕ) → IsValue z.setting p 1 k t.now m vs s n
    → Follows z.ground z.rate (pos q - pos p) 0 3 (tally s) n (Settles z.setting q k t.now m) (Leaving z.setting z.exits k t.now m)
    (with_one vs s (λ v u. code_dropped (meaning v u)))
by_list z d k need arms meaning end h ws p q t s m n c stands ends front pays room fuel less (v ∷ []) x =
    c.chooses end h ws p q v t s m n stands ends front pays room fuel less x
by_list z d k need arms meaning end h ws p q t s m n c stands ends front pays room fuel less [] x = let wide = x.wide in absurd (omega (arith, wide))
by_list z d k need arms meaning end h ws p q t s m n c stands ends front pays room fuel less (v ∷ u ∷ vs) x = let wide = x.wide in absurd (omega (arith, wide))

-- Behind the beginning: the value, and then the arms.
case_inside : (z : Surroundings) (d k need h : ℕ) (ws : List Wanted) (at : At) (a : Part) (value : State → Outcome (List ℕ)) (arms : ℕ → Part)
    (meaning : ℕ → State → Outcome (Unit {0})) (p q : Spot) (t : State) (l : List Begun) (m : Machine) → IsWhole a → Simulates z d as_value 1 k need a value
    → Chooses z d k need arms meaning → Stands z.ground z.sites (record { at = p; due = Some at }) (chosen_among a arms h ws).pieces q
    → IsFront (chosen_among a arms h ws).wants z.wants → pos q ≤ z.rate.step → Ready z.setting d (record { at = p; due = Some at }) k need t l m → t.left < d
    → Follows z.ground z.rate z.rate.step 2 3 (tally_with l t) m (Completes z.setting q k t.now m) (Leaving z.setting z.exits k t.now m)
    (then_go (value t) (λ vs s. with_one vs s (λ v u. code_dropped (meaning v u))))
case_inside z d k need h ws at a value arms meaning p q t l m whole sim c stands front pays ready under =
    let g = z.ground in
    let w = z.rate in
    let st = z.setting in
    let first : Point = record { at = p; due = Some at } in
    let x = a (suc h) ws in
    let y = arms h (suc h + x.marks) x.wants in
    let end = mark_ends g z.sites (x.pieces ++ y.pieces ++ DEL ∷ []) h first q (closed_last (x.pieces ++ y.pieces) (DEL ∷ []) refl) stands in
    let cut = stand_in_order g z.sites x.pieces (y.pieces ++ DEL ∷ []) first q (whole.closed (suc h) ws)
    (subst (λ (ps : List Piece). Stands g z.sites first ps q) (append_assoc x.pieces y.pieces (DEL ∷ [])) end.0) in
    let before = cut.3 in
    let behind = cut.4 in
    let many = w.enough in
    settles_completes z w.step 2 3 k q t l m (then_go (value t) (λ vs s. with_one vs s (λ v u. code_dropped (meaning v u))))
    (bind_follows g w (pos cut.0 - pos p) 1 w.reach (pos q - pos cut.0) 0 3 w.step 2 3 (tally_with l t) m (IsValue st cut.0 1 k t.now m) (Settles st q k t.now m)
    (Leaving st z.exits k t.now m) (value t) (λ vs s. with_one vs s (λ v u. code_dropped (meaning v u)))
    (no_exit g w (pos cut.0 - pos p) 1 w.reach (tally_with l t) m (IsValue st cut.0 1 k t.now m) (Leaving st z.exits k t.now m) (value t)
    (sim.does (suc h) ws first cut.0 t l m cut.1 (front_on x.wants y.wants z.wants (c.keeps h (suc h + x.marks) x.wants) front) ready))
    (λ vs s n v less. by_list z d k need arms meaning h (suc h + x.marks) x.wants cut.0 q t s m n c cut.2 end.1 front pays ready.room under less vs v)
    (omega (arith, before, behind, pays)) (omega arith) (omega (arith, many)) (omega (arith, many)))

pub cases : CasesPerform
cases z d k need number at a value arms meaning whole sim chooses = record {
  does = λ h ws p q s m stands front pays b.
      begins_sooner z d number at p q k need s m (λ u. then_go (value u) (λ vs t. with_one vs t (λ v w. code_dropped (meaning v w)))) b
      (λ t ready under. case_inside z d k need (h + 0) ws at a value arms meaning p q t s.begun m whole sim chooses stands.1 front pays ready under);
}

-- ---- whole code

-- DEL closes what stands before it, and nothing is due at a mark
pub case_whole : (a : Part) (arms : ℕ → Part) → IsWhole a → ((end l : ℕ) (ws : List Wanted) → IsFront ws (arms end l ws).wants) → IsWhole (chosen_among a arms)
case_whole a arms x keeps = record {
  closed = λ h ws.
      let b = a (suc h) ws in
      let ps = b.pieces ++ (arms h (suc h + b.marks) b.wants).pieces in
      closed_mark (ps ++ DEL ∷ []) h (closed_last ps (DEL ∷ []) refl);
  keeps = λ h ws.
      let b = a (suc h) ws in front_on ws b.wants (arms h (suc h + b.marks) b.wants).wants (x.keeps (suc h) ws) (keeps h (suc h + b.marks) b.wants);
}
