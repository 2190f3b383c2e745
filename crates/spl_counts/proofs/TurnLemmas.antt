-- The turns of a FOR: each is a step, a test, the body, and the raise by MTBA, which tests for the next one. A turn's step pays for the raise at
-- its end, and that of the first turn for its test too.
use Rattle.std.proofs.Common.{◌≡◌, ℕ, zero, suc, ◌+◌, ◌-◌, ◌<◌, ◌≤◌, Bool, true, false, List, [], ◌∷◌, refl, sym, ap, subst, arith, inl}
use Rattle.std.specs.Prelude.{Option, Some, None, Err, nat_lt, min, if◌then◌else◌}
use Rattle.std.proofs.lemmas.Bool.{ltb-false}
use Rattle.spl_choices.specs.hp_word.declared.arithmetic.Code.{Code}
use Rattle.spl_choices.specs.hp_word.declared.endings.Trap.{Trap}
use Rattle.spl_choices.specs.hp_word.declared.endings.Trap.TheVariants.{Bounds, IntegerOverflow}
use Rattle.spl_choices.specs.hp_word.Words.{added}
use Rattle.spl_choices.specs.hp_instr.declared.instruction.Instr.{Instr}
use Rattle.spl_choices.specs.hp_instr.declared.instruction.Instr.TheVariants as i
use Rattle.spl_choices.specs.hp_session.State.{Machine}
use Rattle.spl_choices.specs.hp_flat.Step.{at_left, ended}
use Rattle.spl_choices.specs.spl_meaning.Elements.{with_one}
use Rattle.spl_choices.specs.spl_meaning.References.{Setting, read, placed_word}
use Rattle.spl_choices.specs.spl_meaning.States.{Data, State, Exit, Outcome, done, ends, trapped, then_go}
use Rattle.spl_choices.specs.spl_meaning.Statements.{goes_on, raised, counting}
use Rattle.spl_choices.specs.spl_follow.Spots.{Spot, spot, pos, on, Ground}
use Rattle.spl_choices.specs.spl_follow.Leading.{Leads}
use Rattle.spl_choices.specs.spl_follow.Matching.{Matched, IsValue, Arrives, Coded}
use Rattle.spl_choices.specs.spl_follow.Following.{Rate, tally, Follows}
use Rattle.spl_choices.specs.spl_follow.Doing.{turned, turning}
use Rattle.spl_choices.specs.spl_follow.Parts.{Begins, Exits, Leaving}
use Rattle.spl_choices.proofs.spl_follow_proofs.FollowLemmas.{then_follows, bind_follows, weaken, widen, spend_follows}
use Rattle.spl_choices.proofs.spl_follow_proofs.KeepLemmas.{kept_top, kept_stack, values_join, arrives_after}
use Rattle.spl_choices.proofs.spl_follow_proofs.RowLemmas.{shown, stray_here, row_trap, row_branches}
use Rattle.spl_choices.proofs.spl_follow_proofs.WayLemmas.{goes_none, goes_wider}
use Rattle.spl_choices.specs.spl_control.Laws.{Settles}
use Rattle.spl_counts.proofs.TestLemmas.{counter, read_is, read_none, read_past, raised_is, raised_over, raised_none, raised_past, put_read, Went, tested, stepped, test_past, step_past, step_over}

-- ---- words that wait

-- no way out leaves more than k words
abbrev pub leaves_at_most : ℕ → Exits → Exits
leaves_at_most k x = record x { held = λ e. min (x.held e) k }

-- the three words wait behind a body as they did before it
words_wait : (st : Setting) (p b : Spot) (k a u l : ℕ) (d0 : Data) (m0 : Machine) (s : State) (m : Machine) (s1 : State) (m1 : Machine)
    → IsValue st p 3 k d0 m0 (a ∷ u ∷ l ∷ []) s m → Settles st b (k + 3) s.now m tt s1 m1 → IsValue st b 3 k d0 m0 (a ∷ u ∷ l ∷ []) s1 m1
words_wait st p b k a u l d0 m0 s m s1 m1 x y =
    let none : k + 3 ≡ k + 3 + 0 = omega arith in
    values_join st p b 3 0 k d0 m0 (a ∷ u ∷ l ∷ []) [] s m s1 m1 x (record {
      at = y.0.at;
      wide = refl;
      matches = subst (λ (j : ℕ). Matched st s1.now m1 j) none y.0.matches;
      stand = tt;
      small = tt;
      kept = y.0.kept;
      silent = y.1;
    })

-- a value is the same whatever steps are left
with_left : (st : Setting) (p : Spot) (n k j : ℕ) (d0 : Data) (m0 : Machine) (vs : List ℕ) (s : State) (m : Machine) → IsValue st p n k d0 m0 vs s m
    → IsValue st p n k d0 m0 vs (record s { left = j }) m
with_left st p n k j d0 m0 vs s m x = record {
  at = x.at;
  wide = x.wide;
  matches = x.matches;
  stand = x.stand;
  small = x.small;
  kept = x.kept;
  silent = x.silent;
}

-- a branch that traps
branch_traps : {A : Type 0} (g : Ground) (w : Rate) (c lag e : ℕ) (p r to : Spot) (by : Instr) (st : Setting) (s : State) (m : Machine) (j : ℕ) (t : Trap)
    (P : A → State → Machine → Type 0) (K : Exit → State → Machine → Type 0) → Leads g (on p) r (turning by to r) → spot m ≡ p → Matched st s.now m j
    → turned by to r (at_left m) ≡ Err t → pos r - pos p ≤ c → Follows g w c lag e (tally s) m P K (ends (trapped t) s)
branch_traps g w c lag e p r to by st s m j t P K leads at x is pays =
    widen g w (pos r - pos p) 0 e c lag e (tally s) m P K (ends (trapped t) s)
    (row_trap g w e (on p) r (turning by to r) st s.begun s m j (Err t) t P K leads (ap (λ o. ended m o) is) at refl x refl) pays (omega arith) (omega arith)

-- ---- turns

module _ (g : Ground) (w : Rate) (st : Setting) (x : Exits) (d more k a u l : ℕ) (again b q : Spot) (d0 : Data) (m0 : Machine)
    (body : State → Outcome (Unit {0})) (leads : Leads g (on b) q (turning (i.Loop true false 0) again q)) (pays : pos q - pos b ≤ w.step)
    (room : d0.top + k + 3 + more ≤ d0.stack)
    (does : (s : State) (m : Machine) → Begins st d again (k + 3) more s m
    → Follows g w 0 3 3 (tally s) m (Settles st b (k + 3) s.now m) (Leaving st (leaves_at_most k x) (k + 3) s.now m) (body s)) where
  -- address, step and limit wait at a place
  abbrev Waits : Spot → State → Machine → Type 0
  Waits p s m = IsValue st p 3 k d0 m0 (a ∷ u ∷ l ∷ []) s m

  -- what is promised there of a part
  abbrev Counts : ℕ → ℕ → State → Machine → Outcome (Unit {0}) → Type 0
  Counts c lag s m o = Follows g w c lag 3 (tally s) m (Settles st q k d0 m0) (Leaving st x k d0 m0) o

  -- the body of a turn, and all turns behind it
  abbrev turn : ℕ → State → Outcome (Unit {0})
  turn fuel s = then_go (body s) (λ _ t. then_go (raised (counter a) u t) (λ _ r. counting fuel (counter a) u l body r))

  -- what stands behind a turn's step
  abbrev test : ℕ → State → Outcome (List ℕ) → Outcome (Unit {0})
  test fuel s o = then_go o (λ vs s2. with_one vs s2 (λ v s3. if goes_on u l v then turn fuel s3 else done tt s3))

  -- there is room for the three
  three_room : (p : Spot) (s : State) (m : Machine) → Waits p s m → s.now.top + (k + 3) ≤ s.now.stack
  three_room p s m y =
      let top = kept_top (d0.top + k) d0 m0.stack s.now m.stack y.kept in
      let deep = kept_stack (d0.top + k) d0 m0.stack s.now m.stack y.kept in
      omega (arith, top, deep, room)

  -- a turn begins
  turn_begins : (s : State) (m : Machine) → Waits again s m → s.left ≤ d → Begins st d again (k + 3) more s m
  turn_begins s m y fuel =
      let top = kept_top (d0.top + k) d0 m0.stack s.now m.stack y.kept in
      let deep = kept_stack (d0.top + k) d0 m0.stack s.now m.stack y.kept in
      record {
        at = y.at;
        matches = y.matches;
        coded = subst (λ (c : Option Code). Coded c m.regs.code) (sym y.silent) tt;
        room = omega (arith, top, deep, room);
        fuel = fuel;
      }

  -- what leaves it leaves the FOR
  turn_left : (s : State) (m : Machine) → Waits again s m → (e : Exit) (t : State) (n : Machine) → Leaving st (leaves_at_most k x) (k + 3) s.now m e t n
      → Leaving st x k d0 m0 e t n
  turn_left s m y e t n h =
      let few : min (min (x.held e) k) (k + 3) ≡ min (x.held e) k = omega arith in
      arrives_after st (x.target e) k (min (x.held e) k) d0 m0 s.now m t n (omega arith) y.kept
      (subst (λ (j : ℕ). Arrives st (x.target e) j s.now m t n) few h)

  -- behind a test
  behind_test : (fuel c : ℕ) (p to : Spot) (s : State) (m : Machine) → ((t : State) (n : Machine) → t.left ≤ s.left → Waits again t n → Counts (pos q - pos b) 3 t n (turn fuel t))
      → (t : State) → t.left ≤ s.left → (n : Machine) → (v : Bool) → Went st again to k d0 m0 (a ∷ u ∷ l ∷ []) t n v
      → ((n : Machine) → Arrives st to k d0 m0 t n → Counts c 3 t n (done tt t)) → pos q - pos b ≤ c → Counts c 3 t n (if v then turn fuel t else done tt t)
  behind_test fuel c p to s m next t less n true y over few =
      widen g w (pos q - pos b) 3 3 c 3 3 (tally t) n (Settles st q k d0 m0) (Leaving st x k d0 m0) (turn fuel t) (next t n less y) few (omega arith) (omega arith)
  behind_test fuel c p to s m next t less n false y over few = over n y

  -- MTBA at the end of a turn: the raise, and the next turn's step and test
  raise_follows : (fuel : ℕ) (s : State) (m : Machine) → Waits b s m
      → ((t : State) (n : Machine) → t.left < s.left → Waits again t n → Counts (pos q - pos b) 3 t n (turn fuel t))
      → Counts (pos q - pos b) 1 s m (then_go (raised (counter a) u s) (λ _ r. counting (suc fuel) (counter a) u l body r))
  raise_follows fuel s m y next = by (nat_lt a s.now.stack) refl (s.now.mem a) refl where
    rest : Outcome (Unit {0}) → Outcome (Unit {0})
    rest o = then_go o (λ _ r. counting (suc fuel) (counter a) u l body r)

    in_range : (v : ℕ) → nat_lt a s.now.stack ≡ true → s.now.mem a ≡ Some v → (added v u).overflow ≡ false
        → Counts (pos q - pos b) 1 s m (counting (suc fuel) (counter a) u l body (placed_word false a (added v u).value s))
    in_range v low is fits =
        let r : ℕ = (added v u).value in
        let t : State = placed_word false a r s in
        let shows = shown st s m (k + 3) y.matches in
        let many = w.enough in
        spend_follows g w (pos q - pos b + (pos q - pos b)) 0 (pos q - pos b) 1 3 t t.begun m (Settles st q k d0 m0) (Leaving st x k d0 m0)
        (λ s1. test fuel s1 (read (counter a) s1)) (record { ending = shows.ending; printed = shows.printed }) (inl refl)
        (λ j left. let row = stepped g w st b q again k a u l v d0 m0 (record s { left = j }) m leads (with_left st b 3 k j d0 m0 (a ∷ u ∷ l ∷ []) s m y) is fits in
        subst (λ (o : Outcome (List ℕ)). Counts (pos q - pos b + (pos q - pos b)) 0 (record t { left = j }) m (test fuel (record t { left = j }) o))
        (sym (read_is a r (record t { left = j }) low (put_read s.now.mem a r)))
        (then_follows g w (pos q - pos b) 0 w.reach (pos q - pos b) 3 3 (pos q - pos b + (pos q - pos b)) 0 3 (tally (record s { left = j })) m
        (tally (record s { left = j })) row.0 (Settles st q k d0 m0) (Leaving st x k d0 m0) (if goes_on u l r then turn fuel (record t { left = j }) else done tt (record t { left = j }))
        row.1
        (behind_test fuel (pos q - pos b) b q (record t { left = j }) row.0 (λ t1 n1 fewer z. next t1 n1 (omega (arith, fewer, left)) z) (record t { left = j }) (omega arith) row.0 (goes_on u l r) row.2
        (λ n1 z. (
          n1,
          goes_wider g w 0 0 0 (pos q - pos b) 3 3 (tally (record t { left = j })) n1 (tally (record t { left = j })) n1
              (goes_none g w 0 0 (tally (record t { left = j })) n1) (omega arith) (omega arith),
          (z, y.silent),
        )) (omega arith))
        (omega arith) (omega (arith, many)) (omega (arith, many))))
        (omega (arith, pays)) (omega arith)

    by : (c : Bool) → nat_lt a s.now.stack ≡ c → (o : Option ℕ) → s.now.mem a ≡ o → Counts (pos q - pos b) 1 s m (rest (raised (counter a) u s))
    by false high o is =
        subst (λ (o : Outcome (Unit {0})). Counts (pos q - pos b) 1 s m (rest o)) (sym (raised_past a u s high))
        (branch_traps g w (pos q - pos b) 1 3 b q again (i.Loop true false 0) st s m (k + 3) Bounds (Settles st q k d0 m0) (Leaving st x k d0 m0) leads y.at y.matches
        (step_past st b q again k a u l d0 m0 s m y (three_room b s m y) (let above = ltb-false a s.now.stack high in omega (arith, above))) (omega arith))
    by true low None is =
        subst (λ (o : Outcome (Unit {0})). Counts (pos q - pos b) 1 s m (rest o)) (sym (raised_none a u s low is))
        (stray_here g w (pos q - pos b) 1 3 st (on b) (k + 3) s s.begun m (Settles st q k d0 m0) (Leaving st x k d0 m0) leads.start y.at refl y.matches)
    by true low (Some v) is = sum (added v u).overflow refl where
      sum : (c : Bool) → (added v u).overflow ≡ c → Counts (pos q - pos b) 1 s m (rest (raised (counter a) u s))
      sum true over =
          subst (λ (o : Outcome (Unit {0})). Counts (pos q - pos b) 1 s m (rest o)) (sym (raised_over a u v s low is over))
          (branch_traps g w (pos q - pos b) 1 3 b q again (i.Loop true false 0) st s m (k + 3) IntegerOverflow (Settles st q k d0 m0) (Leaving st x k d0 m0) leads y.at y.matches
          (step_over st b q again k a u l v d0 m0 s m y is over) (omega arith))
      sum false fits =
          subst (λ (o : Outcome (Unit {0})). Counts (pos q - pos b) 1 s m (rest o)) (sym (raised_is a u v s low is fits)) (in_range v low is fits)

  -- a turn from its body on, and all those behind it
  turns_follow : (fuel : ℕ) (s : State) (m : Machine) → s.left < fuel → s.left ≤ d → Waits again s m → Counts (pos q - pos b) 3 s m (turn fuel s)
  turns_follow zero s m less fuels y = absurd (omega (arith, less))
  turns_follow (suc fuel) s m less fuels y =
      bind_follows g w 0 3 3 (pos q - pos b) 1 3 (pos q - pos b) 3 3 (tally s) m (Settles st b (k + 3) s.now m) (Settles st q k d0 m0) (Leaving st x k d0 m0) (body s)
      (λ _ t. then_go (raised (counter a) u t) (λ _ r. counting (suc fuel) (counter a) u l body r))
      (weaken g w 0 3 3 (tally s) m (Settles st b (k + 3) s.now m) (Settles st b (k + 3) s.now m) (Leaving st (leaves_at_most k x) (k + 3) s.now m) (Leaving st x k d0 m0) (body s)
      (does s m (turn_begins s m y fuels)) (λ _ t n h few. h) (turn_left s m y))
      (λ _ t n settled few. raise_follows fuel t n (words_wait st again b k a u l d0 m0 s m t n y settled)
      (λ t1 n1 fewer z. turns_follow fuel t1 n1 (omega (arith, less, few, fewer)) (omega (arith, fuels, few, fewer)) z))
      (omega arith) (omega arith) (omega arith) (omega arith)

  -- TBA before the first turn, behind its step: on to the body, or over it by the branch behind TBA
  module _ (p r : Spot) (first : Leads g (on p) r (turning (i.Loop false false 0) again r))
      (over : Leads g (on r) again (turning (i.Branch false false 0) q again)) (both : pos again - pos p + (pos q - pos b) ≤ w.step) where
    pub first_follows : (s : State) (m : Machine) → s.left ≤ d → Waits p s m → Counts 0 1 s m (counting (suc d) (counter a) u l body s)
    first_follows s m fuels y =
        let shows = shown st s m (k + 3) y.matches in
        spend_follows g w (pos again - pos p + (pos q - pos b)) 0 0 1 3 s s.begun m (Settles st q k d0 m0) (Leaving st x k d0 m0)
        (λ s1. test d s1 (read (counter a) s1)) shows (inl refl)
        (λ j left. by j left (nat_lt a s.now.stack) refl (s.now.mem a) refl) (omega (arith, both)) (omega arith) where
          by : (j : ℕ) → s.left ≡ suc j → (c : Bool) → nat_lt a s.now.stack ≡ c → (o : Option ℕ) → s.now.mem a ≡ o
              → Counts (pos again - pos p + (pos q - pos b)) 0 (record s { left = j }) m (test d (record s { left = j }) (read (counter a) (record s { left = j })))
          by j left false high o is =
              let one = first.rise in
              let two = over.rise in
              let t : State = record s { left = j } in
              subst (λ (o : Outcome (List ℕ)). Counts (pos again - pos p + (pos q - pos b)) 0 t m (test d t o)) (sym (read_past a t high))
              (branch_traps g w (pos again - pos p + (pos q - pos b)) 0 3 p r again (i.Loop false false 0) st t m (k + 3) Bounds (Settles st q k d0 m0)
              (Leaving st x k d0 m0) first y.at y.matches
              (test_past st p r again k a u l d0 m0 s m y (three_room p s m y) (let above = ltb-false a s.now.stack high in omega (arith, above)))
              (omega (arith, one, two)))
          by j left true low None is =
              let t : State = record s { left = j } in
              subst (λ (o : Outcome (List ℕ)). Counts (pos again - pos p + (pos q - pos b)) 0 t m (test d t o)) (sym (read_none a t low is))
              (stray_here g w (pos again - pos p + (pos q - pos b)) 0 3 st (on p) (k + 3) t t.begun m (Settles st q k d0 m0) (Leaving st x k d0 m0) first.start y.at refl y.matches)
          by j left true low (Some v) is =
              let one = first.rise in
              let two = over.rise in
              let many = w.enough in
              let t : State = record s { left = j } in
              let c = pos again - pos r + (pos q - pos b) in
              let row = tested g w st p r again k a u l v d0 m0 t m first (with_left st p 3 k j d0 m0 (a ∷ u ∷ l ∷ []) s m y) is in
              subst (λ (o : Outcome (List ℕ)). Counts (pos again - pos p + (pos q - pos b)) 0 t m (test d t o)) (sym (read_is a v t low is))
              (then_follows g w (pos r - pos p) 0 w.reach c 3 3 (pos again - pos p + (pos q - pos b)) 0 3 (tally t) m (tally t) row.0 (Settles st q k d0 m0)
              (Leaving st x k d0 m0) (if goes_on u l v then turn d t else done tt t) row.1
              (behind_test d c p r t row.0 (λ t1 n1 fewer z. turns_follow d t1 n1 (omega (arith, fewer, left, fuels)) (omega (arith, fewer, left, fuels)) z) t (omega arith) row.0
              (goes_on u l v) row.2
              (λ n1 z. let branch = row_branches g w r again q false 0 st t n1 d0 m0 k over z in (
                branch.0,
                goes_wider g w (pos again - pos r) 0 w.reach c 3 3 (tally t) n1 (tally t) branch.0 branch.1 (omega arith) (omega (arith, many)),
                (branch.2, y.silent),
              ))
              (omega arith))
              (omega (arith, one, two)) (omega (arith, many)) (omega (arith, many)))
