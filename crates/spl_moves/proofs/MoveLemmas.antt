-- MOVE and MVB, one element after the other: what the machine does at the word of a move is what the run does with an element.
use Rattle.std.proofs.Common.{◌≡◌, ℕ, zero, suc, ◌+◌, ◌-◌, ◌%◌, ◌<◌, ◌≤◌, Bool, true, false}
use Rattle.std.proofs.Common.{List, [], ◌∷◌, ◌++◌, length, take, refl, sym, ap, subst, ◌∙◌, arith, inl}
use Rattle.std.specs.Prelude.{◌==◌, Some, Ok, Err, slice_set}
use Rattle.spl_statement_code.specs.hp_word.declared.endings.Trap.TheVariants.{Bounds}
use Rattle.spl_statement_code.specs.hp_word.declared.endings.Ending.TheVariants.{Running}
use Rattle.spl_statement_code.specs.hp_instr.declared.instruction.Instr.TheVariants as i
use Rattle.hp_call_yields.specs.hp_session.State.{Machine, Outcome as Row, word, without, passed}
use Rattle.hp_call_yields.specs.hp_memory_rows.MoveRows.{onward, nearer, element_done, move_row}
use Rattle.hp_call_yields.specs.hp_flat.Step.{at_left}
use Rattle.hp_call_yields.specs.hp_yields.Rows.{held, with_held}
use Rattle.spl_statement_code.specs.spl_tree.declared.expressions.Kind.{Kind}
use Rattle.spl_statement_code.specs.spl_meaning.Kinds.{width, is_byte}
use Rattle.spl_statement_code.specs.spl_meaning.Elements.{neighbour, moved, moved_list}
use Rattle.spl_statement_code.specs.spl_meaning.References.{Setting, Located, placed_word, word_at, read, store, store_by}
use Rattle.spl_statement_code.specs.spl_meaning.States.{Data, State, Outcome, done, leaves, spent, ends, strays, trapped, then_go}
use Rattle.hp_call_yields.specs.spl_follow.Spots.{Spot, spot, pos, landed, on, Ground}
use Rattle.hp_call_yields.specs.spl_follow.Leading.{Leads}
use Rattle.hp_call_yields.specs.spl_follow.Matching.{Shows, IsValue}
use Rattle.hp_call_yields.specs.spl_follow.Following.{Rate, Tally, tally, Goes, Follows, NoExit}
use Rattle.hp_call_yields.specs.spl_follow.Doing.{moving, doing}
use Rattle.hp_call_yields.proofs.spl_follow_proofs.FollowLemmas.{then_follows, widen, spend_follows}
use Rattle.hp_call_yields.proofs.spl_follow_proofs.KeepLemmas.{kept_top, kept_stack, value_word}
use Rattle.hp_call_yields.proofs.spl_follow_proofs.RowLemmas.{no_print, shown, stray_here, row_trap}
use Rattle.hp_call_yields.proofs.spl_follow_proofs.WayLemmas.{lead, lead_briefly}
use Rattle.spl_operands.specs.Operands.{Seen}
use Rattle.spl_operands.proofs.SeeLemmas.{see}
use Rattle.spl_moves.proofs.StepLemmas.{stays, passes, placed_matched, placed_kept, value_left, first_left}
use Rattle.spl_moves.proofs.UnitLemmas.{unit_word, unit_of, with_unit, IsUnit, unit_small, with_unit_small, reads, stores, source}
use Rattle.spl_moves.proofs.UnitLemmas.{unit_written, move_code, unit_read, unit_not_read, unit_put}
use Rattle.spl_moves.proofs.UnitLemmas.{unit_not_put, row_ends, row_goes, row_reads_none, row_stores_none}
use Rattle.spl_moves.proofs.CountLemmas.{at_address, beside, beside_small, neighbour_at, Fits, fits_less}
use Rattle.spl_moves.proofs.CountLemmas.{counted, counted_none, counted_some, counted_small, counted_onward, counted_nearer}

-- ---- what does not change

-- what follows from a value that is made of another
pub then_done : {A B C : Type 0} (o : Outcome A) (f : A → B) (h : A → State → State) (go : B → State → Outcome C)
    → then_go (then_go o (λ a s. done (f a) (h a s))) go ≡ then_go o (λ a s. go (f a) (h a s))
then_done (done a s) f h go = refl
then_done (leaves x s) f h go = refl
then_done (spent s) f h go = refl
then_done (ends e s) f h go = refl
then_done (strays s) f h go = refl

-- a word that is placed changes neither what is counted nor the condition code
pub placed_tally : (far : Bool) (a v : ℕ) (s : State) → tally (placed_word far a v s) ≡ tally s
placed_tally true a v s = refl
placed_tally false a v s = refl

pub placed_code : (far : Bool) (a v : ℕ) (s : State) → (placed_word far a v s).code ≡ s.code
placed_code true a v s = refl
placed_code false a v s = refl

pub placed_left : (far : Bool) (a v : ℕ) (s : State) → (placed_word far a v s).left ≡ s.left
placed_left true a v s = refl
placed_left false a v s = refl

-- words that are held change no place and print nothing
pub held_place : (far : Bool) (xs : List ℕ) (m : Machine) → (with_held far xs m).regs.p ≡ m.regs.p
held_place true xs m = refl
held_place false xs m = refl

pub held_printed : (far : Bool) (xs : List ℕ) (m : Machine) → (with_held far xs m).printed ≡ m.printed
held_printed true xs m = refl
held_printed false xs m = refl

-- with other steps left
pub value_with_left : (st : Setting) (p : Spot) (n k : ℕ) (d0 : Data) (m0 : Machine) (vs : List ℕ) (s : State) (m : Machine) (left : ℕ)
    → IsValue st p n k d0 m0 vs s m → IsValue st p n k d0 m0 vs (record s { left = left }) m
value_with_left st p n k d0 m0 vs s m left x = record {
  at = x.at;
  wide = x.wide;
  matches = x.matches;
  stand = x.stand;
  small = x.small;
  kept = x.kept;
  silent = x.silent;
}

-- the elements of a string stand in the code of a segment, where a move finds them
abbrev pub Spelled : Ground → Bool → ℕ → ℕ → List ℕ → Type 0
Spelled g bytes seg b [] = Unit {0}
Spelled g bytes seg b (v ∷ vs) =
    ((n : Machine) → n.regs.seg ≡ seg → source bytes g.segments true b n ≡ Ok v) × IsUnit bytes v × Spelled g bytes seg ((b + 1) % 65536) vs

-- ---- one element

module _ (g : Ground) (w : Rate) (st : Setting) (p r : Spot) (k : ℕ) (d0 : Data) (m0 : Machine) (bytes : Bool) (number : ℕ)
    (leads : Leads g (on p) r (doing g.segments (i.Control (move_code bytes) number) r)) (room : d0.top + (k + 3) ≤ d0.stack) where
  -- the addresses of target and source and the count, on k words
  abbrev pub Waiting : ℕ → ℕ → ℕ → State → Machine → Type 0
  Waiting c b a s m = IsValue st p 3 k d0 m0 (c ∷ b ∷ a ∷ []) s m

  -- the end address is left at r
  abbrev pub Lands : Located → State → Machine → Type 0
  Lands end s m = IsValue st r 1 k d0 m0 (end.address ∷ []) s m

  -- the step's row
  row : Machine → Row
  row m = move_row g.segments (move_code bytes) number (at_left m)

  does : (m : Machine) → doing g.segments (i.Control (move_code bytes) number) r m ≡ moving r (row m) m
  unfolding row
  does m = by bytes where
    by : (b : Bool) → doing g.segments (i.Control (move_code b) number) r m ≡ moving r (move_row g.segments (move_code b) number (at_left m)) m
    by true = refl
    by false = refl

  -- the words on top
  target_word : (c b a : ℕ) (s : State) (m : Machine) → Waiting c b a s m → word 2 m ≡ c
  target_word c b a s m x = value_word st p 3 k 2 0 d0 m0 (c ∷ b ∷ a ∷ []) s m x refl

  source_word : (c b a : ℕ) (s : State) (m : Machine) → Waiting c b a s m → word 1 m ≡ b
  source_word c b a s m x = value_word st p 3 k 1 1 d0 m0 (c ∷ b ∷ a ∷ []) s m x refl

  count_word : (c b a : ℕ) (s : State) (m : Machine) → Waiting c b a s m → word 0 m ≡ a
  count_word c b a s m x = value_word st p 3 k 0 2 d0 m0 (c ∷ b ∷ a ∷ []) s m x refl

  three : (c b a : ℕ) (s : State) (m : Machine) → Waiting c b a s m → 3 ≤ length m.stack
  three c b a s m x = let words = x.matches.words in omega (arith, words)

  room_here : (c b a : ℕ) (s : State) (m : Machine) → Waiting c b a s m → s.now.top + (k + 3) ≤ s.now.stack
  room_here c b a s m x =
      let top = kept_top (d0.top + k) d0 m0.stack s.now m.stack x.kept in
      let stack = kept_stack (d0.top + k) d0 m0.stack s.now m.stack x.kept in
      omega (arith, room, top, stack)

  runs : (c b a : ℕ) (s : State) (m : Machine) → Waiting c b a s m → Shows Running s.now m
  runs c b a s m x = shown st s m (k + 3) x.matches

  -- the run with an element stored
  abbrev stored : Bool → ℕ → ℕ → ℕ → State → State
  stored far c v old s = placed_word far (unit_word bytes c) (with_unit bytes c v old) s

  -- what the row leaves, by the words
  goes_row : (far : Bool) (c b a v old : ℕ) (s : State) (m : Machine) → st.split ≡ far → Waiting c b a s m → (a == 0) ≡ false
      → source bytes g.segments (number == 1) b (at_left m) ≡ Ok v → IsUnit bytes v → Seen far (unit_word bytes c) old s (at_left m)
      → row m ≡ Ok (element_done c b a (with_held far (slice_set (held far (at_left m)) (unit_word bytes c) (with_unit bytes c v old)) (at_left m)))
  unfolding row
  goes_row far c b a v old s m side x some is one seen =
      let two = target_word c b a s m x in
      let next = source_word c b a s m x in
      let top = count_word c b a s m x in
      let split : m.split ≡ far = ap (λ u. u.split) x.matches.outer ∙ side in
      let k1 : Machine = with_held far (slice_set (held far (at_left m)) (unit_word bytes c) (with_unit bytes c v old)) (at_left m) in
      row_goes bytes g.segments number v k1 (at_left m) (three c b a s m x) (subst (λ (z : ℕ). (z == 0) ≡ false) (sym top) some)
      (subst (λ (z : ℕ). source bytes g.segments (number == 1) z (at_left m) ≡ Ok v) (sym next) is)
      (subst (λ (z : ℕ). unit_written bytes z v (at_left m) ≡ Ok k1) (sym two) (unit_put bytes far c v old s (at_left m) split one seen))
      ∙ ap (λ (z : ℕ). let o : Row = Ok (element_done z (word 1 m) (word 0 m) k1) in o) two
      ∙ ap (λ (z : ℕ). let o : Row = Ok (element_done c z (word 0 m) k1) in o) next
      ∙ ap (λ (z : ℕ). let o : Row = Ok (element_done c b z k1) in o) top

  -- An element is stored, and the machine is at the same word.
  element_goes : (far : Bool) (c b a v old : ℕ) (s : State) (m : Machine) → st.split ≡ far → Waiting c b a s m → (a == 0) ≡ false
      → source bytes g.segments (number == 1) b (at_left m) ≡ Ok v → IsUnit bytes v → Seen far (unit_word bytes c) old s (at_left m)
      → onward a c < 65536 → onward a b < 65536 → nearer a < 65536
      → (n : Machine) × Goes g w 2 0 w.reach (tally s) m (tally (stored far c v old s)) n
      × Waiting (onward a c) (onward a b) (nearer a) (stored far c v old s) n
  unfolding element_done
  element_goes far c b a v old s m side x some is one seen sc sb sa = (
    n,
    subst (λ (t : Tally). Goes g w 2 0 w.reach (tally s) m t n)
        (sym (placed_tally far (unit_word bytes c) (with_unit bytes c v old) s))
        (lead_briefly g w (on p) r (doing g.segments (i.Control (move_code bytes) number) r) s.begun s m n leads x.at (runs c b a s m x).ending refl
        (does m ∙ ap (λ (o : Row). moving r o m) (goes_row far c b a v old s m side x some is one seen) ∙ stays r e m (held_place far ys (at_left m)))
        (no_print m n (held_printed far ys (at_left m)))),
    value_left st p k 3 3 (onward a c ∷ onward a b ∷ nearer a ∷ []) d0 m0 (stored far c v old s) (with_held far ys (at_left m)) n x.at refl refl
        (placed_matched far st s (at_left m) (k + 3) (unit_word bytes c) (with_unit bytes c v old) old x.matches seen small)
        (placed_kept far (d0.top + k) d0 m0.stack s (at_left m) (unit_word bytes c) (with_unit bytes c v old) old x.kept seen)
        (placed_code far (unit_word bytes c) (with_unit bytes c v old) s ∙ x.silent) (sc, (sb, (sa, tt))) refl,
  )
    where
      ys : List ℕ
      ys = slice_set (held far (at_left m)) (unit_word bytes c) (with_unit bytes c v old)

      e : Machine
      e = element_done c b a (with_held far ys (at_left m))

      n : Machine
      n = landed (spot m) e

      small : with_unit bytes c v old < 65536
      small = with_unit_small bytes c v old one seen.small

  -- a row that traps
  element_traps : {A : Type 0} (c b a : ℕ) (s : State) (m : Machine) (P : A → State → Machine → Type 0) → Waiting c b a s m → row m ≡ Err Bounds
      → Follows g w (pos r - pos p) 0 w.reach (tally s) m P NoExit (ends (trapped Bounds) s)
  element_traps c b a s m P x lost =
      row_trap g w w.reach (on p) r (doing g.segments (i.Control (move_code bytes) number) r) st s.begun s m (k + 3) (Err Bounds) Bounds P NoExit leads
      (does m ∙ ap (λ (o : Row). moving r o m) lost) x.at refl x.matches refl

  -- The last element is done: source and count are deleted, and the machine is behind the word.
  move_ends : (c b a : ℕ) (s : State) (m : Machine) → Waiting c b a s m → (a == 0) ≡ true
      → (n : Machine) × Goes g w (pos r - pos p) 0 w.reach (tally s) m (tally s) n × IsValue st r 1 k d0 m0 (c ∷ []) s n
  unfolding row
  move_ends c b a s m x none = (
    n,
    lead g w (on p) r (doing g.segments (i.Control (move_code bytes) number) r) s.begun s m n leads x.at (runs c b a s m x).ending refl
        (does m ∙ ap (λ (o : Row). moving r o m) (row_ends bytes g.segments number (at_left m) (three c b a s m x) zero_count) ∙ passes r e m refl)
        (no_print m n refl),
    value_left st r k 3 1 (c ∷ []) d0 m0 s m n refl
        (first_left 2 m (let there = three c b a s m x in omega (arith, there))
        ∙ ap (λ (z : ℕ). take (length m.stack - 3) m.stack ++ z ∷ []) (target_word c b a s m x))
        refl x.matches x.kept x.silent (x.small.0, tt) refl,
  )
    where
      e : Machine
      e = passed (without 2 (at_left m))

      n : Machine
      n = landed r e

      zero_count : (word 0 m == 0) ≡ true
      zero_count = subst (λ (z : ℕ). (z == 0) ≡ true) (sym (count_word c b a s m x)) none

  -- ---- a store, and what follows

  -- the element v is stored, and then the next one is the move's
  store_then : {A : Type 0} (far : Bool) (t : Kind) (c b a v : ℕ) (s : State) (m : Machine) (P : A → State → Machine → Type 0) (X : State → Outcome A)
      → is_byte (Some t) ≡ bytes → width t ≡ 1 → st.split ≡ far → Waiting c b a s m → (a == 0) ≡ false
      → source bytes g.segments (number == 1) b (at_left m) ≡ Ok v → IsUnit bytes v
      → onward a c < 65536 → onward a b < 65536 → nearer a < 65536
      → ((u : State) (n : Machine) → Waiting (onward a c) (onward a b) (nearer a) u n → Follows g w (pos r - pos p) 1 w.reach (tally u) n P NoExit (X u))
      → Follows g w (2 + (pos r - pos p)) 0 w.reach (tally s) m P NoExit (then_go (store_by t far c (v ∷ []) s) (λ _ u. X u))
  unfolding row
  store_then {A = A} far t c b a v s m P X same one side x some is unit sc sb sa rest =
      subst (λ (o : Outcome A). Follows g w (2 + (pos r - pos p)) 0 w.reach (tally s) m P NoExit o) (sym by_word)
      (see (λ (o : Outcome A). Follows g w (2 + (pos r - pos p)) 0 w.reach (tally s) m P NoExit o) far (unit_word bytes c) (k + 3) st s (at_left m)
      (λ old u. X (stored far c v old u)) x.matches (room_here c b a s m x)
      (λ old seen. let f = element_goes far c b a v old s m side x some is unit seen sc sb sa in
      then_follows g w 2 0 w.reach (pos r - pos p) 1 w.reach (2 + (pos r - pos p)) 0 w.reach (tally s) m (tally (stored far c v old s)) f.0 P NoExit
      (X (stored far c v old s)) f.1 (rest (stored far c v old s) f.0 f.2) (omega arith) (omega (arith, many)) (omega (arith, many)))
      (stray_here g w (2 + (pos r - pos p)) 0 w.reach st (on p) (k + 3) s s.begun m P NoExit leads.start x.at refl x.matches)
      (λ past. widen g w (pos r - pos p) 0 w.reach (2 + (pos r - pos p)) 0 w.reach (tally s) m P NoExit (ends (trapped Bounds) s)
      (element_traps c b a s m P x (row_stores_none bytes g.segments number v Bounds (at_left m) (three c b a s m x)
      (subst (λ (z : ℕ). (z == 0) ≡ false) (sym (count_word c b a s m x)) some)
      (subst (λ (z : ℕ). source bytes g.segments (number == 1) z (at_left m) ≡ Ok v) (sym (source_word c b a s m x)) is)
      (subst (λ (z : ℕ). unit_written bytes z v (at_left m) ≡ Err Bounds) (sym (target_word c b a s m x))
      (unit_not_put bytes far c v (at_left m) (ap (λ u. u.split) x.matches.outer ∙ side) past))))
      (omega arith) (omega arith) (omega arith)))
    where
      many : 8 ≤ w.reach
      many = w.enough

      by_word : then_go (store_by t far c (v ∷ []) s) (λ _ u. X u) ≡ then_go (word_at far (unit_word bytes c) s) (λ old u. X (stored far c v old u))
      by_word =
          ap (λ (o : Outcome (Unit {0})). then_go o (λ _ u. X u)) (stores bytes t far c v s same one)
          ∙ then_done (word_at far (unit_word bytes c) s) (λ old. tt) (λ old u. stored far c v old u) (λ _ u. X u)

  -- ---- a string

  pub text_follows : (far : Bool) (t : Kind) → is_byte (Some t) ≡ bytes → width t ≡ 1 → st.split ≡ far → (number == 1) ≡ true
      → (vs : List ℕ) (c b : ℕ) (s : State) (m : Machine) → length vs < 32768 → Spelled g bytes p.seg b vs → Waiting c b (length vs) s m
      → Follows g w (pos r - pos p) 1 w.reach (tally s) m Lands NoExit (moved_list vs (at_address far t c) s)
  text_follows far t same one side code [] c b s m few spelled x =
      let f = move_ends c b 0 s m x refl in
      widen g w (pos r - pos p) 0 w.reach (pos r - pos p) 1 w.reach (tally s) m Lands NoExit (done (at_address far t c) s) f (omega arith) (omega arith)
      (omega arith)
  text_follows far t same one side code (v ∷ vs) c b s m few spelled x =
      let fits : Fits true (suc (length vs)) = few in
      let next = counted_onward true (length vs) c fits in
      let after = counted_onward true (length vs) b fits in
      let less = counted_nearer true (length vs) fits in
      let low : length vs < 32768 = omega (arith, few) in
      spend_follows g w (2 + (pos r - pos p)) 0 (pos r - pos p) 1 w.reach s s.begun m Lands NoExit
      (λ s1. then_go (store (at_address far t c) (v ∷ []) s1) (λ _ s2. moved_list vs (at_address far t ((c + 1) % 65536)) s2))
      (runs c b (suc (length vs)) s m x) (inl refl)
      (λ n is. store_then far t c b (suc (length vs)) v (record s { left = n }) m Lands (λ u. moved_list vs
      (at_address far t ((c + 1) % 65536)) u) same one side
      (value_with_left st p 3 k d0 m0 (c ∷ b ∷ suc (length vs) ∷ []) s m n x) (counted_some true (length vs) fits)
      (subst (λ (q : Bool). source bytes g.segments q b (at_left m) ≡ Ok v) (sym code) (spelled.0 (at_left m) (ap (λ (q : Spot). q.seg) x.at))) spelled.1
      (subst (λ (z : ℕ). z < 65536) (sym next) (omega arith)) (subst (λ (z : ℕ). z < 65536) (sym after) (omega arith))
      (subst (λ (z : ℕ). z < 65536) (sym less) (omega (arith, low)))
      (λ u m1 y. text_follows far t same one side code vs ((c + 1) % 65536) ((b + 1) % 65536) u m1 low spelled.2
      (subst (λ (z : ℕ). Waiting z ((b + 1) % 65536) (length vs) u m1) next
      (subst (λ (z : ℕ). Waiting (onward (suc (length vs)) c) z (length vs) u m1) after
      (subst (λ (z : ℕ). Waiting (onward (suc (length vs)) c) (onward (suc (length vs)) b) z u m1) less y)))))
      (let word = w.word in omega (arith, word)) (omega arith)

  -- ---- data

  -- an element of the data is read, and then it is stored
  read_then : {A : Type 0} (far : Bool) (t o : Kind) (c b a : ℕ) (s : State) (m : Machine) (P : A → State → Machine → Type 0) (X : State → Outcome A)
      → is_byte (Some t) ≡ bytes → width t ≡ 1 → is_byte (Some o) ≡ bytes → width o ≡ 1 → st.split ≡ far → (number == 1) ≡ false
      → Waiting c b a s m → (a == 0) ≡ false → onward a c < 65536 → onward a b < 65536 → nearer a < 65536
      → ((u : State) (n : Machine) → Waiting (onward a c) (onward a b) (nearer a) u n → Follows g w (pos r - pos p) 1 w.reach (tally u) n P NoExit (X u))
      → Follows g w (2 + (pos r - pos p)) 0 w.reach (tally s) m P NoExit
      (then_go (read (at_address far o b) s) (λ vs v. then_go (store (at_address far t c) vs v) (λ _ z. X z)))
  unfolding row
  read_then {A = A} far t o c b a s m P X same one other narrow side stack x some sc sb sa rest =
      subst (λ (z : Outcome A). Follows g w (2 + (pos r - pos p)) 0 w.reach (tally s) m P NoExit z) (sym by_word)
      (see (λ (z : Outcome A). Follows g w (2 + (pos r - pos p)) 0 w.reach (tally s) m P NoExit z) far (unit_word bytes b) (k + 3) st s (at_left m)
      (λ v z. then_go (store_by t far c (unit_of bytes b v ∷ []) z) (λ _ z. X z)) x.matches (room_here c b a s m x)
      (λ v seen. store_then far t c b a (unit_of bytes b v) s m P X same one side x some
      (subst (λ (q : Bool). source bytes g.segments q b (at_left m) ≡ Ok (unit_of bytes b v)) (sym stack)
      (unit_read bytes far g.segments b v s (at_left m) split seen)) (unit_small bytes b v seen.small) sc sb sa rest)
      (stray_here g w (2 + (pos r - pos p)) 0 w.reach st (on p) (k + 3) s s.begun m P NoExit leads.start x.at refl x.matches)
      (λ past. widen g w (pos r - pos p) 0 w.reach (2 + (pos r - pos p)) 0 w.reach (tally s) m P NoExit (ends (trapped Bounds) s)
      (element_traps c b a s m P x (row_reads_none bytes g.segments number Bounds (at_left m) (three c b a s m x)
      (subst (λ (z : ℕ). (z == 0) ≡ false) (sym (count_word c b a s m x)) some)
      (subst (λ (z : ℕ). source bytes g.segments (number == 1) z (at_left m) ≡ Err Bounds) (sym (source_word c b a s m x))
      (subst (λ (q : Bool). source bytes g.segments q b (at_left m) ≡ Err Bounds) (sym stack) (unit_not_read bytes far g.segments b (at_left m) split past)))))
      (omega arith) (omega arith) (omega arith)))
    where
      split : m.split ≡ far
      split = ap (λ z. z.split) x.matches.outer ∙ side

      by_word : then_go (read (at_address far o b) s) (λ vs v. then_go (store (at_address far t c) vs v) (λ _ z. X z))
          ≡ then_go (word_at far (unit_word bytes b) s) (λ v z. then_go (store_by t far c (unit_of bytes b v ∷ []) z) (λ _ z. X z))
      by_word =
          ap (λ (z : Outcome (List ℕ)). then_go z (λ vs v. then_go (store (at_address far t c) vs v) (λ _ z. X z))) (reads bytes o far b s other narrow)
          ∙ then_done (word_at far (unit_word bytes b) s) (λ v. unit_of bytes b v ∷ []) (λ v z. z)
          (λ vs v. then_go (store (at_address far t c) vs v) (λ _ z. X z))

  -- so many elements of the data, upwards or downwards
  pub data_follows : (far : Bool) (t o : Kind) → is_byte (Some t) ≡ bytes → width t ≡ 1 → is_byte (Some o) ≡ bytes → width o ≡ 1 → st.split ≡ far
      → (number == 1) ≡ false
      → (up : Bool) (j c b : ℕ) (s : State) (m : Machine) → Fits up j → Waiting c b (counted up j) s m
      → Follows g w (pos r - pos p) 1 w.reach (tally s) m Lands NoExit (moved up j (at_address far t c) (at_address far o b) s)
  data_follows far t o same one other narrow side stack up zero c b s m fits x =
      let f = move_ends c b (counted up 0) s m x (counted_none up) in
      widen g w (pos r - pos p) 0 w.reach (pos r - pos p) 1 w.reach (tally s) m Lands NoExit (done (at_address far t c) s) f (omega arith) (omega arith)
      (omega arith)
  data_follows far t o same one other narrow side stack up (suc j) c b s m fits x =
      let a = counted up (suc j) in
      let next = counted_onward up j c fits in
      let after = counted_onward up j b fits in
      let less = counted_nearer up j fits in
      let rest : State → Outcome Located = λ u. moved up j (neighbour up (at_address far t c)) (neighbour up (at_address far o b)) u in
      spend_follows g w (2 + (pos r - pos p)) 0 (pos r - pos p) 1 w.reach s s.begun m Lands NoExit
      (λ s1. then_go (read (at_address far o b) s1) (λ vs s2. then_go (store (at_address far t c) vs s2) (λ _ s3. rest s3)))
      (runs c b a s m x) (inl refl)
      (λ n is. read_then far t o c b a (record s { left = n }) m Lands rest same one other narrow side stack
      (value_with_left st p 3 k d0 m0 (c ∷ b ∷ a ∷ []) s m n x) (counted_some up j fits)
      (subst (λ (z : ℕ). z < 65536) (sym next) (beside_small up c)) (subst (λ (z : ℕ). z < 65536) (sym after) (beside_small up b))
      (subst (λ (z : ℕ). z < 65536) (sym less) (counted_small up j (fits_less up j fits)))
      (λ u m1 y.
      subst (λ (q : Located). Follows g w (pos r - pos p) 1 w.reach (tally u) m1 Lands NoExit (moved up j q (neighbour up (at_address far o b)) u))
      (sym (neighbour_at up far t c))
      (subst (λ (q : Located). Follows g w (pos r - pos p) 1 w.reach (tally u) m1 Lands NoExit (moved up j (at_address far t (beside up c)) q u))
      (sym (neighbour_at up far o b))
      (data_follows far t o same one other narrow side stack up j (beside up c) (beside up b) u m1 (fits_less up j fits)
      (subst (λ (z : ℕ). Waiting z (beside up b) (counted up j) u m1) next
      (subst (λ (z : ℕ). Waiting (onward a c) z (counted up j) u m1) after
      (subst (λ (z : ℕ). Waiting (onward a c) (onward a b) z u m1) less y)))))))
      (let word = w.word in omega (arith, word)) (omega arith)
