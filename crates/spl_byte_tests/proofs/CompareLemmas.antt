-- CMPB, one pair of bytes after the other: what the machine does at the word of a comparison is what the run does with a pair.
use Rattle.std.proofs.Common.{◌≡◌, ℕ, zero, suc, ◌+◌, ◌-◌, ◌/◌, ◌%◌, ◌<◌, ◌≤◌, Bool, true, false}
use Rattle.std.proofs.Common.{List, [], ◌∷◌, length, take, refl, sym, ap, subst, ◌∙◌, arith, inl}
use Rattle.std.specs.Prelude.{◌==◌, Option, None, Ok, Err, Result, nat_lt, if◌then◌else◌}
use Rattle.std.proofs.lemmas.Bool.{false≢true, ltb-false, eq-eqb}
use Rattle.std.proofs.lemmas.List.{append-nil}
use Rattle.spl_names.specs.hp_word.Bytes.{byte_at}
use Rattle.spl_names.specs.hp_word.Words as words
use Rattle.spl_names.specs.hp_word.Words.{logically_compared}
use Rattle.spl_names.specs.hp_word.declared.arithmetic.Code.{Code}
use Rattle.spl_names.specs.hp_word.declared.arithmetic.Code.TheVariants.{Greater, Less, Equal}
use Rattle.spl_names.specs.hp_word.declared.endings.Trap.{Trap}
use Rattle.spl_names.specs.hp_word.declared.endings.Trap.TheVariants.{Bounds}
use Rattle.spl_names.specs.hp_word.declared.endings.Ending.TheVariants.{Running}
use Rattle.spl_names.specs.hp_instr.declared.instruction.Instr.TheVariants as i
use Rattle.spl_scans.specs.hp_session.declared.places.Place.TheVariants.{Db}
use Rattle.spl_scans.specs.hp_session.State.{Machine, Outcome as Row, then_with, word, without, with_code, passed}
use Rattle.spl_scans.specs.hp_session.Places.{word_of_byte, byte_read}
use Rattle.spl_scans.specs.hp_memory_rows.MoveRows.{onward, nearer, element_done, source_byte, move_row}
use Rattle.spl_scans.specs.hp_flat.Step.{at_left}
use Rattle.spl_scans.specs.hp_yields.Rows.{held}
use Rattle.spl_scans.proofs.hp_call_yields_proofs.MoveYields as rows
use Rattle.spl_names.specs.spl_tree.declared.expressions.Kind.TheVariants as kind
use Rattle.spl_names.specs.spl_meaning.Elements.{with_one, neighbour, told_apart, compared, compared_text}
use Rattle.spl_names.specs.spl_meaning.References.{Setting, Located, word_at, read}
use Rattle.spl_names.specs.spl_meaning.States.{Data, State, Outcome, done, ends, trapped, then_go}
use Rattle.spl_scans.specs.spl_follow.Spots.{Spot, spot, pos, landed, on, Ground}
use Rattle.spl_scans.specs.spl_follow.Leading.{Leads}
use Rattle.spl_scans.specs.spl_follow.Matching.{Outer, Matched, Coded, Shows, IsValue, Arrives}
use Rattle.spl_scans.specs.spl_follow.Following.{Rate, tally, Goes, Follows, NoExit}
use Rattle.spl_scans.specs.spl_follow.Doing.{moving, doing}
use Rattle.spl_scans.proofs.spl_follow_proofs.FollowLemmas.{then_follows, widen, spend_follows}
use Rattle.spl_scans.proofs.spl_follow_proofs.KeepLemmas.{kept_top, kept_stack, value_word}
use Rattle.spl_scans.proofs.spl_follow_proofs.RowLemmas.{no_print, shown, stray_here, row_trap}
use Rattle.spl_scans.proofs.spl_follow_proofs.WayLemmas.{lead, lead_briefly}
use Rattle.spl_scans.specs.spl_operands.Operands.{Seen}
use Rattle.spl_scans.proofs.spl_operands_proofs.LoadLemmas.{seen_read, past_read}
use Rattle.spl_scans.proofs.spl_operands_proofs.SeeLemmas.{see}
use Rattle.spl_scans.proofs.spl_moves_proofs.StepLemmas.{stays, passes, value_left}
use Rattle.spl_scans.proofs.spl_moves_proofs.UnitLemmas.{unit_read, unit_not_read}
use Rattle.spl_scans.proofs.spl_moves_proofs.CountLemmas.{at_address, beside, beside_small, neighbour_at, Fits, fits_less}
use Rattle.spl_scans.proofs.spl_moves_proofs.CountLemmas.{counted, counted_none, counted_some, counted_small, counted_onward, counted_nearer}
use Rattle.spl_scans.proofs.spl_moves_proofs.MoveLemmas.{then_done, value_with_left, Spelled}

-- ---- bytes

-- a byte that is seen is read, and one past the stack or the segment is not
byte_seen : (far : Bool) (a w : ℕ) (s : State) (m : Machine) → m.split ≡ far → Seen far (a / 2) w s m → byte_read (Db a) m ≡ Ok (byte_at a w)
unfolding byte_read word_of_byte
byte_seen far a w s m side seen =
    ap (λ (x : Result ℕ Trap). then_with x (λ w. let y : Result ℕ Trap = Ok (byte_at a w) in y)) (seen_read (Db (a / 2)) far (a / 2) w s m side refl seen)

byte_past : (far : Bool) (a : ℕ) (m : Machine) → m.split ≡ far → length (held far m) ≤ a / 2 → byte_read (Db a) m ≡ Err Bounds
unfolding byte_read word_of_byte
byte_past far a m side past =
    ap (λ (x : Result ℕ Trap). then_with x (λ w. let y : Result ℕ Trap = Ok (byte_at a w) in y)) (past_read (Db (a / 2)) far (a / 2) m side refl past)

-- two that differ are greater and less without sign
apart_code : (x y : ℕ) → (x == y) ≡ false → (if nat_lt y x then Greater else Less) ≡ logically_compared x y
unfolding words.compared
apart_code x y other = by (nat_lt y x) (nat_lt x y) refl refl where
  by : (a b : Bool) → nat_lt y x ≡ a → nat_lt x y ≡ b → (if a then Greater else Less) ≡ (if a then Greater else if b then Less else Equal)
  by true b e f = refl
  by false true e f = refl
  by false false e f =
      let low = ltb-false y x e in
      let high = ltb-false x y f in
      absurd (false≢true (sym other ∙ eq-eqb x y (omega (arith, low, high))))

-- a comparison has deleted its three words, and the code tells how the bytes stand to each other
abbrev pub Told : Setting → Spot → ℕ → Data → Machine → Code → State → Machine → Type 0
Told st r k d0 m0 c s n = Arrives st r k d0 m0 s n × (n.regs.code ≡ c) × (s.code ≡ None)

module _ (g : Ground) (w : Rate) (st : Setting) (p r : Spot) (k : ℕ) (d0 : Data) (m0 : Machine) (number : ℕ)
    (leads : Leads g (on p) r (doing g.segments (i.Control 14 number) r)) (room : d0.top + (k + 3) ≤ d0.stack) where
  -- both addresses and the count, on k words
  abbrev pub Waiting : ℕ → ℕ → ℕ → State → Machine → Type 0
  Waiting c b a s m = IsValue st p 3 k d0 m0 (c ∷ b ∷ a ∷ []) s m

  -- the step's row
  row : Machine → Row
  row m = move_row g.segments 14 number (at_left m)

  does : (m : Machine) → doing g.segments (i.Control 14 number) r m ≡ moving r (row m) m
  unfolding row
  does m = refl

  -- the words on top
  first_word : (c b a : ℕ) (s : State) (m : Machine) → Waiting c b a s m → word 2 m ≡ c
  first_word c b a s m x = value_word st p 3 k 2 0 d0 m0 (c ∷ b ∷ a ∷ []) s m x refl

  second_word : (c b a : ℕ) (s : State) (m : Machine) → Waiting c b a s m → word 1 m ≡ b
  second_word c b a s m x = value_word st p 3 k 1 1 d0 m0 (c ∷ b ∷ a ∷ []) s m x refl

  count_word : (c b a : ℕ) (s : State) (m : Machine) → Waiting c b a s m → word 0 m ≡ a
  count_word c b a s m x = value_word st p 3 k 0 2 d0 m0 (c ∷ b ∷ a ∷ []) s m x refl

  three : (c b a : ℕ) (s : State) (m : Machine) → Waiting c b a s m → 3 ≤ length m.stack
  three c b a s m x = let words = x.matches.words in omega (arith, words)

  room_here : (c b a : ℕ) (s : State) (m : Machine) → Waiting c b a s m → s.now.top + (k + 3) ≤ s.now.stack
  room_here c b a s m x =
      let top = kept_top (d0.top + k) d0 m0.stack s.now m.stack x.kept in
      let stack = kept_stack (d0.top + k) d0 m0.stack s.now m.stack x.kept in
      omega (arith, room, top, stack)

  runs : (c b a : ℕ) (s : State) (m : Machine) → Waiting c b a s m → Shows Running s.now m
  runs c b a s m x = shown st s m (k + 3) x.matches

  some_count : (c b a : ℕ) (s : State) (m : Machine) → Waiting c b a s m → (a == 0) ≡ false → (word 0 m == 0) ≡ false
  some_count c b a s m x some = subst (λ (z : ℕ). (z == 0) ≡ false) (sym (count_word c b a s m x)) some

  first_there : (c b a : ℕ) (o : Result ℕ Trap) (s : State) (m : Machine) → Waiting c b a s m → byte_read (Db c) (at_left m) ≡ o
      → byte_read (Db (word 2 m)) (at_left m) ≡ o
  first_there c b a o s m x is = subst (λ (z : ℕ). byte_read (Db z) (at_left m) ≡ o) (sym (first_word c b a s m x)) is

  second_there : (c b a : ℕ) (o : Result ℕ Trap) (s : State) (m : Machine) → Waiting c b a s m → source_byte g.segments (number == 1) b (at_left m) ≡ o
      → source_byte g.segments (number == 1) (word 1 m) (at_left m) ≡ o
  second_there c b a o s m x is = subst (λ (z : ℕ). source_byte g.segments (number == 1) z (at_left m) ≡ o) (sym (second_word c b a s m x)) is

  -- ---- a pair

  -- Two equal bytes are passed, and the machine is at the same word.
  pair_goes : (c b a : ℕ) (s : State) (m : Machine) → Waiting c b a s m → row m ≡ Ok (element_done (word 2 m) (word 1 m) (word 0 m) (at_left m))
      → onward a c < 65536 → onward a b < 65536 → nearer a < 65536
      → (n : Machine) × Goes g w 2 0 w.reach (tally s) m (tally s) n × Waiting (onward a c) (onward a b) (nearer a) s n
  unfolding element_done
  pair_goes c b a s m x goes sc sb sa = (
    n,
    lead_briefly g w (on p) r (doing g.segments (i.Control 14 number) r) s.begun s m n leads x.at (runs c b a s m x).ending refl
        (does m ∙ ap (λ (o : Row). moving r o m) (goes ∙ words_are) ∙ stays r e m refl) (no_print m n refl),
    value_left st p k 3 3 (onward a c ∷ onward a b ∷ nearer a ∷ []) d0 m0 s (at_left m) n x.at refl refl x.matches x.kept x.silent (sc, (sb, (sa, tt))) refl,
  )
    where
      e : Machine
      e = element_done c b a (at_left m)

      n : Machine
      n = landed (spot m) e

      words_are : (let o : Row = Ok (element_done (word 2 m) (word 1 m) (word 0 m) (at_left m)) in o) ≡ Ok e
      words_are =
          ap (λ (z : ℕ). let o : Row = Ok (element_done z (word 1 m) (word 0 m) (at_left m)) in o) (first_word c b a s m x)
          ∙ ap (λ (z : ℕ). let o : Row = Ok (element_done c z (word 0 m) (at_left m)) in o) (second_word c b a s m x)
          ∙ ap (λ (z : ℕ). let o : Row = Ok (element_done c b z (at_left m)) in o) (count_word c b a s m x)

  -- The last step deletes the three words, and tells.
  pair_tells : (c b a : ℕ) (code : Code) (s : State) (m : Machine) → Waiting c b a s m → row m ≡ Ok (passed (with_code code (without 3 (at_left m))))
      → (n : Machine) × Goes g w (pos r - pos p) 0 w.reach (tally s) m (tally s) n × Told st r k d0 m0 code s n
  pair_tells c b a code s m x tells =
      let e : Machine = passed (with_code code (without 3 (at_left m))) in
      let n : Machine = landed r e in
      let none : k + 0 ≡ k = omega arith in
      let v : IsValue st r 0 k d0 m0 [] s n =
      value_left st r k 3 0 [] d0 m0 s m n refl (sym (append-nil (take (length m.stack - 3) m.stack))) refl x.matches x.kept x.silent tt refl in (
        n,
        lead g w (on p) r (doing g.segments (i.Control 14 number) r) s.begun s m n leads x.at (runs c b a s m x).ending refl
            (does m ∙ ap (λ (o : Row). moving r o m) tells ∙ passes r e m refl) (no_print m n refl),
        (
          record {
            at = refl;
            matches = subst (λ (j : ℕ). Matched st s.now n j) none v.matches;
            kept = v.kept;
            coded = subst (λ (o : Option Code). Coded o code) (sym x.silent) tt;
          },
          refl,
          x.silent,
        ),
      )

  -- a row that traps
  pair_traps : (c b a : ℕ) (s : State) (m : Machine) → Waiting c b a s m → row m ≡ Err Bounds
      → Follows g w (pos r - pos p) 0 w.reach (tally s) m (Told st r k d0 m0) NoExit (ends (trapped Bounds) s)
  pair_traps c b a s m x lost =
      row_trap g w w.reach (on p) r (doing g.segments (i.Control 14 number) r) st s.begun s m (k + 3) (Err Bounds) Bounds (Told st r k d0 m0) NoExit leads
      (does m ∙ ap (λ (o : Row). moving r o m) lost) x.at refl x.matches refl

  -- Two bytes that are read: where they are equal the comparison goes on, and else they decide.
  pair_then : (c b a x y : ℕ) (s : State) (m : Machine) (X : State → Outcome Code) → Waiting c b a s m → (a == 0) ≡ false
      → byte_read (Db c) (at_left m) ≡ Ok x → source_byte g.segments (number == 1) b (at_left m) ≡ Ok y
      → onward a c < 65536 → onward a b < 65536 → nearer a < 65536
      → ((n : Machine) → Waiting (onward a c) (onward a b) (nearer a) s n → Follows g w (pos r - pos p) 1 w.reach (tally s) n (Told st r k d0 m0) NoExit (X s))
      → Follows g w (2 + (pos r - pos p)) 0 w.reach (tally s) m (Told st r k d0 m0) NoExit (told_apart x y s X)
  unfolding row
  pair_then c b a x y s m X v some first second sc sb sa rest = by (x == y) refl where
    many : 8 ≤ w.reach
    many = w.enough

    by : (t : Bool) → (x == y) ≡ t
        → Follows g w (2 + (pos r - pos p)) 0 w.reach (tally s) m (Told st r k d0 m0) NoExit (if t then X s else done (logically_compared x y) s)
    by true same =
        let f = pair_goes c b a s m v
        (rows.compare_goes g.segments number x y (at_left m) (three c b a s m v) (some_count c b a s m v some) (first_there c b a (Ok x) s m v first)
        (second_there c b a (Ok y) s m v second) same) sc sb sa in
        then_follows g w 2 0 w.reach (pos r - pos p) 1 w.reach (2 + (pos r - pos p)) 0 w.reach (tally s) m (tally s) f.0 (Told st r k d0 m0) NoExit (X s) f.1 (rest f.0 f.2)
        (omega arith) (omega (arith, many)) (omega (arith, many))
    by false other =
        let f = pair_tells c b a (logically_compared x y) s m v
        (rows.compare_differs g.segments number x y (at_left m) (three c b a s m v) (some_count c b a s m v some) (first_there c b a (Ok x) s m v first)
        (second_there c b a (Ok y) s m v second) other
        ∙ ap (λ (z : Code). let o : Row = Ok (passed (with_code z (without 3 (at_left m)))) in o) (apart_code x y other)) in
        widen g w (pos r - pos p) 0 w.reach (2 + (pos r - pos p)) 0 w.reach (tally s) m (Told st r k d0 m0) NoExit (done (logically_compared x y) s) f (omega arith) (omega arith)
        (omega arith)

  -- no pair is left
  none_left : (c b a : ℕ) (s : State) (m : Machine) → Waiting c b a s m → (a == 0) ≡ true
      → Follows g w (pos r - pos p) 1 w.reach (tally s) m (Told st r k d0 m0) NoExit (done Equal s)
  unfolding row
  none_left c b a s m x none =
      let f = pair_tells c b a Equal s m x
      (rows.compare_ends g.segments number (at_left m) (three c b a s m x) (subst (λ (z : ℕ). (z == 0) ≡ true) (sym (count_word c b a s m x)) none)) in
      widen g w (pos r - pos p) 0 w.reach (pos r - pos p) 1 w.reach (tally s) m (Told st r k d0 m0) NoExit (done Equal s) f (omega arith) (omega arith) (omega arith)

  -- The first byte is read, and then what is told of it.
  first_then : (far : Bool) (c b a : ℕ) (s : State) (m : Machine) (X : ℕ → State → Outcome Code) → st.split ≡ far → Waiting c b a s m → (a == 0) ≡ false
      → ((v : ℕ) → byte_read (Db c) (at_left m) ≡ Ok (byte_at c v) → Follows g w (2 + (pos r - pos p)) 0 w.reach (tally s) m (Told st r k d0 m0) NoExit (X (byte_at c v) s))
      → Follows g w (2 + (pos r - pos p)) 0 w.reach (tally s) m (Told st r k d0 m0) NoExit
      (then_go (read (at_address far kind.Byte c) s) (λ bs u. with_one bs u (λ x t. X x t)))
  unfolding row
  first_then far c b a s m X side x some rest =
      subst (λ (o : Outcome Code). Follows g w (2 + (pos r - pos p)) 0 w.reach (tally s) m (Told st r k d0 m0) NoExit o)
      (sym (then_done (word_at far (c / 2) s) (λ v. byte_at c v ∷ []) (λ v u. u) (λ bs u. with_one bs u (λ x t. X x t))))
      (see (λ (o : Outcome Code). Follows g w (2 + (pos r - pos p)) 0 w.reach (tally s) m (Told st r k d0 m0) NoExit o) far (c / 2) (k + 3) st s (at_left m)
      (λ v u. X (byte_at c v) u) x.matches (room_here c b a s m x) (λ v seen. rest v (byte_seen far c v s (at_left m) split seen))
      (stray_here g w (2 + (pos r - pos p)) 0 w.reach st (on p) (k + 3) s s.begun m (Told st r k d0 m0) NoExit leads.start x.at refl x.matches)
      (λ past. widen g w (pos r - pos p) 0 w.reach (2 + (pos r - pos p)) 0 w.reach (tally s) m (Told st r k d0 m0) NoExit (ends (trapped Bounds) s)
      (pair_traps c b a s m x (rows.compare_reads_no_first g.segments number Bounds (at_left m) (three c b a s m x) (some_count c b a s m x some)
      (first_there c b a (Err Bounds) s m x (byte_past far c (at_left m) split past))))
      (omega arith) (omega arith) (omega arith)))
    where
      split : m.split ≡ far
      split = ap (λ (u : Outer). u.split) x.matches.outer ∙ side

  -- ---- a string

  pub text_follows : (far : Bool) → st.split ≡ far → (number == 1) ≡ true → (vs : List ℕ) (c b : ℕ) (s : State) (m : Machine) → length vs < 32768
      → Spelled g true p.seg b vs → Waiting c b (length vs) s m
      → Follows g w (pos r - pos p) 1 w.reach (tally s) m (Told st r k d0 m0) NoExit (compared_text (at_address far kind.Byte c) vs s)
  text_follows far side code [] c b s m few spelled x = none_left c b 0 s m x refl
  text_follows far side code (v ∷ vs) c b s m few spelled x =
      let fits : Fits true (suc (length vs)) = few in
      let next = counted_onward true (length vs) c fits in
      let after = counted_onward true (length vs) b fits in
      let less = counted_nearer true (length vs) fits in
      let low : length vs < 32768 = omega (arith, few) in
      let rest : State → Outcome Code = λ u. compared_text (at_address far kind.Byte ((c + 1) % 65536)) vs u in
      spend_follows g w (2 + (pos r - pos p)) 0 (pos r - pos p) 1 w.reach s s.begun m (Told st r k d0 m0) NoExit
      (λ s1. then_go (read (at_address far kind.Byte c) s1) (λ bs s2. with_one bs s2 (λ x s3. told_apart x v s3 rest)))
      (runs c b (suc (length vs)) s m x) (inl refl)
      (λ n is. let t : State = record s { left = n } in
      let y = value_with_left st p 3 k d0 m0 (c ∷ b ∷ suc (length vs) ∷ []) s m n x in
      first_then far c b (suc (length vs)) t m (λ x u. told_apart x v u rest) side y (counted_some true (length vs) fits)
      (λ z first. pair_then c b (suc (length vs)) (byte_at c z) v t m rest y (counted_some true (length vs) fits) first
      (subst (λ (q : Bool). source_byte g.segments q b (at_left m) ≡ Ok v) (sym code) (spelled.0 (at_left m) (ap (λ (q : Spot). q.seg) x.at)))
      (subst (λ (z : ℕ). z < 65536) (sym next) (omega arith)) (subst (λ (z : ℕ). z < 65536) (sym after) (omega arith))
      (subst (λ (z : ℕ). z < 65536) (sym less) (omega (arith, low)))
      (λ m1 y1. text_follows far side code vs ((c + 1) % 65536) ((b + 1) % 65536) t m1 low spelled.2
      (subst (λ (z : ℕ). Waiting z ((b + 1) % 65536) (length vs) t m1) next
      (subst (λ (z : ℕ). Waiting (onward (suc (length vs)) c) z (length vs) t m1) after
      (subst (λ (z : ℕ). Waiting (onward (suc (length vs)) c) (onward (suc (length vs)) b) z t m1) less y1))))))
      (let word = w.word in omega (arith, word)) (omega arith)

  -- ---- data

  -- both bytes of the data are read
  both_then : (far : Bool) (c b a : ℕ) (s : State) (m : Machine) (X : State → Outcome Code) → st.split ≡ far → (number == 1) ≡ false → Waiting c b a s m
      → (a == 0) ≡ false → onward a c < 65536 → onward a b < 65536 → nearer a < 65536
      → ((n : Machine) → Waiting (onward a c) (onward a b) (nearer a) s n → Follows g w (pos r - pos p) 1 w.reach (tally s) n (Told st r k d0 m0) NoExit (X s))
      → Follows g w (2 + (pos r - pos p)) 0 w.reach (tally s) m (Told st r k d0 m0) NoExit
      (then_go (read (at_address far kind.Byte c) s) (λ bs u. then_go (read (at_address far kind.Byte b) u) (λ as' t.
      with_one bs t (λ x t1. with_one as' t1 (λ y t2. told_apart x y t2 X)))))
  unfolding row
  both_then far c b a s m X side stack x some sc sb sa rest =
      subst (λ (o : Outcome Code). Follows g w (2 + (pos r - pos p)) 0 w.reach (tally s) m (Told st r k d0 m0) NoExit o)
      (then_done (word_at far (c / 2) s) (λ v. byte_at c v ∷ []) (λ v u. u) (λ bs u. with_one bs u (λ x t. second x t))
      ∙ sym (then_done (word_at far (c / 2) s) (λ v. byte_at c v ∷ []) (λ v u. u) (λ bs u. then_go (read (at_address far kind.Byte b) u) (λ as' t.
      with_one bs t (λ x t1. with_one as' t1 (λ y t2. told_apart x y t2 X))))))
      (first_then far c b a s m second side x some (λ v first.
      subst (λ (o : Outcome Code). Follows g w (2 + (pos r - pos p)) 0 w.reach (tally s) m (Told st r k d0 m0) NoExit o)
      (sym (then_done (word_at far (b / 2) s) (λ u. byte_at b u ∷ []) (λ u t. t) (λ as' t. with_one as' t (λ y t1. told_apart (byte_at c v) y t1 X))))
      (see (λ (o : Outcome Code). Follows g w (2 + (pos r - pos p)) 0 w.reach (tally s) m (Told st r k d0 m0) NoExit o) far (b / 2) (k + 3) st s (at_left m)
      (λ u t. told_apart (byte_at c v) (byte_at b u) t X) x.matches (room_here c b a s m x)
      (λ u seen. pair_then c b a (byte_at c v) (byte_at b u) s m X x some first
      (subst (λ (q : Bool). source_byte g.segments q b (at_left m) ≡ Ok (byte_at b u)) (sym stack) (unit_read true far g.segments b u s (at_left m) split seen))
      sc sb sa rest)
      (stray_here g w (2 + (pos r - pos p)) 0 w.reach st (on p) (k + 3) s s.begun m (Told st r k d0 m0) NoExit leads.start x.at refl x.matches)
      (λ past. widen g w (pos r - pos p) 0 w.reach (2 + (pos r - pos p)) 0 w.reach (tally s) m (Told st r k d0 m0) NoExit (ends (trapped Bounds) s)
      (pair_traps c b a s m x (rows.compare_reads_no_second g.segments number (byte_at c v) Bounds (at_left m) (three c b a s m x) (some_count c b a s m x some)
      (first_there c b a (Ok (byte_at c v)) s m x first)
      (second_there c b a (Err Bounds) s m x
      (subst (λ (q : Bool). source_byte g.segments q b (at_left m) ≡ Err Bounds) (sym stack) (unit_not_read true far g.segments b (at_left m) split past)))))
      (omega arith) (omega arith) (omega arith)))))
    where
      split : m.split ≡ far
      split = ap (λ (u : Outer). u.split) x.matches.outer ∙ side

      second : ℕ → State → Outcome Code
      second x t = then_go (read (at_address far kind.Byte b) t) (λ as' t1. with_one as' t1 (λ y t2. told_apart x y t2 X))

  -- so many pairs, upwards or downwards
  pub data_follows : (far : Bool) → st.split ≡ far → (number == 1) ≡ false → (up : Bool) (j c b : ℕ) (s : State) (m : Machine) → Fits up j
      → Waiting c b (counted up j) s m
      → Follows g w (pos r - pos p) 1 w.reach (tally s) m (Told st r k d0 m0) NoExit (compared up j (at_address far kind.Byte c) (at_address far kind.Byte b) s)
  data_follows far side stack up zero c b s m fits x = none_left c b (counted up 0) s m x (counted_none up)
  data_follows far side stack up (suc j) c b s m fits x =
      let a = counted up (suc j) in
      let next = counted_onward up j c fits in
      let after = counted_onward up j b fits in
      let less = counted_nearer up j fits in
      let rest : State → Outcome Code = λ u. compared up j (neighbour up (at_address far kind.Byte c)) (neighbour up (at_address far kind.Byte b)) u in
      spend_follows g w (2 + (pos r - pos p)) 0 (pos r - pos p) 1 w.reach s s.begun m (Told st r k d0 m0) NoExit
      (λ s1. then_go (read (at_address far kind.Byte c) s1) (λ bs s2. then_go (read (at_address far kind.Byte b) s2) (λ as' s3.
      with_one bs s3 (λ x s4. with_one as' s4 (λ y s5. told_apart x y s5 rest)))))
      (runs c b a s m x) (inl refl)
      (λ n is. let t : State = record s { left = n } in
      both_then far c b a t m rest side stack (value_with_left st p 3 k d0 m0 (c ∷ b ∷ a ∷ []) s m n x) (counted_some up j fits)
      (subst (λ (z : ℕ). z < 65536) (sym next) (beside_small up c)) (subst (λ (z : ℕ). z < 65536) (sym after) (beside_small up b))
      (subst (λ (z : ℕ). z < 65536) (sym less) (counted_small up j (fits_less up j fits)))
      (λ m1 y.
      subst (λ (q : Located). Follows g w (pos r - pos p) 1 w.reach (tally t) m1 (Told st r k d0 m0) NoExit (compared up j q (neighbour up (at_address far kind.Byte b)) t))
      (sym (neighbour_at up far kind.Byte c))
      (subst (λ (q : Located). Follows g w (pos r - pos p) 1 w.reach (tally t) m1 (Told st r k d0 m0) NoExit (compared up j (at_address far kind.Byte (beside up c)) q t))
      (sym (neighbour_at up far kind.Byte b))
      (data_follows far side stack up j (beside up c) (beside up b) t m1 (fits_less up j fits)
      (subst (λ (z : ℕ). Waiting z (beside up b) (counted up j) t m1) next
      (subst (λ (z : ℕ). Waiting (onward a c) z (counted up j) t m1) after
      (subst (λ (z : ℕ). Waiting (onward a c) (onward a b) z t m1) less y)))))))
      (let word = w.word in omega (arith, word)) (omega arith)
