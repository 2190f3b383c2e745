-- MVBW, and SCW and SCU: bytes one after the other, until one is not of the class, or is not passed by.
use Rattle.std.proofs.Common.{◌≡◌, ℕ, zero, suc, ◌+◌, ◌-◌, ◌/◌, ◌%◌, ◌<◌, ◌≤◌, Bool, true, false}
use Rattle.std.proofs.Common.{List, [], ◌∷◌, length, Ok, Err, refl, sym, ap, subst, ◌∙◌, arith, inl}
use Rattle.std.specs.Prelude.{Some, ◌==◌, ◌&&◌, ◌||◌, not, if◌then◌else◌, slice_set}
use Rattle.spl_moves.specs.hp_word.Bytes.{byte_at}
use Rattle.spl_moves.specs.hp_word.declared.endings.Trap.TheVariants.{Bounds}
use Rattle.spl_moves.specs.hp_instr.declared.instruction.Instr.TheVariants as i
use Rattle.spl_moves.specs.hp_session.State.{Machine, Outcome as Row, word, without, replaced, passed}
use Rattle.spl_moves.specs.hp_session.declared.places.Place.TheVariants.{Db}
use Rattle.spl_moves.specs.hp_session.Places.{byte_read, byte_written}
use Rattle.spl_moves.specs.hp_memory_rows.MoveRows as row
use Rattle.spl_moves.specs.hp_memory_rows.MoveRows.{source_byte, move_row, byte_passed, scan_ended}
use Rattle.spl_moves.proofs.hp_call_yields_proofs.MoveYields as rows
use Rattle.spl_moves.specs.hp_flat.Step.{at_left}
use Rattle.spl_moves.specs.hp_yields.Rows.{held, with_held}
use Rattle.spl_moves.specs.spl_tree.declared.expressions.Kind.{Kind}
use Rattle.spl_moves.specs.spl_meaning.Kinds.{width, is_byte}
use Rattle.spl_moves.specs.spl_meaning.Elements.{is_of_class, of_class, moved_while, is_passed, scanned, with_one}
use Rattle.spl_moves.specs.spl_meaning.References.{Setting, Located, placed_word, word_at, store_by}
use Rattle.spl_moves.specs.spl_meaning.States.{Data, State, Outcome, done, ends, trapped, then_go, stepping}
use Rattle.spl_moves.specs.spl_statement_code.Effects.{class_letters}
use Rattle.spl_moves.specs.spl_follow.Spots.{Spot, pos, on, Ground}
use Rattle.spl_moves.specs.spl_follow.Leading.{Leads}
use Rattle.spl_moves.specs.spl_follow.Matching.{IsValue}
use Rattle.spl_moves.specs.spl_follow.Following.{Rate, tally, Goes, Follows, NoExit}
use Rattle.spl_moves.specs.spl_follow.Doing.{moving, doing}
use Rattle.spl_moves.proofs.spl_follow_proofs.FollowLemmas.{then_follows, widen, spend_follows}
use Rattle.spl_moves.proofs.spl_follow_proofs.RowLemmas.{stray_here}
use Rattle.spl_moves.specs.spl_operands.Operands.{Seen}
use Rattle.spl_moves.proofs.spl_operands_proofs.SeeLemmas.{see}
use Rattle.spl_moves.proofs.StepLemmas.{placed_matched, placed_kept}
use Rattle.spl_moves.proofs.UnitLemmas.{unit_read, unit_not_read, unit_put, unit_not_put, unit_small, with_unit_small, with_unit, reads, stores}
use Rattle.spl_moves.proofs.CountLemmas.{at_address}
use Rattle.spl_moves.proofs.MoveLemmas.{then_done, placed_tally, placed_code, placed_left, held_place, held_printed, value_with_left}
use Rattle.spl_scans.proofs.PairLemmas.{lower_word, upper_word, two_there, pair_room, pair_runs, pair_goes, pair_ends, pair_traps}
use Rattle.spl_scans.proofs.ClassLemmas.{same_class, same_byte, byte_small}

-- ---- bytes of the data

byte_is_read : (far : Bool) (segments : List (List ℕ)) (a w : ℕ) (s : State) (m : Machine) → m.split ≡ far → Seen far (a / 2) w s m
    → byte_read (Db a) m ≡ Ok (byte_at a w)
unfolding source_byte
byte_is_read far segments a w s m side seen = unit_read true far segments a w s m side seen

byte_is_not_read : (far : Bool) (segments : List (List ℕ)) (a : ℕ) (m : Machine) → m.split ≡ far → length (held far m) ≤ a / 2
    → byte_read (Db a) m ≡ Err Bounds
unfolding source_byte
byte_is_not_read far segments a m side past = unit_not_read true far segments a m side past

-- ---- MVBW

module _ (g : Ground) (w : Rate) (st : Setting) (p r : Spot) (k : ℕ) (d0 : Data) (m0 : Machine) (class : ℕ)
    (leads : Leads g (on p) r (doing g.segments (i.Control 11 (class_letters class)) r)) (room : d0.top + (k + 2) ≤ d0.stack)
    (far : Bool) (t o : Kind) (one : is_byte (Some t) ≡ true) (narrow : width t ≡ 1) (other : is_byte (Some o) ≡ true) (slim : width o ≡ 1)
    (side : st.split ≡ far) where
  -- the addresses of target and source on k words
  abbrev Both : ℕ → ℕ → State → Machine → Type 0
  Both c b s m = IsValue st p 2 k d0 m0 (c ∷ b ∷ []) s m

  abbrev Ends : Located → State → Machine → Type 0
  Ends end s m = IsValue st r 1 k d0 m0 (end.address ∷ []) s m

  -- what stands on the words that wait
  lower : (c b : ℕ) (s : State) (m : Machine) → Both c b s m → word 1 m ≡ c
  lower c b s m x = lower_word g w st p r k d0 m0 11 (class_letters class) leads (λ m. refl) room c b s m x

  upper : (c b : ℕ) (s : State) (m : Machine) → Both c b s m → word 0 m ≡ b
  upper c b s m x = upper_word g w st p r k d0 m0 11 (class_letters class) leads (λ m. refl) room c b s m x

  enough : (c b : ℕ) (s : State) (m : Machine) → Both c b s m → 2 ≤ length m.stack
  enough c b s m x = two_there g w st p r k d0 m0 11 (class_letters class) leads (λ m. refl) room c b s m x

  free : (c b : ℕ) (s : State) (m : Machine) → Both c b s m → s.now.top + (k + 2) ≤ s.now.stack
  free c b s m x = pair_room g w st p r k d0 m0 11 (class_letters class) leads (λ m. refl) room c b s m x

  split : (c b : ℕ) (s : State) (m : Machine) → Both c b s m → m.split ≡ far
  split c b s m x = ap (λ z. z.split) x.matches.outer ∙ side

  -- the byte that is read at the source's address
  reads_byte : (c b v : ℕ) (s : State) (m : Machine) → Both c b s m → byte_read (Db b) (at_left m) ≡ Ok v → byte_read (Db (word 0 m)) (at_left m) ≡ Ok v
  reads_byte c b v s m x is = subst (λ (a : ℕ). byte_read (Db a) (at_left m) ≡ Ok v) (sym (upper c b s m x)) is

  -- A byte of the class is stored, and the next one is the move's.
  class_store : {A : Type 0} (c b v : ℕ) (s : State) (m : Machine) (P : A → State → Machine → Type 0) (X : State → Outcome A) → Both c b s m
      → byte_read (Db b) (at_left m) ≡ Ok v → v < 256 → is_of_class class v ≡ true
      → ((u : State) (n : Machine) → Both ((c + 1) % 65536) ((b + 1) % 65536) u n → u.left ≡ s.left → Follows g w (pos r - pos p) 1 w.reach
      (tally u) n P NoExit (X u))
      → Follows g w (2 + (pos r - pos p)) 0 w.reach (tally s) m P NoExit (then_go (store_by t far c (of_class class v ∷ []) s) (λ _ u. X u))
  class_store {A = A} c b v s m P X x is small same rest =
      subst (λ (z : Outcome A). Follows g w (2 + (pos r - pos p)) 0 w.reach (tally s) m P NoExit z) (sym by_word)
      (see (λ (z : Outcome A). Follows g w (2 + (pos r - pos p)) 0 w.reach (tally s) m P NoExit z) far (c / 2) (k + 2) st s (at_left m)
      (λ old u. X (placed_word far (c / 2) (with_unit true c a old) u)) x.matches (free c b s m x)
      (λ old seen.
      let f = goes old seen in
      then_follows g w 2 0 w.reach (pos r - pos p) 1 w.reach (2 + (pos r - pos p)) 0 w.reach (tally s) m (tally (left old)) f.0 P NoExit
      (X (left old)) f.1 (rest (left old) f.0 f.2 (placed_left far (c / 2) (with_unit true c a old) s)) (omega arith) (omega (arith, many))
      (omega (arith, many)))
      (stray_here g w (2 + (pos r - pos p)) 0 w.reach st (on p) (k + 2) s s.begun m P NoExit leads.start x.at refl x.matches)
      (λ past. widen g w (pos r - pos p) 0 w.reach (2 + (pos r - pos p)) 0 w.reach (tally s) m P NoExit (ends (trapped Bounds) s)
      (pair_traps g w st p r k d0 m0 11 (class_letters class) leads (λ m. refl) room c b s m P x
      (rows.while_stores_none g.segments (class_letters class) v Bounds (at_left m) (enough c b s m x) (reads_byte c b v s m x is) (same_class class v ∙ same)
      (written (λ (z : Row). z ≡ Err Bounds) (unit_not_put true far c a (at_left m) (split c b s m x) past))))
      (omega arith) (omega arith) (omega arith)))
    where
      a : ℕ
      a = of_class class v

      many : 8 ≤ w.reach
      many = w.enough

      left : ℕ → State
      left old = placed_word far (c / 2) (with_unit true c a old) s

      written : (Q : Row → Type 0) → Q (byte_written (Db c) a (at_left m))
          → Q (byte_written (Db (word 1 m)) (row.as_moved (class_letters class) v) (at_left m))
      written Q q =
          subst (λ (z : ℕ). Q (byte_written (Db z) (row.as_moved (class_letters class) v) (at_left m))) (sym (lower c b s m x))
          (subst (λ (z : ℕ). Q (byte_written (Db c) z (at_left m))) (sym (same_byte class v)) q)

      by_word : then_go (store_by t far c (a ∷ []) s) (λ _ u. X u) ≡ then_go (word_at far (c / 2) s)
          (λ old u. X (placed_word far (c / 2) (with_unit true c a old) u))
      by_word =
          ap (λ (z : Outcome (Unit {0})). then_go z (λ _ u. X u)) (stores true t far c a s one narrow)
          ∙ then_done (word_at far (c / 2) s) (λ old. tt) (λ old u. placed_word far (c / 2) (with_unit true c a old) u) (λ _ u. X u)

      goes : (old : ℕ) → Seen far (c / 2) old s (at_left m)
          → (n : Machine) × Goes g w 2 0 w.reach (tally s) m (tally (left old)) n × Both ((c + 1) % 65536) ((b + 1) % 65536) (left old) n
      goes old seen =
          let ys = slice_set (held far (at_left m)) (c / 2) (with_unit true c a old) in
          let e : Machine = with_held far ys (at_left m) in
          pair_goes g w st p r k d0 m0 11 (class_letters class) leads (λ m. refl) room c b ((c + 1) % 65536) ((b + 1) % 65536) s (left old) m e x
          (rows.while_goes g.segments (class_letters class) v e (at_left m) (enough c b s m x) (reads_byte c b v s m x is) (same_class class v ∙ same)
          (written (λ (z : Row). z ≡ Ok e) (unit_put true far c a old s (at_left m) (split c b s m x) (byte_small class v small) seen))
          ∙ ap (λ (z : ℕ). let y : Row = Ok (replaced 2 ((z + 1) % 65536 ∷ (word 0 m + 1) % 65536 ∷ []) e) in y) (lower c b s m x)
          ∙ ap (λ (z : ℕ). let y : Row = Ok (replaced 2 ((c + 1) % 65536 ∷ (z + 1) % 65536 ∷ []) e) in y) (upper c b s m x))
          (held_place far ys (at_left m)) (held_printed far ys (at_left m)) (placed_tally far (c / 2) (with_unit true c a old) s)
          (placed_matched far st s (at_left m) (k + 2) (c / 2) (with_unit true c a old) old x.matches seen
          (with_unit_small true c a old (byte_small class v small) seen.small))
          (placed_kept far (d0.top + k) d0 m0.stack s (at_left m) (c / 2) (with_unit true c a old) old x.kept seen)
          (placed_code far (c / 2) (with_unit true c a old) s ∙ x.silent) (omega arith) (omega arith)

  -- a byte that is not of the class ends the move
  class_ends : (c b v : ℕ) (s : State) (m : Machine) → Both c b s m → byte_read (Db b) (at_left m) ≡ Ok v → is_of_class class v ≡ false
      → (n : Machine) × Goes g w (pos r - pos p) 0 w.reach (tally s) m (tally s) n × IsValue st r 1 k d0 m0 (c ∷ []) s n
  class_ends c b v s m x is other =
      pair_ends g w st p r k d0 m0 11 (class_letters class) leads (λ m. refl) room c b s m (passed (without 1 (at_left m))) x
      (rows.while_ends g.segments (class_letters class) v (at_left m) (enough c b s m x) (reads_byte c b v s m x is)
      (same_class class v ∙ other)) refl refl refl

  pub while_follows : (fuel c b : ℕ) (s : State) (m : Machine) → s.left < fuel → Both c b s m
      → Follows g w (pos r - pos p) 1 w.reach (tally s) m Ends NoExit (moved_while fuel class (at_address far t c) (at_address far o b) s)
  while_follows zero c b s m few x = absurd (omega (arith, few))
  while_follows (suc fuel) c b s m few x =
      subst (λ (z : Outcome Located). Follows g w (pos r - pos p) 1 w.reach (tally s) m Ends NoExit z) (sym by_word)
      (see (λ (z : Outcome Located). Follows g w (pos r - pos p) 1 w.reach (tally s) m Ends NoExit z) far (b / 2) (k + 2) st s (at_left m)
      (λ v u. next (byte_at b v) u) x.matches (free c b s m x)
      (λ v seen. by (byte_at b v) (byte_is_read far g.segments b v s (at_left m) (split c b s m x) seen) (unit_small true b v seen.small)
      (λ u n y less. while_follows fuel ((c + 1) % 65536) ((b + 1) % 65536) u n less y) (is_of_class class (byte_at b v)) refl)
      (stray_here g w (pos r - pos p) 1 w.reach st (on p) (k + 2) s s.begun m Ends NoExit leads.start x.at refl x.matches)
      (λ past. widen g w (pos r - pos p) 0 w.reach (pos r - pos p) 1 w.reach (tally s) m Ends NoExit (ends (trapped Bounds) s)
      (pair_traps g w st p r k d0 m0 11 (class_letters class) leads (λ m. refl) room c b s m Ends x
      (rows.while_reads_none g.segments (class_letters class) Bounds (at_left m) (enough c b s m x)
      (subst (λ (a : ℕ). byte_read (Db a) (at_left m) ≡ Err Bounds) (sym (upper c b s m x))
      (byte_is_not_read far g.segments b (at_left m) (split c b s m x) past))))
      (omega arith) (omega arith) (omega arith)))
    where
      rest : State → Outcome Located
      rest u = moved_while fuel class (at_address far t ((c + 1) % 65536)) (at_address far o ((b + 1) % 65536)) u

      next : ℕ → State → Outcome Located
      next v u =
          if is_of_class class v
          then stepping u (λ z. then_go (store_by t far c (of_class class v ∷ []) z) (λ _ y. rest y))
          else done (at_address far t c) u

      by_word : moved_while (suc fuel) class (at_address far t c) (at_address far o b) s
          ≡ then_go (word_at far (b / 2) s) (λ v u. next (byte_at b v) u)
      by_word =
          ap (λ (z : Outcome (List ℕ)). then_go z (λ vs u. with_one vs u (λ v y. next v y))) (reads true o far b s other slim)
          ∙ then_done (word_at far (b / 2) s) (λ v. byte_at b v ∷ []) (λ v u. u) (λ vs u. with_one vs u (λ v y. next v y))

      by : (v : ℕ) → byte_read (Db b) (at_left m) ≡ Ok v → v < 256
          → ((u : State) (n : Machine) → Both ((c + 1) % 65536) ((b + 1) % 65536) u n → u.left < fuel → Follows g w (pos r - pos p) 1 w.reach
          (tally u) n Ends NoExit (rest u))
          → (q : Bool) → is_of_class class v ≡ q
          → Follows g w (pos r - pos p) 1 w.reach (tally s) m Ends NoExit
          (if q then stepping s (λ z. then_go (store_by t far c (of_class class v ∷ []) z) (λ _ y. rest y)) else done (at_address far t c) s)
      by v is small goes true same =
          spend_follows g w (2 + (pos r - pos p)) 0 (pos r - pos p) 1 w.reach s s.begun m Ends NoExit
          (λ z. then_go (store_by t far c (of_class class v ∷ []) z) (λ _ y. rest y))
          (pair_runs g w st p r k d0 m0 11 (class_letters class) leads (λ m. refl) room c b s m x) (inl refl)
          (λ n e. class_store c b v (record s { left = n }) m Ends rest (value_with_left st p 2 k d0 m0 (c ∷ b ∷ []) s m n x) is small same
          (λ u m1 y l. goes u m1 y (omega (arith, few, e, l))))
          (let word = w.word in omega (arith, word)) (omega arith)
      by v is small goes false other =
          widen g w (pos r - pos p) 0 w.reach (pos r - pos p) 1 w.reach (tally s) m Ends NoExit (done (at_address far t c) s)
          (class_ends c b v s m x is other)
          (omega arith) (omega arith) (omega arith)

-- ---- SCW and SCU

-- the code of a scan
abbrev pub scan_code : Bool → ℕ
scan_code true = 13
scan_code false = 12

neither : (x y : Bool) → (not x && not y) ≡ true → (y || x) ≡ false
neither false false e = refl
neither true y e = cc
neither false true e = cc

either_is : (x y : Bool) → (not x && not y) ≡ false → (y || x) ≡ true
either_is true true e = refl
either_is true false e = refl
either_is false true e = refl
either_is false false e = cc

-- a byte that is passed by
scan_goes : (until : Bool) (segments : List (List ℕ)) (v a : ℕ) (m : Machine) → 2 ≤ length m.stack → byte_read (Db (word 1 m)) m ≡ Ok v → word 0 m ≡ a
    → is_passed until a v ≡ true → move_row segments (scan_code until) 0 m ≡ Ok (byte_passed m)
scan_goes true segments v a m enough is top same =
    rows.scan_until_goes segments 0 v m enough is
    (neither (v == word 0 m % 256) (v == word 0 m / 256) (subst (λ (z : ℕ). is_passed true z v ≡ true) (sym top) same))
scan_goes false segments v a m enough is top same =
    rows.scan_while_goes segments 0 v m enough is (subst (λ (z : ℕ). is_passed false z v ≡ true) (sym top) same)

-- and one that is not
scan_stops : (until : Bool) (segments : List (List ℕ)) (v a : ℕ) (m : Machine) → 2 ≤ length m.stack → byte_read (Db (word 1 m)) m ≡ Ok v → word 0 m ≡ a
    → is_passed until a v ≡ false → move_row segments (scan_code until) 0 m ≡ Ok (scan_ended v m)
scan_stops true segments v a m enough is top other =
    rows.scan_until_ends segments 0 v m enough is
    (either_is (v == word 0 m % 256) (v == word 0 m / 256) (subst (λ (z : ℕ). is_passed true z v ≡ false) (sym top) other))
scan_stops false segments v a m enough is top other =
    rows.scan_while_ends segments 0 v m enough is (subst (λ (z : ℕ). is_passed false z v ≡ false) (sym top) other)

scan_reads_none : (until : Bool) (segments : List (List ℕ)) (m : Machine) → 2 ≤ length m.stack → byte_read (Db (word 1 m)) m ≡ Err Bounds
    → move_row segments (scan_code until) 0 m ≡ Err Bounds
scan_reads_none true segments m enough is = rows.scan_until_reads_none segments 0 Bounds m enough is
scan_reads_none false segments m enough is = rows.scan_while_reads_none segments 0 Bounds m enough is

module _ (g : Ground) (w : Rate) (st : Setting) (p r : Spot) (k : ℕ) (d0 : Data) (m0 : Machine) (until : Bool)
    (leads : Leads g (on p) r (doing g.segments (i.Control (scan_code until) 0) r)) (room : d0.top + (k + 2) ≤ d0.stack)
    (far : Bool) (t : Kind) (one : is_byte (Some t) ≡ true) (narrow : width t ≡ 1) (side : st.split ≡ far) where
  -- the address and the test word on k words
  abbrev Tests : ℕ → ℕ → State → Machine → Type 0
  Tests b a s m = IsValue st p 2 k d0 m0 (b ∷ a ∷ []) s m

  abbrev Stops : Located → State → Machine → Type 0
  Stops end s m = IsValue st r 1 k d0 m0 (end.address ∷ []) s m

  scan_does : (m : Machine) → doing g.segments (i.Control (scan_code until) 0) r m ≡ moving r (move_row g.segments (scan_code until) 0 (at_left m)) m
  scan_does m = by until where
    by : (b : Bool) → doing g.segments (i.Control (scan_code b) 0) r m ≡ moving r (move_row g.segments (scan_code b) 0 (at_left m)) m
    by true = refl
    by false = refl

  -- a byte is passed by
  byte_goes : (b a v : ℕ) (s : State) (m : Machine) → Tests b a s m → byte_read (Db b) (at_left m) ≡ Ok v → is_passed until a v ≡ true
      → (n : Machine) × Goes g w 2 0 w.reach (tally s) m (tally s) n × Tests ((b + 1) % 65536) a s n
  byte_goes b a v s m x is same =
      let low = lower_word g w st p r k d0 m0 (scan_code until) 0 leads scan_does room b a s m x in
      let top = upper_word g w st p r k d0 m0 (scan_code until) 0 leads scan_does room b a s m x in
      pair_goes g w st p r k d0 m0 (scan_code until) 0 leads scan_does room b a ((b + 1) % 65536) a s s m (at_left m) x
      (scan_goes until g.segments v a (at_left m) (two_there g w st p r k d0 m0 (scan_code until) 0 leads scan_does room b a s m x)
      (subst (λ (z : ℕ). byte_read (Db z) (at_left m) ≡ Ok v) (sym low) is) top same
      ∙ ap (λ (z : ℕ). let y : Row = Ok (replaced 2 ((z + 1) % 65536 ∷ word 0 m ∷ []) (at_left m)) in y) low
      ∙ ap (λ (z : ℕ). let y : Row = Ok (replaced 2 ((b + 1) % 65536 ∷ z ∷ []) (at_left m)) in y) top)
      refl refl refl x.matches x.kept x.silent (omega arith) x.small.1.0

  -- at another the scan stops
  byte_stops : (b a v : ℕ) (s : State) (m : Machine) → Tests b a s m → byte_read (Db b) (at_left m) ≡ Ok v → is_passed until a v ≡ false
      → (n : Machine) × Goes g w (pos r - pos p) 0 w.reach (tally s) m (tally s) n × IsValue st r 1 k d0 m0 (b ∷ []) s n
  unfolding scan_ended
  byte_stops b a v s m x is other =
      let low = lower_word g w st p r k d0 m0 (scan_code until) 0 leads scan_does room b a s m x in
      let top = upper_word g w st p r k d0 m0 (scan_code until) 0 leads scan_does room b a s m x in
      pair_ends g w st p r k d0 m0 (scan_code until) 0 leads scan_does room b a s m (scan_ended v (at_left m)) x
      (scan_stops until g.segments v a (at_left m) (two_there g w st p r k d0 m0 (scan_code until) 0 leads scan_does room b a s m x)
      (subst (λ (z : ℕ). byte_read (Db z) (at_left m) ≡ Ok v) (sym low) is) top other) refl refl refl

  pub scan_follows : (fuel b a : ℕ) (s : State) (m : Machine) → s.left < fuel → Tests b a s m
      → Follows g w (pos r - pos p) 1 w.reach (tally s) m Stops NoExit (scanned fuel until a (at_address far t b) s)
  scan_follows zero b a s m few x = absurd (omega (arith, few))
  scan_follows (suc fuel) b a s m few x =
      subst (λ (z : Outcome Located). Follows g w (pos r - pos p) 1 w.reach (tally s) m Stops NoExit z) (sym by_word)
      (see (λ (z : Outcome Located). Follows g w (pos r - pos p) 1 w.reach (tally s) m Stops NoExit z) far (b / 2) (k + 2) st s (at_left m)
      (λ v u. next (byte_at b v) u) x.matches (pair_room g w st p r k d0 m0 (scan_code until) 0 leads scan_does room b a s m x)
      (λ v seen. by (byte_at b v) (byte_is_read far g.segments b v s (at_left m) split seen)
      (λ u n y less. scan_follows fuel ((b + 1) % 65536) a u n less y) (is_passed until a (byte_at b v)) refl)
      (stray_here g w (pos r - pos p) 1 w.reach st (on p) (k + 2) s s.begun m Stops NoExit leads.start x.at refl x.matches)
      (λ past. widen g w (pos r - pos p) 0 w.reach (pos r - pos p) 1 w.reach (tally s) m Stops NoExit (ends (trapped Bounds) s)
      (pair_traps g w st p r k d0 m0 (scan_code until) 0 leads scan_does room b a s m Stops x
      (scan_reads_none until g.segments (at_left m) (two_there g w st p r k d0 m0 (scan_code until) 0 leads scan_does room b a s m x)
      (subst (λ (z : ℕ). byte_read (Db z) (at_left m) ≡ Err Bounds) (sym (lower_word g w st p r k d0 m0 (scan_code until) 0 leads scan_does room b a s m x))
      (byte_is_not_read far g.segments b (at_left m) split past))))
      (omega arith) (omega arith) (omega arith)))
    where
      split : m.split ≡ far
      split = ap (λ z. z.split) x.matches.outer ∙ side

      rest : State → Outcome Located
      rest u = scanned fuel until a (at_address far t ((b + 1) % 65536)) u

      next : ℕ → State → Outcome Located
      next v u = if is_passed until a v then stepping u (λ z. rest z) else done (at_address far t b) u

      by_word : scanned (suc fuel) until a (at_address far t b) s ≡ then_go (word_at far (b / 2) s) (λ v u. next (byte_at b v) u)
      by_word =
          ap (λ (z : Outcome (List ℕ)). then_go z (λ vs u. with_one vs u (λ v y. next v y))) (reads true t far b s one narrow)
          ∙ then_done (word_at far (b / 2) s) (λ v. byte_at b v ∷ []) (λ v u. u) (λ vs u. with_one vs u (λ v y. next v y))

      by : (v : ℕ) → byte_read (Db b) (at_left m) ≡ Ok v
          → ((u : State) (n : Machine) → Tests ((b + 1) % 65536) a u n → u.left < fuel → Follows g w (pos r - pos p) 1 w.reach (tally u) n Stops NoExit
          (rest u))
          → (q : Bool) → is_passed until a v ≡ q
          → Follows g w (pos r - pos p) 1 w.reach (tally s) m Stops NoExit (if q then stepping s (λ z. rest z) else done (at_address far t b) s)
      by v is goes true same =
          spend_follows g w (2 + (pos r - pos p)) 0 (pos r - pos p) 1 w.reach s s.begun m Stops NoExit (λ z. rest z)
          (pair_runs g w st p r k d0 m0 (scan_code until) 0 leads scan_does room b a s m x) (inl refl)
          (λ n e.
          let many = w.enough in
          let u : State = record s { left = n } in
          let f = byte_goes b a v u m (value_with_left st p 2 k d0 m0 (b ∷ a ∷ []) s m n x) is same in
          then_follows g w 2 0 w.reach (pos r - pos p) 1 w.reach (2 + (pos r - pos p)) 0 w.reach (tally u) m (tally u) f.0 Stops NoExit
          (rest u) f.1 (goes u f.0 f.2 (omega (arith, few, e))) (omega arith) (omega (arith, many)) (omega (arith, many)))
          (let word = w.word in omega (arith, word)) (omega arith)
      by v is goes false other =
          widen g w (pos r - pos p) 0 w.reach (pos r - pos p) 1 w.reach (tally s) m Stops NoExit (done (at_address far t b) s)
          (byte_stops b a v s m x is other)
          (omega arith) (omega arith) (omega arith)
