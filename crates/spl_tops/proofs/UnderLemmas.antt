-- The word at a place below the return word, brought below a value that waits: X takes the mode back over the value and what waits below it, the word
-- is loaded on top, and XCH, or CAB twice, turns it under the value. All else stays, the condition code too.
use Rattle.std.proofs.Common.{◌≡◌, ℕ, suc, ◌+◌, ◌-◌, ◌<◌, ◌≤◌, true, false, List, [], ◌∷◌, ◌++◌, length, take, refl, sym, ap, subst, ◌∙◌, arith}
use Rattle.std.specs.Prelude.{Option, None, slice_index}
use Rattle.std.proofs.lemmas.List.{append-nil, append_assoc, length-append}
use Rattle.spl_doubles.specs.hp_word.declared.arithmetic.Code.{Code}
use Rattle.spl_doubles.specs.hp_word.declared.endings.Trap.TheVariants.{Bounds}
use Rattle.spl_doubles.specs.hp_instr.declared.instruction.Instr.TheVariants as instr
use Rattle.spl_doubles.specs.hp_instr.declared.instruction.Mode.{Mode}
use Rattle.spl_doubles.specs.hp_instr.Instructions.{op}
use Rattle.spl_doubles.specs.hp_session.State.{Machine, Outcome as Row, word}
use Rattle.spl_doubles.specs.hp_session.Places.{base, moved, index, operand}
use Rattle.spl_doubles.specs.spl_operators.hp_memory_rows.MemoryRows.{memory_row}
use Rattle.spl_doubles.specs.hp_stack_rows.StackRows.{operated}
use Rattle.spl_doubles.specs.hp_word_rows.WordRows.{minus, immediate_row}
use Rattle.spl_doubles.specs.hp_flat.Step.{at_left}
use Rattle.spl_doubles.specs.hp_yields.Rows.{Places}
use Rattle.spl_doubles.proofs.hp_yields_proofs.MemoryYields as memory_rows
use Rattle.spl_doubles.proofs.hp_yields_proofs.StackYields as stack_rows
use Rattle.spl_doubles.proofs.hp_yields_proofs.WordYields as word_rows
use Rattle.spl_doubles.specs.spl_tree.declared.expressions.Kind.{Kind}
use Rattle.spl_doubles.specs.spl_tree.declared.expressions.Kind.TheVariants as kind
use Rattle.spl_doubles.specs.spl_meaning.Kinds.{width}
use Rattle.spl_doubles.specs.spl_meaning.Places.{below_return}
use Rattle.spl_doubles.specs.spl_meaning.References.{Setting, address_of, word_at}
use Rattle.spl_doubles.specs.spl_meaning.States.{Data, State, Outcome, done}
use Rattle.spl_doubles.specs.spl_code.Instructions.{XCH, CAB}
use Rattle.spl_doubles.specs.spl_code.Operands.{mode_of}
use Rattle.spl_doubles.specs.spl_code.Stores.{turned_under, cell_under}
use Rattle.spl_doubles.specs.spl_follow.Spots.{Spot, pos, on, landed, Ground}
use Rattle.spl_doubles.specs.spl_follow.Leading.{Leads}
use Rattle.spl_doubles.specs.spl_follow.Matching.{outer, Matches, Matched, Kept, Stand, Coded, IsValue, IsAnswer}
use Rattle.spl_doubles.specs.spl_follow.Following.{Rate, tally, Goes, Follows, NoExit}
use Rattle.spl_doubles.specs.spl_follow.Doing.{going, doing}
use Rattle.spl_doubles.specs.spl_follow.Standing.{Sites, Stands, IsClosed}
use Rattle.spl_doubles.specs.spl_follow.Yielding.{Yields}
use Rattle.spl_doubles.specs.spl_operators.spl_frames.Words.{AreWords}
use Rattle.spl_doubles.proofs.spl_follow_proofs.FollowLemmas.{then_follows, tail_follows, weaken, go_done}
use Rattle.spl_doubles.proofs.spl_follow_proofs.KeepLemmas.{kept_top, small_join}
use Rattle.spl_doubles.proofs.spl_follow_proofs.StackLemmas.{beneath, stand_kept, stand_join, stand_first, stand_last, stand_behind}
use Rattle.spl_doubles.proofs.spl_follow_proofs.StandLemmas.{stands_le}
use Rattle.spl_doubles.proofs.spl_follow_proofs.RowLemmas.{stray_here, row_trap, becomes_goes, becomes_matches, yields_matched}
use Rattle.spl_doubles.proofs.spl_values_proofs.GiveLemmas.{last_leads}
use Rattle.spl_doubles.specs.spl_operands.Operands.{Based, Finds, Seen}
use Rattle.spl_doubles.proofs.spl_operands_proofs.SeeLemmas.{see}
use Rattle.spl_doubles.proofs.spl_operands_proofs.OperandLemmas.{moved_address, moved_side}
use Rattle.spl_doubles.proofs.spl_operands_proofs.LoadLemmas.{seen_read, past_read}
use Rattle.spl_tops.proofs.SeenLemmas.{IsBelow, below_based, below_low}

-- ---- values and answers

-- a value is an answer behind which no condition code is known
pub value_answer : (st : Setting) (p : Spot) (n k : ℕ) (d0 : Data) (m0 : Machine) (vs : List ℕ) (s : State) (m : Machine) → IsValue st p n k d0 m0 vs s m
    → IsAnswer st p n k d0 m0 vs s m
value_answer st p n k d0 m0 vs s m x = record {
  at = x.at;
  wide = x.wide;
  matches = x.matches;
  stand = x.stand;
  small = x.small;
  kept = x.kept;
  coded = subst (λ (c : Option Code). Coded c m.regs.code) (sym x.silent) tt;
}

-- and such an answer is a value
pub answer_value : (st : Setting) (p : Spot) (n k : ℕ) (d0 : Data) (m0 : Machine) (vs : List ℕ) (s : State) (m : Machine) → IsAnswer st p n k d0 m0 vs s m
    → s.code ≡ None → IsValue st p n k d0 m0 vs s m
answer_value st p n k d0 m0 vs s m x silent = record {
  at = x.at;
  wide = x.wide;
  matches = x.matches;
  stand = x.stand;
  small = x.small;
  kept = x.kept;
  silent = silent;
}

-- ---- rows above what waits

-- the first of words are words
small_first : (us ws : List ℕ) → AreWords (us ++ ws) → AreWords us
small_first [] ws h = tt
small_first (u ∷ us) ws h = (h.0, small_first us ws h.1)

-- the last ones too
pub small_last : (us ws : List ℕ) → AreWords (us ++ ws) → AreWords ws
small_last [] ws h = h
small_last (u ∷ us) ws h = small_last us ws h.1

-- A row that puts words in place of the last ones, and keeps the condition code: the first ones stay.
pub over_is : (st : Setting) (p r : Spot) (k n o : ℕ) (us ws zs : List ℕ) (s : State) (m : Machine) (d0 : Data) (m0 : Machine) (row : Row)
    → IsAnswer st p n k d0 m0 (us ++ ws) s m → (y : Yields (length ws) zs m row) → y.left.regs.code ≡ m.regs.code → AreWords zs
    → length us + length zs ≡ o → IsAnswer st r o k d0 m0 (us ++ zs) s (landed r y.left)
over_is st p r k n o us ws zs s m d0 m0 row x y same small count =
    let many : length us + length ws ≡ n = sym (length-append us ws) ∙ x.wide in
    let split : k + n ≡ k + length us + length ws = omega (arith, many) in
    let matches : Matched st s.now m (k + length us + length ws) = subst (λ (i : ℕ). Matched st s.now m i) split x.matches in
    let top = kept_top (d0.top + k) d0 m0.stack s.now m.stack x.kept in
    let words = x.matches.words in
    let long : length m.stack ≡ d0.top + k + length us + length ws = omega (arith, words, many, top) in
    let xs : List ℕ = take (length m.stack - length ws) m.stack ++ zs in
    let more : k + length us + length zs ≡ k + o = omega (arith, count) in
    record {
      at = refl;
      wide = length-append us zs ∙ count;
      matches = becomes_matches st s.now (k + o) row xs (outer m) y
          (subst (λ (i : ℕ). Matches st s.now xs (outer m) i) more (yields_matched st s.now m (k + length us) (length ws) zs matches));
      stand = subst (λ (ys : List ℕ). Stand ys (d0.top + k) (us ++ zs)) (sym y.words)
          (stand_join xs us zs (d0.top + k)
          (stand_kept m.stack xs us (d0.top + k) (d0.top + k + length us) (omega arith)
          (λ i above below. beneath m.stack zs (length ws) (d0.top + k + length us) i long below) (stand_first m.stack us ws (d0.top + k) x.stand))
          (stand_behind m.stack zs (length ws) (d0.top + k + length us) long));
      small = small_join us zs (small_first us ws x.small) small;
      kept = subst (λ (ys : List ℕ). Kept (d0.top + k) d0 m0.stack s.now ys) (sym y.words) (record {
        footing = x.kept.footing;
        none = x.kept.none;
        word = λ a low h. beneath m.stack zs (length ws) (d0.top + k + length us) a long (omega (arith, low)) ∙ x.kept.word a low h;
      });
      coded = subst (λ (c : Code). Coded s.code c) (sym same) x.coded;
    }

-- through its piece
pub over_goes : (g : Ground) (w : Rate) (p r : Spot) (F : Machine → Machine) (st : Setting) (k n i : ℕ) (vs zs : List ℕ) (s : State) (m : Machine) (d0 : Data)
    (m0 : Machine) (row : Row) (y : Yields i zs m row) → Leads g (on p) r F → F m ≡ going r row m → IsAnswer st p n k d0 m0 vs s m
    → Goes g w (pos r - pos p) 0 w.reach (tally s) m (tally s) (landed r y.left)
over_goes g w p r F st k n i vs zs s m d0 m0 row y leads is x =
    becomes_goes g w (on p) r F st s.begun s m (k + n) row (take (length m.stack - i) m.stack ++ zs) (outer m) y leads is x.at refl x.matches refl

-- an answer with no words behind it
none_behind : (st : Setting) (p : Spot) (n k : ℕ) (d0 : Data) (m0 : Machine) (vs : List ℕ) (s : State) (m : Machine) → IsAnswer st p n k d0 m0 vs s m
    → IsAnswer st p n k d0 m0 (vs ++ []) s m
none_behind st p n k d0 m0 vs s m x = subst (λ (xs : List ℕ). IsAnswer st p n k d0 m0 xs s m) (sym (append-nil vs)) x

-- ---- X

-- an answer on top, and what X is
abbrev pub Indexed : Setting → Spot → ℕ → ℕ → Data → Machine → List ℕ → ℕ → State → Machine → Type 0
Indexed st p n k d0 m0 vs v s m = IsAnswer st p n k d0 m0 vs s m × (m.regs.x ≡ v)

-- A row that changes X alone, and keeps the condition code: all the rest stays.
pub x_set : (g : Ground) (w : Rate) (p r : Spot) (F : Machine → Machine) (st : Setting) (n k v : ℕ) (vs : List ℕ) (s : State) (m : Machine) (d0 : Data)
    (m0 : Machine) (row : Row) → Leads g (on p) r F → F m ≡ going r row m → Places 0 [] v (at_left m) row → IsAnswer st p n k d0 m0 vs s m
    → Follows g w (pos r - pos p) 0 w.reach (tally s) m (λ (e : Unit {0}) s1 m1. (s1 ≡ s) × Indexed st r n k d0 m0 vs v s1 m1) NoExit (done tt s)
x_set g w p r F st n k v vs s m d0 m0 row leads is y x =
    let left : Yields 0 [] m row = record { left = y.words.left; is = y.words.is; words = y.words.words; same = y.words.same } in
    let wide : length vs + 0 ≡ n = let many = x.wide in omega (arith, many) in (
      landed r left.left,
      over_goes g w p r F st k n 0 vs [] s m d0 m0 row left leads is x,
      (
        refl,
        (
          subst (λ (xs : List ℕ). IsAnswer st r n k d0 m0 xs s (landed r left.left)) (append-nil vs)
              (over_is st p r k n n vs [] [] s m d0 m0 row (none_behind st p n k d0 m0 vs s m x) left y.same_code tt wide),
          y.index,
        ),
      ),
    )

-- LDXN: X becomes minus a number.
pub x_back : (g : Ground) (w : Rate) (p r : Spot) (st : Setting) (n k c : ℕ) (vs : List ℕ) (s : State) (m : Machine) (d0 : Data) (m0 : Machine)
    → Leads g (on p) r (doing g.segments (instr.Immediate 9 c) r) → IsAnswer st p n k d0 m0 vs s m
    → Follows g w (pos r - pos p) 0 w.reach (tally s) m (λ (e : Unit {0}) s1 m1. (s1 ≡ s) × Indexed st r n k d0 m0 vs (minus c) s1 m1) NoExit (done tt s)
x_back g w p r st n k c vs s m d0 m0 leads x =
    x_set g w p r (doing g.segments (instr.Immediate 9 c) r) st n k (minus c) vs s m d0 m0 (immediate_row 9 c (at_left m)) leads refl
    (word_rows.minus_to_x c (at_left m)) x

-- where a mode names the word that is so many above an address, its operand with X is at the address
back_finds : (mode : Mode) (a n : ℕ) (m : Machine) → Based mode (a + n) m → a < 32000 → n ≤ 32000 → m.regs.x ≡ minus n
    → Finds kind.Integer mode false true false a m
unfolding operand
back_finds mode a n m b low few e = record {
  place = moved (index 1 true m) (base mode m);
  is = refl;
  at = let at = b.at in moved_address (index 1 true m) (base mode m) ∙ omega (arith, at, low, few, e);
  side = moved_side (index 1 true m) (base mode m) false m b.side;
}

-- ---- the word

-- LOAD: the word that is found is on top, the run strays, or both trap.
found_over : (g : Ground) (w : Rate) (p r : Spot) (st : Setting) (mode : Mode) (a k n : ℕ) (vs : List ℕ) (s : State) (m : Machine) (d0 : Data) (m0 : Machine)
    → Leads g (on p) r (doing g.segments (instr.Memory 4 true true false mode) r) → IsAnswer st p n k d0 m0 vs s m → s.now.top + (k + n) + 1 ≤ s.now.stack
    → Finds kind.Integer mode false true false a (at_left m)
    → Follows g w (pos r - pos p) 0 w.reach (tally s) m (λ c s1 m1. (s1 ≡ s) × IsAnswer st r (n + 1) k d0 m0 (vs ++ c ∷ []) s1 m1) NoExit (word_at false a s)
found_over g w p r st mode a k n vs s m d0 m0 leads x room f =
    subst (λ (o : Outcome ℕ). Follows g w (pos r - pos p) 0 w.reach (tally s) m Left NoExit o) (go_done (word_at false a s))
    (see (λ (o : Outcome ℕ). Follows g w (pos r - pos p) 0 w.reach (tally s) m Left NoExit o) false a (k + n) st s (at_left m) (λ v u. done v u) x.matches
    (omega (arith, room)) found
    (stray_here g w (pos r - pos p) 0 w.reach st (on p) (k + n) s s.begun m Left NoExit leads.start x.at refl x.matches)
    (λ past. row_trap g w w.reach (on p) r (doing g.segments (instr.Memory 4 true true false mode) r) st s.begun s m (k + n) row Bounds Left NoExit leads
    refl x.at refl x.matches
    (memory_rows.word_not_there mode false true f.place Bounds (at_left m) f.is (past_read f.place false a (at_left m) f.side f.at past)))) where
      Left : ℕ → State → Machine → Type 0
      Left c s1 m1 = (s1 ≡ s) × IsAnswer st r (n + 1) k d0 m0 (vs ++ c ∷ []) s1 m1

      row : Row
      row = memory_row 4 true mode false true (at_left m)

      found : (v : ℕ) → Seen false a v s (at_left m) → Follows g w (pos r - pos p) 0 w.reach (tally s) m Left NoExit (done v s)
      found v seen =
          let words = x.matches.words in
          let limit : m.stack_limit ≡ s.now.stack = ap (λ u. u.limit) x.matches.outer in
          let y : Places 0 (v ∷ []) m.regs.x (at_left m) row =
          memory_rows.word_loaded mode false true f.place v (at_left m) f.is (seen_read f.place false a v s (at_left m) f.side f.at seen)
          (omega (arith, words, room, limit)) in
          let left : Yields 0 (v ∷ []) m row = record { left = y.words.left; is = y.words.is; words = y.words.words; same = y.words.same } in
          let wide : length vs + 1 ≡ n + 1 = ap (λ (i : ℕ). i + 1) x.wide in (
            landed r left.left,
            over_goes g w p r (doing g.segments (instr.Memory 4 true true false mode) r) st k n 0 vs (v ∷ []) s m d0 m0 row left leads refl x,
            (refl, over_is st p r k n (n + 1) vs [] (v ∷ []) s m d0 m0 row (none_behind st p n k d0 m0 vs s m x) left y.same_code (seen.small, tt) wide),
          )

-- ---- under the value

-- XCH: the word is below the one before it.
exchanged : (g : Ground) (w : Rate) (p r : Spot) (st : Setting) (k n v c : ℕ) (us : List ℕ) (s : State) (m : Machine) (d0 : Data) (m0 : Machine)
    → Leads g (on p) r (doing g.segments (instr.Pair (op 0o32) (op 0)) r) → IsAnswer st p n k d0 m0 (us ++ v ∷ c ∷ []) s m
    → Follows g w (pos r - pos p) 0 w.reach (tally s) m (λ (e : Unit {0}) s1 m1. (s1 ≡ s) × IsAnswer st r n k d0 m0 (us ++ c ∷ v ∷ []) s1 m1) NoExit
    (done tt s)
exchanged g w p r st k n v c us s m d0 m0 leads x =
    let words = x.matches.words in
    let top = kept_top (d0.top + k) d0 m0.stack s.now m.stack x.kept in
    let wide : length us + 2 ≡ n = sym (length-append us (v ∷ c ∷ [])) ∙ x.wide in
    let stand = stand_last m.stack us (v ∷ c ∷ []) (d0.top + k) x.stand in
    let small = small_last us (v ∷ c ∷ []) x.small in
    let one : length m.stack - 1 - 1 ≡ d0.top + k + length us = omega (arith, words, top, wide) in
    let none : length m.stack - 1 - 0 ≡ suc (d0.top + k + length us) = omega (arith, words, top, wide) in
    let lower : word 1 m ≡ v = ap (λ (a : ℕ). slice_index m.stack a) one ∙ stand.0 in
    let upper : word 0 m ≡ c = ap (λ (a : ℕ). slice_index m.stack a) none ∙ stand.1.0 in
    let y = stack_rows.two_exchanged m (omega (arith, words, wide)) in
    let left : Yields 2 (c ∷ v ∷ []) m (operated 0o32 m) = record {
      left = y.words.left;
      is = y.words.is;
      words = y.words.words ∙ ap (λ (i : ℕ). take (length m.stack - 2) m.stack ++ i ∷ word 1 m ∷ []) upper
          ∙ ap (λ (i : ℕ). take (length m.stack - 2) m.stack ++ c ∷ i ∷ []) lower;
      same = y.words.same;
    } in (
      landed r left.left,
      over_goes g w p r (doing g.segments (instr.Pair (op 0o32) (op 0)) r) st k n 2 (us ++ v ∷ c ∷ []) (c ∷ v ∷ []) s m d0 m0 (operated 0o32 m) left
          leads refl x,
      (
        refl,
        over_is st p r k n n us (v ∷ c ∷ []) (c ∷ v ∷ []) s m d0 m0 (operated 0o32 m) x left y.same_code (small.1.0, (small.0, tt)) wide,
      ),
    )

-- CAB: the lowest of three is on top.
rotated : (g : Ground) (w : Rate) (p r : Spot) (st : Setting) (k n h l c : ℕ) (us : List ℕ) (s : State) (m : Machine) (d0 : Data) (m0 : Machine)
    → Leads g (on p) r (doing g.segments (instr.Pair (op 0o56) (op 0)) r) → IsAnswer st p n k d0 m0 (us ++ h ∷ l ∷ c ∷ []) s m
    → Follows g w (pos r - pos p) 0 w.reach (tally s) m (λ (e : Unit {0}) s1 m1. (s1 ≡ s) × IsAnswer st r n k d0 m0 (us ++ l ∷ c ∷ h ∷ []) s1 m1) NoExit
    (done tt s)
rotated g w p r st k n h l c us s m d0 m0 leads x =
    let words = x.matches.words in
    let top = kept_top (d0.top + k) d0 m0.stack s.now m.stack x.kept in
    let wide : length us + 3 ≡ n = sym (length-append us (h ∷ l ∷ c ∷ [])) ∙ x.wide in
    let stand = stand_last m.stack us (h ∷ l ∷ c ∷ []) (d0.top + k) x.stand in
    let small = small_last us (h ∷ l ∷ c ∷ []) x.small in
    let two : length m.stack - 1 - 2 ≡ d0.top + k + length us = omega (arith, words, top, wide) in
    let one : length m.stack - 1 - 1 ≡ suc (d0.top + k + length us) = omega (arith, words, top, wide) in
    let none : length m.stack - 1 - 0 ≡ suc (suc (d0.top + k + length us)) = omega (arith, words, top, wide) in
    let lowest : word 2 m ≡ h = ap (λ (a : ℕ). slice_index m.stack a) two ∙ stand.0 in
    let lower : word 1 m ≡ l = ap (λ (a : ℕ). slice_index m.stack a) one ∙ stand.1.0 in
    let upper : word 0 m ≡ c = ap (λ (a : ℕ). slice_index m.stack a) none ∙ stand.1.1.0 in
    let y = stack_rows.three_rotated m (omega (arith, words, wide)) in
    let left : Yields 3 (l ∷ c ∷ h ∷ []) m (operated 0o56 m) = record {
      left = y.words.left;
      is = y.words.is;
      words = y.words.words ∙ ap (λ (i : ℕ). take (length m.stack - 3) m.stack ++ i ∷ word 0 m ∷ word 2 m ∷ []) lower
          ∙ ap (λ (i : ℕ). take (length m.stack - 3) m.stack ++ l ∷ i ∷ word 2 m ∷ []) upper
          ∙ ap (λ (i : ℕ). take (length m.stack - 3) m.stack ++ l ∷ c ∷ i ∷ []) lowest;
      same = y.words.same;
    } in (
      landed r left.left,
      over_goes g w p r (doing g.segments (instr.Pair (op 0o56) (op 0)) r) st k n 3 (us ++ h ∷ l ∷ c ∷ []) (l ∷ c ∷ h ∷ []) s m d0 m0 (operated 0o56 m)
          left leads refl x,
      (
        refl,
        over_is st p r k n n us (h ∷ l ∷ c ∷ []) (l ∷ c ∷ h ∷ []) s m d0 m0 (operated 0o56 m) x left y.same_code
            (small.1.0, (small.1.1.0, (small.0, tt))) wide,
      ),
    )

-- under a word
word_turned : (g : Ground) (w : Rate) (sites : Sites) (p q : Spot) (st : Setting) (k n c : ℕ) (us vs : List ℕ) (s : State) (m : Machine) (d0 : Data)
    (m0 : Machine) → length vs ≡ 1 → Stands g sites (on p) (XCH ∷ []) q → IsAnswer st p n k d0 m0 (us ++ (vs ++ c ∷ [])) s m
    → Follows g w (pos q - pos p) 0 w.reach (tally s) m (λ (e : Unit {0}) s1 m1. (s1 ≡ s) × IsAnswer st q n k d0 m0 (us ++ c ∷ vs) s1 m1) NoExit (done tt s)
word_turned g w sites p q st k n c us (v ∷ []) s m d0 m0 wide stands x =
    exchanged g w p q st k n v c us s m d0 m0 (last_leads g sites (on p) (instr.Pair (op 0o32) (op 0)) q stands) x
word_turned g w sites p q st k n c us [] s m d0 m0 wide stands x = absurd (omega (arith, wide))
word_turned g w sites p q st k n c us (v ∷ v' ∷ vs) s m d0 m0 wide stands x = absurd (omega (arith, wide))

-- under a DOUBLE
double_turned : (g : Ground) (w : Rate) (sites : Sites) (p q : Spot) (st : Setting) (k n c : ℕ) (us vs : List ℕ) (s : State) (m : Machine) (d0 : Data)
    (m0 : Machine) → length vs ≡ 2 → Stands g sites (on p) (CAB ∷ CAB ∷ []) q → IsAnswer st p n k d0 m0 (us ++ (vs ++ c ∷ [])) s m
    → Follows g w (pos q - pos p) 0 w.reach (tally s) m (λ (e : Unit {0}) s1 m1. (s1 ≡ s) × IsAnswer st q n k d0 m0 (us ++ c ∷ vs) s1 m1) NoExit (done tt s)
double_turned g w sites p q st k n c us (h ∷ l ∷ []) s m d0 m0 wide stands x =
    let f = rotated g w p stands.0 st k n h l c us s m d0 m0 stands.1 x in
    let leads = last_leads g sites (on stands.0) (instr.Pair (op 0o56) (op 0)) q stands.2 in
    let first = stands.1.rise in
    let next = leads.rise in
    let many = w.enough in
    then_follows g w (pos stands.0 - pos p) 0 w.reach (pos q - pos stands.0) 0 w.reach (pos q - pos p) 0 w.reach (tally s) m (tally s) f.0
    (λ (e : Unit {0}) s1 m1. (s1 ≡ s) × IsAnswer st q n k d0 m0 (us ++ c ∷ h ∷ l ∷ []) s1 m1) NoExit (done tt s) f.1
    (rotated g w stands.0 q st k n l c h us s f.0 d0 m0 leads f.2.1)
    (omega (arith, first, next)) (omega (arith, many)) (omega (arith, many))
double_turned g w sites p q st k n c us [] s m d0 m0 wide stands x = absurd (omega (arith, wide))
double_turned g w sites p q st k n c us (h ∷ []) s m d0 m0 wide stands x = absurd (omega (arith, wide))
double_turned g w sites p q st k n c us (h ∷ l ∷ v ∷ vs) s m d0 m0 wide stands x = absurd (omega (arith, wide))

-- under a value of a kind
value_turned : (g : Ground) (w : Rate) (sites : Sites) (p q : Spot) (st : Setting) (t : Kind) (k n c : ℕ) (us vs : List ℕ) (s : State) (m : Machine) (d0 : Data)
    (m0 : Machine) → length vs ≡ width t → Stands g sites (on p) (turned_under t) q → IsAnswer st p n k d0 m0 (us ++ (vs ++ c ∷ [])) s m
    → Follows g w (pos q - pos p) 0 w.reach (tally s) m (λ (e : Unit {0}) s1 m1. (s1 ≡ s) × IsAnswer st q n k d0 m0 (us ++ c ∷ vs) s1 m1) NoExit (done tt s)
value_turned g w sites p q st kind.Integer k n c us vs s m d0 m0 wide stands x = word_turned g w sites p q st k n c us vs s m d0 m0 wide stands x
value_turned g w sites p q st kind.Logical k n c us vs s m d0 m0 wide stands x = word_turned g w sites p q st k n c us vs s m d0 m0 wide stands x
value_turned g w sites p q st kind.Byte k n c us vs s m d0 m0 wide stands x = word_turned g w sites p q st k n c us vs s m d0 m0 wide stands x
value_turned g w sites p q st kind.Double k n c us vs s m d0 m0 wide stands x = double_turned g w sites p q st k n c us vs s m d0 m0 wide stands x

-- ---- all of it

-- no statement is due behind these pieces
pub cell_under_closed : (t : Kind) (n : ℕ) (mode : Mode) → IsClosed (cell_under t n mode)
cell_under_closed kind.Integer n mode = refl
cell_under_closed kind.Logical n mode = refl
cell_under_closed kind.Byte n mode = refl
cell_under_closed kind.Double n mode = refl

-- LDXN, LOAD and the turn, in a state that stays
under_follows : (g : Ground) (w : Rate) (sites : Sites) (p q : Spot) (st : Setting) (t : Kind) (k n i : ℕ) (us vs : List ℕ) (s : State) (m : Machine) (d0 : Data)
    (m0 : Machine) → length vs ≡ width t → IsBelow st k i → s.now.top + (k + n) + 1 ≤ s.now.stack
    → Stands g sites (on p) (cell_under t n (mode_of k (below_return i))) q → IsAnswer st p n k d0 m0 (us ++ vs) s m
    → Follows g w (pos q - pos p) 0 w.reach (tally s) m (λ c s1 m1. (s1 ≡ s) × IsAnswer st q (n + 1) k d0 m0 (us ++ c ∷ vs) s1 m1) NoExit
    (word_at false (address_of (below_return i) s.now) s)
under_follows g w sites p q st t k n i us vs s m d0 m0 wide below room stands x =
    let r1 = stands.0 in
    let r2 = stands.2.0 in
    let f = x_back g w p r1 st n k n (us ++ vs) s m d0 m0 stands.1 x in
    let answer = f.2.1.0 in
    let a = s.now.inner - i in
    let least = x.matches.lies.least in
    let first = stands.1.rise in
    let second = stands.2.1.rise in
    let third = stands_le g sites (turned_under t) (on r2) q stands.2.2 in
    let many = w.enough in
    then_follows g w (pos r1 - pos p) 0 w.reach (pos q - pos r1) 0 w.reach (pos q - pos p) 0 w.reach (tally s) m (tally s) f.0 Left NoExit (word_at false a s) f.1
    (tail_follows g w (pos r2 - pos r1) 0 w.reach (pos q - pos r2) 0 w.reach (pos q - pos r1) 0 w.reach (tally s) f.0
    (λ c s1 m1. (s1 ≡ s) × IsAnswer st r2 (n + 1) k d0 m0 ((us ++ vs) ++ c ∷ []) s1 m1) Left NoExit (word_at false a s)
    (found_over g w r1 r2 st (mode_of k (below_return i)) a k n (us ++ vs) s f.0 d0 m0 stands.2.1 answer room
    (back_finds (mode_of k (below_return i)) a n (at_left f.0) (below_based st s.now k n i (at_left f.0) below answer.matches (omega (arith, room)))
    (below_low st s.now k (k + n) i (at_left f.0) below answer.matches) (omega (arith, room, least)) f.2.1.1))
    (λ c s1 m1 y fewer.
    let turn = value_turned g w sites r2 q st t k (n + 1) c us vs s1 m1 d0 m0 wide stands.2.2
    (subst (λ (xs : List ℕ). IsAnswer st r2 (n + 1) k d0 m0 xs s1 m1) (append_assoc us vs (c ∷ [])) y.1) in
    (turn.0, turn.1, (y.0, turn.2.1)))
    (omega (arith, second, third)) (omega arith) (omega (arith, many)) (omega (arith, many)))
    (omega (arith, first, second, third)) (omega (arith, many)) (omega (arith, many)) where
      Left : ℕ → State → Machine → Type 0
      Left c s1 m1 = (s1 ≡ s) × IsAnswer st q (n + 1) k d0 m0 (us ++ c ∷ vs) s1 m1

-- From an answer, with other words below it or none, to the same with the word between.
pub cell_under_follows : (g : Ground) (w : Rate) (sites : Sites) (p q : Spot) (st : Setting) (t : Kind) (k n i : ℕ) (us vs : List ℕ) (s : State) (m : Machine)
    (d0 : Data) (m0 : Machine) → length vs ≡ width t → IsBelow st k i → s.now.top + (k + n) + 1 ≤ s.now.stack
    → Stands g sites (on p) (cell_under t n (mode_of k (below_return i))) q → IsAnswer st p n k d0 m0 (us ++ vs) s m
    → Follows g w (pos q - pos p) 0 w.reach (tally s) m (λ c s1 m1. IsAnswer st q (n + 1) k d0 m0 (us ++ c ∷ vs) s1 m1) NoExit
    (word_at false (address_of (below_return i) s.now) s)
cell_under_follows g w sites p q st t k n i us vs s m d0 m0 wide below room stands x =
    weaken g w (pos q - pos p) 0 w.reach (tally s) m (λ c s1 m1. (s1 ≡ s) × IsAnswer st q (n + 1) k d0 m0 (us ++ c ∷ vs) s1 m1)
    (λ c s1 m1. IsAnswer st q (n + 1) k d0 m0 (us ++ c ∷ vs) s1 m1) NoExit NoExit (word_at false (address_of (below_return i) s.now) s)
    (under_follows g w sites p q st t k n i us vs s m d0 m0 wide below room stands x) (λ c s1 m1 y fewer. y.1) (λ e s1 m1 none. none)

-- From a value to a value.
pub value_under_follows : (g : Ground) (w : Rate) (sites : Sites) (p q : Spot) (st : Setting) (t : Kind) (k n i : ℕ) (us vs : List ℕ) (s : State) (m : Machine)
    (d0 : Data) (m0 : Machine) → length vs ≡ width t → IsBelow st k i → s.now.top + (k + n) + 1 ≤ s.now.stack
    → Stands g sites (on p) (cell_under t n (mode_of k (below_return i))) q → IsValue st p n k d0 m0 (us ++ vs) s m
    → Follows g w (pos q - pos p) 0 w.reach (tally s) m (λ c s1 m1. IsValue st q (n + 1) k d0 m0 (us ++ c ∷ vs) s1 m1) NoExit
    (word_at false (address_of (below_return i) s.now) s)
value_under_follows g w sites p q st t k n i us vs s m d0 m0 wide below room stands x =
    weaken g w (pos q - pos p) 0 w.reach (tally s) m (λ c s1 m1. (s1 ≡ s) × IsAnswer st q (n + 1) k d0 m0 (us ++ c ∷ vs) s1 m1)
    (λ c s1 m1. IsValue st q (n + 1) k d0 m0 (us ++ c ∷ vs) s1 m1) NoExit NoExit (word_at false (address_of (below_return i) s.now) s)
    (under_follows g w sites p q st t k n i us vs s m d0 m0 wide below room stands (value_answer st p n k d0 m0 (us ++ vs) s m x))
    (λ c s1 m1 y fewer. answer_value st q (n + 1) k d0 m0 (us ++ c ∷ vs) s1 m1 y.1 (ap (λ (u : State). u.code) y.0 ∙ x.silent)) (λ e s1 m1 none. none)
