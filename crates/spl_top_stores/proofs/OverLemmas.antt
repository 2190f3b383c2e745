-- What stands behind a word that was brought below a value: the index, where one waits below both, taken to X; the store through the word; and what
-- deletes it. Where a condition code is known it stays.
use Rattle.std.proofs.Common.{◌≡◌, ℕ, suc, ◌+◌, ◌-◌, ◌%◌, ◌<◌, ◌≤◌, Bool, true, false, List, [], ◌∷◌, ◌++◌, length, refl, sym, ap, subst, ◌∙◌, arith}
use Rattle.std.specs.Prelude.{Ok, Result, slice_index}
use Rattle.std.proofs.lemmas.List.{length-append}
use Rattle.spl_tops.specs.spl_operators.hp_word.declared.arithmetic.Code.{Code}
use Rattle.spl_tops.specs.spl_operators.hp_word.declared.endings.Trap.{Trap}
use Rattle.spl_tops.specs.hp_instr.declared.instruction.Instr.TheVariants as instr
use Rattle.spl_tops.specs.hp_instr.declared.instruction.Mode.TheVariants.{SMinus}
use Rattle.spl_tops.specs.hp_instr.Instructions.{op}
use Rattle.spl_tops.specs.hp_session.State.{Machine}
use Rattle.spl_tops.specs.hp_session.Places.{index}
use Rattle.spl_tops.specs.spl_operators.hp_memory_rows.MemoryRows.{memory_row}
use Rattle.spl_tops.specs.spl_operators.hp_stack_rows.StackRows.{operated}
use Rattle.spl_tops.specs.hp_flat.Step.{at_left}
use Rattle.spl_tops.specs.hp_yields.Rows.{Places}
use Rattle.spl_tops.proofs.hp_yields_proofs.MemoryYields as memory_rows
use Rattle.spl_tops.proofs.hp_yields_proofs.StackYields as stack_rows
use Rattle.spl_tops.specs.spl_tree.declared.expressions.Kind.{Kind}
use Rattle.spl_tops.specs.spl_tree.declared.expressions.Kind.TheVariants as kind
use Rattle.spl_tops.specs.spl_meaning.Kinds.{width}
use Rattle.spl_tops.specs.spl_meaning.Operations.{kept}
use Rattle.spl_tops.specs.spl_meaning.References.{Setting, element_address, element_located, store}
use Rattle.spl_tops.specs.spl_meaning.States.{Data, State, done}
use Rattle.spl_tops.specs.spl_follow.Spots.{Spot, pos, on, Ground}
use Rattle.spl_tops.specs.spl_follow.Leading.{Leads}
use Rattle.spl_tops.specs.spl_follow.Matching.{Outer, Matched, Kept, Stand, Coded, IsAnswer, Arrives}
use Rattle.spl_tops.specs.spl_follow.Following.{Rate, tally, Follows, NoExit}
use Rattle.spl_tops.specs.spl_follow.Doing.{doing}
use Rattle.spl_tops.specs.spl_follow.Parts.{Completes}
use Rattle.spl_tops.proofs.spl_follow_proofs.KeepLemmas.{kept_same, kept_on, kept_lower, kept_top}
use Rattle.spl_tops.proofs.spl_follow_proofs.StackLemmas.{stand_last}
use Rattle.spl_tops.proofs.spl_follow_proofs.RowLemmas.{row_drops}
use Rattle.spl_tops.specs.spl_operands.Operands.{counted_by, Finds, Refers, Storing}
use Rattle.spl_tops.proofs.spl_operands_proofs.OperandLemmas.{top_based, direct, through}
use Rattle.spl_tops.proofs.spl_operands_proofs.StoreLemmas.{storing, store_follows}
use Rattle.spl_tops.proofs.spl_doubles_proofs.StoreLemmas.{StoringDouble}
use Rattle.spl_tops.proofs.spl_doubles_proofs.CellLemmas as double
use Rattle.spl_tops.proofs.UnderLemmas.{Indexed, small_last, x_set}

-- ---- the words

-- how many words wait, by the word, the value above it and what waits below it
over_count : (st : Setting) (p : Spot) (k n c : ℕ) (us vs : List ℕ) (d0 : Data) (m0 : Machine) (s : State) (m : Machine)
    → IsAnswer st p n k d0 m0 (us ++ c ∷ vs) s m → length us + 1 + length vs ≡ n
over_count st p k n c us vs d0 m0 s m x =
    let all : length us + suc (length vs) ≡ n = sym (length-append us (c ∷ vs)) ∙ x.wide in
    omega (arith, all)

-- the word and the value stand behind what waits
over_stand : (st : Setting) (p : Spot) (k n c : ℕ) (us vs : List ℕ) (d0 : Data) (m0 : Machine) (s : State) (m : Machine)
    → IsAnswer st p n k d0 m0 (us ++ c ∷ vs) s m → Stand m.stack (s.now.top + k + length us) (c ∷ vs)
over_stand st p k n c us vs d0 m0 s m x =
    let top = kept_top (d0.top + k) d0 m0.stack s.now m.stack x.kept in
    subst (λ (a : ℕ). Stand m.stack (a + k + length us) (c ∷ vs)) (sym top) (stand_last m.stack us (c ∷ vs) (d0.top + k) x.stand)

-- ---- the index

-- the lowest word of an answer is what LDX puts into X
lowest_row : (st : Setting) (p : Spot) (k i u : ℕ) (ws : List ℕ) (d0 : Data) (m0 : Machine) (s : State) (m : Machine) → length ws ≡ i
    → IsAnswer st p (i + 1) k d0 m0 (u ∷ ws) s m → s.now.top + (k + i + 1) ≤ s.now.stack
    → Places 0 [] u (at_left m) (memory_row 11 true (SMinus i) false false (at_left m))
lowest_row st p k i u ws d0 m0 s m wide x room =
    let split : k + (i + 1) ≡ k + i + 1 = omega arith in
    let matches : Matched st s.now m (k + i + 1) = subst (λ (j : ℕ). Matched st s.now m j) split x.matches in
    let words = matches.words in
    let least = matches.lies.least in
    let top = kept_top (d0.top + k) d0 m0.stack s.now m.stack x.kept in
    let low : s.now.top + k < length m.stack = omega (arith, words) in
    let f : Finds kind.Integer (SMinus i) false false false (s.now.top + k) (at_left m) =
    direct (SMinus i) false (s.now.top + k) (s.now.top + k) (at_left m) (top_based st s.now k i (at_left m) matches room) (omega (arith, room, least)) in
    let stands : slice_index m.stack (s.now.top + k) ≡ u = ap (λ (b : ℕ). slice_index m.stack (b + k)) top ∙ x.stand.0 in
    memory_rows.x_loaded (SMinus i) false false f.place u (at_left m) f.is
    (memory_rows.read_there f.place false (at_left m) f.side (subst (λ (b : ℕ). b < length m.stack) (sym f.at) low)
    ∙ ap (λ (c : ℕ). let y : Result ℕ Trap = Ok c in y) (ap (λ (b : ℕ). slice_index m.stack b) f.at ∙ stands))

-- LDX: X has the index that waits below i words, and all of them stay.
pub lowest_taken : (g : Ground) (w : Rate) (p r : Spot) (st : Setting) (k i u : ℕ) (ws : List ℕ) (s : State) (m : Machine) (d0 : Data) (m0 : Machine)
    → length ws ≡ i → Leads g (on p) r (doing g.segments (instr.Memory 11 true false false (SMinus i)) r) → IsAnswer st p (i + 1) k d0 m0 (u ∷ ws) s m
    → s.now.top + (k + i + 1) ≤ s.now.stack
    → Follows g w (pos r - pos p) 0 w.reach (tally s) m (λ (e : Unit {0}) s1 m1. (s1 ≡ s) × Indexed st r (i + 1) k d0 m0 (u ∷ ws) u s1 m1) NoExit (done tt s)
lowest_taken g w p r st k i u ws s m d0 m0 wide leads x room =
    x_set g w p r (doing g.segments (instr.Memory 11 true false false (SMinus i)) r) st (i + 1) k u (u ∷ ws) s m d0 m0
    (memory_row 11 true (SMinus i) false false (at_left m)) leads refl (lowest_row st p k i u ws d0 m0 s m wide x room) x

-- ---- the store

-- the operand through the word below a value
over_refers : (st : Setting) (t : Kind) (far x : Bool) (p : Spot) (k n i c : ℕ) (us vs : List ℕ) (d0 : Data) (m0 : Machine) (s : State) (m : Machine)
    → far ≡ st.split → length vs ≡ width t → ((cell : ℕ) → (cell + index (counted_by t) x (at_left m)) % 65536 ≡ element_address t cell i)
    → IsAnswer st p n k d0 m0 (us ++ c ∷ vs) s m → s.now.top + (k + n) ≤ s.now.stack
    → Refers t (SMinus (width t)) true x s (at_left m) (done (element_located far t c i) s)
over_refers st t far x p k n i c us vs d0 m0 s m side wide same y room =
    let count = over_count st p k n c us vs d0 m0 s m y in
    let split : k + n ≡ k + length us + width t + 1 = omega (arith, count, wide) in
    let matches : Matched st s.now m (k + length us + width t + 1) = subst (λ (j : ℕ). Matched st s.now m j) split y.matches in
    let words = matches.words in
    let place : s.now.top + (k + length us) ≡ s.now.top + k + length us = omega arith in
    let stands : slice_index m.stack (s.now.top + (k + length us)) ≡ c =
    ap (λ (a : ℕ). slice_index m.stack a) place ∙ (over_stand st p k n c us vs d0 m0 s m y).0 in
    let split_is : m.split ≡ st.split = ap (λ (u : Outer). u.split) matches.outer in (
      refl,
      refl,
      subst (λ (b : Bool). Finds t (SMinus (width t)) true x b (element_address t c i) (at_left m)) (split_is ∙ sym side)
          (through t (SMinus (width t)) x (s.now.top + (k + length us)) c (element_address t c i) (at_left m)
          (top_based st s.now (k + length us) (width t) (at_left m) matches (omega (arith, room, split))) (omega (arith, words)) stands (same c)),
    )

-- a word may be stored
word_over : (st : Setting) (p : Spot) (k n v c : ℕ) (us : List ℕ) (d0 : Data) (m0 : Machine) (s : State) (m : Machine)
    → IsAnswer st p n k d0 m0 (us ++ c ∷ v ∷ []) s m → s.now.top + (k + n) ≤ s.now.stack → Storing st p (k + (length us + 1)) s.now m v s m
word_over st p k n v c us d0 m0 s m x room =
    let count = over_count st p k n c us (v ∷ []) d0 m0 s m x in
    let split : k + n ≡ k + (length us + 1) + 1 = omega (arith, count) in
    let words = x.matches.words in
    let stand = over_stand st p k n c us (v ∷ []) d0 m0 s m x in
    let top : length m.stack - 1 - 0 ≡ suc (s.now.top + k + length us) = omega (arith, words, split) in
    record {
      at = x.at;
      matches = subst (λ (j : ℕ). Matched st s.now m j) split x.matches;
      top = ap (λ (a : ℕ). slice_index m.stack a) top ∙ stand.1.0;
      small = (small_last us (c ∷ v ∷ []) x.small).1.0;
      kept = kept_same (s.now.top + (k + (length us + 1))) s.now m.stack;
      coded = x.coded;
      room = omega (arith, room, split);
    }

-- and a DOUBLE
double_over : (st : Setting) (p : Spot) (k n h l c : ℕ) (us : List ℕ) (d0 : Data) (m0 : Machine) (s : State) (m : Machine)
    → IsAnswer st p n k d0 m0 (us ++ c ∷ h ∷ l ∷ []) s m → s.now.top + (k + n) ≤ s.now.stack → StoringDouble st p (k + (length us + 1)) s.now m h l s m
double_over st p k n h l c us d0 m0 s m x room =
    let count = over_count st p k n c us (h ∷ l ∷ []) d0 m0 s m x in
    let split : k + n ≡ k + (length us + 1) + 2 = omega (arith, count) in
    let words = x.matches.words in
    let stand = over_stand st p k n c us (h ∷ l ∷ []) d0 m0 s m x in
    let small = small_last us (c ∷ h ∷ l ∷ []) x.small in
    let lower : length m.stack - 1 - 1 ≡ suc (s.now.top + k + length us) = omega (arith, words, split) in
    let upper : length m.stack - 1 - 0 ≡ suc (suc (s.now.top + k + length us)) = omega (arith, words, split) in
    record {
      at = x.at;
      matches = subst (λ (j : ℕ). Matched st s.now m j) split x.matches;
      high = ap (λ (a : ℕ). slice_index m.stack a) lower ∙ stand.1.0;
      low = ap (λ (a : ℕ). slice_index m.stack a) upper ∙ stand.1.1.0;
      high_small = small.1.0;
      low_small = small.1.1.0;
      kept = kept_same (s.now.top + (k + (length us + 1))) s.now m.stack;
      coded = x.coded;
      room = omega (arith, room, split);
    }

-- what is asked where a value of a kind is about to be stored through the word below it, at an index that X gives
pub record IsOver (st : Setting) (t : Kind) (far x : Bool) (p : Spot) (k n i c : ℕ) (us vs : List ℕ) (d0 : Data) (m0 : Machine) (s : State) (m : Machine)
    : Type 0 where
  pub side : far ≡ st.split
  pub wide : length vs ≡ width t
  pub same : (cell : ℕ) → (cell + index (counted_by t) x (at_left m)) % 65536 ≡ element_address t cell i
  pub answer : IsAnswer st p n k d0 m0 (us ++ c ∷ vs) s m
  pub room : s.now.top + (k + n) ≤ s.now.stack

-- by the words, of which a kind has one
word_stored : (g : Ground) (w : Rate) (p q : Spot) (st : Setting) (t : Kind) (far x : Bool) (k n i c : ℕ) (us vs : List ℕ) (d0 : Data) (m0 : Machine)
    (s : State) (m : Machine) → width t ≡ 1 → Leads g (on p) q (doing g.segments (storing t true x (SMinus (width t))) q)
    → IsOver st t far x p k n i c us vs d0 m0 s m
    → Follows g w (pos q - pos p) 0 w.reach (tally s) m (Completes st q (k + (length us + 1)) s.now m) NoExit (store (element_located far t c i) (kept t vs) s)
word_stored g w p q st t far x k n i c us (v ∷ []) d0 m0 s m one leads y =
    store_follows g w p q st t (SMinus (width t)) true x (k + (length us + 1)) v s.now m s m (done (element_located far t c i) s) one leads
    (word_over st p k n v c us d0 m0 s m y.answer y.room) (over_refers st t far x p k n i c us (v ∷ []) d0 m0 s m y.side y.wide y.same y.answer y.room)
word_stored g w p q st t far x k n i c us [] d0 m0 s m one leads y = let wide = y.wide in absurd (omega (arith, wide, one))
word_stored g w p q st t far x k n i c us (v ∷ v' ∷ vs) d0 m0 s m one leads y = let wide = y.wide in absurd (omega (arith, wide, one))

-- and a DOUBLE two
double_stored : (g : Ground) (w : Rate) (p q : Spot) (st : Setting) (far x : Bool) (k n i c : ℕ) (us vs : List ℕ) (d0 : Data) (m0 : Machine)
    (s : State) (m : Machine) → Leads g (on p) q (doing g.segments (instr.Memory 14 true x true (SMinus 2)) q)
    → IsOver st kind.Double far x p k n i c us vs d0 m0 s m
    → Follows g w (pos q - pos p) 0 w.reach (tally s) m (Completes st q (k + (length us + 1)) s.now m) NoExit
    (store (element_located far kind.Double c i) (kept kind.Double vs) s)
double_stored g w p q st far x k n i c us (h ∷ l ∷ []) d0 m0 s m leads y =
    double.store_follows g w p q st (SMinus 2) true x (k + (length us + 1)) h l s.now m s m (done (element_located far kind.Double c i) s) leads
    (double_over st p k n h l c us d0 m0 s m y.answer y.room)
    (over_refers st kind.Double far x p k n i c us (h ∷ l ∷ []) d0 m0 s m y.side y.wide y.same y.answer y.room)
double_stored g w p q st far x k n i c us [] d0 m0 s m leads y = let wide = y.wide in absurd (omega (arith, wide))
double_stored g w p q st far x k n i c us (h ∷ []) d0 m0 s m leads y = let wide = y.wide in absurd (omega (arith, wide))
double_stored g w p q st far x k n i c us (h ∷ l ∷ v ∷ vs) d0 m0 s m leads y = let wide = y.wide in absurd (omega (arith, wide))

-- the store of a kind through the word below its value
pub over_stored : (g : Ground) (w : Rate) (p q : Spot) (st : Setting) (t : Kind) (far x : Bool) (k n i c : ℕ) (us vs : List ℕ) (d0 : Data) (m0 : Machine)
    (s : State) (m : Machine) → Leads g (on p) q (doing g.segments (storing t true x (SMinus (width t))) q) → IsOver st t far x p k n i c us vs d0 m0 s m
    → Follows g w (pos q - pos p) 0 w.reach (tally s) m (Completes st q (k + (length us + 1)) s.now m) NoExit (store (element_located far t c i) (kept t vs) s)
over_stored g w p q st kind.Integer far x k n i c us vs d0 m0 s m leads y = word_stored g w p q st kind.Integer far x k n i c us vs d0 m0 s m refl leads y
over_stored g w p q st kind.Logical far x k n i c us vs d0 m0 s m leads y = word_stored g w p q st kind.Logical far x k n i c us vs d0 m0 s m refl leads y
over_stored g w p q st kind.Byte far x k n i c us vs d0 m0 s m leads y = word_stored g w p q st kind.Byte far x k n i c us vs d0 m0 s m refl leads y
over_stored g w p q st kind.Double far x k n i c us vs d0 m0 s m leads y = double_stored g w p q st far x k n i c us vs d0 m0 s m leads y

-- ---- what is left is deleted

-- DDEL: the word and the index below it are deleted, in a part that began with d0 and m0.
pub both_deleted : (g : Ground) (w : Rate) (p q : Spot) (st : Setting) (k : ℕ) (d0 : Data) (m0 : Machine) (d1 : Data) (m1 : Machine) (s : State) (m : Machine)
    → Leads g (on p) q (doing g.segments (instr.Pair (op 0o02) (op 0)) q) → Kept (d0.top + k) d0 m0.stack d1 m1.stack → Arrives st p (k + 2) d1 m1 s m
    → Follows g w (pos q - pos p) 0 w.reach (tally s) m (Completes st q k d0 m0) NoExit (done tt s)
both_deleted g w p q st k d0 m0 d1 m1 s m leads before x =
    let words = x.matches.words in
    let top = kept_top (d0.top + k) d0 m0.stack d1 m1.stack before in
    let y : Places 2 [] m.regs.x m (operated 0o02 m) = stack_rows.double_deleted m (omega (arith, words)) in
    row_drops g w (on p) q (doing g.segments (instr.Pair (op 0o02) (op 0)) q) st s.begun s m d0 m0 k 2 (operated 0o02 m) y.words leads refl x.at refl x.matches
    (kept_on (d0.top + k) d0 m0.stack d1 m1.stack s.now m.stack before
    (kept_lower (d0.top + k) (d1.top + (k + 2)) d1 m1.stack s.now m.stack x.kept (omega (arith, top))))
    (subst (λ (c : Code). Coded s.code c) (sym y.same_code) x.coded)
