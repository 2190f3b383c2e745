-- Words that wait below a value: where they stand, what keeps them, and how a field is put into the word to which the one next to the value leads.
use Rattle.std.proofs.Common.{◌≡◌, ℕ, suc, ◌+◌, ◌-◌, ◌%◌, ◌<◌, ◌≤◌, Bool, true, false, List, [], ◌∷◌, length, refl, sym, ap, subst, ◌∙◌, arith}
use Rattle.std.specs.Prelude.{slice_index, Ok, Result}
use Rattle.spl_field_stores.specs.hp_word.declared.endings.Trap.{Trap}
use Rattle.spl_field_stores.specs.hp_instr.declared.instruction.Instr.TheVariants as instr
use Rattle.spl_field_stores.specs.hp_instr.declared.instruction.Mode.TheVariants.{SMinus}
use Rattle.spl_field_stores.specs.hp_instr.Instructions.{op}
use Rattle.spl_field_stores.specs.hp_session.State.{Machine}
use Rattle.spl_field_stores.specs.hp_session.Places.{index}
use Rattle.spl_field_stores.specs.hp_memory_rows.MemoryRows.{memory_row}
use Rattle.spl_field_stores.specs.hp_stack_rows.StackRows.{operated}
use Rattle.spl_field_stores.specs.hp_flat.Step.{at_left}
use Rattle.spl_tops.specs.spl_operators.hp_yields.Rows.{Places}
use Rattle.spl_field_stores.proofs.hp_yields_proofs.MemoryYields as memory_rows
use Rattle.spl_field_stores.proofs.hp_yields_proofs.StackYields as stack_rows
use Rattle.spl_field_stores.specs.hp_word.declared.arithmetic.Code.{Code}
use Rattle.spl_field_stores.specs.spl_tree.declared.expressions.Kind.{Kind}
use Rattle.spl_field_stores.specs.spl_tree.declared.expressions.Kind.TheVariants as kind
use Rattle.spl_field_stores.specs.spl_meaning.References.{Setting, element_address, element_located, store_field}
use Rattle.spl_field_stores.specs.spl_meaning.States.{Data, State, done}
use Rattle.spl_field_stores.specs.spl_follow.Spots.{Spot, pos, on, Ground}
use Rattle.spl_field_stores.specs.spl_follow.Leading.{Leads}
use Rattle.spl_field_stores.specs.spl_follow.Matching.{Outer, Matched, Kept, Stand, Coded, IsValue, Arrives}
use Rattle.spl_field_stores.specs.spl_follow.Following.{Rate, tally, Follows, NoExit}
use Rattle.spl_field_stores.specs.spl_follow.Doing.{doing}
use Rattle.spl_field_stores.specs.spl_follow.Parts.{Completes}
use Rattle.spl_field_stores.proofs.spl_follow_proofs.KeepLemmas.{kept_same, kept_on, kept_lower, kept_top, above_none}
use Rattle.spl_field_stores.proofs.spl_follow_proofs.RowLemmas.{row_drops}
use Rattle.spl_field_stores.specs.spl_values.Reached.{is_word_kind}
use Rattle.spl_field_stores.specs.spl_operands.Operands.{counted_by, Finds}
use Rattle.spl_field_stores.proofs.spl_operands_proofs.OperandLemmas.{top_based, direct, through}
use Rattle.spl_field_stores.proofs.DepositLemmas.{Deposits, deposit_follows}
use Rattle.spl_tops.proofs.UnderLemmas.{value_answer, answer_value, x_set}

-- ---- where they stand

-- The words above the lowest are a value by themselves.
pub value_above : (st : Setting) (p : Spot) (k n u : ℕ) (vs : List ℕ) (s : State) (m : Machine) (d0 : Data) (m0 : Machine)
    → IsValue st p (n + 1) k d0 m0 (u ∷ vs) s m → IsValue st p n (k + 1) s.now m vs s m
value_above st p k n u vs s m d0 m0 x =
    let more : k + (n + 1) ≡ k + 1 + n = omega arith in
    let top = kept_top (d0.top + k) d0 m0.stack s.now m.stack x.kept in
    let at : suc (d0.top + k) ≡ s.now.top + (k + 1) = omega (arith, top) in
    let wide = x.wide in
    record {
      at = x.at;
      wide = omega (arith, wide);
      matches = subst (λ (j : ℕ). Matched st s.now m j) more x.matches;
      stand = subst (λ (a : ℕ). Stand m.stack a vs) at x.stand.1;
      small = x.small.1;
      kept = kept_same (s.now.top + (k + 1)) s.now m.stack;
      silent = x.silent;
    }

-- That one stands at its address,
pub lower_word : (st : Setting) (p : Spot) (k n u : ℕ) (vs : List ℕ) (s : State) (m : Machine) (d0 : Data) (m0 : Machine)
    → IsValue st p n k d0 m0 (u ∷ vs) s m → slice_index m.stack (s.now.top + k) ≡ u
lower_word st p k n u vs s m d0 m0 x =
    let top = kept_top (d0.top + k) d0 m0.stack s.now m.stack x.kept in
    ap (λ (b : ℕ). slice_index m.stack (b + k)) top ∙ x.stand.0

-- and stays there where what stands beneath the others is kept.
lower_kept : (st : Setting) (k j : ℕ) (s : State) (m m1 : Machine) → Matched st s.now m j → Kept (s.now.top + (k + 1)) s.now m.stack s.now m1.stack
    → slice_index m1.stack (s.now.top + k) ≡ slice_index m.stack (s.now.top + k)
lower_kept st k j s m m1 matches kept = kept.word (s.now.top + k) (omega arith) (above_none st s.now m j (s.now.top + k) matches (omega arith))

-- ---- the index

-- a value, and what X is
abbrev pub HasX : Setting → Spot → ℕ → ℕ → Data → Machine → List ℕ → ℕ → State → Machine → Type 0
HasX st p n k d0 m0 vs x s m = IsValue st p n k d0 m0 vs s m × (m.regs.x ≡ x)

-- the word below i others is what LDX puts into X
x_row : (st : Setting) (j i u : ℕ) (s : State) (m : Machine) → Matched st s.now m (j + i + 1) → s.now.top + (j + i + 1) ≤ s.now.stack
    → slice_index m.stack (s.now.top + j) ≡ u → Places 0 [] u (at_left m) (memory_row 11 true (SMinus i) false false (at_left m))
x_row st j i u s m matches room stands =
    let words = matches.words in
    let least = matches.lies.least in
    let low : s.now.top + j < length m.stack = omega (arith, words) in
    let f : Finds kind.Integer (SMinus i) false false false (s.now.top + j) (at_left m) =
    direct (SMinus i) false (s.now.top + j) (s.now.top + j) (at_left m) (top_based st s.now j i (at_left m) matches room) (omega (arith, room, least)) in
    memory_rows.x_loaded (SMinus i) false false f.place u (at_left m) f.is
    (memory_rows.read_there f.place false (at_left m) f.side (subst (λ (b : ℕ). b < length m.stack) (sym f.at) low)
    ∙ ap (λ (c : ℕ). let y : Result ℕ Trap = Ok c in y) (ap (λ (b : ℕ). slice_index m.stack b) f.at ∙ stands))

-- LDX: X has it, and all the rest stays.
pub x_taken : (g : Ground) (w : Rate) (p r : Spot) (st : Setting) (n k j i u : ℕ) (vs : List ℕ) (s : State) (m : Machine) (d0 : Data) (m0 : Machine)
    → Leads g (on p) r (doing g.segments (instr.Memory 11 true false false (SMinus i)) r) → IsValue st p n k d0 m0 vs s m → k + n ≡ j + i + 1
    → slice_index m.stack (s.now.top + j) ≡ u → s.now.top + (k + n) ≤ s.now.stack
    → Follows g w (pos r - pos p) 0 w.reach (tally s) m (λ (e : Unit {0}) s1 m1. HasX st r n k d0 m0 vs u s1 m1) NoExit (done tt s)
x_taken g w p r st n k j i u vs s m d0 m0 leads x count stands room =
    let o = memory_row 11 true (SMinus i) false false (at_left m) in
    let matches : Matched st s.now m (j + i + 1) = subst (λ (b : ℕ). Matched st s.now m b) count x.matches in
    let y : Places 0 [] u (at_left m) o = x_row st j i u s m matches (omega (arith, room, count)) stands in
    let f = x_set g w p r (doing g.segments (instr.Memory 11 true false false (SMinus i)) r) st n k u vs s m d0 m0 o leads refl y
    (value_answer st p n k d0 m0 vs s m x) in
    (f.0, f.1, (answer_value st r n k d0 m0 vs s f.0 f.2.1.0 x.silent, f.2.1.1))

-- DDEL: two words that waited are deleted, in a part that began with d0 and m0.
pub pair_deleted : (g : Ground) (w : Rate) (p q : Spot) (st : Setting) (k : ℕ) (d0 : Data) (m0 : Machine) (d1 : Data) (m1 : Machine) (s : State) (m : Machine)
    → Leads g (on p) q (doing g.segments (instr.Pair (op 0o02) (op 0)) q) → Kept (d0.top + k) d0 m0.stack d1 m1.stack → Arrives st p (k + 1 + 1) d1 m1 s m
    → Follows g w (pos q - pos p) 0 w.reach (tally s) m (Completes st q k d0 m0) NoExit (done tt s)
pair_deleted g w p q st k d0 m0 d1 m1 s m leads before x =
    let words = x.matches.words in
    let top = kept_top (d0.top + k) d0 m0.stack d1 m1.stack before in
    let two : k + 1 + 1 ≡ k + 2 = omega arith in
    let y : Places 2 [] m.regs.x m (operated 0o02 m) = stack_rows.double_deleted m (omega (arith, words)) in
    row_drops g w (on p) q (doing g.segments (instr.Pair (op 0o02) (op 0)) q) st s.begun s m d0 m0 k 2 (operated 0o02 m) y.words leads refl x.at refl
    (subst (λ (j : ℕ). Matched st s.now m j) two x.matches)
    (kept_on (d0.top + k) d0 m0.stack d1 m1.stack s.now m.stack before
    (kept_lower (d0.top + k) (d1.top + (k + 1 + 1)) d1 m1.stack s.now m.stack x.kept (omega (arith, top))))
    (subst (λ (c : Code). Coded s.code c) (sym y.same_code) x.coded)

-- ---- the field

-- through the word below the value, at an index that X gives or none: that word stays while the field is made
under_finds : (st : Setting) (t : Kind) (p : Spot) (far x : Bool) (k i c v : ℕ) (s : State) (m : Machine) (d0 : Data) (m0 : Machine) (m1 : Machine)
    → far ≡ st.split → IsValue st p 2 k d0 m0 (c ∷ v ∷ []) s m → (c + index (counted_by t) x (at_left m1)) % 65536 ≡ element_address t c i
    → Kept (s.now.top + (k + 1)) s.now m.stack s.now m1.stack → Matched st s.now m1 (k + 1 + 1) → s.now.top + (k + 1 + 1) ≤ s.now.stack
    → Finds t (SMinus 1) true x far (element_address t c i) (at_left m1)
under_finds st t p far x k i c v s m d0 m0 m1 side y same kept matches room =
    let words = matches.words in
    let low : s.now.top + k < length m1.stack = omega (arith, words) in
    let stands : slice_index m1.stack (s.now.top + k) ≡ c = lower_kept st k (k + 2) s m m1 y.matches kept ∙ lower_word st p k 2 c (v ∷ []) s m d0 m0 y in
    let split : m1.split ≡ st.split = ap (λ (u : Outer). u.split) matches.outer in
    subst (λ (b : Bool). Finds t (SMinus 1) true x b (element_address t c i) (at_left m1)) (split ∙ sym side)
    (through t (SMinus 1) x (s.now.top + k) c (element_address t c i) (at_left m1) (top_based st s.now k 1 (at_left m1) matches room) low stands same)

-- A value is put into a field of the word to which the word below it leads, and that word waits.
pub under_put : (g : Ground) (w : Rate) (p q : Spot) (st : Setting) (t : Kind) (far x : Bool) (k i c v start size : ℕ) (s : State) (m : Machine) (d0 : Data)
    (m0 : Machine) → Deposits g p q start size (SMinus 1) true x → is_word_kind t ≡ true → 1 ≤ size → start + size ≤ 16 → far ≡ st.split
    → IsValue st p 2 k d0 m0 (c ∷ v ∷ []) s m
    → ((m1 : Machine) → m1.regs.x ≡ m.regs.x → (c + index (counted_by t) x (at_left m1)) % 65536 ≡ element_address t c i)
    → s.now.top + (k + 1 + 1 + 1) ≤ s.now.stack
    → Follows g w (pos q - pos p) 0 w.reach (tally s) m (Completes st q (k + 1) s.now m) NoExit (store_field (element_located far t c i) start size (v ∷ []) s)
under_put g w p q st t far x k i c v start size s m d0 m0 l one some within side y same room =
    deposit_follows g w p q st t (SMinus 1) true x (k + 1) v start size s.now m s m (element_located far t c i) l one some within
    (value_above st p k 1 c (v ∷ []) s m d0 m0 y) room
    (λ m1 is kept matches. under_finds st t p far x k i c v s m d0 m0 m1 side y (same m1 is) kept matches (omega (arith, room)))
