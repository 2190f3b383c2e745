-- LOAD, XCH, DPF and STOR at one operand: the word there is loaded, the value is put into its field, and the word goes back. X stays, so that one
-- index serves both.
use Rattle.std.proofs.Common.{◌≡◌, ℕ, ◌+◌, ◌-◌, ◌*◌, ◌%◌, ◌<◌, ◌≤◌, Bool, true, false, List, [], ◌∷◌, ◌++◌, length, take, refl, sym, ap, subst, ◌∙◌, arith}
use Rattle.std.specs.Prelude.{Option, Some, None, Ok, Err, nat_lt, if◌then◌else◌, slice_index}
use Rattle.spl_operators.specs.hp_word.declared.endings.Trap.TheVariants.{Bounds}
use Rattle.spl_operators.specs.hp_word.Bits.{with_field}
use Rattle.spl_operators.proofs.hp_word_proofs.FieldLemmas.{with_field-below}
use Rattle.spl_operators.specs.hp_instr.declared.instruction.Instr.TheVariants as instr
use Rattle.spl_operators.specs.hp_instr.declared.instruction.Mode.{Mode}
use Rattle.spl_operators.specs.hp_instr.Bits.{bits}
use Rattle.spl_operators.specs.hp_instr.Fields.{field_length}
use Rattle.spl_operators.specs.hp_instr.Instructions.{op}
use Rattle.spl_operators.specs.hp_session.State.{Machine, Outcome as Row, word}
use Rattle.spl_operators.specs.hp_session.Results.{coded}
use Rattle.spl_operators.specs.hp_session.Places.{operand}
use Rattle.spl_operators.specs.hp_stack_rows.StackRows.{operated}
use Rattle.spl_operators.specs.hp_word_rows.WordRows.{immediate_row, field_put}
use Rattle.spl_operators.specs.hp_memory_rows.MemoryRows.{memory_row}
use Rattle.spl_operators.specs.hp_flat.Step.{at_left}
use Rattle.spl_operators.specs.hp_yields.Rows.{Places}
use Rattle.spl_operators.proofs.hp_yields_proofs.YieldForms.{taken}
use Rattle.spl_operators.proofs.hp_yields_proofs.MemoryYields as rows
use Rattle.spl_operators.proofs.hp_yields_proofs.StackYields as stack_rows
use Rattle.spl_operators.specs.spl_tree.declared.expressions.Kind.{Kind}
use Rattle.spl_operators.specs.spl_frames.Words.{AreWords}
use Rattle.spl_operators.specs.spl_meaning.References.{Setting, Located, data_word_read, word_at, placed_word, word_stored, store_field}
use Rattle.spl_operators.specs.spl_meaning.States.{Data, State, Outcome, done, ends, trapped, then_go}
use Rattle.spl_operators.specs.spl_follow.Spots.{Spot, spot, pos, on, landed, Ground}
use Rattle.spl_operators.specs.spl_follow.Leading.{Leads}
use Rattle.spl_operators.specs.spl_follow.Matching.{Outer, outer, Matches, Matched, Kept, Stand, IsValue}
use Rattle.spl_operators.specs.spl_follow.Following.{Rate, tally, Follows, NoExit}
use Rattle.spl_operators.specs.spl_follow.Doing.{going, doing}
use Rattle.spl_operators.specs.spl_follow.Yielding.{Yields}
use Rattle.spl_operators.specs.spl_follow.Parts.{Completes}
use Rattle.spl_operators.proofs.spl_follow_proofs.FollowLemmas.{widen, then_follows}
use Rattle.spl_operators.proofs.spl_follow_proofs.KeepLemmas.{kept_same, kept_top, matched_length, value_word, values_join}
use Rattle.spl_operators.proofs.spl_follow_proofs.RowLemmas.{stray_here, row_trap, becomes_goes, becomes_matches, yields_matched, yields_kept}
use Rattle.spl_operators.proofs.spl_follow_proofs.StackLemmas.{stand_behind}
use Rattle.spl_operators.specs.spl_values.Reached.{is_word_kind}
use Rattle.spl_variables.specs.spl_operands.Operands.{Finds}
use Rattle.spl_variables.proofs.spl_operands_proofs.SeeLemmas.{see}
use Rattle.spl_variables.proofs.spl_operands_proofs.LoadLemmas.{seen_read, past_read, word_is_found}
use Rattle.spl_variables.proofs.spl_operands_proofs.StoreLemmas.{word_put}
use Rattle.spl_variables.proofs.spl_operands_proofs.AssignLemmas.{value_storing}
use Rattle.spl_operators.proofs.SingleLemmas.{field_first, field_long}

-- ---- rows that leave X

-- words in place of the top ones, and X is x
record Leaves (n : ℕ) (ws : List ℕ) (x : ℕ) (m : Machine) (o : Row) : Type 0 where
  words : Yields n ws m o
  index : words.left.regs.x ≡ x

-- what a row places it leaves, in whichever half of its word the machine was
placed : (n x : ℕ) (ws : List ℕ) (m : Machine) (o : Row) → Places n ws x m o → Leaves n ws x m o
placed n x ws m o y = record { words = y.words; index = y.index }

placed_at_left : (n x : ℕ) (ws : List ℕ) (m : Machine) (o : Row) → Places n ws x (at_left m) o → Leaves n ws x m o
placed_at_left n x ws m o y = record { words = y.words; index = y.index }

-- DPF leaves X
deposits : (n : ℕ) (m : Machine) → 2 ≤ length m.stack
    → Leaves 2 (with_field (word 1 m) (bits 8 11 n) (field_length n) (word 0 m) ∷ []) m.regs.x m (immediate_row 12 n (at_left m))
unfolding immediate_row field_put
deposits n m enough = record {
  words = record {
    left = coded 2 (with_field (word 1 m) (bits 8 11 n) (field_length n) (word 0 m)) (at_left m);
    is = taken 2 (at_left m) _ enough;
    words = refl;
    same = refl;
  };
  index = refl;
}

-- a value behind which X is x
abbrev HasX : Setting → Spot → ℕ → ℕ → Data → Machine → ℕ → List ℕ → State → Machine → Type 0
HasX st p n k d0 m0 x vs s m = IsValue st p n k d0 m0 vs s m × (m.regs.x ≡ x)

-- A row that puts a value in place of the words on top: of a part that began with d0 and m0, while k words waited.
row_leaves : (g : Ground) (w : Rate) (p r : Spot) (F : Machine → Machine) (st : Setting) (s : State) (m : Machine) (d0 : Data) (m0 : Machine)
    (k n width : ℕ) (ws : List ℕ) (x : ℕ) (o : Row) → Leads g (on p) r F → F m ≡ going r o m → spot m ≡ p → Leaves n ws x m o → Matched st s.now m (k + n)
    → Kept (d0.top + k) d0 m0.stack s.now m.stack → s.code ≡ None → AreWords ws → length ws ≡ width
    → Follows g w (pos r - pos p) 0 w.reach (tally s) m (HasX st r width k d0 m0 x) NoExit (done ws s)
row_leaves g w p r F st s m d0 m0 k n width ws x o leads is at y matches kept silent small wide =
    let top = kept_top (d0.top + k) d0 m0.stack s.now m.stack kept in
    let long : length m.stack ≡ d0.top + k + n = matched_length st s.now m k n d0.top matches top in
    let after : Matches st s.now (take (length m.stack - n) m.stack ++ ws) (outer m) (k + width) =
    subst (λ (i : ℕ). Matches st s.now (take (length m.stack - n) m.stack ++ ws) (outer m) (k + i)) wide (yields_matched st s.now m k n ws matches) in (
      landed r y.words.left,
      becomes_goes g w (on p) r F st s.begun s m (k + n) o (take (length m.stack - n) m.stack ++ ws) (outer m) y.words leads is at refl matches refl,
      (
        record {
          at = refl;
          wide = wide;
          matches = becomes_matches st s.now (k + width) o (take (length m.stack - n) m.stack ++ ws) (outer m) y.words after;
          stand = subst (λ (xs : List ℕ). Stand xs (d0.top + k) ws) (sym y.words.words) (stand_behind m.stack ws n (d0.top + k) long);
          small = small;
          kept = subst (λ (xs : List ℕ). Kept (d0.top + k) d0 m0.stack s.now xs) (sym y.words.words)
              (yields_kept (d0.top + k) d0 m0.stack s.now m.stack ws n kept long);
          silent = silent;
        },
        y.index,
      ),
    )

-- ---- the pieces

-- LOAD, XCH, DPF and STOR from one place to another
pub record Deposits (g : Ground) (p q : Spot) (start size : ℕ) (mode : Mode) (i x : Bool) : Type 0 where
  pub first : Spot
  pub second : Spot
  pub third : Spot
  pub loads : Leads g (on p) first (doing g.segments (instr.Memory 4 true x i mode) first)
  pub exchanges : Leads g (on first) second (doing g.segments (instr.Pair (op 0o32) (op 0)) second)
  pub puts : Leads g (on second) third (doing g.segments (instr.Immediate 12 (16 * start + size % 16)) third)
  pub stores : Leads g (on third) q (doing g.segments (instr.Memory 5 true x i mode) q)

-- what is read twice is the same
again : {A : Type 0} (far : Bool) (a : ℕ) (s : State) (go : ℕ → State → Outcome A)
    → then_go (word_at far a s) (λ w u. then_go (word_at far a u) (λ _ t. go w t)) ≡ then_go (word_at far a s) go
again {A = A} true a s go = by (nat_lt a (length s.now.extra)) refl where
  by : (b : Bool) → nat_lt a (length s.now.extra) ≡ b
      → then_go (if b then done (slice_index s.now.extra a) s else ends (trapped Bounds) s) (λ w u. then_go (word_at true a u) (λ _ t. go w t))
      ≡ then_go (if b then done (slice_index s.now.extra a) s else ends (trapped Bounds) s) go
  by true e =
      ap (λ (c : Bool). then_go (if c then done (slice_index s.now.extra a) s else ends (trapped Bounds) s) (λ _ t. go (slice_index s.now.extra a) t)) e
  by false e = refl
again {A = A} false a s go = by (nat_lt a s.now.stack) refl (s.now.mem a) refl where
  by : (b : Bool) → nat_lt a s.now.stack ≡ b → (o : Option ℕ) → s.now.mem a ≡ o
      → then_go (if b then data_word_read o s else ends (trapped Bounds) s) (λ w u. then_go (word_at false a u) (λ _ t. go w t))
      ≡ then_go (if b then data_word_read o s else ends (trapped Bounds) s) go
  by true e (Some v) f =
      ap (λ (c : Bool). then_go (if c then data_word_read (s.now.mem a) s else ends (trapped Bounds) s) (λ _ t. go v t)) e
      ∙ ap (λ (o : Option ℕ). then_go (data_word_read o s) (λ _ t. go v t)) f
  by true e None f = refl
  by false e o f = refl

-- where DPF has its field, the word beneath has the value there
field_is : (start size v old : ℕ) (m : Machine) (b a : ℕ) → 1 ≤ size → start + size ≤ 16 → b ≡ old → a ≡ v
    → with_field b (bits 8 11 (16 * start + size % 16)) (field_length (16 * start + size % 16)) a ≡ with_field old start size v
field_is start size v old m b a some within under top =
    ap (λ (h : ℕ). with_field h (bits 8 11 (16 * start + size % 16)) (field_length (16 * start + size % 16)) a) under
    ∙ ap (λ (h : ℕ). with_field old (bits 8 11 (16 * start + size % 16)) (field_length (16 * start + size % 16)) h) top
    ∙ ap (λ (h : ℕ). with_field old h (field_length (16 * start + size % 16)) v) (field_first start size some within)
    ∙ ap (λ (h : ℕ). with_field old start h v) (field_long start size some within)

-- The word that was loaded, on the value: exchanged, joined and stored.
deposit_joined : (g : Ground) (w : Rate) (p q : Spot) (st : Setting) (t : Kind) (mode : Mode) (i x far : Bool) (a k v old start size : ℕ) (d0 : Data) (m0 : Machine)
    (s : State) (m : Machine) (l : Deposits g p q start size mode i x) → is_word_kind t ≡ true → 1 ≤ size → start + size ≤ 16
    → IsValue st l.first 2 k d0 m0 (v ∷ old ∷ []) s m → s.now.top + (k + 1 + 1) ≤ s.now.stack
    → ((m1 : Machine) → m1.regs.x ≡ m.regs.x → Kept (d0.top + k) d0 m0.stack s.now m1.stack → Matched st s.now m1 (k + 1)
    → Finds t mode i x far a (at_left m1))
    → Follows g w (pos q - pos l.first) 0 w.reach (tally s) m (Completes st q k d0 m0) NoExit (word_stored far a (with_field old start size v ∷ []) s)
deposit_joined g w p q st t mode i x far a k v old start size d0 m0 s m l one some within y room finds =
    let there : 2 ≤ length m.stack = let words = y.matches.words in omega (arith, words) in
    let turned : Leaves 2 (old ∷ v ∷ []) m.regs.x m (operated 0o32 m) =
    placed 2 m.regs.x (old ∷ v ∷ []) m (operated 0o32 m)
    (subst (λ (b : ℕ). Places 2 (b ∷ v ∷ []) m.regs.x m (operated 0o32 m)) (value_word st l.first 2 k 0 1 d0 m0 (v ∷ old ∷ []) s m y refl)
    (subst (λ (b : ℕ). Places 2 (word 0 m ∷ b ∷ []) m.regs.x m (operated 0o32 m)) (value_word st l.first 2 k 1 0 d0 m0 (v ∷ old ∷ []) s m y refl)
    (stack_rows.two_exchanged m there))) in
    let f = row_leaves g w l.first l.second (doing g.segments (instr.Pair (op 0o32) (op 0)) l.second) st s m d0 m0 k 2 2 (old ∷ v ∷ []) m.regs.x (operated 0o32 m)
    l.exchanges refl y.at turned y.matches y.kept y.silent (y.small.1.0, (y.small.0, tt)) refl in
    let z = f.2.0 in
    let n = 16 * start + size % 16 in
    let here : 2 ≤ length f.0.stack = let words = z.matches.words in omega (arith, words) in
    let joined : Leaves 2 (with_field old start size v ∷ []) f.0.regs.x f.0 (immediate_row 12 n (at_left f.0)) =
    subst (λ (b : ℕ). Leaves 2 (b ∷ []) f.0.regs.x f.0 (immediate_row 12 n (at_left f.0)))
    (field_is start size v old f.0 (word 1 f.0) (word 0 f.0) some within (value_word st l.second 2 k 1 0 d0 m0 (old ∷ v ∷ []) s f.0 z refl)
    (value_word st l.second 2 k 0 1 d0 m0 (old ∷ v ∷ []) s f.0 z refl))
    (deposits n f.0 here) in
    let h = row_leaves g w l.second l.third (doing g.segments (instr.Immediate 12 n) l.third) st s f.0 d0 m0 k 2 1 (with_field old start size v ∷ []) f.0.regs.x
    (immediate_row 12 n (at_left f.0)) l.puts refl z.at joined z.matches z.kept z.silent (with_field-below old start size v, tt) refl in
    let least : s.now.top + (k + 1) ≤ s.now.stack = omega (arith, room) in
    let one_more = l.exchanges.rise in
    let two_more = l.puts.rise in
    let last = l.stores.rise in
    let many = w.enough in
    then_follows g w (pos l.second - pos l.first) 0 w.reach (pos q - pos l.second) 0 w.reach (pos q - pos l.first) 0 w.reach (tally s) m (tally s) f.0
    (Completes st q k d0 m0) NoExit (word_stored far a (with_field old start size v ∷ []) s) f.1
    (then_follows g w (pos l.third - pos l.second) 0 w.reach (pos q - pos l.third) 0 w.reach (pos q - pos l.second) 0 w.reach (tally s) f.0 (tally s) h.0
    (Completes st q k d0 m0) NoExit (word_stored far a (with_field old start size v ∷ []) s) h.1
    (word_put g w l.third q st t mode i x far a k (with_field old start size v) d0 m0 s h.0 one l.stores
    (value_storing st l.third k (with_field old start size v) d0 m0 s h.0 h.2.0 least)
    (finds h.0 (h.2.1 ∙ f.2.1) h.2.0.kept h.2.0.matches))
    (omega (arith, two_more, last)) (omega (arith, many)) (omega (arith, many)))
    (omega (arith, one_more, two_more, last)) (omega (arith, many)) (omega (arith, many))

-- a trap of the load
pub not_loaded : (g : Ground) (w : Rate) (p q : Spot) (st : Setting) (mode : Mode) (i x : Bool) (k v start size : ℕ) (d0 : Data) (m0 : Machine) (s : State)
    (m : Machine) → Deposits g p q start size mode i x → IsValue st p 1 k d0 m0 (v ∷ []) s m → memory_row 4 true mode i x (at_left m) ≡ Err Bounds
    → Follows g w (pos q - pos p) 0 w.reach (tally s) m (Completes st q k d0 m0) NoExit (ends (trapped Bounds) s)
not_loaded g w p q st mode i x k v start size d0 m0 s m l z lost =
    let first = l.loads.rise in
    let next = l.exchanges.rise in
    let third = l.puts.rise in
    let last = l.stores.rise in
    widen g w (pos l.first - pos p) 0 w.reach (pos q - pos p) 0 w.reach (tally s) m (Completes st q k d0 m0) NoExit (ends (trapped Bounds) s)
    (row_trap g w w.reach (on p) l.first (doing g.segments (instr.Memory 4 true x i mode) l.first) st s.begun s m (k + 1) (memory_row 4 true mode i x (at_left m))
    Bounds (Completes st q k d0 m0) NoExit l.loads refl z.at refl z.matches lost)
    (omega (arith, first, next, third, last)) (omega arith) (omega arith)

-- A value that waits is put into the field of the word at an operand.
pub deposit_follows : (g : Ground) (w : Rate) (p q : Spot) (st : Setting) (t : Kind) (mode : Mode) (i x : Bool) (k v start size : ℕ) (d0 : Data) (m0 : Machine)
    (s : State) (m : Machine) (y : Located) → Deposits g p q start size mode i x → is_word_kind t ≡ true → 1 ≤ size → start + size ≤ 16
    → IsValue st p 1 k d0 m0 (v ∷ []) s m → s.now.top + (k + 1 + 1) ≤ s.now.stack
    → ((m1 : Machine) → m1.regs.x ≡ m.regs.x → Kept (d0.top + k) d0 m0.stack s.now m1.stack → Matched st s.now m1 (k + 1)
    → Finds t mode i x y.far y.address (at_left m1))
    → Follows g w (pos q - pos p) 0 w.reach (tally s) m (Completes st q k d0 m0) NoExit (store_field y start size (v ∷ []) s)
deposit_follows g w p q st t mode i x k v start size d0 m0 s m y l one some within z room finds =
    let f = finds m refl z.kept z.matches in
    let words = z.matches.words in
    let limit : m.stack_limit ≡ s.now.stack = ap (λ (u : Outer). u.limit) z.matches.outer in
    let free : length m.stack < m.stack_limit = omega (arith, words, room, limit) in
    let found : operand 1 mode i x (at_left m) ≡ Ok f.place = sym (word_is_found t mode i x (at_left m) one) ∙ f.is in
    subst (λ (o : Outcome (Unit {0})). Follows g w (pos q - pos p) 0 w.reach (tally s) m (Completes st q k d0 m0) NoExit o)
    (again y.far y.address s (λ old u. done tt (placed_word y.far y.address (with_field old start size v) u)))
    (see (λ (o : Outcome (Unit {0})). Follows g w (pos q - pos p) 0 w.reach (tally s) m (Completes st q k d0 m0) NoExit o) y.far y.address (k + 1) st s (at_left m)
    (λ old u. word_stored y.far y.address (with_field old start size v ∷ []) u) z.matches (omega (arith, room))
    (λ old seen.
    let row : Leaves 0 (old ∷ []) m.regs.x m (memory_row 4 true mode i x (at_left m)) =
    placed_at_left 0 m.regs.x (old ∷ []) m (memory_row 4 true mode i x (at_left m))
    (rows.word_loaded mode i x f.place old (at_left m) found (seen_read f.place y.far y.address old s (at_left m) f.side f.at seen) free) in
    let none : k + 1 ≡ k + 1 + 0 = omega arith in
    let n = row_leaves g w p l.first (doing g.segments (instr.Memory 4 true x i mode) l.first) st s m s.now m (k + 1) 0 1 (old ∷ []) m.regs.x
    (memory_row 4 true mode i x (at_left m)) l.loads refl z.at row (subst (λ (j : ℕ). Matched st s.now m j) none z.matches)
    (kept_same (s.now.top + (k + 1)) s.now m.stack) z.silent (seen.small, tt) refl in
    let both = values_join st p l.first 1 1 k d0 m0 (v ∷ []) (old ∷ []) s m s n.0 z n.2.0 in
    let first = l.loads.rise in
    let next = l.exchanges.rise in
    let third = l.puts.rise in
    let last = l.stores.rise in
    let many = w.enough in
    then_follows g w (pos l.first - pos p) 0 w.reach (pos q - pos l.first) 0 w.reach (pos q - pos p) 0 w.reach (tally s) m (tally s) n.0
    (Completes st q k d0 m0) NoExit (word_stored y.far y.address (with_field old start size v ∷ []) s) n.1
    (deposit_joined g w p q st t mode i x y.far y.address k v old start size d0 m0 s n.0 l one some within both room
    (λ m1 same kept matches. finds m1 (same ∙ n.2.1) kept matches))
    (omega (arith, first, next, third, last)) (omega (arith, many)) (omega (arith, many)))
    (stray_here g w (pos q - pos p) 0 w.reach st (on p) (k + 1) s s.begun m (Completes st q k d0 m0) NoExit l.loads.start z.at refl z.matches)
    (λ past. not_loaded g w p q st mode i x k v start size d0 m0 s m l z
    (rows.word_not_there mode i x f.place Bounds (at_left m) found (past_read f.place y.far y.address (at_left m) f.side f.at past))))
