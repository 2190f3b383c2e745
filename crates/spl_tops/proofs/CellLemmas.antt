-- Values of one word stored through words that are counted from the top: the word is brought below the value first.
use Rattle.std.proofs.Common.{◌≡◌, ℕ, ◌+◌, ◌-◌, ◌<◌, ◌≤◌, Bool, true, false, List, [], ◌∷◌, length, refl, sym, ap, subst, ◌∙◌, arith}
use Rattle.std.specs.Prelude.{Option, Some, None, slice_index}
use Rattle.spl_doubles.specs.hp_word.declared.arithmetic.Code.{Code}
use Rattle.spl_doubles.specs.hp_instr.declared.instruction.Instr.TheVariants as instr
use Rattle.spl_doubles.specs.hp_instr.declared.instruction.Mode.TheVariants.{SMinus}
use Rattle.spl_doubles.specs.hp_instr.Instructions.{op}
use Rattle.spl_doubles.specs.hp_session.State.{Machine, word}
use Rattle.spl_doubles.specs.hp_stack_rows.StackRows.{operated}
use Rattle.spl_doubles.specs.hp_flat.Step.{at_left}
use Rattle.spl_doubles.proofs.hp_yields_proofs.StackYields as stack_rows
use Rattle.spl_doubles.specs.spl_tree.declared.names_and_places.At.{At}
use Rattle.spl_doubles.specs.spl_tree.declared.expressions.Kind.{Kind}
use Rattle.spl_doubles.specs.spl_tree.declared.expressions.Kind.TheVariants as kind
use Rattle.spl_doubles.specs.spl_branch.declared.pieces.Piece.{Piece}
use Rattle.spl_doubles.specs.spl_branch.declared.pieces.Piece.TheVariants.{Do, Begin}
use Rattle.spl_doubles.specs.spl_meaning.Kinds.{width}
use Rattle.spl_doubles.specs.spl_meaning.Operations.{kept}
use Rattle.spl_doubles.specs.spl_meaning.Places.{data_word, above_base, below_base, below_return}
use Rattle.spl_doubles.specs.spl_meaning.References.{Setting, own_located, element_address, element_located, led_located, word_at, read, store}
use Rattle.spl_doubles.specs.spl_meaning.States.{Data, State, Outcome, done, leaves, spent, ends, strays, then_go, stopping}
use Rattle.spl_doubles.specs.spl_code.Code.{as_value}
use Rattle.spl_doubles.specs.spl_code.Instructions.{LDXN, XCH, DEL}
use Rattle.spl_doubles.specs.spl_code.Operands.{mode_of}
use Rattle.spl_doubles.specs.spl_code.Parts.{Part, pieces, piece, nothing, ◌⨟◌}
use Rattle.spl_doubles.specs.spl_code.Stores.{cell_stored}
use Rattle.spl_doubles.specs.spl_follow.Spots.{Spot, pos, on, Ground}
use Rattle.spl_doubles.specs.spl_follow.Leading.{Leads}
use Rattle.spl_doubles.specs.spl_follow.Matching.{Outer, Matched, Coded, IsValue}
use Rattle.spl_doubles.specs.spl_follow.Following.{Rate, tally, Follows, NoExit}
use Rattle.spl_doubles.specs.spl_follow.Doing.{doing}
use Rattle.spl_doubles.specs.spl_follow.Yielding.{Yields}
use Rattle.spl_doubles.specs.spl_follow.Parts.{Completes}
use Rattle.spl_doubles.specs.spl_follow.Simulating.{Surroundings, Simulates, Performs}
use Rattle.spl_doubles.proofs.spl_follow_proofs.FollowLemmas.{then_follows, tail_follows, bind_follows}
use Rattle.spl_doubles.proofs.spl_follow_proofs.KeepLemmas.{kept_same, kept_top, kept_stack, value_word, values_join}
use Rattle.spl_doubles.proofs.spl_follow_proofs.RowLemmas.{row_value}
use Rattle.spl_doubles.specs.spl_values.Reached.{IsWhole}
use Rattle.spl_doubles.proofs.spl_values_proofs.GiveLemmas.{last_leads}
use Rattle.spl_doubles.specs.spl_operands.Operands.{Finds, Refers, Storing}
use Rattle.spl_doubles.proofs.spl_operands_proofs.OperandLemmas.{top_based, through, first_element}
use Rattle.spl_doubles.proofs.spl_operands_proofs.LoadLemmas.{load_follows}
use Rattle.spl_doubles.proofs.spl_operands_proofs.StoreLemmas.{storing, store_follows, index_deleted}
use Rattle.spl_doubles.proofs.spl_operands_proofs.AssignLemmas.{value_stored, cells_assigned}
use Rattle.spl_tops.specs.Laws.{CellsPut}
use Rattle.spl_tops.proofs.SeenLemmas.{IsBelow, below_is, below_based, below_low}
use Rattle.spl_tops.proofs.StoreLemmas.{Down, x_down, down_finds}

-- ---- the word

-- Behind a value and X the word is loaded on top of the value.
cell_loaded : (g : Ground) (w : Rate) (p q : Spot) (st : Setting) (k n v : ℕ) (s : State) (m : Machine) (d0 : Data) (m0 : Machine) → IsBelow st k n
    → s.now.top + (k + 1) + 1 ≤ s.now.stack → Leads g (on p) q (doing g.segments (instr.Memory 4 true true false (mode_of k (below_return n))) q)
    → Down st p 1 k d0 m0 (v ∷ []) 1 s m
    → Follows g w (pos q - pos p) 0 w.reach (tally s) m (IsValue st q 1 (k + 1) s.now m) NoExit
    (then_go (own_located kind.Integer (Some (below_return n)) None s) (λ y u. read y u))
cell_loaded g w p q st k n v s m d0 m0 below room leads x =
    let mode = mode_of k (below_return n) in
    let a = s.now.inner - n in
    load_follows g w (on p) q st kind.Integer mode false true (k + 1) s.now m s.begun s m (own_located kind.Integer (Some (below_return n)) None s) leads
    (record { at = x.0.at; owes = refl; matches = x.0.matches; kept = kept_same (s.now.top + (k + 1)) s.now m.stack; silent = x.0.silent; room = room }) (
      refl,
      refl,
      down_finds kind.Integer mode a (at_left m) (below_based st s.now k 1 n (at_left m) below x.0.matches (omega (arith, room)))
          (below_low st s.now k (k + 1) n (at_left m) below x.0.matches) x.1,
    )

-- XCH: it is below the value.
cell_below : (g : Ground) (w : Rate) (p q : Spot) (st : Setting) (k v c : ℕ) (s : State) (m : Machine) (d0 : Data) (m0 : Machine)
    → Leads g (on p) q (doing g.segments (instr.Pair (op 0o32) (op 0)) q) → IsValue st p 2 k d0 m0 (v ∷ c ∷ []) s m
    → Follows g w (pos q - pos p) 0 w.reach (tally s) m (IsValue st q 2 k d0 m0) NoExit (done (c ∷ v ∷ []) s)
cell_below g w p q st k v c s m d0 m0 leads x =
    let words = x.matches.words in
    let enough : 2 ≤ length m.stack = omega (arith, words) in
    let top = value_word st p 2 k 0 1 d0 m0 (v ∷ c ∷ []) s m x refl in
    let next = value_word st p 2 k 1 0 d0 m0 (v ∷ c ∷ []) s m x refl in
    let y : Yields 2 (c ∷ v ∷ []) m (operated 0o32 m) =
    subst (λ (i : ℕ). Yields 2 (c ∷ i ∷ []) m (operated 0o32 m)) next
    (subst (λ (i : ℕ). Yields 2 (i ∷ word 1 m ∷ []) m (operated 0o32 m)) top (stack_rows.two_exchanged m enough).words) in
    row_value g w (on p) q (doing g.segments (instr.Pair (op 0o32) (op 0)) q) st s.begun s m d0 m0 k 2 2 (c ∷ v ∷ []) (operated 0o32 m) leads refl x.at refl y
    x.matches x.kept x.silent (x.small.1.0, (x.small.0, tt)) refl

-- ---- the store

-- the value on top may be stored
value_over : (st : Setting) (p : Spot) (k v c : ℕ) (s : State) (m : Machine) (d0 : Data) (m0 : Machine) → IsValue st p 2 k d0 m0 (c ∷ v ∷ []) s m
    → s.now.top + (k + 1 + 1) ≤ s.now.stack → Storing st p (k + 1) s.now m v s m
value_over st p k v c s m d0 m0 x room =
    let two : k + 2 ≡ k + 1 + 1 = omega arith in
    record {
      at = x.at;
      matches = subst (λ (j : ℕ). Matched st s.now m j) two x.matches;
      top = value_word st p 2 k 0 1 d0 m0 (c ∷ v ∷ []) s m x refl;
      small = x.small.1.0;
      kept = kept_same (s.now.top + (k + 1)) s.now m.stack;
      coded = subst (λ (c : Option Code). Coded c m.regs.code) (sym x.silent) tt;
      room = room;
    }

-- through the word below it
over_refers : (st : Setting) (t : Kind) (far : Bool) (p : Spot) (k v c : ℕ) (s : State) (m : Machine) (d0 : Data) (m0 : Machine) → far ≡ st.split
    → IsValue st p 2 k d0 m0 (c ∷ v ∷ []) s m → s.now.top + (k + 1 + 1) ≤ s.now.stack
    → Refers t (SMinus 1) true false s (at_left m) (done (element_located far t c 0) s)
over_refers st t far p k v c s m d0 m0 side x room =
    let two : k + 2 ≡ k + 1 + 1 = omega arith in
    let matches : Matched st s.now m (k + 1 + 1) = subst (λ (j : ℕ). Matched st s.now m j) two x.matches in
    let words = matches.words in
    let top = kept_top (d0.top + k) d0 m0.stack s.now m.stack x.kept in
    let low : s.now.top + k < length m.stack = omega (arith, words) in
    let stands : slice_index m.stack (s.now.top + k) ≡ c = ap (λ (b : ℕ). slice_index m.stack (b + k)) top ∙ x.stand.0 in
    let split : m.split ≡ st.split = ap (λ (u : Outer). u.split) matches.outer in (
      refl,
      refl,
      subst (λ (b : Bool). Finds t (SMinus 1) true false b (element_address t c 0) (at_left m)) (split ∙ sym side)
          (through t (SMinus 1) false (s.now.top + k) c (element_address t c 0) (at_left m) (top_based st s.now k 1 (at_left m) matches room) low stands
          (first_element t c (at_left m))),
    )

-- the store and DEL
over_put : (g : Ground) (w : Rate) (p r q : Spot) (st : Setting) (t : Kind) (far : Bool) (k v c : ℕ) (s : State) (m : Machine) (d0 : Data) (m0 : Machine)
    → width t ≡ 1 → far ≡ st.split → Leads g (on p) r (doing g.segments (storing t true false (SMinus 1)) r)
    → Leads g (on r) q (doing g.segments (instr.Pair (op 0o40) (op 0)) q) → IsValue st p 2 k d0 m0 (c ∷ v ∷ []) s m → s.now.top + (k + 1 + 1) ≤ s.now.stack
    → Follows g w (pos q - pos p) 0 w.reach (tally s) m (Completes st q k d0 m0) NoExit (store (element_located far t c 0) (kept t (v ∷ [])) s)
over_put g w p r q st t far k v c s m d0 m0 one side puts deletes x room =
    let rest = puts.rise in
    let end = deletes.rise in
    let many = w.enough in
    tail_follows g w (pos r - pos p) 0 w.reach (pos q - pos r) 0 w.reach (pos q - pos p) 0 w.reach (tally s) m (Completes st r (k + 1) s.now m)
    (Completes st q k d0 m0) NoExit (store (element_located far t c 0) (kept t (v ∷ [])) s)
    (store_follows g w p r st t (SMinus 1) true false (k + 1) v s.now m s m (done (element_located far t c 0) s) one puts (value_over st p k v c s m d0 m0 x room)
    (over_refers st t far p k v c s m d0 m0 side x room))
    (λ e s1 m1 a fewer. index_deleted g w r q st k d0 m0 s.now m s1 m1 deletes x.kept a)
    (omega (arith, rest, end)) (omega arith) (omega (arith, many)) (omega (arith, many))

-- XCH, the store and DEL
under_put : (g : Ground) (w : Rate) (p r1 r2 q : Spot) (st : Setting) (t : Kind) (far : Bool) (k v c : ℕ) (s : State) (m : Machine) (d0 : Data) (m0 : Machine)
    → width t ≡ 1 → far ≡ st.split → Leads g (on p) r1 (doing g.segments (instr.Pair (op 0o32) (op 0)) r1)
    → Leads g (on r1) r2 (doing g.segments (storing t true false (SMinus 1)) r2) → Leads g (on r2) q (doing g.segments (instr.Pair (op 0o40) (op 0)) q)
    → IsValue st p 2 k d0 m0 (v ∷ c ∷ []) s m → s.now.top + (k + 1 + 1) ≤ s.now.stack
    → Follows g w (pos q - pos p) 0 w.reach (tally s) m (Completes st q k d0 m0) NoExit (store (element_located far t c 0) (kept t (v ∷ [])) s)
under_put g w p r1 r2 q st t far k v c s m d0 m0 one side turns puts deletes x room =
    let f = cell_below g w p r1 st k v c s m d0 m0 turns x in
    let first = turns.rise in
    let rest = puts.rise in
    let end = deletes.rise in
    let many = w.enough in
    then_follows g w (pos r1 - pos p) 0 w.reach (pos q - pos r1) 0 w.reach (pos q - pos p) 0 w.reach (tally s) m (tally s) f.0 (Completes st q k d0 m0) NoExit
    (store (element_located far t c 0) (kept t (v ∷ [])) s) f.1
    (over_put g w r1 r2 q st t far k v c s f.0 d0 m0 one side puts deletes f.2 room)
    (omega (arith, first, rest, end)) (omega (arith, many)) (omega (arith, many))

-- what comes of the word that is loaded
abbrev put_by : Bool → Kind → ℕ → List ℕ → State → Outcome (Unit {0})
put_by far t v (c ∷ []) s = store (element_located far t c 0) (kept t (v ∷ [])) s
put_by far t v cs s = strays s

-- is what comes of where it leads
led_same : (far : Bool) (t : Kind) (v : ℕ) (o : Outcome ℕ)
    → then_go (then_go o (λ c u. done (c ∷ []) u)) (λ cs u. put_by far t v cs u)
    ≡ then_go (then_go o (λ c u. done (element_located far t c 0) u)) (λ y u. store y (kept y.kind (v ∷ [])) u)
led_same far t v (done c s) = refl
led_same far t v (leaves x s) = refl
led_same far t v (spent s) = refl
led_same far t v (ends e s) = refl
led_same far t v (strays s) = refl

-- ---- all of it

-- the words of what was loaded, of which there is one
cell_stands : (g : Ground) (w : Rate) (r1 r2 r3 r4 q : Spot) (st : Setting) (t : Kind) (far : Bool) (k v : ℕ) (cs : List ℕ) (s : State) (m : Machine) (u : State)
    (m1 : Machine) (d0 : Data) (m0 : Machine) → width t ≡ 1 → far ≡ st.split → Leads g (on r2) r3 (doing g.segments (instr.Pair (op 0o32) (op 0)) r3)
    → Leads g (on r3) r4 (doing g.segments (storing t true false (SMinus 1)) r4) → Leads g (on r4) q (doing g.segments (instr.Pair (op 0o40) (op 0)) q)
    → IsValue st r1 1 k d0 m0 (v ∷ []) s m → IsValue st r2 1 (k + 1) s.now m cs u m1 → s.now.top + (k + 1) + 1 ≤ s.now.stack
    → Follows g w (pos q - pos r2) 0 w.reach (tally u) m1 (Completes st q k d0 m0) NoExit (put_by far t v cs u)
cell_stands g w r1 r2 r3 r4 q st t far k v (c ∷ []) s m u m1 d0 m0 one side turns puts deletes x y room =
    let top = kept_top (s.now.top + (k + 1)) s.now m.stack u.now m1.stack y.kept in
    let stack = kept_stack (s.now.top + (k + 1)) s.now m.stack u.now m1.stack y.kept in
    under_put g w r2 r3 r4 q st t far k v c u m1 d0 m0 one side turns puts deletes
    (values_join st r1 r2 1 1 k d0 m0 (v ∷ []) (c ∷ []) s m u m1 x y) (omega (arith, room, top, stack))
cell_stands g w r1 r2 r3 r4 q st t far k v [] s m u m1 d0 m0 one side turns puts deletes x y room = let wide = y.wide in absurd (omega (arith, wide))
cell_stands g w r1 r2 r3 r4 q st t far k v (c ∷ e ∷ cs) s m u m1 d0 m0 one side turns puts deletes x y room = let wide = y.wide in absurd (omega (arith, wide))

-- LDXN, LOAD, XCH, the store and DEL
cell_put : (g : Ground) (w : Rate) (p r1 r2 r3 r4 q : Spot) (st : Setting) (t : Kind) (far : Bool) (k n : ℕ) (vs : List ℕ) (s : State) (m : Machine) (d0 : Data)
    (m0 : Machine) → width t ≡ 1 → far ≡ st.split → IsBelow st k n → s.now.top + (k + 1) + 1 ≤ s.now.stack
    → Leads g (on p) r1 (doing g.segments (instr.Immediate 9 1) r1)
    → Leads g (on r1) r2 (doing g.segments (instr.Memory 4 true true false (mode_of k (below_return n))) r2)
    → Leads g (on r2) r3 (doing g.segments (instr.Pair (op 0o32) (op 0)) r3)
    → Leads g (on r3) r4 (doing g.segments (storing t true false (SMinus 1)) r4) → Leads g (on r4) q (doing g.segments (instr.Pair (op 0o40) (op 0)) q)
    → IsValue st p 1 k d0 m0 vs s m
    → Follows g w (pos q - pos p) 0 w.reach (tally s) m (Completes st q k d0 m0) NoExit
    (then_go (led_located far t (Some (below_return n)) 0 s) (λ y u. store y (kept y.kind vs) u))
cell_put g w p r1 r2 r3 r4 q st t far k n (v ∷ []) s m d0 m0 one side below room down loads turns puts deletes x =
    let f = x_down g w p r1 st 1 k 1 (v ∷ []) s m d0 m0 down x in
    let a = s.now.inner - n in
    let first = down.rise in
    let second = loads.rise in
    let third = turns.rise in
    let fourth = puts.rise in
    let fifth = deletes.rise in
    let many = w.enough in
    then_follows g w (pos r1 - pos p) 0 w.reach (pos q - pos r1) 0 w.reach (pos q - pos p) 0 w.reach (tally s) m (tally s) f.0 (Completes st q k d0 m0) NoExit
    (then_go (led_located far t (Some (below_return n)) 0 s) (λ y u. store y (kept y.kind (v ∷ [])) u)) f.1
    (subst (λ (o : Outcome (Unit {0})). Follows g w (pos q - pos r1) 0 w.reach (tally s) f.0 (Completes st q k d0 m0) NoExit o) (led_same far t v (word_at false a s))
    (bind_follows g w (pos r2 - pos r1) 0 w.reach (pos q - pos r2) 0 w.reach (pos q - pos r1) 0 w.reach (tally s) f.0 (IsValue st r2 1 (k + 1) s.now f.0)
    (Completes st q k d0 m0) NoExit (then_go (own_located kind.Integer (Some (below_return n)) None s) (λ y u. read y u)) (λ cs u. put_by far t v cs u)
    (cell_loaded g w r1 r2 st k n v s f.0 d0 m0 below room loads f.2)
    (λ cs u m1 y fewer. cell_stands g w r1 r2 r3 r4 q st t far k v cs s f.0 u m1 d0 m0 one side turns puts deletes f.2.0 y room)
    (omega (arith, second, third, fourth, fifth)) (omega arith) (omega (arith, many)) (omega (arith, many))))
    (omega (arith, first, second, third, fourth, fifth)) (omega (arith, many)) (omega (arith, many))
cell_put g w p r1 r2 r3 r4 q st t far k n [] s m d0 m0 one side below room down loads turns puts deletes x = let wide = x.wide in absurd (omega (arith, wide))
cell_put g w p r1 r2 r3 r4 q st t far k n (v ∷ e ∷ vs) s m d0 m0 one side below room down loads turns puts deletes x = let wide = x.wide in absurd (omega (arith, wide))

-- its pieces, which are those of the kind's store
abbrev pieces_under : Kind → ℕ → ℕ → List Piece
pieces_under t k n = LDXN 1 ∷ Do (instr.Memory 4 true true false (mode_of k (below_return n))) ∷ XCH ∷ Do (storing t true false (SMinus 1)) ∷ DEL ∷ []

under_is : (t : Kind) (k n : ℕ) → width t ≡ 1 → pieces_under t k n ≡ cell_stored t true (mode_of k (below_return n))
under_is kind.Integer k n one = refl
under_is kind.Logical k n one = refl
under_is kind.Byte k n one = refl
under_is kind.Double k n one = absurd (omega (arith, one))

cells_below : (z : Surroundings) (d k need number : ℕ) (at : At) (far : Bool) (t : Kind) (n : ℕ) (a : Part) (value : State → Outcome (List ℕ)) → width t ≡ 1
    → IsBelow z.setting k n → far ≡ z.setting.split → 2 ≤ need → IsWhole a → Simulates z d as_value 1 k need a value
    → Performs z d k need (piece (Begin at) ⨟ (nothing ⨟ a ⨟ pieces (pieces_under t k n)))
    (λ s. stopping number at s (λ u. then_go (value u) (λ vs v. then_go (led_located far t (Some (below_return n)) 0 v) (λ p x. store p (kept p.kind vs) x))))
cells_below z d k need number at far t n a value one below side enough whole sim =
    value_stored z d k need 1 number at a (pieces_under t k n) value
    (λ vs v. then_go (led_located far t (Some (below_return n)) 0 v) (λ p x. store p (kept p.kind vs) x)) whole sim
    (λ p q vs s m d0 m0 stands is room.
    cell_put z.ground z.rate p stands.0 stands.2.0 stands.2.2.0 stands.2.2.2.0 q z.setting t far k n vs s m d0 m0 one side below (omega (arith, room, enough))
    stands.1 stands.2.1 stands.2.2.1 stands.2.2.2.1
    (last_leads z.ground z.sites (on stands.2.2.2.0) (instr.Pair (op 0o40) (op 0)) q stands.2.2.2.2) is)

-- by the place
pub cells_put : CellsPut
cells_put z d k need number at far t (data_word b) a value one seen side enough whole sim =
    cells_assigned z d k need number at far t (data_word b) a value one seen side (omega (arith, enough)) whole sim
cells_put z d k need number at far t (above_base b) a value one seen side enough whole sim =
    cells_assigned z d k need number at far t (above_base b) a value one seen side (omega (arith, enough)) whole sim
cells_put z d k need number at far t (below_base b) a value one seen side enough whole sim =
    cells_assigned z d k need number at far t (below_base b) a value one seen side (omega (arith, enough)) whole sim
cells_put z d k need number at far t (below_return n) a value one seen side enough whole sim =
    subst (λ (ps : List Piece). Performs z d k need (piece (Begin at) ⨟ (nothing ⨟ a ⨟ pieces ps))
    (λ s. stopping number at s (λ u. then_go (value u) (λ vs v. then_go (led_located far t (Some (below_return n)) 0 v) (λ p x. store p (kept p.kind vs) x)))))
    (under_is t k n one)
    (cells_below z d k need number at far t n a value one (below_is z.setting k n seen) side enough whole sim)
