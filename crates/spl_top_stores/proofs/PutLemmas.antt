-- Values stored through words that are counted from the top: the word brought below the value, the store through it, and what deletes it.
use Rattle.std.proofs.Common.{◌≡◌, ℕ, ◌+◌, ◌-◌, ◌≤◌, Bool, true, false, List, [], ◌∷◌, length, refl, sym, subst, ◌∙◌, arith}
use Rattle.std.specs.Prelude.{Some}
use Rattle.spl_tops.specs.hp_instr.declared.instruction.Instr.TheVariants as instr
use Rattle.spl_tops.specs.hp_instr.declared.instruction.Mode.{Mode}
use Rattle.spl_tops.specs.hp_instr.declared.instruction.Mode.TheVariants.{SMinus}
use Rattle.spl_tops.specs.hp_instr.Instructions.{op}
use Rattle.spl_tops.specs.hp_session.State.{Machine}
use Rattle.spl_tops.specs.hp_flat.Step.{at_left}
use Rattle.spl_tops.specs.spl_tree.declared.names_and_places.At.{At}
use Rattle.spl_tops.specs.spl_tree.declared.expressions.Kind.{Kind}
use Rattle.spl_tops.specs.spl_tree.declared.expressions.Kind.TheVariants as kind
use Rattle.spl_tops.specs.spl_branch.declared.pieces.Piece.{Piece}
use Rattle.spl_tops.specs.spl_branch.declared.pieces.Piece.TheVariants.{Do, Begin}
use Rattle.spl_tops.specs.spl_meaning.Kinds.{width}
use Rattle.spl_tops.specs.spl_meaning.Operations.{kept}
use Rattle.spl_tops.specs.spl_meaning.Places.{data_word, above_base, below_base, below_return}
use Rattle.spl_tops.specs.spl_meaning.References.{Setting, address_of, element_located, led_located, index_or_zero, word_at, store}
use Rattle.spl_tops.specs.spl_meaning.States.{Data, State, Outcome, done, leaves, spent, ends, strays, then_go, stopping}
use Rattle.spl_tops.specs.spl_meaning.Values.{as_index}
use Rattle.spl_tops.specs.spl_code.Code.{as_value}
use Rattle.spl_tops.specs.spl_code.Instructions.{LDX, DEL, DDEL}
use Rattle.spl_tops.specs.spl_code.Operands.{mode_of}
use Rattle.spl_tops.specs.spl_code.Parts.{Part, pieces, piece, ◌⨟◌}
use Rattle.spl_tops.specs.spl_code.Stores as code
use Rattle.spl_tops.specs.spl_code.Stores.{cell_under, cell_stored, element_stored}
use Rattle.spl_tops.specs.spl_follow.Spots.{Spot, pos, on, Ground}
use Rattle.spl_tops.specs.spl_follow.Leading.{Leads}
use Rattle.spl_tops.specs.spl_follow.Matching.{IsValue, IsAnswer}
use Rattle.spl_tops.specs.spl_follow.Following.{Rate, tally, Follows, NoExit}
use Rattle.spl_tops.specs.spl_follow.Doing.{doing}
use Rattle.spl_tops.specs.spl_follow.Standing.{Sites, Stands}
use Rattle.spl_tops.specs.spl_follow.Parts.{Completes}
use Rattle.spl_tops.specs.spl_follow.Simulating.{Surroundings, Simulates, Performs}
use Rattle.spl_tops.proofs.spl_follow_proofs.FollowLemmas.{then_follows, tail_follows, bind_follows}
use Rattle.spl_tops.proofs.spl_follow_proofs.KeepLemmas.{kept_top, kept_stack}
use Rattle.spl_tops.proofs.spl_follow_proofs.PartLemmas.{stand_in_order}
use Rattle.spl_tops.specs.spl_values.Reached.{IsWhole}
use Rattle.spl_tops.proofs.spl_values_proofs.GiveLemmas.{last_leads}
use Rattle.spl_tops.proofs.spl_operands_proofs.OperandLemmas.{first_element, indexed_element}
use Rattle.spl_tops.proofs.spl_operands_proofs.StoreLemmas.{storing, index_deleted}
use Rattle.spl_tops.proofs.spl_operands_proofs.AssignLemmas.{value_stored, elements_assigned, element_stored_by}
use Rattle.spl_tops.proofs.spl_doubles_proofs.CellLemmas as double
use Rattle.spl_tops.proofs.SeenLemmas.{IsBelow, below_is}
use Rattle.spl_tops.proofs.UnderLemmas.{Indexed, value_answer, cell_under_closed, cell_under_follows}
use Rattle.spl_top_stores.specs.Laws.{ElementsPut, DoubleCellsPut, DoubleElementsPut}
use Rattle.spl_top_stores.proofs.OverLemmas.{lowest_taken, over_stored, both_deleted}

-- the store of a kind is its instruction
pub store_is : (t : Kind) (i x : Bool) (mode : Mode) → code.store t i x mode ≡ Do (storing t i x mode)
store_is kind.Integer i x mode = refl
store_is kind.Logical i x mode = refl
store_is kind.Byte i x mode = refl
store_is kind.Double i x mode = refl

-- what comes of a word through which a value is stored is what comes of where it leads
led_same : (far : Bool) (t : Kind) (i : ℕ) (vs : List ℕ) (o : Outcome ℕ)
    → then_go o (λ c u. store (element_located far t c i) (kept t vs) u)
    ≡ then_go (then_go o (λ c u. done (element_located far t c i) u)) (λ y u. store y (kept y.kind vs) u)
led_same far t i vs (done c s) = refl
led_same far t i vs (leaves x s) = refl
led_same far t i vs (spent s) = refl
led_same far t i vs (ends e s) = refl
led_same far t i vs (strays s) = refl

-- ---- without an index

-- the store and DEL
cell_over : (g : Ground) (w : Rate) (p r q : Spot) (st : Setting) (t : Kind) (far : Bool) (k c : ℕ) (vs : List ℕ) (s : State) (m : Machine) (d0 : Data)
    (m0 : Machine) → far ≡ st.split → length vs ≡ width t → d0.top + (k + (width t + 1)) ≤ d0.stack
    → Leads g (on p) r (doing g.segments (storing t true false (SMinus (width t))) r) → Leads g (on r) q (doing g.segments (instr.Pair (op 0o40) (op 0)) q)
    → IsAnswer st p (width t + 1) k d0 m0 (c ∷ vs) s m
    → Follows g w (pos q - pos p) 0 w.reach (tally s) m (Completes st q k d0 m0) NoExit (store (element_located far t c 0) (kept t vs) s)
cell_over g w p r q st t far k c vs s m d0 m0 side wide room puts deletes x =
    let top = kept_top (d0.top + k) d0 m0.stack s.now m.stack x.kept in
    let stack = kept_stack (d0.top + k) d0 m0.stack s.now m.stack x.kept in
    let first = puts.rise in
    let next = deletes.rise in
    let many = w.enough in
    tail_follows g w (pos r - pos p) 0 w.reach (pos q - pos r) 0 w.reach (pos q - pos p) 0 w.reach (tally s) m (Completes st r (k + 1) s.now m)
    (Completes st q k d0 m0) NoExit (store (element_located far t c 0) (kept t vs) s)
    (over_stored g w p r st t far false k (width t + 1) 0 c [] vs d0 m0 s m puts
    (record { side = side; wide = wide; same = λ cell. first_element t cell (at_left m); answer = x; room = omega (arith, room, top, stack) }))
    (λ e s1 m1 a fewer. index_deleted g w r q st k d0 m0 s.now m s1 m1 deletes x.kept a)
    (omega (arith, first, next)) (omega arith) (omega (arith, many)) (omega (arith, many))

-- from a value on top, whether a condition code is known or not
pub cell_put : (g : Ground) (w : Rate) (sites : Sites) (p q : Spot) (st : Setting) (t : Kind) (far : Bool) (k i : ℕ) (vs : List ℕ) (s : State) (m : Machine)
    (d0 : Data) (m0 : Machine) → length vs ≡ width t → far ≡ st.split → IsBelow st k i → s.now.top + (k + (width t + 1)) ≤ s.now.stack
    → Stands g sites (on p) (cell_stored t true (mode_of k (below_return i))) q → IsAnswer st p (width t) k d0 m0 vs s m
    → Follows g w (pos q - pos p) 0 w.reach (tally s) m (Completes st q k d0 m0) NoExit
    (then_go (led_located far t (Some (below_return i)) 0 s) (λ y u. store y (kept y.kind vs) u))
cell_put g w sites p q st t far k i vs s m d0 m0 wide side below room stands x =
    let mode = mode_of k (below_return i) in
    let a = address_of (below_return i) s.now in
    let cut = stand_in_order g sites (cell_under t (width t) mode) (code.store t true false (SMinus (width t)) ∷ DEL ∷ []) (on p) q
    (cell_under_closed t (width t) mode) stands in
    let r = cut.0 in
    let rest : Stands g sites (on r) (Do (storing t true false (SMinus (width t))) ∷ DEL ∷ []) q =
    subst (λ (b : Piece). Stands g sites (on r) (b ∷ DEL ∷ []) q) (store_is t true false (SMinus (width t))) cut.2 in
    let top = kept_top (d0.top + k) d0 m0.stack s.now m.stack x.kept in
    let stack = kept_stack (d0.top + k) d0 m0.stack s.now m.stack x.kept in
    let before = cut.3 in
    let behind = cut.4 in
    let many = w.enough in
    subst (λ (o : Outcome (Unit {0})). Follows g w (pos q - pos p) 0 w.reach (tally s) m (Completes st q k d0 m0) NoExit o)
    (led_same far t 0 vs (word_at false a s))
    (bind_follows g w (pos r - pos p) 0 w.reach (pos q - pos r) 0 w.reach (pos q - pos p) 0 w.reach (tally s) m
    (λ c s1 m1. IsAnswer st r (width t + 1) k d0 m0 (c ∷ vs) s1 m1) (Completes st q k d0 m0) NoExit (word_at false a s)
    (λ c u. store (element_located far t c 0) (kept t vs) u)
    (cell_under_follows g w sites p r st t k (width t) i [] vs s m d0 m0 wide below (omega (arith, room)) cut.1 x)
    (λ c s1 m1 y fewer. cell_over g w r rest.0 q st t far k c vs s1 m1 d0 m0 side wide (omega (arith, room, top, stack)) rest.1
    (last_leads g sites (on rest.0) (instr.Pair (op 0o40) (op 0)) q rest.2) y)
    (omega (arith, before, behind)) (omega arith) (omega (arith, many)) (omega (arith, many)))

-- ---- at an index

-- the store and DDEL
indexed_over : (g : Ground) (w : Rate) (p r q : Spot) (st : Setting) (t : Kind) (far : Bool) (k u c : ℕ) (vs : List ℕ) (s : State) (m : Machine) (d0 : Data)
    (m0 : Machine) → far ≡ st.split → length vs ≡ width t → d0.top + (k + (width t + 1 + 1)) ≤ d0.stack
    → Leads g (on p) r (doing g.segments (storing t true true (SMinus (width t))) r) → Leads g (on r) q (doing g.segments (instr.Pair (op 0o02) (op 0)) q)
    → Indexed st p (width t + 1 + 1) k d0 m0 (u ∷ c ∷ vs) u s m
    → Follows g w (pos q - pos p) 0 w.reach (tally s) m (Completes st q k d0 m0) NoExit (store (element_located far t c u) (kept t vs) s)
indexed_over g w p r q st t far k u c vs s m d0 m0 side wide room puts deletes x =
    let top = kept_top (d0.top + k) d0 m0.stack s.now m.stack x.0.kept in
    let stack = kept_stack (d0.top + k) d0 m0.stack s.now m.stack x.0.kept in
    let first = puts.rise in
    let next = deletes.rise in
    let many = w.enough in
    tail_follows g w (pos r - pos p) 0 w.reach (pos q - pos r) 0 w.reach (pos q - pos p) 0 w.reach (tally s) m (Completes st r (k + 2) s.now m)
    (Completes st q k d0 m0) NoExit (store (element_located far t c u) (kept t vs) s)
    (over_stored g w p r st t far true k (width t + 1 + 1) u c (u ∷ []) vs d0 m0 s m puts
    (record { side = side; wide = wide; same = λ cell. indexed_element t cell u (at_left m) x.1; answer = x.0; room = omega (arith, room, top, stack) }))
    (λ e s1 m1 a fewer. both_deleted g w r q st k d0 m0 s.now m s1 m1 deletes x.0.kept a)
    (omega (arith, first, next)) (omega arith) (omega (arith, many)) (omega (arith, many))

-- LDX before them
element_over : (g : Ground) (w : Rate) (p r1 r2 q : Spot) (st : Setting) (t : Kind) (far : Bool) (k u c : ℕ) (vs : List ℕ) (s : State) (m : Machine) (d0 : Data)
    (m0 : Machine) → far ≡ st.split → length vs ≡ width t → d0.top + (k + (width t + 1 + 1)) ≤ d0.stack
    → Leads g (on p) r1 (doing g.segments (instr.Memory 11 true false false (SMinus (width t + 1))) r1)
    → Leads g (on r1) r2 (doing g.segments (storing t true true (SMinus (width t))) r2) → Leads g (on r2) q (doing g.segments (instr.Pair (op 0o02) (op 0)) q)
    → IsAnswer st p (width t + 1 + 1) k d0 m0 (u ∷ c ∷ vs) s m
    → Follows g w (pos q - pos p) 0 w.reach (tally s) m (Completes st q k d0 m0) NoExit (store (element_located far t c u) (kept t vs) s)
element_over g w p r1 r2 q st t far k u c vs s m d0 m0 side wide room takes puts deletes x =
    let top = kept_top (d0.top + k) d0 m0.stack s.now m.stack x.kept in
    let stack = kept_stack (d0.top + k) d0 m0.stack s.now m.stack x.kept in
    let f = lowest_taken g w p r1 st k (width t + 1) u (c ∷ vs) s m d0 m0 (omega (arith, wide)) takes x (omega (arith, room, top, stack)) in
    let first = takes.rise in
    let second = puts.rise in
    let third = deletes.rise in
    let many = w.enough in
    then_follows g w (pos r1 - pos p) 0 w.reach (pos q - pos r1) 0 w.reach (pos q - pos p) 0 w.reach (tally s) m (tally s) f.0 (Completes st q k d0 m0) NoExit
    (store (element_located far t c u) (kept t vs) s) f.1
    (indexed_over g w r1 r2 q st t far k u c vs s f.0 d0 m0 side wide room puts deletes f.2.1)
    (omega (arith, first, second, third)) (omega (arith, many)) (omega (arith, many))

-- from a value on top and the index below it
pub element_put : (g : Ground) (w : Rate) (sites : Sites) (p q : Spot) (st : Setting) (t : Kind) (far : Bool) (k i u : ℕ) (vs : List ℕ) (s : State)
    (m : Machine) (d0 : Data) (m0 : Machine) → length vs ≡ width t → far ≡ st.split → IsBelow st k i → s.now.top + (k + (width t + 1 + 1)) ≤ s.now.stack
    → Stands g sites (on p) (element_stored t true (mode_of k (below_return i))) q → IsAnswer st p (width t + 1) k d0 m0 (u ∷ vs) s m
    → Follows g w (pos q - pos p) 0 w.reach (tally s) m (Completes st q k d0 m0) NoExit
    (then_go (led_located far t (Some (below_return i)) u s) (λ y e. store y (kept y.kind vs) e))
element_put g w sites p q st t far k i u vs s m d0 m0 wide side below room stands x =
    let mode = mode_of k (below_return i) in
    let a = address_of (below_return i) s.now in
    let cut = stand_in_order g sites (cell_under t (width t + 1) mode)
    (LDX (SMinus (width t + 1)) ∷ code.store t true true (SMinus (width t)) ∷ DDEL ∷ []) (on p) q
    (cell_under_closed t (width t + 1) mode) stands in
    let r = cut.0 in
    let rest : Stands g sites (on r) (LDX (SMinus (width t + 1)) ∷ Do (storing t true true (SMinus (width t))) ∷ DDEL ∷ []) q =
    subst (λ (b : Piece). Stands g sites (on r) (LDX (SMinus (width t + 1)) ∷ b ∷ DDEL ∷ []) q) (store_is t true true (SMinus (width t))) cut.2 in
    let top = kept_top (d0.top + k) d0 m0.stack s.now m.stack x.kept in
    let stack = kept_stack (d0.top + k) d0 m0.stack s.now m.stack x.kept in
    let before = cut.3 in
    let behind = cut.4 in
    let many = w.enough in
    subst (λ (o : Outcome (Unit {0})). Follows g w (pos q - pos p) 0 w.reach (tally s) m (Completes st q k d0 m0) NoExit o)
    (led_same far t u vs (word_at false a s))
    (bind_follows g w (pos r - pos p) 0 w.reach (pos q - pos r) 0 w.reach (pos q - pos p) 0 w.reach (tally s) m
    (λ c s1 m1. IsAnswer st r (width t + 1 + 1) k d0 m0 (u ∷ c ∷ vs) s1 m1) (Completes st q k d0 m0) NoExit (word_at false a s)
    (λ c e. store (element_located far t c u) (kept t vs) e)
    (cell_under_follows g w sites p r st t k (width t + 1) i (u ∷ []) vs s m d0 m0 wide below (omega (arith, room)) cut.1 x)
    (λ c s1 m1 y fewer. element_over g w r rest.0 rest.2.0 q st t far k u c vs s1 m1 d0 m0 side wide (omega (arith, room, top, stack)) rest.1 rest.2.1
    (last_leads g sites (on rest.2.0) (instr.Pair (op 0o02) (op 0)) q rest.2.2) y)
    (omega (arith, before, behind)) (omega arith) (omega (arith, many)) (omega (arith, many)))

-- ---- the laws

-- words in elements
elements_below : (z : Surroundings) (d k need more number : ℕ) (at : At) (far : Bool) (t : Kind) (n : ℕ) (a b : Part) (index value : State → Outcome (List ℕ))
    → width t ≡ 1 → IsBelow z.setting k n → far ≡ z.setting.split → 3 ≤ need → more + 1 ≤ need → IsWhole a → IsWhole b
    → Simulates z d as_value 1 k need a index → Simulates z d as_value 1 (k + 1) more b value
    → Performs z d k need (piece (Begin at) ⨟ (a ⨟ b ⨟ pieces (element_stored t true (mode_of k (below_return n)))))
    (λ s. stopping number at s (λ u. then_go (then_go (index u) as_index) (λ i v. then_go (value v) (λ vs w.
    then_go (led_located far t (Some (below_return n)) (index_or_zero i) w) (λ p x. store p (kept p.kind vs) x)))))
elements_below z d k need more number at far t n a b index value one below side enough fits wa wb sa sb =
    element_stored_by z d k need more 1 number at a b (element_stored t true (mode_of k (below_return n))) index value
    (λ i vs w. then_go (led_located far t (Some (below_return n)) i w) (λ p x. store p (kept p.kind vs) x)) fits wa wb sa sb
    (λ p q u vs s m d0 m0 stands wide is room.
    let two : 2 ≡ width t + 1 = omega (arith, one) in
    element_put z.ground z.rate z.sites p q z.setting t far k n u vs s m d0 m0 (wide ∙ sym one) side below (omega (arith, room, enough, one)) stands
    (value_answer z.setting p (width t + 1) k d0 m0 (u ∷ vs) s m (subst (λ (j : ℕ). IsValue z.setting p j k d0 m0 (u ∷ vs) s m) two is)))

-- by the place
pub elements_put : ElementsPut
elements_put z d k need more number at far t (data_word n) a b index value one seen side enough fits wa wb sa sb =
    elements_assigned z d k need more number at far t (data_word n) a b index value one seen side (omega (arith, enough)) fits wa wb sa sb
elements_put z d k need more number at far t (above_base n) a b index value one seen side enough fits wa wb sa sb =
    elements_assigned z d k need more number at far t (above_base n) a b index value one seen side (omega (arith, enough)) fits wa wb sa sb
elements_put z d k need more number at far t (below_base n) a b index value one seen side enough fits wa wb sa sb =
    elements_assigned z d k need more number at far t (below_base n) a b index value one seen side (omega (arith, enough)) fits wa wb sa sb
elements_put z d k need more number at far t (below_return n) a b index value one seen side enough fits wa wb sa sb =
    elements_below z d k need more number at far t n a b index value one (below_is z.setting k n seen) side enough fits wa wb sa sb

-- DOUBLEs through words
pub double_cells_put : DoubleCellsPut
double_cells_put z d k need number at far (data_word n) a value seen side enough whole sim =
    double.cells_assigned z d k need number at far (data_word n) a value seen side (omega (arith, enough)) whole sim
double_cells_put z d k need number at far (above_base n) a value seen side enough whole sim =
    double.cells_assigned z d k need number at far (above_base n) a value seen side (omega (arith, enough)) whole sim
double_cells_put z d k need number at far (below_base n) a value seen side enough whole sim =
    double.cells_assigned z d k need number at far (below_base n) a value seen side (omega (arith, enough)) whole sim
double_cells_put z d k need number at far (below_return n) a value seen side enough whole sim =
    value_stored z d k need 2 number at a (cell_stored kind.Double true (mode_of k (below_return n))) value
    (λ vs v. then_go (led_located far kind.Double (Some (below_return n)) 0 v) (λ p x. store p (kept p.kind vs) x)) whole sim
    (λ p q vs s m d0 m0 stands is room.
    cell_put z.ground z.rate z.sites p q z.setting kind.Double far k n vs s m d0 m0 is.wide side (below_is z.setting k n seen)
    (omega (arith, room, enough)) stands (value_answer z.setting p 2 k d0 m0 vs s m is))

-- and in elements
pub double_elements_put : DoubleElementsPut
double_elements_put z d k need more number at far (data_word n) a b index value seen side enough fits wa wb sa sb =
    double.elements_assigned z d k need more number at far (data_word n) a b index value seen side (omega (arith, enough)) fits wa wb sa sb
double_elements_put z d k need more number at far (above_base n) a b index value seen side enough fits wa wb sa sb =
    double.elements_assigned z d k need more number at far (above_base n) a b index value seen side (omega (arith, enough)) fits wa wb sa sb
double_elements_put z d k need more number at far (below_base n) a b index value seen side enough fits wa wb sa sb =
    double.elements_assigned z d k need more number at far (below_base n) a b index value seen side (omega (arith, enough)) fits wa wb sa sb
double_elements_put z d k need more number at far (below_return n) a b index value seen side enough fits wa wb sa sb =
    element_stored_by z d k need more 2 number at a b (element_stored kind.Double true (mode_of k (below_return n))) index value
    (λ i vs w. then_go (led_located far kind.Double (Some (below_return n)) i w) (λ p x. store p (kept p.kind vs) x)) fits wa wb sa sb
    (λ p q u vs s m d0 m0 stands wide is room.
    element_put z.ground z.rate z.sites p q z.setting kind.Double far k n u vs s m d0 m0 wide side (below_is z.setting k n seen)
    (omega (arith, room, enough)) stands (value_answer z.setting p 3 k d0 m0 (u ∷ vs) s m is))
