-- Assignments through the words of names: the index, where there is one, the value, and the store behind them.
use Rattle.std.proofs.Common.{◌≡◌, ℕ, ◌+◌, ◌-◌, ◌≤◌, Bool, true, false, List, [], ◌∷◌, ◌++◌, length, refl, sym, subst, arith}
use Rattle.std.specs.Prelude.{Option, Some, None}
use Rattle.spl_values.specs.hp_word.declared.arithmetic.Code.{Code}
use Rattle.spl_values.specs.hp_instr.declared.instruction.Instr.TheVariants as instr
use Rattle.spl_values.specs.hp_instr.declared.instruction.Mode.{Mode}
use Rattle.spl_values.specs.hp_instr.declared.instruction.Mode.TheVariants.{SMinus}
use Rattle.spl_values.specs.hp_instr.Instructions.{op}
use Rattle.spl_values.specs.hp_session.State.{Machine}
use Rattle.spl_values.specs.hp_flat.Step.{at_left}
use Rattle.spl_values.specs.spl_tree.declared.names_and_places.At.{At}
use Rattle.spl_values.specs.spl_tree.declared.expressions.Kind.{Kind}
use Rattle.spl_values.specs.spl_tree.declared.expressions.Kind.TheVariants as kind
use Rattle.spl_values.specs.spl_branch.declared.pieces.Piece.{Piece}
use Rattle.spl_values.specs.spl_branch.declared.pieces.Piece.TheVariants.{Do, Begin}
use Rattle.spl_values.specs.spl_meaning.Kinds.{width}
use Rattle.spl_values.specs.spl_meaning.Operations.{kept}
use Rattle.spl_values.specs.spl_meaning.Places.{Place}
use Rattle.spl_values.specs.spl_meaning.References.{Setting, Located, led_located, index_or_zero, store}
use Rattle.spl_values.specs.spl_meaning.States.{Data, State, Outcome, then_go, stopping}
use Rattle.spl_values.specs.spl_meaning.Values.{as_index}
use Rattle.spl_values.specs.spl_code.Code.{as_value}
use Rattle.spl_values.specs.spl_code.Instructions.{LDX, DEL}
use Rattle.spl_values.specs.spl_code.Operands.{mode_of}
use Rattle.spl_values.specs.spl_code.Parts.{Part, pieces, piece, nothing, ◌⨟◌}
use Rattle.spl_values.specs.spl_follow.Spots.{Spot, pos, Point, on, Ground}
use Rattle.spl_values.specs.spl_follow.Leading.{Leads}
use Rattle.spl_values.specs.spl_follow.Standing.{Stands}
use Rattle.spl_values.specs.spl_follow.Matching.{Matched, Coded, IsValue}
use Rattle.spl_values.specs.spl_follow.Following.{Rate, tally, tally_with, Follows, NoExit}
use Rattle.spl_values.specs.spl_follow.Doing.{doing}
use Rattle.spl_values.specs.spl_follow.Parts.{Completes, Leaving}
use Rattle.spl_values.specs.spl_follow.Simulating.{Surroundings, Simulates, Performs}
use Rattle.spl_values.proofs.spl_follow_proofs.WayLemmas.{goes_none}
use Rattle.spl_values.proofs.spl_follow_proofs.FollowLemmas.{bind_follows, no_exit}
use Rattle.spl_values.proofs.spl_follow_proofs.KeepLemmas.{kept_top, kept_stack, value_word, value_ready, values_join}
use Rattle.spl_values.proofs.spl_follow_proofs.PartLemmas.{stand_in_order, statements_begin_noted}
use Rattle.spl_values.proofs.spl_follow_proofs.StandLemmas.{closed_last}
use Rattle.spl_values.specs.Reached.{is_reached, IsWhole}
use Rattle.spl_values.proofs.GiveLemmas.{last_leads}
use Rattle.spl_values.proofs.SumLemmas.{front_on}
use Rattle.spl_operands.specs.Operands.{Refers, IndexWaits, Storing}
use Rattle.spl_operands.specs.Laws.{CellsAssigned, ElementsAssigned}
use Rattle.spl_operands.proofs.OperandLemmas.{place_refers, first_element}
use Rattle.spl_operands.proofs.StoreLemmas.{storing, store_follows, element_put}

-- ---- a value, and what stores it

-- A statement that is noted, its value of n words, and the pieces that store it: its step pays for all of it.
pub value_stored : (z : Surroundings) (d k need n number : ℕ) (at : At) (a : Part) (ps : List Piece) (value : State → Outcome (List ℕ))
    (put : List ℕ → State → Outcome (Unit {0})) → IsWhole a → Simulates z d as_value n k need a value
    → ((p q : Spot) (vs : List ℕ) (s : State) (m : Machine) (d0 : Data) (m0 : Machine) → Stands z.ground z.sites (on p) ps q
    → IsValue z.setting p n k d0 m0 vs s m → s.now.top + k + need ≤ s.now.stack
    → Follows z.ground z.rate (pos q - pos p) 0 z.rate.reach (tally s) m (Completes z.setting q k d0 m0) NoExit (put vs s))
    → Performs z d k need (piece (Begin at) ⨟ (nothing ⨟ a ⨟ pieces ps)) (λ s. stopping number at s (λ u. then_go (value u) (λ vs v. put vs v)))
value_stored z d k need n number at a ps value put whole sim stores = record {
  does = λ h ws p q s m stands front pays b.
      let x = a (h + 0 + 0) ws in
      let cut = stand_in_order z.ground z.sites x.pieces ps (record { at = p; due = Some at }) q (whole.closed (h + 0 + 0) ws) stands.1 in
      let many = z.rate.enough in
      let rise = cut.3 in
      let last = cut.4 in
      statements_begin_noted z.ground z.rate z.setting z.exits d number at p q k need s m (λ u. then_go (value u) (λ vs v. put vs v)) b
      (λ t same fewer ready. no_exit z.ground z.rate z.rate.step 2 3 (tally_with s.begun t) m (Completes z.setting q k t.now m) (Leaving z.setting z.exits k t.now m)
      (then_go (value t) (λ vs v. put vs v))
      (bind_follows z.ground z.rate (pos cut.0 - pos p) 1 z.rate.reach (pos q - pos cut.0) 0 z.rate.reach z.rate.step 2 3 (tally_with s.begun t) m
      (IsValue z.setting cut.0 n k t.now m) (Completes z.setting q k t.now m) NoExit (value t) (λ vs v. put vs v)
      (sim.does (h + 0 + 0) ws (record { at = p; due = Some at }) cut.0 t s.begun m cut.1 front ready)
      (λ vs v m1 is less.
      let top = kept_top (t.now.top + k) t.now m.stack v.now m1.stack is.kept in
      let stack = kept_stack (t.now.top + k) t.now m.stack v.now m1.stack is.kept in
      let room = ready.room in
      stores cut.0 q vs v m1 t.now m cut.2 is (omega (arith, top, stack, room)))
      (omega (arith, rise, last, pays)) (omega arith) (omega (arith, many)) (omega (arith, many))));
}

-- ---- without an index

-- behind a value STOR may stand
pub value_storing : (st : Setting) (p : Spot) (k v : ℕ) (d0 : Data) (m0 : Machine) (s : State) (m : Machine) → IsValue st p 1 k d0 m0 (v ∷ []) s m
    → s.now.top + (k + 1) ≤ s.now.stack → Storing st p k d0 m0 v s m
value_storing st p k v d0 m0 s m x room = record {
  at = x.at;
  matches = x.matches;
  top = value_word st p 1 k 0 0 d0 m0 (v ∷ []) s m x refl;
  small = x.small.0;
  kept = x.kept;
  coded = subst (λ (c : Option Code). Coded c m.regs.code) (sym x.silent) tt;
  room = room;
}

-- a value by its words, of which there is one, is stored in what a reference leads to
reference_put : (g : Ground) (w : Rate) (st : Setting) (p q : Spot) (t : Kind) (mode : Mode) (i : Bool) (k : ℕ) (vs : List ℕ) (s : State) (m : Machine)
    (d0 : Data) (m0 : Machine) (o : Outcome Located) → width t ≡ 1 → s.now.top + (k + 1) ≤ s.now.stack
    → Leads g (on p) q (doing g.segments (storing t i false mode) q) → IsValue st p 1 k d0 m0 vs s m → Refers t mode i false s (at_left m) o
    → Follows g w (pos q - pos p) 0 w.reach (tally s) m (Completes st q k d0 m0) NoExit (then_go o (λ y u. store y (kept y.kind vs) u))
reference_put g w st p q t mode i k (v ∷ []) s m d0 m0 o one room leads x refers =
    store_follows g w p q st t mode i false k v d0 m0 s m o one leads (value_storing st p k v d0 m0 s m x room) refers
reference_put g w st p q t mode i k [] s m d0 m0 o one room leads x refers = let wide = x.wide in absurd (omega (arith, wide))
reference_put g w st p q t mode i k (v ∷ u ∷ vs) s m d0 m0 o one room leads x refers = let wide = x.wide in absurd (omega (arith, wide))

-- a store where its operand is what a reference without an index leads to
pub reference_assigned : (z : Surroundings) (d k need number : ℕ) (at : At) (t : Kind) (mode : Mode) (i : Bool) (a : Part)
    (value : State → Outcome (List ℕ)) (o : State → Outcome Located) → width t ≡ 1 → 1 ≤ need → IsWhole a → Simulates z d as_value 1 k need a value
    → ((s : State) (m : Machine) → Matched z.setting s.now m (k + 1) → s.now.top + (k + 1) ≤ s.now.stack → Refers t mode i false s m (o s))
    → Performs z d k need (piece (Begin at) ⨟ (nothing ⨟ a ⨟ pieces (Do (storing t i false mode) ∷ [])))
    (λ s. stopping number at s (λ u. then_go (value u) (λ vs v. then_go (o v) (λ p x. store p (kept p.kind vs) x))))
reference_assigned z d k need number at t mode i a value o one enough whole sim refers =
    value_stored z d k need 1 number at a (Do (storing t i false mode) ∷ []) value (λ vs v. then_go (o v) (λ p x. store p (kept p.kind vs) x)) whole sim
    (λ p q vs s m d0 m0 stands is room.
    let free : s.now.top + (k + 1) ≤ s.now.stack = omega (arith, room, enough) in
    reference_put z.ground z.rate z.setting p q t mode i k vs s m d0 m0 (o s) one free (last_leads z.ground z.sites (on p) (storing t i false mode) q stands) is
    (refers s (at_left m) is.matches free))

-- through a name's word
word_cells : (z : Surroundings) (d k need number : ℕ) (at : At) (far : Bool) (t : Kind) (place : Place) (a : Part) (value : State → Outcome (List ℕ))
    → width t ≡ 1 → is_reached z.setting k place ≡ true → far ≡ z.setting.split → 1 ≤ need → IsWhole a → Simulates z d as_value 1 k need a value
    → Performs z d k need (piece (Begin at) ⨟ (nothing ⨟ a ⨟ pieces (Do (storing t true false (mode_of k place)) ∷ [])))
    (λ s. stopping number at s (λ u. then_go (value u) (λ vs v. then_go (led_located far t (Some place) 0 v) (λ p x. store p (kept p.kind vs) x))))
word_cells z d k need number at far t place a value one reached side enough whole sim =
    reference_assigned z d k need number at t (mode_of k place) true a value (λ v. led_located far t (Some place) 0 v) one enough whole sim
    (λ s m matches room. place_refers z.setting t far false 0 k (k + 1) place s m reached side matches room (λ cell. first_element t cell m))

-- by the kind
pub cells_assigned : CellsAssigned
cells_assigned z d k need number at far kind.Integer place a value one reached side enough whole sim = word_cells z d k need number at far kind.Integer place a value one reached side enough whole sim
cells_assigned z d k need number at far kind.Logical place a value one reached side enough whole sim = word_cells z d k need number at far kind.Logical place a value one reached side enough whole sim
cells_assigned z d k need number at far kind.Byte place a value one reached side enough whole sim = word_cells z d k need number at far kind.Byte place a value one reached side enough whole sim
cells_assigned z d k need number at far kind.Double place a value one reached side enough whole sim = absurd (omega (arith, one))

-- ---- with an index

-- an index by its words, of which there is one, waits
index_waits : (g : Ground) (w : Rate) (st : Setting) (p : Spot) (k : ℕ) (d0 : Data) (m0 : Machine) (vs : List ℕ) (s : State) (m : Machine)
    → IsValue st p 1 k d0 m0 vs s m → Follows g w 0 0 0 (tally s) m (IndexWaits st p k d0 m0) NoExit (as_index vs s)
index_waits g w st p k d0 m0 (u ∷ []) s m x = (m, goes_none g w 0 0 (tally s) m, x)
index_waits g w st p k d0 m0 [] s m x = let wide = x.wide in absurd (omega (arith, wide))
index_waits g w st p k d0 m0 (u ∷ v ∷ vs) s m x = let wide = x.wide in absurd (omega (arith, wide))

-- what is asked of the pieces that store a value of n words above its index
abbrev pub StoresElement : Surroundings → ℕ → ℕ → ℕ → List Piece → (ℕ → List ℕ → State → Outcome (Unit {0})) → Type 0
StoresElement z k need n ps put = (p q : Spot) (u : ℕ) (vs : List ℕ) (s : State) (m : Machine) (d0 : Data) (m0 : Machine) → Stands z.ground z.sites (on p) ps q
    → length vs ≡ n → IsValue z.setting p (1 + n) k d0 m0 (u ∷ vs) s m → s.now.top + k + need ≤ s.now.stack
    → Follows z.ground z.rate (pos q - pos p) 0 z.rate.reach (tally s) m (Completes z.setting q k d0 m0) NoExit (put u vs s)

-- The value behind an index that waits, and its store: of a part that is ready at p with these words waiting and this room.
element_assigned : (z : Surroundings) (p r q : Spot) (k need n : ℕ) (ps : List Piece) (d0 : Data) (m0 : Machine) (o : Option ℕ)
    (value : State → Outcome (List ℕ)) (put : ℕ → List ℕ → State → Outcome (Unit {0})) (s : State) (m : Machine)
    → Stands z.ground z.sites (on r) ps q → pos p ≤ pos r → pos r ≤ pos q → d0.top + k + need ≤ d0.stack
    → ((u : ℕ) → IsValue z.setting p 1 k d0 m0 (u ∷ []) s m
    → Follows z.ground z.rate (pos r - pos p) 1 z.rate.reach (tally s) m (IsValue z.setting r n (k + 1) s.now m) NoExit (value s))
    → StoresElement z k need n ps put → IndexWaits z.setting p k d0 m0 o s m
    → Follows z.ground z.rate (pos q - pos p) 1 z.rate.reach (tally s) m (Completes z.setting q k d0 m0) NoExit
    (then_go (value s) (λ vs w. put (index_or_zero o) vs w))
element_assigned z p r q k need n ps d0 m0 None value put s m stands before behind room sim stores x = absurd x
element_assigned z p r q k need n ps d0 m0 (Some u) value put s m stands before behind room sim stores x =
    let many = z.rate.enough in
    bind_follows z.ground z.rate (pos r - pos p) 1 z.rate.reach (pos q - pos r) 0 z.rate.reach (pos q - pos p) 1 z.rate.reach (tally s) m
    (IsValue z.setting r n (k + 1) s.now m) (Completes z.setting q k d0 m0) NoExit (value s)
    (λ vs w. put u vs w) (sim u x)
    (λ vs w m1 y less.
    let both = values_join z.setting p r 1 n k d0 m0 (u ∷ []) vs s m w m1 x y in
    let top = kept_top (d0.top + k) d0 m0.stack w.now m1.stack both.kept in
    let stack = kept_stack (d0.top + k) d0 m0.stack w.now m1.stack both.kept in
    stores r q u vs w m1 d0 m0 stands y.wide both (omega (arith, top, stack, room)))
    (omega (arith, before, behind)) (omega arith) (omega (arith, many)) (omega (arith, many))

-- A statement that is noted, its index, its value of n words, and the pieces that store it: its step pays for all of it.
pub element_stored_by : (z : Surroundings) (d k need more n number : ℕ) (at : At) (a b : Part) (ps : List Piece) (index value : State → Outcome (List ℕ))
    (put : ℕ → List ℕ → State → Outcome (Unit {0})) → more + 1 ≤ need → IsWhole a → IsWhole b → Simulates z d as_value 1 k need a index
    → Simulates z d as_value n (k + 1) more b value → StoresElement z k need n ps put
    → Performs z d k need (piece (Begin at) ⨟ (a ⨟ b ⨟ pieces ps))
    (λ s. stopping number at s (λ u. then_go (then_go (index u) as_index) (λ i v. then_go (value v) (λ vs w. put (index_or_zero i) vs w))))
element_stored_by z d k need more n number at a b ps index value put fits wa wb sa sb stores = record {
  does = λ h ws p q s m stands front pays begins.
      let x = a (h + 0) ws in
      let y = b (h + 0 + x.marks) x.wants in
      let start : Point = record { at = p; due = Some at } in
      let last = stand_in_order z.ground z.sites (x.pieces ++ y.pieces) ps start q (closed_last x.pieces y.pieces (wb.closed (h + 0 + x.marks) x.wants)) stands.1 in
      let cut = stand_in_order z.ground z.sites x.pieces y.pieces start last.0 (wa.closed (h + 0) ws) last.1 in
      let many = z.rate.enough in
      let before = cut.3 in
      let between = cut.4 in
      let behind = last.4 in
      statements_begin_noted z.ground z.rate z.setting z.exits d number at p q k need s m (λ u. then_go (then_go (index u) as_index) (λ i v. rest i v)) begins
      (λ t same fewer ready.
      no_exit z.ground z.rate z.rate.step 2 3 (tally_with s.begun t) m (Completes z.setting q k t.now m) (Leaving z.setting z.exits k t.now m)
      (then_go (then_go (index t) as_index) (λ i v. rest i v))
      (bind_follows z.ground z.rate (pos cut.0 - pos p) 1 z.rate.reach (pos q - pos cut.0) 1 z.rate.reach z.rate.step 2 3 (tally_with s.begun t) m
      (IndexWaits z.setting cut.0 k t.now m) (Completes z.setting q k t.now m) NoExit (then_go (index t) as_index) (λ i v. rest i v)
      (bind_follows z.ground z.rate (pos cut.0 - pos p) 1 z.rate.reach 0 0 0 (pos cut.0 - pos p) 1 z.rate.reach (tally_with s.begun t) m
      (IsValue z.setting cut.0 1 k t.now m) (IndexWaits z.setting cut.0 k t.now m) NoExit (index t) as_index
      (sa.does (h + 0) ws start cut.0 t s.begun m cut.1 (front_on x.wants y.wants z.wants (wb.keeps (h + 0 + x.marks) x.wants) front) ready)
      (λ vs v m1 is less. index_waits z.ground z.rate z.setting cut.0 k t.now m vs v m1 is) (omega arith) (omega arith) (omega arith) (omega arith))
      (λ o v m1 is less. element_assigned z cut.0 last.0 q k need n ps t.now m o value put v m1 last.2 between behind ready.room
      (λ u waits. sb.does (h + 0 + x.marks) x.wants (on cut.0) last.0 v v.begun m1 cut.2 front
      (value_ready z.setting d start cut.0 k need 1 more t s.begun m (u ∷ []) v m1 ready waits less (omega (arith, fits)))) stores is)
      (omega (arith, before, between, behind, pays)) (omega arith) (omega (arith, many)) (omega (arith, many))));
} where
  rest : Option ℕ → State → Outcome (Unit {0})
  rest i v = then_go (value v) (λ vs w. put (index_or_zero i) vs w)

-- a value by its words, of which there is one, is stored in the element
value_put : (g : Ground) (w : Rate) (p r1 r2 q : Spot) (st : Setting) (t : Kind) (far : Bool) (place : Place) (k u : ℕ) (vs : List ℕ) (d0 : Data) (m0 : Machine)
    (s : State) (m : Machine) → width t ≡ 1 → is_reached st k place ≡ true → far ≡ st.split
    → Leads g (on p) r1 (doing g.segments (instr.Memory 11 true false false (SMinus 1)) r1)
    → Leads g (on r1) r2 (doing g.segments (storing t true true (mode_of k place)) r2)
    → Leads g (on r2) q (doing g.segments (instr.Pair (op 0o40) (op 0)) q) → length vs ≡ 1 → IsValue st p 2 k d0 m0 (u ∷ vs) s m
    → s.now.top + (k + 1 + 1) ≤ s.now.stack
    → Follows g w (pos q - pos p) 0 w.reach (tally s) m (Completes st q k d0 m0) NoExit
    (then_go (led_located far t (Some place) u s) (λ y x. store y (kept y.kind vs) x))
value_put g w p r1 r2 q st t far place k u (v ∷ []) d0 m0 s m one reached side takes puts deletes wide x room =
    element_put g w p r1 r2 q st t far place k u v d0 m0 s m one reached side takes puts deletes x room
value_put g w p r1 r2 q st t far place k u [] d0 m0 s m one reached side takes puts deletes wide x room = absurd (omega (arith, wide))
value_put g w p r1 r2 q st t far place k u (v ∷ v' ∷ vs) d0 m0 s m one reached side takes puts deletes wide x room = absurd (omega (arith, wide))

-- LDX, the store and DEL
word_elements : (z : Surroundings) (d k need more number : ℕ) (at : At) (far : Bool) (t : Kind) (place : Place) (a b : Part)
    (index value : State → Outcome (List ℕ)) → width t ≡ 1 → is_reached z.setting k place ≡ true → far ≡ z.setting.split → 2 ≤ need
    → more + 1 ≤ need → IsWhole a → IsWhole b → Simulates z d as_value 1 k need a index → Simulates z d as_value 1 (k + 1) more b value
    → Performs z d k need (piece (Begin at) ⨟ (a ⨟ b ⨟ pieces (LDX (SMinus 1) ∷ Do (storing t true true (mode_of k place)) ∷ DEL ∷ [])))
    (λ s. stopping number at s (λ u. then_go (then_go (index u) as_index) (λ i v. then_go (value v) (λ vs w.
    then_go (led_located far t (Some place) (index_or_zero i) w) (λ p x. store p (kept p.kind vs) x)))))
word_elements z d k need more number at far t place a b index value one reached side enough fits wa wb sa sb =
    element_stored_by z d k need more 1 number at a b (LDX (SMinus 1) ∷ Do (storing t true true (mode_of k place)) ∷ DEL ∷ []) index value
    (λ i vs w. then_go (led_located far t (Some place) i w) (λ p x. store p (kept p.kind vs) x)) fits wa wb sa sb
    (λ p q u vs s m d0 m0 stands wide is room.
    value_put z.ground z.rate p stands.0 stands.2.0 q z.setting t far place k u vs d0 m0 s m one reached side stands.1 stands.2.1
    (last_leads z.ground z.sites (on stands.2.0) (instr.Pair (op 0o40) (op 0)) q stands.2.2) wide is (omega (arith, room, enough)))

-- by the kind
pub elements_assigned : ElementsAssigned
elements_assigned z d k need more number at far kind.Integer place a b index value one reached side enough fits wa wb sa sb =
    word_elements z d k need more number at far kind.Integer place a b index value one reached side enough fits wa wb sa sb
elements_assigned z d k need more number at far kind.Logical place a b index value one reached side enough fits wa wb sa sb =
    word_elements z d k need more number at far kind.Logical place a b index value one reached side enough fits wa wb sa sb
elements_assigned z d k need more number at far kind.Byte place a b index value one reached side enough fits wa wb sa sb =
    word_elements z d k need more number at far kind.Byte place a b index value one reached side enough fits wa wb sa sb
elements_assigned z d k need more number at far kind.Double place a b index value one reached side enough fits wa wb sa sb = absurd (omega (arith, one))
