-- Addresses of elements: the index goes to X, and LRA adds it to the cell.
use Rattle.std.proofs.Common.{◌≡◌, ℕ, ◌+◌, ◌*◌, ◌-◌, ◌%◌, ◌≤◌, Bool, true, false, List, [], ◌∷◌, ◌++◌, refl, ap, subst, ◌∙◌, arith}
use Rattle.std.specs.Prelude.{Option, Some, None}
use Rattle.spl_variables.specs.hp_word.declared.endings.Trap.TheVariants.{Bounds}
use Rattle.spl_variables.specs.hp_instr.declared.instruction.Instr.TheVariants as instr
use Rattle.spl_variables.specs.hp_instr.Instructions.{op}
use Rattle.spl_variables.specs.hp_session.State.{Machine}
use Rattle.spl_variables.specs.hp_session.Places.{address}
use Rattle.spl_variables.specs.hp_word_rows.WordRows.{shifting}
use Rattle.spl_variables.specs.hp_memory_rows.MemoryRows.{memory_row}
use Rattle.spl_variables.specs.hp_flat.Step.{at_left}
use Rattle.spl_variables.proofs.hp_yields_proofs.MemoryYields as rows
use Rattle.spl_variables.specs.spl_tree.declared.expressions.Kind.{Kind}
use Rattle.spl_variables.specs.spl_tree.declared.expressions.Kind.TheVariants as kind
use Rattle.spl_variables.specs.spl_branch.declared.pieces.Piece.{Piece}
use Rattle.spl_variables.specs.spl_meaning.Places.{Place}
use Rattle.spl_variables.specs.spl_meaning.References.{Setting, Located, address_of, element_address, element_located, led_located, index_or_zero}
use Rattle.spl_variables.specs.spl_meaning.States.{Data, State, Outcome, done, then_go}
use Rattle.spl_variables.specs.spl_meaning.Values.{as_index, address_done}
use Rattle.spl_variables.specs.spl_code.Code.{as_value}
use Rattle.spl_variables.specs.spl_code.Instructions.{LSL, STAX}
use Rattle.spl_variables.specs.spl_code.Operands.{mode_of, cell_address}
use Rattle.spl_variables.specs.spl_code.Parts.{Part, pieces, ◌⨟◌}
use Rattle.spl_variables.specs.spl_follow.Spots.{Spot, pos, on, Ground}
use Rattle.spl_variables.specs.spl_follow.Leading.{Leads}
use Rattle.spl_variables.specs.spl_follow.Matching.{IsValue}
use Rattle.spl_variables.specs.spl_follow.Following.{Rate, tally, tally_with, Follows, NoExit}
use Rattle.spl_variables.specs.spl_follow.Doing.{doing}
use Rattle.spl_variables.specs.spl_follow.Standing.{Stands, IsClosed}
use Rattle.spl_variables.specs.spl_follow.Simulating.{Surroundings, Simulates}
use Rattle.spl_variables.proofs.spl_follow_proofs.FollowLemmas.{then_follows, bind_follows}
use Rattle.spl_variables.proofs.spl_follow_proofs.KeepLemmas.{kept_top, kept_stack}
use Rattle.spl_variables.proofs.spl_follow_proofs.PartLemmas.{stand_in_order}
use Rattle.spl_variables.proofs.spl_follow_proofs.StandLemmas.{closed_last}
use Rattle.spl_variables.specs.spl_values.Reached.{is_seen, IsWhole}
use Rattle.spl_variables.proofs.spl_values_proofs.GiveLemmas.{last_leads, value_row}
use Rattle.spl_variables.specs.spl_operands.Operands.{Loading, IsIndex}
use Rattle.spl_variables.proofs.spl_operands_proofs.SeeLemmas.{see}
use Rattle.spl_variables.proofs.spl_operands_proofs.OperandLemmas.{through, through_past}
use Rattle.spl_variables.proofs.spl_operands_proofs.SeenLemmas.{seen_based}
use Rattle.spl_variables.proofs.spl_operands_proofs.LoadLemmas.{load_room, load_gives, load_traps, load_strays}
use Rattle.spl_variables.proofs.spl_operands_proofs.ReadLemmas.{index_to_register}
use Rattle.spl_addresses.specs.Laws.{AddressesOfElementsSimulate}
use Rattle.spl_addresses.proofs.AddressLemmas.{doubles}

-- ---- the index

-- X has what an index of such elements adds to an address
abbrev Turned : Setting → Spot → ℕ → Data → Machine → Kind → ℕ → State → Machine → Type 0
Turned st p k d0 m0 t v s m = IsIndex st p k d0 m0 m.regs.x s m × ((cell : ℕ) → (cell + 1 * m.regs.x) % 65536 % 65536 ≡ element_address t cell v % 65536)

abbrev HasTurned : Setting → Spot → ℕ → Data → Machine → Kind → Option ℕ → State → Machine → Type 0
HasTurned st p k d0 m0 t None s m = ⊥
HasTurned st p k d0 m0 t (Some v) s m = Turned st p k d0 m0 t v s m

-- STAX: X is the word on top, x
x_turned : (g : Ground) (w : Rate) (p r : Spot) (st : Setting) (s : State) (m : Machine) (d0 : Data) (m0 : Machine) (k x v : ℕ) (t : Kind)
    → Leads g (on p) r (doing g.segments (instr.Pair (op 0o43) (op 0)) r) → IsValue st p 1 k d0 m0 (x ∷ []) s m
    → ((cell : ℕ) → (cell + 1 * x) % 65536 % 65536 ≡ element_address t cell v % 65536)
    → Follows g w (pos r - pos p) 0 w.reach (tally s) m (HasTurned st r k d0 m0 t) NoExit (done (Some v) s)
x_turned g w p r st s m d0 m0 k x v t leads y same =
    let f = index_to_register g w p r st s m d0 m0 k x leads y in
    let i = f.2.index in (
      f.0,
      f.1,
      (
        record { at = f.2.at; matches = f.2.matches; kept = f.2.kept; silent = f.2.silent; index = refl },
        λ cell. ap (λ (b : ℕ). (cell + 1 * b) % 65536 % 65536) i ∙ same cell,
      ),
    )

-- an index of words and bytes goes to X as it is
plain_turned : (t : Kind) (v : ℕ) → ((cell : ℕ) → element_address t cell v ≡ (cell + v) % 65536) → (cell : ℕ)
    → (cell + 1 * v) % 65536 % 65536 ≡ element_address t cell v % 65536
plain_turned t v same cell = let is = same cell in omega (arith, is)

-- what comes of the index's one word
abbrev Turns : Surroundings → ℕ → Kind → List Piece → Type 0
Turns z k t ps = (p r : Spot) (vs : List ℕ) (s : State) (m : Machine) (d0 : Data) (m0 : Machine) → Stands z.ground z.sites (on p) ps r
    → IsValue z.setting p 1 k d0 m0 vs s m
    → Follows z.ground z.rate (pos r - pos p) 0 z.rate.reach (tally s) m (HasTurned z.setting r k d0 m0 t) NoExit (as_index vs s)

plain_turns : (z : Surroundings) (k : ℕ) (t : Kind) → ((cell v : ℕ) → element_address t cell v ≡ (cell + v) % 65536) → Turns z k t (STAX ∷ [])
plain_turns z k t same p r (v ∷ []) s m d0 m0 stands x =
    x_turned z.ground z.rate p r z.setting s m d0 m0 k v v t (last_leads z.ground z.sites (on p) (instr.Pair (op 0o43) (op 0)) r stands) x
    (plain_turned t v (λ cell. same cell v))
plain_turns z k t same p r [] s m d0 m0 stands x = let wide = x.wide in absurd (omega (arith, wide))
plain_turns z k t same p r (v ∷ u ∷ vs) s m d0 m0 stands x = let wide = x.wide in absurd (omega (arith, wide))

-- one of DOUBLEs is doubled before
double_turns : (z : Surroundings) (k : ℕ) → Turns z k kind.Double (LSL 1 ∷ STAX ∷ [])
double_turns z k p r (v ∷ []) s m d0 m0 stands x =
    let g = z.ground in
    let w = z.rate in
    let f = value_row g w p stands.0 (doing g.segments (instr.Shifted 2 1) stands.0) z.setting s m d0 m0 k 1 (v ∷ []) (2 * v % 65536) (shifting 2 1 (at_left m))
    stands.1 refl x (doubles z.setting p k d0 m0 v s m x) (omega arith) in
    let to_x = last_leads g z.sites (on stands.0) (instr.Pair (op 0o43) (op 0)) r stands.2 in
    let first = stands.1.rise in
    let next = to_x.rise in
    let many = w.enough in
    then_follows g w (pos stands.0 - pos p) 0 w.reach (pos r - pos stands.0) 0 w.reach (pos r - pos p) 0 w.reach (tally s) m (tally s) f.0
    (HasTurned z.setting r k d0 m0 kind.Double) NoExit (done (Some v) s) f.1
    (x_turned g w stands.0 r z.setting s f.0 d0 m0 k (2 * v % 65536) v kind.Double to_x f.2 (λ cell. omega arith))
    (omega (arith, first, next)) (omega (arith, many)) (omega (arith, many))
double_turns z k p r [] s m d0 m0 stands x = let wide = x.wide in absurd (omega (arith, wide))
double_turns z k p r (v ∷ u ∷ vs) s m d0 m0 stands x = let wide = x.wide in absurd (omega (arith, wide))

-- ---- the address

-- LRA through the cell, with the index in X
address_given : (g : Ground) (w : Rate) (p q : Spot) (st : Setting) (t : Kind) (far : Bool) (place : Place) (k : ℕ) (d0 : Data) (m0 : Machine) (o : Option ℕ)
    (s : State) (m : Machine) → is_seen st k place ≡ true → d0.top + k + 1 ≤ d0.stack
    → Leads g (on p) q (doing g.segments (instr.Memory 15 true true true (mode_of k place)) q) → HasTurned st p k d0 m0 t o s m
    → Follows g w (pos q - pos p) 0 w.reach (tally s) m (IsValue st q 1 k d0 m0) NoExit
    (then_go (led_located far t (Some place) (index_or_zero o) s) (λ y u. address_done y u))
address_given g w p q st t far place k d0 m0 None s m seen room leads x = absurd x
address_given g w p q st t far place k d0 m0 (Some v) s m seen room leads x =
    let top = kept_top (d0.top + k) d0 m0.stack s.now m.stack x.0.kept in
    let stack = kept_stack (d0.top + k) d0 m0.stack s.now m.stack x.0.kept in
    let fits : s.now.top + k + 1 ≤ s.now.stack = omega (arith, top, stack, room) in
    let y : Loading st (on p) k 1 d0 m0 s.begun s m = record { at = x.0.at; owes = refl; matches = x.0.matches; kept = x.0.kept; silent = x.0.silent; room = fits } in
    let free = load_room st (on p) k 1 d0 m0 s.begun s m y in
    let based = seen_based st s.now k place (at_left m) seen x.0.matches (omega (arith, fits)) in
    see (λ (r : Outcome Located). Follows g w (pos q - pos p) 0 w.reach (tally s) m (IsValue st q 1 k d0 m0) NoExit (then_go r (λ y u. address_done y u))) false
    (address_of place s.now) k st s (at_left m) (λ cell u. done (element_located far t cell v) u) x.0.matches (omega (arith, fits))
    (λ cell known.
    let f = through kind.Integer (mode_of k place) true (address_of place s.now) cell ((cell + 1 * m.regs.x) % 65536) (at_left m) based known.there known.word refl in
    let at = f.at in
    let same = x.1 cell in
    let is : address f.place ≡ element_address t cell v % 65536 = omega (arith, at, same) in
    subst (λ (a : ℕ). Follows g w (pos q - pos p) 0 w.reach (tally s) m (IsValue st q 1 k d0 m0) NoExit (done (a ∷ []) s)) is
    (load_gives g w (on p) q (doing g.segments (instr.Memory 15 true true true (mode_of k place)) q) st k 1 d0 m0 s.begun s m (address f.place ∷ [])
    (memory_row 15 true (mode_of k place) true true (at_left m)) leads refl y
    (rows.address_pushed (mode_of k place) true true f.place (at_left m) f.is (omega (arith, free))).words
    (omega (arith, at), tt) refl))
    (load_strays g w (on p) q (doing g.segments (instr.Memory 15 true true true (mode_of k place)) q) st k 1 d0 m0 s.begun s m leads y)
    (λ past. load_traps g w (on p) q (doing g.segments (instr.Memory 15 true true true (mode_of k place)) q) st k 1 d0 m0 s.begun s m
    (memory_row 15 true (mode_of k place) true true (at_left m)) leads refl y
    (rows.address_not_found (mode_of k place) true true Bounds (at_left m) (through_past kind.Integer (mode_of k place) true (address_of place s.now) (at_left m) based past)))

-- the index, what takes it to X, and LRA
element_gives : (z : Surroundings) (d k need : ℕ) (far : Bool) (t : Kind) (place : Place) (a : Part) (ps : List Piece) (value : State → Outcome (List ℕ))
    → is_seen z.setting k place ≡ true → 1 ≤ need → IsWhole a → IsClosed ps → Turns z k t ps → Simulates z d as_value 1 k need a value
    → Simulates z d as_value 1 k need (a ⨟ pieces ps ⨟ pieces (cell_address true (mode_of k place)))
    (λ s. then_go (then_go (value s) as_index) (λ i u. then_go (led_located far t (Some place) (index_or_zero i) u) (λ p v. address_done p v)))
element_gives z d k need far t place a ps value seen enough whole closed turns sim = record {
  does = λ h ws p q s l m stands front ready.
      let x = a h ws in
      let last = stand_in_order z.ground z.sites (x.pieces ++ ps) (cell_address true (mode_of k place)) p q (closed_last x.pieces ps closed) stands in
      let cut = stand_in_order z.ground z.sites x.pieces ps p last.0 (whole.closed h ws) last.1 in
      let loads = last_leads z.ground z.sites (on last.0) (instr.Memory 15 true true true (mode_of k place)) q last.2 in
      let before = cut.3 in
      let turn = cut.4 in
      let rise = loads.rise in
      let many = z.rate.enough in
      let room = ready.room in
      bind_follows z.ground z.rate (pos last.0 - pos p.at) 1 z.rate.reach (pos q - pos last.0) 0 z.rate.reach (pos q - pos p.at) 1 z.rate.reach
      (tally_with l s) m (HasTurned z.setting last.0 k s.now m t) (IsValue z.setting q 1 k s.now m) NoExit (then_go (value s) as_index)
      (λ i u. then_go (led_located far t (Some place) (index_or_zero i) u) (λ p v. address_done p v))
      (bind_follows z.ground z.rate (pos cut.0 - pos p.at) 1 z.rate.reach (pos last.0 - pos cut.0) 0 z.rate.reach (pos last.0 - pos p.at) 1 z.rate.reach
      (tally_with l s) m (IsValue z.setting cut.0 1 k s.now m) (HasTurned z.setting last.0 k s.now m t) NoExit (value s) as_index
      (sim.does h ws p cut.0 s l m cut.1 front ready)
      (λ vs u m1 is fewer. turns cut.0 last.0 vs u m1 s.now m cut.2 is)
      (omega (arith, before, turn)) (omega arith) (omega (arith, many)) (omega (arith, many)))
      (λ o u m1 has fewer. address_given z.ground z.rate last.0 q z.setting t far place k s.now m o u m1 seen (omega (arith, room, enough)) loads has)
      (omega (arith, before, turn, rise)) (omega arith) (omega (arith, many)) (omega (arith, many));
}

-- by the kind
pub elements_give : AddressesOfElementsSimulate
elements_give z d k need is_pointer far kind.Integer place a value seen enough whole sim =
    element_gives z d k need far kind.Integer place a (STAX ∷ []) value seen enough whole refl (plain_turns z k kind.Integer (λ cell v. refl)) sim
elements_give z d k need is_pointer far kind.Logical place a value seen enough whole sim =
    element_gives z d k need far kind.Logical place a (STAX ∷ []) value seen enough whole refl (plain_turns z k kind.Logical (λ cell v. refl)) sim
elements_give z d k need is_pointer far kind.Byte place a value seen enough whole sim =
    element_gives z d k need far kind.Byte place a (STAX ∷ []) value seen enough whole refl (plain_turns z k kind.Byte (λ cell v. refl)) sim
elements_give z d k need is_pointer far kind.Double place a value seen enough whole sim =
    element_gives z d k need far kind.Double place a (LSL 1 ∷ STAX ∷ []) value seen enough whole refl (double_turns z k) sim
