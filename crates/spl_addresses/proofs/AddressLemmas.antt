-- Addresses of variables and of what cells lead to, and addresses that are stored in pointers.
use Rattle.std.proofs.Common.{◌≡◌, ℕ, ◌+◌, ◌*◌, ◌-◌, ◌%◌, ◌≤◌, Bool, true, false, List, [], ◌∷◌, map, refl, sym, ap, subst, ◌∙◌, arith}
use Rattle.std.specs.Prelude.{◌^◌, Option, Some, None, nat_lt, if◌then◌else◌}
use Rattle.spl_variables.specs.hp_word.declared.endings.Trap.TheVariants.{Bounds}
use Rattle.spl_variables.specs.hp_word.Bits.{shifted}
use Rattle.spl_variables.proofs.hp_word_proofs.ShiftLemmas.{shifted-Lsl}
use Rattle.spl_variables.specs.hp_instr.declared.instruction.Instr.TheVariants as instr
use Rattle.spl_variables.specs.hp_session.State.{Machine}
use Rattle.spl_variables.specs.hp_word_rows.WordRows.{shift_of, shifting}
use Rattle.spl_variables.specs.hp_memory_rows.MemoryRows.{memory_row}
use Rattle.spl_variables.specs.hp_flat.Step.{at_left}
use Rattle.spl_variables.proofs.hp_yields_proofs.MemoryYields as rows
use Rattle.spl_variables.proofs.hp_yields_proofs.WordYields as word_rows
use Rattle.spl_variables.specs.spl_tree.declared.expressions.Kind.{Kind}
use Rattle.spl_variables.specs.spl_tree.declared.expressions.Kind.TheVariants as kind
use Rattle.spl_variables.specs.spl_frames.Words.{AreWords}
use Rattle.spl_variables.specs.spl_meaning.Elements.{with_one}
use Rattle.spl_variables.specs.spl_meaning.Places.{Place}
use Rattle.spl_variables.specs.spl_meaning.References.{Setting, address_of, data_word_read, word_at, placed_word, word_stored, element_address, element_located, led_located, own_located}
use Rattle.spl_variables.specs.spl_meaning.States.{Data, State, Begun, Outcome, done, leaves, spent, ends, strays, trapped, then_go}
use Rattle.spl_variables.specs.spl_meaning.Statements.{cell_stored}
use Rattle.spl_variables.specs.spl_meaning.Values.{address_done}
use Rattle.spl_variables.specs.spl_code.Code.{as_value}
use Rattle.spl_variables.specs.spl_code.Operands.{mode_of, own_address, cell_address}
use Rattle.spl_variables.specs.spl_code.Parts.{Part, pieces}
use Rattle.spl_variables.specs.spl_code.Stores.{pointer_stored}
use Rattle.spl_variables.specs.spl_follow.Spots.{Spot, pos, Point, on, Ground}
use Rattle.spl_variables.specs.spl_follow.Leading.{Leads}
use Rattle.spl_variables.specs.spl_follow.Matching.{IsValue}
use Rattle.spl_variables.specs.spl_follow.Following.{Rate, tally, tally_with, Follows, NoExit}
use Rattle.spl_variables.specs.spl_follow.Doing.{doing}
use Rattle.spl_variables.specs.spl_follow.Yielding.{Yields}
use Rattle.spl_variables.specs.spl_follow.Parts.{Ready, Gives, Completes}
use Rattle.spl_variables.specs.spl_follow.Simulating.{Surroundings, Simulates}
use Rattle.spl_variables.proofs.spl_follow_proofs.FollowLemmas.{bind_follows}
use Rattle.spl_variables.proofs.spl_follow_proofs.KeepLemmas.{value_word}
use Rattle.spl_variables.proofs.spl_follow_proofs.WayLemmas.{goes_none}
use Rattle.spl_variables.specs.spl_values.Reached.{is_reached, is_seen}
use Rattle.spl_variables.proofs.spl_values_proofs.GiveLemmas.{last_leads, ready_room, row_gives, row_behind}
use Rattle.spl_variables.proofs.spl_values_proofs.VariableLemmas.{variables_give as words_give}
use Rattle.spl_variables.proofs.spl_values_proofs.WholeLemmas.{same_simulates}
use Rattle.spl_variables.proofs.spl_operands_proofs.SeenLemmas.{seen_based}
use Rattle.spl_variables.proofs.spl_operands_proofs.StoreLemmas.{store_follows}
use Rattle.spl_variables.proofs.spl_operands_proofs.AssignLemmas.{value_storing, value_stored}
use Rattle.spl_variables.proofs.OwnLemmas.{seen_low, own_finds, own_refers}
use Rattle.spl_addresses.specs.Laws.{AddressesOfVariablesSimulate, AddressesOfCellsSimulate, PointersAssigned}

-- ---- variables

-- LRA gives the address of a variable's word
lra_gives : (g : Ground) (w : Rate) (st : Setting) (marks : ℕ → Spot) (d : ℕ) (p : Point) (q : Spot) (k need : ℕ) (place : Place) (s : State)
    (l : List Begun) (m : Machine) → is_seen st k place ≡ true → 1 ≤ need
    → Leads g p q (doing g.segments (instr.Memory 15 true false false (mode_of k place)) q) → Ready st d p k need s l m
    → Gives g w st marks as_value 1 p q k s l m (done (address_of place s.now ∷ []) s)
lra_gives g w st marks d p q k need place s l m seen enough leads ready =
    let room = ready.room in
    let low = seen_low st s.now k place (at_left m) seen ready.matches in
    let based = seen_based st s.now k place (at_left m) seen ready.matches (omega (arith, room)) in
    let f = own_finds kind.Integer (mode_of k place) (address_of place s.now) (at_left m) based low in
    row_gives g w st marks d p q (doing g.segments (instr.Memory 15 true false false (mode_of k place)) q) k need s l m (address_of place s.now)
    (memory_row 15 true (mode_of k place) false false (at_left m)) leads refl ready
    (subst (λ (a : ℕ). Yields 0 (a ∷ []) m (memory_row 15 true (mode_of k place) false false (at_left m))) f.at
    (rows.address_pushed (mode_of k place) false false f.place (at_left m) f.is (ready_room st d p k need s l m ready enough)).words)
    (omega (arith, low))

-- LSL by one doubles a word
pub doubled : (a : ℕ) → shifted (shift_of 2) a 1 ≡ 2 * a % 65536
unfolding shift_of
doubled a = let twice : a * 2 ^ 1 % 65536 ≡ 2 * a % 65536 = omega arith in shifted-Lsl a 1 (omega arith) ∙ twice

pub doubles : (st : Setting) (p : Spot) (k : ℕ) (d : Data) (m : Machine) (v : ℕ) (s : State) (n : Machine) → IsValue st p 1 k d m (v ∷ []) s n
    → Yields 1 (2 * v % 65536 ∷ []) n (shifting 2 1 (at_left n))
doubles st p k d m v s n x =
    let words = x.matches.words in
    subst (λ (u : ℕ). Yields 1 (u ∷ []) n (shifting 2 1 (at_left n)))
    (ap (λ (u : ℕ). shifted (shift_of 2) u 1) (value_word st p 1 k 0 0 d m (v ∷ []) s n x refl) ∙ doubled v)
    (word_rows.shift 2 1 (at_left n) (omega (arith, words))).words

-- the address of a word
word_address : (z : Surroundings) (d k need : ℕ) (place : Place) → is_seen z.setting k place ≡ true → 1 ≤ need
    → Simulates z d as_value 1 k need (pieces (own_address kind.Integer false (mode_of k place))) (λ s. done (address_of place s.now % 65536 ∷ []) s)
word_address z d k need place seen enough = record {
  does = λ h ws p q s l m stands front ready.
      let low = seen_low z.setting s.now k place (at_left m) seen ready.matches in
      let same : address_of place s.now ≡ address_of place s.now % 65536 = omega (arith, low) in
      subst (λ (a : ℕ). Gives z.ground z.rate z.setting z.sites.marks as_value 1 p q k s l m (done (a ∷ []) s)) same
      (lra_gives z.ground z.rate z.setting z.sites.marks d p q k need place s l m seen enough
      (last_leads z.ground z.sites p (instr.Memory 15 true false false (mode_of k place)) q stands) ready);
}

-- and of a byte: twice as much
byte_address : (z : Surroundings) (d k need : ℕ) (place : Place) → is_seen z.setting k place ≡ true → 1 ≤ need
    → Simulates z d as_value 1 k need (pieces (own_address kind.Byte false (mode_of k place))) (λ s. done (2 * address_of place s.now % 65536 ∷ []) s)
byte_address z d k need place seen enough = record {
  does = λ h ws p q s l m stands front ready.
      let rise = stands.1.rise in
      row_behind z.ground z.rate z.setting z.sites.marks p stands.0 q (doing z.ground.segments (instr.Shifted 2 1) q) 1 k s l m (address_of place s.now ∷ [])
      (2 * address_of place s.now % 65536) (λ n. shifting 2 1 (at_left n)) (omega (arith, rise))
      (last_leads z.ground z.sites (on stands.0) (instr.Shifted 2 1) q stands.2) (λ n. refl)
      (λ n x. doubles z.setting stands.0 k s.now m (address_of place s.now) s n x) (omega arith)
      (lra_gives z.ground z.rate z.setting z.sites.marks d p stands.0 k need place s l m seen enough stands.1 ready);
}

-- by the kind
pub variables_give : AddressesOfVariablesSimulate
variables_give z d k need kind.Integer place seen enough = word_address z d k need place seen enough
variables_give z d k need kind.Logical place seen enough = word_address z d k need place seen enough
variables_give z d k need kind.Byte place seen enough = byte_address z d k need place seen enough
variables_give z d k need kind.Double place seen enough = word_address z d k need place seen enough

-- ---- cells

-- the words of a value are what they are modulo 65,536
cut_same : (vs : List ℕ) → AreWords vs → map (λ v. v % 65536) vs ≡ vs
cut_same [] h = refl
cut_same (v ∷ vs) h =
    let low = h.0 in
    let same : v % 65536 ≡ v = omega (arith, low) in
    ap (λ (u : ℕ). u ∷ map (λ v. v % 65536) vs) same ∙ ap (λ (us : List ℕ). v ∷ us) (cut_same vs h.1)

-- so code that gives them gives these
words_cut : (z : Surroundings) (d k need n : ℕ) (a : Part) (meaning : State → Outcome (List ℕ)) → Simulates z d as_value n k need a meaning
    → Simulates z d as_value n k need a (λ s. then_go (meaning s) (λ vs u. done (map (λ v. v % 65536) vs) u))
words_cut z d k need n a meaning sim = record {
  does = λ h ws p q s l m stands front ready.
      bind_follows z.ground z.rate (pos q - pos p.at) 1 z.rate.reach 0 0 0 (pos q - pos p.at) 1 z.rate.reach (tally_with l s) m
      (IsValue z.setting q n k s.now m) (IsValue z.setting q n k s.now m) NoExit (meaning s) (λ vs u. done (map (λ v. v % 65536) vs) u)
      (sim.does h ws p q s l m stands front ready)
      (λ vs u m1 x fewer. (
        m1,
        goes_none z.ground z.rate 0 0 (tally u) m1,
        subst (λ (us : List ℕ). IsValue z.setting q n k s.now m us u m1) (sym (cut_same vs x.small)) x,
      ))
      (omega arith) (omega arith) (omega arith) (omega arith);
}

-- the word of a cell is the address of element 0
first_address : (t : Kind) (cell : ℕ) → element_address t cell 0 % 65536 ≡ cell % 65536
first_address kind.Integer cell = omega arith
first_address kind.Logical cell = omega arith
first_address kind.Byte cell = omega arith
first_address kind.Double cell = omega arith

cell_is : (far : Bool) (t : Kind) (o : Outcome ℕ)
    → then_go (then_go o (λ cell u. done (element_located far t cell 0) u)) (λ p u. address_done p u)
    ≡ then_go (then_go o (λ w u. done (w ∷ []) u)) (λ vs u. done (map (λ v. v % 65536) vs) u)
cell_is far t (done cell s) = ap (λ (a : ℕ). done (a ∷ []) s) (first_address t cell)
cell_is far t (leaves x s) = refl
cell_is far t (spent s) = refl
cell_is far t (ends e s) = refl
cell_is far t (strays s) = refl

pub cells_give : AddressesOfCellsSimulate
cells_give z d k need far t place seen enough =
    same_simulates z d as_value 1 k need (pieces (cell_address false (mode_of k place))) (pieces (cell_address false (mode_of k place)))
    (λ s. then_go (led_located far t (Some place) 0 s) (λ p u. address_done p u))
    (λ s. then_go (then_go (word_at false (address_of place s.now) s) (λ w u. done (w ∷ []) u)) (λ vs u. done (map (λ v. v % 65536) vs) u))
    refl (λ s. cell_is far t (word_at false (address_of place s.now) s))
    (words_cut z d k need 1 (pieces (cell_address false (mode_of k place))) (λ s. then_go (word_at false (address_of place s.now) s) (λ w u. done (w ∷ []) u))
    (words_give z d k need kind.Integer place refl seen enough))

-- ---- pointers

-- a pointer's own word is stored as any word is
own_word : (place : Place) (v : ℕ) (s : State) → cell_stored (Some place) v s ≡ word_stored false (address_of place s.now) (v ∷ []) s
own_word place v s = by (nat_lt (address_of place s.now) s.now.stack) (s.now.mem (address_of place s.now)) where
  here : ℕ → State → Outcome (Unit {0})
  here x s1 = done tt (placed_word false (address_of place s1.now) v s1)

  there : ℕ → State → Outcome (Unit {0})
  there x s1 = done tt (placed_word false (address_of place s.now) v s1)

  by : (b : Bool) (o : Option ℕ)
      → then_go (if b then data_word_read o s else ends (trapped Bounds) s) here ≡ then_go (if b then data_word_read o s else ends (trapped Bounds) s) there
  by true (Some x) = refl
  by true None = refl
  by false o = refl

-- by the value's words, of which there is one
pointer_put : (g : Ground) (w : Rate) (st : Setting) (p q : Spot) (place : Place) (k : ℕ) (vs : List ℕ) (s : State) (m : Machine) (d0 : Data) (m0 : Machine)
    → is_reached st k place ≡ true → s.now.top + (k + 1) ≤ s.now.stack
    → Leads g (on p) q (doing g.segments (instr.Memory 5 true false false (mode_of k place)) q) → IsValue st p 1 k d0 m0 vs s m
    → Follows g w (pos q - pos p) 0 w.reach (tally s) m (Completes st q k d0 m0) NoExit (with_one vs s (λ x u. cell_stored (Some place) x u))
pointer_put g w st p q place k (v ∷ []) s m d0 m0 reached room leads x =
    subst (λ (o : Outcome (Unit {0})). Follows g w (pos q - pos p) 0 w.reach (tally s) m (Completes st q k d0 m0) NoExit o) (sym (own_word place v s))
    (store_follows g w p q st kind.Integer (mode_of k place) false false k v d0 m0 s m (own_located kind.Integer (Some place) None s) refl leads
    (value_storing st p k v d0 m0 s m x room) (own_refers st kind.Integer k (k + 1) place s (at_left m) reached x.matches))
pointer_put g w st p q place k [] s m d0 m0 reached room leads x = let wide = x.wide in absurd (omega (arith, wide))
pointer_put g w st p q place k (v ∷ u ∷ vs) s m d0 m0 reached room leads x = let wide = x.wide in absurd (omega (arith, wide))

pub pointers_assigned : PointersAssigned
pointers_assigned z d k need number at place a value reached enough whole sim =
    value_stored z d k need 1 number at a (pointer_stored k place) value (λ vs v. with_one vs v (λ x w. cell_stored (Some place) x w)) whole sim
    (λ p q vs s m d0 m0 stands is room.
    pointer_put z.ground z.rate z.setting p q place k vs s m d0 m0 reached (omega (arith, room, enough))
    (last_leads z.ground z.sites (on p) (instr.Memory 5 true false false (mode_of k place)) q stands) is)
