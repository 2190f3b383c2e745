-- Cells: their word is a constant, or made of the base and a constant, and STOR puts it where the cell stands.
use Rattle.std.proofs.Common.{◌≡◌, ℕ, ◌+◌, ◌-◌, ◌*◌, ◌%◌, ◌≤◌, ◌<◌, Bool, true, false, List, [], ◌∷◌, ◌++◌, refl, sym, ap, subst, ◌∙◌, arith}
use Rattle.std.specs.Prelude.{Option, Some, None, is_some, ℤ}
use Rattle.std.proofs.lemmas.Bool.{false≢true}
use Rattle.std.proofs.lemmas.Int.{ints}
use Rattle.spl_procedures.specs.hp_word.Words.{word_of, word_result, logically_added}
use Rattle.spl_procedures.proofs.hp_word_proofs.WordLaws.{word_of-below}
use Rattle.spl_procedures.specs.hp_instr.Instructions.{op}
use Rattle.spl_procedures.specs.hp_instr.declared.instruction.Instr.TheVariants as instr
use Rattle.spl_procedures.specs.hp_session.State.{Machine, word}
use Rattle.spl_procedures.specs.hp_stack_rows.StackRows.{operated}
use Rattle.spl_procedures.specs.hp_word_rows.WordRows.{shifting}
use Rattle.spl_procedures.specs.hp_flat.Step.{at_left}
use Rattle.spl_procedures.proofs.hp_yields_proofs.StackYields as rows
use Rattle.spl_procedures.specs.spl_tree.declared.expressions.Kind.{Kind}
use Rattle.spl_procedures.specs.spl_tree.declared.expressions.Kind.TheVariants as kind
use Rattle.spl_procedures.specs.spl_meaning.Kinds.{width}
use Rattle.spl_procedures.specs.spl_meaning.Operations.{kept}
use Rattle.spl_procedures.specs.spl_meaning.Places.{Cell, Place, data_word, above_base, below_base, below_return, stored, put_cells, cell_word, viewed as twice}
use Rattle.spl_procedures.specs.spl_meaning.References.{Setting, address_of, variable_located, own_located, placed_word, word_stored, store}
use Rattle.spl_procedures.specs.spl_meaning.Bodies.{Body}
use Rattle.spl_procedures.specs.spl_meaning.States.{State, Outcome, done}
use Rattle.spl_procedures.specs.spl_code.Code.{as_value}
use Rattle.spl_procedures.specs.spl_code.Constants.{constant}
use Rattle.spl_procedures.specs.spl_code.Instructions.{STOR}
use Rattle.spl_procedures.specs.spl_code.Operands.{mode_of}
use Rattle.spl_procedures.specs.spl_body_code.Based.{base_word}
use Rattle.spl_procedures.specs.spl_body_code.Cells.{LADD, base_pushed, cell_from, viewed, cell_set, cells_set}
use Rattle.spl_procedures.proofs.spl_body_code_proofs.CellLaws.{cells_move}
use Rattle.spl_procedures.specs.spl_follow.Spots.{Spot, pos, Point, on, Ground}
use Rattle.spl_procedures.specs.spl_follow.Leading.{Leads}
use Rattle.spl_procedures.specs.spl_follow.Matching.{IsValue}
use Rattle.spl_procedures.specs.spl_follow.Following.{Rate, tally, Follows, NoExit}
use Rattle.spl_procedures.specs.spl_follow.Doing.{doing}
use Rattle.spl_procedures.specs.spl_follow.Standing.{Sites, Stands}
use Rattle.spl_procedures.specs.spl_follow.Yielding.{Yields}
use Rattle.spl_procedures.specs.spl_follow.Parts.{Ready, Gives, Completes}
use Rattle.spl_procedures.proofs.spl_follow_proofs.KeepLemmas.{value_ready}
use Rattle.spl_procedures.proofs.spl_follow_proofs.PartLemmas.{stand_from_place, values_follow}
use Rattle.spl_procedures.proofs.spl_values_proofs.ConstantLemmas.{constants_give}
use Rattle.spl_procedures.proofs.spl_values_proofs.GiveLemmas.{last_leads, row_behind}
use Rattle.spl_procedures.proofs.spl_values_proofs.SumLemmas.{lower_is, upper_is, two_there}
use Rattle.spl_procedures.proofs.spl_values_proofs.VariableLemmas.{both}
use Rattle.spl_addresses.proofs.spl_operands_proofs.StoreLemmas.{storing, store_follows}
use Rattle.spl_addresses.proofs.spl_operands_proofs.AssignLemmas.{value_storing}
use Rattle.spl_addresses.proofs.spl_variables_proofs.OwnLemmas.{own_refers}
use Rattle.spl_addresses.proofs.AddressLemmas as addresses
use Rattle.spl_procedures.specs.Procedures.{procedure_setting}
use Rattle.spl_procedures.proofs.ClearLemmas.{clear_both, clear_constant, clear_base, clear_cell_from, clear_viewed, clear_cell}
use Rattle.spl_cells.specs.Settable.{is_local, has_origin, is_cell_settable, cells_settable}
use Rattle.spl_cells.proofs.PutLemmas.{stored_keeps, there, read_there, put_is, addresses as places_in, addresses_same}
use Rattle.spl_cells.proofs.StepLemmas.{none_follow, around, Fresh, fresh_ready, fresh_on, Stepped, steps_join, with_words, value_then, Local, local_is}

-- ---- numbers

-- the word of a cell is one
cell_small : (k : Kind) (low : ℤ) (a : ℕ) → cell_word k low a < 65536
cell_small kind.Integer low a = word_of-below _
cell_small kind.Logical low a = word_of-below _
cell_small kind.Byte low a = word_of-below _
cell_small kind.Double low a = word_of-below _

-- LADD adds modulo 65,536
added_is : (b a : ℕ) → (logically_added b a).value ≡ (b + a) % 65536
unfolding logically_added word_result word_of
added_is b a = omega (arith, ints)

module _ (g : Ground) (w : Rate) (sites : Sites) (b : Body) where
  abbrev st : Setting
  st = procedure_setting false b.profile

  -- so many words above the others a constant is pushed
  pub constant_pushed : (d : ℕ) (p q : Spot) (k need c : ℕ) (s : State) (m : Machine) → c < 65536 → 1 ≤ need → Stands g sites (on p) (constant c) q
      → Ready st d (on p) k need s s.begun m → Gives g w st sites.marks as_value 1 (on p) q k s s.begun m (done (c ∷ []) s)
  constant_pushed d p q k need c s m small enough stands ready =
      (constants_give (around g w sites b) d k need c small enough).does 0 [] (on p) q s s.begun m stands (record { rest = []; is = refl }) ready

  -- the base as an address
  base_given : (p q : Spot) (t : Kind) (s : State) (m : Machine) → Stands g sites (on p) (base_pushed t) q → Fresh g w sites b p s m
      → Gives g w st sites.marks as_value 1 (on p) q 0 s s.begun m (done (base_word t s.now.base ∷ []) s)
  base_given p q t s m stands f =
      subst (λ (a : ℕ). Gives g w st sites.marks as_value 1 (on p) q 0 s s.begun m (done (a ∷ []) s)) (same t)
      ((addresses.variables_give (around g w sites b) s.left 0 8 t (above_base 0) refl (omega arith)).does 0 [] (on p) q s s.begun m stands
      (record { rest = []; is = refl }) (fresh_ready g w sites b p s m f)) where
        low : s.now.base < 32000
        low =
            let live = f.matches.lies.live in
            let within = f.matches.lies.within in
            let least = f.matches.lies.least in
            omega (arith, live, within, least)

        same : (t : Kind) → (variable_located t (s.now.base + 0)).address % 65536 ≡ base_word t s.now.base
        same kind.Integer = omega (arith, low)
        same kind.Logical = omega (arith, low)
        same kind.Byte = omega (arith, low)
        same kind.Double = omega (arith, low)

  -- the word of a cell whose array's data stand at a place
  word_given : (p q : Spot) (from : Place) (t : Kind) (low : ℤ) (s : State) (m : Machine) → has_origin from ≡ true
      → Stands g sites (on p) (cell_from from t low) q
      → Fresh g w sites b p s m
      → Gives g w st sites.marks as_value 1 (on p) q 0 s s.begun m (done (cell_word t low (address_of from s.now) ∷ []) s)
  word_given p q (data_word a) t low s m e stands f =
      constant_pushed s.left p q 0 8 (cell_word t low a) s m (cell_small t low a) (omega arith) stands (fresh_ready g w sites b p s m f)
  word_given p q (above_base n) t low s m e stands f =
      let number = constant (cell_word t low n) in
      let back = stand_from_place g sites (base_pushed t ++ number) (LADD ∷ []) p q
      (clear_both (base_pushed t) number (clear_base t) (clear_constant (cell_word t low n))) stands in
      let front = stand_from_place g sites (base_pushed t) number p back.0 (clear_base t) back.1 in
      let one = front.3 in
      let two = front.4 in
      let v : ℕ = base_word t s.now.base in
      let u : ℕ = cell_word t low n in
      let words =
      values_follow g w st sites.marks 1 1 (on p) front.0 back.0 0 s s.begun m (done (v ∷ []) s) (λ vs x. done (u ∷ []) x) one two
      (base_given p front.0 t s m front.1 f)
      (λ vs s1 m1 x fewer. constant_pushed s.left front.0 back.0 1 7 u s1 m1 (cell_small t low n) (omega arith) front.2
      (value_ready st s.left (on p) front.0 0 8 1 7 s s.begun m vs s1 m1 (fresh_ready g w sites b p s m f) x fewer (omega arith))) in
      row_behind g w st sites.marks (on p) back.0 q (doing g.segments (instr.Pair (op 0o61) (op 0)) q) 2 0 s s.begun m (v ∷ u ∷ [])
      (cell_word t low (s.now.base + n))
      (λ n1. operated 0o61 n1) (omega (arith, one, two)) (last_leads g sites (on back.0) (instr.Pair (op 0o61) (op 0)) q back.2) (λ n1. refl)
      (λ n1 x. subst (λ (y : ℕ). Yields 2 (y ∷ []) n1 (operated 0o61 n1)) (sum back.0 v u s m n1 x ∙ cells_move t low s.now.base n)
      (rows.logical_add n1 (two_there st back.0 0 s.now m v u s n1 x))) (cell_small t low (s.now.base + n)) words where
        sum : (r : Spot) (v u : ℕ) (s : State) (m n1 : Machine) → IsValue st r 2 0 s.now m (v ∷ u ∷ []) s n1
            → (logically_added (word 1 n1) (word 0 n1)).value ≡ (v + u) % 65536
        sum r v u s m n1 x =
            added_is (word 1 n1) (word 0 n1)
            ∙ ap (λ (y : ℕ). (y + word 0 n1) % 65536) (lower_is st r 0 s.now m v u s n1 x) ∙ ap (λ (y : ℕ). (v + y) % 65536)
            (upper_is st r 0 s.now m v u s n1 x)
  word_given p q (below_base n) t low s m e stands f = absurd (false≢true e)
  word_given p q (below_return n) t low s m e stands f = absurd (false≢true e)

  -- as the cell of a view of bytes, twice that
  viewed_given : (as_bytes : Bool) (p r q : Spot) (v : ℕ) (s : State) (m : Machine) → pos p ≤ pos r → Stands g sites (on r) (viewed as_bytes) q
      → Gives g w st sites.marks as_value 1 (on p) r 0 s s.begun m (done (v ∷ []) s)
      → Gives g w st sites.marks as_value 1 (on p) q 0 s s.begun m (done (twice as_bytes v ∷ []) s)
  viewed_given true p r q v s m before stands x =
      row_behind g w st sites.marks (on p) r q (doing g.segments (instr.Shifted 2 1) q) 1 0 s s.begun m (v ∷ []) (2 * v % 65536)
      (λ n. shifting 2 1 (at_left n)) before
      (last_leads g sites (on r) (instr.Shifted 2 1) q stands) (λ n. refl) (λ n y. addresses.doubles st r 0 s.now m v s n y) (omega arith) x
  viewed_given false p r q v s m before stands x =
      subst (λ (z : Spot). Gives g w st sites.marks as_value 1 (on p) z 0 s s.begun m (done (v ∷ []) s)) (ap (λ (z : Point). z.at) stands) x

  -- ---- stores

  -- a store of a value of one word where a local word stands
  pub value_put : (t : Kind) (p q : Spot) (place : Place) (v : ℕ) (s : State) (m m1 : Machine) → width t ≡ 1 → Local b 1 place s.now
      → Leads g (on p) q (doing g.segments (storing t false false (mode_of 0 place)) q) → IsValue st p 1 0 s.now m (v ∷ []) s m1
      → s.now.top + 8 ≤ s.now.stack
      → Follows g w (pos q - pos p) 0 w.reach (tally s) m1 (Completes st q 0 s.now m) NoExit
      (store (variable_located t (address_of place s.now)) (kept t (v ∷ [])) s)
  value_put t p q place v s m m1 one local leads x room =
      store_follows g w p q st t (mode_of 0 place) false false 0 v s.now m s m1 (own_located t (Some place) None s) one leads
      (value_storing st p 0 v s.now m s m1 x (omega (arith, room))) (own_refers st t 0 1 place s (at_left m1) local.reached x.matches)

  -- the word there takes that value
  pub word_is_stored : (a v : ℕ) (s : State) → a < s.now.stack → is_some (s.now.mem a) ≡ true
      → word_stored false a (v ∷ []) s ≡ done tt (with_words g w sites b s (stored a v s.now.mem))
  word_is_stored a v s low is =
      let old = there (s.now.mem a) is in
      read_there a old.0 s (λ x s1. done tt (placed_word false a v s1)) low old.1
      ∙ ap (λ (mem : ℕ → Option ℕ). let left : Outcome (Unit {0}) = done tt (with_words g w sites b s mem) in left) (put_is a v old.0 s.now.mem old.1)

  -- where a local item stands
  pub local_there : (count i : ℕ) (place : Place) (p : Spot) (s : State) (m : Machine) → Local b count place s.now → i < count → Fresh g w sites b p s m
      → (address_of place s.now + i < s.now.stack) × (is_some (s.now.mem (address_of place s.now + i)) ≡ true)
  local_there count i place p s m local few f =
      let low = local.low in
      let high = local.high in
      let within = f.matches.lies.within in
      (omega (arith, high, few, within), f.locals.there (address_of place s.now + i) (omega (arith, low)) (omega (arith, high, few)))

  -- ---- a cell

  pub cell_follows : (c : Cell) → is_cell_settable b.words c ≡ true → (p q : Spot) (s : State) (m : Machine) → Stands g sites (on p) (cell_set c) q
      → Fresh g w sites b p s m
      → Stepped g w sites b p q
      (stored (address_of c.place s.now) (twice c.as_bytes (cell_word c.array.kind c.array.low (address_of c.array.from s.now))) s.now.mem) s m
  cell_follows c e p q s m stands f =
      let parts = both (is_local b.words 1 c.place) (has_origin c.array.from) e in
      let local = local_is b 1 c.place s.now parts.0 f.locals in
      let from = cell_from c.array.from c.array.kind c.array.low in
      let clear = clear_cell_from c.array.from c.array.kind c.array.low in
      let back = stand_from_place g sites (from ++ viewed c.as_bytes) (STOR false false (mode_of 0 c.place) ∷ []) p q
      (clear_both from (viewed c.as_bytes) clear (clear_viewed c.as_bytes)) stands in
      let front = stand_from_place g sites from (viewed c.as_bytes) p back.0 clear back.1 in
      let v : ℕ = cell_word c.array.kind c.array.low (address_of c.array.from s.now) in
      let a : ℕ = address_of c.place s.now in
      let none : a + 0 ≡ a = omega arith in
      let is = local_there 1 0 c.place p s m local (omega arith) f in
      value_then g w sites b p back.0 q 1 (twice c.as_bytes v ∷ []) (stored a (twice c.as_bytes v) s.now.mem) s m back.3 back.4
      (viewed_given c.as_bytes p front.0 back.0 v s m front.3 front.2 (word_given p front.0 c.array.from c.array.kind c.array.low s m parts.1 front.1 f))
      (λ m1 x. subst (λ (o : Outcome (Unit {0})). Follows g w (pos q - pos back.0) 0 w.reach (tally s) m1 (Completes st q 0 s.now m) NoExit o)
      (word_is_stored a (twice c.as_bytes v) s (subst (λ (i : ℕ). i < s.now.stack) none is.0) (ap (λ (i : ℕ). is_some (s.now.mem i)) (sym none) ∙ is.1))
      (value_put kind.Integer back.0 q c.place (twice c.as_bytes v) s m m1 refl local
      (last_leads g sites (on back.0) (storing kind.Integer false false (mode_of 0 c.place)) q back.2) x f.room))

  -- and all of them
  pub cells_follow : (cs : List Cell) → cells_settable b.words cs ≡ true → (p q : Spot) (s : State) (m : Machine) → Stands g sites (on p) (cells_set cs) q
      → Fresh g w sites b p s m → Stepped g w sites b p q (put_cells (places_in s.now) cs s.now.mem) s m
  cells_follow [] e p q s m stands f = none_follow g w sites b p q s m stands f
  cells_follow (c ∷ cs) e p q s m stands f =
      let parts = both (is_cell_settable b.words c) (cells_settable b.words cs) e in
      let cut = stand_from_place g sites (cell_set c) (cells_set cs) p q (clear_cell c) stands in
      let a : ℕ = address_of c.place s.now in
      let v : ℕ = twice c.as_bytes (cell_word c.array.kind c.array.low (address_of c.array.from s.now)) in
      let mem : ℕ → Option ℕ = stored a v s.now.mem in
      let one = cell_follows c parts.0 p cut.0 s m cut.1 f in
      let later = cells_follow cs parts.1 cut.0 q (with_words g w sites b s mem) one.0 cut.2
      (fresh_on g w sites b p cut.0 mem s m one f (λ x h. stored_keeps a v s.now.mem x h)) in
      steps_join g w sites b p cut.0 q mem (put_cells (places_in s.now) cs mem) s m cut.3 cut.4 one
      (subst (λ (address : Place → ℕ). Stepped g w sites b cut.0 q (put_cells address cs mem) (with_words g w sites b s mem) one.0) (addresses_same s.now mem)
      later)
