-- Variables stored at places that are seen: where they are counted from the top, the value that waits has moved that away, and X takes the mode back.
use Rattle.std.proofs.Common.{◌≡◌, ℕ, ◌+◌, ◌*◌, ◌-◌, ◌%◌, ◌<◌, ◌≤◌, Bool, true, false, List, [], ◌∷◌, ◌++◌, length, take, refl, sym, ap, subst, ◌∙◌, arith}
use Rattle.std.specs.Prelude.{Some, None}
use Rattle.std.proofs.lemmas.List.{append-nil}
use Rattle.std.proofs.Math.Seq.{take-length}
use Rattle.spl_doubles.specs.hp_instr.declared.instruction.Instr.TheVariants as instr
use Rattle.spl_doubles.specs.hp_instr.declared.instruction.Mode.{Mode}
use Rattle.spl_doubles.specs.hp_session.State.{Machine}
use Rattle.spl_doubles.specs.hp_session.declared.places.Place.{Place as Operand}
use Rattle.spl_doubles.specs.hp_session.declared.places.Place.TheVariants.{Db, Stack}
use Rattle.spl_doubles.specs.hp_session.Places.{address, base, moved, first_byte, index, operand, byte_operand}
use Rattle.spl_doubles.specs.hp_word_rows.WordRows.{minus, immediate_row}
use Rattle.spl_doubles.specs.hp_flat.Step.{at_left}
use Rattle.spl_doubles.specs.hp_yields.Rows.{Sided, Places}
use Rattle.spl_doubles.proofs.hp_yields_proofs.WordYields as rows
use Rattle.spl_doubles.specs.spl_tree.declared.names_and_places.At.{At}
use Rattle.spl_doubles.specs.spl_tree.declared.expressions.Kind.{Kind}
use Rattle.spl_doubles.specs.spl_tree.declared.expressions.Kind.TheVariants as kind
use Rattle.spl_doubles.specs.spl_branch.declared.pieces.Piece.{Piece}
use Rattle.spl_doubles.specs.spl_branch.declared.pieces.Piece.TheVariants.{Do, Begin}
use Rattle.spl_doubles.specs.spl_meaning.Kinds.{width}
use Rattle.spl_doubles.specs.spl_meaning.Operations.{kept}
use Rattle.spl_doubles.specs.spl_meaning.Places.{data_word, above_base, below_base, below_return}
use Rattle.spl_doubles.specs.spl_meaning.References.{Setting, address_of, variable_address, variable_located, own_located, store}
use Rattle.spl_doubles.specs.spl_meaning.States.{Data, State, Outcome, done, then_go, stopping}
use Rattle.spl_doubles.specs.spl_code.Code.{as_value}
use Rattle.spl_doubles.specs.spl_code.Instructions.{LDXN}
use Rattle.spl_doubles.specs.spl_code.Operands.{mode_of}
use Rattle.spl_doubles.specs.spl_code.Parts.{Part, pieces, piece, nothing, ◌⨟◌}
use Rattle.spl_doubles.specs.spl_code.Stores.{units_above, own_stored}
use Rattle.spl_doubles.specs.spl_follow.Spots.{Spot, pos, on, landed, Ground}
use Rattle.spl_doubles.specs.spl_follow.Leading.{Leads}
use Rattle.spl_doubles.specs.spl_follow.Matching.{outer, Kept, Stand, IsValue}
use Rattle.spl_doubles.specs.spl_follow.Following.{Rate, tally, Follows, NoExit}
use Rattle.spl_doubles.specs.spl_follow.Doing.{doing}
use Rattle.spl_doubles.specs.spl_follow.Yielding.{Becomes}
use Rattle.spl_doubles.specs.spl_follow.Parts.{Completes}
use Rattle.spl_doubles.specs.spl_follow.Simulating.{Surroundings, Simulates, Performs}
use Rattle.spl_doubles.proofs.spl_follow_proofs.FollowLemmas.{then_follows}
use Rattle.spl_doubles.proofs.spl_follow_proofs.RowLemmas.{becomes_goes, becomes_matches}
use Rattle.spl_doubles.specs.spl_values.Reached.{IsWhole}
use Rattle.spl_doubles.proofs.spl_values_proofs.GiveLemmas.{last_leads}
use Rattle.spl_doubles.specs.spl_operands.Operands.{Based, Finds}
use Rattle.spl_doubles.proofs.spl_operands_proofs.OperandLemmas.{moved_address, moved_side}
use Rattle.spl_doubles.proofs.spl_operands_proofs.StoreLemmas.{storing, store_follows}
use Rattle.spl_doubles.proofs.spl_operands_proofs.AssignLemmas.{value_stored, value_storing}
use Rattle.spl_doubles.proofs.spl_variables_proofs.OwnLemmas.{own_words_assigned}
use Rattle.spl_doubles.proofs.StoreLemmas as double
use Rattle.spl_tops.specs.Laws.{OwnWordsPut, DoublesPut}
use Rattle.spl_tops.proofs.SeenLemmas.{IsBelow, below_is, below_based, below_low}

-- ---- X

-- no word is deleted, and none put
whole_stack : (xs : List ℕ) → take (length xs - 0) xs ++ [] ≡ xs
whole_stack xs =
    let none : length xs - 0 ≡ length xs = omega arith in
    append-nil (take (length xs - 0) xs) ∙ ap (λ (n : ℕ). take n xs) none ∙ take-length xs

-- a value on top, and what X is
abbrev pub Down : Setting → Spot → ℕ → ℕ → Data → Machine → List ℕ → ℕ → State → Machine → Type 0
Down st p n k d0 m0 vs c s m = IsValue st p n k d0 m0 vs s m × (m.regs.x ≡ minus c)

-- LDXN behind a value: X becomes minus a number, and all the rest stays.
pub x_down : (g : Ground) (w : Rate) (p r : Spot) (st : Setting) (n k c : ℕ) (vs : List ℕ) (s : State) (m : Machine) (d0 : Data) (m0 : Machine)
    → Leads g (on p) r (doing g.segments (instr.Immediate 9 c) r) → IsValue st p n k d0 m0 vs s m
    → Follows g w (pos r - pos p) 0 w.reach (tally s) m (λ (e : Unit {0}) s1 m1. Down st r n k d0 m0 vs c s1 m1) NoExit (done tt s)
x_down g w p r st n k c vs s m d0 m0 leads x =
    let o = immediate_row 9 c (at_left m) in
    let y : Places 0 [] (minus c) (at_left m) o = rows.minus_to_x c (at_left m) in
    let stays : y.words.left.stack ≡ m.stack = y.words.words ∙ whole_stack m.stack in
    let left : Becomes m.stack (outer m) o = record { left = y.words.left; is = y.words.is; words = stays; same = y.words.same } in (
      landed r y.words.left,
      becomes_goes g w (on p) r (doing g.segments (instr.Immediate 9 c) r) st s.begun s m (k + n) o m.stack (outer m) left leads refl x.at refl x.matches refl,
      (
        record {
          at = refl;
          wide = x.wide;
          matches = becomes_matches st s.now (k + n) o m.stack (outer m) left x.matches;
          stand = subst (λ (xs : List ℕ). Stand xs (d0.top + k) vs) (sym stays) x.stand;
          small = x.small;
          kept = subst (λ (xs : List ℕ). Kept (d0.top + k) d0 m0.stack s.now xs) (sym stays) x.kept;
          silent = x.silent;
        },
        y.index,
      ),
    )

-- ---- operands

-- the first byte of a word
byte_address : (place : Operand) → address (first_byte place) ≡ 2 * address place % 65536
unfolding first_byte
byte_address (Db a) = refl
byte_address (Stack a) = refl

byte_side : (place : Operand) (far : Bool) (m : Machine) → Sided place far m → Sided (first_byte place) far m
unfolding first_byte
byte_side (Db a) far m side = side
byte_side (Stack a) far m side = side

-- X is a negative number
minus_is : (c : ℕ) (m : Machine) → 1 ≤ c → c ≤ 2 → m.regs.x ≡ minus c → m.regs.x ≡ 65536 - c
minus_is c m least most e = omega (arith, least, most, e)

-- So where a mode names the word that is the width of a value above a variable, its operand with X is the variable's.
pub down_finds : (t : Kind) (mode : Mode) (a : ℕ) (m : Machine) → Based mode (a + width t) m → a < 32000 → m.regs.x ≡ minus (units_above t)
    → Finds t mode false true false (variable_address t a) m
unfolding operand byte_operand
down_finds kind.Integer mode a m b low e = record {
  place = moved (index 1 true m) (base mode m);
  is = refl;
  at = let at = b.at in let x = minus_is 1 m (omega arith) (omega arith) e in moved_address (index 1 true m) (base mode m) ∙ omega (arith, at, low, x);
  side = moved_side (index 1 true m) (base mode m) false m b.side;
}
down_finds kind.Logical mode a m b low e = record {
  place = moved (index 1 true m) (base mode m);
  is = refl;
  at = let at = b.at in let x = minus_is 1 m (omega arith) (omega arith) e in moved_address (index 1 true m) (base mode m) ∙ omega (arith, at, low, x);
  side = moved_side (index 1 true m) (base mode m) false m b.side;
}
down_finds kind.Byte mode a m b low e = record {
  place = moved (index 1 true m) (first_byte (base mode m));
  is = refl;
  at =
      let at = b.at in
      let first = byte_address (base mode m) in
      let x = minus_is 2 m (omega arith) (omega arith) e in
      moved_address (index 1 true m) (first_byte (base mode m)) ∙ omega (arith, at, low, first, x);
  side = moved_side (index 1 true m) (first_byte (base mode m)) false m (byte_side (base mode m) false m b.side);
}
down_finds kind.Double mode a m b low e = record {
  place = moved (index 2 true m) (base mode m);
  is = refl;
  at = let at = b.at in let x = minus_is 1 m (omega arith) (omega arith) e in moved_address (index 2 true m) (base mode m) ∙ omega (arith, at, low, x);
  side = moved_side (index 2 true m) (base mode m) false m b.side;
}

-- ---- words

-- a word behind its value, and X: the store
word_put : (g : Ground) (w : Rate) (p q : Spot) (st : Setting) (t : Kind) (k n : ℕ) (vs : List ℕ) (s : State) (m : Machine) (d0 : Data) (m0 : Machine)
    → width t ≡ 1 → IsBelow st k n → s.now.top + (k + 1) ≤ s.now.stack
    → Leads g (on p) q (doing g.segments (storing t false true (mode_of k (below_return n))) q) → Down st p 1 k d0 m0 vs (units_above t) s m
    → Follows g w (pos q - pos p) 0 w.reach (tally s) m (Completes st q k d0 m0) NoExit (store (variable_located t (address_of (below_return n) s.now)) (kept t vs) s)
word_put g w p q st t k n (v ∷ []) s m d0 m0 one below room leads x =
    let mode = mode_of k (below_return n) in
    let a = s.now.inner - n in
    let based : Based mode (a + width t) (at_left m) = subst (λ (i : ℕ). Based mode (a + i) (at_left m)) (sym one) (below_based st s.now k 1 n (at_left m) below x.0.matches room) in
    store_follows g w p q st t mode false true k v d0 m0 s m (own_located t (Some (below_return n)) None s) one leads (value_storing st p k v d0 m0 s m x.0 room)
    (refl, refl, down_finds t mode a (at_left m) based (below_low st s.now k (k + 1) n (at_left m) below x.0.matches) x.1)
word_put g w p q st t k n [] s m d0 m0 one below room leads x = let wide = x.0.wide in absurd (omega (arith, wide))
word_put g w p q st t k n (v ∷ u ∷ vs) s m d0 m0 one below room leads x = let wide = x.0.wide in absurd (omega (arith, wide))

-- LDXN and the store behind the value
words_below : (z : Surroundings) (d k need number : ℕ) (at : At) (t : Kind) (n : ℕ) (a : Part) (value : State → Outcome (List ℕ)) → width t ≡ 1
    → IsBelow z.setting k n → 1 ≤ need → IsWhole a → Simulates z d as_value 1 k need a value
    → Performs z d k need (piece (Begin at) ⨟ (nothing ⨟ a ⨟ pieces (LDXN (units_above t) ∷ Do (storing t false true (mode_of k (below_return n))) ∷ [])))
    (λ s. stopping number at s (λ u. then_go (value u) (λ vs v. store (variable_located t (address_of (below_return n) v.now)) (kept t vs) v)))
words_below z d k need number at t n a value one below enough whole sim =
    value_stored z d k need 1 number at a (LDXN (units_above t) ∷ Do (storing t false true (mode_of k (below_return n))) ∷ []) value
    (λ vs v. store (variable_located t (address_of (below_return n) v.now)) (kept t vs) v) whole sim
    (λ p q vs s m d0 m0 stands is room.
    let f = x_down z.ground z.rate p stands.0 z.setting 1 k (units_above t) vs s m d0 m0 stands.1 is in
    let leads = last_leads z.ground z.sites (on stands.0) (storing t false true (mode_of k (below_return n))) q stands.2 in
    let first = stands.1.rise in
    let next = leads.rise in
    let many = z.rate.enough in
    then_follows z.ground z.rate (pos stands.0 - pos p) 0 z.rate.reach (pos q - pos stands.0) 0 z.rate.reach (pos q - pos p) 0 z.rate.reach (tally s) m (tally s) f.0
    (Completes z.setting q k d0 m0) NoExit (store (variable_located t (address_of (below_return n) s.now)) (kept t vs) s) f.1
    (word_put z.ground z.rate stands.0 q z.setting t k n vs s f.0 d0 m0 one below (omega (arith, room, enough)) leads f.2)
    (omega (arith, first, next)) (omega (arith, many)) (omega (arith, many)))

-- the store of a kind is its instruction
store_is : (t : Kind) (mode : Mode) → LDXN (units_above t) ∷ Do (storing t false true mode) ∷ [] ≡ own_stored t true mode
store_is kind.Integer mode = refl
store_is kind.Logical mode = refl
store_is kind.Byte mode = refl
store_is kind.Double mode = refl

-- by the place
pub own_words_put : OwnWordsPut
own_words_put z d k need number at t (data_word b) a value one seen enough whole sim = own_words_assigned z d k need number at t (data_word b) a value one seen enough whole sim
own_words_put z d k need number at t (above_base b) a value one seen enough whole sim = own_words_assigned z d k need number at t (above_base b) a value one seen enough whole sim
own_words_put z d k need number at t (below_base b) a value one seen enough whole sim = own_words_assigned z d k need number at t (below_base b) a value one seen enough whole sim
own_words_put z d k need number at t (below_return n) a value one seen enough whole sim =
    subst (λ (ps : List Piece). Performs z d k need (piece (Begin at) ⨟ (nothing ⨟ a ⨟ pieces ps))
    (λ s. stopping number at s (λ u. then_go (value u) (λ vs v. store (variable_located t (address_of (below_return n) v.now)) (kept t vs) v))))
    (store_is t (mode_of k (below_return n)))
    (words_below z d k need number at t n a value one (below_is z.setting k n seen) enough whole sim)

-- ---- DOUBLEs

-- a DOUBLE behind its value, and X: STD
double_put : (g : Ground) (w : Rate) (p q : Spot) (st : Setting) (k n : ℕ) (vs : List ℕ) (s : State) (m : Machine) (d0 : Data) (m0 : Machine)
    → IsBelow st k n → s.now.top + (k + 2) ≤ s.now.stack → Leads g (on p) q (doing g.segments (instr.Memory 14 true true false (mode_of k (below_return n))) q)
    → Down st p 2 k d0 m0 vs 1 s m
    → Follows g w (pos q - pos p) 0 w.reach (tally s) m (Completes st q k d0 m0) NoExit (store (variable_located kind.Double (address_of (below_return n) s.now)) vs s)
double_put g w p q st k n (h ∷ l ∷ []) s m d0 m0 below room leads x =
    let mode = mode_of k (below_return n) in
    let a = s.now.inner - n in
    double.double_put g w p q st mode false true false a k h l d0 m0 s m leads (double.value_storing st p k h l d0 m0 s m x.0 room)
    (down_finds kind.Double mode a (at_left m) (below_based st s.now k 2 n (at_left m) below x.0.matches room) (below_low st s.now k (k + 2) n (at_left m) below x.0.matches) x.1)
double_put g w p q st k n [] s m d0 m0 below room leads x = let wide = x.0.wide in absurd (omega (arith, wide))
double_put g w p q st k n (h ∷ []) s m d0 m0 below room leads x = let wide = x.0.wide in absurd (omega (arith, wide))
double_put g w p q st k n (h ∷ l ∷ v ∷ vs) s m d0 m0 below room leads x = let wide = x.0.wide in absurd (omega (arith, wide))

doubles_below : (z : Surroundings) (d k need number : ℕ) (at : At) (n : ℕ) (a : Part) (value : State → Outcome (List ℕ))
    → IsBelow z.setting k n → 2 ≤ need → IsWhole a → Simulates z d as_value 2 k need a value
    → Performs z d k need (piece (Begin at) ⨟ (nothing ⨟ a ⨟ pieces (own_stored kind.Double true (mode_of k (below_return n)))))
    (λ s. stopping number at s (λ u. then_go (value u) (λ vs v. store (variable_located kind.Double (address_of (below_return n) v.now)) vs v)))
doubles_below z d k need number at n a value below enough whole sim =
    value_stored z d k need 2 number at a (own_stored kind.Double true (mode_of k (below_return n))) value
    (λ vs v. store (variable_located kind.Double (address_of (below_return n) v.now)) vs v) whole sim
    (λ p q vs s m d0 m0 stands is room.
    let f = x_down z.ground z.rate p stands.0 z.setting 2 k 1 vs s m d0 m0 stands.1 is in
    let leads = last_leads z.ground z.sites (on stands.0) (instr.Memory 14 true true false (mode_of k (below_return n))) q stands.2 in
    let first = stands.1.rise in
    let next = leads.rise in
    let many = z.rate.enough in
    then_follows z.ground z.rate (pos stands.0 - pos p) 0 z.rate.reach (pos q - pos stands.0) 0 z.rate.reach (pos q - pos p) 0 z.rate.reach (tally s) m (tally s) f.0
    (Completes z.setting q k d0 m0) NoExit (store (variable_located kind.Double (address_of (below_return n) s.now)) vs s) f.1
    (double_put z.ground z.rate stands.0 q z.setting k n vs s f.0 d0 m0 below (omega (arith, room, enough)) leads f.2)
    (omega (arith, first, next)) (omega (arith, many)) (omega (arith, many)))

-- by the place
pub doubles_put : DoublesPut
doubles_put z d k need number at (data_word b) a value seen enough whole sim = double.variables_assigned z d k need number at (data_word b) a value seen enough whole sim
doubles_put z d k need number at (above_base b) a value seen enough whole sim = double.variables_assigned z d k need number at (above_base b) a value seen enough whole sim
doubles_put z d k need number at (below_base b) a value seen enough whole sim = double.variables_assigned z d k need number at (below_base b) a value seen enough whole sim
doubles_put z d k need number at (below_return n) a value seen enough whole sim =
    doubles_below z d k need number at n a value (below_is z.setting k n seen) enough whole sim
