-- Variables by their own words: where their operands are, and what is read and stored there.
use Rattle.std.proofs.Common.{◌≡◌, ℕ, ◌+◌, ◌*◌, ◌%◌, ◌<◌, ◌≤◌, Bool, true, false, List, [], ◌∷◌, refl, sym, subst, ◌∙◌, arith}
use Rattle.std.specs.Prelude.{Some, None, not, nat_lt}
use Rattle.std.proofs.lemmas.Bool.{ltb-true, false≢true}
use Rattle.spl_operands.specs.hp_instr.declared.instruction.Mode.{Mode}
use Rattle.spl_operands.specs.hp_session.State.{Machine}
use Rattle.spl_operands.specs.hp_session.declared.places.Place.{Place as Operand}
use Rattle.spl_operands.specs.hp_session.declared.places.Place.TheVariants.{Db, Stack}
use Rattle.spl_operands.specs.hp_session.Places.{address, base, moved, first_byte, operand, byte_operand}
use Rattle.spl_operands.specs.hp_yields.Rows.{Sided}
use Rattle.spl_operands.specs.spl_tree.declared.expressions.Kind.{Kind}
use Rattle.spl_operands.specs.spl_tree.declared.expressions.Kind.TheVariants as kind
use Rattle.spl_operands.specs.spl_branch.declared.pieces.Piece.{Piece}
use Rattle.spl_operands.specs.spl_branch.declared.pieces.Piece.TheVariants.{Do, Begin}
use Rattle.spl_operands.specs.spl_meaning.Kinds.{width}
use Rattle.spl_operands.specs.spl_meaning.Operations.{kept}
use Rattle.spl_operands.specs.spl_meaning.Places.{Place, data_word, above_base, below_base, below_return}
use Rattle.spl_operands.specs.spl_meaning.References.{Setting, its_own, address_of, variable_address, variable_located, own_located, read, store}
use Rattle.spl_operands.specs.spl_meaning.States.{Data, State, Outcome, then_go, stopping}
use Rattle.spl_operands.specs.spl_code.Code.{as_value}
use Rattle.spl_operands.specs.spl_code.Operands.{mode_of, loaded}
use Rattle.spl_operands.specs.spl_code.Stores.{from_top, own_stored}
use Rattle.spl_operands.specs.spl_code.Parts.{pieces, piece, nothing, ◌⨟◌}
use Rattle.spl_operands.specs.spl_follow.Matching.{Matched}
use Rattle.spl_operands.specs.spl_follow.Simulating.{Simulates, Performs}
use Rattle.spl_operands.specs.spl_values.Reached.{is_reached, is_seen}
use Rattle.spl_operands.proofs.spl_values_proofs.VariableLemmas.{both}
use Rattle.spl_operands.specs.Operands.{Based, Finds, Refers}
use Rattle.spl_operands.proofs.OperandLemmas.{place_based, moved_address, moved_side}
use Rattle.spl_operands.proofs.SeenLemmas.{below_is, below_low, seen_based}
use Rattle.spl_operands.proofs.LoadLemmas.{loading}
use Rattle.spl_operands.proofs.ReadLemmas.{reference_gives}
use Rattle.spl_operands.proofs.StoreLemmas.{storing}
use Rattle.spl_operands.proofs.AssignLemmas.{reference_assigned}
use Rattle.spl_variables.specs.Laws.{OwnWordsSimulate, OwnWordsAssigned}

-- ---- where operands are

-- twice the address of a place that is reached is a word
pub place_low : (st : Setting) (d : Data) (k j : ℕ) (place : Place) (m : Machine) → is_reached st k place ≡ true → Matched st d m j
    → address_of place d < 32768
place_low st d k j (data_word a) m e x =
    let low = ltb-true a 256 (both (not st.split) (nat_lt a 256) e).1 in
    omega (arith, low)
place_low st d k j (above_base n) m e x =
    let low = ltb-true n 128 e in
    let live = x.lies.live in
    let within = x.lies.within in
    let least = x.lies.least in
    omega (arith, low, live, within, least)
place_low st d k j (below_base n) m e x =
    let live = x.lies.live in
    let within = x.lies.within in
    let least = x.lies.least in
    omega (arith, live, within, least)
place_low st d k j (below_return n) m e x = absurd (false≢true e)

-- and so it is of one that is seen
pub seen_low : (st : Setting) (d : Data) (k : ℕ) (place : Place) (m : Machine) → is_seen st k place ≡ true → Matched st d m k → address_of place d < 32768
seen_low st d k (data_word a) m e x = place_low st d k k (data_word a) m e x
seen_low st d k (above_base n) m e x = place_low st d k k (above_base n) m e x
seen_low st d k (below_base n) m e x = place_low st d k k (below_base n) m e x
seen_low st d k (below_return n) m e x = let low = below_low st d k k n m (below_is st k n e) x in omega (arith, low)

-- the first byte of a word
byte_address : (place : Operand) → address (first_byte place) ≡ 2 * address place % 65536
unfolding first_byte
byte_address (Db a) = refl
byte_address (Stack a) = refl

byte_side : (place : Operand) (far : Bool) (m : Machine) → Sided place far m → Sided (first_byte place) far m
unfolding first_byte
byte_side (Db a) far m side = side
byte_side (Stack a) far m side = side

-- where a mode names a variable's word, its operand is at the variable's address
pub own_finds : (t : Kind) (mode : Mode) (a : ℕ) (m : Machine) → Based mode a m → a < 32768 → Finds t mode false false false (variable_address t a) m
unfolding operand byte_operand
own_finds kind.Integer mode a m b low = record {
  place = moved 0 (base mode m);
  is = refl;
  at = let at = b.at in moved_address 0 (base mode m) ∙ omega (arith, at, low);
  side = moved_side 0 (base mode m) false m b.side;
}
own_finds kind.Logical mode a m b low = record {
  place = moved 0 (base mode m);
  is = refl;
  at = let at = b.at in moved_address 0 (base mode m) ∙ omega (arith, at, low);
  side = moved_side 0 (base mode m) false m b.side;
}
own_finds kind.Byte mode a m b low = record {
  place = moved 0 (first_byte (base mode m));
  is = refl;
  at = let at = b.at in let first = byte_address (base mode m) in moved_address 0 (first_byte (base mode m)) ∙ omega (arith, at, low, first);
  side = moved_side 0 (first_byte (base mode m)) false m (byte_side (base mode m) false m b.side);
}
own_finds kind.Double mode a m b low = record {
  place = moved 0 (base mode m);
  is = refl;
  at = let at = b.at in moved_address 0 (base mode m) ∙ omega (arith, at, low);
  side = moved_side 0 (base mode m) false m b.side;
}

-- it is what the source finds
pub own_refers : (st : Setting) (t : Kind) (k j : ℕ) (place : Place) (s : State) (m : Machine) → is_reached st k place ≡ true → Matched st s.now m j
    → Refers t (mode_of k place) false false s m (own_located t (Some place) None s)
own_refers st t k j place s m reached matches =
    (refl, refl, own_finds t (mode_of k place) (address_of place s.now) m (place_based st s.now k j place m reached matches) (place_low st s.now k j place m reached matches))

-- So it is where a place is seen, while exactly those words wait.
pub seen_own_refers : (st : Setting) (t : Kind) (k : ℕ) (place : Place) (s : State) (m : Machine) → is_seen st k place ≡ true → Matched st s.now m k
    → s.now.top + k ≤ s.now.stack → Refers t (mode_of k place) false false s m (own_located t (Some place) None s)
seen_own_refers st t k place s m seen matches room =
    (refl, refl, own_finds t (mode_of k place) (address_of place s.now) m (seen_based st s.now k place m seen matches room) (seen_low st s.now k place m seen matches))

-- ---- reads

-- the load of a kind is its instruction
own_load : (t : Kind) (mode : Mode) → Do (loading t false false mode) ∷ [] ≡ loaded (its_own t) false mode
own_load kind.Integer mode = refl
own_load kind.Logical mode = refl
own_load kind.Byte mode = refl
own_load kind.Double mode = refl

pub own_words_give : OwnWordsSimulate
own_words_give z d k need t place seen enough =
    subst (λ (ps : List Piece). Simulates z d as_value (width t) k need (pieces ps) (λ s. read (variable_located t (address_of place s.now)) s)) (own_load t (mode_of k place))
    (reference_gives z d k need t (mode_of k place) false (λ s. own_located t (Some place) None s) enough (λ s m matches room. seen_own_refers z.setting t k place s m seen matches room))

-- ---- stores

-- a place that is reached is not counted from the top
pub not_from_top : (st : Setting) (k : ℕ) (place : Place) → is_reached st k place ≡ true → from_top place ≡ false
not_from_top st k (data_word a) e = refl
not_from_top st k (above_base n) e = refl
not_from_top st k (below_base n) e = refl
not_from_top st k (below_return n) e = absurd (false≢true e)

-- so the store of a kind is its instruction
own_store : (t : Kind) (mode : Mode) → Do (storing t false false mode) ∷ [] ≡ own_stored t false mode
own_store kind.Integer mode = refl
own_store kind.Logical mode = refl
own_store kind.Byte mode = refl
own_store kind.Double mode = refl

pub own_words_assigned : OwnWordsAssigned
own_words_assigned z d k need number at t place a value one reached enough whole sim =
    subst (λ (b : Bool). Performs z d k need (piece (Begin at) ⨟ (nothing ⨟ a ⨟ pieces (own_stored t b (mode_of k place)))) meant) (sym (not_from_top z.setting k place reached))
    (subst (λ (ps : List Piece). Performs z d k need (piece (Begin at) ⨟ (nothing ⨟ a ⨟ pieces ps)) meant) (own_store t (mode_of k place))
    (reference_assigned z d k need number at t (mode_of k place) false a value (λ v. own_located t (Some place) None v) one enough whole sim
    (λ s m matches room. own_refers z.setting t k (k + 1) place s m reached matches))) where
      meant : State → Outcome (Unit {0})
      meant s = stopping number at s (λ u. then_go (value u) (λ vs v. store (variable_located t (address_of place v.now)) (kept t vs) v))
