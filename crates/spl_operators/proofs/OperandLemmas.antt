-- Operators of two words: products, quotients and remainders.
use Rattle.std.proofs.Common.{◌≡◌, ◌⊎◌, inl, inr, ℕ, zero, suc, ◌+◌, ◌-◌, ◌/◌, ◌%◌, ◌<◌, ◌≤◌, Bool, true, false, List, [], ◌∷◌, ◌++◌, length, refl, sym, subst, arith}
use Rattle.std.specs.Prelude.{Option, Some, None, ◌==◌, ◌||◌, if◌then◌else◌, int_div, int_rem}
use Rattle.std.proofs.lemmas.Bool.{eqb-true, eqb-false, false≢true}
use Rattle.std.proofs.lemmas.Nat.{mod_below, mul-lt}
use Rattle.std.proofs.Math.Logic.{⊎_elim}
use Rattle.spl_conditions.specs.hp_word.declared.arithmetic.Quotient.{Quotient}
use Rattle.spl_conditions.specs.hp_word.declared.endings.Trap.TheVariants.{IntegerOverflow, DivideByZero}
use Rattle.spl_conditions.specs.hp_word.Bytes.{double, high_word, low_word}
use Rattle.spl_conditions.specs.hp_word.Words.{signed, word_of, is_out_of_word, word_result, multiplied, divided, logically_multiplied, logically_divided}
use Rattle.spl_conditions.proofs.hp_word_proofs.WordLaws.{word_of-below}
use Rattle.spl_conditions.specs.hp_instr.declared.instruction.Instr.TheVariants as i
use Rattle.spl_conditions.specs.hp_instr.Instructions.{op}
use Rattle.spl_conditions.specs.hp_session.State.{Machine, word}
use Rattle.spl_conditions.specs.hp_stack_rows.StackRows.{operated}
use Rattle.spl_conditions.specs.hp_yields.Rows.{Divides, DividesLogically}
use Rattle.spl_conditions.proofs.hp_yields_proofs.StackYields as rows
use Rattle.spl_conditions.specs.spl_branch.declared.pieces.Piece.{Piece}
use Rattle.spl_conditions.specs.spl_meaning.Kinds.{Class, integers, logicals, doubles, mixed, times, modulo}
use Rattle.spl_conditions.specs.spl_meaning.Operations.{quotient_done, by_class}
use Rattle.spl_conditions.specs.spl_meaning.References.{Setting}
use Rattle.spl_conditions.specs.spl_meaning.States.{Data, State, Outcome, done, ends, trapped, then_go}
use Rattle.spl_conditions.specs.spl_code.Code.{as_value}
use Rattle.spl_conditions.specs.spl_code.Instructions.{ZERO, DEL, DELB, CAB, operate}
use Rattle.spl_conditions.specs.spl_code.Operators.{class_operator}
use Rattle.spl_conditions.specs.spl_code.Parts.{Part, pieces, ◌⨟◌}
use Rattle.spl_conditions.specs.spl_follow.Spots.{Spot, pos, on, Ground}
use Rattle.spl_conditions.specs.spl_follow.Matching.{IsValue}
use Rattle.spl_conditions.specs.spl_follow.Following.{Rate, tally, Follows, NoExit}
use Rattle.spl_conditions.specs.spl_follow.Doing.{doing}
use Rattle.spl_conditions.specs.spl_follow.Simulating.{Surroundings, Simulates}
use Rattle.spl_conditions.specs.spl_follow.Standing.{Stands}
use Rattle.spl_conditions.specs.spl_follow.Yielding.{Yields}
use Rattle.spl_conditions.proofs.spl_follow_proofs.FollowLemmas.{widen}
use Rattle.spl_conditions.proofs.spl_follow_proofs.KeepLemmas.{value_word, value_ready}
use Rattle.spl_conditions.proofs.spl_follow_proofs.PartLemmas.{stand_in_order, rows_trap}
use Rattle.spl_conditions.proofs.spl_follow_proofs.StandLemmas.{closed_last, stands_le}
use Rattle.spl_conditions.specs.spl_values.Reached.{is_word_class, IsWhole}
use Rattle.spl_conditions.proofs.spl_values_proofs.GiveLemmas.{last_leads}
use Rattle.spl_conditions.proofs.spl_values_proofs.SumLemmas.{operands_follow, front_on, settling, operation_gives}
use Rattle.spl_operators.specs.Laws.{over, is_quotient, ProductsSimulate, QuotientsSimulate}
use Rattle.spl_operators.proofs.RowLemmas.{words_row, row_then, value_there, lower_deleted, upper_deleted, zero_behind_two, rotated}

-- ---- two operands, and what stands behind them

-- What pieces make of two words on top of k that wait, with so many words of room above these k.
abbrev pub Makes : Surroundings → ℕ → ℕ → List Piece → (ℕ → ℕ → State → Outcome (List ℕ)) → Type 0
Makes z k need ps f = (r q : Spot) (v u : ℕ) (s : State) (m : Machine) (d0 : Data) (m0 : Machine) → Stands z.ground z.sites (on r) ps q
    → d0.top + k + need ≤ d0.stack → IsValue z.setting r 2 k d0 m0 (v ∷ u ∷ []) s m
    → Follows z.ground z.rate (pos q - pos r) 0 z.rate.reach (tally s) m (IsValue z.setting q 1 k d0 m0) NoExit (f v u s)

-- by the lists of the operands' words
by_lists : (z : Surroundings) (k need : ℕ) (ps : List Piece) (last : List ℕ → List ℕ → State → Outcome (List ℕ))
    → Makes z k need ps (λ v u s. last (v ∷ []) (u ∷ []) s) → (r q : Spot) (s : State) (m : Machine) (d0 : Data) (m0 : Machine)
    → Stands z.ground z.sites (on r) ps q → d0.top + k + need ≤ d0.stack → (vs us : List ℕ) → length vs ≡ 1 → length us ≡ 1
    → IsValue z.setting r 2 k d0 m0 (vs ++ us) s m
    → Follows z.ground z.rate (pos q - pos r) 0 z.rate.reach (tally s) m (IsValue z.setting q 1 k d0 m0) NoExit (last vs us s)
by_lists z k need ps last makes r q s m d0 m0 stands room (v ∷ []) (u ∷ []) one two x = makes r q v u s m d0 m0 stands room x
by_lists z k need ps last makes r q s m d0 m0 stands room [] us one two x = absurd (omega (arith, one))
by_lists z k need ps last makes r q s m d0 m0 stands room (v ∷ v' ∷ vs) us one two x = absurd (omega (arith, one))
by_lists z k need ps last makes r q s m d0 m0 stands room (v ∷ []) [] one two x = absurd (omega (arith, two))
by_lists z k need ps last makes r q s m d0 m0 stands room (v ∷ []) (u ∷ u' ∷ us) one two x = absurd (omega (arith, two))

-- two parts and such pieces
pub operands_then : (z : Surroundings) (d k need more : ℕ) (a b : Part) (ps : List Piece) (first other : State → Outcome (List ℕ))
    (last : List ℕ → List ℕ → State → Outcome (List ℕ)) → Makes z k need ps (λ v u s. last (v ∷ []) (u ∷ []) s) → IsWhole a → IsWhole b
    → Simulates z d as_value 1 k need a first → Simulates z d as_value 1 (k + 1) more b other → more + 1 ≤ need
    → Simulates z d as_value 1 k need (a ⨟ b ⨟ pieces ps) (λ s. then_go (first s) (λ vs t. then_go (other t) (λ us u. last vs us u)))
operands_then z d k need more a b ps first other last makes wa wb sa sb enough = record {
  does = λ h ws p q s l m stands front ready.
      let x = a h ws in
      let y = b (h + x.marks) x.wants in
      let end = stand_in_order z.ground z.sites (x.pieces ++ y.pieces) ps p q (closed_last x.pieces y.pieces (wb.closed (h + x.marks) x.wants)) stands in
      let cut = stand_in_order z.ground z.sites x.pieces y.pieces p end.0 (wa.closed h ws) end.1 in
      let room : 1 + more ≤ need = omega (arith, enough) in
      operands_follow z.ground z.rate z.setting z.sites.marks p cut.0 end.0 q k s l m (IsValue z.setting q 1 k s.now m) (first s) other last cut.3 cut.4 end.4
      (sa.does h ws p cut.0 s l m cut.1 (front_on x.wants y.wants z.wants (wb.keeps (h + x.marks) x.wants) front) ready)
      (λ vs s1 m1 v fewer. sb.does (h + x.marks) x.wants (on cut.0) end.0 s1 s1.begun m1 cut.2 front
      (value_ready z.setting d p cut.0 k need 1 more s l m vs s1 m1 ready v fewer room))
      (λ vs us s2 m2 one two v. by_lists z k need ps last makes end.0 q s2 m2 s.now m end.2 ready.room vs us one two v);
}

-- ---- products

multiplied_small : (b a : ℕ) → (multiplied b a).value < 65536
unfolding multiplied word_result
multiplied_small b a = word_of-below _

-- the high word of a product of two words, and its low one, are words
high_small : (v u : ℕ) → v < 65536 → u < 65536 → high_word (logically_multiplied v u).value < 65536
unfolding high_word logically_multiplied
high_small v u x y = let below = mul-lt v u 65536 65536 x y in omega (arith, below)

low_is : (v u : ℕ) → low_word (logically_multiplied v u).value ≡ (logically_multiplied v u).value % 65536
unfolding low_word
low_is v u = refl

low_small : (d : ℕ) → low_word d < 65536
unfolding low_word
low_small d = omega arith

-- LMPY leaves a double, of which DELB keeps the low word
logical_products : (z : Surroundings) (k need : ℕ)
    → Makes z k need (operate 0o63 ∷ DELB ∷ []) (λ v u s. done ((logically_multiplied v u).value % 65536 ∷ []) s)
logical_products z k need r q v u s m d0 m0 stands room x =
    let g = z.ground in
    let w = z.rate in
    let st = z.setting in
    let product = (logically_multiplied v u).value in
    let there = value_there st r 2 k d0 m0 (v ∷ u ∷ []) s m x in
    let one = stands.1.rise in
    let two = stands_le g z.sites (DELB ∷ []) (on stands.0) q stands.2 in
    row_then g w r stands.0 q st s m d0 m0 k 2 (high_word product ∷ low_word product ∷ []) (IsValue st q 1 k d0 m0) (done (product % 65536 ∷ []) s)
    (omega (arith, one)) two
    (words_row g w r stands.0 (doing g.segments (i.Pair (op 0o63) (op 0)) stands.0) st s m d0 m0 k 2 2 (v ∷ u ∷ []) (high_word product ∷ low_word product ∷ [])
    (operated 0o63 m) stands.1 refl x
    (subst (λ (b : ℕ). Yields 2 (high_word (logically_multiplied b u).value ∷ low_word (logically_multiplied b u).value ∷ []) m (operated 0o63 m))
    (value_word st r 2 k 1 0 d0 m0 (v ∷ u ∷ []) s m x refl)
    (subst (λ (b : ℕ). Yields 2 (high_word (logically_multiplied (word 1 m) b).value ∷ low_word (logically_multiplied (word 1 m) b).value ∷ []) m (operated 0o63 m))
    (value_word st r 2 k 0 1 d0 m0 (v ∷ u ∷ []) s m x refl) (rows.logical_multiply m there)))
    (high_small v u x.small.0 x.small.1.0, (low_small product, tt)) refl)
    (λ m1 y. subst (λ (b : ℕ). Follows g w (pos q - pos stands.0) 0 w.reach (tally s) m1 (IsValue st q 1 k d0 m0) NoExit (done (b ∷ []) s)) (low_is v u)
    (lower_deleted g w stands.0 q st s m1 d0 m0 k (high_word product) (low_word product) (last_leads g z.sites (on stands.0) (i.Pair (op 0o01) (op 0)) q stands.2) y))

pub products : ProductsSimulate
products z d k need more integers a b first other one wa wb sa sb enough =
    operation_gives z d k need more 0o22 a b first other (λ vs us u. by_class integers times vs us u) (settling 0o22 multiplied rows.multiply multiplied_small) wa wb
    sa sb enough
products z d k need more logicals a b first other one wa wb sa sb enough =
    operands_then z d k need more a b (operate 0o63 ∷ DELB ∷ []) first other (λ vs us u. by_class logicals times vs us u) (logical_products z k need) wa wb sa sb
    enough
products z d k need more doubles a b first other one wa wb sa sb enough = absurd (false≢true one)
products z d k need more mixed a b first other one wa wb sa sb enough = absurd (false≢true one)

-- ---- quotients

-- both words of a quotient are words
abbrev AreSmall : Option Quotient → Type 0
AreSmall None = Unit {0}
AreSmall (Some y) = (y.quotient < 65536) × (y.remainder < 65536)

divided_small : (b a : ℕ) → AreSmall (divided b a)
unfolding divided
divided_small b a = by (a == 0) where
  by : (c : Bool) → AreSmall (if c then None else Some (record {
    quotient = word_of (int_div (signed b) (signed a));
    remainder = word_of (int_rem (signed b) (signed a));
    overflow = is_out_of_word (int_div (signed b) (signed a));
  }))
  by true = tt
  by false = (word_of-below (int_div (signed b) (signed a)), word_of-below (int_rem (signed b) (signed a)))

-- DEL keeps the quotient, DELB the remainder
abbrev kept_of : Bool → Quotient → ℕ
kept_of remainder y = if remainder then y.remainder else y.quotient

abbrev keeper : Bool → Piece
keeper remainder = if remainder then DELB else DEL

one_kept : (z : Surroundings) (remainder : Bool) (r q : Spot) (s : State) (m : Machine) (d0 : Data) (m0 : Machine) (k : ℕ) (y : Quotient)
    → Stands z.ground z.sites (on r) (keeper remainder ∷ []) q → IsValue z.setting r 2 k d0 m0 (y.quotient ∷ y.remainder ∷ []) s m
    → Follows z.ground z.rate (pos q - pos r) 0 z.rate.reach (tally s) m (IsValue z.setting q 1 k d0 m0) NoExit (done (kept_of remainder y ∷ []) s)
one_kept z true r q s m d0 m0 k y stands x =
    lower_deleted z.ground z.rate r q z.setting s m d0 m0 k y.quotient y.remainder (last_leads z.ground z.sites (on r) (i.Pair (op 0o01) (op 0)) q stands) x
one_kept z false r q s m d0 m0 k y stands x =
    upper_deleted z.ground z.rate r q z.setting s m d0 m0 k y.quotient y.remainder (last_leads z.ground z.sites (on r) (i.Pair (op 0o40) (op 0)) q stands) x

keeper_rises : (z : Surroundings) (remainder : Bool) (r q : Spot) → Stands z.ground z.sites (on r) (keeper remainder ∷ []) q → pos r ≤ pos q
keeper_rises z remainder r q stands = stands_le z.ground z.sites (keeper remainder ∷ []) (on r) q stands

-- DIV leaves quotient and remainder, or traps
integer_quotients : (z : Surroundings) (k need : ℕ) (remainder : Bool)
    → Makes z k need (operate 0o23 ∷ keeper remainder ∷ []) (λ v u s. quotient_done remainder (divided v u) s)
integer_quotients z k need remainder r q v u s m d0 m0 stands room x = by (divided v u) divides (divided_small v u) where
  g : Ground
  g = z.ground

  w : Rate
  w = z.rate

  st : Setting
  st = z.setting

  there : 2 ≤ length m.stack
  there = value_there st r 2 k d0 m0 (v ∷ u ∷ []) s m x

  divides : Divides 2 (divided v u) m (operated 0o23 m)
  divides =
      subst (λ (b : ℕ). Divides 2 (divided b u) m (operated 0o23 m)) (value_word st r 2 k 1 0 d0 m0 (v ∷ u ∷ []) s m x refl)
      (subst (λ (b : ℕ). Divides 2 (divided (word 1 m) b) m (operated 0o23 m)) (value_word st r 2 k 0 1 d0 m0 (v ∷ u ∷ []) s m x refl) (rows.divide m there))

  two : pos stands.0 ≤ pos q
  two = keeper_rises z remainder stands.0 q stands.2

  by : (o : Option Quotient) → Divides 2 o m (operated 0o23 m) → AreSmall o
      → Follows g w (pos q - pos r) 0 w.reach (tally s) m (IsValue st q 1 k d0 m0) NoExit (quotient_done remainder o s)
  by None e small =
      widen g w (pos stands.0 - pos r) 0 w.reach (pos q - pos r) 0 w.reach (tally s) m (IsValue st q 1 k d0 m0) NoExit (ends (trapped DivideByZero) s)
      (rows_trap g w (on r) stands.0 q (doing g.segments (i.Pair (op 0o23) (op 0)) stands.0) st s.begun s m d0 m0 k (k + 2) 1 (operated 0o23 m) DivideByZero stands.1
      refl x.at refl x.matches e)
      (omega (arith, two)) (omega arith) (omega arith)
  by (Some y) e small = settled y.overflow refl where
    settled : (b : Bool) → y.overflow ≡ b
        → Follows g w (pos q - pos r) 0 w.reach (tally s) m (IsValue st q 1 k d0 m0) NoExit
        (if b then ends (trapped IntegerOverflow) s else done (kept_of remainder y ∷ []) s)
    settled true is =
        widen g w (pos stands.0 - pos r) 0 w.reach (pos q - pos r) 0 w.reach (tally s) m (IsValue st q 1 k d0 m0) NoExit (ends (trapped IntegerOverflow) s)
        (rows_trap g w (on r) stands.0 q (doing g.segments (i.Pair (op 0o23) (op 0)) stands.0) st s.begun s m d0 m0 k (k + 2) 1 (operated 0o23 m) IntegerOverflow
        stands.1 refl x.at refl x.matches (e.0 is))
        (omega (arith, two)) (omega arith) (omega arith)
    settled false is =
        let one = stands.1.rise in
        row_then g w r stands.0 q st s m d0 m0 k 2 (y.quotient ∷ y.remainder ∷ []) (IsValue st q 1 k d0 m0) (done (kept_of remainder y ∷ []) s) (omega (arith, one))
        two
        (words_row g w r stands.0 (doing g.segments (i.Pair (op 0o23) (op 0)) stands.0) st s m d0 m0 k 2 2 (v ∷ u ∷ []) (y.quotient ∷ y.remainder ∷ [])
        (operated 0o23 m) stands.1 refl x (e.1 is) (small.0, (small.1, tt)) refl)
        (λ m1 n. one_kept z remainder stands.0 q s m1 d0 m0 k y stands.2 n)

-- a quotient of LOGICALs is never out of range
abbrev IsPlain : Option Quotient → Type 0
IsPlain None = Unit {0}
IsPlain (Some y) = (y.overflow ≡ false) × (y.quotient < 65536) × (y.remainder < 65536)

-- who is not zero is above it
above_zero : (n : ℕ) → (n ≡ 0 → ⊥) → 0 < n
above_zero zero f = absurd (f refl)
above_zero (suc n) f = omega arith

plainly_divided : (d a : ℕ) → a < 65536 → IsPlain (logically_divided d a)
unfolding logically_divided
plainly_divided d a l = by (a == 0) refl where
  by : (c : Bool) → (a == 0) ≡ c → IsPlain (if c then None else Some (record { quotient = d / a % 65536; remainder = d % a; overflow = false }))
  by true e = tt
  by false e =
      let rest : d % a < a = mod_below d a (above_zero a (eqb-false a 0 e)) in (refl, omega arith, omega (arith, rest, l))

-- a word with zero as its high word is itself
double_zero : (v : ℕ) → double 0 v ≡ v
unfolding double
double_zero v = omega arith

-- LDIV of the double leaves quotient and remainder, or traps
double_divided : (z : Surroundings) (remainder : Bool) (r q : Spot) (v u : ℕ) (s : State) (m : Machine) (d0 : Data) (m0 : Machine) (k : ℕ)
    → Stands z.ground z.sites (on r) (operate 0o64 ∷ keeper remainder ∷ []) q → IsValue z.setting r 3 k d0 m0 (0 ∷ v ∷ u ∷ []) s m
    → Follows z.ground z.rate (pos q - pos r) 0 z.rate.reach (tally s) m (IsValue z.setting q 1 k d0 m0) NoExit
    (quotient_done remainder (logically_divided v u) s)
double_divided z remainder r q v u s m d0 m0 k stands x = by (logically_divided v u) divides (plainly_divided v u x.small.1.1.0) where
  g : Ground
  g = z.ground

  w : Rate
  w = z.rate

  st : Setting
  st = z.setting

  vs : List ℕ
  vs = 0 ∷ v ∷ u ∷ []

  there : 3 ≤ length m.stack
  there = value_there st r 3 k d0 m0 vs s m x

  divides : DividesLogically 3 (logically_divided v u) m (operated 0o64 m)
  divides =
      subst (λ (b : ℕ). DividesLogically 3 (logically_divided b u) m (operated 0o64 m)) (double_zero v)
      (subst (λ (b : ℕ). DividesLogically 3 (logically_divided (double b v) u) m (operated 0o64 m)) (value_word st r 3 k 2 0 d0 m0 vs s m x refl)
      (subst (λ (b : ℕ). DividesLogically 3 (logically_divided (double (word 2 m) b) u) m (operated 0o64 m)) (value_word st r 3 k 1 1 d0 m0 vs s m x refl)
      (subst (λ (b : ℕ). DividesLogically 3 (logically_divided (double (word 2 m) (word 1 m)) b) m (operated 0o64 m)) (value_word st r 3 k 0 2 d0 m0 vs s m x refl)
      (rows.logical_divide m there))))

  two : pos stands.0 ≤ pos q
  two = keeper_rises z remainder stands.0 q stands.2

  by : (o : Option Quotient) → DividesLogically 3 o m (operated 0o64 m) → IsPlain o
      → Follows g w (pos q - pos r) 0 w.reach (tally s) m (IsValue st q 1 k d0 m0) NoExit (quotient_done remainder o s)
  by None e plain =
      widen g w (pos stands.0 - pos r) 0 w.reach (pos q - pos r) 0 w.reach (tally s) m (IsValue st q 1 k d0 m0) NoExit (ends (trapped DivideByZero) s)
      (rows_trap g w (on r) stands.0 q (doing g.segments (i.Pair (op 0o64) (op 0)) stands.0) st s.begun s m d0 m0 k (k + 3) 1 (operated 0o64 m) DivideByZero stands.1
      refl x.at refl x.matches e)
      (omega (arith, two)) (omega arith) (omega arith)
  by (Some y) e plain =
      let one = stands.1.rise in
      subst (λ (b : Bool). Follows g w (pos q - pos r) 0 w.reach (tally s) m (IsValue st q 1 k d0 m0) NoExit (if b then ends (trapped IntegerOverflow) s else done (kept_of remainder y ∷ []) s))
      (sym plain.0)
      (row_then g w r stands.0 q st s m d0 m0 k 2 (y.quotient ∷ y.remainder ∷ []) (IsValue st q 1 k d0 m0) (done (kept_of remainder y ∷ []) s) (omega (arith, one)) two
      (words_row g w r stands.0 (doing g.segments (i.Pair (op 0o64) (op 0)) stands.0) st s m d0 m0 k 3 2 vs (y.quotient ∷ y.remainder ∷ []) (operated 0o64 m) stands.1
      refl x e (plain.1, (plain.2, tt)) refl)
      (λ m1 n. one_kept z remainder stands.0 q s m1 d0 m0 k y stands.2 n))

-- ZERO and two rotations put zero beneath both operands
logical_quotients : (z : Surroundings) (k need : ℕ) (remainder : Bool) → 3 ≤ need
    → Makes z k need (ZERO ∷ CAB ∷ CAB ∷ operate 0o64 ∷ keeper remainder ∷ []) (λ v u s. quotient_done remainder (logically_divided v u) s)
logical_quotients z k need remainder enough r q v u s m d0 m0 stands room x =
    let g = z.ground in
    let w = z.rate in
    let st = z.setting in
    let second = stands.2 in
    let third = second.2 in
    let o = quotient_done remainder (logically_divided v u) s in
    let P = IsValue st q 1 k d0 m0 in
    let one = stands.1.rise in
    let two = second.1.rise in
    let three = third.1.rise in
    let last = stands_le g z.sites (operate 0o64 ∷ keeper remainder ∷ []) (on third.0) q third.2 in
    row_then g w r stands.0 q st s m d0 m0 k 3 (v ∷ u ∷ 0 ∷ []) P o (omega (arith, one)) (omega (arith, two, three, last))
    (zero_behind_two g w r stands.0 st s m d0 m0 k need v u room enough stands.1 x) (λ m1 x1.
    row_then g w stands.0 second.0 q st s m1 d0 m0 k 3 (u ∷ 0 ∷ v ∷ []) P o (omega (arith, two)) (omega (arith, three, last))
    (rotated g w stands.0 second.0 st s m1 d0 m0 k v u 0 second.1 x1) (λ m2 x2.
    row_then g w second.0 third.0 q st s m2 d0 m0 k 3 (0 ∷ v ∷ u ∷ []) P o (omega (arith, three)) last
    (rotated g w second.0 third.0 st s m2 d0 m0 k u 0 v third.1 x2) (λ m3 x3. double_divided z remainder third.0 q v u s m3 d0 m0 k third.2 x3)))

-- which of the two it is
pub quotient_cases : (o : ℕ) → is_quotient o ≡ true → (o ≡ over) ⊎ (o ≡ modulo)
quotient_cases o e = by (o == over) refl e where
  by : (b : Bool) → (o == over) ≡ b → (b || (o == modulo)) ≡ true → (o ≡ over) ⊎ (o ≡ modulo)
  by true is e = inl (eqb-true o over is)
  by false is e = inr (eqb-true o modulo e)

quotient_of : (z : Surroundings) (d k need more : ℕ) (remainder : Bool) (class : Class) (a b : Part) (first other : State → Outcome (List ℕ))
    → is_word_class class ≡ true → IsWhole a → IsWhole b → Simulates z d as_value 1 k need a first → Simulates z d as_value 1 (k + 1) more b other
    → more + 1 ≤ need → 3 ≤ need
    → Simulates z d as_value 1 k need (a ⨟ b ⨟ pieces (class_operator class (if remainder then modulo else over)))
    (λ s. then_go (first s) (λ vs t. then_go (other t) (λ us u. by_class class (if remainder then modulo else over) vs us u)))
quotient_of z d k need more true integers a b first other one wa wb sa sb enough room =
    operands_then z d k need more a b (operate 0o23 ∷ keeper true ∷ []) first other (λ vs us u. by_class integers modulo vs us u) (integer_quotients z k need true) wa
    wb sa sb enough
quotient_of z d k need more false integers a b first other one wa wb sa sb enough room =
    operands_then z d k need more a b (operate 0o23 ∷ keeper false ∷ []) first other (λ vs us u. by_class integers over vs us u) (integer_quotients z k need false) wa
    wb sa sb enough
quotient_of z d k need more true logicals a b first other one wa wb sa sb enough room =
    operands_then z d k need more a b (ZERO ∷ CAB ∷ CAB ∷ operate 0o64 ∷ keeper true ∷ []) first other (λ vs us u. by_class logicals modulo vs us u)
    (logical_quotients z k need true room) wa wb sa sb enough
quotient_of z d k need more false logicals a b first other one wa wb sa sb enough room =
    operands_then z d k need more a b (ZERO ∷ CAB ∷ CAB ∷ operate 0o64 ∷ keeper false ∷ []) first other (λ vs us u. by_class logicals over vs us u)
    (logical_quotients z k need false room) wa wb sa sb enough
quotient_of z d k need more remainder doubles a b first other one wa wb sa sb enough room = absurd (false≢true one)
quotient_of z d k need more remainder mixed a b first other one wa wb sa sb enough room = absurd (false≢true one)

pub quotients : QuotientsSimulate
quotients z d k need more o class a b first other e one wa wb sa sb enough room =
    ⊎_elim
    (λ is. subst (λ (n : ℕ). Simulates z d as_value 1 k need (a ⨟ b ⨟ pieces (class_operator class n)) (λ s. then_go (first s) (λ vs t. then_go (other t) (λ us u. by_class class n vs us u)))) (sym is)
    (quotient_of z d k need more false class a b first other one wa wb sa sb enough room))
    (λ is. subst (λ (n : ℕ). Simulates z d as_value 1 k need (a ⨟ b ⨟ pieces (class_operator class n)) (λ s. then_go (first s) (λ vs t. then_go (other t) (λ us u. by_class class n vs us u)))) (sym is)
    (quotient_of z d k need more true class a b first other one wa wb sa sb enough room))
    (quotient_cases o e)
