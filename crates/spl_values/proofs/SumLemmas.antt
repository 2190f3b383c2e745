-- Sums and differences: both operands wait on top, and the operation puts its result in their place.
use Rattle.std.proofs.Common.{◌≡◌, ◌⊎◌, inl, inr, ℕ, ◌+◌, ◌-◌, ◌<◌, ◌≤◌, Bool, true, false, List, [], ◌∷◌, ◌++◌, length, refl, sym, ap, subst, ◌∙◌, arith}
use Rattle.std.specs.Prelude.{◌==◌, ◌||◌, if◌then◌else◌}
use Rattle.std.proofs.lemmas.Bool.{eqb-true, false≢true}
use Rattle.std.proofs.lemmas.List.{append_assoc}
use Rattle.std.proofs.Math.Logic.{⊎_elim}
use Rattle.hp_yields.specs.hp_word.declared.arithmetic.Arith.{Arith}
use Rattle.hp_yields.specs.hp_word.declared.endings.Trap.TheVariants.{IntegerOverflow}
use Rattle.hp_yields.specs.hp_word.Words.{added, subtracted, logically_added, logically_subtracted, word_result}
use Rattle.hp_yields.proofs.hp_word_proofs.WordLaws.{word_of-below}
use Rattle.hp_yields.specs.hp_instr.declared.instruction.Instr.TheVariants as i
use Rattle.hp_yields.specs.hp_instr.Instructions.{op}
use Rattle.hp_yields.specs.hp_session.State.{Machine, word}
use Rattle.hp_yields.specs.hp_stack_rows.StackRows.{operated}
use Rattle.hp_yields.specs.Rows.{Settles}
use Rattle.hp_yields.proofs.StackYields as rows
use Rattle.hp_yields.specs.spl_branch.declared.pieces.Piece.TheVariants.{Do}
use Rattle.hp_yields.specs.spl_meaning.Kinds.{Class, integers, logicals, doubles, mixed, plus, minus}
use Rattle.hp_yields.specs.spl_meaning.Laws.{IsFront}
use Rattle.hp_yields.specs.spl_meaning.Operations.{word_done, by_class}
use Rattle.hp_yields.specs.spl_meaning.References.{Setting}
use Rattle.hp_yields.specs.spl_meaning.States.{Data, State, Begun, Outcome, done, ends, trapped, then_go}
use Rattle.hp_yields.specs.spl_code.Code.{as_value}
use Rattle.hp_yields.specs.spl_code.Operators.{class_operator}
use Rattle.hp_yields.specs.spl_code.Parts.{Part, Wanted, pieces, ◌⨟◌}
use Rattle.hp_yields.specs.spl_follow.Spots.{Spot, pos, Point, on, Ground}
use Rattle.hp_yields.specs.spl_follow.Leading.{Leads}
use Rattle.hp_yields.specs.spl_follow.Matching.{IsValue}
use Rattle.hp_yields.specs.spl_follow.Following.{Rate, tally, tally_with, Follows, NoExit}
use Rattle.hp_yields.specs.spl_follow.Doing.{doing}
use Rattle.hp_yields.specs.spl_follow.Yielding.{Yields}
use Rattle.hp_yields.specs.spl_follow.Parts.{Gives}
use Rattle.hp_yields.specs.spl_follow.Simulating.{Surroundings, Simulates}
use Rattle.hp_yields.proofs.spl_follow_proofs.FollowLemmas.{bind_follows}
use Rattle.hp_yields.proofs.spl_follow_proofs.StandLemmas.{closed_last}
use Rattle.hp_yields.proofs.spl_follow_proofs.KeepLemmas.{values_join, value_word, value_ready}
use Rattle.hp_yields.proofs.spl_follow_proofs.PartLemmas.{stand_in_order, rows_trap}
use Rattle.spl_values.specs.Reached.{is_sum, is_word_class, IsWhole}
use Rattle.spl_values.specs.Laws.{SumsSimulate}
use Rattle.spl_values.proofs.GiveLemmas.{last_leads, value_row}

-- ---- operations

-- What an operation of two words by its code does where they are on top: of a part that began with d0 and m0, while k words waited.
abbrev pub Operates : ℕ → (ℕ → ℕ → State → Outcome (List ℕ)) → Type 0
Operates code f = (g : Ground) (w : Rate) (p q : Spot) (st : Setting) (s : State) (m : Machine) (d0 : Data) (m0 : Machine) (k v u : ℕ)
    → Leads g (on p) q (doing g.segments (i.Pair (op code) (op 0)) q) → IsValue st p 2 k d0 m0 (v ∷ u ∷ []) s m
    → Follows g w (pos q - pos p) 0 w.reach (tally s) m (IsValue st q 1 k d0 m0) NoExit (f v u s)

-- the words on top are those of the value
pub lower_is : (st : Setting) (p : Spot) (k : ℕ) (d : Data) (m : Machine) (v u : ℕ) (s : State) (n : Machine) → IsValue st p 2 k d m (v ∷ u ∷ []) s n
    → word 1 n ≡ v
lower_is st p k d m v u s n x = value_word st p 2 k 1 0 d m (v ∷ u ∷ []) s n x refl

pub upper_is : (st : Setting) (p : Spot) (k : ℕ) (d : Data) (m : Machine) (v u : ℕ) (s : State) (n : Machine) → IsValue st p 2 k d m (v ∷ u ∷ []) s n
    → word 0 n ≡ u
upper_is st p k d m v u s n x = value_word st p 2 k 0 1 d m (v ∷ u ∷ []) s n x refl

-- there are two
pub two_there : (st : Setting) (p : Spot) (k : ℕ) (d : Data) (m : Machine) (v u : ℕ) (s : State) (n : Machine) → IsValue st p 2 k d m (v ∷ u ∷ []) s n
    → 2 ≤ length n.stack
two_there st p k d m v u s n x = let words = x.matches.words in omega (arith, words)

-- an operation that traps where its result is out of range
pub settling : (code : ℕ) (r : ℕ → ℕ → Arith) → ((m : Machine) → 2 ≤ length m.stack → Settles 2 (r (word 1 m) (word 0 m)) m (operated code m))
    → ((v u : ℕ) → (r v u).value < 65536) → Operates code (λ v u s. word_done (r v u) s)
settling code r row small g w p q st s m d0 m0 k v u leads x = by (r v u).overflow refl where
  settled : Settles 2 (r v u) m (operated code m)
  settled =
      subst (λ (a : ℕ). Settles 2 (r v a) m (operated code m)) (upper_is st p k d0 m0 v u s m x)
      (subst (λ (b : ℕ). Settles 2 (r b (word 0 m)) m (operated code m)) (lower_is st p k d0 m0 v u s m x)
      (row m (two_there st p k d0 m0 v u s m x)))

  by : (b : Bool) → (r v u).overflow ≡ b
      → Follows g w (pos q - pos p) 0 w.reach (tally s) m (IsValue st q 1 k d0 m0) NoExit
      (if b then ends (trapped IntegerOverflow) s else done ((r v u).value ∷ []) s)
  by true e =
      rows_trap g w (on p) q q (doing g.segments (i.Pair (op code) (op 0)) q) st s.begun s m d0 m0 k (k + 2) 1 (operated code m) IntegerOverflow leads
      refl x.at refl x.matches (settled.trap e)
  by false e =
      value_row g w p q (doing g.segments (i.Pair (op code) (op 0)) q) st s m d0 m0 k 2 (v ∷ u ∷ []) (r v u).value (operated code m) leads refl x
      (settled.result e) (small v u)

-- one that never does
pub yielding : (code : ℕ) (r : ℕ → ℕ → ℕ) → ((m : Machine) → 2 ≤ length m.stack → Yields 2 (r (word 1 m) (word 0 m) ∷ []) m (operated code m))
    → ((v u : ℕ) → r v u < 65536) → Operates code (λ v u s. done (r v u ∷ []) s)
yielding code r row small g w p q st s m d0 m0 k v u leads x =
    value_row g w p q (doing g.segments (i.Pair (op code) (op 0)) q) st s m d0 m0 k 2 (v ∷ u ∷ []) (r v u) (operated code m) leads refl x
    (subst (λ (a : ℕ). Yields 2 (r v a ∷ []) m (operated code m)) (upper_is st p k d0 m0 v u s m x)
    (subst (λ (b : ℕ). Yields 2 (r b (word 0 m) ∷ []) m (operated code m)) (lower_is st p k d0 m0 v u s m x)
    (row m (two_there st p k d0 m0 v u s m x))))
    (small v u)

-- ---- results are words

pub added_small : (b a : ℕ) → (added b a).value < 65536
unfolding added word_result
added_small b a = word_of-below _

subtracted_small : (b a : ℕ) → (subtracted b a).value < 65536
unfolding subtracted word_result
subtracted_small b a = word_of-below _

logically_added_small : (b a : ℕ) → (logically_added b a).value < 65536
unfolding logically_added word_result
logically_added_small b a = word_of-below _

pub logically_subtracted_small : (b a : ℕ) → (logically_subtracted b a).value < 65536
unfolding logically_subtracted word_result
logically_subtracted_small b a = word_of-below _

-- ---- operands

-- Two operands, one word each, and what stands behind them, whatever that leaves.
pub operands_follow : (g : Ground) (w : Rate) (st : Setting) (marks : ℕ → Spot) (p : Point) (r q t : Spot) (k : ℕ) (s : State) (l : List Begun)
    (m : Machine) (P : List ℕ → State → Machine → Type 0) (first : Outcome (List ℕ)) (other : State → Outcome (List ℕ))
    (last : List ℕ → List ℕ → State → Outcome (List ℕ))
    → pos p.at ≤ pos r → pos r ≤ pos q → pos q ≤ pos t → Gives g w st marks as_value 1 p r k s l m first
    → ((vs : List ℕ) (s1 : State) (m1 : Machine) → IsValue st r 1 k s.now m vs s1 m1 → s1.left ≤ s.left
    → Gives g w st marks as_value 1 (on r) q (k + 1) s1 s1.begun m1 (other s1))
    → ((vs us : List ℕ) (s2 : State) (m2 : Machine) → length vs ≡ 1 → length us ≡ 1 → IsValue st q 2 k s.now m (vs ++ us) s2 m2
    → Follows g w (pos t - pos q) 0 w.reach (tally s2) m2 P NoExit (last vs us s2))
    → Follows g w (pos t - pos p.at) 1 w.reach (tally_with l s) m P NoExit (then_go first (λ vs s1. then_go (other s1) (λ us s2. last vs us s2)))
operands_follow g w st marks p r q t k s l m P first other last before between behind f rest end =
    let many = w.enough in
    bind_follows g w (pos r - pos p.at) 1 w.reach (pos t - pos r) 1 w.reach (pos t - pos p.at) 1 w.reach (tally_with l s) m (IsValue st r 1 k s.now m)
    P NoExit first (λ vs s1. then_go (other s1) (λ us s2. last vs us s2)) f (λ vs s1 m1 v fewer. ends_so vs s1 m1 v (rest vs s1 m1 v fewer))
    (omega (arith, before, between, behind)) (omega arith) (omega (arith, many)) (omega (arith, many)) where
      ends_so : (vs : List ℕ) (s1 : State) (m1 : Machine) → IsValue st r 1 k s.now m vs s1 m1
          → Gives g w st marks as_value 1 (on r) q (k + 1) s1 s1.begun m1 (other s1)
          → Follows g w (pos t - pos r) 1 w.reach (tally s1) m1 P NoExit (then_go (other s1) (λ us s2. last vs us s2))
      ends_so vs s1 m1 v h =
          let many = w.enough in
          bind_follows g w (pos q - pos r) 1 w.reach (pos t - pos q) 0 w.reach (pos t - pos r) 1 w.reach (tally s1) m1
          (IsValue st q 1 (k + 1) s1.now m1) P NoExit (other s1) (λ us s2. last vs us s2) h
          (λ us s2 m2 u fewer. end vs us s2 m2 v.wide u.wide (values_join st r q 1 1 k s.now m vs us s1 m1 s2 m2 v u))
          (omega (arith, between, behind)) (omega arith) (omega (arith, many)) (omega (arith, many))

-- two words by their lists
pub by_words : (g : Ground) (w : Rate) (p q : Spot) (st : Setting) (s : State) (m : Machine) (d0 : Data) (m0 : Machine) (k code : ℕ)
    (f : List ℕ → List ℕ → State → Outcome (List ℕ)) → Operates code (λ v u t. f (v ∷ []) (u ∷ []) t)
    → Leads g (on p) q (doing g.segments (i.Pair (op code) (op 0)) q) → (vs us : List ℕ) → length vs ≡ 1 → length us ≡ 1
    → IsValue st p 2 k d0 m0 (vs ++ us) s m
    → Follows g w (pos q - pos p) 0 w.reach (tally s) m (IsValue st q 1 k d0 m0) NoExit (f vs us s)
by_words g w p q st s m d0 m0 k code f operates leads (v ∷ []) (u ∷ []) one two x = operates g w p q st s m d0 m0 k v u leads x
by_words g w p q st s m d0 m0 k code f operates leads [] us one two x = absurd (omega (arith, one))
by_words g w p q st s m d0 m0 k code f operates leads (v ∷ v' ∷ vs) us one two x = absurd (omega (arith, one))
by_words g w p q st s m d0 m0 k code f operates leads (v ∷ []) [] one two x = absurd (omega (arith, two))
by_words g w p q st s m d0 m0 k code f operates leads (v ∷ []) (u ∷ u' ∷ us) one two x = absurd (omega (arith, two))

-- what stands in front of what stands in front does too
pub front_on : (xs ys zs : List Wanted) → IsFront xs ys → IsFront ys zs → IsFront xs zs
front_on xs ys zs a b = record {
  rest = a.rest ++ b.rest;
  is = b.is ∙ ap (λ l. l ++ b.rest) a.is ∙ append_assoc xs a.rest b.rest;
}

-- two parts and an operation of one instruction
pub operation_gives : (z : Surroundings) (d k need more code : ℕ) (a b : Part) (first other : State → Outcome (List ℕ))
    (f : List ℕ → List ℕ → State → Outcome (List ℕ)) → Operates code (λ v u t. f (v ∷ []) (u ∷ []) t) → IsWhole a → IsWhole b
    → Simulates z d as_value 1 k need a first → Simulates z d as_value 1 (k + 1) more b other → more + 1 ≤ need
    → Simulates z d as_value 1 k need (a ⨟ b ⨟ pieces (Do (i.Pair (op code) (op 0)) ∷ []))
    (λ s. then_go (first s) (λ vs t. then_go (other t) (λ us u. f vs us u)))
operation_gives z d k need more code a b first other f operates wa wb sa sb enough = record {
  does = λ h ws p q s l m stands front ready.
      let x = a h ws in
      let y = b (h + x.marks) x.wants in
      let last = stand_in_order z.ground z.sites (x.pieces ++ y.pieces) (Do (i.Pair (op code) (op 0)) ∷ []) p q
      (closed_last x.pieces y.pieces (wb.closed (h + x.marks) x.wants)) stands in
      let cut = stand_in_order z.ground z.sites x.pieces y.pieces p last.0 (wa.closed h ws) last.1 in
      let room : 1 + more ≤ need = omega (arith, enough) in
      operands_follow z.ground z.rate z.setting z.sites.marks p cut.0 last.0 q k s l m (IsValue z.setting q 1 k s.now m) (first s) other f cut.3 cut.4 last.4
      (sa.does h ws p cut.0 s l m cut.1 (front_on x.wants y.wants z.wants (wb.keeps (h + x.marks) x.wants) front) ready)
      (λ vs s1 m1 v fewer. sb.does (h + x.marks) x.wants (on cut.0) last.0 s1 s1.begun m1 cut.2 front
      (value_ready z.setting d p cut.0 k need 1 more s l m vs s1 m1 ready v fewer room))
      (λ vs us s2 m2 one two v. by_words z.ground z.rate last.0 q z.setting s2 m2 s.now m k code f operates
      (last_leads z.ground z.sites (on last.0) (i.Pair (op code) (op 0)) q last.2) vs us one two v);
}

-- ---- sums

-- which of the two it is
pub sum_cases : (o : ℕ) → is_sum o ≡ true → (o ≡ plus) ⊎ (o ≡ minus)
sum_cases o e = by (o == plus) refl e where
  by : (b : Bool) → (o == plus) ≡ b → (b || (o == minus)) ≡ true → (o ≡ plus) ⊎ (o ≡ minus)
  by true is e = inl (eqb-true o plus is)
  by false is e = inr (eqb-true o minus e)

-- ADD, SUB, LADD, LSUB
pub sums_give : SumsSimulate
sums_give z d k need more o class a b first other sum one wa wb sa sb enough =
    ⊎_elim
    (λ e. subst (λ (n : ℕ). Simulates z d as_value 1 k need (a ⨟ b ⨟ pieces (class_operator class n)) (λ s. then_go (first s) (λ vs t. then_go (other t) (λ us u. by_class class n vs us u)))) (sym e) (by_plus class one))
    (λ e. subst (λ (n : ℕ). Simulates z d as_value 1 k need (a ⨟ b ⨟ pieces (class_operator class n)) (λ s. then_go (first s) (λ vs t. then_go (other t) (λ us u. by_class class n vs us u)))) (sym e) (by_minus class one))
    (sum_cases o sum) where
      by_plus : (class : Class) → is_word_class class ≡ true
          → Simulates z d as_value 1 k need (a ⨟ b ⨟ pieces (class_operator class plus)) (λ s. then_go (first s) (λ vs t. then_go (other t) (λ us u. by_class class plus vs us u)))
      by_plus integers e =
          operation_gives z d k need more 0o20 a b first other (λ vs us u. by_class integers plus vs us u) (settling 0o20 added rows.add added_small) wa wb sa sb enough
      by_plus logicals e =
          operation_gives z d k need more 0o61 a b first other (λ vs us u. by_class logicals plus vs us u)
          (yielding 0o61 (λ v u. (logically_added v u).value) rows.logical_add logically_added_small) wa wb sa sb enough
      by_plus doubles e = absurd (false≢true e)
      by_plus mixed e = absurd (false≢true e)

      by_minus : (class : Class) → is_word_class class ≡ true
          → Simulates z d as_value 1 k need (a ⨟ b ⨟ pieces (class_operator class minus)) (λ s. then_go (first s) (λ vs t. then_go (other t) (λ us u. by_class class minus vs us u)))
      by_minus integers e =
          operation_gives z d k need more 0o21 a b first other (λ vs us u. by_class integers minus vs us u) (settling 0o21 subtracted rows.subtract subtracted_small) wa wb sa sb enough
      by_minus logicals e =
          operation_gives z d k need more 0o62 a b first other (λ vs us u. by_class logicals minus vs us u)
          (yielding 0o62 (λ v u. (logically_subtracted v u).value) rows.logical_subtract logically_subtracted_small) wa wb sa sb enough
      by_minus doubles e = absurd (false≢true e)
      by_minus mixed e = absurd (false≢true e)
