-- Signs of DOUBLEs: the value that stays, and DNEG.
use Rattle.std.proofs.Common.{◌≡◌, ℕ, ◌+◌, ◌-◌, ◌<◌, Bool, true, false, List, [], ◌∷◌, refl, sym, subst, arith}
use Rattle.std.specs.Prelude.{if◌then◌else◌}
use Rattle.std.proofs.lemmas.List.{append-nil}
use Rattle.std.proofs.Math.Logic.{⊎_elim}
use Rattle.spl_operators.specs.hp_word.declared.endings.Trap.TheVariants.{IntegerOverflow}
use Rattle.spl_operators.specs.hp_word.Bytes.{double, high_word, low_word}
use Rattle.spl_operators.specs.hp_word.Words.{double_negated, double_result}
use Rattle.spl_operators.proofs.hp_word_proofs.WordLaws.{double_of-below}
use Rattle.spl_operators.specs.hp_instr.declared.instruction.Instr.TheVariants as i
use Rattle.spl_operators.specs.hp_instr.Instructions.{op}
use Rattle.spl_operators.specs.hp_session.State.{Machine, word}
use Rattle.spl_operators.specs.hp_stack_rows.StackRows.{operated}
use Rattle.spl_operators.specs.hp_yields.Rows.{SettlesWide}
use Rattle.spl_operators.proofs.hp_yields_proofs.StackYields as rows
use Rattle.spl_operators.specs.spl_branch.declared.pieces.Piece.{Piece}
use Rattle.spl_operators.specs.spl_branch.declared.pieces.Piece.TheVariants.{Do}
use Rattle.spl_operators.specs.spl_tree.declared.expressions.Kind.TheVariants as kind
use Rattle.spl_operators.specs.spl_meaning.Kinds.{of}
use Rattle.spl_operators.specs.spl_meaning.Operations.{double_words, double_done, minus_done, signed_done}
use Rattle.spl_operators.specs.spl_meaning.References.{Setting}
use Rattle.spl_operators.specs.spl_meaning.States.{Data, State, Outcome, done, ends, trapped, then_go}
use Rattle.spl_operators.specs.spl_code.Code.{as_value}
use Rattle.spl_operators.specs.spl_code.Operators.{sign_operator}
use Rattle.spl_operators.specs.spl_code.Parts.{Part, pieces, ◌⨟◌}
use Rattle.spl_operators.specs.spl_follow.Spots.{Spot, pos, on, Ground}
use Rattle.spl_operators.specs.spl_follow.Leading.{Leads}
use Rattle.spl_operators.specs.spl_follow.Matching.{IsValue}
use Rattle.spl_operators.specs.spl_follow.Following.{Rate, tally, tally_with, Follows, NoExit}
use Rattle.spl_operators.specs.spl_follow.Doing.{doing}
use Rattle.spl_operators.specs.spl_follow.Standing.{Stands}
use Rattle.spl_operators.specs.spl_follow.Simulating.{Surroundings, Simulates}
use Rattle.spl_operators.proofs.spl_follow_proofs.WayLemmas.{goes_none}
use Rattle.spl_operators.proofs.spl_follow_proofs.FollowLemmas.{bind_follows}
use Rattle.spl_operators.proofs.spl_follow_proofs.KeepLemmas.{value_word}
use Rattle.spl_operators.proofs.spl_follow_proofs.PartLemmas.{rows_trap}
use Rattle.spl_operators.proofs.spl_values_proofs.GiveLemmas.{last_leads}
use Rattle.spl_operators.proofs.RowLemmas.{words_row, value_there}
use Rattle.spl_operators.proofs.SingleLemmas.{sign_cases}
use Rattle.spl_doubles.specs.Laws.{DoubleSignsSimulate}
use Rattle.spl_doubles.proofs.DoubleLemmas.{parts_then, high_small, low_small}

-- ---- +

-- no instruction stands behind a value that stays
values_stay : (z : Surroundings) (d k need n : ℕ) (a : Part) (meaning : State → Outcome (List ℕ)) → Simulates z d as_value n k need a meaning
    → Simulates z d as_value n k need (a ⨟ pieces []) (λ s. then_go (meaning s) (λ vs t. done vs t))
values_stay z d k need n a meaning x = record {
  does = λ h ws p q s l m stands front ready.
      let many = z.rate.enough in
      bind_follows z.ground z.rate (pos q - pos p.at) 1 z.rate.reach 0 0 0 (pos q - pos p.at) 1 z.rate.reach (tally_with l s) m (IsValue z.setting q n k s.now m)
      (IsValue z.setting q n k s.now m) NoExit (meaning s) (λ vs t. done vs t)
      (x.does h ws p q s l m (subst (λ (ps : List Piece). Stands z.ground z.sites p ps q) (append-nil (a h ws).pieces) stands) front ready)
      (λ vs t m1 v fewer. (m1, goes_none z.ground z.rate 0 0 (tally t) m1, v)) (omega arith) (omega arith) (omega (arith, many)) (omega (arith, many));
}

-- ---- -

-- the result is a double
negated_small : (a : ℕ) → (double_negated a).value < 4294967296
unfolding double_negated double_result
negated_small a = double_of-below _

-- DNEG of the double on top
double_turned : (g : Ground) (w : Rate) (p q : Spot) (st : Setting) (s : State) (m : Machine) (d0 : Data) (m0 : Machine) (k h l : ℕ)
    → Leads g (on p) q (doing g.segments (i.Pair (op 0o15) (op 0)) q) → IsValue st p 2 k d0 m0 (h ∷ l ∷ []) s m
    → Follows g w (pos q - pos p) 0 w.reach (tally s) m (IsValue st q 2 k d0 m0) NoExit (double_done (double_negated (double h l)) s)
double_turned g w p q st s m d0 m0 k h l leads x = by (double_negated (double h l)).overflow refl where
  vs : List ℕ
  vs = h ∷ l ∷ []

  settled : SettlesWide 2 (double_negated (double h l)) m (operated 0o15 m)
  settled =
      subst (λ (b : ℕ). SettlesWide 2 (double_negated (double h b)) m (operated 0o15 m)) (value_word st p 2 k 0 1 d0 m0 vs s m x refl)
      (subst (λ (b : ℕ). SettlesWide 2 (double_negated (double b (word 0 m))) m (operated 0o15 m)) (value_word st p 2 k 1 0 d0 m0 vs s m x refl)
      (rows.double_negate m (value_there st p 2 k d0 m0 vs s m x)))

  by : (b : Bool) → (double_negated (double h l)).overflow ≡ b
      → Follows g w (pos q - pos p) 0 w.reach (tally s) m (IsValue st q 2 k d0 m0) NoExit
      (if b then ends (trapped IntegerOverflow) s else done (double_words (double_negated (double h l)).value) s)
  by true e =
      rows_trap g w (on p) q q (doing g.segments (i.Pair (op 0o15) (op 0)) q) st s.begun s m d0 m0 k (k + 2) 2 (operated 0o15 m) IntegerOverflow leads
      refl x.at refl x.matches (settled.trap e)
  by false e =
      let v = (double_negated (double h l)).value in
      words_row g w p q (doing g.segments (i.Pair (op 0o15) (op 0)) q) st s m d0 m0 k 2 2 vs (high_word v ∷ low_word v ∷ []) (operated 0o15 m) leads refl x
      (settled.result e) (high_small v (negated_small (double h l)), (low_small v, tt)) refl

-- by the words of the value, of which there are two
turned_by_list : (z : Surroundings) (k : ℕ) (r q : Spot) (vs : List ℕ) (s : State) (m : Machine) (d0 : Data) (m0 : Machine)
    → Stands z.ground z.sites (on r) (Do (i.Pair (op 0o15) (op 0)) ∷ []) q → IsValue z.setting r 2 k d0 m0 vs s m
    → Follows z.ground z.rate (pos q - pos r) 0 z.rate.reach (tally s) m (IsValue z.setting q 2 k d0 m0) NoExit (minus_done (of kind.Double) vs s)
turned_by_list z k r q (h ∷ l ∷ []) s m d0 m0 stands x =
    double_turned z.ground z.rate r q z.setting s m d0 m0 k h l (last_leads z.ground z.sites (on r) (i.Pair (op 0o15) (op 0)) q stands) x
turned_by_list z k r q [] s m d0 m0 stands x = let wide = x.wide in absurd (omega (arith, wide))
turned_by_list z k r q (h ∷ []) s m d0 m0 stands x = let wide = x.wide in absurd (omega (arith, wide))
turned_by_list z k r q (h ∷ l ∷ v ∷ vs) s m d0 m0 stands x = let wide = x.wide in absurd (omega (arith, wide))

pub signs_give : DoubleSignsSimulate
signs_give z d k need o a meaning e whole x =
    ⊎_elim (λ is. subst signed (sym is) (values_stay z d k need 2 a meaning x))
    (λ is. subst signed (sym is)
    (parts_then z d k need 2 2 a (Do (i.Pair (op 0o15) (op 0)) ∷ []) meaning (λ vs t. minus_done (of kind.Double) vs t) whole x
    (λ r q vs s m d0 m0 stands room y. turned_by_list z k r q vs s m d0 m0 stands y)))
    (sign_cases o e) where
      signed : ℕ → Type 0
      signed n =
          Simulates z d as_value 2 k need (a ⨟ pieces (sign_operator n (of kind.Double))) (λ s. then_go (meaning s) (λ vs t. signed_done n (of kind.Double) vs t))
