-- NOT: the value waits on top, and one operation turns each of its bits.
use Rattle.std.proofs.Common.{ℕ, ◌+◌, ◌-◌, ◌≤◌, List, [], ◌∷◌, length, refl, subst, arith}
use Rattle.spl_values.specs.hp_instr.declared.instruction.Instr.TheVariants as i
use Rattle.spl_values.specs.hp_instr.Instructions.{op}
use Rattle.spl_values.specs.hp_session.State.{Machine}
use Rattle.spl_values.specs.hp_stack_rows.StackRows.{operated}
use Rattle.spl_values.proofs.hp_yields_proofs.StackYields as rows
use Rattle.spl_values.specs.spl_branch.declared.pieces.Piece.{Piece}
use Rattle.spl_values.specs.spl_branch.declared.pieces.Piece.TheVariants.{Do}
use Rattle.spl_values.specs.spl_meaning.Operations.{not_done}
use Rattle.spl_values.specs.spl_meaning.References.{Setting}
use Rattle.spl_values.specs.spl_meaning.States.{Data, State, Outcome, then_go}
use Rattle.spl_values.specs.spl_code.Code.{as_value}
use Rattle.spl_values.specs.spl_code.Parts.{Part, pieces, ◌⨟◌}
use Rattle.spl_values.specs.spl_follow.Spots.{Spot, pos, on, Ground}
use Rattle.spl_values.specs.spl_follow.Leading.{Leads}
use Rattle.spl_values.specs.spl_follow.Matching.{IsValue}
use Rattle.spl_values.specs.spl_follow.Following.{Rate, tally, tally_with, Follows, NoExit}
use Rattle.spl_values.specs.spl_follow.Doing.{doing}
use Rattle.spl_values.specs.spl_follow.Simulating.{Surroundings, Simulates}
use Rattle.spl_values.specs.spl_follow.Standing.{Stands}
use Rattle.spl_values.specs.spl_follow.Yielding.{Yields}
use Rattle.spl_values.proofs.spl_follow_proofs.FollowLemmas.{bind_follows}
use Rattle.spl_values.proofs.spl_follow_proofs.KeepLemmas.{value_word}
use Rattle.spl_values.proofs.spl_follow_proofs.PartLemmas.{stand_in_order}
use Rattle.spl_values.specs.Reached.{IsWhole}
use Rattle.spl_values.proofs.GiveLemmas.{last_leads, value_row}
use Rattle.spl_conditions.specs.Laws.{ComplementsSimulate}

-- ---- a value, and what stands behind it

-- by the list of its words, of which there is one
by_list : (P : List ℕ → State → Machine → Type 0) (g : Ground) (w : Rate) (r q : Spot) (st : Setting) (s : State) (m : Machine) (d0 : Data) (m0 : Machine) (k : ℕ)
    (last : List ℕ → State → Outcome (List ℕ))
    → ((v : ℕ) → IsValue st r 1 k d0 m0 (v ∷ []) s m → Follows g w (pos q - pos r) 0 w.reach (tally s) m P NoExit (last (v ∷ []) s))
    → (vs : List ℕ) → IsValue st r 1 k d0 m0 vs s m → Follows g w (pos q - pos r) 0 w.reach (tally s) m P NoExit (last vs s)
by_list P g w r q st s m d0 m0 k last one (v ∷ []) x = one v x
by_list P g w r q st s m d0 m0 k last one [] x = let wide = x.wide in absurd (omega (arith, wide))
by_list P g w r q st s m d0 m0 k last one (v ∷ u ∷ vs) x = let wide = x.wide in absurd (omega (arith, wide))

-- A value of one word, and then pieces that make another of it.
pub value_then : (z : Surroundings) (d k need : ℕ) (a : Part) (ps : List Piece) (meaning : State → Outcome (List ℕ)) (last : List ℕ → State → Outcome (List ℕ))
    → IsWhole a → Simulates z d as_value 1 k need a meaning
    → ((r q : Spot) (v : ℕ) (s : State) (m : Machine) (d0 : Data) (m0 : Machine) → Stands z.ground z.sites (on r) ps q → d0.top + k + need ≤ d0.stack
    → IsValue z.setting r 1 k d0 m0 (v ∷ []) s m
    → Follows z.ground z.rate (pos q - pos r) 0 z.rate.reach (tally s) m (IsValue z.setting q 1 k d0 m0) NoExit (last (v ∷ []) s))
    → Simulates z d as_value 1 k need (a ⨟ pieces ps) (λ s. then_go (meaning s) (λ vs t. last vs t))
value_then z d k need a ps meaning last whole x behind = record {
  does = λ h ws p q s l m stands front ready.
      let b = a h ws in
      let cut = stand_in_order z.ground z.sites b.pieces ps p q (whole.closed h ws) stands in
      let before = cut.3 in
      let far = cut.4 in
      let many = z.rate.enough in
      bind_follows z.ground z.rate (pos cut.0 - pos p.at) 1 z.rate.reach (pos q - pos cut.0) 0 z.rate.reach (pos q - pos p.at) 1 z.rate.reach (tally_with l s) m
      (IsValue z.setting cut.0 1 k s.now m) (IsValue z.setting q 1 k s.now m) NoExit (meaning s) (λ vs t. last vs t) (x.does h ws p cut.0 s l m cut.1 front ready)
      (λ vs t n v fewer. by_list (IsValue z.setting q 1 k s.now m) z.ground z.rate cut.0 q z.setting t n s.now m k last
      (λ u y. behind cut.0 q u t n s.now m cut.2 ready.room y) vs v)
      (omega (arith, before, far)) (omega arith) (omega (arith, many)) (omega (arith, many));
}

-- ---- NOT

-- turning a word's bits leaves a word
turned : (g : Ground) (w : Rate) (r q : Spot) (st : Setting) (v k : ℕ) (s : State) (m : Machine) (d0 : Data) (m0 : Machine)
    → Leads g (on r) q (doing g.segments (i.Pair (op 0o65) (op 0)) q) → IsValue st r 1 k d0 m0 (v ∷ []) s m
    → Follows g w (pos q - pos r) 0 w.reach (tally s) m (IsValue st q 1 k d0 m0) NoExit (not_done (v ∷ []) s)
turned g w r q st v k s m d0 m0 leads x =
    let words = x.matches.words in
    let one : 1 ≤ length m.stack = omega (arith, words) in
    value_row g w r q (doing g.segments (i.Pair (op 0o65) (op 0)) q) st s m d0 m0 k 1 (v ∷ []) (65535 - v) (operated 0o65 m) leads refl x
    (subst (λ (u : ℕ). Yields 1 ((65535 - u) ∷ []) m (operated 0o65 m)) (value_word st r 1 k 0 0 d0 m0 (v ∷ []) s m x refl) (rows.bits_inverted m one).words)
    (omega arith)

pub complements : ComplementsSimulate
complements z d k need operand a meaning whole x =
    value_then z d k need a (Do (i.Pair (op 0o65) (op 0)) ∷ []) meaning not_done whole x
    (λ r q v s m d0 m0 stands room y. turned z.ground z.rate r q z.setting v k s m d0 m0 (last_leads z.ground z.sites (on r) (i.Pair (op 0o65) (op 0)) q stands) y)
