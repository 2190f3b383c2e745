-- MOVE by a count: both addresses and the count, and then one element after the other.
use Rattle.std.proofs.Common.{◌≡◌, ℕ, ◌+◌, ◌-◌, ◌≤◌, Bool, false, List, [], ◌∷◌, ◌++◌, length, refl, sym, subst, ◌∙◌, arith}
use Rattle.spl_statement_code.specs.hp_word.Words.{signed}
use Rattle.hp_call_yields.specs.hp_session.State.{Machine}
use Rattle.spl_statement_code.specs.spl_tree.declared.expressions.Kind.{Kind}
use Rattle.spl_statement_code.specs.spl_branch.declared.pieces.Piece.TheVariants.{Begin}
use Rattle.spl_statement_code.specs.spl_meaning.Elements.{with_one, is_upward, count_size, moved_by}
use Rattle.spl_statement_code.specs.spl_meaning.References.{Located}
use Rattle.spl_statement_code.specs.spl_meaning.States.{Data, State, Outcome, then_go, stopping}
use Rattle.spl_statement_code.specs.spl_meaning.Statements.{value_dropped, moved_far}
use Rattle.spl_statement_code.specs.spl_code.Code.{as_value}
use Rattle.spl_statement_code.specs.spl_code.Parts.{Part, pieces, piece, ◌⨟◌}
use Rattle.spl_statement_code.specs.Effects.{kept_first, told, move_of}
use Rattle.hp_call_yields.specs.spl_follow.Spots.{Spot, pos, on}
use Rattle.hp_call_yields.specs.spl_follow.Matching.{IsValue}
use Rattle.hp_call_yields.specs.spl_follow.Following.{tally, Follows, NoExit}
use Rattle.hp_call_yields.specs.spl_follow.Standing.{Stands}
use Rattle.hp_call_yields.specs.spl_follow.Simulating.{Surroundings, Simulates}
use Rattle.hp_call_yields.proofs.spl_follow_proofs.FollowLemmas.{bind_follows}
use Rattle.hp_call_yields.proofs.spl_follow_proofs.KeepLemmas.{values_join}
use Rattle.hp_call_yields.proofs.spl_follow_proofs.PartLemmas.{stand_in_order}
use Rattle.spl_operands.specs.spl_values.Reached.{IsWhole}
use Rattle.spl_operands.proofs.spl_values_proofs.SumLemmas.{front_on}
use Rattle.spl_operands.proofs.spl_values_proofs.WholeLemmas.{whole_then, then_same}
use Rattle.spl_moves.specs.Moving.{IsReference}
use Rattle.spl_moves.specs.Laws.{AreUnits, CountedMovesPerform}
use Rattle.spl_moves.proofs.CountLemmas.{at_address, counts_by}
use Rattle.spl_moves.proofs.MoveLemmas.{data_follows}
use Rattle.spl_moves.proofs.PartLemmas.{EndsAt, go_go, same_performs, IsLocation, reference_follows}
use Rattle.spl_moves.proofs.PartLemmas.{IsSource, move_whole, move_leads, next_ready, moves_perform}

-- what is moved, from the target's location on
abbrev pub counted_move : (State → Outcome Located) → (State → Outcome (List ℕ)) → Located → State → Outcome Located
counted_move from count p s =
    then_go (from s) (λ q u. then_go (count u) (λ vs v. with_one vs v (λ size x. moved_by size p q x)))

-- the move behind both addresses and its count
counted_follows : (z : Surroundings) (k need : ℕ) (bytes : Bool) (t o : Kind) (p q : Spot) (c b : ℕ) (vs : List ℕ) (s : State) (m : Machine) (d0 : Data)
    (m0 : Machine)
    → AreUnits bytes t → AreUnits bytes o → Stands z.ground z.sites (on p) (move_of bytes 0 ∷ []) q → d0.top + k + need ≤ d0.stack
    → 3 ≤ need → length vs ≡ 1 → IsValue z.setting p 3 k d0 m0 (c ∷ b ∷ vs) s m
    → Follows z.ground z.rate (pos q - pos p) 1 z.rate.reach (tally s) m (EndsAt z.setting q k d0 m0) NoExit
    (with_one vs s (λ size x. moved_by size (at_address z.setting.split t c) (at_address z.setting.split o b) x))
counted_follows z k need bytes t o p q c b [] s m d0 m0 one other stands room enough wide x = absurd (omega (arith, wide))
counted_follows z k need bytes t o p q c b (a ∷ []) s m d0 m0 one other stands room enough wide x =
    let y = counts_by a x.small.1.1.0 in
    data_follows z.ground z.rate z.setting p q k d0 m0 bytes 0 (move_leads z.ground z.sites (on p) bytes 0 q stands)
    (omega (arith, room, enough)) z.setting.split
    t o one.0 one.1 other.0 other.1 refl refl (is_upward (signed a)) (count_size (signed a)) c b s m y.fits
    (subst (λ (j : ℕ). IsValue z.setting p 3 k d0 m0 (c ∷ b ∷ j ∷ []) s m) (sym y.word) x)
counted_follows z k need bytes t o p q c b (a ∷ e ∷ vs) s m d0 m0 one other stands room enough wide x = absurd (omega (arith, wide))

pub counted_source : (z : Surroundings) (d k need more most : ℕ) (bytes : Bool) (t o : Kind) (b c : Part) (from : State → Outcome Located)
    (count : State → Outcome (List ℕ)) → AreUnits bytes t → AreUnits bytes o → IsReference z d (k + 1) more o b from → IsWhole c
    → Simulates z d as_value 1 (k + 2) most c count → more + 1 ≤ need → most + 2 ≤ need → 3 ≤ need
    → IsSource z d k need t (b ⨟ c ⨟ piece (move_of bytes 0)) (counted_move from count)
counted_source z d k need more most bytes t o b c from count one other r wc sc few less enough = record {
  whole = whole_then (b ⨟ c) (piece (move_of bytes 0)) (whole_then b c r.whole wc) (move_whole bytes 0);
  does = λ h ws p q e s m d0 m0 stands front v room fuel.
      let x = b h ws in
      let y = c (h + x.marks) x.wants in
      let cut = stand_in_order z.ground z.sites (x.pieces ++ y.pieces) (move_of bytes 0 ∷ []) (on p) q ((whole_then b c r.whole wc).closed h ws) stands in
      let first = stand_in_order z.ground z.sites x.pieces y.pieces (on p) cut.0 (r.whole.closed h ws) cut.1 in
      let rise = first.3 in
      let middle = first.4 in
      let last = cut.4 in
      let many = z.rate.enough in
      bind_follows z.ground z.rate (pos first.0 - pos p) 1 z.rate.reach (pos q - pos first.0) 1 z.rate.reach (pos q - pos p) 1 z.rate.reach (tally s) m
      (IsLocation z.setting first.0 o (k + 1) s.now m) (EndsAt z.setting q k d0 m0) NoExit (from s)
      (λ l u. then_go (count u) (λ vs v. with_one vs v (λ size x. moved_by size (at_address z.setting.split t e) l x)))
      (reference_follows z d (k + 1) more o b from r h ws (on p) first.0 s s.begun m first.1
      (front_on x.wants y.wants z.wants (wc.keeps (h + x.marks) x.wants) front)
      (next_ready z.setting d p 1 k need more (e ∷ []) d0 m0 s m v room few fuel))
      (λ l u m1 is fewer.
      let two = values_join z.setting p first.0 1 1 k d0 m0 (e ∷ []) (l.address ∷ []) s m u m1 v is.stands in
      subst (λ (f : Located). Follows z.ground z.rate (pos q - pos first.0) 1 z.rate.reach (tally u) m1 (EndsAt z.setting q k d0 m0) NoExit
      (then_go (count u) (λ vs v. with_one vs v (λ size x. moved_by size (at_address z.setting.split t e) f x)))) (sym is.is)
      (bind_follows z.ground z.rate (pos cut.0 - pos first.0) 1 z.rate.reach (pos q - pos cut.0) 1 z.rate.reach (pos q - pos first.0) 1 z.rate.reach
      (tally u) m1
      (IsValue z.setting cut.0 1 (k + 2) u.now m1) (EndsAt z.setting q k d0 m0) NoExit (count u)
      (λ vs v. with_one vs v (λ size x. moved_by size (at_address z.setting.split t e) (at_address z.setting.split o l.address) x))
      (sc.does (h + x.marks) x.wants (on first.0) cut.0 u u.begun m1 first.2 front
      (next_ready z.setting d first.0 2 k need most (e ∷ l.address ∷ []) d0 m0 u m1 two room less (omega (arith, fuel, fewer))))
      (λ vs v m2 is2 fewer2.
      counted_follows z k need bytes t o cut.0 q e l.address vs v m2 d0 m0 one other cut.2 room enough is2.wide
      (values_join z.setting first.0 cut.0 2 1 k d0 m0 (e ∷ l.address ∷ []) vs u m1 v m2 two is2))
      (omega (arith, middle, last)) (omega arith) (omega (arith, many)) (omega (arith, many))))
      (omega (arith, rise, middle, last)) (omega arith) (omega (arith, many)) (omega (arith, many));
}

-- the answer is told behind all parts
pub counted_meaning : (o : State → Outcome Located) (count : State → Outcome (List ℕ)) (p : Located) (s : State)
    → then_go (o s) (λ q x. then_go (count x) (λ vs y. with_one vs y (λ size h. moved_far p (moved_by size p q h))))
    ≡ moved_far p (counted_move o count p s)
counted_meaning from count p s =
    then_same (from s) _ _ (λ q x. then_same (count x) _ _ (λ vs y. one q vs y) ∙ sym (go_go (count x) _ _)) ∙ sym (go_go (from s) _ _) where
      one : (q : Located) (vs : List ℕ) (y : State)
          → with_one vs y (λ size h. moved_far p (moved_by size p q h)) ≡ moved_far p (with_one vs y (λ size h. moved_by size p q h))
      one q [] y = refl
      one q (v ∷ []) y = refl
      one q (v ∷ u ∷ vs) y = refl

pub counted_perform : CountedMovesPerform
counted_perform z d k need more most number at bytes t o a b c to from count one other ra rb wc sc few less enough =
    same_performs z d k need
    (piece (Begin at) ⨟ (a ⨟ pieces (kept_first false) ⨟ (b ⨟ c ⨟ piece (move_of bytes 0)) ⨟ pieces (told false)))
    (λ s. stopping number at s (λ u. value_dropped (then_go (to u) (λ p v. then_go (from v) (λ q x. then_go (count x) (λ vs y.
    with_one vs y (λ size h. moved_far p (moved_by size p q h))))))))
    (λ s. stopping number at s (λ u. value_dropped (then_go (to u) (λ p v. moved_far p (counted_move from count p v)))))
    (λ s j. stopping number at s (λ u. value_dropped (then_go (to u) (λ p v. counted_meaning from count p v j))))
    (moves_perform z d k need number at t a (b ⨟ c ⨟ piece (move_of bytes 0)) to (counted_move from count) ra
    (counted_source z d k need more most bytes t o b c from count one other rb wc sc few less enough))
