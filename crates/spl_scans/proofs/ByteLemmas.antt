-- MOVE WHILE and SCAN as statements: what is moved, or scanned, behind the first address.
use Rattle.std.proofs.Common.{◌≡◌, ℕ, suc, ◌+◌, ◌-◌, ◌<◌, ◌≤◌, Bool, true, false, List, [], ◌∷◌, ◌++◌, length, refl, sym, ap, subst, ◌∙◌, arith}
use Rattle.std.proofs.lemmas.List.{append_assoc}
use Rattle.spl_moves.specs.hp_instr.declared.instruction.Instr.TheVariants as i
use Rattle.spl_moves.specs.hp_session.State.{Machine}
use Rattle.spl_moves.specs.spl_tree.declared.expressions.Kind.{Kind}
use Rattle.spl_moves.specs.spl_branch.declared.pieces.Piece.{Piece}
use Rattle.spl_moves.specs.spl_branch.declared.pieces.Piece.TheVariants.{Begin}
use Rattle.spl_moves.specs.spl_meaning.Elements.{with_one, moved_while, scanned}
use Rattle.spl_moves.specs.spl_meaning.Laws.{IsFront}
use Rattle.spl_moves.specs.spl_meaning.References.{Located}
use Rattle.spl_moves.specs.spl_meaning.States.{Data, State, Outcome, then_go, stopping}
use Rattle.spl_moves.specs.spl_meaning.Statements.{value_dropped, moved_far}
use Rattle.spl_moves.specs.spl_code.Code.{as_value}
use Rattle.spl_moves.specs.spl_code.Parts.{Part, Wanted, pieces, piece, ◌⨟◌}
use Rattle.spl_moves.specs.spl_statement_code.Effects.{kept_first, told, class_letters, scan_of}
use Rattle.spl_moves.specs.spl_statement_code.Instructions.{MVBW}
use Rattle.spl_moves.specs.spl_follow.Spots.{Spot, pos, Point, on, Ground}
use Rattle.spl_moves.specs.spl_follow.Leading.{Leads}
use Rattle.spl_moves.specs.spl_follow.Matching.{IsValue}
use Rattle.spl_moves.specs.spl_follow.Following.{tally, Follows, NoExit}
use Rattle.spl_moves.specs.spl_follow.Doing.{doing}
use Rattle.spl_moves.specs.spl_follow.Standing.{Sites, Stands}
use Rattle.spl_moves.specs.spl_follow.Simulating.{Surroundings, Simulates, Performs}
use Rattle.spl_moves.proofs.spl_follow_proofs.FollowLemmas.{bind_follows}
use Rattle.spl_moves.proofs.spl_follow_proofs.KeepLemmas.{values_join}
use Rattle.spl_moves.proofs.spl_follow_proofs.PartLemmas.{stand_in_order}
use Rattle.spl_moves.specs.spl_values.Reached.{IsWhole}
use Rattle.spl_moves.proofs.spl_values_proofs.GiveLemmas.{last_leads}
use Rattle.spl_moves.proofs.spl_values_proofs.WholeLemmas.{whole_behind, whole_pieces, whole_then, then_same}
use Rattle.spl_moves.specs.Moving.{IsReference}
use Rattle.spl_moves.specs.Laws.{AreUnits}
use Rattle.spl_scans.specs.Laws.{ClassMovesPerform, ScansPerform}
use Rattle.spl_moves.proofs.CountLemmas.{at_address}
use Rattle.spl_scans.proofs.WhileLemmas.{while_follows, scan_code, scan_follows}
use Rattle.spl_moves.proofs.PartLemmas.{EndsAt, go_go, same_performs, IsLocation, reference_follows, IsSource, next_ready, moves_perform}

-- ---- MOVE WHILE

abbrev pub class_move : ℕ → ℕ → (State → Outcome Located) → Located → State → Outcome Located
class_move d class from p s = then_go (from s) (λ q u. moved_while (suc d) class p q u)

pub class_source : (z : Surroundings) (d k need more : ℕ) (t o : Kind) (class : ℕ) (b : Part) (from : State → Outcome Located) → AreUnits true t
    → AreUnits true o
    → IsReference z d (k + 1) more o b from → more + 1 ≤ need → 2 ≤ need
    → IsSource z d k need t (b ⨟ piece (MVBW (class_letters class))) (class_move d class from)
class_source z d k need more t o class b from one other r few enough = record {
  whole = whole_behind b (MVBW (class_letters class) ∷ []) r.whole refl;
  does = λ h ws p q c s m d0 m0 stands front v room fuel.
      let x = b h ws in
      let cut = stand_in_order z.ground z.sites x.pieces (MVBW (class_letters class) ∷ []) (on p) q (r.whole.closed h ws) stands in
      let rise = cut.3 in
      let last = cut.4 in
      let many = z.rate.enough in
      bind_follows z.ground z.rate (pos cut.0 - pos p) 1 z.rate.reach (pos q - pos cut.0) 1 z.rate.reach (pos q - pos p) 1 z.rate.reach (tally s) m
      (IsLocation z.setting cut.0 o (k + 1) s.now m) (EndsAt z.setting q k d0 m0) NoExit (from s)
      (λ l u. moved_while (suc d) class (at_address z.setting.split t c) l u)
      (reference_follows z d (k + 1) more o b from r h ws (on p) cut.0 s s.begun m cut.1 front
      (next_ready z.setting d p 1 k need more (c ∷ []) d0 m0 s m v room few fuel))
      (λ l u m1 is fewer.
      subst (λ (f : Located). Follows z.ground z.rate (pos q - pos cut.0) 1 z.rate.reach (tally u) m1 (EndsAt z.setting q k d0 m0) NoExit
      (moved_while (suc d) class (at_address z.setting.split t c) f u)) (sym is.is)
      (while_follows z.ground z.rate z.setting cut.0 q k d0 m0 class (last_leads z.ground z.sites (on cut.0) (i.Control 11 (class_letters class)) q cut.2)
      (omega (arith, room, enough)) z.setting.split t o one.0 one.1 other.0 other.1 refl (suc d) c l.address u m1 (omega (arith, fuel, fewer))
      (values_join z.setting p cut.0 1 1 k d0 m0 (c ∷ []) (l.address ∷ []) s m u m1 v is.stands)))
      (omega (arith, rise, last)) (omega arith) (omega (arith, many)) (omega (arith, many));
}

pub class_meaning : (d class : ℕ) (from : State → Outcome Located) (p : Located) (s : State)
    → then_go (from s) (λ q x. moved_far p (moved_while (suc d) class p q x)) ≡ moved_far p (class_move d class from p s)
class_meaning d class from p s = sym (go_go (from s) _ _)

pub class_perform : ClassMovesPerform
class_perform z d k need more number at t o class a b to from one other ra rb few enough =
    same_performs z d k need
    (piece (Begin at) ⨟ (a ⨟ pieces (kept_first false) ⨟ (b ⨟ piece (MVBW (class_letters class))) ⨟ pieces (told false)))
    (λ s. stopping number at s (λ u. value_dropped (then_go (to u) (λ p v. then_go (from v) (λ q x. moved_far p (moved_while (suc d) class p q x))))))
    (λ s. stopping number at s (λ u. value_dropped (then_go (to u) (λ p v. moved_far p (class_move d class from p v)))))
    (λ s j. stopping number at s (λ u. value_dropped (then_go (to u) (λ p v. class_meaning d class from p v j))))
    (moves_perform z d k need number at t a (b ⨟ piece (MVBW (class_letters class))) to (class_move d class from) ra
    (class_source z d k need more t o class b from one other rb few enough))

-- ---- SCAN

abbrev pub scan_move : ℕ → Bool → (State → Outcome (List ℕ)) → Located → State → Outcome Located
scan_move d until value p s = then_go (value s) (λ vs u. with_one vs u (λ w x. scanned (suc d) until w p x))

scan_leads : (g : Ground) (w : Sites) (p : Point) (until : Bool) (q : Spot) → Stands g w p (scan_of until ∷ []) q
    → Leads g p q (doing g.segments (i.Control (scan_code until) 0) q)
scan_leads g w p true q stands = last_leads g w p (i.Control 13 0) q stands
scan_leads g w p false q stands = last_leads g w p (i.Control 12 0) q stands

scan_whole : (until : Bool) → IsWhole (piece (scan_of until))
scan_whole true = whole_pieces (scan_of true ∷ []) refl
scan_whole false = whole_pieces (scan_of false ∷ []) refl

-- the scan behind its address and its test word
tested_follows : (z : Surroundings) (d k need : ℕ) (t : Kind) (until : Bool) (p q : Spot) (b : ℕ) (vs : List ℕ) (s : State) (m : Machine) (d0 : Data)
    (m0 : Machine)
    → AreUnits true t → Stands z.ground z.sites (on p) (scan_of until ∷ []) q → d0.top + k + need ≤ d0.stack → 2 ≤ need
    → s.left < suc d → length vs ≡ 1 → IsValue z.setting p 2 k d0 m0 (b ∷ vs) s m
    → Follows z.ground z.rate (pos q - pos p) 1 z.rate.reach (tally s) m (EndsAt z.setting q k d0 m0) NoExit
    (with_one vs s (λ w x. scanned (suc d) until w (at_address z.setting.split t b) x))
tested_follows z d k need t until p q b [] s m d0 m0 one stands room enough fuel wide x = absurd (omega (arith, wide))
tested_follows z d k need t until p q b (a ∷ []) s m d0 m0 one stands room enough fuel wide x =
    scan_follows z.ground z.rate z.setting p q k d0 m0 until (scan_leads z.ground z.sites (on p) until q stands) (omega (arith, room, enough)) z.setting.split t
    one.0 one.1 refl (suc d) b a s m fuel x
tested_follows z d k need t until p q b (a ∷ e ∷ vs) s m d0 m0 one stands room enough fuel wide x = absurd (omega (arith, wide))

pub scan_source : (z : Surroundings) (d k need more : ℕ) (t : Kind) (until : Bool) (b : Part) (value : State → Outcome (List ℕ)) → AreUnits true t → IsWhole b
    → Simulates z d as_value 1 (k + 1) more b value → more + 1 ≤ need → 2 ≤ need
    → IsSource z d k need t (b ⨟ piece (scan_of until)) (scan_move d until value)
scan_source z d k need more t until b value one wb sb few enough = record {
  whole = whole_then b (piece (scan_of until)) wb (scan_whole until);
  does = λ h ws p q c s m d0 m0 stands front v room fuel.
      let x = b h ws in
      let cut = stand_in_order z.ground z.sites x.pieces (scan_of until ∷ []) (on p) q (wb.closed h ws) stands in
      let rise = cut.3 in
      let last = cut.4 in
      let many = z.rate.enough in
      bind_follows z.ground z.rate (pos cut.0 - pos p) 1 z.rate.reach (pos q - pos cut.0) 1 z.rate.reach (pos q - pos p) 1 z.rate.reach (tally s) m
      (IsValue z.setting cut.0 1 (k + 1) s.now m) (EndsAt z.setting q k d0 m0) NoExit (value s)
      (λ vs u. with_one vs u (λ w x. scanned (suc d) until w (at_address z.setting.split t c) x))
      (sb.does h ws (on p) cut.0 s s.begun m cut.1 front (next_ready z.setting d p 1 k need more (c ∷ []) d0 m0 s m v room few fuel))
      (λ vs u m1 is fewer.
      tested_follows z d k need t until cut.0 q c vs u m1 d0 m0 one cut.2 room enough (omega (arith, fuel, fewer)) is.wide
      (values_join z.setting p cut.0 1 1 k d0 m0 (c ∷ []) vs s m u m1 v is))
      (omega (arith, rise, last)) (omega arith) (omega (arith, many)) (omega (arith, many));
}

pub scan_meaning : (d : ℕ) (until : Bool) (value : State → Outcome (List ℕ)) (p : Located) (s : State)
    → then_go (value s) (λ vs x. with_one vs x (λ w y. moved_far p (scanned (suc d) until w p y))) ≡ moved_far p (scan_move d until value p s)
scan_meaning d until value p s = then_same (value s) _ _ (λ vs x. one vs x) ∙ sym (go_go (value s) _ _) where
  one : (vs : List ℕ) (x : State)
      → with_one vs x (λ w y. moved_far p (scanned (suc d) until w p y)) ≡ moved_far p (with_one vs x (λ w y. scanned (suc d) until w p y))
  one [] x = refl
  one (v ∷ []) x = refl
  one (v ∷ u ∷ vs) x = refl

-- parts with the same pieces and wants perform the same
regrouped : (z : Surroundings) (d k need : ℕ) (a b : Part) (f : State → Outcome (Unit {0})) → ((l : ℕ) (ws : List Wanted) → (a l ws).pieces ≡ (b l ws).pieces)
    → ((l : ℕ) (ws : List Wanted) → (a l ws).wants ≡ (b l ws).wants) → Performs z d k need b f → Performs z d k need a f
regrouped z d k need a b f same wants x = record {
  does = λ h ws p q s m stands front pays begins.
      x.does h ws p q s m (subst (λ (ps : List Piece). Stands z.ground z.sites (on p) ps q) (same h ws) stands)
      (subst (λ (us : List Wanted). IsFront us z.wants) (wants h ws) front) pays begins;
}

pub scan_perform : ScansPerform
scan_perform z d k need more number at t until a b from value one ra wb sb few enough =
    regrouped z d k need
    (piece (Begin at) ⨟ (a ⨟ pieces (kept_first false) ⨟ b ⨟ piece (scan_of until) ⨟ pieces (told false)))
    (piece (Begin at) ⨟ (a ⨟ pieces (kept_first false) ⨟ (b ⨟ piece (scan_of until)) ⨟ pieces (told false)))
    (λ s. stopping number at s (λ u. value_dropped (then_go (from u) (λ p v. then_go (value v) (λ vs x.
    with_one vs x (λ w y. moved_far p (scanned (suc d) until w p y)))))))
    (λ l ws. ap (λ (ps : List Piece). Begin at ∷ (ps ++ told false))
    (append_assoc ((a ⨟ pieces (kept_first false)) (l + 0) ws).pieces
    (b (l + 0 + ((a ⨟ pieces (kept_first false)) (l + 0) ws).marks) ((a ⨟ pieces (kept_first false)) (l + 0) ws).wants).pieces (scan_of until ∷ [])))
    (λ l ws. refl)
    (same_performs z d k need
    (piece (Begin at) ⨟ (a ⨟ pieces (kept_first false) ⨟ (b ⨟ piece (scan_of until)) ⨟ pieces (told false)))
    (λ s. stopping number at s (λ u. value_dropped (then_go (from u) (λ p v. then_go (value v) (λ vs x.
    with_one vs x (λ w y. moved_far p (scanned (suc d) until w p y)))))))
    (λ s. stopping number at s (λ u. value_dropped (then_go (from u) (λ p v. moved_far p (scan_move d until value p v)))))
    (λ s j. stopping number at s (λ u. value_dropped (then_go (from u) (λ p v. scan_meaning d until value p v j))))
    (moves_perform z d k need number at t a (b ⨟ piece (scan_of until)) from (scan_move d until value) ra
    (scan_source z d k need more t until b value one wb sb few enough)))
