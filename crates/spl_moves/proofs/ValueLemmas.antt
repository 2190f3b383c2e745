-- MOVE and SCAN as values: the first address is kept below, and the end address less that is the answer.
use Rattle.std.proofs.Common.{◌≡◌, ℕ, ◌+◌, ◌-◌, ◌%◌, ◌<◌, ◌≤◌, true, [], ◌∷◌, ◌++◌, refl, sym, ap, subst, arith}
use Rattle.std.proofs.lemmas.Bool.Decides.{nat_tests}
use Rattle.std.proofs.lemmas.Int.{ints}
use Rattle.spl_statement_code.specs.hp_word.Words.{logically_subtracted, word_result, word_of}
use Rattle.spl_statement_code.specs.hp_instr.declared.instruction.Instr.TheVariants as i
use Rattle.spl_statement_code.specs.hp_instr.Instructions.{op}
use Rattle.hp_call_yields.specs.hp_session.State.{Machine}
use Rattle.hp_call_yields.specs.hp_stack_rows.StackRows.{operated}
use Rattle.hp_call_yields.proofs.hp_yields_proofs.StackYields as rows
use Rattle.spl_statement_code.specs.spl_tree.declared.expressions.Kind.{Kind}
use Rattle.spl_statement_code.specs.spl_meaning.Elements.{distance}
use Rattle.spl_statement_code.specs.spl_meaning.References.{Setting, Located}
use Rattle.spl_statement_code.specs.spl_meaning.States.{Data, State, Outcome, done, then_go}
use Rattle.spl_statement_code.specs.spl_meaning.Statements.{moved_far}
use Rattle.spl_statement_code.specs.spl_code.Code.{as_value}
use Rattle.spl_statement_code.specs.spl_code.Instructions.{DUP, XCH}
use Rattle.spl_statement_code.specs.spl_code.Parts.{Part, pieces, ◌⨟◌}
use Rattle.spl_statement_code.specs.Effects.{kept_first, told}
use Rattle.spl_statement_code.specs.Instructions.{LSUB}
use Rattle.hp_call_yields.specs.spl_follow.Spots.{Spot, pos, on, Ground}
use Rattle.hp_call_yields.specs.spl_follow.Matching.{Matched, IsValue}
use Rattle.hp_call_yields.specs.spl_follow.Following.{Rate, tally, tally_with, Follows, NoExit}
use Rattle.hp_call_yields.specs.spl_follow.Doing.{doing}
use Rattle.hp_call_yields.specs.spl_follow.Yielding.{Yields}
use Rattle.hp_call_yields.specs.spl_follow.Standing.{Sites, Stands}
use Rattle.hp_call_yields.specs.spl_follow.Simulating.{Surroundings, Simulates}
use Rattle.hp_call_yields.proofs.spl_follow_proofs.FollowLemmas.{bind_follows, then_follows}
use Rattle.hp_call_yields.proofs.spl_follow_proofs.KeepLemmas.{kept_same, kept_top, kept_stack, values_join, value_word}
use Rattle.hp_call_yields.proofs.spl_follow_proofs.PartLemmas.{stand_in_order}
use Rattle.hp_call_yields.proofs.spl_follow_proofs.RowLemmas.{row_value}
use Rattle.spl_operands.proofs.spl_values_proofs.GiveLemmas.{last_leads}
use Rattle.spl_operands.proofs.spl_values_proofs.SumLemmas.{front_on, yielding, logically_subtracted_small}
use Rattle.spl_operands.proofs.spl_values_proofs.WholeLemmas.{whole_then, whole_behind}
use Rattle.spl_operators.proofs.RowLemmas.{exchanged}
use Rattle.spl_moves.specs.Moving.{IsReference}
use Rattle.spl_moves.proofs.PartLemmas.{EndsAt, IsLocation, reference_follows, IsSource}

-- ---- the answer

-- a difference without sign is the distance of two addresses
difference : (b a : ℕ) → b < 65536 → a < 65536 → (logically_subtracted b a).value ≡ (b + 65536 - a) % 65536
unfolding logically_subtracted word_result word_of
difference b a small less = grind (arith, ints, nat_tests, small, less)

-- XCH and LSUB: the first address is subtracted from the end address
distance_told : (g : Ground) (w : Rate) (sites : Sites) (st : Setting) (p q : Spot) (k first : ℕ) (end : Located) (s : State) (m : Machine) (d0 : Data)
    (m0 : Machine)
    → Stands g sites (on p) (XCH ∷ LSUB ∷ []) q → IsValue st p 2 k d0 m0 (first ∷ end.address ∷ []) s m
    → Follows g w (pos q - pos p) 0 w.reach (tally s) m (IsValue st q 1 k d0 m0) NoExit (done (distance end first ∷ []) s)
distance_told g w sites st p q k first end s m d0 m0 stands x =
    let r = stands.0 in
    let leads = last_leads g sites (on r) (i.Pair (op 0o62) (op 0)) q stands.2 in
    let f = exchanged g w p r st s m d0 m0 k first end.address stands.1 x in
    let rise = stands.1.rise in
    let last = leads.rise in
    let many = w.enough in
    subst (λ (v : ℕ). Follows g w (pos q - pos p) 0 w.reach (tally s) m (IsValue st q 1 k d0 m0) NoExit (done (v ∷ []) s))
    (difference end.address first x.small.1.0 x.small.0)
    (then_follows g w (pos r - pos p) 0 w.reach (pos q - pos r) 0 w.reach (pos q - pos p) 0 w.reach (tally s) m (tally s) f.0 (IsValue st q 1 k d0 m0) NoExit
    (done ((logically_subtracted end.address first).value ∷ []) s) f.1
    (yielding 0o62 (λ v u. (logically_subtracted v u).value) rows.logical_subtract logically_subtracted_small g w r q st s f.0 d0 m0 k end.address first leads f.2)
    (omega (arith, rise, last)) (omega arith) (omega (arith, many)))

-- ---- the first address once more

-- DUP
first_copied : (g : Ground) (w : Rate) (sites : Sites) (st : Setting) (p q : Spot) (k need c : ℕ) (s : State) (m : Machine) (d0 : Data) (m0 : Machine)
    → Stands g sites (on p) (DUP ∷ []) q → IsValue st p 1 k d0 m0 (c ∷ []) s m → s.now.top + k + need ≤ s.now.stack → 2 ≤ need
    → Follows g w (pos q - pos p) 0 w.reach (tally s) m (IsValue st q 1 (k + 1) s.now m) NoExit (done (c ∷ []) s)
first_copied g w sites st p q k need c s m d0 m0 stands x room enough =
    let words = x.matches.words in
    let none : k + 1 ≡ k + 1 + 0 = omega arith in
    let limit : m.stack_limit ≡ s.now.stack = ap (λ u. u.limit) x.matches.outer in
    let y = rows.top_copied m (omega (arith, words)) (omega (arith, words, room, limit, enough)) in
    row_value g w (on p) q (doing g.segments (i.Pair (op 0o45) (op 0)) q) st s.begun s m s.now m (k + 1) 0 1 (c ∷ []) (operated 0o45 m)
    (last_leads g sites (on p) (i.Pair (op 0o45) (op 0)) q stands) refl x.at refl
    (subst (λ (v : ℕ). Yields 0 (v ∷ []) m (operated 0o45 m)) (value_word st p 1 k 0 0 d0 m0 (c ∷ []) s m x refl) y.words)
    (subst (λ (j : ℕ). Matched st s.now m j) none x.matches) (kept_same (s.now.top + (k + 1)) s.now m.stack) x.silent (x.small.0, tt) refl

-- ---- values

-- a move as a value
pub moves_simulate : (z : Surroundings) (d k need more : ℕ) (t : Kind) (a source : Part) (to : State → Outcome Located)
    (move : Located → State → Outcome Located) → IsReference z d k need t a to → IsSource z d (k + 1) more t source move → more + 1 ≤ need → 2 ≤ need
    → Simulates z d as_value 1 k need (a ⨟ pieces (kept_first true) ⨟ source ⨟ pieces (told true))
    (λ s. then_go (to s) (λ p v. moved_far p (move p v)))
moves_simulate z d k need more t a source to move r f few enough = record {
  does = λ h ws p q s l m stands front ready.
      let x = (a ⨟ pieces (DUP ∷ [])) h ws in
      let y = source (h + x.marks) x.wants in
      let cut = stand_in_order z.ground z.sites (x.pieces ++ y.pieces) (XCH ∷ LSUB ∷ []) p q
      ((whole_then (a ⨟ pieces (DUP ∷ [])) source (whole_behind a (DUP ∷ []) r.whole refl) f.whole).closed h ws) stands in
      let outer = stand_in_order z.ground z.sites x.pieces y.pieces p cut.0 ((whole_behind a (DUP ∷ []) r.whole refl).closed h ws) cut.1 in
      let inner = stand_in_order z.ground z.sites (a h ws).pieces (DUP ∷ []) p outer.0 (r.whole.closed h ws) outer.1 in
      let many = z.rate.enough in
      let i0 = inner.3 in
      let i1 = inner.4 in
      let o1 = outer.4 in
      let c1 = cut.4 in
      bind_follows z.ground z.rate (pos inner.0 - pos p.at) 1 z.rate.reach (pos q - pos inner.0) 1 z.rate.reach (pos q - pos p.at) 1 z.rate.reach
      (tally_with l s) m
      (IsLocation z.setting inner.0 t k s.now m) (IsValue z.setting q 1 k s.now m) NoExit (to s) (λ e v. moved_far e (move e v))
      (reference_follows z d k need t a to r h ws p inner.0 s l m inner.1 (front_on (a h ws).wants y.wants z.wants
      (f.whole.keeps (h + x.marks) x.wants) front) ready)
      (λ e u m1 is less.
      let top = kept_top (s.now.top + k) s.now m.stack u.now m1.stack is.stands.kept in
      let stack = kept_stack (s.now.top + k) s.now m.stack u.now m1.stack is.stands.kept in
      let room = ready.room in
      let fuel = ready.fuel in
      let copy = first_copied z.ground z.rate z.sites z.setting inner.0 outer.0 k need e.address u m1 s.now m inner.2 is.stands
      (omega (arith, room, top, stack)) enough in
      then_follows z.ground z.rate (pos outer.0 - pos inner.0) 0 z.rate.reach (pos q - pos outer.0) 1 z.rate.reach (pos q - pos inner.0) 1 z.rate.reach
      (tally u) m1 (tally u) copy.0
      (IsValue z.setting q 1 k s.now m) NoExit (moved_far e (move e u)) copy.1
      (bind_follows z.ground z.rate (pos cut.0 - pos outer.0) 1 z.rate.reach (pos q - pos cut.0) 0 z.rate.reach (pos q - pos outer.0) 1 z.rate.reach
      (tally u) copy.0
      (EndsAt z.setting cut.0 (k + 1) u.now m1) (IsValue z.setting q 1 k s.now m) NoExit (move e u)
      (λ end v. done (distance end e.address ∷ []) v)
      (subst (λ (o : Located). Follows z.ground z.rate (pos cut.0 - pos outer.0) 1 z.rate.reach (tally u) copy.0
      (EndsAt z.setting cut.0 (k + 1) u.now m1) NoExit (move o u))
      (sym is.is)
      (f.does (h + x.marks) x.wants outer.0 cut.0 e.address u copy.0 u.now m1 outer.2 front copy.2 (omega (arith, room, top, stack, few))
      (omega (arith, fuel, less))))
      (λ end v n there fewer.
      distance_told z.ground z.rate z.sites z.setting cut.0 q k e.address end v n s.now m cut.2
      (values_join z.setting inner.0 cut.0 1 1 k s.now m (e.address ∷ []) (end.address ∷ []) u m1 v n is.stands there))
      (omega (arith, o1, c1)) (omega arith) (omega (arith, many)) (omega (arith, many)))
      (omega (arith, i1, o1, c1)) (omega (arith, many)) (omega (arith, many)))
      (omega (arith, i0, i1, o1, c1)) (omega arith) (omega (arith, many)) (omega (arith, many));
}
