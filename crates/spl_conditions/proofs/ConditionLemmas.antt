-- Values as tests, and conditions as values: all ones where the test goes on, and zero at its mark.
use Rattle.std.proofs.Common.{◌≡◌, ℕ, suc, ◌+◌, ◌-◌, ◌≤◌, Bool, true, false, List, [], ◌∷◌, ◌++◌, refl, sym, ap, subst, ◌∙◌, arith}
use Rattle.spl_values.specs.hp_instr.Instructions.{op}
use Rattle.spl_values.specs.hp_instr.declared.instruction.Instr.TheVariants as i
use Rattle.spl_values.specs.hp_session.State.{Machine}
use Rattle.spl_values.specs.hp_stack_rows.StackRows.{operated}
use Rattle.spl_values.specs.hp_word_rows.WordRows.{minus, immediate_row}
use Rattle.spl_values.specs.hp_flat.Step.{at_left}
use Rattle.spl_values.proofs.hp_yields_proofs.StackYields as stack
use Rattle.spl_values.proofs.hp_yields_proofs.WordYields as rows
use Rattle.spl_values.specs.spl_branch.declared.pieces.Piece.{Piece}
use Rattle.spl_values.specs.spl_branch.declared.pieces.Piece.TheVariants.{Mark}
use Rattle.spl_values.specs.spl_meaning.Names.{truth_word}
use Rattle.spl_values.specs.spl_meaning.Operations.{is_odd}
use Rattle.spl_values.specs.spl_meaning.States.{Data, State, Outcome, done, leaves, spent, ends, strays, then_go}
use Rattle.spl_values.specs.spl_code.Code.{Aim, as_value, as_test, condition}
use Rattle.spl_values.specs.spl_code.Instructions.{ZERO, LDNI, BR, BRE}
use Rattle.spl_values.specs.spl_code.Parts.{Part, piece, ◌⨟◌, with_fresh}
use Rattle.spl_values.specs.spl_follow.Spots.{Spot, pos, Point, on, Ground}
use Rattle.spl_values.specs.spl_follow.Doing.{doing}
use Rattle.spl_values.specs.spl_follow.Following.{Rate, Tally, tally, tally_with, Follows, NoExit}
use Rattle.spl_values.specs.spl_follow.Matching.{IsValue, Arrives}
use Rattle.spl_values.specs.spl_follow.Parts.{Truth, Tested}
use Rattle.spl_values.specs.spl_follow.Simulating.{Surroundings, Simulates}
use Rattle.spl_values.specs.spl_follow.Standing.{Stands}
use Rattle.spl_values.specs.spl_follow.Yielding.{Yields}
use Rattle.spl_values.proofs.spl_follow_proofs.FollowLemmas.{widen, then_follows, tail_follows}
use Rattle.spl_values.proofs.spl_follow_proofs.PartLemmas.{stand_in_order, values_tested}
use Rattle.spl_values.specs.Reached.{IsWhole}
use Rattle.spl_values.proofs.WholeLemmas.{whole_behind, whole_mark, whole_fresh, last_simulates}
use Rattle.spl_conditions.specs.Laws.{ClosedValuesSimulate}
use Rattle.spl_conditions.proofs.BranchLemmas.{branch_leads, value_branches, arrived_room, word_behind}

-- ---- values as tests

-- BRE behind the value deletes it
pub closed_values : ClosedValuesSimulate
closed_values z d k need as_value a meaning whole x = last_simulates z d as_value 1 k need a meaning x
closed_values z d k need (as_test fail) a meaning whole x = record {
  does = λ h ws p q s l m stands front ready.
      let b = a h ws in
      let cut = stand_in_order z.ground z.sites b.pieces (BRE fail ∷ []) p q (whole.closed h ws) stands in
      values_tested z.ground z.rate z.setting z.sites.marks fail false 0 1 p cut.0 q k s l m (meaning s) cut.3
      (branch_leads z.ground z.sites (on cut.0) (i.Short 0o16 false 0) fail q cut.2) (x.does h ws p cut.0 s l m cut.1 front ready);
}

-- ---- answers

-- a value is all ones, or zero
abbrev pub IsTruth : List ℕ → Type 0
IsTruth vs = (b : Bool) × (vs ≡ truth_word b ∷ [])

-- what is done has such a value
abbrev pub Answers : Outcome (List ℕ) → Type 0
Answers (done vs s) = IsTruth vs
Answers (leaves x s) = Unit {0}
Answers (spent s) = Unit {0}
Answers (ends e s) = Unit {0}
Answers (strays s) = Unit {0}

-- what answers behind anything answers
pub answers_then : (o : Outcome (List ℕ)) (go : List ℕ → State → Outcome (List ℕ)) → ((vs : List ℕ) (s : State) → Answers (go vs s)) → Answers (then_go o go)
answers_then (done vs s) go f = f vs s
answers_then (leaves x s) go f = tt
answers_then (spent s) go f = tt
answers_then (ends e s) go f = tt
answers_then (strays s) go f = tt

-- the lowest bit of a truth is its own
pub truth_odd : (b : Bool) → is_odd (truth_word b) ≡ b
truth_odd true = refl
truth_odd false = refl

-- what is followed to an answer knows that it is one
answered : (g : Ground) (w : Rate) (c lag e : ℕ) (t : Tally) (m : Machine) (P : List ℕ → State → Machine → Type 0) (o : Outcome (List ℕ)) → Answers o
    → Follows g w c lag e t m P NoExit o → Follows g w c lag e t m (λ vs s n. P vs s n × IsTruth vs) NoExit o
answered g w c lag e t m P (done vs s) a f = (f.0, f.1, (f.2, a))
answered g w c lag e t m P (leaves x s) a f = absurd f.2
answered g w c lag e t m P (spent s) a f = f
answered g w c lag e t m P (ends x s) a f = f
answered g w c lag e t m P (strays s) a f = f

-- ---- conditions as values

-- five pieces behind others
five_joined : (ps : List Piece) (a b c d e : Piece) → (((((ps ++ (a ∷ [])) ++ (b ∷ [])) ++ (c ∷ [])) ++ (d ∷ [])) ++ (e ∷ [])) ≡ ps ++ (a ∷ b ∷ c ∷ d ∷ e ∷ [])
five_joined [] a b c d e = refl
five_joined (x ∷ ps) a b c d e = ap (λ (qs : List Piece). x ∷ qs) (five_joined ps a b c d e)

-- what stands behind the test
abbrev truth_pieces : ℕ → List Piece
truth_pieces h = LDNI 1 ∷ BR (suc h) ∷ Mark h ∷ ZERO ∷ Mark (suc h) ∷ []

-- All ones are pushed where the test goes on, and zero at its mark; both end at one place.
truth_pushed : (z : Surroundings) (k need h : ℕ) (r q : Spot) (d0 : Data) (m0 : Machine) → d0.top + k + need ≤ d0.stack → 1 ≤ need
    → Stands z.ground z.sites (on r) (truth_pieces h) q → (b : Bool) (s : State) (n : Machine) → Truth z.setting r (z.sites.marks h) k d0 m0 b s n
    → Follows z.ground z.rate (pos q - pos r) 0 z.rate.reach (tally s) n (IsValue z.setting q 1 k d0 m0) NoExit (done (truth_word b ∷ []) s)
truth_pushed z k need h r q d0 m0 room enough stands true s n t =
    let g = z.ground in
    let w = z.rate in
    let st = z.setting in
    let many = w.enough in
    let branch = stands.2 in
    let last = branch.2.2 in
    let end : z.sites.marks (suc h) ≡ q = last.2.0 ∙ ap (λ (x : Point). x.at) last.2.2 in
    let far : pos last.0 ≡ pos q = ap (λ (x : Point). pos x.at) last.2.2 in
    let one = stands.1.rise in
    let two = branch.1.rise in
    let three = last.1.rise in
    let free = arrived_room st r k need d0 m0 s n room enough t.0 in
    let ones : minus 1 ≡ 65535 = omega arith in
    let first = word_behind g w st r stands.0 (doing g.segments (i.Immediate 8 1) stands.0) k 65535 s n d0 m0 (immediate_row 8 1 (at_left n)) stands.1 refl t.0 t.1
    (subst (λ (v : ℕ). Yields 0 (v ∷ []) n (immediate_row 8 1 (at_left n))) ones (rows.minus_pushed 1 (at_left n) free).words) (omega arith) in
    let behind = value_branches g w stands.0 branch.0 (z.sites.marks (suc h)) false 0 1 k st s first.0 d0 m0 (65535 ∷ []) branch.1 first.2 in
    subst (λ (x : Spot). Follows g w (pos q - pos r) 0 w.reach (tally s) n (IsValue st x 1 k d0 m0) NoExit (done (65535 ∷ []) s)) end
    (then_follows g w (pos stands.0 - pos r) 0 w.reach (pos branch.0 - pos stands.0) 0 w.reach (pos q - pos r) 0 w.reach (tally s) n (tally s) first.0
    (IsValue st (z.sites.marks (suc h)) 1 k d0 m0) NoExit (done (65535 ∷ []) s) first.1 behind
    (omega (arith, one, two, three, far)) (omega arith) (omega arith))
truth_pushed z k need h r q d0 m0 room enough stands false s n t =
    let g = z.ground in
    let w = z.rate in
    let st = z.setting in
    let branch = stands.2 in
    let last = branch.2.2 in
    let end : last.0 ≡ q = ap (λ (x : Point). x.at) last.2.2 in
    let far : pos last.0 ≡ pos q = ap (λ (x : Point). pos x.at) last.2.2 in
    let one = stands.1.rise in
    let two = branch.1.rise in
    let here = subst (λ (x : Spot). Arrives st x k d0 m0 s n) branch.2.0 t.0 in
    let free = arrived_room st branch.0 k need d0 m0 s n room enough here in
    let zero = word_behind g w st branch.0 last.0 (doing g.segments (i.Pair (op 0o06) (op 0)) last.0) k 0 s n d0 m0 (operated 0o06 n) last.1 refl here t.1
    (stack.zero_pushed n free).words (omega arith) in
    subst (λ (x : Spot). Follows g w (pos q - pos r) 0 w.reach (tally s) n (IsValue st x 1 k d0 m0) NoExit (done (0 ∷ []) s)) end
    (widen g w (pos last.0 - pos branch.0) 0 w.reach (pos q - pos r) 0 w.reach (tally s) n (IsValue st last.0 1 k d0 m0) NoExit (done (0 ∷ []) s) zero
    (omega (arith, one, two, far)) (omega arith) (omega arith))

-- the same by a value that is a truth
truth_value : (z : Surroundings) (k need h : ℕ) (r q : Spot) (d0 : Data) (m0 : Machine) → d0.top + k + need ≤ d0.stack → 1 ≤ need
    → Stands z.ground z.sites (on r) (truth_pieces h) q → (vs : List ℕ) (s : State) (n : Machine)
    → Tested z.setting r (z.sites.marks h) k d0 m0 vs s n × IsTruth vs
    → Follows z.ground z.rate (pos q - pos r) 0 z.rate.reach (tally s) n (IsValue z.setting q 1 k d0 m0) NoExit (done vs s)
truth_value z k need h r q d0 m0 room enough stands vs s n x =
    subst (λ (us : List ℕ). Follows z.ground z.rate (pos q - pos r) 0 z.rate.reach (tally s) n (IsValue z.setting q 1 k d0 m0) NoExit (done us s)) (sym x.1.1)
    (truth_pushed z k need h r q d0 m0 room enough stands x.1.0 s n
    (subst (λ (c : Bool). Truth z.setting r (z.sites.marks h) k d0 m0 c s n) (truth_odd x.1.0)
    (subst (λ (us : List ℕ). Tested z.setting r (z.sites.marks h) k d0 m0 us s n) x.1.1 x.0)))

-- a condition whose test is simulated with any mark, and answers, is simulated as a value
value_of_condition : (z : Surroundings) (d k need : ℕ) (part : ℕ → Part) (meaning : State → Outcome (List ℕ)) → 1 ≤ need
    → ((l : ℕ) → IsWhole (part l)) → ((s : State) → Answers (meaning s)) → ((l : ℕ) → Simulates z d (as_test l) 1 k need (part l) meaning)
    → Simulates z d as_value 1 k need (condition as_value part) meaning
value_of_condition z d k need part meaning enough whole answers x = record {
  does = λ h ws p q s l m stands front ready.
      let g = z.ground in
      let w = z.rate in
      let many = w.enough in
      let a = part h (suc (suc h)) ws in
      let cut = stand_in_order g z.sites a.pieces (truth_pieces h) p q ((whole h).closed (suc (suc h)) ws)
      (subst (λ (ps : List Piece). Stands g z.sites p ps q) (five_joined a.pieces (LDNI 1) (BR (suc h)) (Mark h) ZERO (Mark (suc h))) stands) in
      let before = cut.3 in
      let behind = cut.4 in
      let room = ready.room in
      tail_follows g w (pos cut.0 - pos p.at) 1 w.reach (pos q - pos cut.0) 0 w.reach (pos q - pos p.at) 1 w.reach (tally_with l s) m
      (λ vs t n. Tested z.setting cut.0 (z.sites.marks h) k s.now m vs t n × IsTruth vs) (IsValue z.setting q 1 k s.now m) NoExit (meaning s)
      (answered g w (pos cut.0 - pos p.at) 1 w.reach (tally_with l s) m (Tested z.setting cut.0 (z.sites.marks h) k s.now m) (meaning s) (answers s)
      ((x h).does (suc (suc h)) ws p cut.0 s l m cut.1 front ready))
      (λ vs t n tested fewer. truth_value z k need h cut.0 q s.now m room enough cut.2 vs t n tested)
      (omega (arith, before, behind)) (omega arith) (omega (arith, many)) (omega (arith, many));
}

-- whatever is wanted of it
pub conditions : (z : Surroundings) (d k need : ℕ) (aim : Aim) (part : ℕ → Part) (meaning : State → Outcome (List ℕ)) → 1 ≤ need
    → ((l : ℕ) → IsWhole (part l)) → ((s : State) → Answers (meaning s)) → ((l : ℕ) → Simulates z d (as_test l) 1 k need (part l) meaning)
    → Simulates z d aim 1 k need (condition aim part) meaning
conditions z d k need as_value part meaning enough whole answers x = value_of_condition z d k need part meaning enough whole answers x
conditions z d k need (as_test fail) part meaning enough whole answers x = x fail

-- its code is whole where its test's is
pub condition_whole : (aim : Aim) (part : ℕ → Part) → ((l : ℕ) → IsWhole (part l)) → IsWhole (condition aim part)
condition_whole (as_test fail) part whole = whole fail
condition_whole as_value part whole =
    whole_fresh (λ fail. with_fresh (λ end. part fail ⨟ piece (LDNI 1) ⨟ piece (BR end) ⨟ piece (Mark fail) ⨟ piece ZERO ⨟ piece (Mark end))) (λ fail.
    whole_fresh (λ end. part fail ⨟ piece (LDNI 1) ⨟ piece (BR end) ⨟ piece (Mark fail) ⨟ piece ZERO ⨟ piece (Mark end)) (λ end.
    whole_mark (part fail ⨟ piece (LDNI 1) ⨟ piece (BR end) ⨟ piece (Mark fail) ⨟ piece ZERO) end
    (whole_behind (part fail ⨟ piece (LDNI 1) ⨟ piece (BR end) ⨟ piece (Mark fail)) (ZERO ∷ [])
    (whole_mark (part fail ⨟ piece (LDNI 1) ⨟ piece (BR end)) fail
    (whole_behind (part fail ⨟ piece (LDNI 1)) (BR end ∷ [])
    (whole_behind (part fail) (LDNI 1 ∷ []) (whole fail) refl) refl)) refl)))
