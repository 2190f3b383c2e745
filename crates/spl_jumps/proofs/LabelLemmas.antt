-- A statement behind its label: the label's word does nothing, and its step pays for it.
use Rattle.std.proofs.Common.{◌≡◌, ℕ, ◌+◌, ◌-◌, ◌≤◌, Bool, true, false, List, ◌∷◌, refl, sym, ap, subst, ◌∙◌, arith}
use Rattle.std.specs.Prelude.{Option, min, if◌then◌else◌}
use Rattle.std.specs.Cmp.Lexicographic.{same_text}
use Rattle.std.proofs.lemmas.Bool.{false≢true}
use Rattle.spl_choices.specs.hp_word.declared.arithmetic.Code.{Code}
use Rattle.spl_choices.specs.hp_instr.declared.instruction.Instr.TheVariants as i
use Rattle.spl_choices.specs.hp_session.State.{Machine}
use Rattle.spl_choices.specs.spl_branch.declared.pieces.Piece.TheVariants.{Do, Mark}
use Rattle.spl_choices.specs.spl_meaning.Laws.{IsFront}
use Rattle.spl_choices.specs.spl_meaning.Names.{same_name}
use Rattle.spl_choices.specs.spl_meaning.States.{State, to_label, Outcome, beginning}
use Rattle.spl_choices.specs.spl_code.Parts.{Part, Wanted}
use Rattle.spl_choices.specs.spl_follow.Spots.{Spot, pos, on}
use Rattle.spl_choices.specs.spl_follow.Matching.{Coded}
use Rattle.spl_choices.specs.spl_follow.Following.{tally, Follows}
use Rattle.spl_choices.specs.spl_follow.Standing.{Stands}
use Rattle.spl_choices.specs.spl_follow.Parts.{Ready, Begins, Runs, Completes, Leaving}
use Rattle.spl_choices.specs.spl_follow.Simulating.{Surroundings, Performs}
use Rattle.spl_choices.proofs.spl_follow_proofs.FollowLemmas.{then_follows, tail_follows, weaken}
use Rattle.spl_choices.proofs.spl_follow_proofs.KeepLemmas.{kept_same, arrives_after, arrives_begins}
use Rattle.spl_choices.proofs.spl_follow_proofs.RowLemmas.{row_idle}
use Rattle.spl_choices.proofs.spl_follow_proofs.PartLemmas.{statements_begin_plain}
use Rattle.spl_choices.proofs.spl_follow_proofs.StandLemmas.{stands_le}
use Rattle.spl_choices.proofs.spl_follow_proofs.WayLemmas.{goes_none}
use Rattle.spl_jumps.specs.Laws.{LabelledPerform, UnreachedPerform, LeadsOn, PerformsAt, UnlabelledPerformAt, LabelledPerformAt}

-- where code ends
pub stays : (z : Surroundings) (k : ℕ) (q : Spot) → LeadsOn z k 0 q q
stays z k q d0 m0 t n a = (n, goes_none z.ground z.rate 0 0 (tally t) n, a)

-- behind the label's beginning: its word, the statement, and what that leads to
behind_label : (z : Surroundings) (d k need h : ℕ) (ws : List Wanted) (a : Part) (one : State → Outcome (Unit {0})) (p q to : Spot) (more : ℕ) (t : State) (m : Machine)
    → Performs z d k need a one → Stands z.ground z.sites (on p) (Do (i.Control 8 0) ∷ (a h ws).pieces) q → IsFront (a h ws).wants z.wants
    → pos q + more ≤ z.rate.step → LeadsOn z k more q to → Ready z.setting d (on p) k need t t.begun m
    → Follows z.ground z.rate z.rate.step 2 3 (tally t) m (Completes z.setting to k t.now m) (Leaving z.setting z.exits k t.now m) (one t)
behind_label z d k need h ws a one p q to more t m x stands front pays on' ready =
    let g = z.ground in
    let w = z.rate in
    let st = z.setting in
    let many = w.enough in
    let r = stands.0 in
    let rise = stands.1.rise in
    let last = stands_le g z.sites (a h ws).pieces (on r) q stands.2 in
    let first = row_idle g w (on p) r st t.begun t m t.now m k stands.1 ready.at refl ready.matches (kept_same (t.now.top + k) t.now m.stack)
    (subst (λ (c : Option Code). Coded c m.regs.code) (sym ready.silent) tt) in
    let room = ready.room in
    let fuel = ready.fuel in
    let begins = arrives_begins st d r k k need need t m t first.0 room fuel first.2 (omega arith) (omega arith) in
    let inside = weaken g w 0 3 3 (tally t) first.0 (Completes st q k t.now first.0) (Completes st q k t.now m) (Leaving st z.exits k t.now first.0)
    (Leaving st z.exits k t.now m) (one t) (x.does h ws r q t first.0 stands.2 front (omega (arith, pays)) begins)
    (λ u s1 n b less. arrives_after st q k k t.now m t.now first.0 s1 n (omega arith) first.2.kept b)
    (λ e s1 n b. arrives_after st (z.exits.target e) k (min (z.exits.held e) k) t.now m t.now first.0 s1 n (omega arith) first.2.kept b) in
    then_follows g w (pos r - pos p) 0 w.reach more 3 3 w.step 2 3 (tally t) m (tally t) first.0 (Completes st to k t.now m) (Leaving st z.exits k t.now m) (one t) first.1
    (tail_follows g w 0 3 3 more 0 0 more 3 3 (tally t) first.0 (Completes st q k t.now m) (Completes st to k t.now m) (Leaving st z.exits k t.now m) (one t) inside
    (λ u s1 n b less. on' t.now m s1 n b) (omega arith) (omega arith) (omega arith) (omega arith))
    (omega (arith, rise, last, pays)) (omega (arith, many)) (omega (arith, many))

pub labelled : LabelledPerform
labelled z d k need mark a one x = record {
  does = λ h ws p q s m stands front pays b.
      statements_begin_plain z.ground z.rate z.setting z.exits d p q k need s m one b
      (λ t same fewer ready. behind_label z d k need (h + (0 + 0)) ws a one p q q 0 t m x stands.2 front (omega (arith, pays)) (stays z k q) ready);
}

pub unreached : UnreachedPerform
unreached z d k need a one x = record {
  does = λ h ws p q s m stands front pays b.
      statements_begin_plain z.ground z.rate z.setting z.exits d p q k need s m one b
      (λ t same fewer ready. behind_label z d k need (h + (0 + 0)) ws a one p q q 0 t m x stands front (omega (arith, pays)) (stays z k q) ready);
}

-- ---- from labels on

pub unlabelled_at : UnlabelledPerformAt
unlabelled_at z d k need a at = record { does = λ h ws p q to more y s m stands front pays on' is b. absurd (false≢true is) }

-- names with the same letters
pub same_letters : (x y : List ℕ) → same_name x y ≡ true → x ≡ y
same_letters x y is = same_text x y (sym is)

-- from this label on, or from one behind it
label_by : (z : Surroundings) (d k need mark h : ℕ) (ws : List Wanted) (y : List ℕ) (a : Part) (one : State → Outcome (Unit {0})) (has : List ℕ → Bool)
    (at : List ℕ → State → Outcome (Unit {0})) (p q to : Spot) (more : ℕ) (v : List ℕ) (s : State) (m : Machine)
    → z.sites.marks mark ≡ z.exits.target (to_label y) → Performs z d k need a one → PerformsAt z d k need a has at
    → Stands z.ground z.sites (on p) (Mark mark ∷ Do (i.Control 8 0) ∷ (a h ws).pieces) q → IsFront (a h ws).wants z.wants → pos q + more ≤ z.rate.step
    → LeadsOn z k more q to → Begins z.setting d (z.exits.target (to_label v)) k need s m → (b : Bool) → same_name v y ≡ b
    → (if b then true else has v) ≡ true
    → Runs z.ground z.rate z.setting z.exits to k s m (if b then beginning s (λ u. one u) else at v s)
label_by z d k need mark h ws y a one has at p q to more v s m there x others stands front pays on' begins true same is =
    let here : z.exits.target (to_label v) ≡ p = ap (λ (n : List ℕ). z.exits.target (to_label n)) (same_letters v y same) ∙ sym there ∙ stands.0 in
    statements_begin_plain z.ground z.rate z.setting z.exits d p to k need s m one (subst (λ (r : Spot). Begins z.setting d r k need s m) here begins)
    (λ t now fewer ready. behind_label z d k need h ws a one p q to more t m x stands.2 front pays on' ready)
label_by z d k need mark h ws y a one has at p q to more v s m there x others stands front pays on' begins false same is =
    others.does h ws stands.2.0 q to more v s m stands.2.2 front pays on' is begins

pub labelled_at : LabelledPerformAt
labelled_at z d k need mark y a one has at there x others = record {
  does = λ h ws p q to more v s m stands front pays on' is b.
      label_by z d k need mark (h + (0 + 0)) ws y a one has at p q to more v s m there x others stands front pays on' b (same_name v y) refl is;
}
