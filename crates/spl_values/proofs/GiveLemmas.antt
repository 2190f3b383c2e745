-- What a row that leaves one word gives: where a part is ready, and behind words that wait on top.
use Rattle.std.proofs.Common.{◌≡◌, ℕ, ◌+◌, ◌-◌, ◌<◌, ◌≤◌, List, [], ◌∷◌, length, refl, ap, subst, arith}
use Rattle.hp_yields.specs.hp_instr.declared.instruction.Instr.{Instr}
use Rattle.hp_yields.specs.hp_session.State.{Machine, Outcome as Row}
use Rattle.hp_yields.specs.spl_branch.declared.pieces.Piece.TheVariants.{Do}
use Rattle.hp_yields.specs.spl_meaning.References.{Setting}
use Rattle.hp_yields.specs.spl_meaning.States.{Data, State, Begun, done}
use Rattle.hp_yields.specs.spl_code.Code.{as_value}
use Rattle.hp_yields.specs.spl_follow.Spots.{Spot, pos, Point, on, Ground}
use Rattle.hp_yields.specs.spl_follow.Leading.{Leads}
use Rattle.hp_yields.specs.spl_follow.Matching.{Outer, Matched, IsValue}
use Rattle.hp_yields.specs.spl_follow.Following.{Rate, tally, tally_with, Follows, NoExit}
use Rattle.hp_yields.specs.spl_follow.Doing.{going, doing}
use Rattle.hp_yields.specs.spl_follow.Standing.{Sites, Stands}
use Rattle.hp_yields.specs.spl_follow.Yielding.{Yields}
use Rattle.hp_yields.specs.spl_follow.Parts.{Ready, Gives}
use Rattle.hp_yields.proofs.spl_follow_proofs.FollowLemmas.{widen, then_follows}
use Rattle.hp_yields.proofs.spl_follow_proofs.KeepLemmas.{kept_same}
use Rattle.hp_yields.proofs.spl_follow_proofs.RowLemmas.{row_value}

-- the last instruction leads to the end
pub last_leads : (g : Ground) (sites : Sites) (p : Point) (by : Instr) (q : Spot) → Stands g sites p (Do by ∷ []) q
    → Leads g p q (doing g.segments by q)
last_leads g sites p by q stands =
    subst (λ (r : Spot). Leads g p r (doing g.segments by r)) (ap (λ (x : Point). x.at) stands.2) stands.1

-- where a part is ready there is room for one more word
pub ready_room : (st : Setting) (d : ℕ) (p : Point) (k need : ℕ) (s : State) (l : List Begun) (m : Machine) → Ready st d p k need s l m → 1 ≤ need
    → length m.stack < m.stack_limit
ready_room st d p k need s l m r enough =
    let words = r.matches.words in
    let room = r.room in
    let limit : m.stack_limit ≡ s.now.stack = ap (λ (u : Outer). u.limit) r.matches.outer in
    omega (arith, words, room, limit, enough)

-- a row that pushes a word, where a part is ready
pub row_gives : (g : Ground) (w : Rate) (st : Setting) (marks : ℕ → Spot) (d : ℕ) (p : Point) (r : Spot) (F : Machine → Machine) (k need : ℕ)
    (s : State) (l : List Begun) (m : Machine) (v : ℕ) (o : Row) → Leads g p r F → F m ≡ going r o m → Ready st d p k need s l m
    → Yields 0 (v ∷ []) m o → v < 65536 → Gives g w st marks as_value 1 p r k s l m (done (v ∷ []) s)
row_gives g w st marks d p r F k need s l m v o leads is ready y small =
    let none : k ≡ k + 0 = omega arith in
    widen g w (pos r - pos p.at) 0 w.reach (pos r - pos p.at) 1 w.reach (tally_with l s) m (IsValue st r 1 k s.now m) NoExit (done (v ∷ []) s)
    (row_value g w p r F st l s m s.now m k 0 1 (v ∷ []) o leads is ready.at ready.owes y
    (subst (λ (i : ℕ). Matched st s.now m i) none ready.matches) (kept_same (s.now.top + k) s.now m.stack) ready.silent (small, tt) refl)
    (omega arith) (omega arith) (omega arith)

-- a row that puts a word in place of a value's words: of a part that began with d0 and m0, while k words waited
pub value_row : (g : Ground) (w : Rate) (p r : Spot) (F : Machine → Machine) (st : Setting) (s : State) (m : Machine) (d0 : Data) (m0 : Machine)
    (k n : ℕ) (vs : List ℕ) (v : ℕ) (o : Row) → Leads g (on p) r F → F m ≡ going r o m → IsValue st p n k d0 m0 vs s m → Yields n (v ∷ []) m o
    → v < 65536 → Follows g w (pos r - pos p) 0 w.reach (tally s) m (IsValue st r 1 k d0 m0) NoExit (done (v ∷ []) s)
value_row g w p r F st s m d0 m0 k n vs v o leads is x y small =
    row_value g w (on p) r F st s.begun s m d0 m0 k n 1 (v ∷ []) o leads is x.at refl y x.matches x.kept x.silent (small, tt) refl

-- a value, and behind it such a row
pub row_behind : (g : Ground) (w : Rate) (st : Setting) (marks : ℕ → Spot) (p : Point) (r q : Spot) (F : Machine → Machine) (n k : ℕ) (s : State)
    (l : List Begun) (m : Machine) (vs : List ℕ) (v : ℕ) (o : Machine → Row) → pos p.at ≤ pos r → Leads g (on r) q F
    → ((m1 : Machine) → F m1 ≡ going q (o m1) m1) → ((m1 : Machine) → IsValue st r n k s.now m vs s m1 → Yields n (v ∷ []) m1 (o m1)) → v < 65536
    → Gives g w st marks as_value n p r k s l m (done vs s) → Gives g w st marks as_value 1 p q k s l m (done (v ∷ []) s)
row_behind g w st marks p r q F n k s l m vs v o before leads is yields small f =
    let many = w.enough in
    let rise = leads.rise in
    then_follows g w (pos r - pos p.at) 1 w.reach (pos q - pos r) 0 w.reach (pos q - pos p.at) 1 w.reach (tally_with l s) m (tally s) f.0
    (IsValue st q 1 k s.now m) NoExit (done (v ∷ []) s) f.1
    (value_row g w r q F st s f.0 s.now m k n vs v (o f.0) leads (is f.0) f.2 (yields f.0 f.2) small) (omega (arith, before, rise)) (omega arith)
    (omega (arith, many))
