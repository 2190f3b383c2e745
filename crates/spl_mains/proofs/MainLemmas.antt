-- A main body's list: it takes the jumps to its labels, and RETURN leads behind it.
use Rattle.std.proofs.Common.{◌≡◌, ℕ, false, [], sym, subst, arith}
use Rattle.std.specs.Prelude.{min}
use Rattle.std.proofs.lemmas.Bool.{false≢true}
use Rattle.spl_followed.specs.hp_session.State.{Machine}
use Rattle.spl_followed.specs.spl_meaning.Bodies.{program_of}
use Rattle.spl_followed.specs.spl_meaning.References.{Here, Setting}
use Rattle.spl_followed.specs.spl_meaning.Runs.{calls}
use Rattle.spl_followed.specs.spl_meaning.States.{State, Exit, to_label, back}
use Rattle.spl_followed.specs.spl_meaning.Statements.{run_body}
use Rattle.spl_followed.specs.spl_meaning.Values.{Callee}
use Rattle.spl_followed.specs.spl_follow.Spots.{Spot}
use Rattle.spl_followed.specs.spl_follow.Matching.{Arrives}
use Rattle.spl_followed.specs.spl_follow.Following.{tally, Follows}
use Rattle.spl_followed.specs.spl_follow.Parts.{Exits, Completes, Leaving, Returning}
use Rattle.spl_followed.proofs.spl_follow_proofs.FollowLemmas.{weaken}
use Rattle.spl_followed.proofs.spl_follow_proofs.RowLemmas.{shown}
use Rattle.spl_followed.specs.Mains.{main_setting}
use Rattle.spl_stores.specs.spl_links.Links.{MayCall}
use Rattle.spl_stores.specs.spl_names.Names.{read_with}
use Rattle.spl_stores.proofs.CoverLemmas.{covered_list_performs}
-- (code of main bodies is cut by it)
pub use Rattle.spl_stores.proofs.CoverLemmas.{list_clear}
use Rattle.spl_mains.specs.Laws.{CoveredBodiesFollow, CoveredMainBodiesFollow}

-- where a list is left with no word waiting, RETURN is behind it, and a jump shows what the run has
pub left_returns : (st : Setting) (x : Exits) (leave : Spot) (s : State) (m : Machine) → x.target back ≡ leave → (e : Exit) (t : State) (n : Machine)
    → Leaving st x 0 s.now m e t n → Returning st leave 0 s.now m e t n
left_returns st x leave s m to back t n a =
    let none : min (x.held back) 0 ≡ 0 = omega arith in
    subst (λ (q : Spot). Arrives st q 0 s.now m t n) to (subst (λ (j : ℕ). Arrives st (x.target back) j s.now m t n) none a)
left_returns st x leave s m to (to_label y) t n a = shown st t n (min (x.held (to_label y)) 0) a.matches

-- its list is performed, and takes the jumps to its labels
pub any_body_follows : CoveredBodiesFollow
any_body_follows may returns c results z call d number need ss first leave l ws to return room covered stands front pays calls' agrees jumps landed s m begins =
    weaken z.ground z.rate 0 3 0 (tally s) m (Completes z.setting leave 0 s.now m) (Completes z.setting leave 0 s.now m)
    (Leaving z.setting z.exits 0 s.now m) (Returning z.setting leave 0 s.now m) (run_body (read_with c.scope results z.setting) call d number ss s)
    ((covered_list_performs may returns c results z call d number [] ss 0 need covered room calls' agrees return jumps landed).does l ws first leave s m stands front pays begins)
    (λ u t n a less. a) (left_returns z.setting z.exits leave s m to)

pub bodies_follow : CoveredMainBodiesFollow
bodies_follow may us b c z first leave l ws setting to here room covered stands front pays calls' agrees jumps landed d s m begins =
    let call : Callee = calls (program_of us).procedures d b in
    subst (λ (i : Here). Follows z.ground z.rate 0 3 0 (tally s) m (Completes main_setting leave 0 s.now m) (Returning main_setting leave 0 s.now m) (run_body i call d b.number b.statements s))
    (sym here)
    (any_body_follows may false c b.here.results (record z { setting = main_setting }) call d b.number b.depth' b.statements first leave l ws to (λ e. absurd (false≢true e)) room covered
    stands front pays (subst (λ (st : Setting). MayCall may c.scope (record z { setting = st }) d call) setting (calls' d)) agrees
    (record { marks = jumps.marks; held = jumps.held; few = jumps.few }) landed s m begins)
