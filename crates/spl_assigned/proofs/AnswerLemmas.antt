-- What an intrinsic answers is put where a reference leads.
use Rattle.std.proofs.Common.{ℕ, ◌+◌, ◌-◌, ◌≤◌, false, List, [], ◌∷◌, Some, sym, subst, ◌∙◌, arith}
use Rattle.std.proofs.Math.Logic.{⊎_elim}
use Rattle.spl_wide.specs.hp_word.declared.intrinsics.Intrinsic.{Intrinsic}
use Rattle.spl_wide.specs.hp_word.Intrinsics.{answer_words}
use Rattle.spl_wide.specs.hp_session.State.{Machine}
use Rattle.spl_wide.specs.hp_flat.Step.{at_left}
use Rattle.spl_wide.specs.spl_branch.declared.pieces.Piece.{Piece}
use Rattle.spl_wide.specs.spl_branch.declared.pieces.Piece.TheVariants.{Begin, Do}
use Rattle.spl_wide.specs.spl_tree.declared.names_and_places.At.{At}
use Rattle.spl_wide.specs.spl_meaning.Operations.{kept}
use Rattle.spl_wide.specs.spl_meaning.References.{Located, store}
use Rattle.spl_wide.specs.spl_meaning.Serving as run
use Rattle.spl_wide.specs.spl_meaning.States.{Data, State, Outcome, then_go, stopping}
use Rattle.spl_wide.specs.spl_code.Parts.{Part, pieces, piece, nothing, ◌⨟◌}
use Rattle.spl_wide.specs.spl_follow.Spots.{Spot, pos, Point, on}
use Rattle.spl_wide.specs.spl_follow.Matching.{IsAnswer}
use Rattle.spl_wide.specs.spl_follow.Following.{tally, tally_with, Follows, NoExit}
use Rattle.spl_wide.specs.spl_follow.Standing.{Stands}
use Rattle.spl_wide.specs.spl_follow.Parts.{Completes, Leaving}
use Rattle.spl_wide.specs.spl_follow.Simulating.{Surroundings, Performs}
use Rattle.spl_wide.proofs.spl_follow_proofs.FollowLemmas.{bind_follows, no_exit}
use Rattle.spl_wide.proofs.spl_follow_proofs.KeepLemmas.{kept_top, kept_stack}
use Rattle.spl_wide.proofs.spl_follow_proofs.PartLemmas.{stand_in_order, statements_begin_noted}
use Rattle.spl_wide.proofs.spl_values_proofs.GiveLemmas.{last_leads}
use Rattle.spl_wide.proofs.spl_operands_proofs.StoreLemmas.{storing}
use Rattle.spl_wide.proofs.spl_tops_proofs.SeenLemmas.{below_is}
use Rattle.spl_top_stores.proofs.PutLemmas.{store_is, cell_put}
use Rattle.spl_top_stores.proofs.AnswerLemmas.{answer_stored, own_put}
use Rattle.spl_wide.specs.spl_intrinsics.Calls.{asked, IsAsked}
use Rattle.spl_wide.proofs.spl_intrinsics_proofs.AskLemmas.{asked_whole, asked_follows}
use Rattle.spl_assigned.specs.Assigned.{PutsStraight, PutsBack, PutsUnder, Puts, AnswersPut}

-- ---- the store

-- what is asked of the pieces that store an answer of n words
abbrev StoresAnswer : Surroundings → ℕ → ℕ → ℕ → List Piece → (State → Outcome Located) → Type 0
StoresAnswer z k n need ps o = (p q : Spot) (vs : List ℕ) (s : State) (m : Machine) (d0 : Data) (m0 : Machine) → Stands z.ground z.sites (on p) ps q
    → IsAnswer z.setting p n k d0 m0 vs s m → s.now.top + k + need ≤ s.now.stack
    → Follows z.ground z.rate (pos q - pos p) 0 z.rate.reach (tally s) m (Completes z.setting q k d0 m0) NoExit
    (then_go (o s) (λ y u. store y (kept y.kind vs) u))

-- one store does it
straight_stores : (z : Surroundings) (k n need : ℕ) (ps : List Piece) (o : State → Outcome Located) → n ≤ need → PutsStraight z k n ps o
    → StoresAnswer z k n need ps o
straight_stores z k n need ps o fits x p q vs s m d0 m0 stands y room =
    let free : s.now.top + (k + n) ≤ s.now.stack = omega (arith, room, fits) in
    let alone : Stands z.ground z.sites (on p) (Do (storing x.type x.indirect false x.mode) ∷ []) q =
    subst (λ (b : Piece). Stands z.ground z.sites (on p) (b ∷ []) q) (store_is x.type x.indirect false x.mode)
    (subst (λ (qs : List Piece). Stands z.ground z.sites (on p) qs q) x.is stands) in
    answer_stored z.ground z.rate z.setting p q x.type x.mode x.indirect false k n vs s m d0 m0 (o s) x.wide free
    (last_leads z.ground z.sites (on p) (storing x.type x.indirect false x.mode) q alone) y (x.refers s (at_left m) y.matches free)

-- so does one behind LDXN
back_stores : (z : Surroundings) (k n need : ℕ) (ps : List Piece) (o : State → Outcome Located) → n ≤ need → PutsBack z k n ps o
    → StoresAnswer z k n need ps o
back_stores z k n need ps o fits x p q vs s m d0 m0 stands y room =
    let wide = x.wide in
    subst (λ (e : Outcome Located). Follows z.ground z.rate (pos q - pos p) 0 z.rate.reach (tally s) m (Completes z.setting q k d0 m0) NoExit
    (then_go e (λ y u. store y (kept y.kind vs) u))) (sym (x.leads s))
    (own_put z.ground z.rate z.sites p q z.setting x.type k x.below vs s m d0 m0 (below_is z.setting k x.below x.seen) (omega (arith, room, fits, wide))
    (subst (λ (qs : List Piece). Stands z.ground z.sites (on p) qs q) x.is stands)
    (subst (λ (j : ℕ). IsAnswer z.setting p j k d0 m0 vs s m) (sym x.wide) y))

-- and one through the word that is brought below the answer
under_stores : (z : Surroundings) (k n need : ℕ) (ps : List Piece) (o : State → Outcome Located) → PutsUnder z k n need ps o
    → StoresAnswer z k n need ps o
under_stores z k n need ps o x p q vs s m d0 m0 stands y room =
    let wide = x.wide in
    let fits = x.room in
    subst (λ (e : Outcome Located). Follows z.ground z.rate (pos q - pos p) 0 z.rate.reach (tally s) m (Completes z.setting q k d0 m0) NoExit
    (then_go e (λ y u. store y (kept y.kind vs) u))) (sym (x.leads s))
    (cell_put z.ground z.rate z.sites p q z.setting x.type x.far k x.below vs s m d0 m0 (y.wide ∙ sym x.wide) x.side (below_is z.setting k x.below x.seen)
    (omega (arith, room, fits, wide)) (subst (λ (qs : List Piece). Stands z.ground z.sites (on p) qs q) x.is stands)
    (subst (λ (j : ℕ). IsAnswer z.setting p j k d0 m0 vs s m) (sym x.wide) y))

puts_store : (z : Surroundings) (k n need : ℕ) (ps : List Piece) (o : State → Outcome Located) → n ≤ need → Puts z k n need ps o
    → StoresAnswer z k n need ps o
puts_store z k n need ps o fits x =
    ⊎_elim (λ straight. straight_stores z k n need ps o fits straight)
    (λ others. ⊎_elim (λ back. back_stores z k n need ps o fits back) (λ under. under_stores z k n need ps o under) others) x

-- ---- the statement

-- the call, and the store behind it
answer_put : (z : Surroundings) (d k need number : ℕ) (at : At) (n : Intrinsic) (x : List ℕ) (a : Part) (words : State → Outcome (List ℕ)) (ps : List Piece)
    (o : State → Outcome Located) → IsAsked z d k need n x a words → StoresAnswer z k (answer_words n) need ps o
    → Performs z d k need (piece (Begin at) ⨟ (nothing ⨟ (asked n x a ⨟ nothing) ⨟ pieces ps))
    (λ s. stopping number at s (λ u. then_go (then_go (words u) (λ ws v. run.served n ws v)) (λ vs v. then_go (o v) (λ p b. store p (kept p.kind vs) b))))
answer_put z d k need number at n x a words ps o y stores = record {
  does = λ h ws p q s m stands front pays b.
      let code = (asked n x a ⨟ nothing) (h + 0 + 0) ws in
      let start : Point = record { at = p; due = Some at } in
      let cut = stand_in_order z.ground z.sites code.pieces ps start q ((asked_whole n x a y.closed).closed (h + 0 + 0) ws) stands.1 in
      let many = z.rate.enough in
      let rise = cut.3 in
      let last = cut.4 in
      statements_begin_noted z.ground z.rate z.setting z.exits d number at p q k need s m
      (λ u. then_go (then_go (words u) (λ us v. run.served n us v)) (λ vs v. put vs v)) b
      (λ u same fewer ready. no_exit z.ground z.rate z.rate.step 2 3 (tally_with s.begun u) m (Completes z.setting q k u.now m)
      (Leaving z.setting z.exits k u.now m)
      (then_go (then_go (words u) (λ us v. run.served n us v)) (λ vs v. put vs v))
      (bind_follows z.ground z.rate (pos cut.0 - pos p) 1 z.rate.reach (pos q - pos cut.0) 0 z.rate.reach z.rate.step 2 3 (tally_with s.begun u) m
      (IsAnswer z.setting cut.0 (answer_words n) k u.now m) (Completes z.setting q k u.now m) NoExit (then_go (words u) (λ us v. run.served n us v))
      (λ vs v. put vs v)
      (asked_follows z d k need n x a words y (h + 0 + 0) ws start cut.0 u s.begun m cut.1 front ready)
      (λ vs v m1 is less.
      let top = kept_top (u.now.top + k) u.now m.stack v.now m1.stack is.kept in
      let stack = kept_stack (u.now.top + k) u.now m.stack v.now m1.stack is.kept in
      let room = ready.room in
      stores cut.0 q vs v m1 u.now m cut.2 is (omega (arith, top, stack, room)))
      (omega (arith, rise, last, pays)) (omega arith) (omega (arith, many)) (omega (arith, many))));
} where
  put : List ℕ → State → Outcome (Unit {0})
  put vs v = then_go (o v) (λ p b. store p (kept p.kind vs) b)

pub answers_put : AnswersPut
answers_put z d k need number at n x a words ps located y some puts =
    let enough = y.enough in
    answer_put z d k need number at n x a words ps located y (puts_store z k (answer_words n) need ps located (omega (arith, enough)) puts)
