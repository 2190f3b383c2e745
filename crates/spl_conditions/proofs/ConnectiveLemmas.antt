-- AND and OR: the left side's test decides, or leads to the right one's.
use Rattle.std.proofs.Common.{◌≡◌, ◌⊎◌, inl, inr, ℕ, zero, suc, ◌+◌, ◌-◌, ◌<◌, ◌≤◌, Bool, true, false, List, [], ◌∷◌, ◌++◌, refl, sym, ap, subst, ◌∙◌, arith}
use Rattle.std.specs.Prelude.{None, if◌then◌else◌}
use Rattle.std.proofs.lemmas.Bool.{ltb-true}
use Rattle.std.proofs.Math.Logic.{⊎_elim}
use Rattle.spl_values.specs.hp_session.State.{Machine}
use Rattle.spl_values.specs.spl_branch.declared.pieces.Piece.{Piece}
use Rattle.spl_values.specs.spl_branch.declared.pieces.Piece.TheVariants.{Mark}
use Rattle.spl_values.specs.spl_meaning.Elements.{with_one}
use Rattle.spl_values.specs.spl_meaning.Kinds.{is_connective}
use Rattle.spl_values.specs.spl_meaning.Laws.{IsFront}
use Rattle.spl_values.specs.spl_meaning.Names.{truth_word}
use Rattle.spl_values.specs.spl_meaning.Operations.{is_odd}
use Rattle.spl_values.specs.spl_meaning.References.{Setting}
use Rattle.spl_values.specs.spl_meaning.States.{Data, State, Outcome, done, leaves, spent, ends, strays, then_go}
use Rattle.spl_values.specs.spl_meaning.Values as meant
use Rattle.spl_values.specs.spl_code.Code as made
use Rattle.spl_values.specs.spl_code.Code.{Aim, as_test}
use Rattle.spl_values.specs.spl_code.Instructions.{BR}
use Rattle.spl_values.specs.spl_code.Parts.{Part, Wanted, piece, ◌⨟◌, with_fresh}
use Rattle.spl_values.specs.spl_follow.Spots.{Spot, pos, Point, on, Ground}
use Rattle.spl_values.specs.spl_follow.Following.{Rate, Tally, tally, tally_with, Follows, NoExit}
use Rattle.spl_values.specs.spl_follow.Matching.{Kept, Arrives}
use Rattle.spl_values.specs.spl_follow.Parts.{Truth, Tested}
use Rattle.spl_values.specs.spl_follow.Simulating.{Surroundings, Simulates}
use Rattle.spl_values.specs.spl_follow.Standing.{Stands}
use Rattle.spl_values.proofs.spl_follow_proofs.FollowLemmas.{bind_follows, widen, weaken}
use Rattle.spl_values.proofs.spl_follow_proofs.KeepLemmas.{arrives_after, arrives_ready}
use Rattle.spl_values.proofs.spl_follow_proofs.PartLemmas.{stand_in_order}
use Rattle.spl_values.proofs.spl_follow_proofs.RowLemmas.{row_branches}
use Rattle.spl_values.proofs.spl_follow_proofs.WayLemmas.{goes_wider}
use Rattle.spl_values.specs.Reached.{IsWhole}
use Rattle.spl_values.proofs.SumLemmas.{front_on}
use Rattle.spl_values.proofs.WholeLemmas.{whole_then, whole_behind, whole_mark, whole_fresh}
use Rattle.spl_conditions.specs.Laws.{ConnectivesSimulate}
use Rattle.spl_conditions.proofs.BranchLemmas.{strays_shown, goes_nowhere}
use Rattle.spl_conditions.proofs.ConditionLemmas.{Answers, answers_then, truth_odd, conditions, condition_whole}

-- ---- the right side

-- the answer by the right side's value
abbrev answer_by : List ℕ → State → Outcome (List ℕ)
answer_by us u = with_one us u (λ w v. done (truth_word (is_odd w) ∷ []) v)

-- a test of a value is one of the answer by it
tests_answer : (g : Ground) (w : Rate) (c lag e : ℕ) (t : Tally) (m : Machine) (st : Setting) (q fails : Spot) (k : ℕ) (d0 : Data) (m0 : Machine)
    (o : Outcome (List ℕ)) → Follows g w c lag e t m (Tested st q fails k d0 m0) NoExit o
    → Follows g w c lag e t m (Tested st q fails k d0 m0) NoExit (then_go o (λ us u. answer_by us u))
tests_answer g w c lag e t m st q fails k d0 m0 (done [] s) f =
    (f.0, s.begun, goes_wider g w c lag e c lag 0 t m (tally s) f.0 f.1 (omega arith) (omega arith), f.2, inl refl)
tests_answer g w c lag e t m st q fails k d0 m0 (done (v ∷ []) s) f =
    (f.0, f.1, subst (λ (b : Bool). Truth st q fails k d0 m0 b s f.0) (sym (truth_odd (is_odd v))) f.2)
tests_answer g w c lag e t m st q fails k d0 m0 (done (v ∷ u ∷ vs) s) f =
    (f.0, s.begun, goes_wider g w c lag e c lag 0 t m (tally s) f.0 f.1 (omega arith) (omega arith), f.2, inl refl)
tests_answer g w c lag e t m st q fails k d0 m0 (leaves x s) f = absurd f.2
tests_answer g w c lag e t m st q fails k d0 m0 (spent s) f = f
tests_answer g w c lag e t m st q fails k d0 m0 (ends x s) f = f
tests_answer g w c lag e t m st q fails k d0 m0 (strays s) f = f

-- what a test is after a part is what it is after both
tested_after : (st : Setting) (q fails : Spot) (k : ℕ) (d : Data) (m : Machine) (e : Data) (m1 : Machine) (vs : List ℕ) (s : State) (n : Machine)
    → Kept (d.top + k) d m.stack e m1.stack → Tested st q fails k e m1 vs s n → Tested st q fails k d m vs s n
tested_after st q fails k d m e m1 [] s n before t = t
tested_after st q fails k d m e m1 (v ∷ []) s n before t =
    (arrives_after st (if is_odd v then q else fails) k k d m e m1 s n (omega arith) before t.0, t.1)
tested_after st q fails k d m e m1 (v ∷ u ∷ vs) s n before t = t

-- The right side, from where the left one's test leads to it: what it answers is the whole's.
right_follows : (z : Surroundings) (d k need fail h : ℕ) (ws : List Wanted) (r q : Spot) (b : Part) (other : State → Outcome (List ℕ)) (s : State) (m : Machine)
    → s.now.top + k + need ≤ s.now.stack → s.left ≤ d → Simulates z d (as_test fail) 1 k need b other → Stands z.ground z.sites (on r) (b h ws).pieces q
    → IsFront (b h ws).wants z.wants → (t : State) (n : Machine) → Arrives z.setting r k s.now m t n → t.code ≡ None → t.left ≤ s.left
    → Follows z.ground z.rate (pos q - pos r) 1 1 (tally t) n (Tested z.setting q (z.sites.marks fail) k s.now m) NoExit (then_go (other t) (λ us u. answer_by us u))
right_follows z d k need fail h ws r q b other s m room fuel x stands front t n arrived silent fewer =
    let many = z.rate.enough in
    let ready = arrives_ready z.setting d r k k need need s m t n room fuel arrived silent fewer (omega arith) in
    let f = x.does h ws (on r) q t t.begun n stands front ready in
    let from = weaken z.ground z.rate (pos q - pos r) 1 z.rate.reach (tally t) n (Tested z.setting q (z.sites.marks fail) k t.now n)
    (Tested z.setting q (z.sites.marks fail) k s.now m) NoExit NoExit (other t) f
    (λ us u o tested less. tested_after z.setting q (z.sites.marks fail) k s.now m t.now n us u o arrived.kept tested) (λ y u o no'. no') in
    tests_answer z.ground z.rate (pos q - pos r) 1 1 (tally t) n z.setting q (z.sites.marks fail) k s.now m (other t)
    (widen z.ground z.rate (pos q - pos r) 1 z.rate.reach (pos q - pos r) 1 1 (tally t) n (Tested z.setting q (z.sites.marks fail) k s.now m) NoExit (other t) from
    (omega arith) (omega arith) (omega (arith, many)))

-- ---- AND

-- behind the left side: where it holds the right one is tested; else the mark is where it leads
and_side : (z : Surroundings) (d k need fail h : ℕ) (ws : List Wanted) (r q : Spot) (b : Part) (other : State → Outcome (List ℕ)) (s : State) (m : Machine)
    → s.now.top + k + need ≤ s.now.stack → s.left ≤ d → Simulates z d (as_test fail) 1 k need b other → Stands z.ground z.sites (on r) (b h ws).pieces q
    → IsFront (b h ws).wants z.wants → (vs : List ℕ) (t : State) (n : Machine) → Tested z.setting r (z.sites.marks fail) k s.now m vs t n → t.left ≤ s.left
    → Follows z.ground z.rate (pos q - pos r) 1 1 (tally t) n (Tested z.setting q (z.sites.marks fail) k s.now m) NoExit (meant.connected 1 vs t other)
and_side z d k need fail h ws r q b other s m room fuel x stands front [] t n tested fewer =
    strays_shown z.ground z.rate (pos q - pos r) 1 1 t n (Tested z.setting q (z.sites.marks fail) k s.now m) NoExit tested
and_side z d k need fail h ws r q b other s m room fuel x stands front (v ∷ u ∷ vs) t n tested fewer =
    strays_shown z.ground z.rate (pos q - pos r) 1 1 t n (Tested z.setting q (z.sites.marks fail) k s.now m) NoExit tested
and_side z d k need fail h ws r q b other s m room fuel x stands front (v ∷ []) t n tested fewer = by (is_odd v) tested where
  by : (c : Bool) → Truth z.setting r (z.sites.marks fail) k s.now m c t n
      → Follows z.ground z.rate (pos q - pos r) 1 1 (tally t) n (Tested z.setting q (z.sites.marks fail) k s.now m) NoExit
      (if c then then_go (other t) (λ us u. answer_by us u) else done (0 ∷ []) t)
  by true a = right_follows z d k need fail h ws r q b other s m room fuel x stands front t n a.0 a.1 fewer
  by false a = (n, goes_nowhere z.ground z.rate (pos q - pos r) t n, a)

-- both sides lead to one mark
ands_test : (z : Surroundings) (d k need fail : ℕ) (a b : Part) (first other : State → Outcome (List ℕ)) → IsWhole a → IsWhole b
    → Simulates z d (as_test fail) 1 k need a first → Simulates z d (as_test fail) 1 k need b other
    → Simulates z d (as_test fail) 1 k need (a ⨟ b) (λ s. then_go (first s) (λ vs t. meant.connected 1 vs t other))
ands_test z d k need fail a b first other wa wb sa sb = record {
  does = λ h ws p q s l m stands front ready.
      let x = a h ws in
      let y = b (h + x.marks) x.wants in
      let cut = stand_in_order z.ground z.sites x.pieces y.pieces p q (wa.closed h ws) stands in
      let before = cut.3 in
      let behind = cut.4 in
      let many = z.rate.enough in
      bind_follows z.ground z.rate (pos cut.0 - pos p.at) 1 z.rate.reach (pos q - pos cut.0) 1 1 (pos q - pos p.at) 1 z.rate.reach (tally_with l s) m
      (Tested z.setting cut.0 (z.sites.marks fail) k s.now m) (Tested z.setting q (z.sites.marks fail) k s.now m) NoExit (first s)
      (λ vs t. meant.connected 1 vs t other)
      (sa.does h ws p cut.0 s l m cut.1 (front_on x.wants y.wants z.wants (wb.keeps (h + x.marks) x.wants) front) ready)
      (λ vs t n tested fewer. and_side z d k need fail (h + x.marks) x.wants cut.0 q b other s m ready.room ready.fuel sb cut.2 front vs t n tested fewer)
      (omega (arith, before, behind)) (omega arith) (omega (arith, many)) (omega (arith, many));
}

-- ---- OR

-- two pieces behind others, then more, and one behind all
or_joined : (ps : List Piece) (a b : Piece) (qs : List Piece) (c : Piece)
    → ((((ps ++ (a ∷ [])) ++ (b ∷ [])) ++ qs) ++ (c ∷ [])) ≡ ps ++ (a ∷ b ∷ (qs ++ (c ∷ [])))
or_joined [] a b qs c = refl
or_joined (x ∷ ps) a b qs c = ap (λ (rs : List Piece). x ∷ rs) (or_joined ps a b qs c)

-- Behind the left side: where it holds BR leads behind the right one; else the mark is where that begins.
or_side : (z : Surroundings) (d k need fail h : ℕ) (ws : List Wanted) (next over : ℕ) (r q : Spot) (b : Part) (other : State → Outcome (List ℕ)) (s : State)
    (m : Machine) → s.now.top + k + need ≤ s.now.stack → s.left ≤ d → IsWhole b → Simulates z d (as_test fail) 1 k need b other
    → Stands z.ground z.sites (on r) (BR over ∷ Mark next ∷ ((b h ws).pieces ++ Mark over ∷ [])) q → IsFront (b h ws).wants z.wants
    → (vs : List ℕ) (t : State) (n : Machine) → Tested z.setting r (z.sites.marks next) k s.now m vs t n → t.left ≤ s.left
    → Follows z.ground z.rate (pos q - pos r) 1 1 (tally t) n (Tested z.setting q (z.sites.marks fail) k s.now m) NoExit (meant.connected 0 vs t other)
or_side z d k need fail h ws next over r q b other s m room fuel whole x stands front [] t n tested fewer =
    strays_shown z.ground z.rate (pos q - pos r) 1 1 t n (Tested z.setting q (z.sites.marks fail) k s.now m) NoExit tested
or_side z d k need fail h ws next over r q b other s m room fuel whole x stands front (v ∷ u ∷ vs) t n tested fewer =
    strays_shown z.ground z.rate (pos q - pos r) 1 1 t n (Tested z.setting q (z.sites.marks fail) k s.now m) NoExit tested
or_side z d k need fail h ws next over r q b other s m room fuel whole x stands front (v ∷ []) t n tested fewer = by (is_odd v) tested where
  g : Ground
  g = z.ground

  w : Rate
  w = z.rate

  by : (c : Bool) → Truth z.setting r (z.sites.marks next) k s.now m c t n
      → Follows g w (pos q - pos r) 1 1 (tally t) n (Tested z.setting q (z.sites.marks fail) k s.now m) NoExit
      (if c then done (65535 ∷ []) t else then_go (other t) (λ us u. answer_by us u))
  by true a =
      let cut = stand_in_order g z.sites (b h ws).pieces (Mark over ∷ []) (on stands.0) q (whole.closed h ws) stands.2.2 in
      let end : z.sites.marks over ≡ q = cut.2.0 ∙ ap (λ (y : Point). y.at) cut.2.2 in
      let branch = row_branches g w r stands.0 (z.sites.marks over) false 0 z.setting t n s.now m k stands.1 a.0 in
      let rise = stands.1.rise in
      let before = cut.3 in
      let behind = cut.4 in
      let many = w.enough in (
        branch.0,
        goes_wider g w (pos stands.0 - pos r) 0 w.reach (pos q - pos r) 1 1 (tally t) n (tally t) branch.0 branch.1 (omega (arith, rise, before, behind)) (omega (arith, many)),
        (subst (λ (y : Spot). Arrives z.setting y k s.now m t branch.0) end branch.2, a.1),
      )
  by false a =
      let cut = stand_in_order g z.sites (b h ws).pieces (Mark over ∷ []) (on stands.0) q (whole.closed h ws) stands.2.2 in
      let end : cut.0 ≡ q = ap (λ (y : Point). y.at) cut.2.2 in
      let there = subst (λ (y : Spot). Stands g z.sites (on stands.0) (b h ws).pieces y) end cut.1 in
      let here = subst (λ (y : Spot). Arrives z.setting y k s.now m t n) stands.2.0 a.0 in
      let rise = stands.1.rise in
      widen g w (pos q - pos stands.0) 1 1 (pos q - pos r) 1 1 (tally t) n (Tested z.setting q (z.sites.marks fail) k s.now m) NoExit
      (then_go (other t) (λ us u. answer_by us u)) (right_follows z d k need fail h ws stands.0 q b other s m room fuel x there front t n here a.1 fewer)
      (omega (arith, rise)) (omega arith) (omega arith)

-- the left side leads to a mark before the right one
ors_test : (z : Surroundings) (d k need fail : ℕ) (a : ℕ → Part) (b : Part) (first other : State → Outcome (List ℕ)) → ((l : ℕ) → IsWhole (a l)) → IsWhole b
    → ((l : ℕ) → Simulates z d (as_test l) 1 k need (a l) first) → Simulates z d (as_test fail) 1 k need b other
    → Simulates z d (as_test fail) 1 k need
    (with_fresh (λ next. with_fresh (λ over. a next ⨟ piece (BR over) ⨟ piece (Mark next) ⨟ b ⨟ piece (Mark over))))
    (λ s. then_go (first s) (λ vs t. meant.connected 0 vs t other))
ors_test z d k need fail a b first other wa wb sa sb = record {
  does = λ h ws p q s l m stands front ready.
      let x = a h (suc (suc h)) ws in
      let i = suc (suc h) + (x.marks + 0 + 0) in
      let y = b i x.wants in
      let cut = stand_in_order z.ground z.sites x.pieces (BR (suc h) ∷ Mark h ∷ (y.pieces ++ Mark (suc h) ∷ [])) p q ((wa h).closed (suc (suc h)) ws)
      (subst (λ (ps : List Piece). Stands z.ground z.sites p ps q) (or_joined x.pieces (BR (suc h)) (Mark h) y.pieces (Mark (suc h))) stands) in
      let before = cut.3 in
      let behind = cut.4 in
      let many = z.rate.enough in
      bind_follows z.ground z.rate (pos cut.0 - pos p.at) 1 z.rate.reach (pos q - pos cut.0) 1 1 (pos q - pos p.at) 1 z.rate.reach (tally_with l s) m
      (Tested z.setting cut.0 (z.sites.marks h) k s.now m) (Tested z.setting q (z.sites.marks fail) k s.now m) NoExit (first s)
      (λ vs t. meant.connected 0 vs t other)
      ((sa h).does (suc (suc h)) ws p cut.0 s l m cut.1 (front_on x.wants y.wants z.wants (wb.keeps i x.wants) front) ready)
      (λ vs t n tested fewer. or_side z d k need fail i x.wants h (suc h) cut.0 q b other s m ready.room ready.fuel wb sb cut.2 front vs t n tested fewer)
      (omega (arith, before, behind)) (omega arith) (omega (arith, many)) (omega (arith, many));
}

-- ---- both

-- which of the two it is
pub connective_cases : (o : ℕ) → is_connective o ≡ true → (o ≡ 0) ⊎ (o ≡ 1)
connective_cases o e = by o (ltb-true o 2 e) where
  by : (n : ℕ) → n < 2 → (n ≡ 0) ⊎ (n ≡ 1)
  by zero l = inl refl
  by (suc zero) l = inr refl
  by (suc (suc n)) l = absurd (omega (arith, l))

-- the answer by a word answers
answer_answers : (us : List ℕ) (u : State) → Answers (answer_by us u)
answer_answers [] u = tt
answer_answers (w ∷ []) u = (is_odd w, refl)
answer_answers (w ∷ v ∷ us) u = tt

-- so do both
or_answers : (vs : List ℕ) (t : State) (other : State → Outcome (List ℕ)) → Answers (meant.connected 0 vs t other)
or_answers [] t other = tt
or_answers (v ∷ u ∷ vs) t other = tt
or_answers (v ∷ []) t other = by (is_odd v) where
  by : (c : Bool) → Answers (if c then done (65535 ∷ []) t else then_go (other t) (λ us u. answer_by us u))
  by true = (true, refl)
  by false = answers_then (other t) (λ us u. answer_by us u) (λ us u. answer_answers us u)

and_answers : (vs : List ℕ) (t : State) (other : State → Outcome (List ℕ)) → Answers (meant.connected 1 vs t other)
and_answers [] t other = tt
and_answers (v ∷ u ∷ vs) t other = tt
and_answers (v ∷ []) t other = by (is_odd v) where
  by : (c : Bool) → Answers (if c then then_go (other t) (λ us u. answer_by us u) else done (0 ∷ []) t)
  by true = answers_then (other t) (λ us u. answer_by us u) (λ us u. answer_answers us u)
  by false = (false, refl)

-- the code of an OR's test is whole
or_whole : (a : ℕ → Part) (b : Part) → ((l : ℕ) → IsWhole (a l)) → IsWhole b
    → IsWhole (with_fresh (λ next. with_fresh (λ over. a next ⨟ piece (BR over) ⨟ piece (Mark next) ⨟ b ⨟ piece (Mark over))))
or_whole a b wa wb =
    whole_fresh (λ next. with_fresh (λ over. a next ⨟ piece (BR over) ⨟ piece (Mark next) ⨟ b ⨟ piece (Mark over))) (λ next.
    whole_fresh (λ over. a next ⨟ piece (BR over) ⨟ piece (Mark next) ⨟ b ⨟ piece (Mark over)) (λ over.
    whole_mark (a next ⨟ piece (BR over) ⨟ piece (Mark next) ⨟ b) over
    (whole_then (a next ⨟ piece (BR over) ⨟ piece (Mark next)) b
    (whole_mark (a next ⨟ piece (BR over)) next (whole_behind (a next) (BR over ∷ []) (wa next) refl)) wb)))

-- so is that of both, whatever is wanted
pub connected_whole : (o : ℕ) (aim : Aim) (left right : Aim → Part) → is_connective o ≡ true → ((fail : ℕ) → IsWhole (left (as_test fail)))
    → ((fail : ℕ) → IsWhole (right (as_test fail))) → IsWhole (made.connected o aim left right)
connected_whole o aim left right e wl wr =
    ⊎_elim
    (λ is. subst (λ (n : ℕ). IsWhole (made.connected n aim left right)) (sym is)
    (condition_whole aim (made.either_of left right) (λ fail. or_whole (λ l. left (as_test l)) (right (as_test fail)) wl (wr fail))))
    (λ is. subst (λ (n : ℕ). IsWhole (made.connected n aim left right)) (sym is)
    (condition_whole aim (λ fail. left (as_test fail) ⨟ right (as_test fail)) (λ fail. whole_then (left (as_test fail)) (right (as_test fail)) (wl fail) (wr fail))))
    (connective_cases o e)

pub connectives : ConnectivesSimulate
connectives z d k need o aim left right first other e enough wl wr sl sr =
    ⊎_elim
    (λ is. subst (λ (n : ℕ). Simulates z d aim 1 k need (made.connected n aim left right) (λ s. then_go (first s) (λ vs t. meant.connected n vs t other))) (sym is)
    (conditions z d k need aim (made.either_of left right) (λ s. then_go (first s) (λ vs t. meant.connected 0 vs t other)) enough
    (λ fail. or_whole (λ l. left (as_test l)) (right (as_test fail)) wl (wr fail))
    (λ s. answers_then (first s) (λ vs t. meant.connected 0 vs t other) (λ vs t. or_answers vs t other))
    (λ fail. ors_test z d k need fail (λ l. left (as_test l)) (right (as_test fail)) first other wl (wr fail) sl (sr fail))))
    (λ is. subst (λ (n : ℕ). Simulates z d aim 1 k need (made.connected n aim left right) (λ s. then_go (first s) (λ vs t. meant.connected n vs t other))) (sym is)
    (conditions z d k need aim (λ fail. left (as_test fail) ⨟ right (as_test fail)) (λ s. then_go (first s) (λ vs t. meant.connected 1 vs t other)) enough
    (λ fail. whole_then (left (as_test fail)) (right (as_test fail)) (wl fail) (wr fail))
    (λ s. answers_then (first s) (λ vs t. meant.connected 1 vs t other) (λ vs t. and_answers vs t other))
    (λ fail. ands_test z d k need fail (left (as_test fail)) (right (as_test fail)) first other (wl fail) (wr fail) (sl fail) (sr fail))))
    (connective_cases o e)
