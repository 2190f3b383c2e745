-- Comparisons of bytes as tests: their references, what is compared, and the branch on the code.
use Rattle.std.proofs.Common.{◌≡◌, ℕ, ◌+◌, ◌-◌, ◌%◌, ◌≤◌, true, false, List, [], ◌∷◌, ◌++◌, length, refl, sym, ap, subst, ◌∙◌, arith}
use Rattle.std.specs.Prelude.{if◌then◌else◌}
use Rattle.spl_names.specs.hp_word.declared.arithmetic.Code.{Code}
use Rattle.spl_names.specs.hp_word.Words.{signed}
use Rattle.spl_names.specs.hp_instr.declared.instruction.Instr.TheVariants as i
use Rattle.spl_scans.specs.hp_session.State.{Machine}
use Rattle.spl_scans.specs.hp_memory_rows.MemoryRows.{is_named}
use Rattle.spl_names.specs.spl_tree.declared.expressions.Kind.TheVariants as kind
use Rattle.spl_names.specs.spl_meaning.Elements.{with_one, is_upward, count_size, compared_by, compared_text, relation_told}
use Rattle.spl_names.specs.spl_meaning.Laws.{IsFront}
use Rattle.spl_names.specs.spl_meaning.Names.{truth_word}
use Rattle.spl_names.specs.spl_meaning.Operations.{is_odd, related}
use Rattle.spl_names.specs.spl_meaning.References.{Setting, Located}
use Rattle.spl_names.specs.spl_meaning.States.{Data, State, Outcome, done, leaves, spent, ends, strays, then_go}
use Rattle.spl_names.specs.spl_code.Code as made
use Rattle.spl_names.specs.spl_code.Code.{as_value, as_test}
use Rattle.spl_names.specs.spl_code.Constants.{constant, text_offset}
use Rattle.spl_names.specs.spl_code.Instructions.{LSL, BCC, CMPB}
use Rattle.spl_names.specs.spl_code.Operators.{failing_codes}
use Rattle.spl_names.specs.spl_code.Parts.{Part, Wanted, pieces, piece, ◌⨟◌}
use Rattle.spl_scans.specs.spl_follow.Spots.{Spot, pos, on, Ground}
use Rattle.spl_scans.specs.spl_follow.Leading.{Leads}
use Rattle.spl_scans.specs.spl_follow.Matching.{IsValue, Arrives}
use Rattle.spl_scans.specs.spl_follow.Following.{Rate, tally, tally_with, Follows, NoExit}
use Rattle.spl_scans.specs.spl_follow.Doing.{turning}
use Rattle.spl_scans.specs.spl_follow.Standing.{Stands}
use Rattle.spl_scans.specs.spl_follow.Parts.{Tested}
use Rattle.spl_scans.specs.spl_follow.Simulating.{Surroundings, Simulates}
use Rattle.spl_scans.proofs.spl_follow_proofs.FollowLemmas.{bind_follows, then_follows}
use Rattle.spl_scans.proofs.spl_follow_proofs.KeepLemmas.{values_join}
use Rattle.spl_scans.proofs.spl_follow_proofs.PartLemmas.{stand_in_order}
use Rattle.spl_scans.proofs.spl_follow_proofs.StandLemmas.{closed_last}
use Rattle.spl_scans.specs.spl_values.Reached.{IsWhole}
use Rattle.spl_scans.proofs.spl_values_proofs.ConstantLemmas.{constants_give}
use Rattle.spl_scans.proofs.spl_values_proofs.GiveLemmas.{last_leads}
use Rattle.spl_scans.proofs.spl_values_proofs.SumLemmas.{front_on}
use Rattle.spl_scans.proofs.spl_values_proofs.WholeLemmas.{whole_then, whole_behind}
use Rattle.spl_scans.proofs.spl_conditions_proofs.BranchLemmas.{branch_leads, code_branches}
use Rattle.spl_scans.proofs.spl_conditions_proofs.ConditionLemmas.{Answers, conditions, condition_whole}
use Rattle.spl_scans.proofs.spl_conditions_proofs.RelationLemmas.{fails_where}
use Rattle.spl_scans.specs.spl_moves.Moving.{IsReference}
use Rattle.spl_scans.proofs.spl_moves_proofs.CountLemmas.{at_address, counts_by}
use Rattle.spl_scans.proofs.spl_moves_proofs.MoveLemmas.{Spelled}
use Rattle.spl_scans.proofs.spl_moves_proofs.PartLemmas.{IsLocation, reference_follows, next_ready}
use Rattle.spl_scans.specs.Laws.{AreBytes}
use Rattle.spl_scans.proofs.SpellLemmas.{stands_inside}
use Rattle.spl_scans.proofs.TextLemmas.{scaled_whole, constant_closed, offset_spelled}
use Rattle.spl_byte_tests.specs.Laws.{ByteComparisonsAreWhole, ByteComparisonsSimulate, TextComparisonsAreWhole, TextComparisonsSimulate}
use Rattle.spl_byte_tests.proofs.CompareLemmas.{Told, text_follows, data_follows}

-- ---- whole code

-- CMPB closes, and so does the branch behind it
pub bytes_whole : ByteComparisonsAreWhole
bytes_whole op aim a b c wa wb wc =
    condition_whole aim (λ fail. a ⨟ b ⨟ c ⨟ piece (CMPB 0) ⨟ made.related op fail) (λ fail.
    whole_behind (a ⨟ b ⨟ c ⨟ piece (CMPB 0)) (BCC (failing_codes op) fail ∷ [])
    (whole_behind (a ⨟ b ⨟ c) (CMPB 0 ∷ []) (whole_then (a ⨟ b) c (whole_then a b wa wb) wc) refl) refl)

-- the offset and the count of a string
abbrev spelled_first : List ℕ → Part
spelled_first text = text_offset text ⨟ piece (LSL 1) ⨟ pieces (constant (length text % 65536))

first_whole : (text : List ℕ) → IsWhole (spelled_first text)
first_whole text =
    whole_behind (text_offset text ⨟ piece (LSL 1)) (constant (length text % 65536)) (scaled_whole true text) (constant_closed (length text % 65536))

pub texts_whole : TextComparisonsAreWhole
texts_whole op aim a text wa =
    condition_whole aim (λ fail. a ⨟ made.text_compared text ⨟ made.related op fail) (λ fail.
    whole_behind (a ⨟ made.text_compared text) (BCC (failing_codes op) fail ∷ [])
    (whole_then a (made.text_compared text) wa (whole_behind (spelled_first text) (CMPB 1 ∷ []) (first_whole text) refl)) refl)

-- ---- answers

-- what answers behind anything answers
answers_go : {A : Type 0} (o : Outcome A) (go : A → State → Outcome (List ℕ)) → ((a : A) (s : State) → Answers (go a s)) → Answers (then_go o go)
answers_go (done a s) go f = f a s
answers_go (leaves x s) go f = tt
answers_go (spent s) go f = tt
answers_go (ends e s) go f = tt
answers_go (strays s) go f = tt

-- a relation does
told_answers : (n : ℕ) (o : Outcome Code) → Answers (relation_told n o)
told_answers n o = answers_go o (λ c s. done (truth_word (related n c) ∷ []) s) (λ c s. (related n c, refl))

one_answers : (vs : List ℕ) (s : State) (go : ℕ → State → Outcome (List ℕ)) → ((v : ℕ) (t : State) → Answers (go v t)) → Answers (with_one vs s go)
one_answers [] s go f = tt
one_answers (v ∷ []) s go f = f v s
one_answers (v ∷ u ∷ vs) s go f = tt

-- ---- the branch

-- BCC behind what was told
code_tested : (g : Ground) (w : Rate) (r q to : Spot) (st : Setting) (s : State) (m : Machine) (d0 : Data) (m0 : Machine) (k n : ℕ) (c : Code)
    → Leads g (on r) q (turning (i.OnCode (failing_codes n) false 0) to q) → Told st r k d0 m0 c s m
    → Follows g w (pos q - pos r) 0 w.reach (tally s) m (Tested st q to k d0 m0) NoExit (done (truth_word (related n c) ∷ []) s)
code_tested g w r q to st s m d0 m0 k n c branch x =
    let second = code_branches g w r q to (failing_codes n) false 0 k st s m d0 m0 branch x.0 in
    let there : (if is_named (failing_codes n) m.regs.code then to else q) ≡ (if is_odd (truth_word (related n c)) then q else to) =
    ap (λ (z : Code). if is_named (failing_codes n) z then to else q) x.1 ∙ fails_where n c to q in
    (second.0, second.1, (subst (λ (y : Spot). Arrives st y k d0 m0 s second.0) there second.2, x.2))

-- so a comparison is tested
comparison_tested : (g : Ground) (w : Rate) (p r q to : Spot) (st : Setting) (s : State) (m : Machine) (d0 : Data) (m0 : Machine) (k n : ℕ) (o : Outcome Code)
    → pos p ≤ pos r → Leads g (on r) q (turning (i.OnCode (failing_codes n) false 0) to q)
    → Follows g w (pos r - pos p) 1 w.reach (tally s) m (Told st r k d0 m0) NoExit o
    → Follows g w (pos q - pos p) 1 w.reach (tally s) m (Tested st q to k d0 m0) NoExit (relation_told n o)
comparison_tested g w p r q to st s m d0 m0 k n o before branch f =
    let rise = branch.rise in
    let many = w.enough in
    bind_follows g w (pos r - pos p) 1 w.reach (pos q - pos r) 0 w.reach (pos q - pos p) 1 w.reach (tally s) m (Told st r k d0 m0) (Tested st q to k d0 m0) NoExit
    o (λ c u. done (truth_word (related n c) ∷ []) u) f (λ c u n1 told less. code_tested g w r q to st u n1 d0 m0 k n c branch told)
    (omega (arith, before, rise)) (omega arith) (omega (arith, many)) (omega (arith, many))

-- ---- by a count

-- behind both addresses and the count
count_tested : (z : Surroundings) (k need n fail : ℕ) (p r q : Spot) (c b : ℕ) (vs : List ℕ) (s : State) (m : Machine) (d0 : Data) (m0 : Machine)
    → Stands z.ground z.sites (on p) (CMPB 0 ∷ []) r → Stands z.ground z.sites (on r) (BCC (failing_codes n) fail ∷ []) q → d0.top + k + need ≤ d0.stack
    → 3 ≤ need → length vs ≡ 1 → IsValue z.setting p 3 k d0 m0 (c ∷ b ∷ vs) s m
    → Follows z.ground z.rate (pos q - pos p) 1 z.rate.reach (tally s) m (Tested z.setting q (z.sites.marks fail) k d0 m0) NoExit
    (with_one vs s (λ size x. relation_told n (compared_by size (at_address z.setting.split kind.Byte c) (at_address z.setting.split kind.Byte b) x)))
count_tested z k need n fail p r q c b [] s m d0 m0 stands branch room enough wide x = absurd (omega (arith, wide))
count_tested z k need n fail p r q c b (a ∷ []) s m d0 m0 stands branch room enough wide x =
    let y = counts_by a x.small.1.1.0 in
    let leads = last_leads z.ground z.sites (on p) (i.Control 14 0) r stands in
    let rise = leads.rise in
    comparison_tested z.ground z.rate p r q (z.sites.marks fail) z.setting s m d0 m0 k n
    (compared_by a (at_address z.setting.split kind.Byte c) (at_address z.setting.split kind.Byte b) s) (omega (arith, rise))
    (branch_leads z.ground z.sites (on r) (i.OnCode (failing_codes n) false 0) fail q branch)
    (data_follows z.ground z.rate z.setting p r k d0 m0 0 leads (omega (arith, room, enough)) z.setting.split refl refl
    (is_upward (signed a)) (count_size (signed a)) c b s m y.fits (subst (λ (j : ℕ). IsValue z.setting p 3 k d0 m0 (c ∷ b ∷ j ∷ []) s m) (sym y.word) x))
count_tested z k need n fail p r q c b (a ∷ e ∷ vs) s m d0 m0 stands branch room enough wide x = absurd (omega (arith, wide))

-- both references, the count, the comparison and the branch
bytes_tested : (z : Surroundings) (d k need more most n fail : ℕ) (a b c : Part) (to from : State → Outcome Located) (count : State → Outcome (List ℕ))
    → IsReference z d k need kind.Byte a to → IsReference z d (k + 1) more kind.Byte b from → IsWhole c → Simulates z d as_value 1 (k + 2) most c count
    → more + 1 ≤ need → most + 2 ≤ need → 3 ≤ need
    → Simulates z d (as_test fail) 1 k need (a ⨟ b ⨟ c ⨟ piece (CMPB 0) ⨟ made.related n fail)
    (λ s. then_go (to s) (λ p u. then_go (from u) (λ q v. then_go (count v) (λ vs w. with_one vs w (λ size x. relation_told n (compared_by size p q x))))))
bytes_tested z d k need more most n fail a b c to from count ra rb wc sc few less enough = record {
  does = λ h ws p q s l m stands front ready.
      let g = z.ground in
      let st = z.setting in
      let tests = Tested st q (z.sites.marks fail) k s.now m in
      let x = a h ws in
      let y = b (h + x.marks) x.wants in
      let hc = h + (x.marks + y.marks) in
      let v = c hc y.wants in
      let operands = (x.pieces ++ y.pieces) ++ v.pieces in
      let branch = stand_in_order g z.sites (operands ++ CMPB 0 ∷ []) (BCC (failing_codes n) fail ∷ []) p q (closed_last operands (CMPB 0 ∷ []) refl) stands in
      let told = stand_in_order g z.sites operands (CMPB 0 ∷ []) p branch.0 ((whole_then (a ⨟ b) c (whole_then a b ra.whole rb.whole) wc).closed h ws) branch.1 in
      let counted = stand_in_order g z.sites (x.pieces ++ y.pieces) v.pieces p told.0 ((whole_then a b ra.whole rb.whole).closed h ws) told.1 in
      let first = stand_in_order g z.sites x.pieces y.pieces p counted.0 (ra.whole.closed h ws) counted.1 in
      let last_front = front_on y.wants v.wants z.wants (wc.keeps hc y.wants) front in
      let p0 = first.3 in
      let p1 = first.4 in
      let p2 = counted.4 in
      let p3 = told.4 in
      let p4 = branch.4 in
      let many = z.rate.enough in
      let room = ready.room in
      let fuel = ready.fuel in
      bind_follows g z.rate (pos first.0 - pos p.at) 1 z.rate.reach (pos q - pos first.0) 1 z.rate.reach (pos q - pos p.at) 1 z.rate.reach (tally_with l s) m
      (IsLocation st first.0 kind.Byte k s.now m) tests NoExit (to s)
      (λ e u. then_go (from u) (λ f t. then_go (count t) (λ vs w. with_one vs w (λ size x. relation_told n (compared_by size e f x)))))
      (reference_follows z d k need kind.Byte a to ra h ws p first.0 s l m first.1 (front_on x.wants y.wants z.wants (rb.whole.keeps (h + x.marks) x.wants) last_front) ready)
      (λ e u m1 is fewer.
      subst (λ (e : Located). Follows g z.rate (pos q - pos first.0) 1 z.rate.reach (tally u) m1 tests NoExit
      (then_go (from u) (λ f t. then_go (count t) (λ vs w. with_one vs w (λ size x. relation_told n (compared_by size e f x)))))) (sym is.is)
      (bind_follows g z.rate (pos counted.0 - pos first.0) 1 z.rate.reach (pos q - pos counted.0) 1 z.rate.reach (pos q - pos first.0) 1 z.rate.reach (tally u) m1
      (IsLocation st counted.0 kind.Byte (k + 1) u.now m1) tests NoExit (from u)
      (λ f t. then_go (count t) (λ vs w. with_one vs w (λ size x. relation_told n (compared_by size (at_address st.split kind.Byte e.address) f x))))
      (reference_follows z d (k + 1) more kind.Byte b from rb (h + x.marks) x.wants (on first.0) counted.0 u u.begun m1 first.2 last_front
      (next_ready st d first.0 1 k need more (e.address ∷ []) s.now m u m1 is.stands room few (omega (arith, fuel, fewer))))
      (λ f t m2 is2 fewer2.
      let two = values_join st first.0 counted.0 1 1 k s.now m (e.address ∷ []) (f.address ∷ []) u m1 t m2 is.stands is2.stands in
      subst (λ (f : Located). Follows g z.rate (pos q - pos counted.0) 1 z.rate.reach (tally t) m2 tests NoExit
      (then_go (count t) (λ vs w. with_one vs w (λ size x. relation_told n (compared_by size (at_address st.split kind.Byte e.address) f x))))) (sym is2.is)
      (bind_follows g z.rate (pos told.0 - pos counted.0) 1 z.rate.reach (pos q - pos told.0) 1 z.rate.reach (pos q - pos counted.0) 1 z.rate.reach (tally t) m2
      (IsValue st told.0 1 (k + 2) t.now m2) tests NoExit (count t)
      (λ vs w. with_one vs w (λ size x. relation_told n (compared_by size (at_address st.split kind.Byte e.address) (at_address st.split kind.Byte f.address) x)))
      (sc.does hc y.wants (on counted.0) told.0 t t.begun m2 counted.2 front
      (next_ready st d counted.0 2 k need most (e.address ∷ f.address ∷ []) s.now m t m2 two room less (omega (arith, fuel, fewer, fewer2))))
      (λ vs w m3 is3 fewer3.
      count_tested z k need n fail told.0 branch.0 q e.address f.address vs w m3 s.now m told.2 branch.2 room enough is3.wide
      (values_join st counted.0 told.0 2 1 k s.now m (e.address ∷ f.address ∷ []) vs t m2 w m3 two is3))
      (omega (arith, p2, p3, p4)) (omega arith) (omega (arith, many)) (omega (arith, many))))
      (omega (arith, p1, p2, p3, p4)) (omega arith) (omega (arith, many)) (omega (arith, many))))
      (omega (arith, p0, p1, p2, p3, p4)) (omega arith) (omega (arith, many)) (omega (arith, many));
}

-- whatever is wanted of it
pub bytes_compared : ByteComparisonsSimulate
bytes_compared z d k need more most op aim a b c to from count ra rb wc sc few less enough =
    conditions z d k need aim (λ fail. a ⨟ b ⨟ c ⨟ piece (CMPB 0) ⨟ made.related op fail)
    (λ s. then_go (to s) (λ p u. then_go (from u) (λ q v. then_go (count v) (λ vs w. with_one vs w (λ size x. relation_told op (compared_by size p q x))))))
    (omega (arith, enough))
    (λ fail. whole_behind (a ⨟ b ⨟ c ⨟ piece (CMPB 0)) (BCC (failing_codes op) fail ∷ [])
    (whole_behind (a ⨟ b ⨟ c) (CMPB 0 ∷ []) (whole_then (a ⨟ b) c (whole_then a b ra.whole rb.whole) wc) refl) refl)
    (λ s. answers_go (to s) _ (λ p u. answers_go (from u) _ (λ q v. answers_go (count v) _ (λ vs w.
    one_answers vs w _ (λ size x. told_answers op (compared_by size p q x))))))
    (λ fail. bytes_tested z d k need more most op fail a b c to from count ra rb wc sc few less enough)

-- ---- with a string

-- behind the address of its bytes
text_told : (z : Surroundings) (d k need : ℕ) (text : List ℕ) → AreBytes text → 3 ≤ need → (h : ℕ) (ws : List Wanted) (p q : Spot) (c : ℕ) (s : State)
    (m : Machine) (d0 : Data) (m0 : Machine) → Stands z.ground z.sites (on p) (made.text_compared text h ws).pieces q → IsFront ws z.wants
    → IsValue z.setting p 1 k d0 m0 (c ∷ []) s m → d0.top + k + need ≤ d0.stack → s.left ≤ d
    → Follows z.ground z.rate (pos q - pos p) 1 z.rate.reach (tally s) m (Told z.setting q k d0 m0) NoExit
    (compared_text (at_address z.setting.split kind.Byte c) text s)
text_told z d k need text small enough h ws p q c s m d0 m0 stands wanted v room fuel =
    let first = spelled_first text in
    let cut = stand_in_order z.ground z.sites (first h ws).pieces (CMPB 1 ∷ []) (on p) q ((first_whole text).closed h ws) stands in
    let placed = stand_in_order z.ground z.sites ((text_offset text ⨟ piece (LSL 1)) h ws).pieces (constant (length text % 65536)) (on p) cut.0
    ((scaled_whole true text).closed h ws) cut.1 in
    let rise = placed.3 in
    let middle = placed.4 in
    let last = cut.4 in
    let many = z.rate.enough in
    let x = offset_spelled z d (k + 1) 2 true text small (omega arith) h ws p placed.0 s m placed.1
    (next_ready z.setting d p 1 k need 2 (c ∷ []) d0 m0 s m v room enough fuel) in
    let few = x.few in
    let count : length text % 65536 ≡ length text = omega (arith, few) in
    let inside : p.seg ≡ cut.0.seg = sym (stands_inside z.ground z.sites (first h ws).pieces (on p) cut.0 cut.1) in
    let f = x.gives in
    let two = values_join z.setting p placed.0 1 1 k d0 m0 (c ∷ []) (x.offset ∷ []) s m s f.0 v f.2 in
    let e = (constants_give z d (k + 2) 1 (length text % 65536) (omega arith) (omega arith)).does h ws (on placed.0) cut.0 s s.begun f.0 placed.2 wanted
    (next_ready z.setting d placed.0 2 k need 1 (c ∷ x.offset ∷ []) d0 m0 s f.0 two room (omega (arith, enough)) fuel) in
    let three = values_join z.setting placed.0 cut.0 2 1 k d0 m0 (c ∷ x.offset ∷ []) (length text % 65536 ∷ []) s f.0 s e.0 two e.2 in
    let told : Outcome Code = compared_text (at_address z.setting.split kind.Byte c) text s in
    then_follows z.ground z.rate (pos placed.0 - pos p) 1 z.rate.reach (pos q - pos placed.0) 1 z.rate.reach (pos q - pos p) 1 z.rate.reach (tally s) m
    (tally s) f.0 (Told z.setting q k d0 m0) NoExit told f.1
    (then_follows z.ground z.rate (pos cut.0 - pos placed.0) 1 z.rate.reach (pos q - pos cut.0) 1 z.rate.reach (pos q - pos placed.0) 1 z.rate.reach
    (tally s) f.0 (tally s) e.0 (Told z.setting q k d0 m0) NoExit told e.1
    (text_follows z.ground z.rate z.setting cut.0 q k d0 m0 1 (last_leads z.ground z.sites (on cut.0) (i.Control 14 1) q cut.2) (omega (arith, room, enough))
    z.setting.split refl refl text c x.offset s e.0 few (subst (λ (j : ℕ). Spelled z.ground true j x.offset text) inside x.spelled)
    (subst (λ (j : ℕ). IsValue z.setting cut.0 3 k d0 m0 (c ∷ x.offset ∷ j ∷ []) s e.0) count three))
    (omega (arith, middle, last)) (omega (arith, many)) (omega (arith, many)))
    (omega (arith, rise, middle, last)) (omega (arith, many)) (omega (arith, many))

-- the reference, the comparison and the branch
text_tested : (z : Surroundings) (d k need n fail : ℕ) (a : Part) (to : State → Outcome Located) (text : List ℕ) → AreBytes text
    → IsReference z d k need kind.Byte a to → 3 ≤ need
    → Simulates z d (as_test fail) 1 k need (a ⨟ made.text_compared text ⨟ made.related n fail) (λ s. then_go (to s) (λ p u. relation_told n (compared_text p text u)))
text_tested z d k need n fail a to text small r enough = record {
  does = λ h ws p q s l m stands front ready.
      let g = z.ground in
      let st = z.setting in
      let tests = Tested st q (z.sites.marks fail) k s.now m in
      let x = a h ws in
      let y = made.text_compared text (h + x.marks) x.wants in
      let branch = stand_in_order g z.sites (x.pieces ++ y.pieces) (BCC (failing_codes n) fail ∷ []) p q
      ((whole_then a (made.text_compared text) r.whole (whole_behind (spelled_first text) (CMPB 1 ∷ []) (first_whole text) refl)).closed h ws) stands in
      let first = stand_in_order g z.sites x.pieces y.pieces p branch.0 (r.whole.closed h ws) branch.1 in
      let p0 = first.3 in
      let p1 = first.4 in
      let p2 = branch.4 in
      let many = z.rate.enough in
      let room = ready.room in
      let fuel = ready.fuel in
      bind_follows g z.rate (pos first.0 - pos p.at) 1 z.rate.reach (pos q - pos first.0) 1 z.rate.reach (pos q - pos p.at) 1 z.rate.reach (tally_with l s) m
      (IsLocation st first.0 kind.Byte k s.now m) tests NoExit (to s) (λ e u. relation_told n (compared_text e text u))
      (reference_follows z d k need kind.Byte a to r h ws p first.0 s l m first.1 front ready)
      (λ e u m1 is fewer.
      comparison_tested g z.rate first.0 branch.0 q (z.sites.marks fail) st u m1 s.now m k n (compared_text e text u) p1
      (branch_leads g z.sites (on branch.0) (i.OnCode (failing_codes n) false 0) fail q branch.2)
      (subst (λ (e : Located). Follows g z.rate (pos branch.0 - pos first.0) 1 z.rate.reach (tally u) m1 (Told st branch.0 k s.now m) NoExit (compared_text e text u))
      (sym is.is)
      (text_told z d k need text small enough (h + x.marks) x.wants first.0 branch.0 e.address u m1 s.now m first.2 front is.stands room (omega (arith, fuel, fewer)))))
      (omega (arith, p0, p1, p2)) (omega arith) (omega (arith, many)) (omega (arith, many));
}

pub texts_compared : TextComparisonsSimulate
texts_compared z d k need op aim a to text small r enough =
    conditions z d k need aim (λ fail. a ⨟ made.text_compared text ⨟ made.related op fail) (λ s. then_go (to s) (λ p u. relation_told op (compared_text p text u)))
    (omega (arith, enough))
    (λ fail. whole_behind (a ⨟ made.text_compared text) (BCC (failing_codes op) fail ∷ [])
    (whole_then a (made.text_compared text) r.whole (whole_behind (spelled_first text) (CMPB 1 ∷ []) (first_whole text) refl)) refl)
    (λ s. answers_go (to s) _ (λ p u. told_answers op (compared_text p text u))) (λ fail. text_tested z d k need op fail a to text small r enough)
